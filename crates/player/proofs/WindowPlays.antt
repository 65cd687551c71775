-- What is played depends on the window's bytes alone: a destination, and what decoding can look at. Assumes nothing.
use Rattle.std.proofs.Common.{◌≡◌, ℕ, zero, suc, ◌+◌, ◌≤◌, Bool, ltb, leb, List, [], ◌∷◌, length, get_or, take, drop, set, sym, refl, ap, ◌∙◌, suc-add, zero-add, arith, length-take, take_all, take-take, le-ltb}
use native.Mathlib.Decide.{dec_le}
use lib.Seq.{take-nil}
use Rattle.rules.specs.Choice.{◌if◌else◌}
use Rattle.rules.specs.Flags.{there}
use Rattle.rules.specs.Cluster.{SERVERS, COORDINATORS}
use Rattle.xdr.specs.Word.{value}
use Rattle.wire.specs.declared.Decoded.{Decoded}
use Rattle.wire.specs.Bytes.{decode}
use Rattle.wire.specs.Encoding.{encode}
use Rattle.wire.proofs.Window.{window}
use Rattle.server.specs.declared.Server.{Server}
use Rattle.server.specs.Host.{fresh_server}
use Rattle.server.specs.Serve.{serve}
use Rattle.door.specs.Exchange.{Exchange, exchanged}
use Rattle.door.specs.Exchange.{take as taken}
use Rattle.capture.specs.declared.Shown.TheVariants.{Dash}
use Rattle.player.specs.Replay.{unread, read, room, answered, Played, played}
use Rattle.player.specs.Walking.{WINDOW}

-- by whether there is a destination, the destination, and what the message's bytes say
abbrev exchange : Server → Decoded → Exchange
exchange s d = exchanged s room d (serve s d.message) (encode (serve s d.message).reply room)

abbrev plays : List Server → Bool → ℕ → Decoded → Played
plays ss short to m =
    let e = exchange (get_or ss to (fresh_server to)) m in
    record { told = unread 10; servers = ss } if short
    else record { told = unread 1; servers = ss } if leb (SERVERS + COORDINATORS) to
    else record { told = unread m.refusal; servers = ss } if there m.refusal
    else record { told = read m.message Dash; servers = ss } if leb SERVERS to
    else record { told = read m.message (answered e); servers = set ss to e.server }

played_by : (ss : List Server) (xs : List ℕ) → played ss xs ≡ plays ss (ltb (length xs) 4) (value (take 4 xs)) (decode (drop 4 xs))
unfolding played taken
played_by ss xs = refl

-- whether there are four bytes shows in the window
short_window : (xs : List ℕ) → ltb (length xs) 4 ≡ ltb (length (take WINDOW xs)) 4
short_window xs = go (dec_le (length xs) WINDOW)
  where
    go : Dec (length xs ≤ WINDOW) → ltb (length xs) 4 ≡ ltb (length (take WINDOW xs)) 4
    go (yes k) = ap (λ (l : List ℕ). ltb (length l) 4) (sym (take_all WINDOW xs k))
    go (no k) = le-ltb (length xs) 4 (omega (arith, k)) ∙ sym (le-ltb (length (take WINDOW xs)) 4 (omega (arith, k, length-take WINDOW xs)))

drop-window : (k n : ℕ) (xs : List ℕ) → drop k (take (k + n) xs) ≡ take n (drop k xs)
drop-window zero n xs = ap (λ (m : ℕ). take m xs) (zero-add n)
drop-window (suc k) n [] = rw (suc-add k n) (sym (take-nil n))
drop-window (suc k) n (x ∷ xs) = rw (suc-add k n) (drop-window k n xs)

pub window-plays : (ss : List Server) (xs : List ℕ) → played ss xs ≡ played ss (take WINDOW xs)
window-plays ss xs =
    played_by ss xs
    ∙ ap (λ (b : Bool). plays ss b (value (take 4 xs)) (decode (drop 4 xs))) (short_window xs)
    ∙ ap (λ (l : List ℕ). plays ss (ltb (length (take WINDOW xs)) 4) (value l) (decode (drop 4 xs))) (sym (take-take 4 WINDOW xs (omega arith)))
    ∙ ap (λ (d : Decoded). plays ss (ltb (length (take WINDOW xs)) 4) (value (take 4 (take WINDOW xs))) d) (window (drop 4 xs) ∙ ap decode (sym (drop-window 4 177 xs)))
    ∙ sym (played_by ss (take WINDOW xs))
