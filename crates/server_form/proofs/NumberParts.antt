-- What the form asks of one number, in the order in which it is read: without pieces nothing else is there; with pieces, the shards that they
-- touch decide the rest. Assumes nothing.
use Prim.Native.Nat.{ℕ}
use mathlib.Core.Path.{◌≡◌, refl, ap, ◌∙◌}
use mathlib.Core.Logic.{⊎_elim}
use mathlib.Core.Bool.{Bool, true, false, not, cond, ◌&&◌, ◌||◌}
use lib.Dec.{eqb}
use Rattle.masks.specs.Bits.{has, within}
use Rattle.masks.proofs.Bools.{true_or_false}
use Rattle.rules.specs.Flags.{there, implies}
use Rattle.rules.specs.Ballots.{bad_ballot}
use Rattle.rules.specs.Pieces.{any_pieces, pieces_kept, pieces_on, shards_of}
use Rattle.rules.specs.Sets.{bad_word, bad_set, members}
use Rattle.server.specs.declared.Record.{Record}
use Rattle.server.specs.Form.{pieces_formed, ballots_formed, sets_formed, sets_have_pieces, record_formed, results_formed}
use Rattle.server_form.specs.OnePass.{logged_formed, number_formed, bare_formed, sets_kept, ran_formed, held_formed}
use Rattle.rules.proofs.TouchedWord.{kept_word, kept-touched}

-- ---- without pieces

-- a promise, an accepted ballot and its set, an arrival and a committed set, the log and the results
bare : (kept p acc q arr cmt x y z logged inside ran each : Bool) → (implies false kept && (p && implies acc q) && implies (arr || acc || cmt) false && (implies arr x && implies acc y && implies cmt z) && implies logged (cmt && inside) && cond ran (logged && each) (not logged)) ≡ (p && not arr && not acc && not cmt && not logged && not ran)
bare kept false acc q arr cmt x y z logged inside ran each = refl
bare kept true true false true cmt x y z logged inside ran each = refl
bare kept true true false false cmt x y z logged inside ran each = refl
bare kept true true true true cmt x y z logged inside ran each = refl
bare kept true true true false cmt x y z logged inside ran each = refl
bare kept true false q true cmt x y z logged inside ran each = refl
bare kept true false q false true x y z logged inside ran each = refl
bare kept true false q false false x y z true inside ran each = refl
bare kept true false q false false x y z false inside true each = refl
bare kept true false q false false x y z false inside false each = refl

-- ---- with pieces

implies_true : (a : Bool) → implies a true ≡ true
implies_true true = refl
implies_true false = refl

-- the ballot of what is accepted, read with its set
held : (p acc q h i x j : Bool) → (p && implies acc q && implies h true && (i && implies acc x && j)) ≡ (p && (i && implies acc (q && x) && j))
held false acc q h i x j = refl
held true false q h i x j = rw implies_true
held true true true h i x j = rw implies_true
held true true false h true x j = refl
held true true false h false x j = refl

-- the results, by whether the number is in the log
results : (r logged l ran each : Bool) → (r && implies logged l && cond ran (logged && each) (not logged)) ≡ (r && cond logged (l && ran && each) (not ran))
results false logged l ran each = refl
results true true true true each = refl
results true true true false each = refl
results true true false true each = refl
results true true false false each = refl
results true false l true each = refl
results true false l false each = refl

module _ (k w t : ℕ) (v : Record) where
  pub without-pieces : any_pieces v.pieces ≡ false → number_formed k w t v ≡ bare_formed (has w t) v
  unfolding number_formed record_formed pieces_formed ballots_formed sets_formed sets_have_pieces results_formed logged_formed bare_formed
  without-pieces e =
      rw e
      (bare
      (pieces_kept v.pieces)
      (not (bad_ballot v.promise))
      (there v.accepted.some)
      (not (bad_ballot v.accepted.ballot))
      (there v.arrival.some)
      (there v.committed.some)
      (not (bad_word t (shards_of v.pieces) k v.arrival.word))
      (not (bad_set t (shards_of v.pieces) v.accepted.set))
      (not (bad_set t (shards_of v.pieces) v.committed.set))
      (has w t)
      (within (members v.committed.set) w)
      (there v.ran)
      (eqb v.values.count (pieces_on v.pieces k)))

  kept : any_pieces v.pieces ≡ true → pieces_kept v.pieces ≡ true → number_formed k w t v ≡ held_formed k w t v
  unfolding number_formed record_formed pieces_formed ballots_formed sets_formed sets_have_pieces results_formed held_formed sets_kept ran_formed
  kept e f =
      rw (e, kept-touched, kept_word _ f, f)
      (results
      (not (bad_ballot v.promise) && implies (there v.accepted.some) (not (bad_ballot v.accepted.ballot)) && implies (there v.arrival.some || there v.accepted.some || there v.committed.some) true && (implies (there v.arrival.some) (not (bad_word t (shards_of v.pieces) k v.arrival.word)) && implies (there v.accepted.some) (not (bad_set t (shards_of v.pieces) v.accepted.set)) && implies (there v.committed.some) (not (bad_set t (shards_of v.pieces) v.committed.set))))
      (has w t)
      (logged_formed w v)
      (there v.ran)
      (eqb v.values.count (pieces_on v.pieces k))
      ∙ ap (λ (b : Bool). b && cond (has w t) (logged_formed w v && there v.ran && eqb v.values.count (pieces_on v.pieces k)) (not (there v.ran)))
      (held
      (not (bad_ballot v.promise))
      (there v.accepted.some)
      (not (bad_ballot v.accepted.ballot))
      (there v.arrival.some || there v.accepted.some || there v.committed.some)
      (implies (there v.arrival.some) (not (bad_word t (shards_of v.pieces) k v.arrival.word)))
      (not (bad_set t (shards_of v.pieces) v.accepted.set))
      (implies (there v.committed.some) (not (bad_set t (shards_of v.pieces) v.committed.set)))))

  broken : any_pieces v.pieces ≡ true → pieces_kept v.pieces ≡ false → number_formed k w t v ≡ held_formed k w t v
  unfolding number_formed record_formed pieces_formed held_formed
  broken e f = rw (e, kept-touched, f)

  pub with-pieces : any_pieces v.pieces ≡ true → number_formed k w t v ≡ held_formed k w t v
  with-pieces e = ⊎_elim (kept e) (broken e) (true_or_false (pieces_kept v.pieces))
