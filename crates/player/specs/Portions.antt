-- The program's calls: each is lent the next bytes of the file, as many as the program has read, and room for as many bytes of lines as it likes. What a call doesn't take, a later call is lent again.
use Rattle.std.specs.Prelude.{◌≡◌, ℕ, false, List, [], ◌∷◌, ◌++◌, take, drop}
use Rattle.server.specs.declared.Server.{Server}
use Rattle.player.specs.declared.Walk.{Walk}
use Rattle.player.specs.Replay.{twelve, Printed}
use Rattle.player.specs.Walking.{begun, going, chewed, ending}

-- where a play stands, the bytes of the file that aren't taken yet, and what was printed so far
pub record Stage : Type 0 where
  pub walk : Walk
  pub servers : List Server
  pub left : List ℕ
  pub text : List ℕ

unfoldable pub at_first : (file : List ℕ) → Stage
at_first file = record { walk = begun; servers = twelve; left = file; text = [] }

pub record Call : Type 0 where
  pub portion : ℕ
  pub room : ℕ

unfoldable pub call : Call → Stage → Stage
call k s =
    let c = chewed s.walk s.servers (take k.portion s.left) k.room in
    record { walk = c.walk; servers = c.servers; left = drop c.taken s.left; text = s.text ++ c.text }

unfoldable pub calls : List Call → Stage → Stage
calls [] s = s
calls (k ∷ ks) s = calls ks (call k s)

-- the file has no more bytes, or nothing more is read
pub data Finished (s : Stage) : Type 0 where
  no_more : s.left ≡ [] → Finished s
  nothing_read : going s.walk ≡ false → Finished s

-- all that is printed, and the exit status
unfoldable pub printed : Stage → Printed
printed s = record { text = s.text ++ (ending s.walk).text; status = (ending s.walk).status }
