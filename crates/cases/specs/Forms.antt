-- Document 01, "State form", by examples: what is in form, and states that break one part of it, numbers of 4 billion among them.
use Rattle.std.specs.Prelude.{ℕ, ◌≡◌, refl, true, List, [], ◌∷◌, replicate, set}
use Rattle.masks.specs.Folds.{all_below}
use Rattle.rules.specs.declared.Set.{Set}
use Rattle.rules.specs.declared.MaybeSet.{MaybeSet}
use Rattle.rules.specs.Pieces.{no_piece}
use Rattle.rules.specs.Sets.{no_set}
use Rattle.rules.specs.Maybe.{no_word, some_word, no_vote, some_vote, not_set, some_set}
use Rattle.rules.specs.Values.{no_value, no_values}
use Rattle.wire.specs.Messages.{blank, inquire, accept_ok, not_yet}
use Rattle.counters.specs.Effects.{no_counters}
use Rattle.server.specs.declared.Record.{Record}
use Rattle.server.specs.declared.Server.{Server}
use Rattle.server.specs.Held.{fresh_record}
use Rattle.server.specs.Form.{formed}
use Rattle.server.specs.Serve.{serve}
use Rattle.server.specs.Run.{run}
use Rattle.server.specs.Host.{fresh_server}
use Rattle.drive.specs.declared.Answer.{Answer}
use Rattle.drive.specs.declared.Drive.{Drive}
use Rattle.drive.specs.Held.{no_answer}
use Rattle.drive.specs.Hear.{hear, says}
use Rattle.drive.specs.Host.{again, move_on}
use Rattle.drive.specs.Due.{due}
use Rattle.cases.specs.Inputs.{only, after, put5, no_drive, heard_all}
use Rattle.cases.specs.Computes.{computes}

-- every fresh server is in form
pub fresh-formed : all_below (λ id. formed (fresh_server id)) 12 ≡ true
unfolding computes after heard_all
fresh-formed = refl

-- servers that break it, each in one place
abbrev spoilt : (id : ℕ) → Record → (entry count : ℕ) → Server
spoilt id v entry count = record {
  id = id;
  records = set (replicate 64 fresh_record) 9 v;
  counters = no_counters;
  log = record { list = set (replicate 64 0) 0 entry; count = count };
}

abbrev odd : (count promise arrived ran : ℕ) → Record
odd n p a r = record {
  pieces = record { list = replicate 8 no_piece; count = n };
  promise = p;
  arrival = record { some = a; word = 0 };
  accepted = no_vote;
  committed = not_set;
  ran = r;
  values = no_values;
}

abbrev asks9 : Server → ℕ
asks9 s = (serve s (inquire 9)).refusal

pub garbage :
    (asks9 (spoilt 0 fresh_record 0 0) ≡ 0)
    × (asks9 (spoilt 4294967295 fresh_record 0 0) ≡ 13)
    × (asks9 (spoilt 0 fresh_record 0 4294967295) ≡ 13)
    × (asks9 (spoilt 0 fresh_record 4294967295 1) ≡ 13)
    × (asks9 (spoilt 0 fresh_record 9 1) ≡ 13)
    × (asks9 (spoilt 0 (odd 4294967295 0 0 0) 0 0) ≡ 13)
    × (asks9 (spoilt 0 (odd 0 3 0 0) 0 0) ≡ 13)
    × (asks9 (spoilt 0 (odd 0 0 1 0) 0 0) ≡ 13)
    × (asks9 (spoilt 0 (odd 0 0 0 1) 0 0) ≡ 13)
    -- 13 before 12, and nothing is changed
    × (serve (spoilt 12 fresh_record 0 0) (not_yet 9 0) ≡ record { refusal = 13; reply = blank; server = spoilt 12 fresh_record 0 0 })
    × (run (spoilt 12 fresh_record 0 0) ≡ record { refusal = 13; many = 0; server = spoilt 12 fresh_record 0 0 })
    × ((hear no_drive (accept_ok 8 0 0)).refusal ≡ 13)
    × ((again no_drive).refusal ≡ 13)
    × ((move_on no_drive).refusal ≡ 13)
    × ((due no_drive).refusal ≡ 13)
unfolding computes after heard_all
garbage = (refl, refl, refl, refl, refl, refl, refl, refl, refl, refl, refl, refl, refl, refl, refl)

-- a server that committed and ran T8 after the set v, with another log
abbrev ran8 : Set → (list : List ℕ) (count : ℕ) → Server
ran8 v l n = record {
  id = 0;
  records = set (replicate 64 fresh_record) 8 (record { pieces = put5; promise = 0; arrival = no_word; accepted = no_vote; committed = some_set v; ran = 1; values = record { list = replicate 8 no_value; count = 1 } });
  counters = no_counters;
  log = record { list = l; count = n };
}

pub logs :
    (asks9 (ran8 no_set (8 ∷ []) 1) ≡ 0)
    -- a repeat; results without a log; everything in its set in the log too
    × (asks9 (ran8 no_set (8 ∷ 8 ∷ []) 2) ≡ 13)
    × (asks9 (ran8 no_set [] 0) ≡ 13)
    × (asks9 (ran8 (only 0 2) (8 ∷ []) 1) ≡ 13)
    -- a set that holds its own number
    × (asks9 (ran8 (only 0 256) (8 ∷ []) 1) ≡ 13)
unfolding computes after heard_all
logs = (refl, refl, refl, refl, refl)

-- ---- drives

-- drives that break the form, each in one place
abbrev odd-drive : (t coordinator ballot phase : ℕ) → List Answer → MaybeSet → (seen : ℕ) → Drive
odd-drive t c b p as' v n = record { t = t; coordinator = c; ballot = b; phase = p; pieces = put5; answers = as'; chosen = v; seen = n }

abbrev yes' : Answer
yes' = says (some_word 0) no_vote

abbrev dues : Drive → ℕ
dues d = (due d).refusal

pub garbage_drives :
    (dues (odd-drive 8 0 0 1 (yes' ∷ yes' ∷ []) not_set 0) ≡ 0)
    × (dues (odd-drive 64 0 0 1 [] not_set 0) ≡ 13)
    × (dues (odd-drive 8 0 0 4 [] not_set 0) ≡ 13)
    × (dues (odd-drive 8 1 0 1 [] not_set 0) ≡ 13)
    × (dues (odd-drive 8 0 0 0 [] not_set 0) ≡ 13)
    × (dues (odd-drive 8 1 8 0 [] not_set 0) ≡ 13)
    × (dues (odd-drive 8 0 0 1 [] not_set 7) ≡ 13)
    -- enough to decide; from an untouched server; in phase 3
    × (dues (odd-drive 8 0 0 1 (yes' ∷ yes' ∷ yes' ∷ []) not_set 0) ≡ 13)
    × (dues (odd-drive 8 0 0 2 (yes' ∷ yes' ∷ []) (some_set no_set) 0) ≡ 13)
    × (dues (odd-drive 8 0 0 1 (no_answer ∷ no_answer ∷ no_answer ∷ yes' ∷ []) not_set 0) ≡ 13)
    × (dues (odd-drive 8 0 0 3 (yes' ∷ []) (some_set no_set) 0) ≡ 13)
    -- a set exactly in phases 2 and 3, that keeps rule 3
    × (dues (odd-drive 8 0 0 1 [] (some_set no_set) 0) ≡ 13)
    × (dues (odd-drive 8 0 0 2 [] not_set 0) ≡ 13)
    × (dues (odd-drive 8 0 0 3 [] (some_set (only 0 256)) 0) ≡ 13)
    × (dues (odd-drive 8 0 0 1 (says (some_word 256) no_vote ∷ []) not_set 0) ≡ 13)
    × (dues (odd-drive 8 0 8 0 (says no_word (some_vote 3 no_set) ∷ []) not_set 0) ≡ 13)
unfolding computes after heard_all
garbage_drives = (refl, refl, refl, refl, refl, refl, refl, refl, refl, refl, refl, refl, refl, refl, refl, refl)
