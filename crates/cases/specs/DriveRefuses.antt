-- Document 01, "Refusal numbers" and "The drive", at a drive, by examples: each number, the order of the checks, and the decisions.
use Rattle.std.specs.Prelude.{ℕ, ◌≡◌, refl, List, [], ◌∷◌, replicate}
use Rattle.rules.specs.Pieces.{no_piece, no_pieces}
use Rattle.rules.specs.Sets.{no_set}
use Rattle.rules.specs.Maybe.{no_word, some_word, no_vote, some_vote}
use Rattle.wire.specs.declared.Message.{Message}
use Rattle.wire.specs.Messages.{pre_accept, accept, commit, prepare, pre_accept_ok, accept_ok, commit_ok, prepare_ok, done, behind}
use Rattle.drive.specs.declared.Drive.{Drive}
use Rattle.drive.specs.Hear.{hear}
use Rattle.drive.specs.Host.{start, recover, again, move_on}
use Rattle.drive.specs.Due.{due}
use Rattle.cases.specs.Inputs.{only, after, put5, add2, no_drive, heard_all, in_l}
use Rattle.cases.specs.Computes.{computes}

abbrev started : Drive
started = (start no_drive 0 8 put5).drive

-- coordinator 1 at ballot 9, phase 0
abbrev recovering : Drive
recovering = (recover no_drive 1 8 put5 0).drive

abbrev hears : Drive → List Message → Message → ℕ
hears d ms m = (hear (heard_all d ms) m).refusal

-- at ballot 9, phase 1, after nobody had anything
abbrev nothing : ℕ → Message
nothing s = prepare_ok 8 s 9 no_word no_vote

abbrev asking : Drive
asking = heard_all recovering (nothing 0 ∷ nothing 1 ∷ nothing 2 ∷ [])

pub drive-refuses :
    ((start no_drive 1 8 put5).refusal ≡ 1)
    × ((start no_drive 0 8 no_pieces).refusal ≡ 2)
    × ((start no_drive 0 64 (record { list = replicate 8 no_piece; count = 9 })).refusal ≡ 12)
    × (hears started [] (pre_accept_ok 8 12 0 0) ≡ 1)
    × (hears started [] (done 8 no_pieces no_set) ≡ 2)
    × (hears started [] (pre_accept_ok 8 0 0 256) ≡ 3)
    × (hears started [] (done 8 add2 no_set) ≡ 5)
    × ((move_on started).refusal ≡ 7)
    × (hears started [] (pre_accept_ok 9 0 0 0) ≡ 8)
    × (hears started [] (pre_accept_ok 8 3 0 0) ≡ 8)
    × (hears started [] (accept_ok 8 0 0) ≡ 8)
    × (hears started (pre_accept_ok 8 0 0 0 ∷ []) (pre_accept_ok 8 0 0 0) ≡ 8)
    × ((recover no_drive 1 8 put5 65535).refusal ≡ 9)
    × ((recover no_drive 1 8 put5 4294967295).refusal ≡ 9)
    × ((again (recover no_drive 1 8 put5 65528).drive).refusal ≡ 9)
    -- 12 before 8; 2 before 8; 8 before 5; 8 before 3; 5 before 3; any event in phase 3
    × (hears (in_l 0 0 0) [] (commit_ok 8 0 0) ≡ 12)
    × (hears (in_l 0 0 0) [] (commit_ok 8 0 2) ≡ 12)
    × (hears (in_l 0 0 0) [] (done 8 no_pieces no_set) ≡ 2)
    × (hears started [] (done 9 add2 no_set) ≡ 8)
    × (hears started [] (pre_accept_ok 8 0 8 256) ≡ 8)
    × (hears started [] (done 8 add2 (only 0 256)) ≡ 5)
    × (hears (in_l 0 0 0) [] (done 8 put5 no_set) ≡ 8)
    × ((again (in_l 0 0 0)).refusal ≡ 8)
    × ((move_on (in_l 0 0 0)).refusal ≡ 8)
    -- Behind allows a server already counted, and Again goes above every promise seen
    × (hears started (pre_accept_ok 8 0 0 0 ∷ []) (behind 8 0 0 17) ≡ 0)
    × ((again (heard_all started (behind 8 0 0 17 ∷ []))).drive.ballot ≡ 24)
unfolding computes after heard_all
drive-refuses = (refl, refl, refl, refl, refl, refl, refl, refl, refl, refl, refl, refl, refl, refl, refl, refl, refl, refl, refl, refl, refl, refl, refl, refl, refl, refl)

pub decisions :
    -- the messages due
    ((due started).message ≡ pre_accept 8 0 put5)
    × ((due started).servers ≡ 7)
    × ((due recovering).message ≡ prepare 8 9 put5)
    × ((due (in_l 0 0 2)).message ≡ accept 8 0 put5 (only 0 2))
    × ((due (in_l 0 0 0)).message ≡ commit 8 put5 no_set)
    -- no fast path on two equal words of three, nor at a recovery ballot
    × ((move_on (heard_all started (pre_accept_ok 8 0 0 0 ∷ pre_accept_ok 8 1 0 0 ∷ []))).drive.phase ≡ 2)
    × (asking.phase ≡ 1)
    × ((heard_all asking (pre_accept_ok 8 0 9 0 ∷ pre_accept_ok 8 1 9 0 ∷ pre_accept_ok 8 2 9 0 ∷ [])).phase ≡ 2)
    -- the highest accepted ballot, of equals the lowest server's
    × ((heard_all recovering (prepare_ok 8 0 9 (some_word 0) (some_vote 0 (only 0 2)) ∷ prepare_ok 8 1 9 (some_word 0) (some_vote 8 (only 0 4)) ∷ prepare_ok 8 2 9 no_word (some_vote 8 (only 0 16)) ∷ [])).chosen.set ≡ only 0 4)
    -- equal arrival words in phase 0; a missing one
    × ((heard_all recovering (prepare_ok 8 0 9 (some_word 2) no_vote ∷ prepare_ok 8 1 9 (some_word 2) no_vote ∷ prepare_ok 8 2 9 (some_word 2) no_vote ∷ [])).chosen.set ≡ only 0 2)
    × ((heard_all recovering (prepare_ok 8 0 9 (some_word 2) no_vote ∷ prepare_ok 8 1 9 (some_word 2) no_vote ∷ nothing 2 ∷ [])).phase ≡ 1)
    -- phase 2 decides at once with two
    × ((heard_all (in_l 0 0 2) (accept_ok 8 0 0 ∷ [])).phase ≡ 2)
    × ((heard_all (in_l 0 0 2) (accept_ok 8 0 0 ∷ accept_ok 8 2 0 ∷ [])).phase ≡ 3)
    × ((heard_all (in_l 0 0 2) (accept_ok 8 0 0 ∷ accept_ok 8 2 0 ∷ [])).chosen.set ≡ only 0 2)
    -- Done, before phase 3
    × ((heard_all started (done 8 put5 (only 0 4) ∷ [])).phase ≡ 3)
unfolding computes after heard_all
decisions = (refl, refl, refl, refl, refl, refl, refl, refl, refl, refl, refl, refl, refl, refl, refl)
