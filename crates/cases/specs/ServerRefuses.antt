-- Document 01, "Refusal numbers", at a server, by examples: each number, and the order of the checks; and request 2 of document 02, what a Commit runs.
use Rattle.std.specs.Prelude.{◌≡◌, refl, [], ◌∷◌, pos, replicate, set}
use Rattle.rules.specs.declared.Pieces.{Pieces}
use Rattle.rules.specs.Pieces.{no_piece, no_pieces, read, put, add}
use Rattle.rules.specs.Sets.{no_set}
use Rattle.rules.specs.Maybe.{no_word, no_vote, some_set}
use Rattle.rules.specs.Values.{no_value, no_values}
use Rattle.wire.specs.Messages.{blank, pre_accept, accept, commit, prepare, inquire, fetch, accept_ok, commit_ok, done, not_yet, results}
use Rattle.server.specs.Serve.{serve}
use Rattle.counters.specs.Effects.{no_counters}
use Rattle.server.specs.declared.Server.{Server}
use Rattle.server.specs.Held.{fresh_record}
use Rattle.server.specs.Run.{run_all}
use Rattle.cases.specs.Inputs.{piece, one, two, only, after, server0, answer, refuses, put5, add2, commit8, in_d, in_f, heard_all}
use Rattle.cases.specs.Computes.{computes}

abbrev away : Pieces
away = one (piece 1 0 put (pos 5))

abbrev away2 : Pieces
away2 = one (piece 1 0 add (pos 2))

pub server-refuses :
    (refuses [] (prepare 8 0 put5) ≡ 1)
    × (refuses [] (pre_accept 8 7 put5) ≡ 1)
    × (refuses [] (pre_accept 8 0 (one (piece 0 3 read (pos 5)))) ≡ 2)
    × (refuses [] (pre_accept 8 0 (two (piece 0 3 put (pos 5)) (piece 0 3 put (pos 5)))) ≡ 2)
    × (refuses [] (accept 8 8 put5 (only 1 2)) ≡ 3)
    × (refuses [] (pre_accept 8 0 away) ≡ 4)
    × (refuses (pre_accept 8 0 put5 ∷ []) (prepare 8 8 add2) ≡ 5)
    × (refuses (commit 8 put5 no_set ∷ []) (done 8 put5 (only 0 2)) ≡ 6)
    × (refuses [] (accept_ok 8 0 0) ≡ 12)
    × (refuses [] (pre_accept 64 3 (record { list = replicate 8 no_piece; count = 9 })) ≡ 12)
    -- 1 before 3, 2 before 3, 3 before 4, 4 before 5, 5 before 6
    × (refuses [] (commit 64 put5 (only 1 2)) ≡ 1)
    × (refuses [] (commit 8 no_pieces (only 1 2)) ≡ 2)
    × (refuses [] (accept 8 8 away (only 0 2)) ≡ 3)
    × (refuses (commit 8 away no_set ∷ []) (pre_accept 8 0 away2) ≡ 4)
    × (refuses (commit 8 put5 no_set ∷ []) (commit 8 add2 (only 0 2)) ≡ 5)
    -- Done before Behind; a Commit may come to a server that T doesn't touch; a repeat changes nothing
    × (answer (prepare 8 16 put5 ∷ commit 8 put5 no_set ∷ []) (pre_accept 8 0 put5) ≡ done 8 put5 no_set)
    × (answer [] (commit 8 away no_set) ≡ commit_ok 8 0 1)
    × ((serve (after server0 (commit 8 put5 no_set ∷ [])) (done 8 put5 no_set)).server ≡ after server0 (commit 8 put5 no_set ∷ []))
    -- Inquire and Fetch
    × (answer [] (inquire 8) ≡ not_yet 8 0)
    × (answer (commit 8 put5 no_set ∷ []) (inquire 8) ≡ done 8 put5 no_set)
    × (answer (commit8 ∷ []) (fetch 8) ≡ not_yet 8 0)
    × ((serve in_d (fetch 8)).reply ≡ results 8 0 (record { list = set (replicate 8 no_value) 0 (record { value = pos 5; kept = 0 }); count = 1 }))
    × ((serve in_f (fetch 2)).reply ≡ results 2 0 (record { list = set (replicate 8 no_value) 0 (record { value = pos 4; kept = 0 }); count = 1 }))
unfolding computes after heard_all
server-refuses = (refl, refl, refl, refl, refl, refl, refl, refl, refl, refl, refl, refl, refl, refl, refl, refl, refl, refl, refl, refl, refl, refl, refl)

-- a server that is lent with T8 committed and not run, though it waits for nobody
abbrev waiting : Server
waiting = record {
  id = 0;
  records = set (replicate 64 fresh_record) 8 (record { pieces = put5; promise = 0; arrival = no_word; accepted = no_vote; committed = some_set no_set; ran = 0; values = no_values });
  counters = no_counters;
  log = record { list = replicate 64 0; count = 0 };
}

pub commit-runs :
    -- a repeat runs it, as a Done does, a Commit of another number and runs until 0
    ((serve waiting (commit 8 put5 no_set)).reply ≡ commit_ok 8 0 1)
    × ((serve waiting (done 8 put5 no_set)).reply ≡ commit_ok 8 0 1)
    × ((serve waiting (commit 2 add2 (only 0 256))).reply ≡ commit_ok 2 0 2)
    × ((serve waiting (commit 8 put5 no_set)).server ≡ (run_all waiting).server)
    × ((run_all waiting).many ≡ 1)
    -- a refused one runs nothing, nor does any other message
    × (serve waiting (commit 8 put5 (only 0 2)) ≡ record { refusal = 6; reply = blank; server = waiting })
    × ((serve waiting (inquire 8)).server ≡ waiting)
    -- after a Commit nothing is left to run; a repeat then runs 0
    × ((run_all in_d).many ≡ 0)
    × ((run_all in_f).many ≡ 0)
    × ((serve in_d commit8).reply ≡ commit_ok 8 0 0)
unfolding computes after heard_all
commit-runs = (refl, refl, refl, refl, refl, refl, refl, refl, refl, refl)
