-- Document 01, "Bench cases", with the reads of request 1 in H, and D, E and F as request 2 of document 02 has them, where a Commit runs what is ready: the cases A to L, computed with the definitions that the contracts cite, under one theorem. A line of a case is one thing fed and what comes out.
use Rattle.std.specs.Prelude.{◌≡◌, refl, [], ◌∷◌, ◌++◌, pos, negsuc, take}
use Rattle.rules.specs.Ballots.{next_ballot}
use Rattle.rules.specs.Pieces.{read}
use Rattle.rules.specs.Sets.{no_set}
use Rattle.rules.specs.Maybe.{some_word, no_vote, some_vote}
use Rattle.wire.specs.Messages.{pre_accept, accept, commit, prepare, inquire, pre_accept_ok, accept_ok, prepare_ok, commit_ok, behind}
use Rattle.wire.specs.Bytes.{bytes, decode}
use Rattle.counters.specs.Effects.{counter_at}
use Rattle.server.specs.Run.{run}
use Rattle.server.specs.Host.{wanted}
use Rattle.cases.specs.Inputs.{piece, one, only, after, answer, refuses, put5, add2, in_a, in_b, in_c, commit8, commit1, in_d, in_e, first1, then2, in_f, adds, read_after, leaving, heard_all, in_l}
use Rattle.cases.specs.Computes.{computes}
use Rattle.cases.specs.CaseE.{leaves-E}

-- a first arrival finds nobody; a second number finds the first; the first again has its word still
abbrev pub A : Type 0
A =
    (answer [] (pre_accept 8 0 put5) ≡ pre_accept_ok 8 0 0 0)
    × (answer (pre_accept 8 0 put5 ∷ []) (pre_accept 1 0 add2) ≡ pre_accept_ok 1 0 0 256)
    × (answer (pre_accept 8 0 put5 ∷ pre_accept 1 0 add2 ∷ []) (pre_accept 8 0 put5) ≡ pre_accept_ok 8 0 0 0)

-- a recovery at 8 hears word 0 and nothing accepted; ballot 0 is then behind the promise 8
abbrev pub B : Type 0
B =
    (answer in_a (prepare 8 8 put5) ≡ prepare_ok 8 0 8 (some_word 0) no_vote)
    × (answer (in_a ++ (prepare 8 8 put5 ∷ [])) (pre_accept 8 0 put5) ≡ behind 8 0 0 8)

-- accepted at 8; a repeated PreAccept answers word 0, and ballot 8 is accepted still
abbrev pub C : Type 0
C =
    (answer in_b (accept 8 8 put5 no_set) ≡ accept_ok 8 0 8)
    × (answer in_c (pre_accept 8 8 put5) ≡ pre_accept_ok 8 0 8 0)
    × (answer (in_c ++ (pre_accept 8 8 put5 ∷ [])) (prepare 8 8 put5) ≡ prepare_ok 8 0 8 (some_word 0) (some_vote 8 no_set))

-- two numbers, each before the other: the first Commit runs 0, the second runs 2; log 1, 8, counter 3 is 5, and a run then gives 0
abbrev pub D : Type 0
D =
    (answer [] commit8 ≡ commit_ok 8 0 0)
    × (answer (commit8 ∷ []) commit1 ≡ commit_ok 1 0 2)
    × (in_d.log.count ≡ 2)
    × (take 2 in_d.log.list ≡ 1 ∷ 8 ∷ [])
    × ((counter_at in_d.counters 3).value ≡ pos 5)
    × ((run in_d).many ≡ 0)

-- the first of them alone: its Commit runs 0, a run then gives 0 and changes nothing, and the other is wanted
abbrev pub E : Type 0
E =
    (answer [] commit8 ≡ commit_ok 8 0 0)
    × (in_e.log.count ≡ 0)
    × ((run in_e).many ≡ 0)
    × ((run in_e).server ≡ in_e)
    × ((wanted in_e).set ≡ only 1 2)

-- one after the other: each Commit runs 1, and a run then gives 0
abbrev pub F : Type 0
F =
    (answer [] first1 ≡ commit_ok 1 0 1)
    × (answer (first1 ∷ []) then2 ≡ commit_ok 2 0 1)
    × ((run in_f).many ≡ 0)

-- next ballots
abbrev pub G : Type 0
G =
    (next_ballot 0 0 ≡ record { refusal = 0; ballot = 8 })
    × (next_ballot 3 8 ≡ record { refusal = 0; ballot = 11 })
    × (next_ballot 2 65529 ≡ record { refusal = 0; ballot = 65530 })
    × (next_ballot 2 65530 ≡ record { refusal = 9; ballot = 0 })

-- adds at both ends of the range, and a read after each one that is kept
abbrev pub H : Type 0
H =
    (adds (pos 1) (pos 2147483646) ≡ leaving (pos 2147483647) 0 0)
    × (adds (pos 1) (pos 2147483647) ≡ leaving (pos 2147483647) 1 1)
    × (read_after (adds (pos 1) (pos 2147483647)) ≡ leaving (pos 2147483647) 1 1)
    × (adds (negsuc 0) (negsuc 2147483647) ≡ leaving (negsuc 2147483647) 1 1)
    × (read_after (adds (negsuc 0) (negsuc 2147483647)) ≡ leaving (negsuc 2147483647) 1 1)

-- two reads of one key: the second word is 0
abbrev pub I : Type 0
I = answer (pre_accept 8 0 (one (piece 0 3 read (pos 0))) ∷ []) (pre_accept 1 0 (one (piece 0 3 read (pos 0)))) ≡ pre_accept_ok 1 0 0 0

-- T63 with bit 63 in its set is 3; T64 is 1
abbrev pub J : Type 0
J =
    (refuses [] (commit 63 put5 (only 0 9223372036854775808)) ≡ 3)
    × (refuses [] (commit 64 put5 (only 0 0)) ≡ 1)

-- Inquire 9 in bytes, and back; seven of these bytes; one byte more; first word 6
abbrev pub K : Type 0
K =
    (bytes.put (inquire 9) ≡ 0 ∷ 0 ∷ 0 ∷ 4 ∷ 0 ∷ 0 ∷ 0 ∷ 9 ∷ [])
    × (decode (0 ∷ 0 ∷ 0 ∷ 4 ∷ 0 ∷ 0 ∷ 0 ∷ 9 ∷ []) ≡ record { refusal = 0; message = inquire 9 })
    × ((decode (0 ∷ 0 ∷ 0 ∷ 4 ∷ 0 ∷ 0 ∷ 0 ∷ [])).refusal ≡ 10)
    × ((decode (0 ∷ 0 ∷ 0 ∷ 4 ∷ 0 ∷ 0 ∷ 0 ∷ 9 ∷ 0 ∷ [])).refusal ≡ 11)
    × ((decode (0 ∷ 0 ∷ 0 ∷ 6 ∷ 0 ∷ 0 ∷ 0 ∷ 9 ∷ [])).refusal ≡ 12)

-- Start T8, and its three servers answer 0, 0, 2: phase 2 with word 0 = 2; 0, 0, 0: phase 3
abbrev pub L : Type 0
L =
    ((in_l 0 0 2).phase ≡ 2)
    × ((in_l 0 0 2).chosen.set ≡ only 0 2)
    × ((in_l 0 0 0).phase ≡ 3)
    × ((in_l 0 0 0).chosen.set ≡ no_set)

pub bench : A × B × C × D × E × F × G × H × I × J × K × L
unfolding computes after heard_all
bench =
    ((refl, refl, refl), (refl, refl), (refl, refl, refl), (refl, refl, refl, refl, refl, refl), (refl, refl, refl, leaves-E, refl), (refl, refl, refl), (refl, refl, refl, refl), (refl, refl, refl, refl, refl), refl, (refl, refl), (refl, refl, refl, refl, refl), (refl, refl, refl, refl))
