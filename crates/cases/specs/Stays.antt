-- Document 01, "What a server does", by examples: what never changes again, and what each message answers.
use Rattle.std.specs.Prelude.{◌≡◌, refl, [], ◌∷◌}
use Rattle.rules.specs.Sets.{no_set}
use Rattle.rules.specs.Maybe.{no_word, some_word, some_vote}
use Rattle.wire.specs.Messages.{pre_accept, accept, commit, prepare, pre_accept_ok, prepare_ok}
use Rattle.server.specs.Host.{wanted}
use Rattle.cases.specs.Inputs.{after, answer, put5, add2, in_d, heard_all}
use Rattle.cases.specs.Computes.{computes}

pub stays :
    -- an arrival set never changes again
    (answer (pre_accept 8 0 put5 ∷ pre_accept 1 0 add2 ∷ pre_accept 2 0 add2 ∷ []) (pre_accept 1 0 add2) ≡ pre_accept_ok 1 0 0 256)
    -- what is accepted stays, also where the PreAccept is the first; an Accept is no arrival
    × (answer (accept 8 8 put5 no_set ∷ pre_accept 8 8 put5 ∷ []) (prepare 8 8 put5) ≡ prepare_ok 8 0 8 (some_word 0) (some_vote 8 no_set))
    × (answer (accept 8 8 put5 no_set ∷ []) (prepare 8 8 put5) ≡ prepare_ok 8 0 8 no_word (some_vote 8 no_set))
    × (answer (commit 8 put5 no_set ∷ []) (pre_accept 1 0 add2) ≡ pre_accept_ok 1 0 0 0)
    -- wanted has no committed number
    × ((wanted in_d).set ≡ no_set)
unfolding computes after heard_all
stays = (refl, refl, refl, refl, refl)
