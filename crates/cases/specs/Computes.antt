-- Every definition that a case computes with, under one name: to unfold `computes` is to unfold them all.
-- A new definition is added here; where one is missing, the note on the refused `refl` names it.
use Rattle.masks.specs.Bits.{bit, insert, union, both, without, within}
use Rattle.masks.specs.Folds.{all_below, any_below, count_below, size, mask_of, union_of, least, tab, iter, over}
use Rattle.rules.specs.Ballots.{may_use, next_above, no_next, next_refusal, next_ballot}
use Rattle.rules.specs.Pieces.{is_zero, entry_kept, pieces_kept, on_shard, touches, shards_of, pieces_on, same_int, same_piece, same_entry, same_pieces}
use Rattle.rules.specs.Conflict.{clash_with, clash_any, conflict}
use Rattle.rules.specs.Sets.{word, members, union_set, same_set, bad_word, bad_word_at, bad_set}
use Rattle.xdr.specs.Word.{be, value as xdr-value}
use Rattle.xdr.specs.Read.{got32, got64, judged}
use Rattle.xdr.specs.Form.{flag, int}
use Rattle.wire.specs.Codes.{shape_of}
use Rattle.wire.specs.Faults.{over_count, bad_numbers, bad_pieces, bad_sets}
use Rattle.wire.specs.Parts.{piece as wire-piece, pieces as wire-pieces, set4, value as wire-value, values as wire-values, maybe_word, maybe_vote}
use Rattle.wire.specs.Bytes.{body, code, bytes, ended, decoded_as, decode, unwritable, encode_refusal}
use Rattle.graph.specs.Walk.{grown, pass, passes, rows_of, before, missing, closed, awaited, ready, first_ready, joins, group, group_at, next_group}
use Rattle.counters.specs.Effects.{leaves, added, effect, run_piece, run_entry, execute}
use Rattle.server.specs.Held.{committed_word, ran_word}
use Rattle.server.specs.Form.{pieces_formed, ballots_formed, sets_formed, sets_have_pieces, record_formed, record_formed_at, noted, logged, entry_formed, log_formed, results_formed, results_formed_at, formed}
use Rattle.server.specs.Refusals.{not_taken, untouched, other_pieces, other_set, refusal}
use Rattle.server.specs.Changes.{asked, arrive, pre_accepted, accepted, prepared as server-prepared, committed, inquired, fetched, change}
use Rattle.server.specs.Serve.{came_earlier, arrival_set, arrival_for, taken, then_runs, stepped, serve}
use Rattle.server.specs.Run.{deps_at, deps_of, next_run, run_one, run_group, turn, run, turns, run_all}
use Rattle.server.specs.Host.{fresh_server, fresh, committed_in, wanted_in, wanted}
use Rattle.drive.specs.Decide.{answered, all_answered, two_in, two_in_each, decided, word_there, agree, equal_in, equal_words, word_in, union_in, better, highest, decide0, decide1, decide2, decide}
use Rattle.drive.specs.Form.{numbers_formed, ballots_formed as drive-ballots_formed, word_formed, accepted_formed, answer_formed, too_few, set_formed, formed as drive-formed}
use Rattle.drive.specs.Hear.{not_taken as drive-not_taken, other_phase, misplaced, other_pieces as drive-other_pieces, refusal as drive-refusal, answer_of, settle, count, heard, hear}
use Rattle.drive.specs.Host.{unless, start_refusal, start, recover_refusal, recover, again_refusal, again, move_on_refusal, move_on}
use Rattle.drive.specs.Due.{due_message, servers_of, due}

unfoldable pub computes : Unit {0}
unfolding bit insert union both without within all_below any_below count_below mask_of union_of least tab iter over may_use next_above no_next next_refusal next_ballot is_zero entry_kept pieces_kept on_shard touches shards_of pieces_on same_int same_piece same_entry same_pieces clash_with clash_any conflict word members union_set same_set bad_word bad_word_at bad_set be xdr-value got32 got64 judged flag int shape_of over_count bad_numbers bad_pieces bad_sets wire-piece wire-pieces set4 wire-value wire-values maybe_word maybe_vote body code bytes ended decoded_as decode unwritable encode_refusal grown pass passes rows_of before missing closed awaited ready first_ready joins group group_at next_group leaves added effect run_piece run_entry execute committed_word ran_word pieces_formed ballots_formed sets_formed sets_have_pieces record_formed record_formed_at noted logged entry_formed log_formed results_formed results_formed_at formed not_taken untouched other_pieces other_set refusal asked arrive pre_accepted accepted server-prepared committed inquired fetched change came_earlier arrival_set arrival_for taken then_runs stepped serve deps_at deps_of next_run run_one run_group size turn run turns run_all fresh_server fresh committed_in wanted_in wanted answered all_answered two_in two_in_each decided word_there agree equal_in equal_words word_in union_in better highest decide0 decide1 decide2 decide numbers_formed drive-ballots_formed word_formed accepted_formed answer_formed too_few set_formed drive-formed drive-not_taken other_phase misplaced drive-other_pieces drive-refusal answer_of settle count heard hear unless start_refusal start recover_refusal recover again_refusal again move_on_refusal move_on due_message servers_of due
computes = tt
