-- The form of a server is kept by all that happens to it: it begins in form, a message keeps the form, a run keeps it and never logs a number twice.
-- `Memory` is what the types of its fields say. Assumes nothing.
use mathlib.Core.Path.{◌≡◌, refl, sym, ap, ◌∙◌, subst}
use mathlib.Core.Bool.{true, false, cond, false≢true}
use Prim.Native.Nat.{ℕ, ◌^◌, ◌≤◌, ◌<◌}
use native.Mathlib.Omega.{arith}
use native.Mathlib.Decide.{dec_lt}
use lib.Dec.{lit≤}
use lib.Pow.{pow_pos}
use lib.ListN.{get_or, replicate, get_or-replicate, length-set, get_or-eq_default}
use Rattle.masks.specs.Bits.{has}
use Rattle.masks.specs.Folds.{tab, union_of}
use Rattle.masks.proofs.Laws.{union_lt}
use Rattle.masks.proofs.FoldLaws.{length-tab}
use Rattle.rules.specs.Flags.{there}
use Rattle.rules.specs.Cluster.{bad_server, shard_of}
use Rattle.rules.specs.declared.Set.{Set}
use Rattle.rules.specs.Sets.{word, members}
use Rattle.graph.proofs.Rows.{Words}
use Rattle.counters.specs.declared.Counters.{Counters}
use Rattle.counters.specs.Effects.{no_counters}
use Rattle.server.specs.declared.Record.{Record}
use Rattle.server.specs.declared.Server.{Server}
use Rattle.server.specs.declared.Changed.{Changed}
use Rattle.server.specs.Held.{no_record, fresh_record, record_at, put_record}
use Rattle.server.specs.Form.{logged, formed}
use Rattle.server.specs.Run.{deps_at, deps_of, next_run, run, run_all}
use Rattle.server.specs.Host.{fresh_server}
use Rattle.server.proofs.FormParts.{RecordForm, ResultForm, formed_parts, parts_formed}
use Rattle.server.proofs.LogGrows.{log_word}
use Rattle.server.proofs.Did.{Did, tells, is_done, pre_accepts_first, pre_accepts_again, accepts, prepares, commits_first, change-did}
use Rattle.server.proofs.RunLeaves.{set-either}
use Rattle.server.proofs.RunKeepsForm.{Memory, Sound, deps_at_lem, run_sound, run_all_sound, next-unrun}
use Rattle.server.proofs.ServeKeepsForm.{taken_form}
use Rattle.server.proofs.RunKeepsForm.{nothing-logged, nothing_depends}
use Rattle.wire.specs.declared.Message.{Message}
use Rattle.wire.specs.Holding.{SetFits}
use Rattle.server.specs.Refusals.{refusal}
use Rattle.server.specs.Changes.{change}
use Rattle.server.specs.Serve.{arrival_for, taken, serve}
use Rattle.server.proofs.StepIs.{by-step}

-- ---- a fresh server

fresh_record_lem : {k : ℕ} (t : ℕ) → RecordForm k t fresh_record
fresh_record_lem t = record {
  pieces = λ h. absurd (false≢true h);
  promise = refl;
  ballot = λ h. absurd (false≢true h);
  arrival_has = λ h. absurd (false≢true h);
  accepted_has = λ h. absurd (false≢true h);
  committed_has = λ h. absurd (false≢true h);
  arrival = λ h. absurd (false≢true h);
  accepted = λ h. absurd (false≢true h);
  committed = λ h. absurd (false≢true h);
}

-- with any counters
pub fresh_sound : (id : ℕ) (c : Counters) → bad_server id ≡ false → Sound (record { id = id; records = (fresh_server id).records; counters = c; log = (fresh_server id).log })
unfolding fresh_server
fresh_sound id c e = record {
  memory = record { records = refl; log = refl; words = words };
  form = record {
    id = e;
    records = λ t l. subst (RecordForm (shard_of id) t) (sym (get_or-replicate 64 t fresh_record no_record l)) (fresh_record_lem t);
    count = lit≤ tt;
    entries = λ i l. absurd (omega arith);
    results = λ t l. subst (ResultForm (shard_of id) (has (logged (record { list = replicate 64 0; count = 0 }) 0) t)) (sym (get_or-replicate 64 t fresh_record no_record l)) (record { ran = sym (none t); count = λ h. absurd (false≢true h) });
  };
}
  where
    S : Server
    S = record { id = id; records = replicate 64 fresh_record; counters = c; log = record { list = replicate 64 0; count = 0 } }

    none : (t : ℕ) → has (logged (record { list = replicate 64 0; count = 0 }) 0) t ≡ false
    none t = nothing-logged (record { list = replicate 64 0; count = 0 }) t

    words : Words (deps_of S)
    words = nothing_depends S (λ t l. ap (λ (v : Record). there v.committed.some) (get_or-replicate 64 t fresh_record no_record l))

pub fresh_in_form : (id : ℕ) → bad_server id ≡ false → formed (fresh_server id) ≡ true
unfolding fresh_server
fresh_in_form id e = parts_formed _ (fresh_sound id no_counters e).form

-- ---- a message, and what it runs, where its set has words

-- what a committed set names is a word
abbrev NamesWord : Record → Type 0
NamesWord v = cond (there v.committed.some) (members v.committed.set) 0 < 2 ^ 64

members-word : (v : Set) → SetFits v → members v < 2 ^ 64
unfolding members union_of word
members-word v f = union_lt 64 _ _ (union_lt 64 _ _ (union_lt 64 _ _ (union_lt 64 _ _ (pow_pos 64) f.w0) f.w1) f.w2) f.w3

did_word : {id w : ℕ} {v : Record} {m : Message} {o : Changed} → SetFits m.set → Did id w v m o → NamesWord v → NamesWord o.after
did_word f (tells r q) h = h
did_word f (is_done e) h = h
did_word f (pre_accepts_first k op n) h = h
did_word f (pre_accepts_again k op n) h = h
did_word f (accepts k op) h = h
did_word f (prepares k op) h = h
did_word {m = m} f (commits_first j k n) h = members-word m.set f

module _ (s : Server) (m : Message) (mem : Memory s) (fits : SetFits m.set) where
  taken-words : Words (deps_of (taken s m).server)
  unfolding taken
  taken-words t = go (dec_lt t 64)
    where
      z : Server
      z = put_record s m.t (change s.id (arrival_for s m) (record_at s m.t) m).after

      named : (u : ℕ) → u < 64 → NamesWord (record_at s u)
      named u l = unfold deps_at in subst (λ n. n < 2 ^ 64) (deps_at_lem s u l) (mem.words u)

      each : t < 64 → NamesWord (record_at z t)
      each l = set-either NamesWord s.records m.t t _ no_record (named t l)
          (λ e. did_word fits (change-did s.id (arrival_for s m) (record_at s m.t) m) (named m.t (omega arith)))

      go : Dec (t < 64) → get_or (deps_of z) t 0 < 2 ^ 64
      go (yes l) = unfold deps_at in subst (λ n. n < 2 ^ 64) (sym (deps_at_lem z t l)) (each l)
      go (no l) = unfold deps_of in subst (λ n. n < 2 ^ 64) (sym (get_or-eq_default (tab (deps_at z) 64) 0 (subst (λ n. n ≤ t) (sym (length-tab (deps_at z) 64)) (omega arith)))) (pow_pos 64)

  -- a message that is not refused, before anything runs
  pub taken-sound : refusal s m ≡ 0 → Sound (taken s m).server
  unfolding taken
  taken-sound e = record {
    memory = record { records = length-set s.records m.t _ ∙ mem.records; log = mem.log; words = taken-words };
    form = taken_form s m mem.records e;
  }

  pub serve-keeps-form : formed s ≡ true → formed (serve s m).server ≡ true
  serve-keeps-form f =
      by-step s m (λ v. formed v.server ≡ true)
      (λ n. f)
      (λ e k. parts_formed _ (taken-sound e).form)
      (λ e k. parts_formed _ (run_all_sound (taken s m).server (taken-sound e)).form)

-- ---- a run

pub run_keeps_form : (s : Server) → Memory s → formed s ≡ true → formed (run s).server ≡ true
run_keeps_form s m e = parts_formed _ (run_sound s (record { memory = m; form = formed_parts s e })).form

pub run_all_keeps_form : (s : Server) → Memory s → formed s ≡ true → formed (run_all s).server ≡ true
run_all_keeps_form s m e = parts_formed _ (run_all_sound s (record { memory = m; form = formed_parts s e })).form

-- what runs next is not in the log
pub run-logs_new : (s : Server) → Memory s → formed s ≡ true → (u : ℕ) → has (next_run s) u ≡ true → has (log_word s.log) u ≡ false
run-logs_new s m e = next-unrun s m (formed_parts s e)
