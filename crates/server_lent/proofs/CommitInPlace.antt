-- A Commit on a lent server: the plan that is made before its record is stored is the plan of the server with that record. So what then runs is what the definition runs. Assumes nothing.
use Prim.Native.Nat.{ℕ, ◌-◌, ◌^◌, ◌<◌}
use mathlib.Core.Path.{◌≡◌, refl, sym, ap, ap₂, ◌∙◌, subst}
use mathlib.Core.Bool.{Bool, true, false, cond, not, ◌||◌}
use mathlib.Core.List.{List}
use native.Mathlib.Decide.{ℕ_discrete}
use native.Mathlib.Omega.{arith}
use borrow.Author.Tests.{eqb-true, eqb-false, eq-eqb, ne_eqb}
use lib.Dec.{eqb}
use lib.ListN.{length, get_or, set, replicate, length-replicate, length-set}
use lib.Seq.{get_or-set_same, get_or-set_other}
use lib.Pow.{pow_pos}
use Rattle.masks.specs.Bits.{In, has, none, insert, without}
use Rattle.masks.specs.Folds.{tab, mask_of}
use Rattle.masks.proofs.Laws.{Sub, same_word, has_in, insert_lt, has-insert, in_insert_new, in_without_left, in_without_right, without_lt}
use Rattle.masks.proofs.Bools.{cond_true, and_yes-l, and_yes_r, not_yes}
use Rattle.masks.proofs.FoldLaws.{some_member, has_mask_below, mask_bound, length-tab, get_d_tab, tab_of}
use Rattle.masks.proofs.Fills.{fill-all}
use Rattle.rules.specs.Flags.{there}
use Rattle.rules.specs.declared.MaybeSet.{MaybeSet}
use Rattle.rules.specs.Sets.{members}
use Rattle.graph.specs.Walk.{rows_of, next_group}
use Rattle.wire.specs.declared.Message.{Message}
use Rattle.wire.specs.Codes.{commits}
use Rattle.wire.specs.Holding.{SetFits}
use Rattle.wire.proofs.Columns.{commit-codes}
use Rattle.server.specs.declared.Changed.{Changed}
use Rattle.server.specs.declared.Log.{Log}
use Rattle.server.specs.declared.Ran.{Ran}
use Rattle.server.specs.declared.Record.{Record}
use Rattle.server.specs.declared.Server.{Server}
use Rattle.server.specs.Held.{no_record, record_at, put_record, shard, committed_at, committed_word, ran_word}
use Rattle.server.specs.Form.{formed}
use Rattle.server.specs.Refusals.{refusal}
use Rattle.server.specs.Changes.{with_committed, committed, change}
use Rattle.server.specs.Run.{deps_at, deps_of, run_all}
use Rattle.server.specs.Serve.{arrival_for, taken}
use Rattle.server.proofs.Passed.{Passed, passed, number_below}
use Rattle.server.proofs.DoesIs.{at-commit}
use Rattle.server.proofs.FormParts.{parts_formed}
use Rattle.server.proofs.RunGroups.{ran_lt}
use Rattle.server.proofs.RunKeepsForm.{Sound, deps_at_lem}
use Rattle.server.proofs.KeepsForm.{taken-sound}
use Rattle.server_form.specs.OnePass.{read_log}
use Rattle.server_run.specs.Gathered.{named, unrun_at}
use Rattle.server_run.specs.Limited.{allowed, refusal_of}
use Rattle.server_run.proofs.Gathering.{named-deps}
use Rattle.server_run.proofs.Unrun.{deps-words, read-ran, next-unrun}
use Rattle.server_run.proofs.Turning.{run-until}
use Rattle.server_read.specs.InPlace.{FormRead, form_read}
use Rattle.server_plan.specs.declared.Waiting.{Waiting}
use Rattle.server_plan.specs.Planning.{PlanTold, unrun_of, committed_with, waiting_turn, waiting_in, planned_log, planned_by, waits_alone, nothing_planned, planned_after}
use Rattle.server_plan.proofs.PlanTurns.{planned-stop}
use Rattle.server_plan.proofs.WaitsAlone.{alone_waits}
use Rattle.server_lent.specs.Listed.{ran_planned}
use Rattle.server_lent.proofs.RunsInPlace.{plan, ran-planned, told-many, waits, unrun_is}

module _ (s : Server) (m : Message) (records : length s.records ≡ 64) (keys : length s.counters.list ≡ 16) (places : length s.log.list ≡ 64) (words : (t : ℕ) → t < 64 → deps_at s t < 2 ^ 64)
    (fits : SetFits m.set) (e : refusal s m ≡ 0) (k : commits m.code ≡ true) where
  -- the record of T as it becomes, and the server with it
  abbrev pub v : Record
  v = (change s.id (arrival_for s m) (record_at s m.t) m).after

  abbrev pub Z : Server
  Z = put_record s m.t v

  p : Passed s m
  p = passed s m e

  small : m.t < 64
  small = number_below m p.numbers

  sound : Sound Z
  unfolding taken
  sound = taken-sound s m (record { records = records; log = places; words = deps-words s words }) fits e

  Z-words : (t : ℕ) → t < 64 → deps_at Z t < 2 ^ 64
  Z-words t l = subst (λ n. n < 2 ^ 64) (deps_at_lem Z t l) (sound.memory.words t)

  -- it is committed
  committed-by : (b : Bool) → there (record_at s m.t).committed.some ≡ b → there (cond b (record_at s m.t) (with_committed m (record_at s m.t))).committed.some ≡ true
  committed-by true h = h
  committed-by false h = refl

  is-committed : there v.committed.some ≡ true
  unfolding committed
  is-committed = ap (λ (c : Changed). there c.after.committed.some) (at-commit s.id (arrival_for s m) (record_at s m.t) m (sym (commit-codes m.code) ∙ k)) ∙ committed-by _ refl

  -- what is held of a number as committed, there and here
  at-t : (record_at Z m.t).committed ≡ v.committed
  at-t = ap (λ (x : Record). x.committed) (get_or-set_same s.records m.t v no_record (omega (arith, small, records)))

  at_other : (t : ℕ) → (t ≡ m.t → ⊥) → (record_at Z t).committed ≡ (record_at s t).committed
  at_other t n = ap (λ (x : Record). x.committed) (get_or-set_other s.records m.t t v no_record n)

  abbrev form : FormRead
  form = form_read s

  form-is : form ≡ record { id = Z.id; shard = shard Z; word = (read_log Z.log).word; fine = formed Z }
  form-is = ap (λ (b : Bool). record { id = s.id; shard = shard s; word = (read_log s.log).word; fine = b }) (p.form ∙ sym (parts_formed Z sound.form))

  deps-is : (w : ℕ) → set (tab (λ t. unrun_of w (record_at s t).committed) 64) m.t (unrun_of w v.committed) ≡ tab (λ t. unrun_of w (record_at Z t).committed) 64
  deps-is w = tab_of (λ t. unrun_of w (record_at Z t).committed) 64 0 _ (length-set l m.t x ∙ length-tab f 64) (λ t h. each t h (ℕ_discrete t m.t))
    where
      f : ℕ → ℕ
      f t = unrun_of w (record_at s t).committed

      l : List ℕ
      l = tab f 64

      x : ℕ
      x = unrun_of w v.committed

      each : (t : ℕ) → t < 64 → Dec (t ≡ m.t) → get_or (set l m.t x) t 0 ≡ unrun_of w (record_at Z t).committed
      each t h (yes q) =
          ap (λ (u : ℕ). get_or (set l m.t x) u 0) q
          ∙ get_or-set_same l m.t x 0 (omega (arith, small, length-tab f 64))
          ∙ ap (unrun_of w) (sym (ap (λ (u : ℕ). (record_at Z u).committed) q ∙ at-t))
      each t h (no n) = get_or-set_other l m.t t x 0 n ∙ get_d_tab f 64 t 0 h ∙ ap (unrun_of w) (sym (at_other t n))

  word-is : committed_with (mask_of (committed_at s) 64) m.t v.committed ≡ mask_of (committed_at Z) 64
  unfolding committed_with
  word-is =
      cond_true (there v.committed.some) _ _ is-committed
      ∙ same_word 64 (insert (mask_of (committed_at s) 64) m.t) (mask_of (committed_at Z) 64) (insert_lt 64 (mask_of (committed_at s) 64) m.t (mask_bound (committed_at s) 64) small) (mask_bound (committed_at Z) 64)
      (λ u b. has-insert (mask_of (committed_at s) 64) m.t u ∙ ap (λ (y : Bool). y || eqb m.t u) (has_mask_below (committed_at s) 64 u b) ∙ each u (ℕ_discrete u m.t) ∙ sym (has_mask_below (committed_at Z) 64 u b))
    where
      or-true : (b : Bool) → (b || true) ≡ true
      or-true true = refl
      or-true false = refl

      or-false : (b : Bool) → (b || false) ≡ b
      or-false true = refl
      or-false false = refl

      each : (u : ℕ) → Dec (u ≡ m.t) → (committed_at s u || eqb m.t u) ≡ committed_at Z u
      each u (yes q) =
          ap (λ (y : Bool). committed_at s u || y) (eq-eqb m.t u (sym q)) ∙ or-true (committed_at s u)
          ∙ sym (ap (λ (y : ℕ). committed_at Z y) q ∙ ap (λ (y : MaybeSet). there y.some) at-t ∙ is-committed)
      each u (no n) =
          ap (λ (y : Bool). committed_at s u || y) (ne_eqb m.t u (λ q. n (sym q))) ∙ or-false (committed_at s u)
          ∙ sym (ap (λ (y : MaybeSet). there y.some) (at_other u n))

  abbrev waiting : Waiting
  waiting = waiting_in s form.word 64

  -- what T waits for, and what all wait for with it
  abbrev u : ℕ
  u = unrun_of form.word v.committed

  abbrev with-T : Waiting
  with-T = waiting_turn form.word waiting m.t v.committed

  -- the plan that is made before the record is stored
  abbrev pub planned : PlanTold
  planned = planned_after form with-T m.t u s.log

  word-form : form.word ≡ (read_log s.log).word
  word-form = ap (λ (x : FormRead). x.word) form-is

  deps-Z : with-T.deps ≡ tab (unrun_at Z) 64
  deps-Z =
      let w = form.word in
      let f : ℕ → ℕ = λ t. unrun_of w (record_at s t).committed in
      let deps : waiting.deps ≡ tab f 64 = ap (λ (d : Waiting). d.deps) (waits s w 64 (omega arith)) ∙ fill-all f (replicate 64 0) 64 (rw (length-replicate {A = ℕ} 64 0) (omega arith)) in
      ap (λ (l : List ℕ). set l m.t u) deps ∙ deps-is w ∙ unrun_is Z w word-form

  word-Z : with-T.committed ≡ committed_word Z
  unfolding committed_word
  word-Z = ap (λ (d : Waiting). committed_with d.committed m.t v.committed) (waits s form.word 64 (omega arith)) ∙ word-is

  -- in the words of Z
  formed-Z : formed Z ≡ true
  formed-Z = parts_formed Z sound.form

  ran-Z : form.word ≡ ran_word Z
  ran-Z = word-form ∙ read-ran Z formed-Z

  waits-for : u ≡ without (deps_at Z m.t) form.word
  unfolding unrun_of
  waits-for = ap (λ (n : ℕ). without n form.word) (ap (λ (c : MaybeSet). members (named c)) (sym at-t) ∙ named-deps Z m.t)

  -- where T waits alone, nothing runs there
  module _ (alone : waits_alone form.word with-T.committed m.t u ≡ true) where
    left_alone : without (without (committed_word Z) (ran_word Z)) (insert none m.t) ≡ none
    left_alone =
        ap₂ (λ (c r : ℕ). without (without c r) (insert none m.t)) (sym word-Z) (sym ran-Z)
        ∙ eqb-true (without (without with-T.committed form.word) (insert none m.t)) none (and_yes-l _ (not (eqb (without u (insert none m.t)) none)) alone)

    some : (t : ℕ) × (t < 64) × (has (without u (insert none m.t)) t ≡ true)
    some =
        some_member 64 (without u (insert none m.t))
        (without_lt 64 u (insert none m.t) (subst (λ n. n < 2 ^ 64) (sym waits-for) (without_lt 64 (deps_at Z m.t) form.word (Z-words m.t small))))
        (eqb-false (without u (insert none m.t)) none (not_yes (eqb (without u (insert none m.t)) none) (and_yes_r (eqb (without (without with-T.committed form.word) (insert none m.t)) none) _ alone)))

    nothing-next : next_group (rows_of (deps_of Z)) (committed_word Z) (ran_word Z) ≡ 0
    nothing-next =
        let t = some.0 in
        let small_word : insert none m.t < 2 ^ 64 = insert_lt 64 none m.t (pow_pos 64) small in
        let i : In (without u (insert none m.t)) t = has_in some.2 in
        let j : In (without (deps_at Z m.t) form.word) t = subst (λ n. In n t) waits-for (in_without_left u (insert none m.t) i) in
        alone_waits (deps_of Z) sound.memory.words (committed_word Z) (ran_word Z) m.t small (ran_lt Z) left_alone t
        (subst (λ n. In n t) (sym (deps_at_lem Z m.t small)) (in_without_left (deps_at Z m.t) form.word j))
        (λ r. in_without_right (deps_at Z m.t) form.word (subst (λ n. n < 2 ^ 64) (sym ran-Z) (ran_lt Z)) j (subst (λ n. In n t) (sym ran-Z) r))
        (λ e. in_without_right u (insert none m.t) small_word i (subst (λ x. In (insert none m.t) x) (sym e) (in_insert_new none m.t)))

    stays : planned_log (rows_of (tab (unrun_at Z) 64)) (committed_word Z) (allowed (formed Z) 64) (read_log Z.log).word Z.log ≡ Z.log
    stays =
        let same = next-unrun Z formed-Z sound.memory.words (read_log Z.log).word (subst (Sub (ran_word Z)) (sym (read-ran Z formed-Z)) (λ t i. i)) in
        let at : next_group (rows_of (deps_of Z)) (committed_word Z) (read_log Z.log).word ≡ 0 = ap (next_group (rows_of (deps_of Z)) (committed_word Z)) (read-ran Z formed-Z) ∙ nothing-next in
        planned-stop (rows_of (tab (unrun_at Z) 64)) (committed_word Z) (allowed (formed Z) 64) (read_log Z.log).word _ Z.log refl (same ∙ at)

    nothing_is : nothing_planned form s.log ≡ plan Z 64 sound.memory.records keys places Z-words
    unfolding planned_by
    nothing_is =
        ap (λ (x : FormRead). nothing_planned x s.log) form-is
        ∙ (λ j. record { refusal = refusal_of (formed Z); many = none_more j; plan = record { shard = shard Z; first = s.log.count }; log = back j })
      where
        back : Z.log ≡ planned_log (rows_of (tab (unrun_at Z) 64)) (committed_word Z) (allowed (formed Z) 64) (read_log Z.log).word Z.log
        back = sym stays

        none_more : 0 ≡ (planned_log (rows_of (tab (unrun_at Z) 64)) (committed_word Z) (allowed (formed Z) 64) (read_log Z.log).word Z.log).count - Z.log.count
        none_more = let e : Z.log.count - Z.log.count ≡ 0 = omega arith in sym (ap (λ (l : Log). l.count - Z.log.count) stays ∙ e)

  planned-is : planned ≡ plan Z 64 sound.memory.records keys places Z-words
  unfolding planned_after
  planned-is = by (waits_alone form.word with-T.committed m.t u) refl
    where
      by : (b : Bool) → waits_alone form.word with-T.committed m.t u ≡ b
          → cond b (nothing_planned form s.log) (planned_by form with-T.deps with-T.committed s.log 64) ≡ plan Z 64 sound.memory.records keys places Z-words
      by true e = nothing_is e
      by false e = λ j. planned_by (form-is j) (deps-Z j) (word-Z j) s.log 64

  -- so as many run as the definition runs, and the same
  pub commit-many : planned.many ≡ (run_all Z).many
  commit-many = ap (λ (x : PlanTold). x.many) planned-is ∙ told-many Z 64 sound.memory.records keys places Z-words ∙ ap (λ (r : Ran). r.many) (run-until Z)

  pub commit-server : ran_planned planned.plan planned.log planned.many Z ≡ (run_all Z).server
  commit-server =
      ap (λ (x : PlanTold). ran_planned x.plan x.log x.many Z) planned-is
      ∙ ran-planned Z 64 sound.memory.records keys places Z-words
      ∙ ap (λ (r : Ran). r.server) (run-until Z)
