-- What the count in a CommitOK says of the first Commit of a number, at a server where nothing was ready before it: it is above 0 exactly if the number itself ran. For where the number is not closed, nothing that is after it
-- is closed, and everything else that is closed has run. Assumes nothing.
use Prim.Native.Nat.{ℕ, ◌-◌, ◌≤◌, ◌<◌}
use mathlib.Core.Path.{◌≡◌, refl, sym, ap, ◌∙◌, subst}
use mathlib.Core.Bool.{true, false, cond, true≢false}
use native.Mathlib.Decide.{dec_lt, ℕ_discrete}
use native.Mathlib.Omega.{arith}
use lib.ListN.{get_or, get_or-eq_default}
use lib.Seq.{get_or-set_other}
use Rattle.masks.specs.Bits.{In}
use Rattle.masks.proofs.Laws.{in_has, has-none, in_lt}
use Rattle.masks.specs.Folds.{tab}
use Rattle.masks.proofs.FoldLaws.{mask_cong, length-tab}
use Rattle.rules.specs.Flags.{there}
use Rattle.rules.specs.Sets.{members}
use Rattle.graph.specs.Before.{Before, direct, behind, Closed}
use Rattle.graph.proofs.Rows.{trans}
use Rattle.graph.proofs.Computed.{closed-dec}
use Rattle.wire.specs.declared.Message.{Message}
use Rattle.wire.specs.Codes.{commits}
use Rattle.wire.specs.Holding.{SetFits}
use Rattle.wire.proofs.Columns.{commit-codes}
use Rattle.server.specs.declared.Ran.{Ran}
use Rattle.server.specs.declared.Record.{Record}
use Rattle.server.specs.declared.Server.{Server}
use Rattle.server.specs.declared.Served.{Served}
use Rattle.server.specs.Held.{no_record, record_at, put_record, committed_at, ran_at, committed_word, ran_word}
use Rattle.server.specs.Refusals.{refusal}
use Rattle.server.specs.Changes.{change}
use Rattle.server.specs.Run.{deps_at, deps_of, next_run, run, run_all}
use Rattle.server.specs.Serve.{arrival_for, taken, serve}
use Rattle.server.proofs.StepIs.{ran_after, step-and-runs}
use Rattle.server.proofs.Did.{change-did}
use Rattle.server.proofs.RunGroups.{committed_lt}
use Rattle.server.proofs.RunLeaves.{set-either}
use Rattle.server.proofs.RunTurns.{first, quiet, runs-new, turns-stop, turns-deps, turns-committed, run_idle}
use Rattle.server.proofs.FormParts.{formed_parts}
use Rattle.server.proofs.Passed.{passed}
use Rattle.server.proofs.ServeKeepsForm.{did_ran}
use Rattle.server.proofs.RunKeepsForm.{Memory, Sound, deps_at_lem, committed_in_lem, in_committed, log_kept, run_all_sound}
use Rattle.server.proofs.KeepsForm.{taken-sound}
use Rattle.server.proofs.CommitRuns.{RanUntilNone, none as rests, more, sized_of, run_all_in_form, run_all-rests, run_all_is_runs}

not_in_0 : (u : ℕ) → In 0 u → ⊥
not_in_0 u i = true≢false (sym (in_has i) ∙ has-none u)

-- runs until none that came to nothing are one run that ran nothing
came_to_nothing : {s z : Server} {n : ℕ} → RanUntilNone s n z → n ≡ 0 → (z ≡ (run s).server) × ((run s).many ≡ 0)
came_to_nothing (rests r e) q = (refl, e)
came_to_nothing (more r ne h) q = absurd (ne (omega (arith, q)))

module _ (s : Server) (m : Message) (mem : Memory s) (fits : SetFits m.set) (e : refusal s m ≡ 0) (c : commits m.code ≡ true) (new : committed_at s m.t ≡ false) (rested : next_run s ≡ 0) where
  -- T, and the server once it is committed
  abbrev T : ℕ
  T = m.t

  abbrev Z : Server
  Z = put_record s T (change s.id (arrival_for s m) (record_at s T) m).after

  was : Sound s
  was = record { memory = mem; form = formed_parts s (passed s m e).form }

  sound : Sound Z
  unfolding taken
  sound = taken-sound s m mem fits e

  other : (u : ℕ) → (u ≡ T → ⊥) → record_at Z u ≡ record_at s u
  other u n = get_or-set_other s.records T u _ no_record n

  -- the same have run
  same-ran : ran_word Z ≡ ran_word s
  unfolding ran_word
  same-ran = mask_cong (ran_at Z) (ran_at s) 64 (λ u l. set-either (λ v. there v.ran ≡ ran_at s u) s.records T u _ no_record refl
      (λ q. ap there (did_ran (change-did s.id (arrival_for s m) (record_at s T) m)) ∙ ap (ran_at s) (sym q)))

  -- what is committed beside T was
  committed-before : (u : ℕ) → (u ≡ T → ⊥) → In (committed_word Z) u → In (committed_word s) u
  committed-before u n i = committed_in_lem s u (in_lt 64 (committed_lt Z) i) (ap (λ (v : Record). there v.committed.some) (sym (other u n)) ∙ in_committed Z u i)

  -- what a set named, it names still: T had none
  past : (t : ℕ) → 64 ≤ t → get_or (deps_of s) t 0 ≡ 0
  unfolding deps_of
  past t l = get_or-eq_default (tab (deps_at s) 64) 0 (subst (λ n. n ≤ t) (sym (length-tab (deps_at s) 64)) l)

  none_yet : deps_at s T ≡ 0
  unfolding deps_at
  none_yet = rw new

  as_before : (t : ℕ) → (t ≡ T → ⊥) → deps_at s t ≡ deps_at Z t
  unfolding deps_at
  as_before t n = ap (λ (v : Record). cond (there v.committed.some) (members v.committed.set) 0) (sym (other t n))

  named-still : (t u : ℕ) → In (get_or (deps_of s) t 0) u → In (get_or (deps_of Z) t 0) u
  named-still t u i = go (ℕ_discrete t T) (dec_lt t 64)
    where
      go : Dec (t ≡ T) → Dec (t < 64) → In (get_or (deps_of Z) t 0) u
      go q (no l) = absurd (not_in_0 u (subst (λ w. In w u) (past t (omega arith)) i))
      go (no n) (yes l) = subst (λ w. In w u) (deps_at_lem s t l ∙ as_before t n ∙ sym (deps_at_lem Z t l)) i
      go (yes q) (yes l) = absurd (not_in_0 u (subst (λ w. In w u) (deps_at_lem s t l ∙ ap (deps_at s) q ∙ none_yet) i))

  before-still : {u t : ℕ} → Before (deps_of s) u t → Before (deps_of Z) u t
  before-still {u} {t} (direct d) = direct (named-still t u d)
  before-still {u} {t} (behind {v = v} d b) = behind (named-still t v d) (before-still b)

  -- a number that is closed now was so before, unless T is closed
  closed-before : (Closed (deps_of Z) (committed_word Z) T → ⊥) → (u : ℕ) → Closed (deps_of Z) (committed_word Z) u → Closed (deps_of s) (committed_word s) u
  closed-before open-still u k = record {
    self = committed-before u (λ q. open-still (subst (Closed (deps_of Z) (committed_word Z)) q k)) k.self;
    all = λ v b. committed-before v (λ q. open-still (own (subst (λ x. Before (deps_of Z) x u) q (before-still b)))) (k.all v (before-still b));
  }
    where
      own : Before (deps_of Z) T u → Closed (deps_of Z) (committed_word Z) T
      own b = record { self = k.all T b; all = λ w d. k.all w (trans b d) }

  -- so where T is not closed, nothing runs
  waits : (Closed (deps_of Z) (committed_word Z) T → ⊥) → next_run Z ≡ 0
  waits open-still = go (ℕ_discrete (next_run Z) 0)
    where
      go : Dec (next_run Z ≡ 0) → next_run Z ≡ 0
      go (yes q) = q
      go (no n) =
          let u = first Z (sized_of sound) in
          let r = (runs-new Z (sized_of sound) n).ready in
          absurd (r.waits (subst (λ w. In w u) (sym same-ran) (quiet s (sized_of was) rested u (closed-before open-still u r.closed))))

  none-counted : next_run Z ≡ 0 → (run_all Z).many ≡ 0
  none-counted q = ap (λ (r : Ran). r.many) (run_all_in_form Z sound) ∙ ap (λ (z : Server). z.log.count - Z.log.count) (turns-stop 64 Z q) ∙ omega arith

  ran-now : ((run_all Z).many ≡ 0 → ⊥) → In (ran_word (run_all Z).server) T
  ran-now n = go (closed-dec (deps_of Z) sound.memory.words (committed_word Z) T)
    where
      go : Dec (Closed (deps_of Z) (committed_word Z) T) → In (ran_word (run_all Z).server) T
      go (yes k) =
          let R = run_all_in_form Z sound in
          let after = run_all_sound Z sound in
          let deps : deps_of (run_all Z).server ≡ deps_of Z = ap (λ (r : Ran). deps_of r.server) R ∙ turns-deps 64 Z in
          let word : committed_word (run_all Z).server ≡ committed_word Z = ap (λ (r : Ran). committed_word r.server) R ∙ turns-committed 64 Z in
          quiet (run_all Z).server (sized_of after) (run_all-rests Z sound) T
          (subst (λ w. Closed (deps_of (run_all Z).server) w T) (sym word) (subst (λ d. Closed d (committed_word Z) T) (sym deps) k))
      go (no k) = absurd (n (none-counted (waits k)))

  not-now : (run_all Z).many ≡ 0 → In (ran_word (run_all Z).server) T → ⊥
  not-now q i =
      let r = came_to_nothing (run_all_is_runs Z sound) q in
      let same : (run_all Z).server ≡ Z = r.0 ∙ run_idle Z (sized_of sound) r.1 in
      let before : In (ran_word s) T = subst (λ w. In w T) (ap ran_word same ∙ same-ran) i in
      true≢false (sym (in_committed s T ((log_kept s was.form).here T before)) ∙ new)

  step : serve s m ≡ ran_after (taken s m)
  step = step-and-runs s m e (sym (commit-codes m.code) ∙ c)

  -- a count of 0: T has not run. Another count: T has run
  pub waits-at-0 : (serve s m).reply.ran ≡ 0 → In (ran_word (serve s m).server) T → ⊥
  unfolding taken
  waits-at-0 q i = not-now (ap (λ (v : Served). v.reply.ran) (sym step) ∙ q) (subst (λ v. In (ran_word v.server) T) step i)

  pub ran-above-0 : ((serve s m).reply.ran ≡ 0 → ⊥) → In (ran_word (serve s m).server) T
  unfolding taken
  ran-above-0 n = subst (λ v. In (ran_word v.server) T) (sym step) (ran-now (λ q. n (ap (λ (v : Served). v.reply.ran) step ∙ q)))
