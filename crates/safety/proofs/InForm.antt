-- Every server and every live drive is in form, always. Assumes nothing.
use mathlib.Core.Path.{◌≡◌, refl, sym, subst}
use mathlib.Core.Bool.{Bool, true, false, cond}
use mathlib.Core.Option.{none, some, some-injective, none-ne-some}
use mathlib.Core.List.{◌∷◌}
use Prim.Native.Nat.{ℕ, ◌^◌, ◌≤◌, ◌<◌}
use native.Mathlib.Omega.{arith}
use native.Mathlib.Decide.{dec_lt}
use borrow.Author.Tests.{eqb-true, le-ltb}
use lib.Dec.{eqb}
use lib.Pow.{pow_pos}
use lib.ListN.{length, get_or, get_or-eq_default}
use Rattle.masks.specs.Folds.{tab}
use Rattle.masks.proofs.FoldLaws.{get_d_tab, length-tab, unions_bound}
use Rattle.rules.specs.Sets.{word, members}
use Rattle.graph.proofs.Rows.{Words}
use Rattle.server.specs.declared.Server.{Server}
use Rattle.server.specs.declared.Ran.{Ran}
use Rattle.server.specs.Held.{record_at, committed_at}
use Rattle.server.specs.Host.{fresh_server}
use Rattle.server.specs.Run.{deps_at, deps_of}
use Rattle.server.proofs.FormParts.{Formed, parts_formed}
use Rattle.server.proofs.ServeKeepsForm.{after-form}
use Rattle.server.proofs.RunKeepsForm.{Sound, run_sound, run_all_sound}
use Rattle.server.proofs.KeepsForm.{fresh_sound}
use Rattle.drive.specs.declared.Drive.{Drive}
use Rattle.drive.specs.declared.Moved.{Moved}
use Rattle.drive.specs.Form as D
use Rattle.drive.specs.Hear.{hear}
use Rattle.drive.specs.Host.{start, recover, again, move_on}
use Rattle.drive.proofs.KeepsForm.{hear_keeps_form, move_on_keeps_form, start_makes_form, recover_makes_form, again_makes_form}
use Rattle.safety.specs.Cluster.{World, Cluster, put, id_of, first_server, at_first, answered, ran, asked, moved, began, vanished, ballot_of, Next, takes, runs, runs_out, sends, hears, moves_on, starts, recovers, tries_again, vanishes, Reached, fresh, then}
use Rattle.safety.specs.Statements.{InForm}
use Rattle.safety.proofs.Agreement.{chosen-covers}
use Rattle.safety.proofs.View.{CommitOf, record_of, put_all}
use Rattle.safety.proofs.Serving.{Runs, once, out, idle}
use Rattle.safety.proofs.Kept.{Kept}
use Rattle.safety.proofs.DrivesKeep.{AtStation, here, other, at_station}
use Rattle.safety.proofs.Histories.{reached-kept}
use Rattle.safety.proofs.Changes.{Change, serves, has_run, sent, quiet, always}

-- ---- the servers

-- the committed sets have words of 64 digits
committed_fits : (w : World) (c : Cluster) → Kept w c → (s t k : ℕ) → committed_at (c.servers s) t ≡ true → k < 4 → word (record_at (c.servers s) t).committed.set k < 2 ^ 64
committed_fits w c k s t j e h = let l = k.lawful t in (chosen-covers l (l.committed.each (record_of c s t).committed.set (CommitOf.held s e refl))).fits j h

pub deps_fit : (w : World) (c : Cluster) → Kept w c → (s : ℕ) → Words (deps_of (c.servers s))
unfolding deps_of deps_at members
deps_fit w c k s t = go (dec_lt t 64)
  where
    fits : (b : Bool) → committed_at (c.servers s) t ≡ b → cond b (members (record_at (c.servers s) t).committed.set) 0 < 2 ^ 64
    fits true e = unions_bound (word (record_of c s t).committed.set) 4 64 (λ j h. committed_fits w c k s t j e h)
    fits false e = pow_pos 64

    go : Dec (t < 64) → get_or (tab (deps_at (c.servers s)) 64) t 0 < 2 ^ 64
    go (yes l) = subst (λ n. n < 2 ^ 64) (sym (get_d_tab (deps_at (c.servers s)) 64 t 0 l)) (fits (committed_at (c.servers s) t) refl)
    go (no l) = subst (λ n. n < 2 ^ 64) (sym (get_or-eq_default (tab (deps_at (c.servers s)) 64) 0 (subst (λ n. n ≤ t) (sym (length-tab (deps_at (c.servers s)) 64)) (omega arith)))) (pow_pos 64)

pub record Formal (z : Server) : Type 0 where
  pub form : Formed z
  pub places : length z.log.list ≡ 64

abbrev pub AllFormal : Cluster → Type 0
AllFormal c = (s : ℕ) → Formal (c.servers s)

pub sound_of : (w : World) (c : Cluster) → Kept w c → (s : ℕ) → Formal (c.servers s) → Sound (c.servers s)
sound_of w c k s f = record { memory = record { records = k.sizes.records s; log = f.places; words = deps_fit w c k s }; form = f.form }

runs_formal : {s : Server} {r : Ran} → Runs s r → Sound s → Formal r.server
runs_formal {s} once h = let z = run_sound s h in record { form = z.form; places = z.memory.log }
runs_formal (idle n) h = record { form = h.form; places = h.memory.log }
runs_formal {s} out h = let z = run_all_sound s h in record { form = z.form; places = z.memory.log }

pub formal_kept : (w : World) {c c' : Cluster} → Kept w c → Change w c c' → AllFormal c → AllFormal c'
unfolding ran
formal_kept w {c} k (serves i m o rs p did) f =
    put_all (λ s z. Formal z) c.servers i _ (record { form = after-form (c.servers i) m o p did (k.sizes.records i); places = (f i).places }) f
formal_kept w {c} k (has_run i r rn) f = put_all (λ s z. Formal z) c.servers i r.server (runs_formal rn (sound_of w c k i (f i))) f
formal_kept w k (sent j d m at du) f = f
formal_kept w k (quiet q) f = λ s. subst Formal (sym (q.servers s)) (f s)

module _ (w : World) where
  pub first-formal : AllFormal (at_first w)
  unfolding at_first first_server fresh_server
  first-formal s =
      let z = fresh_sound (id_of s) ((at_first w).servers s).counters (le-ltb 11 (id_of s) (omega arith)) in
      record { form = z.form; places = z.memory.log }

  pub reached-formal : {c : Cluster} → Reached w c → AllFormal c
  reached-formal r = always w AllFormal (λ c c' k k' ch. formal_kept w k ch) first-formal r

-- ---- the drives

abbrev AllDrives : Cluster → Type 0
AllDrives c = (j : ℕ) (d : Drive) → c.stations j ≡ some d → D.formed d ≡ true

moved-formed : (c : Cluster) (j : ℕ) (r : Moved) → D.formed r.drive ≡ true → AllDrives c → AllDrives (moved c j r)
unfolding moved
moved-formed c j r h f i e q = go (at_station c.stations j (some r.drive) i e q)
  where
    go : AtStation c.stations j (some r.drive) i e → D.formed e ≡ true
    go (here z p) = subst (λ (x : Drive). D.formed x ≡ true) (some-injective _ _ p) h
    go (other z p) = f i e p

began-formed : (c : Cluster) (j : ℕ) (r : Moved) → (r.refusal ≡ 0 → D.formed r.drive ≡ true) → AllDrives c → AllDrives (began c j r)
unfolding began
began-formed c j r h f = go (eqb r.refusal 0) refl
  where
    go : (b : Bool) → eqb r.refusal 0 ≡ b → AllDrives (cond b (record { servers = c.servers; stations = put c.stations j (some r.drive); taken = ballot_of r.drive ∷ c.taken; sent = c.sent; order = c.order }) c)
    go true e = λ i d q. pick i d (at_station c.stations j (some r.drive) i d q)
      where
        pick : (i : ℕ) (d : Drive) → AtStation c.stations j (some r.drive) i d → D.formed d ≡ true
        pick i d (here z p) = subst (λ (x : Drive). D.formed x ≡ true) (some-injective _ _ p) (h (eqb-true r.refusal 0 e))
        pick i d (other z p) = f i d p
    go false e = f

drives_kept : (w : World) {c c' : Cluster} → Next w c c' → AllDrives c → AllDrives c'
unfolding answered ran asked vanished
drives_kept w (takes i m l r) f = f
drives_kept w (runs i) f = f
drives_kept w (runs_out i) f = f
drives_kept w (sends j d at) f = f
drives_kept w {c} (hears j d m at k) f = moved-formed c j (hear d m) (hear_keeps_form d m (f j d at)) f
drives_kept w {c} (moves_on j d at) f = moved-formed c j (move_on d) (move_on_keeps_form d (f j d at)) f
drives_kept w {c} (starts j lent q t u) f = began-formed c j (start lent q t (w.pieces t)) (start_makes_form lent q t (w.pieces t)) f
drives_kept w {c} (recovers j lent q t floor u) f = began-formed c j (recover lent q t (w.pieces t) floor) (recover_makes_form lent q t (w.pieces t) floor) f
drives_kept w {c} (tries_again j d at u) f = began-formed c j (again d) (again_makes_form d) f
drives_kept w {c} (vanishes j) f = λ i d q. go i d (at_station c.stations j none i d q)
  where
    go : (i : ℕ) (d : Drive) → AtStation c.stations j none i d → D.formed d ≡ true
    go i d (here z p) = absurd (none-ne-some _ p)
    go i d (other z p) = f i d p

first_drives : (w : World) → AllDrives (at_first w)
unfolding at_first
first_drives w j d e = absurd (none-ne-some d e)

reached_drives : (w : World) {c : Cluster} → Reached w c → AllDrives c
reached_drives w fresh = first_drives w
reached_drives w (then r s) = drives_kept w s (reached_drives w r)

pub in_form : (w : World) (c : Cluster) → Reached w c → InForm c
in_form w c r = record {
  servers = λ s. parts_formed (c.servers s) (reached-formal w r s).form;
  records = (reached-kept w r).sizes.records;
  places = λ s. (reached-formal w r s).places;
  words = λ s t k e l. committed_fits w c (reached-kept w r) s t k e l;
  drives = reached_drives w r;
}
