-- What is read of a lent server, record by record, is its form, and what a message comes to is what the definition of the step says. Assumes nothing.
use Prim.Native.Nat.{ℕ, ◌+◌, ◌<◌}
use mathlib.Core.Path.{◌≡◌, refl, sym, ap, ◌∙◌}
use mathlib.Core.Bool.{Bool, true, false, cond, not, ◌&&◌, and-false}
use lib.Dec.{eqb}
use Rattle.masks.specs.Folds.{mask_of, all_below}
use Rattle.masks.proofs.Bools.{not_not}
use Rattle.masks.proofs.FoldLaws.{no_all}
use Rattle.masks.proofs.Turns.{all-step, mask-none}
use Rattle.rules.specs.Keys.{keys_on}
use Rattle.wire.specs.Codes.{PreAccept}
use Rattle.server.specs.declared.Changed.{Changed}
use Rattle.server.specs.declared.Record.{Record}
use Rattle.server.specs.Changes.{change}
use Rattle.server_step.specs.declared.Considered.{Considered}
use Rattle.server_read.specs.declared.form.Form.{Form}
use Rattle.rules.specs.Cluster.{bad_server}
use Rattle.wire.specs.declared.Message.{Message}
use Rattle.server.specs.declared.Server.{Server}
use Rattle.server.specs.Held.{record_at, shard}
use Rattle.server.specs.Form.{formed}
use Rattle.server.specs.Serve.{fixes}
use Rattle.server_form.specs.OnePass.{read_log, number_formed, number_formed_at, formed_below}
use Rattle.server_form.proofs.FormInOnePass.{form-once}
use Rattle.server_step.specs.OneStore.{Considering, place_of, refusal_by, looked, change_by, considered, considered_at}
use Rattle.server_step.proofs.StepIsServe.{came_by_keys}
use Rattle.server_read.specs.InPlace.{form_read, kept, earlier_in, considered_by}

-- ---- the form

module _ (s : Server) where
  pub strange : bad_server s.id ≡ true → formed s ≡ false
  unfolding formed
  strange e = rw e

  pub log-broken : (read_log s.log).fine ≡ false → formed s ≡ false
  unfolding formed_below
  log-broken e = form-once s ∙ rw e

  -- the numbers, with the log's word
  module _ (word : ℕ) (is : word ≡ (read_log s.log).word) where
    pub number-broken : (t : ℕ) → t < 64 → number_formed (shard s) word t (record_at s t) ≡ false → formed s ≡ false
    unfolding formed_below number_formed_at
    number-broken t l e =
        form-once s
        ∙ ap (λ (b : Bool). (read_log s.log).fine && not (bad_server s.id) && b)
        (no_all (number_formed_at s (read_log s.log).word) 64 t l (ap (λ (w : ℕ). number_formed (shard s) w t (record_at s t)) (sym is) ∙ e))
        ∙ and-false _

    pub number-more : (t : ℕ) → all_below (number_formed_at s word) t ≡ true → number_formed (shard s) word t (record_at s t) ≡ true → all_below (number_formed_at s word) (t + 1) ≡ true
    unfolding number_formed_at
    number-more t a e = rw (all-step, a, e)

    pub all_fine : bad_server s.id ≡ false → (read_log s.log).fine ≡ true → all_below (number_formed_at s word) 64 ≡ true → formed s ≡ true
    unfolding formed_below
    all_fine b f a = form-once s ∙ rw (f, b, ← is, a)

-- ---- the step

module _ (s : Server) (m : Message) where
  abbrev n : ℕ
  n = refusal_by (formed s) (shard s) (record_at s (place_of m.t)) m

  -- what it comes to, where these came earlier
  abbrev after : (ℕ → Bool) → Considering
  after came =
      let c = change_by n s.id (mask_of came (looked (eqb n 0 && fixes (record_at s (place_of m.t)) m))) (record_at s (place_of m.t)) m in
      record { refusal = n; place = place_of m.t; after = c.after; reply = c.reply }

  pub considered_by_lem : considered_by s (form_read s) m ≡ considered s m
  unfolding considered_by considered considered_at earlier_in
  considered_by_lem = ap after (λ j t. sym (came_by_keys s m t) j)

-- a message that is not refused, where w is the arrival set that it fixes
module _ (s : Server) (f : Form) (m : Message) (i : ℕ) (at : i ≡ place_of m.t) where
  abbrev v : Record
  v = record_at s i

  abbrev sought : ℕ → ℕ
  sought = earlier_in s (keys_on m.pieces f.shard) f.shard

  found : (b : Bool) → cond b (sought 64) 0 ≡ sought (looked b)
  unfolding looked earlier_in
  found true = refl
  found false = mask-none _

  pub taken-by : 0 ≡ refusal_by true f.shard v m → (w : ℕ) → w ≡ cond (eqb m.code PreAccept && eqb v.arrival.some 0) (sought 64) 0 → (c : Changed) → c ≡ change f.id w v m
      → let o = considered_by s (kept f) m in ◌≡◌ {A = Considered} (record { place = i; after = c.after; reply = c.reply }) (record { place = o.place; after = o.after; reply = o.reply })
  unfolding considered_by change_by
  taken-by z w p c q = rw (q, p, found (eqb m.code PreAccept && eqb v.arrival.some 0), ← at, ← z) (simp not_not)
