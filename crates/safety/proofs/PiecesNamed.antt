-- The pieces of a number are the same wherever they are: at servers, in drives, in messages. Assumes nothing.
use mathlib.Core.Path.{◌≡◌, refl, sym, ◌∙◌, ap, subst}
use mathlib.Core.Logic.{◌⊎◌, inl, inr, ◌≢◌}
use mathlib.Core.Bool.{true, false, not, false≢true}
use mathlib.Core.List.Memᴰ
use mathlib.Core.List.{Memᴰ}
use Prim.Native.Nat.{ℕ}
use native.Mathlib.Omega.{arith}
use borrow.Author.Tests.{eqb-true}
use lib.Dec.{eqb}
use Rattle.masks.proofs.Bools.{not_no, or_yes, true_and_false, one_no}
use Rattle.rules.specs.declared.Pieces.{Pieces}
use Rattle.rules.specs.declared.MaybeWord.{MaybeWord}
use Rattle.rules.specs.declared.MaybeSet.{MaybeSet}
use Rattle.rules.specs.Flags.{there}
use Rattle.rules.specs.Pieces.{any_pieces, pieces_kept}
use Rattle.wire.specs.declared.Message.{Message}
use Rattle.wire.specs.Codes.{shape_of, PreAccept, Accept, Prepare, Commit, Done, commits}
use Rattle.wire.specs.Faults.{bad_pieces}
use Rattle.server.specs.declared.Changed.{Changed}
use Rattle.server.specs.declared.Record.{Record}
use Rattle.server.specs.declared.Server.{Server}
use Rattle.server.specs.Held.{record_at}
use Rattle.server.proofs.Passed.{number_below}
use Rattle.server.proofs.Did.{Did, tells, is_done, pre_accepts_first, pre_accepts_again, accepts, prepares, commits_first}
use Rattle.server.proofs.RunLeaves.{SameHeld}
use Rattle.drive.specs.declared.Drive.{Drive}
use Rattle.safety.specs.Cluster.{World, Cluster, ran, Reaches}
use Rattle.safety.proofs.View.{record_of, put_all}
use Rattle.safety.proofs.Serving.{runs_leave, was_sent_lem, all-records}
use Rattle.safety.proofs.DriveIn.{DriveIn}
use Rattle.safety.proofs.Kept.{Kept}
use Rattle.safety.proofs.SendsKeep.{Due, due_prepare, due_pre_accept, due_accept, due_commit}
use Rattle.safety.proofs.Changes.{Change, serves, has_run, sent, quiet}

-- what a record of t holds is of t's transaction
pub record NamedRecord (w : World) (t : ℕ) (v : Record) : Type 0 where
  pub any : any_pieces v.pieces ≡ true → v.pieces ≡ w.pieces t
  pub arrived : there v.arrival.some ≡ true → v.pieces ≡ w.pieces t
  pub committed : there v.committed.some ≡ true → v.pieces ≡ w.pieces t
  pub kept : there v.committed.some ≡ true → pieces_kept v.pieces ≡ true

pub record Named (w : World) (c : Cluster) : Type 0 where
  pub records : (s t : ℕ) → NamedRecord w t (record_of c s t)
  pub messages : (m : Message) → Memᴰ m c.sent → (shape_of m.code).pieces ≡ true → m.pieces ≡ w.pieces m.t

pub named_same : {w : World} {t : ℕ} {v v' : Record} → SameHeld v v' → NamedRecord w t v → NamedRecord w t v'
named_same {w} {t} e n = record {
  any = λ h. e.pieces ∙ n.any (subst (λ (p : Pieces). any_pieces p ≡ true) e.pieces h);
  arrived = λ h. e.pieces ∙ n.arrived (ap (λ (a : MaybeWord). there a.some) (sym e.arrival) ∙ h);
  committed = λ h. e.pieces ∙ n.committed (ap (λ (a : MaybeSet). there a.some) (sym e.committed) ∙ h);
  kept = λ h. subst (λ (p : Pieces). pieces_kept p ≡ true) (sym e.pieces) (n.kept (ap (λ (a : MaybeSet). there a.some) (sym e.committed) ∙ h));
}

module _ (w : World) (c : Cluster) (na : Named w c) (i id x : ℕ) (m : Message) (rs : Reaches c m) where
  -- the pieces of a message that asks or commits
  of_code : (k : ℕ) → m.code ≡ k → (shape_of k).pieces ≡ true → k ≢ 4 → k ≢ 5 → m.pieces ≡ w.pieces m.t
  of_code k e h n4 n5 = na.messages m (was_sent_lem rs (λ z. n4 (sym e ∙ z)) (λ z. n5 (sym e ∙ z))) (subst (λ n. (shape_of n).pieces ≡ true) (sym e) h)

  asked-pieces : m.code ≡ PreAccept ⊎ (m.code ≡ Accept ⊎ m.code ≡ Prepare) → m.pieces ≡ w.pieces m.t
  unfolding shape_of
  asked-pieces (inl e) = of_code PreAccept e refl (λ z. omega arith) (λ z. omega arith)
  asked-pieces (inr (inl e)) = of_code Accept e refl (λ z. omega arith) (λ z. omega arith)
  asked-pieces (inr (inr e)) = of_code Prepare e refl (λ z. omega arith) (λ z. omega arith)

  pub commit-code : commits m.code ≡ true → (m.code ≡ Commit) ⊎ (m.code ≡ Done)
  commit-code k = go (or_yes (eqb m.code Commit) (eqb m.code Done) k)
    where
      go : (eqb m.code Commit ≡ true) ⊎ (eqb m.code Done ≡ true) → (m.code ≡ Commit) ⊎ (m.code ≡ Done)
      go (inl e) = inl (eqb-true m.code Commit e)
      go (inr e) = inr (eqb-true m.code Done e)

  commit-pieces : (m.code ≡ Commit) ⊎ (m.code ≡ Done) → m.pieces ≡ w.pieces m.t
  unfolding shape_of
  commit-pieces (inl e) = of_code Commit e refl (λ z. omega arith) (λ z. omega arith)
  commit-pieces (inr e) = of_code Done e refl (λ z. omega arith) (λ z. omega arith)

  commit-kept : bad_pieces m ≡ false → (m.code ≡ Commit) ⊎ (m.code ≡ Done) → pieces_kept m.pieces ≡ true
  unfolding bad_pieces shape_of
  commit-kept h (inl e) = not_no (pieces_kept m.pieces) (one_no (shape_of m.code).pieces (not (pieces_kept m.pieces)) h (subst (λ n. (shape_of n).pieces ≡ true) (sym e) refl))
  commit-kept h (inr e) = not_no (pieces_kept m.pieces) (one_no (shape_of m.code).pieces (not (pieces_kept m.pieces)) h (subst (λ n. (shape_of n).pieces ≡ true) (sym e) refl))

  -- an open number is named by the message
  opened : {v : Record} → v.pieces ≡ w.pieces m.t → there v.committed.some ≡ false → NamedRecord w m.t v
  opened e n = record { any = λ h. e; arrived = λ h. e; committed = λ h. e; kept = λ h. absurd (true_and_false h n) }

  did-named : {o : Changed} → bad_pieces m ≡ false → Did id x (record_of c i m.t) m o → NamedRecord w m.t o.after
  did-named h (tells r p) = na.records i m.t
  did-named h (is_done e) = na.records i m.t
  did-named h (pre_accepts_first k op n) = opened (asked-pieces (inl k)) op.uncommitted
  did-named h (pre_accepts_again k op n) = opened (asked-pieces (inl k)) op.uncommitted
  did-named h (accepts k op) = opened (asked-pieces (inr (inl k))) op.uncommitted
  did-named h (prepares k op) = opened (asked-pieces (inr (inr k))) op.uncommitted
  did-named h (commits_first j k n) =
      let e = commit-pieces (commit-code k) in
      record { any = λ z. e; arrived = λ z. e; committed = λ z. e; kept = λ z. commit-kept h (commit-code k) }

  did-reply : {o : Changed} → Did id x (record_of c i m.t) m o → (shape_of o.reply.code).pieces ≡ true → o.reply.pieces ≡ w.pieces o.reply.t
  unfolding shape_of
  did-reply (tells r p) h = absurd (true_and_false h p.bare)
  did-reply (is_done e) h = (na.records i m.t).committed e
  did-reply (pre_accepts_first k op n) h = absurd (false≢true h)
  did-reply (pre_accepts_again k op n) h = absurd (false≢true h)
  did-reply (accepts k op) h = absurd (false≢true h)
  did-reply (prepares k op) h = absurd (false≢true h)
  did-reply (commits_first j k n) h = absurd (false≢true h)

-- ---- kept by every step

due-named : {w : World} {c : Cluster} {d : Drive} {m : Message} → DriveIn w c d → Due d m → m.pieces ≡ w.pieces m.t
due-named di due_prepare = di.named
due-named di due_pre_accept = di.named
due-named di (due_accept p) = di.named
due-named di (due_commit p) = di.named

pub named_kept : (w : World) {c c' : Cluster} → Kept w c → Change w c c' → Named w c → Named w c'
unfolding ran
named_kept w {c} k (serves i m o rs p did) na = record {
  records = all-records c i m.t o (let n = number_below m p.numbers in omega (arith, k.sizes.records i)) (λ s t v. NamedRecord w t v) (did-named w c na i _ _ m rs p.pieces did) na.records;
  messages = λ r h. new r (Memᴰ.cases_cons h);
}
  where
    new : (r : Message) → (r ≡ o.reply) ⊎ Memᴰ r c.sent → (shape_of r.code).pieces ≡ true → r.pieces ≡ w.pieces r.t
    new r (inl e) = subst (λ (r : Message). (shape_of r.code).pieces ≡ true → r.pieces ≡ w.pieces r.t) (sym e) (did-reply w c na i _ _ m rs did)
    new r (inr h) = na.messages r h
named_kept w {c} k (has_run i r rn) na = record {
  records = λ s t. put_all (λ s x. NamedRecord w t (record_at x t)) c.servers i r.server (named_same ((runs_leave rn).held t) (na.records i t)) (λ s. na.records s t) s;
  messages = na.messages;
}
named_kept w {c} k (sent j d m at du) na = record { records = na.records; messages = λ r h. new r (Memᴰ.cases_cons h) }
  where
    new : (r : Message) → (r ≡ m) ⊎ Memᴰ r c.sent → (shape_of r.code).pieces ≡ true → r.pieces ≡ w.pieces r.t
    new r (inl e) q = subst (λ (r : Message). r.pieces ≡ w.pieces r.t) (sym e) (due-named (k.drives j d at) du)
    new r (inr h) q = na.messages r h q
named_kept w {c} k (quiet q) na = record {
  records = λ s t. subst (λ (x : Server). NamedRecord w t (record_at x t)) (sym (q.servers s)) (na.records s t);
  messages = λ m h. na.messages m (subst (Memᴰ m) q.sent h);
}
