-- Three servers to a shard: any two majorities of a shard share a server. Assumes nothing.
use mathlib.Core.Path.{◌≡◌, refl, sym, subst}
use Prim.Native.Nat.{ℕ, ◌<◌}
use native.Mathlib.Omega.{arith}
use Rattle.rules.specs.Cluster.{server_of}
use Rattle.safety.specs.Cluster.{home_of}

-- P holds of two of the three servers of shard k
pub data Maj (k : ℕ) (P : ℕ → Type 0) : Type 0 where
  m01 : P (server_of k 0) → P (server_of k 1) → Maj k P
  m02 : P (server_of k 0) → P (server_of k 2) → Maj k P
  m12 : P (server_of k 1) → P (server_of k 2) → Maj k P

-- P holds of all three
pub record All3 (k : ℕ) (P : ℕ → Type 0) : Type 0 where
  pub a0 : P (server_of k 0)
  pub a1 : P (server_of k 1)
  pub a2 : P (server_of k 2)

-- s is a server of shard k
pub data InShard (k s : ℕ) : Type 0 where
  i0 : s ≡ server_of k 0 → InShard k s
  i1 : s ≡ server_of k 1 → InShard k s
  i2 : s ≡ server_of k 2 → InShard k s

pub maj_meet : {k : ℕ} {P Q : ℕ → Type 0} → Maj k P → Maj k Q → (s : ℕ) × InShard k s × P s × Q s
maj_meet {k} (m01 a b) (m01 p q) = (server_of k 0, i0 refl, a, p)
maj_meet {k} (m01 a b) (m02 p q) = (server_of k 0, i0 refl, a, p)
maj_meet {k} (m01 a b) (m12 p q) = (server_of k 1, i1 refl, b, p)
maj_meet {k} (m02 a b) (m01 p q) = (server_of k 0, i0 refl, a, p)
maj_meet {k} (m02 a b) (m02 p q) = (server_of k 0, i0 refl, a, p)
maj_meet {k} (m02 a b) (m12 p q) = (server_of k 2, i2 refl, b, q)
maj_meet {k} (m12 a b) (m01 p q) = (server_of k 1, i1 refl, a, q)
maj_meet {k} (m12 a b) (m02 p q) = (server_of k 2, i2 refl, b, q)
maj_meet {k} (m12 a b) (m12 p q) = (server_of k 1, i1 refl, a, p)

pub maj_in : {k : ℕ} {P Q : ℕ → Type 0} → ((s : ℕ) → InShard k s → P s → Q s) → Maj k P → Maj k Q
maj_in f (m01 a b) = m01 (f _ (i0 refl) a) (f _ (i1 refl) b)
maj_in f (m02 a b) = m02 (f _ (i0 refl) a) (f _ (i2 refl) b)
maj_in f (m12 a b) = m12 (f _ (i1 refl) a) (f _ (i2 refl) b)

pub maj_map : {k : ℕ} {P Q : ℕ → Type 0} → ((s : ℕ) → P s → Q s) → Maj k P → Maj k Q
maj_map f = maj_in (λ s i. f s)

pub maj_one : {k : ℕ} {P : ℕ → Type 0} → Maj k P → (s : ℕ) × InShard k s × P s
maj_one m = let r = maj_meet m m in (r.0, r.1, r.2)

pub all_at : {k s : ℕ} {P : ℕ → Type 0} → All3 k P → InShard k s → P s
all_at {P = P} a (i0 e) = subst P (sym e) a.a0
all_at {P = P} a (i1 e) = subst P (sym e) a.a1
all_at {P = P} a (i2 e) = subst P (sym e) a.a2

pub all_maj : {k : ℕ} {P : ℕ → Type 0} → All3 k P → Maj k P
all_maj a = m01 a.a0 a.a1

pub all_map : {k : ℕ} {P Q : ℕ → Type 0} → ((s : ℕ) → P s → Q s) → All3 k P → All3 k Q
all_map f a = record { a0 = f _ a.a0; a1 = f _ a.a1; a2 = f _ a.a2 }

-- the three are servers of the shard
pub in_home : (k s : ℕ) → k < 4 → InShard k s → home_of s ≡ k
in_home k s l (i0 e) = omega arith
in_home k s l (i1 e) = omega arith
in_home k s l (i2 e) = omega arith
