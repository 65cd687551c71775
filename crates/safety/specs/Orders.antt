-- A log as a list, what stands earlier in a list, and the order of first runs.
use Rattle.std.specs.Prelude.{ℕ, zero, suc, ◌≡◌, Bool, false, cond, ◌||◌, eqb, take}
use mathlib.Core.List.{List, [], ◌∷◌, ◌++◌, Memᴰ}
use Rattle.server.specs.declared.Log.{Log}

-- the numbers that a server ran, in their order
unfoldable pub entries : Log → List ℕ
entries l = take l.count l.list

-- a stands earlier than b
pub data Earlier (a b : ℕ) : List ℕ → Type 0 where
  first : {x : ℕ} {l : List ℕ} → a ≡ x → Memᴰ b l → Earlier a b (x ∷ l)
  later : {x : ℕ} {l : List ℕ} → Earlier a b l → Earlier a b (x ∷ l)

-- t is in a list
unfoldable pub listed : ℕ → List ℕ → Bool
listed t [] = false
listed t (x ∷ l) = eqb t x || listed t l

-- a list, and t at its end where it isn't in it yet
unfoldable pub noting : ℕ → List ℕ → List ℕ
noting t o = cond (listed t o) o (o ++ (t ∷ []))

-- what a log has that an order hasn't yet stands at the order's end
unfoldable pub firsts : List ℕ → List ℕ → List ℕ
firsts o [] = o
firsts o (t ∷ l) = firsts (noting t o) l

-- an order, and then the other numbers below n, rising
unfoldable pub completed : List ℕ → ℕ → List ℕ
completed o zero = o
completed o (suc n) = noting n (completed o n)
