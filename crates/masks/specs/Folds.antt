-- What a loop computes that counts up to n: one fold for each way of putting the turns together.
use Rattle.std.specs.Prelude.{ℕ, zero, suc, ◌+◌, Bool, true, false, cond, ◌&&◌, ◌||◌, List, [], ◌∷◌, ◌++◌, ltb}
use Rattle.masks.specs.Bits.{has, insert, union}

-- f holds of every number below n
unfoldable pub all_below : (ℕ → Bool) → ℕ → Bool
all_below f zero = true
all_below f (suc n) = all_below f n && f n

-- f holds of some number below n
unfoldable pub any_below : (ℕ → Bool) → ℕ → Bool
any_below f zero = false
any_below f (suc n) = any_below f n || f n

-- of how many numbers below n f holds
unfoldable pub count_below : (ℕ → Bool) → ℕ → ℕ
count_below f zero = 0
count_below f (suc n) = cond (f n) (count_below f n + 1) (count_below f n)

-- how many numbers are in w
unfoldable pub size : ℕ → ℕ
size w = count_below (has w) 64

-- the set of the numbers below n of which f holds
unfoldable pub mask_of : (ℕ → Bool) → ℕ → ℕ
mask_of f zero = 0
mask_of f (suc n) = cond (f n) (insert (mask_of f n) n) (mask_of f n)

-- the union of the words that f gives below n
unfoldable pub union_of : (ℕ → ℕ) → ℕ → ℕ
union_of f zero = 0
union_of f (suc n) = union (union_of f n) (f n)

-- the least number below n of which f holds, or n
unfoldable pub least : (ℕ → Bool) → ℕ → ℕ
least f zero = 0
least f (suc n) = cond (ltb (least f n) n) (least f n) (cond (f n) n (suc n))

-- what f gives below n, in a row
unfoldable pub tab : {A : Type 0} → (ℕ → A) → ℕ → List A
tab f zero = []
tab f (suc n) = tab f n ++ (f n ∷ [])

-- a after the turns 0 to n - 1
unfoldable pub iter : {A : Type 0} → (ℕ → A → A) → A → ℕ → A
iter f a zero = a
iter f a (suc n) = f n (iter f a n)

-- a after f at each number below n that is in w, rising
unfoldable pub over : {A : Type 0} → (A → ℕ → A) → A → ℕ → ℕ → A
over f a w zero = a
over f a w (suc n) = cond (has w n) (f (over f a w n) n) (over f a w n)
