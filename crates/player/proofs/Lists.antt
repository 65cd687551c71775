-- A list taken in portions: of n elements wanted, those that a portion xs has, and then the rest of them from what comes after it. Assumes nothing.
use Rattle.std.proofs.Common.{◌≡◌, ℕ, ◌+◌, ◌-◌, ◌≤◌, min, ltb, List, ◌++◌, length, take, drop, sym, ap, ◌∙◌, append_assoc, arith, length-append, length-drop, take-append-drop, length-take-le, take_all, take-take, drop-drop, le-ltb, lt-ltb}
use native.Mathlib.Decide.{dec_le}
use lib.Seq.{take-append-le, take-append-add, drop-append-le}

module _ (n : ℕ) (xs ys : List ℕ) where
  abbrev k : ℕ
  k = min n (length xs)

  has : k ≤ length xs
  has = omega arith

  pub portion-seam : take k xs ++ (drop k xs ++ ys) ≡ xs ++ ys
  portion-seam = sym (append_assoc (take k xs) (drop k xs) ys) ∙ ap (λ (l : List ℕ). l ++ ys) (take-append-drop k xs)

  pub portion-take : take n (xs ++ ys) ≡ take k xs ++ take (n - k) (drop k xs ++ ys)
  portion-take =
      let e : n ≡ length (take k xs) + (n - k) = omega (arith, length-take-le k xs has) in
      ap (take n) (sym portion-seam)
      ∙ ap (λ (m : ℕ). take m (take k xs ++ (drop k xs ++ ys))) e
      ∙ take-append-add (take k xs) (drop k xs ++ ys) (n - k)

  pub portion-drop : drop n (xs ++ ys) ≡ drop (n - k) (drop k xs ++ ys)
  portion-drop =
      let e : n ≡ k + (n - k) = omega arith in
      ap (λ (m : ℕ). drop m (xs ++ ys)) e
      ∙ sym (drop-drop (n - k) k (xs ++ ys))
      ∙ ap (drop (n - k)) (drop-append-le k xs ys has)

  pub portion-short : ltb (length (xs ++ ys)) n ≡ ltb (length (drop k xs ++ ys)) (n - k)
  portion-short = go (dec_le n (length (xs ++ ys)))
    where
      a : length (xs ++ ys) ≡ length xs + length ys
      a = length-append xs ys

      b : length (drop k xs ++ ys) ≡ (length xs - k) + length ys
      b = length-append (drop k xs) ys ∙ ap (λ (m : ℕ). m + length ys) (length-drop k xs)

      go : Dec (n ≤ length (xs ++ ys)) → ltb (length (xs ++ ys)) n ≡ ltb (length (drop k xs ++ ys)) (n - k)
      go (yes h) = le-ltb (length (xs ++ ys)) n h ∙ sym (le-ltb (length (drop k xs ++ ys)) (n - k) (omega (arith, h, a, b)))
      go (no h) = lt-ltb (length (xs ++ ys)) n (omega (arith, h)) ∙ sym (lt-ltb (length (drop k xs ++ ys)) (n - k) (omega (arith, h, a, b)))

  -- a window of m of which ps are there: what has no room in it is passed over
  pub portion-window : (m : ℕ) (ps : List ℕ) → length ps ≤ m
      → take m (ps ++ take n (xs ++ ys)) ≡ take m ((ps ++ take (min k (m - length ps)) xs) ++ take (n - k) (drop k xs ++ ys))
  portion-window m ps h = go (dec_le k (m - length ps))
    where
      rest : List ℕ
      rest = take (n - k) (drop k xs ++ ys)

      j : ℕ
      j = min k (m - length ps)

      go : Dec (k ≤ m - length ps) → take m (ps ++ take n (xs ++ ys)) ≡ take m ((ps ++ take j xs) ++ rest)
      go (yes e) =
          ap (λ (l : List ℕ). take m (ps ++ l)) portion-take
          ∙ ap (λ (l : List ℕ). take m l) (sym (append_assoc ps (take k xs) rest))
          ∙ ap (λ (i : ℕ). take m ((ps ++ take i xs) ++ rest)) (let f : k ≡ j = omega (arith, e) in f)
      go (no e) =
          let f : m ≡ length ps + j = omega (arith, e, h) in
          let g : j ≡ m - length ps = omega (arith, e) in
          let l : length (take k xs) ≡ k = length-take-le k xs has in
          let q : length (ps ++ take j xs) ≡ m = length-append ps (take j xs) ∙ ap (λ (i : ℕ). length ps + i) (length-take-le j xs (omega (arith, e))) ∙ sym f in
          ap (λ (z : List ℕ). take m (ps ++ z)) portion-take
          ∙ ap (λ (i : ℕ). take i (ps ++ (take k xs ++ rest))) f
          ∙ take-append-add ps (take k xs ++ rest) j
          ∙ ap (λ (z : List ℕ). ps ++ z) (take-append-le j (take k xs) rest (omega (arith, e, l)) ∙ take-take j k xs (omega (arith, e)))
          ∙ sym (take-append-le m (ps ++ take j xs) rest (omega (arith, q)) ∙ take_all m (ps ++ take j xs) (omega (arith, q)))
