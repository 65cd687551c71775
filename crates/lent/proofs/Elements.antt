-- One element of an array that is a field of a lent struct: what a walk over the read or the store of it needs, whatever the struct and the element's type are.
--     Lies             where an array lies that is a field of a struct, in the struct and in its raw form. The numbers are written at each use: those that antt finds are long terms
--     elem             element k of an array's cell that a `Part` finds, as `Types/Part.antt`'s `sub` is for a field of a struct's
--     unraw, as-raw    what lies behind a reference is a cell at the raw form of its type: it is found as a cell at the type; and what lies in a local the other way round
--     spelled          the machine values of an array's elements
--     put_in           what the array with x at k owes, from what the array owes and x's relation
--     in-word          the number of bytes before element k is a number of 64 bits
--     store-elem, look-elem    the store of x at k, which leaves the array's machine value with x's there, as it is spelled; and the read of what is at k
--     elem-part, store-part    the same of a part of element k
-- Assumes `Logic`.
use mathlib.Core.Path.{◌≡◌, refl, sym, ap, ◌∙◌, subst}
use Prim.Native.Nat.{ℕ, zero, suc, ◌+◌, ◌*◌, ◌^◌, ◌<◌}
use native.Mathlib.Nat.{not-suc-le-zero, le_of_suc-le-suc, le_of_lt, lt_of_le_of_lt, mul-le-mul_right}
use mathlib.Core.Option.{some}
use mathlib.Core.List.{List, [], ◌∷◌, map}
use lib.Dec.{T, ltb, ltb→lt}
use lib.ListN.{length, get_or, set, length-map, length-set}
use lib.Seq.{set-get_or}
use seplogic.Ra.Ura.{Ura}
use base.Fraction.{full_share}
use mir.Syntax.{Ty, ty_array, w64}
use mir.Raw.{raw as raw_ty}
use mir.Val.{Val, vunit, vbool, vint, vfloat, vptr, vstruct, vcode, Fits, WT, has_ty}
use mir.Fields.{set_v}
use base.Logic.{SProp, ent, sep, wand, all, all_e, apply∗}
use base.Fml.{Share, fat}
use prog.Memory.{size, field_of}
use prog.Model.{elems}
use types.Logic.{Logic}
use types.Kit.{Item, ‵, raw, ◌⊛◌, mean, nth, put, ◌$◌, ◌∵◌, !, qed, move, use1, use2, split, assume, frame, each, done}
use types.Run.{Writes, Reads}
use types.Part.{Part, store_in, look_in}
use denote.Shadow.{shadow}
use denote.Laws.{Is}
use denote.Array.{Array, array_val}
use denote.Array as array
use denote.Index.{place, place_is}
use denote.Steps.{only}
use denote.Struct.Field.{Field}
use denote.Struct.Laws.{FLaws}

-- the raw form of an array's type
abbrev pub raw_array : Ty → ℕ → Ty
raw_array τ n = ty_array (raw_ty τ) n

-- field k of the struct σ is an array of n elements of the type τ, d bytes after the struct's beginning
abbrev pub Lies : Ty → (k : ℕ) → Ty → (n d : ℕ) → Type 0
Lies σ k τ n d = (field_of σ k ≡ some (ty_array τ n, d)) × (field_of (raw_ty σ) k ≡ some (raw_array τ n, d))

-- ---- an element's cell

-- the cell with any value u gives back the entry, as `back u`
abbrev Way : {M : Type 1} {𝓤 : Ura M} (𝓛 : Logic 𝓤) → Share → Ty → ℕ → ℕ → (Val → Item 𝓤) → Val → SProp 𝓤
Way {𝓤 = 𝓤} 𝓛 q τ b o back u = wand 𝓤 (𝓛.H.at q τ b o u) (mean 𝓛 (back u))

module _ {M : Type 1} {𝓤 : Ura M} (𝓛 : Logic 𝓤) (q : Share) (τ : Ty) where
  -- the elements' cells, with any value u at k
  open 𝓛 use {H}

  abbrev Back : List Val → ℕ → ℕ → ℕ → Val → SProp 𝓤
  Back us k b o = Way 𝓛 q τ b (place (size τ) o k) (λ u. raw (elems 𝓤 H q τ b o (set us k u)))

  elem_out : (us : List Val) (k b o : ℕ) → k < length us → ent 𝓤 (elems 𝓤 H q τ b o us) (sep 𝓤 (H.at q τ b (place (size τ) o k) (get_or us k vunit)) (all 𝓤 (Back us k b o)))
  elem_out [] k b o l = absurd (not-suc-le-zero l)
  elem_out (u ∷ us) zero b o l = qed 𝓛 (‵ (fat q τ b o u) ∷ raw (elems 𝓤 H q τ b (o + size τ) us) ∷ []) ∵ frame ! $ each ! (Back (u ∷ us) zero b o) (λ w. assume ! (‵ (fat q τ b o w)) $ done !)
  elem_out (u ∷ us) (suc k) b o l =
      qed 𝓛 (‵ (fat q τ b o u) ∷ raw (elems 𝓤 H q τ b (o + size τ) us) ∷ []) ∵ move ! (1 ∷ []) $
      use1 𝓛 (‵ (fat q τ b (place (size τ) (o + size τ) k) (get_or us k vunit)) ⊛ raw (all 𝓤 (Back us k b (o + size τ)))) (elem_out us k b (o + size τ) (le_of_suc-le-suc l)) $ split ! $ frame ! $
      each ! (Back (u ∷ us) (suc k) b o) (λ w. assume ! (‵ (fat q τ b (place (size τ) (o + size τ) k) w)) $
      -- the element's cell with w; the way back to the later elements' cells; the first element's cell
      move ! (1 ∷ []) $ use1 𝓛 (raw (Back us k b (o + size τ) w)) (all_e 𝓤 (Back us k b (o + size τ)) w) $ move ! (1 ∷ 0 ∷ []) $
      use2 𝓛 (raw (elems 𝓤 H q τ b (o + size τ) (set us k w))) (apply∗ 𝓤 (H.at q τ b (place (size τ) (o + size τ) k) w) (elems 𝓤 H q τ b (o + size τ) (set us k w))) $ move ! (1 ∷ 0 ∷ []) $ done !)

module _ {M : Type 1} {𝓤 : Ura M} {𝓛 : Logic 𝓤} {K : Type 0} where
  -- a cell that is one of another type too, and the other way round
  open 𝓛 use {H}

  also : {i : Item 𝓤} {q : Share} {σ τ : Ty} {b o : ℕ} {v : Val} {back : Val → Item 𝓤} → ((u : Val) → ent 𝓤 (H.at q σ b o u) (H.at q τ b o u)) → ((u : Val) → ent 𝓤 (H.at q τ b o u) (H.at q σ b o u))
      → Part K 𝓛 i q σ b o v back → Part K 𝓛 i q τ b o v back
  also {i} {q} {σ} {τ} {b} {o} {v} {back} to from p = record {
    out = qed 𝓛 (i ∷ []) ∵ use1 𝓛 (‵ (fat q σ b o v) ⊛ raw (all 𝓤 (Way 𝓛 q σ b o back))) p.out $ split ! $
        use1 𝓛 (‵ (fat q τ b o v)) (to v) $ frame ! $
        each ! (Way 𝓛 q τ b o back) (λ u. assume {P = mean 𝓛 (back u)} ! (‵ (fat q τ b o u)) $
        use1 𝓛 (‵ (fat q σ b o u)) (from u) $ move ! (1 ∷ []) $
        use1 𝓛 (raw (Way 𝓛 q σ b o back u)) (all_e 𝓤 (Way 𝓛 q σ b o back) u) $ move ! (1 ∷ 0 ∷ []) $
        use2 𝓛 (back u) (apply∗ 𝓤 (H.at q σ b o u) (mean 𝓛 (back u))) $ done !);
    same = p.same;
  }

  pub unraw : K → {i : Item 𝓤} {q : Share} {τ : Ty} {b o : ℕ} {v : Val} {back : Val → Item 𝓤} → Part K 𝓛 i q (raw_ty τ) b o v back → Part K 𝓛 i q τ b o v back
  unraw t {i} {q} {τ} {b} {o} = also (λ u. 𝓛.laws.raw_at q τ b o u) (λ u. 𝓛.laws.at_raw q τ b o u)

  pub as-raw : K → {i : Item 𝓤} {q : Share} {τ : Ty} {b o : ℕ} {v : Val} {back : Val → Item 𝓤} → Part K 𝓛 i q τ b o v back → Part K 𝓛 i q (raw_ty τ) b o v back
  as-raw t {i} {q} {τ} {b} {o} = also (λ u. 𝓛.laws.at_raw q τ b o u) (λ u. 𝓛.laws.raw_at q τ b o u)

  -- it lies k elements after the array's beginning
  pub elem : K → {i : Item 𝓤} {q : Share} {τ : Ty} {n b o : ℕ} {back : Val → Item 𝓤} (us : List Val) (k : ℕ) → length us ≡ n → k < n
      → Part K 𝓛 i q (ty_array τ n) b o (array_val us) back → Part K 𝓛 i q τ b (k * size τ + o) (get_or us k vunit) (λ u. back (array_val (set us k u)))
  elem t {i} {q} {τ} {n} {b} {o} {back} us k e l p = subst (λ (d : ℕ). Part K 𝓛 i q τ b d (get_or us k vunit) (λ u. back (array_val (set us k u)))) (place_is (size τ) o k) (record {
    out = qed 𝓛 (i ∷ []) ∵ use1 𝓛 (‵ (fat q (ty_array τ n) b o (array_val us)) ⊛ raw (all 𝓤 (Way 𝓛 q (ty_array τ n) b o back))) p.out $ split ! $
        use1 𝓛 (raw (elems 𝓤 H q τ b o us)) (𝓛.laws.at_elems q τ n b o us) $
        use1 𝓛 (‵ (fat q τ b (place (size τ) o k) (get_or us k vunit)) ⊛ raw (all 𝓤 (Back 𝓛 q τ us k b o))) (elem_out 𝓛 q τ us k b o (subst (λ (m : ℕ). k < m) (sym e) l)) $ split ! $ frame ! $
        each ! (Way 𝓛 q τ b (place (size τ) o k) (λ u. back (array_val (set us k u)))) (λ u. assume {P = mean 𝓛 (back (array_val (set us k u)))} ! (‵ (fat q τ b (place (size τ) o k) u)) $
        -- the element's cell with u; the way back to the elements' cells; the way back to the entry
        move ! (1 ∷ []) $ use1 𝓛 (raw (Back 𝓛 q τ us k b o u)) (all_e 𝓤 (Back 𝓛 q τ us k b o) u) $ move ! (1 ∷ 0 ∷ []) $
        use2 𝓛 (raw (elems 𝓤 H q τ b o (set us k u))) (apply∗ 𝓤 (H.at q τ b (place (size τ) o k) u) (elems 𝓤 H q τ b o (set us k u))) $
        use1 𝓛 (‵ (fat q (ty_array τ n) b o (array_val (set us k u)))) (subst (λ (m : ℕ). ent 𝓤 (elems 𝓤 H q τ b o (set us k u)) (H.at q (ty_array τ m) b o (array_val (set us k u)))) (length-set us k u ∙ e) (𝓛.laws.elems_at q τ b o (set us k u))) $
        move ! (1 ∷ []) $ use1 𝓛 (raw (Way 𝓛 q (ty_array τ n) b o back (array_val (set us k u)))) (all_e 𝓤 (Way 𝓛 q (ty_array τ n) b o back) (array_val (set us k u))) $ move ! (1 ∷ 0 ∷ []) $
        use2 𝓛 (back (array_val (set us k u))) (apply∗ 𝓤 (H.at q (ty_array τ n) b o (array_val (set us k u))) (mean 𝓛 (back (array_val (set us k u))))) $ done !);
    same = ap (λ (ws : List Val). back (array_val ws)) (set-get_or us k vunit) ∙ p.same;
  })

-- ---- an array of a field's values

map-set : {X Y : Type 0} (f : X → Y) (xs : List X) (k : ℕ) (x : X) → map f (set xs k x) ≡ set (map f xs) k (f x)
map-set f [] k x = refl
map-set f (y ∷ xs) zero x = refl
map-set {X} {Y} f (y ∷ xs) (suc k) x = ap {B = List Y} (λ ys. f y ∷ ys) (map-set f xs k x)

module _ (F : Field) (L : FLaws F) where
  abbrev pub spelled : List F.Value → List Val
  spelled xs = map L.val (map F.into xs)

  -- x is related to the machine value u, and the n elements xs to theirs
  abbrev pub At : F.Value → Val → Type 0
  At x u = Is F.row (F.into x) (u ∷ [])

  abbrev pub Are : ℕ → List F.Value → Type 0
  Are n xs = Is (Array F.row n) (map F.into xs) (array_val (spelled xs) ∷ [])

  abbrev Each : List F.Value → List Val → Type 0
  Each xs us = shadow (array.each F.row.Denot F.row.own_val (map F.into xs) us)

  -- u is x's machine value, as it is spelled
  told : (x : F.Value) (u : Val) → At x u → u ≡ L.val (F.into x)
  told x u is = ap only (L.tells (F.into x) (u ∷ []) is)

  spelled-set : (xs : List F.Value) (k : ℕ) (x : F.Value) (u : Val) → At x u → set (spelled xs) k u ≡ spelled (set xs k x)
  spelled-set xs k x u is = ap (set (spelled xs) k) (told x u is) ∙ sym (ap (map L.val) (map-set F.into xs k x) ∙ map-set L.val (map F.into xs) k (F.into x))

  one-is : (x : F.Value) (u : Val) → At x u → At x (L.val (F.into x))
  one-is x u is = subst (At x) (told x u is) is

  each-is : (xs : List F.Value) (us : List Val) → Each xs us → Each xs (spelled xs)
  each-is [] us s = tt
  each-is (x ∷ xs) [] s = absurd s
  each-is (x ∷ xs) (u ∷ us) s = (one-is x u s.0, each-is xs us s.1)

  each_set : (xs : List F.Value) (us : List Val) (k : ℕ) (x : F.Value) (u : Val) → Each xs us → At x u → Each (set xs k x) (spelled (set xs k x))
  each_set [] us k x u s is = tt
  each_set (y ∷ xs) [] k x u s is = absurd s
  each_set (y ∷ xs) (w ∷ us) zero x u s is = (one-is x u is, each-is xs us s.1)
  each_set (y ∷ xs) (w ∷ us) (suc k) x u s is = (one-is y w s.0, each_set xs us k x u s.1 is)

  count : (n : ℕ) (xs : List F.Value) → Are n xs → length (spelled xs) ≡ n
  count n xs s = length-map (map F.into xs) L.val ∙ s.1.0.1

  pub put_in : (n : ℕ) (xs : List F.Value) (k : ℕ) (x : F.Value) (u : Val) → Are n xs → At x u → Are n (set xs k x)
  put_in n xs k x u s is = (spelled (set xs k x), ((refl, length-map (set xs k x) F.into ∙ length-set xs k x ∙ sym (length-map xs F.into) ∙ s.1.0.1), each_set xs s.0 k x u s.1.1 is))

  nth-is : (xs : List F.Value) (us : List Val) (k : ℕ) (d : F.Value) → k < length xs → Each xs us → At (get_or xs k d) (L.val (F.into (get_or xs k d)))
  nth-is [] us k d l s = absurd (not-suc-le-zero l)
  nth-is (x ∷ xs) [] k d l s = absurd s
  nth-is (x ∷ xs) (u ∷ us) zero d l s = one-is x u s.0
  nth-is (x ∷ xs) (u ∷ us) (suc k) d l s = nth-is xs us k d (le_of_suc-le-suc l) s.1

  nth-val : (xs : List F.Value) (k : ℕ) (d : F.Value) → k < length xs → get_or (spelled xs) k vunit ≡ L.val (F.into (get_or xs k d))
  nth-val [] k d l = absurd (not-suc-le-zero l)
  nth-val (x ∷ xs) zero d l = refl
  nth-val (x ∷ xs) (suc k) d l = nth-val xs k d (le_of_suc-le-suc l)

  within : (n : ℕ) (xs : List F.Value) (k : ℕ) → Are n xs → k < n → k < length xs
  within n xs k s l = subst (λ (m : ℕ). k < m) (sym s.1.0.1 ∙ length-map xs F.into) l

  pub elem_is : (n : ℕ) (xs : List F.Value) (k : ℕ) (d : F.Value) → Are n xs → k < n → At (get_or xs k d) (L.val (F.into (get_or xs k d)))
  elem_is n xs k d s l = nth-is xs s.0 k d (within n xs k s l) s.1.1

  pub elem-val : (n : ℕ) (xs : List F.Value) (k : ℕ) (d : F.Value) → Are n xs → k < n → get_or (spelled xs) k vunit ≡ L.val (F.into (get_or xs k d))
  elem-val n xs k d s l = nth-val xs k d (within n xs k s l)

-- ---- the store

pub in_word : (n c k : ℕ) → T (ltb (n * c) (2 ^ 64)) → k < n → Fits w64 (k * c)
in_word n c k t l = record { fits = lt_of_le_of_lt (mul-le-mul_right c (le_of_lt l)) (ltb→lt (n * c) (2 ^ 64) t) }

-- entry e of the context has the array's cell within it, and has it with x at k
module _ {M : Type 1} {𝓤 : Ura M} {𝓛 : Logic 𝓤} {K : Type 0} {Γ : List (Item 𝓤)} where
  pub store-elem : K → (e : ℕ) (F : Field) (L : FLaws F) (n : ℕ) (xs : List F.Value) (k : ℕ) (x : F.Value) {u : Val} → Are F L n xs → k < n → At F L x u → {τ : Ty} {b o : ℕ} {back : Val → Item 𝓤}
      → Part K 𝓛 (nth 𝓛 e Γ) full_share (raw_array τ n) b o (array_val (spelled F L xs)) back → T (has_ty τ u) × WT u
      → Writes K 𝓛 Γ τ b (k * size (raw_ty τ) + o) u (put 𝓛 e (back (array_val (spelled F L (set xs k x)))) Γ)
  store-elem t e F L n xs k x {u} are l is {τ} {b} {o} {back} p wt =
      subst (λ (us : List Val). Writes K 𝓛 Γ τ b (k * size (raw_ty τ) + o) u (put 𝓛 e (back (array_val us)) Γ)) (spelled-set F L xs k x u is)
      (store_in t e (unraw t (elem t (spelled F L xs) k (count F L n xs are) l p)) wt)

  -- the same of a share of it: element k is read
  pub look-elem : K → (e : ℕ) (F : Field) (L : FLaws F) (n : ℕ) (xs : List F.Value) (k : ℕ) (d : F.Value) → Are F L n xs → k < n → {q : Share} {τ : Ty} {b o : ℕ} {back : Val → Item 𝓤}
      → Part K 𝓛 (nth 𝓛 e Γ) q (raw_array τ n) b o (array_val (spelled F L xs)) back → Reads K 𝓛 Γ τ b (k * size (raw_ty τ) + o) (L.val (F.into (get_or xs k d)))
  look-elem t e F L n xs k d are l {q} {τ} {b} {o} {back} p =
      subst (λ (u : Val). Reads K 𝓛 Γ τ b (k * size (raw_ty τ) + o) u) (elem-val F L n xs k d are l) (look_in t e (unraw t (elem t (spelled F L xs) k (count F L n xs are) l p)))

  -- entry e of the context has the cell of a field within it, at the raw form of its type: the field is read, as u
  pub look-field : K → (e : ℕ) {q : Share} {τ : Ty} {b o : ℕ} {v : Val} {back : Val → Item 𝓤} (u : Val) → v ≡ u → Part K 𝓛 (nth 𝓛 e Γ) q (raw_ty τ) b o v back → Reads K 𝓛 Γ τ b o u
  look-field t e {q} {τ} {b} {o} {v} {back} u same p = subst (λ (w : Val). Reads K 𝓛 Γ τ b o w) same (look_in t e (unraw t p))

  -- the store of a part of element k, which makes it y, where w is what the element's machine value becomes. It leaves the array's machine value with y's there, as it is spelled
  pub store-part : K → (e : ℕ) (F : Field) (L : FLaws F) (xs : List F.Value) (k : ℕ) (y : F.Value) (w : Val → Val) (back : Val → Item 𝓤) {u : Val} → At F L y (w u) → {τ : Ty} {b o : ℕ} {v₀ : Val}
      → Part K 𝓛 (nth 𝓛 e Γ) full_share τ b o v₀ (λ z. back (array_val (set (spelled F L xs) k (w z)))) → T (has_ty τ u) × WT u
      → Writes K 𝓛 Γ τ b o u (put 𝓛 e (back (array_val (spelled F L (set xs k y)))) Γ)
  store-part t e F L xs k y w back {u} is {τ} {b} {o} {v₀} p wt =
      subst (λ (us : List Val). Writes K 𝓛 Γ τ b o u (put 𝓛 e (back (array_val us)) Γ)) (spelled-set F L xs k y (w u) is) (store_in t e p wt)

module _ {M : Type 1} {𝓤 : Ura M} {𝓛 : Logic 𝓤} {K : Type 0} where
  -- element k, found as the value that it is: a field of it can be read or stored
  pub elem-part : K → (F : Field) (L : FLaws F) (n : ℕ) (xs : List F.Value) (k : ℕ) (d : F.Value) (τ : Ty) → Are F L n xs → k < n → {i : Item 𝓤} {q : Share} {b o : ℕ} {back : Val → Item 𝓤}
      → Part K 𝓛 i q (raw_array τ n) b o (array_val (spelled F L xs)) back
      → Part K 𝓛 i q (raw_ty τ) b (k * size (raw_ty τ) + o) (L.val (F.into (get_or xs k d))) (λ u. back (array_val (set (spelled F L xs) k u)))
  elem-part t F L n xs k d τ are l {i} {q} {b} {o} {back} p =
      subst (λ (u : Val). Part K 𝓛 i q (raw_ty τ) b (k * size (raw_ty τ) + o) u (λ w. back (array_val (set (spelled F L xs) k w)))) (elem-val F L n xs k d are l) (elem t (spelled F L xs) k (count F L n xs are) l p)

-- a struct's machine value with u in the place of its field k
abbrev pub with_field : Val → (k : ℕ) → Val → Val
with_field vunit k u = u
with_field (vbool t) k u = u
with_field (vint w n) k u = u
with_field (vfloat f x) k u = u
with_field (vptr b o) k u = u
with_field (vcode c) k u = u
with_field (vstruct vs) k u = vstruct (set_v vs k u)
