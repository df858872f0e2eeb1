-- Lists of which parts are empty.
use mathlib.Core.List.Memᴰ
use mathlib.Core.List.{List, [], ◌∷◌, ◌++◌, append-nil}
use mathlib.Core.Logic.{◌⊎◌, inl, inr}
use mathlib.Core.Path.{◌≡◌, refl, sym, ap, ap₂, ◌∙◌}
use Prim.Native.Nat.{ℕ, ◌+◌, ◌-◌, ◌≤◌, ◌<◌}
use native.Mathlib.Nat.{zero-add}
use native.Mathlib.Omega.{arith}
use Rattle.lists.specs.List.{◌∈◌, concat_map}
use Rattle.lists.specs.Range.{range}
use Rattle.lists.proofs.List.{range_append, range_mem, concat_map_append}

module _ {A B : Type 0} (f : A → List B) where
  pub concat_map_none : (l : List A) → ((x : A) → x ∈ l → f x ≡ []) → concat_map f l ≡ []
  concat_map_none [] h = refl
  concat_map_none (x ∷ xs) h = ap₂ ◌++◌ (h x (Memᴰ.head refl)) (concat_map_none xs (λ y m. h y (Memᴰ.tail m)))

  pub concat_map_same : (g : A → List B) (l : List A) → ((x : A) → x ∈ l → f x ≡ g x) → concat_map f l ≡ concat_map g l
  concat_map_same g [] h = refl
  concat_map_same g (x ∷ xs) h = ap₂ ◌++◌ (h x (Memᴰ.head refl)) (concat_map_same g xs (λ y m. h y (Memᴰ.tail m)))

-- each element gives itself
pub concat_map_itself : {A : Type 0} (f : A → List A) (l : List A) → ((x : A) → x ∈ l → f x ≡ x ∷ []) → concat_map f l ≡ l
concat_map_itself f [] h = refl
concat_map_itself f (x ∷ xs) h = ap₂ ◌++◌ (h x (Memᴰ.head refl)) (concat_map_itself f xs (λ y m. h y (Memᴰ.tail m)))

pub concat_map_concat_map : {A B C : Type 0} (g : B → List C) (f : A → List B) (l : List A)
    → concat_map g (concat_map f l) ≡ concat_map (λ x. concat_map g (f x)) l
concat_map_concat_map g f [] = refl
concat_map_concat_map g f (x ∷ xs) = concat_map_append g (f x) (concat_map f xs) ∙ ap (λ l. concat_map g (f x) ++ l) (concat_map_concat_map g f xs)

-- a stretch of numbers outside of which a function gives nothing
pub concat_map_stretch : {B : Type 0} (f : ℕ → List B) (from past n : ℕ) → from ≤ past → past ≤ n
    → ((k : ℕ) → k < n → (k < from) ⊎ (past ≤ k) → f k ≡ []) → concat_map f (range from (past - from)) ≡ concat_map f (range 0 n)
concat_map_stretch f from past n l h none =
    let d = past - from in
    let n_is : from + (d + (n - past)) ≡ n = omega arith in
    sym
    (rw (← n_is) (ap (concat_map f) (range_append 0 from (d + (n - past)) ∙ ap (λ (r : List ℕ). range 0 from ++ r) (range_append (0 + from) d (n - past)))
    ∙ concat_map_append f (range 0 from) (range (0 + from) d ++ range (0 + from + d) (n - past))
    ∙ ap₂ ◌++◌ (concat_map_none f (range 0 from) (λ k m. let (a, b) = range_mem 0 from k m in none k (omega arith) (inl (omega arith))))
    (concat_map_append f (range (0 + from) d) (range (0 + from + d) (n - past))
    ∙ ap₂ ◌++◌ (ap (λ (k : ℕ). concat_map f (range k d)) (zero-add from))
    (concat_map_none f (range (0 + from + d) (n - past)) (λ k m. let (a, b) = range_mem (0 + from + d) (n - past) k m in none k (omega arith) (inr (omega arith))))
    ∙ append-nil (concat_map f (range from d)))))
