-- Reading one after the other, without the values: what is left to read from a place.
use mathlib.Core.List.{List, [], ◌∷◌}
use mathlib.Core.Path.{◌≡◌, refl, sym, ap, ◌∙◌}
use Prim.Native.Nat.{ℕ, zero, suc, ◌+◌, ◌-◌, ◌≤◌, ◌<◌}
use native.Mathlib.Omega.{arith}
use lib.ListN.{length}
use Rattle.format.specs.Parser.{Reason, Parsed, parsed, fault, Parser, onward, many}
use Rattle.format.proofs.Parsing.{not_fault, then}
use Rattle.reader.specs.Number.{without_value}

-- what was read, from where it ended
pub remembered : {A : Type 0} (x : Parsed A) (next : ℕ) → without_value x ≡ parsed tt next → (v : A) × (x ≡ parsed v next)
remembered (parsed v k) next e = let z : k ≡ next = cc in (v, ap (parsed v) z)
remembered (fault why place) next e = absurd (not_fault tt next why place e)

pub without_value_fault : {A : Type 0} (x : Parsed A) (why : Reason) (place : ℕ) → without_value x ≡ fault why place → x ≡ fault why place
without_value_fault (parsed v k) why place e = absurd (not_fault tt k why place (sym e))
without_value_fault (fault k q) why place e = let z : k ≡ why = cc in let y : q ≡ place = cc in cc

pub bind_assoc : {A B C : Type 0} (x : Parsed A) (k : A → Parser B) (l : B → Parser C) → onward (onward x k) l ≡ onward x (λ v at. onward (k v at) l)
bind_assoc (parsed v next) k l = refl
bind_assoc (fault why place) k l = refl

pub without_value_onward : {A B C : Type 0} (x : Parsed A) (k : A → Parser B) (l : A → Parser C) → ((v : A) (next : ℕ) → without_value (k v next) ≡ without_value (l v next))
    → without_value (onward x k) ≡ without_value (onward x l)
without_value_onward (parsed v next) k l h = h v next
without_value_onward (fault why place) k l h = refl

-- a value made of what was read
pub without_value_made : {A B : Type 0} (x : Parsed A) (f : A → B) → without_value x ≡ without_value (onward x (λ v next. parsed (f v) next))
without_value_made (parsed v next) f = refl
without_value_made (fault why place) f = refl

module _ {A : Type 0} (p : Parser A) where
  pub many_suc : (k at : ℕ) → many (suc k) p at ≡ onward (p at) (λ x mid. onward (many k p mid) (λ xs next. parsed (x ∷ xs) next))
  unfolding many
  many_suc k at = refl

  pub more : (k at next : ℕ) → without_value (p at) ≡ parsed tt next → without_value (many (suc k) p at) ≡ without_value (many k p next)
  more k at next e =
      let (x, g) = remembered (p at) next e in
      rw (many_suc k at, g) (sym (without_value_made (many k p next) (λ (xs : List A). x ∷ xs)))

  pub many_length : (k at : ℕ) (xs : List A) (next : ℕ) → many k p at ≡ parsed xs next → length xs ≡ k
  unfolding many
  many_length zero at xs next e = let xs_are : [] ≡ xs = cc in ap length (sym xs_are)
  many_length (suc k) at xs next e =
      then (p at) _
      (λ x mid h₁. then (many k p mid) _
      (λ ys last h₂ r.
      let xs_are : x ∷ ys ≡ xs = cc in
      ap length (sym xs_are) ∙ ap suc (many_length k mid ys last h₂)))
      e

  -- the same places, where each value is left out as it is read
  pub many_places : (k at : ℕ) → without_value (many k (λ a. without_value (p a)) at) ≡ without_value (many k p at)
  unfolding many
  many_places zero at = refl
  many_places (suc k) at = go (p at) refl (many_places k)
    where
      go : (x : Parsed A) → p at ≡ x → ((next : ℕ) → without_value (many k (λ a. without_value (p a)) next) ≡ without_value (many k p next))
          → without_value (many (suc k) (λ a. without_value (p a)) at) ≡ without_value (many (suc k) p at)
      go (parsed v next) e later =
          rw e
          (sym (without_value_made (many k (λ a. without_value (p a)) next) (λ (us : List (Unit {0})). tt ∷ us))
          ∙ later next
          ∙ without_value_made (many k p next) (λ (xs : List A). v ∷ xs))
      go (fault why place) e later = rw e refl

  -- ---- a loop that has read i of n from `first` on, and is at a place

  abbrev pub Left : ℕ → ℕ → ℕ → ℕ → Type 0
  Left n first at i = (i ≤ n) × (without_value (many (n - i) p at) ≡ without_value (many n p first))

  pub left_none : (n first : ℕ) → Left n first first 0
  left_none n first = (omega arith, let all : n - 0 ≡ n = omega arith in rw all refl)

  module _ (n first at i : ℕ) (l : Left n first at i) where
    pub left_more : (next : ℕ) → i < n → without_value (p at) ≡ parsed tt next → Left n first next (i + 1)
    left_more next h e =
        let left : n - i ≡ suc (n - (i + 1)) = omega arith in
        (omega arith, sym (ap (λ k. without_value (many k p at)) left ∙ more (n - (i + 1)) at next e) ∙ l.1)

    pub left_lost : (why : Reason) (place : ℕ) → i < n → without_value (p at) ≡ fault why place → fault why place ≡ without_value (many n p first)
    left_lost why place h e =
        let left : n - i ≡ suc (n - (i + 1)) = omega arith in
        let stopped : without_value (many (n - i) p at) ≡ fault why place =
        rw (left, many_suc (n - (i + 1)) at, without_value_fault (p at) why place e) refl in
        sym stopped ∙ l.1

    pub left_all : n ≤ i → parsed tt at ≡ without_value (many n p first)
    unfolding many
    left_all h =
        let none : n - i ≡ 0 = omega arith in
        let done : without_value (many (n - i) p at) ≡ parsed tt at = rw none refl in
        sym done ∙ l.1
