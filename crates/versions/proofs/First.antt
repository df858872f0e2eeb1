-- The first element that is new: it is found, and none is found where none is.
use mathlib.Core.List.{List, [], ◌∷◌, ◌++◌, append_assoc}
use mathlib.Core.Bool.{Bool}
use mathlib.Core.Logic.{◌↔◌}
use mathlib.Core.Option.{Option, none, some}
use mathlib.Core.Path.{◌≡◌, refl, sym, ap, ◌∙◌}
use Prim.Native.Nat.{ℕ}
use native.Mathlib.Omega.{arith}
use Rattle.lists.specs.List.{Every, concat_map}
use Rattle.lists.proofs.List.{every_none, every_cons, every_head, every_tail, concat_map_append}
use Rattle.lists.proofs.Reflect.{Reflect, cond_true, cond_false, cond_cases}
use Rattle.versions.specs.Carry.{before_first}
use Rattle.versions.specs.Carries.{FirstNew}

pub not_some : {A : Type 0} (x : A) → some x ≡ none → ⊥
not_some x e = let z : ◌≡◌ {A = ℕ} 0 1 = cc in omega arith

regroup : (a b c d : List ℕ) → (a ++ b) ++ (c ++ d) ≡ a ++ ((b ++ c) ++ d)
regroup a b c d = simp append_assoc

module _ {A : Type 0} (New : A → Type 0) (test : A → Bool) (r : (x : A) → Reflect (New x) (test x)) (ahead numbers : A → List ℕ) where
  abbrev First : List ℕ → List A → List ℕ → Type 0
  First = FirstNew New ahead numbers

  abbrev found : List ℕ → List A → Option (List ℕ)
  found = before_first test ahead numbers

  first_found : (so_far : List ℕ) (xs : List A) (before : List ℕ) → found so_far xs ≡ some before → First so_far xs before
  first_found so_far [] before e = absurd (not_some before (sym e))
  first_found so_far (x ∷ xs) before e =
      cond_cases (λ o. o ≡ some before → First so_far (x ∷ xs) before) (r x)
      (λ k z. record { earlier = []; first = x; later = xs; all_are = refl; none_new = every_none (λ y. ¬ New y); new = k; before_is = cc })
      (λ k z.
      let t = first_found (so_far ++ numbers x) xs before z in
      record {
        earlier = x ∷ t.earlier;
        first = t.first;
        later = t.later;
        all_are = ap (λ (l : List A). x ∷ l) t.all_are;
        none_new = every_cons (λ y. ¬ New y) k t.none_new;
        new = t.new;
        before_is = sym (regroup so_far (numbers x) (concat_map numbers t.earlier) (ahead t.first)) ∙ t.before_is;
      }) e

  found_first : (so_far : List ℕ) (earlier : List A) (x : A) (later : List A) → Every (λ y. ¬ New y) earlier → New x
      → found so_far (earlier ++ (x ∷ later)) ≡ some (so_far ++ (concat_map numbers earlier ++ ahead x))
  found_first so_far [] x later old k = cond_true (test x) (some (so_far ++ ahead x)) (found (so_far ++ numbers x) later) ((r x).tests k)
  found_first so_far (y ∷ ys) x later old k =
      cond_false (test y) (some (so_far ++ ahead y)) (found (so_far ++ numbers y) (ys ++ (x ∷ later))) (λ t. every_head old ((r y).holds t))
      ∙ found_first (so_far ++ numbers y) ys x later (every_tail old) k
      ∙ ap some (regroup so_far (numbers y) (concat_map numbers ys) (ahead x))

  -- the numbers that are found are those before the first that is new
  pub first_exact : (so_far : List ℕ) (xs : List A) (before : List ℕ) → (found so_far xs ≡ some before) ↔ First so_far xs before
  first_exact so_far xs before = (
    first_found so_far xs before,
    λ k. ap (found so_far) k.all_are ∙ found_first so_far k.earlier k.first k.later k.none_new k.new ∙ ap some k.before_is,
  )

  none_found : (so_far : List ℕ) (xs : List A) → found so_far xs ≡ none → Every (λ x. ¬ New x) xs
  none_found so_far [] e = every_none (λ x. ¬ New x)
  none_found so_far (x ∷ xs) e =
      cond_cases (λ o. o ≡ none → Every (λ y. ¬ New y) (x ∷ xs)) (r x) (λ k z. absurd (not_some (so_far ++ ahead x) z))
      (λ k z. every_cons (λ y. ¬ New y) k (none_found (so_far ++ numbers x) xs z)) e

  found_none : (so_far : List ℕ) (xs : List A) → Every (λ x. ¬ New x) xs → found so_far xs ≡ none
  found_none so_far [] old = refl
  found_none so_far (x ∷ xs) old =
      cond_false (test x) (some (so_far ++ ahead x)) (found (so_far ++ numbers x) xs) (λ t. every_head old ((r x).holds t))
      ∙ found_none (so_far ++ numbers x) xs (every_tail old)

  -- none is found where none is new
  pub none_exact : (so_far : List ℕ) (xs : List A) → (found so_far xs ≡ none) ↔ Every (λ x. ¬ New x) xs
  none_exact so_far xs = (none_found so_far xs, found_none so_far xs)

-- the number that is new stands behind them
pub first_splits : {A : Type 0} {New : A → Type 0} {ahead numbers : A → List ℕ} {so_far : List ℕ} {xs : List A} {before : List ℕ}
    (k : FirstNew New ahead numbers so_far xs before) (n : ℕ) (rest : List ℕ) → numbers k.first ≡ ahead k.first ++ (n ∷ rest)
    → so_far ++ concat_map numbers xs ≡ before ++ (n ∷ (rest ++ concat_map numbers k.later))
first_splits {A} {ahead = ahead} {numbers = numbers} {so_far = so_far} k n rest e =
    let behind = concat_map numbers k.later in
    ap (λ (l : List A). so_far ++ concat_map numbers l) k.all_are
    ∙ ap (λ (l : List ℕ). so_far ++ l) (concat_map_append numbers k.earlier (k.first ∷ k.later))
    ∙ ap (λ (l : List ℕ). so_far ++ (concat_map numbers k.earlier ++ (l ++ behind))) e
    ∙ reorder so_far (concat_map numbers k.earlier) (ahead k.first) (n ∷ rest) behind
    ∙ ap (λ (l : List ℕ). l ++ (n ∷ (rest ++ behind))) k.before_is
  where
    reorder : (a b c d e : List ℕ) → a ++ (b ++ ((c ++ d) ++ e)) ≡ (a ++ (b ++ c)) ++ (d ++ e)
    reorder a b c d e = simp append_assoc
