-- What the lowest number at which a test fails is, and tests that some number or some member fails.
use mathlib.Core.Bool.{Bool, true, false, ◌&&◌, ◌||◌, not, cond}
use mathlib.Core.List.Memᴰ
use mathlib.Core.List.{List, [], ◌∷◌}
use mathlib.Core.Option.{Option, some, none}
use mathlib.Core.Path.{◌≡◌, refl, sym, ap, subst, ◌∙◌}
use Prim.Native.Nat.{ℕ, zero, suc, ◌+◌, ◌-◌, ◌≤◌, ◌<◌}
use native.Mathlib.Decide.{ℕ_discrete}
use native.Mathlib.Numerals.{add-one}
use native.Mathlib.Omega.{arith}
use lib.Dec.{T}
use Rattle.lists.specs.List.{◌∈◌, disjoint}
use Rattle.lists.specs.Test.{all_from, lowest, number_or}
use Rattle.lists.proofs.List.{mem?, every_cons}
use Rattle.lists.proofs.Test.{and_left, and_right}
use Rattle.lists.proofs.Reflect.{Reflect, passes, r_not, r_all, r_disjoint}

-- nothing from i to i + k fails the test, or n is the lowest that does
abbrev pub Lowest : ℕ → ℕ → (ℕ → Bool) → Option ℕ → Type 0
Lowest k i test none = (j : ℕ) → i ≤ j → j < i + k → test j ≡ true
Lowest k i test (some n) = (i ≤ n) × (n < i + k) × (test n ≡ false) × ((j : ℕ) → i ≤ j → j < n → test j ≡ true)

pub lowest_is : (test : ℕ → Bool) (k i : ℕ) → Lowest k i test (lowest k i test)
unfolding lowest
lowest_is test zero i = λ j l h. absurd (omega arith)
lowest_is test (suc k) i = go (test i) refl (lowest k (suc i) test) (lowest_is test k (suc i))
  where
    first : (P : ℕ → Type 0) → ((j : ℕ) → P j → i ≤ j) → test i ≡ true → ((j : ℕ) → suc i ≤ j → P j → test j ≡ true) → (j : ℕ) → P j → test j ≡ true
    first P low e h j p = at (ℕ_discrete i j)
      where
        at : Dec (i ≡ j) → test j ≡ true
        at (yes z) = subst (λ (m : ℕ). test m ≡ true) z e
        at (no n) = h j (let l = low j p in omega arith) p

    go : (b : Bool) → test i ≡ b → (r : Option ℕ) → Lowest k (suc i) test r → Lowest (suc k) i test (cond b r (some i))
    go true e none h = λ j l b. first (λ j. (i ≤ j) × (j < i + suc k)) (λ j p. p.0) e (λ j l p. h j l (let q = p.1 in omega arith)) j (l, b)
    go true e (some n) (a, b, c, d) =
        (omega arith, omega arith, c, λ j l b. first (λ j. (i ≤ j) × (j < n)) (λ j p. p.0) e (λ j l p. d j l p.1) j (l, b))
    go false e r h = (omega arith, omega arith, e, λ j l b. absurd (omega arith))

pub lowest_none : (test : ℕ → Bool) (k i : ℕ) → ((j : ℕ) → i ≤ j → j < i + k → test j ≡ true) → lowest k i test ≡ none
lowest_none test k i h = go (lowest k i test) (lowest_is test k i)
  where
    go : (o : Option ℕ) → Lowest k i test o → o ≡ none
    go none l = refl
    go (some n) (a, b, c, d) = let z : true ≡ false = sym (h n a b) ∙ c in cc

pub passed_all : (test : ℕ → Bool) (k j : ℕ) → lowest k 0 test ≡ none → j < k → test j ≡ true
passed_all test k j e b = go (lowest k 0 test) e (lowest_is test k 0)
  where
    go : (o : Option ℕ) → o ≡ none → Lowest k 0 test o → test j ≡ true
    go none z l = l j (omega arith) (omega arith)
    go (some n) z l = let q : ◌≡◌ {A = ℕ} 0 1 = cc in absurd (omega arith)

-- ---- what a search among k numbers that starts at 0 found, where k stands for nothing

module _ (test : ℕ → Bool) (k r : ℕ) (e : r ≡ number_or k (lowest k 0 test)) where
  pub found_within : r ≤ k
  found_within = go (lowest k 0 test) refl (lowest_is test k 0)
    where
      go : (o : Option ℕ) → lowest k 0 test ≡ o → Lowest k 0 test o → r ≤ k
      go none z l = omega (arith, e, ap (number_or k) z)
      go (some n) z (_, c, _, _) = omega (arith, e, ap (number_or k) z)

  pub found_at : r < k → lowest k 0 test ≡ some r
  found_at b = go (lowest k 0 test) refl
    where
      go : (o : Option ℕ) → lowest k 0 test ≡ o → lowest k 0 test ≡ some r
      go none z = absurd (omega (arith, e, ap (number_or k) z))
      go (some n) z = z ∙ ap some (sym (e ∙ ap (number_or k) z))

  pub found_none : k ≤ r → lowest k 0 test ≡ none
  found_none b = go (lowest k 0 test) refl (lowest_is test k 0)
    where
      go : (o : Option ℕ) → lowest k 0 test ≡ o → Lowest k 0 test o → lowest k 0 test ≡ none
      go none z l = z
      go (some n) z (_, c, _, _) = absurd (omega (arith, e, ap (number_or k) z))

-- ---- one test for another

pub lowest_same : (f g : ℕ → Bool) (k i : ℕ) → ((j : ℕ) → i ≤ j → j < i + k → f j ≡ g j) → lowest k i f ≡ lowest k i g
unfolding lowest
lowest_same f g zero i h = refl
lowest_same f g (suc k) i h = rw (h i (omega arith) (omega arith), lowest_same f g k (suc i) (λ j a b. h j (omega arith) (omega arith)))

-- the number after the one that was found
abbrev pub next : Option ℕ → Option ℕ
next none = none
next (some n) = some (suc n)

pub lowest_next : (test : ℕ → Bool) (k i : ℕ) → lowest k (suc i) test ≡ next (lowest k i (λ j. test (suc j)))
unfolding lowest
lowest_next test zero i = refl
lowest_next test (suc k) i = go (test (suc i)) (lowest_next test k (suc i))
  where
    go : (b : Bool) → lowest k (suc (suc i)) test ≡ next (lowest k (suc i) (λ j. test (suc j)))
        → cond b (lowest k (suc (suc i)) test) (some (suc i)) ≡ next (cond b (lowest k (suc i) (λ j. test (suc j))) (some i))
    go true h = h
    go false h = refl

module _ (f g : ℕ → Bool) where
  -- what fails one of two tests, where the first never fails, fails the second
  pub lowest_second : (k : ℕ) → lowest k 0 f ≡ none → lowest k 0 (λ j. f j && g j) ≡ lowest k 0 g
  lowest_second k e = lowest_same (λ j. f j && g j) g k 0 (λ j _ b. rw (passed_all f k j e (omega arith)) refl)

  -- where no number fails one of two tests, none fails either
  pub lowest_both : (k : ℕ) → lowest k 0 (λ j. f j && g j) ≡ none → (lowest k 0 f ≡ none) × (lowest k 0 g ≡ none)
  lowest_both k e = (
    lowest_none f k 0 (λ j _ b. and_left (f j) (g j) (passed_all (λ j. f j && g j) k j e (omega arith))),
    lowest_none g k 0 (λ j _ b. and_right (f j) (g j) (passed_all (λ j. f j && g j) k j e (omega arith))),
  )

-- ---- some number fails, some member is shared

not_both : (b : Bool) → T b → T (not b) → ⊥
not_both true t u = u
not_both false t u = t

pub r_some : {P : ℕ → Type 0} (test : ℕ → Bool) (n : ℕ) → ((i : ℕ) → Reflect (P i) (not (test i)))
    → Reflect ((i : ℕ) × (i < n) × P i) (not (all_from n 0 test))
r_some {P} test n r = record { holds = λ t. go (lowest n 0 test) (lowest_is test n 0) t; tests = back }
  where
    ours : Reflect ((i : ℕ) → i < n → T (test i)) (all_from n 0 test)
    ours = r_all test n (λ i. record { holds = λ t. t; tests = λ t. t })

    go : (o : Option ℕ) → Lowest n 0 test o → T (not (all_from n 0 test)) → (i : ℕ) × (i < n) × P i
    go none h t = absurd ((r_not ours).holds t (λ i b. passes (test i) (h i (omega arith) (omega arith))))
    go (some i) (a, b, c, d) t = (i, omega arith, (r i).holds (rw c tt))

    back : (i : ℕ) × (i < n) × P i → T (not (all_from n 0 test))
    back (i, b, p) = (r_not ours).tests (λ h. not_both (test i) (h i b) ((r i).tests p))

pub r_meets : (xs ys : List ℕ) → Reflect ((x : ℕ) × (x ∈ xs) × (x ∈ ys)) (not (disjoint xs ys))
r_meets xs ys =
    record { holds = λ t. find xs (λ h. (r_not (r_disjoint xs ys)).holds t h); tests = λ (x, a, b). (r_not (r_disjoint xs ys)).tests (λ h. h x a b) }
  where
    find : (l : List ℕ) → ¬ ((x : ℕ) → x ∈ l → ¬ (x ∈ ys)) → (x : ℕ) × (x ∈ l) × (x ∈ ys)
    find [] n = absurd (n (λ x a. absurd (Memᴰ.not-nil a)))
    find (z ∷ zs) n = go (mem? z ys) (find zs)
      where
        go : Dec (z ∈ ys) → (¬ ((x : ℕ) → x ∈ zs → ¬ (x ∈ ys)) → (x : ℕ) × (x ∈ zs) × (x ∈ ys)) → (x : ℕ) × (x ∈ (z ∷ zs)) × (x ∈ ys)
        go (yes m) ih = (z, Memᴰ.head refl, m)
        go (no o) ih =
            let (x, a, b) = ih (λ h. n (λ x k. every_cons (λ y. ¬ (y ∈ ys)) o h x k)) in
            (x, Memᴰ.tail a, b)

-- a test "P or Q" fails where neither does
pub r_nor : {P Q : Type 0} {a b : Bool} → Reflect P a → Reflect Q b → Reflect ((¬ P) × (¬ Q)) (not (a || b))
r_nor {a = true} r s = record { holds = λ t. absurd t; tests = λ (p, q). p (r.holds tt) }
r_nor {a = false} r s = record { holds = λ t. (r.tests, (r_not s).holds t); tests = λ (p, q). (r_not s).tests q }

-- ---- a loop that ends at the first of n numbers that fails a test

module _ (test : ℕ → Bool) (n : ℕ) where
  -- the first i numbers pass
  pub record Passing (i : ℕ) : Type 0 where
    pub inside : i ≤ n
    pub whole : lowest (n - i) i test ≡ lowest n 0 test

  pub pass_none : Passing 0
  pass_none = record { inside = omega arith; whole = ap (λ (k : ℕ). lowest k 0 test) (omega arith) }

  module _ (i : ℕ) (k : Passing i) where
    pub pass_more : i < n → test i ≡ true → Passing (i + 1)
    unfolding lowest
    pass_more b e =
        let left : n - i ≡ suc (n - (i + 1)) = omega arith in
        let on : lowest (n - i) i test ≡ lowest (n - (i + 1)) (i + 1) test = rw (left, e, add-one i) refl in
        record { inside = omega arith; whole = sym on ∙ k.whole }

    pub pass_failed : i < n → test i ≡ false → lowest n 0 test ≡ some i
    unfolding lowest
    pass_failed b e = let left : n - i ≡ suc (n - (i + 1)) = omega arith in sym k.whole ∙ rw (left, e) refl

    pub pass_all : n ≤ i → lowest n 0 test ≡ none
    unfolding lowest
    pass_all b = let left : n - i ≡ 0 = omega arith in sym k.whole ∙ rw left refl
