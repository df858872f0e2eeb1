-- The cases of kind 7: how many there are, where the variables stand by each, and that these are all, in document 01's order.
use mathlib.Core.List.{List, [], ◌∷◌, ◌++◌, map, append-nil}
use mathlib.Core.Logic.{◌≢◌}
use mathlib.Core.Bool.{cond}
use mathlib.Core.Path.{◌≡◌, refl, sym, ap, ap₂, ◌∙◌}
use Prim.Native.Nat.{ℕ, zero, suc, ◌+◌, ◌-◌, ◌*◌, ◌/◌, ◌%◌, ◌^◌, ◌≤◌, ◌<◌}
use native.Mathlib.Decide.{ℕ_discrete}
use native.Mathlib.Omega.{arith}
use borrow.Author.Tests.{le-leb, lt-leb, eq-eqb, ne_eqb}
use lib.Dec.{eqb}
use Rattle.std.specs.Prelude.{count_by}
use Rattle.std.proofs.lemmas.List.Sums.{sum_by-cons}
use Rattle.std.proofs.Math.Nat.{two-pow-succ, mod-eq_of_lt}
use lib.ListN.{length, get_or, set, take, drop}
use lib.Seq.{drop-cons, drop-set-lt, take-suc-set, append_snoc, take-length, drop-length}
use Rattle.lists.specs.List.{concat_map}
use Rattle.lists.specs.Range.{range}
use Rattle.lists.proofs.List.{range_append, concat_map_append, concat_map_range}
use Rattle.heap.specs.Place.{dangling}
use Rattle.backward.specs.Predecessors.{vars_before}
use Rattle.backward.proofs.Delete.{cases_dangling, cases_other}
use Rattle.shapes.specs.Change.{case_count, vars_by_case}

-- ---- how many

count_other : (p : ℕ) (ps : List ℕ) → p ≢ dangling → case_count (p ∷ ps) ≡ case_count ps
unfolding case_count
count_other p ps n = rw (ne_eqb p 2 n) refl

count_dangling : (p : ℕ) (ps : List ℕ) → p ≡ dangling → case_count (p ∷ ps) ≡ case_count ps + case_count ps
unfolding case_count
count_dangling p ps e = rw (eq-eqb p 2 e) refl

-- as many as if every variable were at *
most : ℕ → ℕ
most zero = 1
most (suc n) = most n + most n

most_grows : (n : ℕ) → n ≤ 9 → most n ≤ 512
unfolding most
most_grows n h = go (9 - n) n (omega arith)
  where
    go : (d n : ℕ) → n + d ≡ 9 → most n ≤ 512
    go zero n e = let z : n ≡ 9 = omega arith in rw z (omega arith)
    go (suc d) n e = let r = go d (suc n) (omega arith) in omega arith

count_most : (l : List ℕ) → case_count l ≤ most (length l)
unfolding case_count most
count_most [] = omega arith
count_most (p ∷ ps) = go (ℕ_discrete p dangling) (count_most ps)
  where
    go : Dec (p ≡ dangling) → case_count ps ≤ most (length ps) → case_count (p ∷ ps) ≤ most (length ps) + most (length ps)
    go (yes e) h = rw (count_dangling p ps e) (omega arith)
    go (no n) h = rw (count_other p ps n) (omega arith)

pub count_fits : (l : List ℕ) → length l ≤ 9 → case_count l ≤ 512
count_fits l h = let a = count_most l in let b = most_grows (length l) h in omega arith

-- a power of two
count_power : (l : List ℕ) → case_count l ≡ 2 ^ count_by (λ p. eqb p 2) l
unfolding case_count
count_power [] = refl
count_power (p ∷ ps) = rw (sum_by-cons (λ x. cond (eqb x 2) 1 0) p ps) (go (ℕ_discrete p dangling) (count_power ps))
  where
    n : ℕ
    n = count_by (λ p. eqb p 2) ps

    go : Dec (p ≡ dangling) → case_count ps ≡ 2 ^ n → case_count (p ∷ ps) ≡ 2 ^ (cond (eqb p 2) 1 0 + n)
    go (yes e) h =
        let one : 1 + n ≡ suc n = omega arith in
        rw (count_dangling p ps e, eq-eqb p 2 e, one, two-pow-succ n) (ap₂ ◌+◌ h h)
    go (no z) h = let none : 0 + n ≡ n = omega arith in rw (count_other p ps z, ne_eqb p 2 z, none) h

pub count_shifted : (l : List ℕ) (n : ℕ) → length l ≤ 9 → n ≡ count_by (λ p. eqb p 2) l → 1 * 2 ^ n % 18446744073709551616 ≡ case_count l
count_shifted l n h e =
    let c = count_power l in
    let f = count_fits l h in
    let one : 1 * 2 ^ n ≡ case_count l = rw e (omega (arith, c)) in
    rw one (mod-eq_of_lt (omega (arith, f)))

-- ---- where the first variable stands by case k of n, and the case of the others

module _ (c n k p : ℕ) (ps : List ℕ) where
  case_other : p ≢ dangling → vars_by_case c n k (p ∷ ps) ≡ p ∷ vars_by_case c n k ps
  unfolding vars_by_case
  case_other z = rw (ne_eqb p 2 z) refl

  case_already : p ≡ dangling → k < n / 2 → vars_by_case c n k (p ∷ ps) ≡ p ∷ vars_by_case c (n / 2) k ps
  unfolding vars_by_case
  case_already e h = rw (eq-eqb p 2 e, lt-leb (n / 2) k h) refl

  case_moved : p ≡ dangling → n / 2 ≤ k → vars_by_case c n k (p ∷ ps) ≡ c ∷ vars_by_case c (n / 2) (k - n / 2) ps
  unfolding vars_by_case
  case_moved e h = rw (eq-eqb p 2 e, le-leb (n / 2) k h) refl

pub length_by_case : (c n k : ℕ) (l : List ℕ) → length (vars_by_case c n k l) ≡ length l
unfolding vars_by_case
length_by_case c n k l = long l n k
  where
    long : (l : List ℕ) (n k : ℕ) → length (vars_by_case c n k l) ≡ length l
    long [] n k = refl
    long (p ∷ ps) n k = ap suc (long ps _ _)

-- ---- a loop over the variables: those before the i-th of v stand by their case, and the others are to follow

abbrev pub chosen_to : ℕ → ℕ → ℕ → List ℕ → ℕ → List ℕ
chosen_to c n k v i = take i v ++ vars_by_case c n k (drop i v)

module _ (c n k : ℕ) (v : List ℕ) (i : ℕ) (inside : i < length v) where
  abbrev p : ℕ
  p = get_or v i 0

  abbrev ps : List ℕ
  ps = drop (suc i) v

  -- the i-th is put at q
  put : (q m j : ℕ) → vars_by_case c n k (p ∷ ps) ≡ q ∷ vars_by_case c m j ps → chosen_to c n k v i ≡ chosen_to c m j (set v i q) (i + 1)
  put q m j e =
      let next : i + 1 ≡ suc i = omega arith in
      rw (drop-cons v i 0 inside, e, next, take-suc-set v i q inside, drop-set-lt (suc i) v i q (omega arith)) (sym (append_snoc (take i v) q (vars_by_case c m j ps)))

  pub next_moved : p ≡ dangling → n / 2 ≤ k → chosen_to c n k v i ≡ chosen_to c (n / 2) (k - n / 2) (set v i c) (i + 1)
  next_moved e h = put c (n / 2) (k - n / 2) (case_moved c n k p ps e h)

  pub next_already : p ≡ dangling → k < n / 2 → chosen_to c n k v i ≡ chosen_to c (n / 2) k (set v i p) (i + 1)
  next_already e h = put p (n / 2) k (case_already c n k p ps e h)

  pub next_other : p ≢ dangling → chosen_to c n k v i ≡ chosen_to c n k (set v i p) (i + 1)
  next_other z = put p n k (case_other c n k p ps z)

pub chosen_all : (c n k : ℕ) (v : List ℕ) (i : ℕ) → i ≡ length v → chosen_to c n k v i ≡ v
unfolding vars_by_case
chosen_all c n k v i e = rw (e, take-length v, drop-length v) (append-nil v)

-- ---- all cases, in their order

-- each changed by f
pub each_changed : {A B : Type 0} (f : A → B) (g : ℕ → A) (l : List ℕ) → concat_map (λ k. f (g k) ∷ []) l ≡ map f (concat_map (λ k. g k ∷ []) l)
each_changed f g [] = refl
each_changed f g (k ∷ ks) = ap (λ r. f (g k) ∷ r) (each_changed f g ks)

no_variables : (c : ℕ) → concat_map (λ k. vars_by_case c (case_count []) k [] ∷ []) (range 0 (case_count [])) ≡ vars_before c []
unfolding case_count vars_by_case
no_variables c = refl

-- where the variables stand by each case in turn is all of where they may have stood
pub cases_all : (c : ℕ) (l : List ℕ) → concat_map (λ k. vars_by_case c (case_count l) k l ∷ []) (range 0 (case_count l)) ≡ vars_before c l
cases_all c [] = no_variables c
cases_all c (p ∷ ps) = go (ℕ_discrete p dangling) (cases_all c ps)
  where
    n : ℕ
    n = case_count ps

    half : (n + n) / 2 ≡ n
    half = omega arith

    -- the cases of the other variables, with the first at q
    with_first : ℕ → List (List ℕ)
    with_first q = map (λ qs. q ∷ qs) (concat_map (λ k. vars_by_case c n k ps ∷ []) (range 0 n))

    by_case : ℕ → List (List ℕ)
    by_case k = vars_by_case c (n + n) k (p ∷ ps) ∷ []

    already : p ≡ dangling → concat_map by_case (range 0 n) ≡ with_first dangling
    already e =
        concat_map_range by_case (λ k. (p ∷ vars_by_case c n k ps) ∷ []) 0 0 n
        (λ i b. rw half at (ap (λ l. l ∷ []) (case_already c (n + n) (0 + i) p ps e (omega (arith, half)))))
        ∙ each_changed (λ qs. p ∷ qs) (λ k. vars_by_case c n k ps) (range 0 n)
        ∙ ap with_first e

    moved : p ≡ dangling → concat_map by_case (range (0 + n) n) ≡ with_first c
    moved e =
        concat_map_range by_case (λ k. (c ∷ vars_by_case c n k ps) ∷ []) (0 + n) 0 n
        (λ i b.
        let less : 0 + n + i - n ≡ 0 + i = omega arith in
        rw (half, less) at (ap (λ l. l ∷ []) (case_moved c (n + n) (0 + n + i) p ps e (omega (arith, half)))))
        ∙ each_changed (λ qs. c ∷ qs) (λ k. vars_by_case c n k ps) (range 0 n)

    go : Dec (p ≡ dangling) → concat_map (λ k. vars_by_case c n k ps ∷ []) (range 0 n) ≡ vars_before c ps
        → concat_map (λ k. vars_by_case c (case_count (p ∷ ps)) k (p ∷ ps) ∷ []) (range 0 (case_count (p ∷ ps))) ≡ vars_before c (p ∷ ps)
    go (yes e) others =
        rw (count_dangling p ps e, range_append 0 n n, concat_map_append by_case (range 0 n) (range (0 + n) n), already e, moved e, others, e)
        (sym (cases_dangling c ps))
    go (no z) others =
        rw (count_other p ps z, cases_other c p ps z, ← others)
        (concat_map_range (λ k. vars_by_case c n k (p ∷ ps) ∷ []) (λ k. (p ∷ vars_by_case c n k ps) ∷ []) 0 0 n
        (λ i b. ap (λ l. l ∷ []) (case_other c n (0 + i) p ps z))
        ∙ each_changed (λ qs. p ∷ qs) (λ k. vars_by_case c n k ps) (range 0 n))
