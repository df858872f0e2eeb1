-- Values by their codes: what the code compares, and what an operation on values does by it.
use mathlib.Core.Bool.{Bool, true, false, cond}
use mathlib.Core.Option.{some}
use mathlib.Core.Path.{◌≡◌, refl, sym, ap, ◌∙◌}
use Prim.Native.Nat.{ℕ, zero, suc, ◌<◌}
use native.Mathlib.Omega.{arith}
use borrow.Author.Tests.{lt-ltb, eq-eqb, ltb-true, eqb-true}
use lib.Dec.{eqb, ltb}
use Rattle.heap.specs.Codes.{var_in}
use Rattle.heap.specs.Heap.{IsCell}
use Rattle.heap.specs.Operation.{equal_value, below_value, copy, larger, smaller, read, write}
use Rattle.heap.specs.Value.{below, equals, Meets}
use Rattle.lists.proofs.Test.{and_left, and_right, and_both}
use Rattle.place.specs.Place.{codes}
use Rattle.stepper.specs.Step.{stays, value_test, codes_meet, other_value, codes_differ, perform}
use Rattle.stepper.specs.Table.{heap_of, Sized, value_of, code_in}
use Rattle.stepper.specs.declared.Heap64.{Heap64}
use Rattle.stepper.specs.declared.Outcome.TheVariants.{Moved, Blocked}
use Rattle.stepper.proofs.Formed.{Formed, valued}
use Rattle.stepper.proofs.Perform.{blocked, moved, as_read, still}

-- ---- two codes

-- the fact about two values that is tested
abbrev fact : Bool → ℕ
fact true = equals
fact false = below

value_code : (c m : ℕ) → value_of c ≡ some m → c ≡ suc m
value_code zero m e = let z : ◌≡◌ {A = ℕ} 0 1 = cc in absurd (omega arith)
value_code (suc v) m e = let same : v ≡ m = cc in ap suc same

-- codes pass the test exactly if the values that they stand for exist and compare so
meets : (e : Bool) (v w : ℕ) → codes_meet e v w ≡ true → Meets value_of (fact e) v w
meets e v w h = go e v w (ltb-true 0 v (and_left (ltb 0 v) (cond e (eqb v w) (ltb v w)) h)) (and_right (ltb 0 v) (cond e (eqb v w) (ltb v w)) h)
  where
    go : (e : Bool) (v w : ℕ) → 0 < v → cond e (eqb v w) (ltb v w) ≡ true → Meets value_of (fact e) v w
    go e zero w l h = absurd (omega arith)
    go true (suc m) w l h = (m, refl, (m, ap value_of (sym (eqb-true (suc m) w h)), refl))
    go false (suc m) zero l h = let z = ltb-true (suc m) 0 h in absurd (omega arith)
    go false (suc m) (suc n) l h = let z = ltb-true (suc m) (suc n) h in (m, refl, (n, refl, omega arith))

meets_codes : (e : Bool) (v w : ℕ) → Meets value_of (fact e) v w → codes_meet e v w ≡ true
meets_codes e v w h = and_both (ltb 0 v) (cond e (eqb v w) (ltb v w)) (lt-ltb 0 v (omega (arith, value_code v h.0 h.1))) (go e h)
  where
    go : (e : Bool) → Meets value_of (fact e) v w → cond e (eqb v w) (ltb v w) ≡ true
    go true (m, p, (n, q, c)) = eq-eqb v w (omega (arith, value_code v m p, value_code w n q, c))
    go false (m, p, (n, q, c)) = lt-ltb v w (omega (arith, value_code v m p, value_code w n q, c))

fails : {A : Type 0} (e : Bool) (v w : ℕ) → codes_meet e v w ≡ false → Meets value_of (fact e) v w → A
fails e v w h m = let z : true ≡ false = sym (meets_codes e v w m) ∙ h in let q : ◌≡◌ {A = ℕ} 0 1 = cc in absurd (omega arith)

-- ---- the operations on values of a well formed table

module _ (t : Heap64) (s : Sized t) (f : Formed t) (value a b : ℕ) where
  -- where a and b stand, and the codes of the values there
  abbrev p : ℕ
  p = var_in (codes t.vars) a

  abbrev q : ℕ
  q = var_in (codes t.vars) b

  abbrev v : ℕ
  v = code_in t.values p

  abbrev w : ℕ
  w = code_in t.values q

  -- what has a value is at a cell
  at_cell : (r m : ℕ) → value_of (code_in t.values r) ≡ some m → IsCell (heap_of t) r
  at_cell r m e = valued t s f r (λ z. omega (arith, value_code (code_in t.values r) m e))

  both_cells : (kind : ℕ) → Meets value_of kind v w → IsCell (heap_of t) p × IsCell (heap_of t) q × Meets value_of kind v w
  both_cells kind (m, e, (n, g, c)) = (at_cell p m e, at_cell q n g, (m, e, (n, g, c)))

  pub test_passes : (e : Bool) → codes_meet e v w ≡ true → stays t Moved ≡ perform t value (value_test e a b)
  test_passes true h = moved t value (equal_value a b) t (still t s f value (equal_value a b) refl (both_cells equals (meets true v w h)) refl)
  test_passes false h = moved t value (below_value a b) t (still t s f value (below_value a b) refl (both_cells below (meets false v w h)) refl)

  pub test_fails : (e : Bool) → codes_meet e v w ≡ false → stays t Blocked ≡ perform t value (value_test e a b)
  test_fails true h = blocked t value (equal_value a b) refl (λ d. fails true v w h d.2)
  test_fails false h = blocked t value (below_value a b) refl (λ d. fails false v w h d.2)

  -- a copy of a value is that value read
  pub copied : (m : ℕ) → w ≡ suc m → perform t m (read a) ≡ perform t value (copy a b)
  copied m e =
      as_read t value (copy a b) a m refl (λ d. (d, at_cell q m (ap value_of e), (m, ap value_of e, tt))) (λ d. d.0)
      (ap (λ c. write (heap_of t) p (value_of c)) (sym e))

  pub copy_fails : w ≡ 0 → stays t Blocked ≡ perform t value (copy a b)
  copy_fails e = blocked t value (copy a b) refl (λ d. let (m, g, _) = d.2 in omega (arith, value_code w m g))

  -- a larger or a smaller value that is one is read
  pub other_read : (e : Bool) → codes_differ e w (suc value) ≡ true → perform t value (read a) ≡ perform t value (other_value e a b)
  other_read true h =
      let (m, g, (n, k, c)) = meets false w (suc value) h in
      as_read t value (larger a b) a value refl (λ d. (d, at_cell q m g, (m, g, omega (arith, value_code (suc value) n k)))) (λ d. d.0) refl
  other_read false h =
      let (n, k, (m, g, c)) = meets false (suc value) w h in
      as_read t value (smaller a b) a value refl (λ d. (d, at_cell q m g, (m, g, omega (arith, value_code (suc value) n k)))) (λ d. d.0) refl

  pub other_fails : (e : Bool) → codes_differ e w (suc value) ≡ false → stays t Blocked ≡ perform t value (other_value e a b)
  other_fails true h = blocked t value (larger a b) refl (λ d. let (m, g, l) = d.2 in fails false w (suc value) h (m, g, (value, refl, l)))
  other_fails false h = blocked t value (smaller a b) refl (λ d. let (m, g, l) = d.2 in fails false (suc value) w h (value, refl, (m, g, l)))
