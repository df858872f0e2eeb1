-- Rows read by tests: which digits joined and chosen rows have, which facts stand in rows, that there are none, and that they are consistent.
use mathlib.Core.Bool.{Bool, true, false, cond}
use mathlib.Core.List.{List}
use mathlib.Core.Logic.{◌⊎◌, inl, inr}
use mathlib.Core.Path.{◌≡◌, sym, ap, subst, ◌∙◌}
use Prim.Native.Nat.{ℕ, zero, suc, ◌+◌, ◌^◌, ◌<◌}
use native.Mathlib.Omega.{arith}
use lib.Bits.{bit_or}
use lib.ListN.{get_or, get_or-replicate}
use Rattle.lists.proofs.Reflect.{Reflect, r_eq, r_lt, r_and, r_not, r_iff, r_all}
use Rattle.facts.specs.Laws.{Consistent, Alike, Kinds}
use Rattle.factrows.specs.Rows.{digit, on, row_of, FactsIn, has_fact, rows_by, no_facts, loose_at, is_consistent, off_row}
use Rattle.factrows.proofs.Digits.{or_out, or_left, or_right, bit_same, bit_other, no_digit, off_out, off_in}
use Rattle.factrows.proofs.Turning.{row_read}

-- what a test tells is decided
pub decided : {P : Type 0} {b : Bool} → Reflect P b → P ⊎ (¬ P)
decided {b = true} r = inl (r.holds tt)
decided {b = false} r = inr r.tests

-- ---- digits

-- digit q of the row x is 1 exactly where P holds
pub record Says (x q : ℕ) (P : Type 0) : Type 0 where
  pub told : digit x q ≡ 1 → P
  pub held : P → digit x q ≡ 1

pub r_says : {x q : ℕ} {P : Type 0} → Says x q P → Reflect P (on x q)
r_says {x} {q} r = r_iff r.told r.held (r_eq (digit x q) 1)

pub says_iff : {x q : ℕ} {P Q : Type 0} → (P → Q) → (Q → P) → Says x q P → Says x q Q
says_iff f g r = record { told = λ e. f (r.told e); held = λ a. r.held (g a) }

pub says_none : (q : ℕ) → Says 0 q ⊥
says_none q = record { told = λ e. absurd (omega (arith, no_digit q)); held = λ a. absurd a }

pub says_bit : (c q : ℕ) → Says (2 ^ c) q (q ≡ c)
says_bit c q = record { told = λ e. sym (bit_other c q e); held = λ e. subst (λ (x : ℕ). digit (2 ^ c) x ≡ 1) (sym e) (bit_same c) }

pub says_off : {x q : ℕ} {X : Type 0} (c : ℕ) → Says x q X → Says (off_row x c) q (X × (¬ (q ≡ c)))
says_off {x} {q} c r = record { told = λ e. let (a, n) = off_out x c q e in (r.told a, n); held = λ (a, n). off_in x c q (r.held a) n }

module _ {x y q : ℕ} {X Y : Type 0} (r : Says x q X) (s : Says y q Y) where
  pub says_or : Says (bit_or x y) q (X ⊎ Y)
  says_or = record { told = λ e. part (or_out x y q e); held = back }
    where
      part : (digit x q ≡ 1) ⊎ (digit y q ≡ 1) → X ⊎ Y
      part (inl e) = inl (r.told e)
      part (inr e) = inr (s.told e)

      back : X ⊎ Y → digit (bit_or x y) q ≡ 1
      back (inl a) = or_left x y q (r.held a)
      back (inr a) = or_right x y q (s.held a)

  -- one row or the other
  pub says_cond : {P : Type 0} {b : Bool} → Reflect P b → Says (cond b x y) q ((P × X) ⊎ ((¬ P) × Y))
  says_cond {P = P} {b = true} t = says_iff (λ a. inl (t.holds tt, a)) back r
    where
      back : (P × X) ⊎ ((¬ P) × Y) → X
      back (inl (p, a)) = a
      back (inr (n, a)) = absurd (n (t.holds tt))
  says_cond {P = P} {b = false} t = says_iff (λ a. inr (t.tests, a)) back s
    where
      back : (P × X) ⊎ ((¬ P) × Y) → Y
      back (inl (p, a)) = absurd (t.tests p)
      back (inr (n, a)) = a

-- a row, and another joined to it where a test holds
pub says_joined : {x y q : ℕ} {X Y P : Type 0} {b : Bool} → Reflect P b → Says x q X → Says y q Y → Says (cond b (bit_or x y) x) q (X ⊎ (P × Y))
says_joined {X = X} {Y = Y} {P = P} {b = true} t r s = says_iff out back (says_or r s)
  where
    out : X ⊎ Y → X ⊎ (P × Y)
    out (inl a) = inl a
    out (inr a) = inr (t.holds tt, a)

    back : X ⊎ (P × Y) → X ⊎ Y
    back (inl a) = inl a
    back (inr (p, a)) = inr a
says_joined {X = X} {Y = Y} {P = P} {b = false} t r s = says_iff inl back r
  where
    back : X ⊎ (P × Y) → X
    back (inl a) = a
    back (inr (p, a)) = absurd (t.tests p)

-- ---- facts

-- the test of a fact
pub r_fact : (l : List ℕ) (k p q : ℕ) → Reflect (FactsIn l k p q) (has_fact l k p q)
r_fact l k p q =
    r_iff (λ (a, (b, (c, e))). (c, (a, (b, e)))) (λ (c, (a, (b, e))). (a, (b, (c, e))))
    (r_and (r_lt p 14) (r_and (r_lt q 14) (r_and (r_lt k 2) (r_eq (digit (row_of l k p) q) 1))))

module _ (l : List ℕ) (p q : ℕ) (a : p < 14) (b : q < 14) where
  -- the rows of cell p say its facts
  pub says_below : Says (get_or l p 0) q (FactsIn l 0 p q)
  says_below = record { told = λ e. (omega arith, (a, (b, e))); held = λ f. f.1.1.1 }

  pub says_equal : Says (get_or l (14 + p) 0) q (FactsIn l 1 p q)
  says_equal = record { told = λ e. (omega arith, (a, (b, e))); held = λ f. f.1.1.1 }

pub facts_kinds : (l : List ℕ) → Kinds (FactsIn l)
facts_kinds l k p q f = f.0

-- a relation of kinds and cells that rows can hold
abbrev pub Inside : (ℕ → ℕ → ℕ → Type 0) → Type 0
Inside R = (k p q : ℕ) → R k p q → (k < 2) × ((p < 14) × (q < 14))

-- the facts of rows that a function makes, row by row
pub rows_facts : (f : ℕ → ℕ) (R : ℕ → ℕ → ℕ → Type 0) → Inside R → ((p q : ℕ) → p < 14 → q < 14 → Says (f p) q (R 0 p q))
    → ((p q : ℕ) → p < 14 → q < 14 → Says (f (14 + p)) q (R 1 p q)) → Alike (FactsIn (rows_by f)) R
rows_facts f R inside r s zero p q =
    let row : p < 14 → get_or (rows_by f) p 0 ≡ f p = λ a. row_read f p (omega arith) in (
      λ (_, (a, (b, e))). (r p q a b).told (ap (λ (x : ℕ). digit x q) (sym (row a)) ∙ e),
      λ i. let (_, (a, b)) = inside 0 p q i in (omega arith, (a, (b, ap (λ (x : ℕ). digit x q) (row a) ∙ (r p q a b).held i))),
    )
rows_facts f R inside r s (suc zero) p q =
    let row : p < 14 → get_or (rows_by f) (14 + p) 0 ≡ f (14 + p) = λ a. row_read f (14 + p) (omega arith) in (
      λ (_, (a, (b, e))). (s p q a b).told (ap (λ (x : ℕ). digit x q) (sym (row a)) ∙ e),
      λ i. let (_, (a, b)) = inside 1 p q i in (omega arith, (a, (b, ap (λ (x : ℕ). digit x q) (row a) ∙ (s p q a b).held i))),
    )
rows_facts f R inside r s (suc (suc k)) p q = (λ (h, _). absurd (omega arith), λ i. absurd (let (h, _) = inside (suc (suc k)) p q i in omega arith))

-- ---- no facts

pub none_in : (k p q : ℕ) → ¬ FactsIn no_facts k p q
none_in zero p q (_, (a, (_, e))) = (says_none q).told (ap (λ (x : ℕ). digit x q) (sym (get_or-replicate 28 p 0 0 (omega arith))) ∙ e)
none_in (suc k) p q (_, (a, (_, e))) = (says_none q).told (ap (λ (x : ℕ). digit x q) (sym (get_or-replicate 28 (14 + p) 0 0 (omega arith))) ∙ e)

-- ---- no cell is below itself

pub consistent_reflects : (l : List ℕ) → Reflect (Consistent (FactsIn l)) (is_consistent l)
consistent_reflects l =
    r_iff (λ h p (_, (a, (_, e))). h p a e) (λ h p a e. h p (omega arith, (a, (a, e)))) (r_all (loose_at l) 14 (λ p. r_not (r_eq (digit (get_or l p 0) p) 1)))
