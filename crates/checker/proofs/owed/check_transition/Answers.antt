-- By kind: the covers checked are those of the shape's predecessors by the transition.
use mathlib.Core.Bool.{true, false, ◌||◌, ◌&&◌}
use mathlib.Core.Logic.{◌⊎◌, inl, inr}
use mathlib.Core.Path.{◌≡◌, refl, sym, ◌∙◌}
use Prim.Native.Nat.{ℕ, ◌≤◌, ◌<◌}
use native.Mathlib.Decide.{ℕ_discrete}
use native.Mathlib.Omega.{arith}
use lib.Dec.{eqb}
use Rattle.lists.proofs.Reflect.{r_eq, r_or, r_and, passes, fails}
use Rattle.heap.specs.Operation.{kind_of}
use Rattle.backward.specs.Predecessors.{before}
use Rattle.layout.specs.Members.{members_from}
use Rattle.layout.specs.Transitions.{op_of}
use Rattle.undoing.specs.Before.{cases_rowed, choices_rowed}
use Rattle.undoing.specs.Rowed.{AllStandFor}
use Rattle.undoing.proofs.Before.{below_none}
use Rattle.undoing.proofs.Removed.{new_stand, delete_stand}
use Rattle.checker.specs.Placing.{second_operand}
use Rattle.checker.proofs.Operands.{operands_of, plays}
use Rattle.checker.proofs.Rowed.{checks_none, checks_stand}
use Rattle.checker.proofs.owed.check_transition.Goals as goal

-- a kind that is 6 or 7, and one that is neither
abbrev Removes : ℕ → Type 0
Removes k = (k ≡ 6) ⊎ (k ≡ 7)

abbrev Places : ℕ → Type 0
Places k = (k ≡ 6 → ⊥) × (k ≡ 7 → ⊥)

removes : (k : ℕ) → (eqb k 6 || eqb k 7) ≡ true → Removes k
removes k e = go (ℕ_discrete k 6) ((r_or (r_eq k 6) (r_eq k 7)).holds (passes (eqb k 6 || eqb k 7) e))
  where
    go : Dec (k ≡ 6) → ((k ≡ 6 → ⊥) → k ≡ 7) → Removes k
    go (yes e) f = inl e
    go (no n) f = inr (f n)

places : (k : ℕ) → (eqb k 6 || eqb k 7) ≡ false → Places k
places k e =
    let no = fails (eqb k 6 || eqb k 7) e in
    ((λ e. no ((r_or (r_eq k 6) (r_eq k 7)).tests (λ n. absurd (n e)))), (λ e. no ((r_or (r_eq k 6) (r_eq k 7)).tests (λ _. e))))

few : (k : ℕ) → k ≤ 5 → Places k
few k h = ((λ e. omega arith), (λ e. omega arith))

bounds : (k : ℕ) → Removes k → (5 < k) × (k ≤ 7)
bounds k (inl e) = (omega arith, omega arith)
bounds k (inr e) = (omega arith, omega arith)

pub with_helper-placed-requires : goal.with_helper-placed-requires
with_helper-placed-requires c = c.requires.1

pub check_first_quickly-requires : goal.check_first_quickly-requires
check_first_quickly-requires c =
    let a = c.args in
    let p = c.requires in
    let (whole, settled) = p.6 in
    rw c.with_helper-placed.ensures
    ((plays a.variables a.by.kind a.by.a a.by.b p.0 (few a.by.kind c.if-by-le-STORE.true) a.s.now a.facts.now p.1 p.3 p.2 whole settled _ refl).work, c.if-by-le-STORE.true, p.5)

-- kinds 1 to 5 by their choices
pub returns-then-by-le-STORE : goal.returns-then-by-le-STORE
returns-then-by-le-STORE c whole settled =
    let a = c.args in
    let p = c.requires in
    checks_stand a.cert.now (members_from a.cert.now a.variables a.starts.now) a.by.from
    (choices_rowed a.variables a.by.kind a.by.a (second_operand a.variables a.by.kind a.by.a a.by.b) a.s.now a.facts.now)
    (before (op_of (kind_of a.by.kind) a.by.a a.by.b) whole)
    (plays a.variables a.by.kind a.by.a a.by.b p.0 (few a.by.kind c.if-by-le-STORE.true) a.s.now a.facts.now p.1 p.3 p.2 whole settled _ refl).stand a.t c.check_first_quickly.result
    (rw c.with_helper-placed.ensures at c.check_first_quickly.ensures)

pub check_cases-requires : goal.check_cases-requires
check_cases-requires c =
    let by = c.args.by in
    let p = c.requires in
    let (some, fits, _) = operands_of _ by.kind by.a by.b p.0 in
    let (low, high) = bounds by.kind (removes by.kind (sym c.is_removal.ensures ∙ c.if-is_removal.true)) in
    (p.2, p.3, some (omega arith), fits, low, high, p.4, p.5)

-- kinds 6 and 7 by their cases
pub returns-then-is_removal : goal.returns-then-is_removal
returns-then-is_removal c whole settled =
    let a = c.args in
    let p = c.requires in
    let (some, fits, _) = operands_of a.variables a.by.kind a.by.a a.by.b p.0 in
    checks_stand a.cert.now (members_from a.cert.now a.variables a.starts.now) a.by.from (cases_rowed a.variables a.by.kind a.by.a a.s.now a.facts.now)
    (before (op_of (kind_of a.by.kind) a.by.a a.by.b) whole)
    (stand a.by.kind (removes a.by.kind (sym c.is_removal.ensures ∙ c.if-is_removal.true))
    (new_stand a.variables a.s.now a.facts.now p.2 p.3 whole settled a.by.a (some (omega arith)) fits)
    (delete_stand a.variables a.s.now a.facts.now p.2 p.3 whole settled a.by.a (some (omega arith)) fits))
    a.t c.check_cases.result c.check_cases.ensures
  where
    stand : (k : ℕ) → Removes k
        → AllStandFor (cases_rowed c.args.variables 6 c.args.by.a c.args.s.now c.args.facts.now) (before (op_of (kind_of 6) c.args.by.a c.args.by.b) whole)
        → AllStandFor (cases_rowed c.args.variables 7 c.args.by.a c.args.s.now c.args.facts.now) (before (op_of (kind_of 7) c.args.by.a c.args.by.b) whole)
        → AllStandFor (cases_rowed c.args.variables k c.args.by.a c.args.s.now c.args.facts.now) (before (op_of (kind_of k) c.args.by.a c.args.by.b) whole)
    stand k (inl e) new delete = rw e new
    stand k (inr e) new delete = rw e delete

-- a variable below itself
pub returns-then-is_below_itself : goal.returns-then-is_below_itself
returns-then-is_below_itself c whole settled =
    let a = c.args in
    let p = c.requires in
    let (k, e) = (r_and (r_eq a.by.kind 9) (r_eq a.by.a a.by.b)).holds (passes (eqb a.by.kind 9 && eqb a.by.a a.by.b) (sym c.is_below_itself.ensures ∙ c.if-is_below_itself.true)) in
    rw (k, ← e, below_none a.variables a.s.now a.facts.now p.2 p.3 whole settled a.by.a)
    (checks_none a.cert.now (members_from a.cert.now a.variables a.starts.now) a.by.from a.t p.5)

pub with_helper-placed-requires-2 : goal.with_helper-placed-requires-2
with_helper-placed-requires-2 c = c.requires.1

pub check_first_choices-requires : goal.check_first_choices-requires
check_first_choices-requires c =
    let a = c.args in
    let p = c.requires in
    let (whole, settled) = p.6 in
    let other = places a.by.kind (sym c.is_removal.ensures ∙ c.if-is_removal.false) in
    rw c.with_helper-placed-2.ensures
    ((plays a.variables a.by.kind a.by.a a.by.b p.0 other a.s.now a.facts.now p.1 p.3 p.2 whole settled _ refl).work, omega (arith, c.if-by-le-STORE.false), p.5)

-- the kinds from 8 on by their choices
pub returns : goal.returns
returns c whole settled =
    let a = c.args in
    let p = c.requires in
    let other = places a.by.kind (sym c.is_removal.ensures ∙ c.if-is_removal.false) in
    checks_stand a.cert.now (members_from a.cert.now a.variables a.starts.now) a.by.from
    (choices_rowed a.variables a.by.kind a.by.a (second_operand a.variables a.by.kind a.by.a a.by.b) a.s.now a.facts.now)
    (before (op_of (kind_of a.by.kind) a.by.a a.by.b) whole)
    (plays a.variables a.by.kind a.by.a a.by.b p.0 other a.s.now a.facts.now p.1 p.3 p.2 whole settled _ refl).stand a.t c.check_first_choices.result
    (rw c.with_helper-placed-2.ensures at c.check_first_choices.ensures)
