-- Operations done in place: what is looked up, and what each does with it.
use mathlib.Core.Bool.{true, false}
use mathlib.Core.List.{List, map}
use mathlib.Core.Logic.{◌≢◌}
use mathlib.Core.Option.{some}
use mathlib.Core.Path.{◌≡◌, refl, sym, ap, ◌∙◌, subst}
use Prim.Native.Nat.{ℕ, suc, ◌-◌, ◌≤◌, ◌<◌}
use native.Mathlib.Omega.{arith}
use borrow.Author.Tests.{le-leb}
use lib.ListN.{get_or, set}
use Rattle.std.specs.Prelude.{Option, Some, None, SomeIff, MatchOption, IfSome}
use Rattle.heap.specs.Codes.{var_in, link_in}
use Rattle.heap.specs.Operation.{Kind, kind_of, assign, load, store, new, delete, read, operation}
use Rattle.heap.specs.Place.{nowhere, dangling}
use Rattle.heap.proofs.Codes.{link_low}
use Rattle.heap.proofs.Rows.{Keeps}
use Rattle.kinds.specs.Kinds.{number_of, allowed}
use Rattle.kinds.specs.declared.Kind as number
use Rattle.kinds.proofs.Rows.{row_of}
use Rattle.place.specs.Place.{place_of, cell_place, codes}
use Rattle.place.specs.declared.Place.{Place}
use Rattle.stepper.specs.InPlace.{perform_kind, with_var, with_link, CellAt, FirstUnused}
use Rattle.stepper.specs.Step.{stays, lowest_unused, perform, perform_named, step_of, Steps}
use Rattle.stepper.specs.Table.{Sized, FormedTable, dangle_place}
use Rattle.stepper.specs.declared.Heap64.{Heap64}
use Rattle.stepper.specs.declared.Outcome.TheVariants.{Moved, Refused}
use Rattle.stepper.specs.declared.StepRefusal.TheVariants.{Full}
use Rattle.stepper.specs.declared.Stepped.{Stepped}
use Rattle.stepper.proofs.Change.{with_value, with_cell}
use Rattle.stepper.proofs.Formed.{Formed, formed}
use Rattle.stepper.proofs.Perform.{moved, full, put, stored, written, taken, freed, without_place, operand_stands, linked_stands, has_link, UsedCell, at_cell}
use Rattle.stepper.proofs.Steps.{steps, not_allowed, by_table}
use Rattle.stepper.proofs.Places.{code_at, lowest_first, lowest_none}

module _ (t : Heap64) (ready : FormedTable t) where
  abbrev s : Sized t
  s = ready.sized

  abbrev f : Formed t
  f = formed t ready.formed

  -- where an operand stands
  abbrev at : ℕ → ℕ
  at a = var_in (codes t.vars) a

  -- its place, by the number that it has as a cell
  pub cell_found : (a p : ℕ) → a ≤ t.variables → p ≡ at a → (r : Option ℕ) → SomeIff r (3 ≤ p) (p - 3) → CellAt t (at a) r
  cell_found a p h e None n = omega (arith, n)
  cell_found a p h e (Some i) (l, i_is) =
      let u = at_cell t s f (at a) (omega arith) (operand_stands t s f a h) in
      let same : u.number ≡ i = omega (arith, u.is_cell) in
      (omega (arith, u.inside), omega arith, subst (λ (k : ℕ). get_or t.used k false ≡ true) same u.used)

  pub unlinked : (p : ℕ) → p < 3 → link_in (codes t.links) p ≡ nowhere
  unlinked p l = sym (link_low (codes t.links) p l)

  module _ (p i : ℕ) (c : CellAt t p (Some i)) where
    used_cell : UsedCell t s f p
    used_cell = record { number = i; is_cell = c.1; inside = c.0; used = c.2 }

    linked : link_in (codes t.links) p ≢ nowhere
    linked = has_link t s f p used_cell

    pub link_is : (get_or t.links i (place_of nowhere)).code ≡ link_in (codes t.links) p
    link_is = code_at t.links i ∙ sym (ap (link_in (codes t.links)) c.1)

    number_is : p - 3 ≡ i
    number_is = omega (arith, c.1)

  -- ---- the operations, each where it is enabled

  module _ (value a : ℕ) where
    module _ (b : ℕ) (p : Place) (most_b : b ≤ t.variables) (p_is : p.code ≡ at b) (n : p.code ≢ dangling) where
      pub assigns : 1 ≤ a → a ≤ t.variables → stays (with_var t (a - 1) p) Moved ≡ perform t value (assign a b)
      assigns least most =
          moved t value (assign a b) (with_var t (a - 1) p)
          (put t s f value (assign a b) a p refl (λ z. n (p_is ∙ z)) least most (rw p_is (operand_stands t s f b most_b)) (rw p_is refl))

      pub stores : (i : ℕ) → CellAt t (at a) (Some i) → stays (with_link t i p) Moved ≡ perform t value (store a b)
      stores i c =
          subst (λ (k : ℕ). stays (with_link t k p) Moved ≡ perform t value (store a b)) (number_is (at a) i c)
          (moved t value (store a b) (with_link t (at a - 3) p) (stored t s f value a b p (linked (at a) i c) p_is n most_b))

    pub loads : (b i : ℕ) → CellAt t (at b) (Some i) → 1 ≤ a → a ≤ t.variables
        → let q = get_or t.links i (place_of nowhere) in
        q.code ≢ dangling → stays (with_var t (a - 1) q) Moved ≡ perform t value (load a b)
    loads b i c least most n =
        let q = get_or t.links i (place_of nowhere) in
        let q_is : q.code ≡ link_in (codes t.links) (at b) = link_is (at b) i c in
        let l = linked (at b) i c in
        moved t value (load a b) (with_var t (a - 1) q)
        (put t s f value (load a b) a q refl (l, λ z. n (q_is ∙ z)) least most (rw q_is (linked_stands t s f (at b) l)) (rw q_is refl))

    pub takes : (i : ℕ) → FirstUnused t.used (Some i) → 1 ≤ a → a ≤ t.variables
        → stays (with_var (with_cell t i) (a - 1) (cell_place i)) Moved ≡ perform t value (new a)
    takes i c least most =
        let lowest = lowest_first t.used i c.0 c.1 c.2 in
        moved t value (new a) (with_var (with_cell t i) (a - 1) (cell_place i))
        (taken t s f value a i lowest (omega (arith, s.used, c.0)) least most)

    pub is_full : FirstUnused t.used None → stays t (Refused Full) ≡ perform t value (new a)
    is_full c = full t value (new a) (le-leb 64 (lowest_unused t.used) (omega (arith, s.used, lowest_none t.used c)))

    pub frees : (i : ℕ) (p : Place) (vs ls : List Place) → CellAt t (at a) (Some i) → p.code ≡ at a → vs ≡ map (dangle_place p.code) t.vars
        → ls ≡ map (dangle_place p.code) t.links
        → stays (record { variables = t.variables; vars = vs; used = set t.used i false; links = set ls i (place_of nowhere); values = set t.values i 0 }) Moved
        ≡ perform t value (delete a)
    frees i p vs ls c e v l =
        let after : ℕ → Stepped =
        λ k. stays (record { variables = t.variables; vars = map (dangle_place p.code) t.vars; used = set t.used k false; links = set (map (dangle_place p.code) t.links) k (place_of nowhere); values = set t.values k 0 }) Moved in
        let is_linked = λ (z : link_in (codes t.links) p.code ≡ nowhere). linked (at a) i c (ap (link_in (codes t.links)) (sym e) ∙ z) in
        rw (v, l)
        (subst (λ (k : ℕ). after k ≡ perform t value (delete a)) (ap (λ (y : ℕ). y - 3) e ∙ number_is (at a) i c)
        (moved t value (delete a) (without_place t p.code) (freed t s f value a p.code e is_linked)))

    pub reads : (i : ℕ) → value ≤ 65535 → CellAt t (at a) (Some i) → stays (with_value t i (suc value)) Moved ≡ perform t value (read a)
    reads i lent c =
        let l = linked (at a) i c in
        subst (λ (k : ℕ). stays (with_value t k (suc value)) Moved ≡ perform t value (read a)) (number_is (at a) i c)
        (moved t value (read a) (with_value t (at a - 3) (suc value)) (written t s f value (read a) a (suc value) refl l l (omega arith) refl))

-- ---- the kind is that of a row of the table

module _ (t : Heap64) (kind : number.Kind) (a b : ℕ) (h : allowed t.variables (number_of kind) a b ≡ true) (n : ℕ) (row : Kind) (found : kind_of n ≡ some row)
    (e : number_of kind ≡ n) where
  at_row : Keeps t.variables row a b × (operation t.variables (number_of kind) a b ≡ some (row.op a b))
  at_row = row_of t.variables (number_of kind) a b row (ap kind_of e ∙ found) h

  pub kept : Keeps t.variables row a b
  kept = at_row.0

  pub done : (value : ℕ) (r : Stepped) → r ≡ perform t value (row.op a b) → r ≡ perform_named t value (operation t.variables (number_of kind) a b)
  done value r does = does ∙ sym (ap (perform_named t value) at_row.1)

-- ---- a step by the kind that the table of kinds gives for its number

-- what is so of the kind that is named
abbrev pub IsNamed : ℕ → ℕ → ℕ → ℕ → Option number.Kind → Type 0
IsNamed n kind a b r = MatchOption r (allowed n kind a b ≡ false) (λ k. (number_of k ≡ kind) × (allowed n kind a b ≡ true))

pub named_allowed : (n kind a b : ℕ) (r : Option number.Kind) → IsNamed n kind a b r → IfSome r (λ k. allowed n (number_of k) a b ≡ true)
named_allowed n kind a b None h = tt
named_allowed n kind a b (Some k) (e, h) = rw e h

pub named_steps : (t : Heap64) (ready : FormedTable t) (kind a b value : ℕ) → value ≤ 65535 → (r : Option number.Kind) → IsNamed t.variables kind a b r
    → (s : Stepped) → s ≡ perform_kind t value r a b → Steps t kind a b value s
named_steps t ready kind a b value lent r h s e = steps t ready.sized kind a b value lent s (e ∙ go r h)
  where
    go : (r : Option number.Kind) → IsNamed t.variables kind a b r → perform_kind t value r a b ≡ step_of t kind a b value
    go None h = not_allowed t kind a b value ready.formed h
    go (Some k) (e, h) = ap (λ (i : ℕ). perform_named t value (operation t.variables i a b)) e ∙ by_table t kind a b value ready.formed
