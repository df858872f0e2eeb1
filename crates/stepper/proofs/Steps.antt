-- The stepper's promise, from the definition of a step.
use mathlib.Core.Bool.{Bool, true, false, ◌&&◌, cond}
use mathlib.Core.Logic.{ite, ⊎_elim}
use mathlib.Core.Option.{Option, none, some}
use mathlib.Core.Path.{◌≡◌, refl, sym, ap, ◌∙◌, subst}
use Prim.Native.Nat.{ℕ, suc, ◌-◌, ◌≤◌}
use native.Mathlib.Omega.{arith}
use borrow.Author.Tests.{leb-false}
use lib.Dec.{leb}
use Rattle.heap.specs.Codes.{var_in, link_in}
use Rattle.heap.specs.Operation.{Op, equal, different, assign, load, store, new, delete, equal_value, below_value, copy, larger, smaller, read, Enabled, enabled?, operation, Allowed}
use Rattle.heap.proofs.Operands.{named_allowed}
use Rattle.kinds.specs.Kinds.{is_some, allowed}
use Rattle.place.specs.Place.{place_of, cell_place, codes}
use Rattle.stepper.specs.Step.{stays, lowest_unused, allocates, choice, table_after, perform, perform_named, step_of, Steps}
use Rattle.stepper.specs.Table.{heap_of, table_of, Sized, code_in, well_formed}
use Rattle.stepper.specs.declared.Heap64.{Heap64}
use Rattle.stepper.specs.declared.Outcome.{Outcome}
use Rattle.stepper.specs.declared.Outcome.TheVariants.{Moved, Blocked, Refused}
use Rattle.stepper.specs.declared.StepRefusal.{StepRefusal}
use Rattle.stepper.specs.declared.StepRefusal.TheVariants.{IllFormed, BadOperation, Full}
use Rattle.stepper.specs.declared.Stepped.{Stepped}
use Rattle.stepper.specs.InPlace.{with_var, with_link}
use Rattle.stepper.proofs.Change.{with_value, with_cell}
use Rattle.stepper.proofs.Formed.{Formed, formed, well_formed_lem, value_most}
use Rattle.stepper.proofs.Perform.{Changes, moved, blocked, full, operand_stands, linked_stands, still, put, stored, written, taken, without_place, freed, new_not_blocked}

module _ (t : Heap64) (s : Sized t) (f : Formed t) (value : ℕ) (lent : value ≤ 65535) where
  -- an enabled operation has a well formed table after it
  changed : (o : Op) → Allowed t.variables o → Enabled o (choice t value o) (heap_of t) → allocates o && leb 64 (lowest_unused t.used) ≡ false
      → (t' : Heap64) × Changes t value o t'
  changed (equal a b) v e r = (t, still t s f value (equal a b) refl e refl)
  changed (different a b) v e r = (t, still t s f value (different a b) refl e refl)
  changed (assign a b) v e r =
      let p = place_of (var_in (codes t.vars) b) in
      (with_var t (a - 1) p, put t s f value (assign a b) a p refl e (omega arith) v.1 (operand_stands t s f b v.2) refl)
  changed (load a b) v e r =
      let p = place_of (link_in (codes t.links) (var_in (codes t.vars) b)) in
      (with_var t (a - 1) p, put t s f value (load a b) a p refl e (omega arith) v.2 (linked_stands t s f (var_in (codes t.vars) b) e.0) refl)
  changed (store a b) v e r =
      let p = place_of (var_in (codes t.vars) b) in
      (with_link t (var_in (codes t.vars) a - 3) p, stored t s f value a b p e.0 refl e.1 v.2)
  changed (new a) v e r =
      let i = lowest_unused t.used in
      (with_var (with_cell t i) (a - 1) (cell_place i), taken t s f value a i refl (leb-false 64 i r) (omega arith) v.1)
  changed (delete a) v e r = (without_place t (var_in (codes t.vars) a), freed t s f value a (var_in (codes t.vars) a) refl e)
  changed (equal_value a b) v e r = (t, still t s f value (equal_value a b) refl e refl)
  changed (below_value a b) v e r = (t, still t s f value (below_value a b) refl e refl)
  changed (copy a b) v e r =
      let c = code_in t.values (var_in (codes t.vars) b) in
      (with_value t (var_in (codes t.vars) a - 3) c, written t s f value (copy a b) a c refl e e.0 (value_most t s f (var_in (codes t.vars) b)) refl)
  changed (larger a b) v e r =
      (with_value t (var_in (codes t.vars) a - 3) (suc value), written t s f value (larger a b) a (suc value) refl e e.0 (omega arith) refl)
  changed (smaller a b) v e r =
      (with_value t (var_in (codes t.vars) a - 3) (suc value), written t s f value (smaller a b) a (suc value) refl e e.0 (omega arith) refl)
  changed (read a) v e r =
      (with_value t (var_in (codes t.vars) a - 3) (suc value), written t s f value (read a) a (suc value) refl e e (omega arith) refl)

-- outcomes differ
pub refused_stays : (r : StepRefusal) → ◌≡◌ {A = Outcome} (Refused r) Moved → ⊥
refused_stays r e = let z : ◌≡◌ {A = ℕ} 0 1 = cc in omega arith

refused_free : (r : StepRefusal) → ◌≡◌ {A = Outcome} (Refused r) Blocked → ⊥
refused_free r e = let z : ◌≡◌ {A = ℕ} 0 1 = cc in omega arith

pub blocked_stays : ◌≡◌ {A = Outcome} Blocked Moved → ⊥
blocked_stays e = let z : ◌≡◌ {A = ℕ} 0 1 = cc in omega arith

module _ (t : Heap64) (kind a b value : ℕ) where
  -- a step that did not move
  stayed : (o : Outcome) → (o ≡ Moved → ⊥) → ((c : ℕ) → operation t.variables kind a b ≡ some (new c) → o ≡ Blocked → ⊥)
      → stays t o ≡ step_of t kind a b value → Steps t kind a b value (stays t o)
  stayed o n free e = record { result = e; does = λ z. absurd (n z); returns = λ z. refl; formed = λ h. h; new_moves = free }

  refused : (r : StepRefusal) → stays t (Refused r) ≡ step_of t kind a b value → Steps t kind a b value (stays t (Refused r))
  refused r = stayed (Refused r) (refused_stays r) (λ c k. refused_free r)

module _ (t : Heap64) (s : Sized t) (kind a b value : ℕ) (lent : value ≤ 65535) where
  abbrev Promise : Type 0
  Promise = (r : Stepped) → r ≡ step_of t kind a b value → Steps t kind a b value r

  promised : (r : Stepped) → r ≡ step_of t kind a b value → Steps t kind a b value r → Promise
  promised r e p q d = subst (Steps t kind a b value) (e ∙ sym d) p

  by_operation : Formed t → (o : Op) → operation t.variables kind a b ≡ some o → perform t value o ≡ step_of t kind a b value → Promise
  by_operation f o named e = by_room (allocates o && leb 64 (lowest_unused t.used)) refl (enabled? o (choice t value o) (heap_of t))
    where
      moves : (t' : Heap64) → Changes t value o t' → Promise
      moves t' c =
          let same = moved t value o t' c ∙ e in
          promised (stays t' Moved) same
          (record {
            result = same;
            does = λ z. (o, named, c.enabled, c.heap);
            returns = λ n. absurd (n refl);
            formed = λ h. well_formed_lem t' c.formed;
            new_moves = λ k z y. blocked_stays (sym y);
          })

      -- a blocked operation is not new
      not_new : stays t Blocked ≡ perform t value o → (k : ℕ) → operation t.variables kind a b ≡ some (new k) → ⊥
      not_new same k z =
          let is_new : o ≡ new k = cc (named) in
          let outcome : Blocked ≡ (perform t value (new k)).outcome =
          ap (λ (q : Stepped). q.outcome) same ∙ ap (λ (q : Op). (perform t value q).outcome) is_new in
          ⊎_elim (λ m. blocked_stays (outcome ∙ m)) (λ m. refused_free Full (sym (outcome ∙ m)))
          (new_not_blocked t (record { sized = s; formed = well_formed_lem t f }) value k)

      by_room : (full? : Bool) → allocates o && leb 64 (lowest_unused t.used) ≡ full? → Dec (Enabled o (choice t value o) (heap_of t)) → Promise
      by_room true r d = let same = full t value o r ∙ e in promised (stays t (Refused Full)) same (refused t kind a b value Full same)
      by_room false r (no n) =
          let is = blocked t value o r n in
          promised (stays t Blocked) (is ∙ e) (stayed t kind a b value Blocked blocked_stays (λ k z y. not_new is k z) (is ∙ e))
      by_room false r (yes d) = let c = changed t s f value lent o (named_allowed t.variables kind a b o named) d r in moves c.0 c.1

  pub steps : Promise
  unfolding step_of
  steps = by_form (well_formed t) refl (operation t.variables kind a b) refl
    where
      by_form : (w : Bool) → well_formed t ≡ w → (o : Option Op) → operation t.variables kind a b ≡ o → Promise
      by_form false w o e =
          let same : stays t (Refused IllFormed) ≡ step_of t kind a b value = rw w refl in
          promised (stays t (Refused IllFormed)) same (refused t kind a b value IllFormed same)
      by_form true w none e =
          let same : stays t (Refused BadOperation) ≡ step_of t kind a b value = rw (w, e) refl in
          promised (stays t (Refused BadOperation)) same (refused t kind a b value BadOperation same)
      by_form true w (some o) e = by_operation (formed t w) o e (rw (w, e) refl)

-- what is so of a table, and of every table after an operation, is so after a step
after_step : (P : Heap64 → Type 0) (t : Heap64) (kind a b value : ℕ) → P t → ((o : Op) → P (table_after t o (choice t value o)))
    → P (step_of t kind a b value).heap
unfolding step_of perform
after_step P t kind a b value here there = by_form (well_formed t) (operation t.variables kind a b)
  where
    by_room : {Q : Type 0} (o : Op) (full? : Bool) (d : Dec Q)
        → P (cond full? (stays t (Refused Full)) (ite d (stays (table_after t o (choice t value o)) Moved) (stays t Blocked))).heap
    by_room o true d = here
    by_room o false (yes q) = there o
    by_room o false (no n) = here

    by_form : (w : Bool) (o : Option Op) → P (cond w (perform_named t value o) (stays t (Refused IllFormed))).heap
    by_form false o = here
    by_form true none = here
    by_form true (some o) = by_room o (allocates o && leb 64 (lowest_unused t.used)) (enabled? o (choice t value o) (heap_of t))

-- a step keeps the lengths of the arrays, and how many variables there are
pub sized_step : (t : Heap64) (kind a b value : ℕ) → Sized t → Sized (step_of t kind a b value).heap
unfolding table_of
sized_step t kind a b value s = after_step Sized t kind a b value s (λ o. record { vars = refl; used = refl; links = refl; values = refl })

pub variables_step : (t : Heap64) (kind a b value : ℕ) → (step_of t kind a b value).heap.variables ≡ t.variables
unfolding table_of
variables_step t kind a b value = after_step (λ u. u.variables ≡ t.variables) t kind a b value refl (λ o. refl)

-- ---- a step in the order in which the code takes it

module _ (t : Heap64) (kind a b value : ℕ) where
  pub ill_formed : well_formed t ≡ false → stays t (Refused IllFormed) ≡ step_of t kind a b value
  unfolding step_of
  ill_formed w = rw w refl

  pub by_table : well_formed t ≡ true → perform_named t value (operation t.variables kind a b) ≡ step_of t kind a b value
  unfolding step_of
  by_table w = rw w refl

  pub not_allowed : well_formed t ≡ true → allowed t.variables kind a b ≡ false → stays t (Refused BadOperation) ≡ step_of t kind a b value
  unfolding allowed
  not_allowed w h = go (operation t.variables kind a b) refl h ∙ by_table w
    where
      go : (o : Option Op) → operation t.variables kind a b ≡ o → is_some o ≡ false
          → stays t (Refused BadOperation) ≡ perform_named t value (operation t.variables kind a b)
      go none e d = rw e refl
      go (some o) e d = let z : ◌≡◌ {A = ℕ} 0 1 = cc in absurd (omega arith)
