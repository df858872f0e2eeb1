-- What an operation does on a well formed table, in the terms in which the code does it.
use mathlib.Core.Bool.{Bool, true, false, not, beq, ◌&&◌}
use mathlib.Core.List.{List, [], ◌∷◌}
use mathlib.Core.Logic.{if_pos, if_neg, ◌≢◌, ◌⊎◌, inl, inr}
use mathlib.Core.Path.{◌≡◌, refl, sym, ap, ap₂, ◌∙◌}
use Prim.Native.Nat.{ℕ, zero, suc, ◌-◌, ◌≤◌, ◌<◌}
use native.Mathlib.Decide.{dec_lt}
use native.Mathlib.Omega.{arith}
use borrow.Author.Tests.{leb-false, lt-leb, lt-ltb, eqb-true, eqb_apart}
use lib.Dec.{leb, eqb}
use lib.ListN.{length, get_or, set, length-map, get_or-eq_default}
use lib.Seq.{get_or-set_same}
use Rattle.heap.specs.Codes.{var_in, link_in}
use Rattle.heap.specs.Heap.{update}
use Rattle.heap.specs.Operation.{Op, equal, different, store, new, delete, read, Enabled, enabled?, after, write}
use Rattle.heap.specs.Place.{nowhere, dangling, cell}
use Rattle.place.specs.Place.{place_of, cell_place, codes}
use Rattle.place.specs.declared.Place.{Place}
use Rattle.stepper.specs.Step.{stays, lowest_unused, allocates, choice, comparison, table_after, perform}
use Rattle.stepper.specs.Table.{heap_of, table_of, Sized, value_of, standing, FormedTable, dangle_vars, dangle_links}
use Rattle.stepper.specs.declared.Heap64.{Heap64}
use Rattle.stepper.specs.declared.Outcome.TheVariants.{Moved, Blocked, Refused}
use Rattle.stepper.specs.declared.StepRefusal.TheVariants.{Full}
use Rattle.stepper.specs.InPlace.{with_var, with_link}
use Rattle.stepper.proofs.Change.{sized_with_var, heap_with_var, formed_with_var, sized_with_link, heap_with_link, formed_with_link, with_value, sized_with_value, heap_with_value, formed_with_value, with_cell, sized_with_cell, heap_with_cell, formed_with_cell, without_cell, sized_without, heap_without, formed_without}
use Rattle.stepper.proofs.Formed.{Formed, formed, table_of_lem, var_stands, link_stands, link_empty, stands_somewhere}
use Rattle.stepper.proofs.Places.{standing_cell}
use Rattle.heap.proofs.Codes.{by_code}

-- ---- lowest unused cell

lowest_free : (us : List Bool) → lowest_unused us < length us → get_or us (lowest_unused us) false ≡ false
unfolding lowest_unused
lowest_free [] h = absurd (omega arith)
lowest_free (true ∷ us) h = lowest_free us (omega arith)
lowest_free (false ∷ us) h = refl

-- ---- a delete, in two steps: the variables and links at y go to *, and the cell at y goes

abbrev pub cut : Heap64 → ℕ → Heap64
cut t y =
    record {
      variables = t.variables;
      vars = t.vars;
      used = set t.used (y - 3) false;
      links = set t.links (y - 3) (place_of nowhere);
      values = set t.values (y - 3) 0;
    }

abbrev pub without_place : Heap64 → ℕ → Heap64
without_place t y = cut (dangle_links (dangle_vars t y) y) y

-- ---- moved, blocked and refused

module _ (t : Heap64) (value : ℕ) (o : Op) where
  pub blocked : allocates o && leb 64 (lowest_unused t.used) ≡ false → (Enabled o (choice t value o) (heap_of t) → ⊥) → stays t Blocked ≡ perform t value o
  unfolding perform
  blocked n d =
      rw (n, if_neg (enabled? o (choice t value o) (heap_of t)) d (stays (table_after t o (choice t value o)) Moved) (stays t Blocked)) refl

  moves : allocates o && leb 64 (lowest_unused t.used) ≡ false → Enabled o (choice t value o) (heap_of t)
      → stays (table_after t o (choice t value o)) Moved ≡ perform t value o
  unfolding perform
  moves n d =
      rw (n, if_pos (enabled? o (choice t value o) (heap_of t)) d (stays (table_after t o (choice t value o)) Moved) (stays t Blocked)) refl

  -- t' is the table after the operation, well formed again
  pub record Changes (t' : Heap64) : Type 0 where
    pub enabled : Enabled o (choice t value o) (heap_of t)
    pub room : allocates o && leb 64 (lowest_unused t.used) ≡ false
    pub sized : Sized t'
    pub formed : Formed t'
    pub variables : t'.variables ≡ t.variables
    pub heap : heap_of t' ≡ after o (choice t value o) (heap_of t)

  pub moved : (t' : Heap64) → Changes t' → stays t' Moved ≡ perform t value o
  moved t' c =
      ap (λ u. stays u Moved) (table_of_lem t' c.sized c.formed ∙ ap₂ table_of c.variables c.heap) ∙ moves c.room c.enabled

  pub full : allocates o && leb 64 (lowest_unused t.used) ≡ true → stays t (Refused Full) ≡ perform t value o
  unfolding perform
  full n = rw n refl

-- an operation that writes the value m to a's cell, and is enabled just where a is at a cell, does what read does with m
pub as_read : (t : Heap64) (value : ℕ) (o : Op) (a m : ℕ) → allocates o ≡ false → (Enabled (read a) m (heap_of t) → Enabled o (choice t value o) (heap_of t))
    → (Enabled o (choice t value o) (heap_of t) → Enabled (read a) m (heap_of t))
    → after (read a) m (heap_of t) ≡ after o (choice t value o) (heap_of t) → perform t m (read a) ≡ perform t value o
as_read t value o a m n there back same = go (enabled? (read a) m (heap_of t))
  where
    room : allocates o && leb 64 (lowest_unused t.used) ≡ false
    room = rw n refl

    go : Dec (Enabled (read a) m (heap_of t)) → perform t m (read a) ≡ perform t value o
    go (yes d) = sym (moves t m (read a) refl d) ∙ ap (λ h. stays (table_of t.variables h) Moved) same ∙ moves t value o room (there d)
    go (no d) = sym (blocked t m (read a) refl d) ∙ blocked t value o room (λ e. d (back e))

-- ---- what stands where

module _ (t : Heap64) (s : Sized t) (f : Formed t) where
  pub operand_stands : (b : ℕ) → b ≤ t.variables → standing t.used (var_in (codes t.vars) b) ≡ true
  unfolding standing
  operand_stands zero h = refl
  operand_stands (suc v) h = var_stands t f v h

  -- what has a link is a used cell, and its link stands
  pub record UsedCell (p : ℕ) : Type 0 where
    pub number : ℕ
    pub is_cell : p ≡ cell number
    pub inside : number < 64
    pub used : get_or t.used number false ≡ true

  pub linked : (p : ℕ) → link_in (codes t.links) p ≢ nowhere → UsedCell p
  linked =
      by_code (λ p. link_in (codes t.links) p ≢ nowhere → UsedCell p) (λ n. absurd (n refl)) (λ n. absurd (n refl)) (λ n. absurd (n refl))
      (λ i n. at_cell i n (dec_lt i 64) (get_or t.used i false) refl)
    where
      at_cell : (i : ℕ) → get_or (codes t.links) i nowhere ≢ nowhere → Dec (i < 64) → (u : Bool) → get_or t.used i false ≡ u → UsedCell (cell i)
      at_cell i n (yes h) true e = record { number = i; is_cell = refl; inside = h; used = e }
      at_cell i n (yes h) false e = absurd (n (link_empty t f i h e))
      at_cell i n (no h) u e =
          absurd (n (get_or-eq_default (codes t.links) nowhere (omega (arith, s.links, length-map t.links (λ (q : Place). q.code)))))

  pub linked_stands : (p : ℕ) → link_in (codes t.links) p ≢ nowhere → standing t.used (link_in (codes t.links) p) ≡ true
  linked_stands p n =
      let l = linked p n in
      rw l.is_cell (link_stands t f l.number l.inside l.used)

  -- what stands where a cell's place is stands at a used cell, and has a link
  pub at_cell : (p : ℕ) → 3 ≤ p → standing t.used p ≡ true → UsedCell p
  at_cell p h st = record { number = p - 3; is_cell = omega arith; inside = go (dec_lt (p - 3) 64); used = used }
    where
      used : get_or t.used (p - 3) false ≡ true
      used = standing_cell t.used p h ∙ st

      go : Dec (p - 3 < 64) → p - 3 < 64
      go (yes l) = l
      go (no n) =
          let z : false ≡ true = sym (get_or-eq_default t.used false (omega (arith, s.used))) ∙ used in
          let q : ◌≡◌ {A = ℕ} 0 1 = cc in
          absurd (omega arith)

  pub has_link : (p : ℕ) → UsedCell p → link_in (codes t.links) p ≢ nowhere
  has_link p u e =
      stands_somewhere t.used _ (link_stands t f u.number u.inside u.used) (ap (link_in (codes t.links)) (sym u.is_cell) ∙ e)

-- ---- the operations

module _ (t : Heap64) (s : Sized t) (f : Formed t) (value : ℕ) where
  pub still : (o : Op) → allocates o ≡ false → Enabled o (choice t value o) (heap_of t) → heap_of t ≡ after o (choice t value o) (heap_of t)
      → Changes t value o t
  still o n e h = record { enabled = e; room = rw n refl; sized = s; formed = f; variables = refl; heap = h }

  -- a comparison, by what stands where; `e` says which of the two it is
  module _ (e : Bool) (a b : ℕ) where
    pub dangling_a : var_in (codes t.vars) a ≡ dangling → stays t Blocked ≡ perform t value (comparison e a b)
    dangling_a z = elim e as (λ k. stays t Blocked ≡ perform t value (comparison k a b)) [ true ↦ blocked t value (equal a b) refl (λ d. d.0 z) | false ↦ blocked t value (different a b) refl (λ d. d.0 z) ]

    pub dangling_b : var_in (codes t.vars) b ≡ dangling → stays t Blocked ≡ perform t value (comparison e a b)
    dangling_b z = elim e as (λ k. stays t Blocked ≡ perform t value (comparison k a b)) [ true ↦ blocked t value (equal a b) refl (λ d. d.1 z) | false ↦ blocked t value (different a b) refl (λ d. d.1 z) ]

    -- whether both stand at one place is not what is asked, or it is
    pub differs : not (beq (eqb (var_in (codes t.vars) a) (var_in (codes t.vars) b)) e) ≡ true → stays t Blocked ≡ perform t value (comparison e a b)
    differs h = go e (eqb (var_in (codes t.vars) a) (var_in (codes t.vars) b)) refl h
      where
        go : (e k : Bool) → eqb (var_in (codes t.vars) a) (var_in (codes t.vars) b) ≡ k → not (beq k e) ≡ true → stays t Blocked ≡ perform t value (comparison e a b)
        go true true z h = let q : false ≡ true = h in cc
        go true false z h = blocked t value (equal a b) refl (λ d. eqb_apart (var_in (codes t.vars) a) (var_in (codes t.vars) b) z d.2)
        go false true z h = blocked t value (different a b) refl (λ d. d.2 (eqb-true (var_in (codes t.vars) a) (var_in (codes t.vars) b) z))
        go false false z h = let q : false ≡ true = h in cc

    pub agrees : var_in (codes t.vars) a ≢ dangling → var_in (codes t.vars) b ≢ dangling
        → not (beq (eqb (var_in (codes t.vars) a) (var_in (codes t.vars) b)) e) ≡ false → stays t Moved ≡ perform t value (comparison e a b)
    agrees na nb h = go e (eqb (var_in (codes t.vars) a) (var_in (codes t.vars) b)) refl h
      where
        go : (e k : Bool) → eqb (var_in (codes t.vars) a) (var_in (codes t.vars) b) ≡ k → not (beq k e) ≡ false → stays t Moved ≡ perform t value (comparison e a b)
        go true true z h = moved t value (equal a b) t (still (equal a b) refl (na, nb, eqb-true (var_in (codes t.vars) a) (var_in (codes t.vars) b) z) refl)
        go true false z h = let q : true ≡ false = h in cc
        go false true z h = let q : true ≡ false = h in cc
        go false false z h = moved t value (different a b) t (still (different a b) refl (na, nb, eqb_apart (var_in (codes t.vars) a) (var_in (codes t.vars) b) z) refl)

  -- variable a goes to p
  pub put : (o : Op) (a : ℕ) (p : Place) → allocates o ≡ false → Enabled o (choice t value o) (heap_of t) → 1 ≤ a → a ≤ t.variables
      → standing t.used p.code ≡ true
      → record { link = (heap_of t).link; var = update (heap_of t).var a p.code; value = (heap_of t).value } ≡ after o (choice t value o) (heap_of t)
      → Changes t value o (with_var t (a - 1) p)
  put o a p n e l h st same =
      let a_is : suc (a - 1) ≡ a = omega arith in
      record {
        enabled = e;
        room = rw n refl;
        sized = sized_with_var t s (a - 1) p;
        formed = formed_with_var t s (a - 1) p f (omega arith) st;
        variables = refl;
        heap = heap_with_var t s (a - 1) p (omega (arith, f.most)) ∙ rw a_is same;
      }

  pub stored : (a b : ℕ) (p : Place) → link_in (codes t.links) (var_in (codes t.vars) a) ≢ nowhere → p.code ≡ var_in (codes t.vars) b → p.code ≢ dangling
      → b ≤ t.variables → Changes t value (store a b) (with_link t (var_in (codes t.vars) a - 3) p)
  stored a b p n e d h =
      let l = linked t s f (var_in (codes t.vars) a) n in
      let i_is : var_in (codes t.vars) a - 3 ≡ l.number = omega (arith, l.is_cell) in
      rw i_is
      (record {
        enabled = (n, λ z. d (e ∙ z));
        room = refl;
        sized = sized_with_link t s l.number p;
        formed = formed_with_link t s l.number p f l.inside l.used (rw e (operand_stands t s f b h));
        variables = refl;
        heap = heap_with_link t s l.number p l.inside ∙ rw (e, ← l.is_cell) refl;
      })

  -- the value of a's cell gets the code c
  pub written : (o : Op) (a c : ℕ) → allocates o ≡ false → Enabled o (choice t value o) (heap_of t)
      → link_in (codes t.links) (var_in (codes t.vars) a) ≢ nowhere → c ≤ 65536
      → write (heap_of t) (var_in (codes t.vars) a) (value_of c) ≡ after o (choice t value o) (heap_of t)
      → Changes t value o (with_value t (var_in (codes t.vars) a - 3) c)
  written o a c r e n h same =
      let l = linked t s f (var_in (codes t.vars) a) n in
      let i_is : var_in (codes t.vars) a - 3 ≡ l.number = omega (arith, l.is_cell) in
      rw i_is
      (record {
        enabled = e;
        room = rw r refl;
        sized = sized_with_value t s l.number c;
        formed = formed_with_value t s l.number c f l.inside l.used h;
        variables = refl;
        heap = heap_with_value t s l.number c l.inside ∙ ap (λ p. write (heap_of t) p (value_of c)) (sym l.is_cell) ∙ same;
      })

  unused_lowest : (i : ℕ) → i ≡ lowest_unused t.used → i < 64 → get_or t.used i false ≡ false
  unused_lowest i e h = rw e (lowest_free t.used (omega (arith, s.used)))

  pub taken : (a i : ℕ) → i ≡ lowest_unused t.used → i < 64 → 1 ≤ a → a ≤ t.variables
      → Changes t value (new a) (with_var (with_cell t i) (a - 1) (cell_place i))
  unfolding standing
  taken a i e h l m =
      let a_is : suc (a - 1) ≡ a = omega arith in
      let place_is : cell_place i ≡ place_of (cell i) = simp (lt-ltb i 253 (omega arith)) (ap place_of (omega arith)) in
      let cell-sized = sized_with_cell t s i in
      let unused = unused_lowest i e h in
      rw place_is
      (record {
        enabled = rw (← e) (link_empty t f i h unused);
        room = rw (← e) (lt-leb 64 i h);
        sized = sized_with_var (with_cell t i) cell-sized (a - 1) (place_of (cell i));
        formed =
            formed_with_var (with_cell t i) cell-sized (a - 1) (place_of (cell i)) (formed_with_cell t s i f h) (omega arith)
            (get_or-set_same t.used i true false (omega (arith, s.used)));
        variables = refl;
        heap =
            heap_with_var (with_cell t i) cell-sized (a - 1) (place_of (cell i)) (omega (arith, f.most))
            ∙ rw (a_is, ← e)
            (λ k. let g = heap_with_cell t s i f h unused k in record { link = g.link; var = update (heap_of t).var a (cell i); value = g.value });
      })

  pub freed : (a y : ℕ) → y ≡ var_in (codes t.vars) a → link_in (codes t.links) y ≢ nowhere → Changes t value (delete a) (without_place t y)
  freed a y e n = at_cell (linked t s f y n)
    where
      at_cell : UsedCell t s f y → Changes t value (delete a) (without_place t y)
      at_cell l =
          let i = l.number in
          let i_is : cell i - 3 ≡ i = omega arith in
          let same : without_place t y ≡ without_cell t i = ap (without_place t) l.is_cell ∙ rw i_is refl in
          let a_is : var_in (codes t.vars) a ≡ cell i = sym e ∙ l.is_cell in
          rw same
          (record {
            enabled = λ z. n (ap (link_in (codes t.links)) e ∙ z);
            room = refl;
            sized = sized_without t s i;
            formed = formed_without t s i f l.inside;
            variables = refl;
            heap = heap_without t s i l.inside ∙ rw a_is refl;
          })

-- new, which is enabled "always", is never blocked: it moves or, where all cells are used, is refused
pub new_not_blocked : (t : Heap64) → FormedTable t → (value a : ℕ)
    → ((perform t value (new a)).outcome ≡ Moved) ⊎ ((perform t value (new a)).outcome ≡ Refused Full)
unfolding perform
new_not_blocked t r value a = by_room (leb 64 x) refl
  where
    x : ℕ
    x = lowest_unused t.used

    by_room : (b : Bool) → leb 64 x ≡ b → ((perform t value (new a)).outcome ≡ Moved) ⊎ ((perform t value (new a)).outcome ≡ Refused Full)
    by_room true e = inr (rw e refl)
    by_room false e =
        let f = formed t r.formed in
        let inside = leb-false 64 x e in
        let enabled : Enabled (new a) x (heap_of t) = link_empty t f x inside (unused_lowest t r.sized f value x refl inside) in
        inl (rw (e, if_pos (enabled? (new a) x (heap_of t)) enabled (stays (table_after t (new a) x) Moved) (stays t Blocked)) refl)
