-- A step of a turn, from the step's promise: which heap the table then stands for, and what is left to do.
use mathlib.Core.Bool.{true, false, ◌&&◌}
use mathlib.Core.List.{List, [], ◌∷◌}
use mathlib.Core.Logic.{◌≢◌, if_pos}
use mathlib.Core.Option.{Option, none, some}
use mathlib.Core.Path.{◌≡◌, refl, sym, ap, ◌∙◌, subst}
use Prim.Native.Nat.{ℕ, zero, suc, ◌/◌, ◌%◌, ◌≤◌, ◌<◌}
use native.Mathlib.Omega.{arith}
use borrow.Author.Tests.{le-leb}
use lib.Dec.{leb}
use Rattle.heap.specs.Heap.{Heap, update}
use Rattle.heap.specs.Operation.{Op, assign, load, store, new, delete, Enabled, enabled?, after, operation, dangled}
use Rattle.heap.specs.Place.{nowhere, dangling, cell}
use Rattle.heap.proofs.Update.{update_same, update_other, heap_path}
use Rattle.stepper.specs.Step.{stays, lowest_unused, allocates, choice, perform, step_of, Steps}
use Rattle.stepper.specs.Table.{heap_of, table_of, well_formed}
use Rattle.stepper.specs.Turns.{on_moved, Repeats, InTurn}
use Rattle.stepper.specs.declared.Heap64.{Heap64}
use Rattle.stepper.specs.declared.Outcome.{Outcome}
use Rattle.stepper.specs.declared.Outcome.TheVariants.{Moved, Blocked, Refused}
use Rattle.stepper.specs.declared.Stepped.{Stepped}
use Rattle.blocklist.specs.BlockList.{three}
use Rattle.blocklist.specs.Parts.{times, once}
use Rattle.blocklist.proofs.Chains.{cut_off}

-- the table is well formed, has n variables and stands for the heap h
pub record TableIs (n : ℕ) (t : Heap64) (h : Heap) : Type 0 where
  pub formed : well_formed t ≡ true
  pub variables : t.variables ≡ n
  pub heap : heap_of t ≡ h

-- ---- a step that moves, on a table that stands for a heap

module _ (n : ℕ) (t : Heap64) (h : Heap) (s : TableIs n t h) (kind a b : ℕ) (o : Op) (named : operation n kind a b ≡ some o) where
  pub by_name : step_of t kind a b 0 ≡ perform t 0 o
  unfolding step_of
  by_name = rw (s.formed, s.variables, named) refl

  module _ (room : allocates o && leb 64 (lowest_unused t.used) ≡ false) (e : Enabled o (choice t 0 o) h) (r : Stepped) (p : Steps t kind a b 0 r) where
    moves : r ≡ stays (table_of n (after o (choice t 0 o) h)) Moved
    unfolding perform
    moves =
        p.result ∙ by_name
        ∙ rw (room, s.heap, if_pos (enabled? o (choice t 0 o) h) e (stays (table_of t.variables (after o (choice t 0 o) h)) Moved) (stays t Blocked), s.variables) refl

    pub moved_outcome : r.outcome ≡ Moved
    moved_outcome = ap (λ (q : Stepped). q.outcome) moves

    pub moved_table : r.heap ≡ table_of n (after o (choice t 0 o) h)
    moved_table = ap (λ (q : Stepped). q.heap) moves

    pub moved_stands : TableIs n r.heap (after o (choice t 0 o) h)
    unfolding table_of
    moved_stands =
        record {
          formed = p.formed s.formed;
          variables = ap (λ (u : Heap64). u.variables) moved_table ∙ count_of;
          heap = d.3 ∙ same;
        }
      where
        count_of : (table_of n (after o (choice t 0 o) h)).variables ≡ n
        count_of = refl

        d : (q : Op) × (operation t.variables kind a b ≡ some q) × Enabled q (choice t 0 q) (heap_of t)
            × (heap_of r.heap ≡ after q (choice t 0 q) (heap_of t))
        d = p.does moved_outcome

        is_o : d.0 ≡ o
        is_o = let z : operation n kind a b ≡ some d.0 = subst (λ (m : ℕ). operation m kind a b ≡ some d.0) s.variables d.1 in cc

        same : after d.0 (choice t 0 d.0) (heap_of t) ≡ after o (choice t 0 o) h
        same = ap (λ (q : Op). after q (choice t 0 q) (heap_of t)) is_o ∙ ap (after o (choice t 0 o)) s.heap

-- ---- heaps by where variables 1, 2 and 3 stand

-- where these stand, and the rest of a heap; `others` has null too, operand 0
pub record Spot : Type 0 where
  pub others : ℕ → ℕ
  pub values : ℕ → Option ℕ
  pub link : ℕ → ℕ
  pub first : ℕ
  pub second : ℕ
  pub third : ℕ

abbrev pub operand : Spot → ℕ → ℕ
operand x = three x.others x.first x.second x.third

abbrev pub heap_at : Spot → Heap
heap_at x = record { link = x.link; var = operand x; value = x.values }

-- one of the three variables at p, and other links
abbrev pub put : ℕ → ℕ → Spot → Spot
put zero p x = x
put (suc zero) p x = record { others = x.others; values = x.values; link = x.link; first = p; second = x.second; third = x.third }
put (suc (suc zero)) p x = record { others = x.others; values = x.values; link = x.link; first = x.first; second = p; third = x.third }
put (suc (suc (suc zero))) p x = record { others = x.others; values = x.values; link = x.link; first = x.first; second = x.second; third = p }
put (suc (suc (suc (suc v)))) p x = x

abbrev pub linked : (ℕ → ℕ) → Spot → Spot
linked l x = record { others = x.others; values = x.values; link = l; first = x.first; second = x.second; third = x.third }

-- without the cell at c
abbrev pub cut : ℕ → Spot → Spot
cut c x =
    record {
      others = λ v. dangled c (x.others v);
      values = update x.values c none;
      link = cut_off c x.link;
      first = dangled c x.first;
      second = dangled c x.second;
      third = dangled c x.third;
    }

-- with the new cell c, and variable 3 at it
abbrev pub grown : ℕ → Spot → Spot
grown c x =
    record {
      others = x.others;
      values = update x.values c none;
      link = update x.link c dangling;
      first = x.first;
      second = x.second;
      third = c;
    }

module _ (f : ℕ → ℕ) (a b c x : ℕ) where
  put_1 : (v : ℕ) → update (three f a b c) 1 x v ≡ three f x b c v
  put_1 zero = update_other (three f a b c) 1 x 0 (omega arith)
  put_1 (suc zero) = update_same (three f a b c) 1 x 1 refl
  put_1 (suc (suc zero)) = update_other (three f a b c) 1 x 2 (omega arith)
  put_1 (suc (suc (suc zero))) = update_other (three f a b c) 1 x 3 (omega arith)
  put_1 (suc (suc (suc (suc v)))) = update_other (three f a b c) 1 x (suc (suc (suc (suc v)))) (omega arith)

  put_2 : (v : ℕ) → update (three f a b c) 2 x v ≡ three f a x c v
  put_2 zero = update_other (three f a b c) 2 x 0 (omega arith)
  put_2 (suc zero) = update_other (three f a b c) 2 x 1 (omega arith)
  put_2 (suc (suc zero)) = update_same (three f a b c) 2 x 2 refl
  put_2 (suc (suc (suc zero))) = update_other (three f a b c) 2 x 3 (omega arith)
  put_2 (suc (suc (suc (suc v)))) = update_other (three f a b c) 2 x (suc (suc (suc (suc v)))) (omega arith)

  put_3 : (v : ℕ) → update (three f a b c) 3 x v ≡ three f a b x v
  put_3 zero = update_other (three f a b c) 3 x 0 (omega arith)
  put_3 (suc zero) = update_other (three f a b c) 3 x 1 (omega arith)
  put_3 (suc (suc zero)) = update_other (three f a b c) 3 x 2 (omega arith)
  put_3 (suc (suc (suc zero))) = update_same (three f a b c) 3 x 3 refl
  put_3 (suc (suc (suc (suc v)))) = update_other (three f a b c) 3 x (suc (suc (suc (suc v)))) (omega arith)

-- a variable of the three, moved
put_is : (x : Spot) (v p : ℕ) → 1 ≤ v → v ≤ 3 → record { link = x.link; var = update (operand x) v p; value = x.values } ≡ heap_at (put v p x)
put_is x zero p l m = absurd (omega arith)
put_is x (suc zero) p l m = heap_path (λ q. refl) (put_1 x.others x.first x.second x.third p) (λ q. refl)
put_is x (suc (suc zero)) p l m = heap_path (λ q. refl) (put_2 x.others x.first x.second x.third p) (λ q. refl)
put_is x (suc (suc (suc zero))) p l m = heap_path (λ q. refl) (put_3 x.others x.first x.second x.third p) (λ q. refl)
put_is x (suc (suc (suc (suc v)))) p l m = absurd (omega arith)

cut_is : (x : Spot) (c : ℕ) → record { link = cut_off c x.link; var = λ v. dangled c (operand x v); value = update x.values c none } ≡ heap_at (cut c x)
cut_is x c = heap_path (λ p. refl) vars (λ p. refl)
  where
    vars : (v : ℕ) → dangled c (operand x v) ≡ operand (cut c x) v
    vars zero = refl
    vars (suc zero) = refl
    vars (suc (suc zero)) = refl
    vars (suc (suc (suc zero))) = refl
    vars (suc (suc (suc (suc v)))) = refl

-- the spot of a heap
abbrev pub spot_of : Heap → Spot
spot_of h = record { others = h.var; values = h.value; link = h.link; first = h.var 1; second = h.var 2; third = h.var 3 }

pub spot_is : (h : Heap) → h ≡ heap_at (spot_of h)
spot_is h = heap_path (λ p. refl) go (λ p. refl)
  where
    go : (v : ℕ) → h.var v ≡ three h.var (h.var 1) (h.var 2) (h.var 3) v
    go zero = refl
    go (suc zero) = refl
    go (suc (suc zero)) = refl
    go (suc (suc (suc zero))) = refl
    go (suc (suc (suc (suc v)))) = refl

-- ---- on the way: what is left to do, from a table that stands for the heap of a spot

pub record At (n : ℕ) (turns : List ℕ) (r : Stepped) (x : Spot) : Type 0 where
  pub table : Heap64
  pub stands : TableIs n table (heap_at x)
  pub left : InTurn turns table r

-- the same after a step: the table is the heap's
pub record After (n : ℕ) (turns : List ℕ) (r : Stepped) (x : Spot) : Type 0 where
  pub at : At n turns r x
  pub is : at.table ≡ table_of n (heap_at x)

-- all is done
pub record Done (n : ℕ) (r : Stepped) (h : Heap) : Type 0 where
  pub moved : r.outcome ≡ Moved
  pub stands : TableIs n r.heap h
  pub table : r.heap ≡ table_of n h

pub finished : {n : ℕ} {r : Stepped} {x : Spot} → After n [] r x → Done n r (heap_at x)
finished {n} {r} {x} q =
    let e = q.at.left in
    record {
      moved = ap (λ (u : Stepped). u.outcome) e;
      stands = subst (λ (u : Stepped). TableIs n u.heap (heap_at x)) (sym e) q.at.stands;
      table = ap (λ (u : Stepped). u.heap) e ∙ q.is;
    }

-- a turn by its digits
pub turn_is : (n kind a b : ℕ) (turns : List ℕ) → kind < 16 → a < 16 → b < 16 → (t : Heap64) (r : Stepped)
    → InTurn (times n kind a b ∷ turns) t r ≡ Repeats kind a b n (InTurn turns) t r
turn_is n kind a b turns k l m t r =
    let e1 : times n kind a b / 256 % 16 ≡ kind = omega arith in
    let e2 : times n kind a b / 16 % 16 ≡ a = omega arith in
    let e3 : times n kind a b % 16 ≡ b = omega arith in
    let e4 : times n kind a b / 4096 ≡ n = omega arith in
    rw (e1, e2, e3, e4) refl

going : (P Q : Type 0) (o : Outcome) → o ≡ Moved → on_moved o P Q → P
going P Q Moved e w = w
going P Q Blocked e w = let z : ◌≡◌ {A = ℕ} 0 1 = cc in absurd (omega arith)
going P Q (Refused r) e w = let z : ◌≡◌ {A = ℕ} 0 1 = cc in absurd (omega arith)

module _ {n : ℕ} (enough : 3 ≤ n) {turns : List ℕ} {r : Stepped} where
  -- an operation is done once of several times
  step_on : (x y : Spot) (k kind a b : ℕ) (o : Op) → kind < 16 → a < 16 → b < 16 → operation n kind a b ≡ some o → (q : At n (times (suc k) kind a b ∷ turns) r x)
      → allocates o && leb 64 (lowest_unused q.table.used) ≡ false → Enabled o (choice q.table 0 o) (heap_at x)
      → after o (choice q.table 0 o) (heap_at x) ≡ heap_at y → After n (times k kind a b ∷ turns) r y
  step_on x y k kind a b o k1 k2 k3 named q room e same = go (subst (λ (P : Type 0). P) (turn_is (suc k) kind a b turns k1 k2 k3 t r) q.left)
    where
      t : Heap64
      t = q.table

      go : Repeats kind a b (suc k) (InTurn turns) t r → After n (times k kind a b ∷ turns) r y
      go (s, p, w) =
          let on = going (Repeats kind a b k (InTurn turns) s.heap r) (r ≡ s) s.outcome (moved_outcome n t (heap_at x) q.stands kind a b o named room e s p) w in
          record {
            at =
                record {
                  table = s.heap;
                  stands = subst (TableIs n s.heap) same (moved_stands n t (heap_at x) q.stands kind a b o named room e s p);
                  left = subst (λ (P : Type 0). P) (sym (turn_is k kind a b turns k1 k2 k3 s.heap r)) on;
                };
            is = moved_table n t (heap_at x) q.stands kind a b o named room e s p ∙ ap (table_of n) same;
          }

-- ---- the operations of the turns, each done once

module _ {n : ℕ} (enough : 3 ≤ n) {turns : List ℕ} {r : Stepped} where
  -- what is done no more times is passed
  passed : {x : Spot} (kind a b : ℕ) → kind < 16 → a < 16 → b < 16 → After n (times 0 kind a b ∷ turns) r x → After n turns r x
  passed kind a b k1 k2 k3 q =
      record {
        at =
            record {
              table = q.at.table;
              stands = q.at.stands;
              left = subst (λ (P : Type 0). P) (turn_is 0 kind a b turns k1 k2 k3 q.at.table r) q.at.left;
            };
        is = q.is;
      }

  -- v := b
  pub assigned : {x : Spot} (v b : ℕ) → At n (once 3 v b ∷ turns) r x → 1 ≤ v → v ≤ 3 → b ≤ 3 → operand x b ≢ dangling → After n turns r (put v (operand x b) x)
  assigned {x} v b q l m k e =
      let named : operation n 3 v b ≡ some (assign v b) = rw (le-leb 1 v l, le-leb v n (omega arith), le-leb 0 b (omega arith), le-leb b n (omega arith)) refl in
      passed 3 v b (omega arith) (omega arith) (omega arith)
      (step_on enough x (put v (operand x b) x) 0 3 v b (assign v b) (omega arith) (omega arith) (omega arith) named q refl e (put_is x v (operand x b) l m))

  -- v := b.next, of several times
  pub loaded_on : {x : Spot} (k v b : ℕ) → At n (times (suc k) 4 v b ∷ turns) r x → 1 ≤ v → v ≤ 3 → 1 ≤ b → b ≤ 3
      → (p : ℕ) → x.link (operand x b) ≡ p → p ≢ nowhere → p ≢ dangling → After n (times k 4 v b ∷ turns) r (put v p x)
  loaded_on {x} k v b q l m i j p leads there fine =
      let named : operation n 4 v b ≡ some (load v b) = rw (le-leb 1 v l, le-leb v n (omega arith), le-leb 1 b i, le-leb b n (omega arith)) refl in
      step_on enough x (put v p x) k 4 v b (load v b) (omega arith) (omega arith) (omega arith) named q refl
      (λ z. there (sym leads ∙ z), λ z. fine (sym leads ∙ z)) (put_is x v (x.link (operand x b)) l m ∙ ap (λ (z : ℕ). heap_at (put v z x)) leads)

  pub loaded : {x : Spot} (v b : ℕ) → At n (once 4 v b ∷ turns) r x → 1 ≤ v → v ≤ 3 → 1 ≤ b → b ≤ 3
      → (p : ℕ) → x.link (operand x b) ≡ p → p ≢ nowhere → p ≢ dangling → After n turns r (put v p x)
  loaded v b q l m i j p leads there fine = passed 4 v b (omega arith) (omega arith) (omega arith) (loaded_on 0 v b q l m i j p leads there fine)

  -- 3.next := b
  pub stored : {x : Spot} (b : ℕ) → At n (once 5 3 b ∷ turns) r x → b ≤ 3 → x.link x.third ≢ nowhere → operand x b ≢ dangling
      → After n turns r (linked (update x.link x.third (operand x b)) x)
  stored {x} b q k e d =
      let named : operation n 5 3 b ≡ some (store 3 b) = rw (le-leb 3 n (omega arith), le-leb 0 b (omega arith), le-leb b n (omega arith)) refl in
      passed 5 3 b (omega arith) (omega arith) (omega arith)
      (step_on enough x (linked (update x.link x.third (operand x b)) x) 0 5 3 b (store 3 b) (omega arith) (omega arith) (omega arith) named q refl (e, d) refl)

  -- delete(v)
  pub deleted : {x : Spot} (v : ℕ) → At n (once 7 v 0 ∷ turns) r x → 1 ≤ v → v ≤ 3 → (c : ℕ) → operand x v ≡ c → x.link c ≢ nowhere → After n turns r (cut c x)
  deleted {x} v q l m c is e =
      let named : operation n 7 v 0 ≡ some (delete v) = rw (le-leb 1 v l, le-leb v n (omega arith)) refl in
      passed 7 v 0 (omega arith) (omega arith) (omega arith)
      (step_on enough x (cut c x) 0 7 v 0 (delete v) (omega arith) (omega arith) (omega arith) named q refl (λ z. e (ap x.link (sym is) ∙ z))
      (ap (λ (k : ℕ). record { link = cut_off k x.link; var = λ u. dangled k (operand x u); value = update x.values k none }) is ∙ cut_is x c))

  -- new(3), where the lowest unused cell is free
  pub taken : {x : Spot} (q : At n (once 6 3 0 ∷ turns) r x) → leb 64 (lowest_unused q.table.used) ≡ false → x.link (cell (lowest_unused q.table.used)) ≡ nowhere
      → After n turns r (grown (cell (lowest_unused q.table.used)) x)
  taken {x} q room e =
      let c = cell (lowest_unused q.table.used) in
      let named : operation n 6 3 0 ≡ some (new 3) = rw (le-leb 3 n (omega arith)) refl in
      passed 6 3 0 (omega arith) (omega arith) (omega arith)
      (step_on enough x (grown c x) 0 6 3 0 (new 3) (omega arith) (omega arith) (omega arith) named q room e
      (heap_path (λ p. refl) (put_3 x.others x.first x.second x.third c) (λ p. refl)))
