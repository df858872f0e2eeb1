-- What is asked can't be left out: pairs of jobs for which all holds but 26, or all but 27, and which are not safe as one. V = 2; x is variable 1, y
-- variable 2.
use mathlib.Core.List.Memᴰ
use mathlib.Core.List.{List, [], ◌∷◌}
use mathlib.Core.Logic.{◌≢◌}
use mathlib.Core.Path.{◌≡◌, refl}
use Prim.Native.Nat.{ℕ, zero, suc, ◌<◌}
use native.Mathlib.Decide.{ℕ_discrete}
use native.Mathlib.Omega.{arith}
use Rattle.lists.specs.Test.{all_from, lowest}
use Rattle.lists.proofs.List.{every_none, every_cons, every_one}
use Rattle.heap.specs.Heap.{Heap, empty}
use Rattle.heap.specs.Operation.{assign, Enabled, after, Named}
use Rattle.heap.specs.Place.{nowhere, null, dangling}
use Rattle.shape.specs.Shape.{var_at, InRange}
use Rattle.shape.proofs.NoCells.{no_cells}
use Rattle.run.specs.Run.{Transition, Located, Job, Safe}
use Rattle.run.proofs.ComesTo.{comes_on, comes_next}
use Rattle.cover.specs.Cover.{Cover, Avoids, Inductive, Certified}
use Rattle.cover.proofs.Start.{empty_reflects}
use Rattle.joining.specs.Joined.{Joint, joined}
use Rattle.joining.specs.Joins.{StatesBelow, Ends, ListedByFirst, OwedListed}
use Rattle.joining.proofs.Small.{standing, located, in_range, by, itself}

-- both pairs are certified, and neither 24 nor 25 falls
pub record Given (p : Joint) (ms₁ ms₂ : List Located) (cs₁ cs₂ : List Cover) : Type 0 where
  pub certified : Certified p.first ms₁ cs₁
  pub inductive : Inductive p.second ms₂ cs₂
  pub below : StatesBelow p.states p.first
  pub inside : p.handover < p.states
  pub variables : p.first.variables ≡ p.second.variables

-- ---- 26: "no transition from that state, not even to itself"

-- at its one state, x := y; forbidden there: x at #
abbrev copying : Job
copying =
    record {
      variables = 2;
      start = 0;
      transitions = record { from = 0; op = assign 1 2; to = 0 } ∷ [];
      forbidden = located 0 null nowhere ∷ [];
    }

-- at its one state, y := null; forbidden there: x at #
abbrev clearing : Job
clearing =
    record {
      variables = 2;
      start = 0;
      transitions = record { from = 0; op = assign 2 0; to = 0 } ∷ [];
      forbidden = located 0 null nowhere ∷ [];
    }

abbrev looping : Joint
looping = record { first = copying; states = 1; handover = 0; second = clearing }

-- neither x nor y is at #
abbrev copying_members : List Located
copying_members = located 0 null nowhere ∷ located 0 nowhere null ∷ []

looping_given : Given looping copying_members clearing.forbidden (by 0 ∷ by 1 ∷ by 1 ∷ []) (by 0 ∷ by 0 ∷ [])
unfolding all_from lowest
looping_given =
    record {
      certified = record {
        inductive = record {
          operations = every_one (λ t. Named 2 t.op) (3, 1, 2, refl);
          members = every_cons (λ m. InRange 2 12 m.shape) (in_range 1 0 (omega arith) (omega arith))
              (every_one (λ m. InRange 2 12 m.shape) (in_range 0 1 (omega arith) (omega arith)));
          covers = (
            itself _ 0 0 1 0 (omega arith) (omega arith) refl refl,
            (itself _ 1 0 0 1 (omega arith) (omega arith) refl refl, (itself _ 1 0 0 1 (omega arith) (omega arith) refl refl, tt)),
          );
        };
        start = every_cons (Avoids 0) (λ e. (empty_reflects 2 12 (standing 1 0) (in_range 1 0 (omega arith) (omega arith))).tests)
            (every_one (Avoids 0) (λ e. (empty_reflects 2 12 (standing 0 1) (in_range 0 1 (omega arith) (omega arith))).tests));
      };
      inductive = record {
        operations = every_one (λ t. Named 2 t.op) (3, 2, 0, refl);
        members = every_one (λ m. InRange 2 12 m.shape) (in_range 1 0 (omega arith) (omega arith));
        covers = (itself _ 0 0 1 0 (omega arith) (omega arith) refl refl, (itself _ 0 0 1 0 (omega arith) (omega arith) refl refl, tt));
      };
      below = record {
        start = omega arith;
        from = every_one (λ t. t.from < 1) (omega arith);
        to = every_one (λ t. t.to < 1) (omega arith);
        forbidden = every_one (λ bad. bad.state < 1) (omega arith);
      };
      inside = omega arith;
      variables = refl;
    }

looping_listed : OwedListed looping clearing.forbidden
looping_listed = every_one (λ m. m.state ≡ 0 → ListedByFirst looping m) (λ e. Memᴰ.head refl)

-- y := null by the second, x := y by the first
abbrev cleared : Heap
cleared = after (assign 2 0) 0 empty

abbrev copied : Heap
copied = after (assign 1 2) 0 cleared

copied_stands : (v : ℕ) → var_at (standing null nowhere) v ≢ nowhere → copied.var v ≡ var_at (standing null nowhere) v
unfolding ℕ_discrete
copied_stands zero z = refl
copied_stands (suc zero) z = refl
copied_stands (suc (suc zero)) z = absurd (z refl)
copied_stands (suc (suc (suc v))) z = absurd (z refl)

cleared_enabled : Enabled (assign 1 2) 0 cleared
unfolding ℕ_discrete
cleared_enabled e = omega arith

looping_unsafe : ¬ Safe (joined looping)
looping_unsafe safe =
    let ts : List Transition = (joined looping).transitions in
    let (es, m) =
    comes_on ts (record { state = 0; heap = empty }) (record { state = 0; heap = cleared }) (record { state = 0; heap = copied })
    (comes_next ts (record { from = 0; op = assign 2 0; to = 0 }) 0 (record { state = 0; heap = empty }) (Memᴰ.tail (Memᴰ.head refl)) refl (λ e. omega arith))
    (comes_next ts (record { from = 0; op = assign 1 2; to = 0 }) 0 (record { state = 0; heap = cleared }) (Memᴰ.head refl) refl cleared_enabled) in
    safe es (record { state = 0; heap = copied }) m (located 0 null nowhere) (Memᴰ.head refl) refl
    (no_cells copied (standing null nowhere) refl copied_stands (every_none _))

-- all holds but 26
pub without_26 : Given looping copying_members clearing.forbidden (by 0 ∷ by 1 ∷ by 1 ∷ []) (by 0 ∷ by 0 ∷ []) × OwedListed looping clearing.forbidden × (¬ Safe (joined looping))
without_26 = (looping_given, looping_listed, looping_unsafe)

-- ---- 27: an owed shape that is not listed

-- no transitions; forbidden: x at #
abbrev idle : Job
idle = record { variables = 2; start = 0; transitions = []; forbidden = located 0 null nowhere ∷ [] }

-- no transitions; forbidden: x at *
abbrev choosy : Job
choosy = record { variables = 2; start = 0; transitions = []; forbidden = located 0 dangling nowhere ∷ [] }

abbrev unlisted : Joint
unlisted = record { first = idle; states = 1; handover = 0; second = choosy }

unlisted_given : Given unlisted idle.forbidden choosy.forbidden (by 0 ∷ []) (by 0 ∷ [])
unfolding all_from lowest
unlisted_given =
    record {
      certified = record {
        inductive = record {
          operations = every_none (λ t. Named 2 t.op);
          members = every_one (λ m. InRange 2 12 m.shape) (in_range 1 0 (omega arith) (omega arith));
          covers = (itself _ 0 0 1 0 (omega arith) (omega arith) refl refl, tt);
        };
        start = every_one (Avoids 0) (λ e. (empty_reflects 2 12 (standing 1 0) (in_range 1 0 (omega arith) (omega arith))).tests);
      };
      inductive = record {
        operations = every_none (λ t. Named 2 t.op);
        members = every_one (λ m. InRange 2 12 m.shape) (in_range 2 0 (omega arith) (omega arith));
        covers = (itself _ 0 0 2 0 (omega arith) (omega arith) refl refl, tt);
      };
      below = record {
        start = omega arith;
        from = every_none (λ t. t.from < 1);
        to = every_none (λ t. t.to < 1);
        forbidden = every_one (λ bad. bad.state < 1) (omega arith);
      };
      inside = omega arith;
      variables = refl;
    }

unlisted_unsafe : ¬ Safe (joined unlisted)
unlisted_unsafe safe =
    safe [] (record { state = 0; heap = empty }) (Memᴰ.head refl) (located 0 dangling nowhere) (Memᴰ.head refl) refl
    ((empty_reflects 2 12 (standing 2 0) (in_range 2 0 (omega arith) (omega arith))).holds tt)

-- all holds but 27
pub without_27 : Given unlisted idle.forbidden choosy.forbidden (by 0 ∷ []) (by 0 ∷ []) × Ends unlisted × (¬ Safe (joined unlisted))
without_27 = (unlisted_given, every_none _, unlisted_unsafe)
