-- Two jobs that are safe as one, though the second alone is not certified: it forbids x at * where it begins. V = 2; x is variable 1, y variable 2.
use mathlib.Core.List.Memᴰ
use mathlib.Core.List.{[], ◌∷◌}
use mathlib.Core.Logic.{◌≢◌}
use mathlib.Core.Path.{◌≡◌, refl}
use Prim.Native.Nat.{◌<◌}
use native.Mathlib.Omega.{arith}
use Rattle.lists.specs.Test.{all_from, lowest}
use Rattle.lists.proofs.List.{every_cons, every_one}
use Rattle.heap.specs.Heap.{empty}
use Rattle.heap.specs.Operation.{assign, new, Named}
use Rattle.heap.specs.Place.{nowhere, dangling}
use Rattle.shape.specs.Shape.{Satisfies, InRange}
use Rattle.run.specs.Run.{Job, Safe}
use Rattle.cover.specs.Cover.{Avoids, Inductive, Certified}
use Rattle.cover.proofs.Start.{empty_reflects}
use Rattle.joining.specs.Joined.{Joint, joined}
use Rattle.joining.specs.Joins.{StatesBelow, ListedByFirst, Joins}
use Rattle.joining.proofs.Safe.{joined_safe}
use Rattle.joining.proofs.Small.{standing, located, in_range, by, itself}

-- state 0, x := null, state 1; forbidden at 1: x at *
abbrev loading : Job
loading =
    record {
      variables = 2;
      start = 0;
      transitions = record { from = 0; op = assign 1 0; to = 1 } ∷ [];
      forbidden = located 1 dangling nowhere ∷ [];
    }

-- state 0, new(x), state 1, x := null, state 0 again; forbidden at both: x at *
abbrev editing : Job
editing =
    record {
      variables = 2;
      start = 0;
      transitions = record { from = 0; op = new 1; to = 1 } ∷ record { from = 1; op = assign 1 0; to = 0 } ∷ [];
      forbidden = located 0 dangling nowhere ∷ located 1 dangling nowhere ∷ [];
    }

abbrev pair : Joint
pair = record { first = loading; states = 2; handover = 1; second = editing }

loading_certified : Certified loading loading.forbidden (by 0 ∷ [])
unfolding all_from lowest
loading_certified =
    record {
      inductive = record {
        operations = every_one (λ t. Named 2 t.op) (3, 1, 0, refl);
        members = every_one (λ m. InRange 2 12 m.shape) (in_range 2 0 (omega arith) (omega arith));
        covers = (itself _ 0 1 2 0 (omega arith) (omega arith) refl refl, tt);
      };
      start = every_one (Avoids 0) (λ e. absurd (omega arith));
    }

editing_inductive : Inductive editing editing.forbidden (by 0 ∷ by 1 ∷ [])
unfolding all_from lowest
editing_inductive =
    record {
      operations = every_cons (λ t. Named 2 t.op) (6, 1, 0, refl) (every_one (λ t. Named 2 t.op) (3, 1, 0, refl));
      members = every_cons (λ m. InRange 2 12 m.shape) (in_range 2 0 (omega arith) (omega arith))
          (every_one (λ m. InRange 2 12 m.shape) (in_range 2 0 (omega arith) (omega arith)));
      covers = (itself _ 0 0 2 0 (omega arith) (omega arith) refl refl, (itself _ 1 1 2 0 (omega arith) (omega arith) refl refl, tt));
    }

-- alone it begins with what it forbids
editing_alone : Satisfies empty (located 0 dangling nowhere).shape
editing_alone = (empty_reflects 2 12 (standing 2 0) (in_range 2 0 (omega arith) (omega arith))).holds tt

loading_below : StatesBelow 2 loading
loading_below =
    record {
      start = omega arith;
      from = every_one (λ t. t.from < 2) (omega arith);
      to = every_one (λ t. t.to < 2) (omega arith);
      forbidden = every_one (λ bad. bad.state < 2) (omega arith);
    }

pair_joins : Joins pair editing.forbidden
pair_joins =
    record {
      inside = omega arith;
      variables = refl;
      ends = every_one (λ t. t.from ≢ 1) (λ e. omega arith);
      listed = every_cons (λ m. m.state ≡ 0 → ListedByFirst pair m) (λ e. Memᴰ.head refl) (every_one (λ m. m.state ≡ 0 → ListedByFirst pair m) (λ e. absurd (omega arith)));
    }

-- x := null; then, any number of times, new(x), x := null. The second's state 1 is state 3.
pair_transitions :
    (joined pair).transitions
    ≡ record { from = 0; op = assign 1 0; to = 1 } ∷ record { from = 1; op = new 1; to = 3 } ∷ record { from = 3; op = assign 1 0; to = 1 } ∷ []
pair_transitions = refl

-- the first's own shape at the hand-over is not claimed as the first's, but the second forbids it there too
pair_forbidden : (joined pair).forbidden ≡ located 1 dangling nowhere ∷ located 3 dangling nowhere ∷ []
pair_forbidden = refl

pub pair_safe : Safe (joined pair)
pair_safe = joined_safe pair loading.forbidden editing.forbidden (by 0 ∷ []) (by 0 ∷ by 1 ∷ []) loading_certified editing_inductive loading_below pair_joins
