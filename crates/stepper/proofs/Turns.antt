-- Several steps in turn: one step more, and one operation more.
use mathlib.Core.List.{List, [], ◌∷◌}
use mathlib.Core.Logic.{◌≢◌}
use mathlib.Core.Path.{◌≡◌, refl, sym, ap, ◌∙◌, subst}
use Prim.Native.Nat.{ℕ, suc, ◌+◌, ◌/◌, ◌%◌, ◌≤◌, ◌<◌}
use native.Mathlib.Numerals.{add-one}
use lib.ListN.{length, get_or, drop, drop_of_length-le}
use lib.Seq.{drop-cons}
use Rattle.stepper.specs.Step.{stays, Steps}
use Rattle.stepper.specs.Table.{Sized, FormedTable}
use Rattle.stepper.specs.Turns.{on_moved, Repeats, InTurn}
use Rattle.stepper.specs.declared.Heap64.{Heap64}
use Rattle.stepper.specs.declared.Outcome.{Outcome}
use Rattle.stepper.specs.declared.Outcome.TheVariants.{Moved, Blocked, Refused}
use Rattle.stepper.specs.declared.Stepped.{Stepped}
use Rattle.stepper.proofs.Steps.{blocked_stays, refused_stays, sized_step, variables_step}

module _ (P Q : Type 0) where
  on_moved_lem : (o : Outcome) → o ≡ Moved → P → on_moved o P Q
  on_moved_lem Moved e p = p
  on_moved_lem Blocked e p = absurd (blocked_stays e)
  on_moved_lem (Refused r) e p = absurd (refused_stays r e)

  on_stuck : (o : Outcome) → o ≢ Moved → Q → on_moved o P Q
  on_stuck Moved n q = absurd (n refl)
  on_stuck Blocked n q = q
  on_stuck (Refused r) n q = q

-- a well formed heap with n variables, from which what is left gives what all gives
pub record Going (n : ℕ) (rest : Heap64 → Stepped → Type 0) (all : Stepped → Type 0) (t : Heap64) : Type 0 where
  pub ready : FormedTable t
  pub variables : t.variables ≡ n
  pub gives : (r : Stepped) → rest t r → all r

-- a step of an operation that is to be done k times more: it goes on from there, or that is the end
module _ (n kind a b k k' : ℕ) (rest : Heap64 → Stepped → Type 0) (all : Stepped → Type 0) (t : Heap64) (g : Going n (Repeats kind a b k rest) all t)
    (one : suc k' ≡ k) (s : Stepped) (steps : Steps t kind a b 0 s) where
  one_more_lem : (r : Stepped) → on_moved s.outcome (Repeats kind a b k' rest s.heap r) (r ≡ s) → all r
  one_more_lem r w = g.gives r (subst (λ (m : ℕ). Repeats kind a b m rest t r) one (s, steps, w))

  pub goes_on : s.outcome ≡ Moved → Going n (Repeats kind a b k' rest) all s.heap
  goes_on m =
      record {
        ready =
            record {
              sized = subst (λ (u : Stepped). Sized u.heap) (sym steps.result) (sized_step t kind a b 0 g.ready.sized);
              formed = steps.formed g.ready.formed;
            };
        variables = ap (λ (u : Stepped). u.heap.variables) steps.result ∙ variables_step t kind a b 0 ∙ g.variables;
        gives = λ r w. one_more_lem r (on_moved_lem _ _ s.outcome m w);
      }

  pub ends_here : s.outcome ≢ Moved → all s
  ends_here m = one_more_lem s (on_stuck _ _ s.outcome m refl)

-- ---- several operations in turn, of which the i-th is to be done k times more

module _ (n : ℕ) (turns : List ℕ) (i : ℕ) (all : Stepped → Type 0) (t : Heap64) where
  abbrev turn : ℕ
  turn = get_or turns i 0

  abbrev kind : ℕ
  kind = turn / 256 % 16

  abbrev a : ℕ
  a = turn / 16 % 16

  abbrev b : ℕ
  b = turn % 16

  abbrev pub Left : ℕ → Type 0
  Left k = Going n (Repeats kind a b k (InTurn (drop (i + 1) turns))) all t

  pub begun : (k : ℕ) → i < length turns → k ≡ turn / 4096 → Going n (InTurn (drop i turns)) all t → Left k
  begun k h e g =
      let left : drop i turns ≡ turn ∷ drop (i + 1) turns = rw (add-one i) (drop-cons turns i 0 h) in
      record {
        ready = g.ready;
        variables = g.variables;
        gives = λ r w. g.gives r (subst (λ (l : List ℕ). InTurn l t r) (sym left) (subst (λ (m : ℕ). Repeats kind a b m (InTurn (drop (i + 1) turns)) t r) e w));
      }

  pub over : (k : ℕ) → k ≡ 0 → Left k → Going n (InTurn (drop (i + 1) turns)) all t
  over k e g =
      record {
        ready = g.ready;
        variables = g.variables;
        gives = λ r w. g.gives r (subst (λ (m : ℕ). Repeats kind a b m (InTurn (drop (i + 1) turns)) t r) (sym e) w);
      }

-- no operation is left
pub all_over : (n : ℕ) (turns : List ℕ) (i : ℕ) (all : Stepped → Type 0) (t : Heap64) → length turns ≤ i → Going n (InTurn (drop i turns)) all t → all (stays t Moved)
all_over n turns i all t h g =
    let none : drop i turns ≡ [] = drop_of_length-le turns h in
    g.gives (stays t Moved) (subst (λ (l : List ℕ). InTurn l t (stays t Moved)) (sym none) refl)
