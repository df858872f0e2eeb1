-- Transitions that step through a variable, one after the other.
use mathlib.Core.List.Memᴰ
use mathlib.Core.List.{List, [], ◌∷◌, ◌++◌, append-nil, append_assoc}
use mathlib.Core.Bool.{cond}
use mathlib.Core.Logic.{◌≢◌}
use mathlib.Core.Option.{Option, none, some}
use mathlib.Core.Path.{◌≡◌, refl, sym, ap, ◌∙◌, subst}
use Prim.Native.Nat.{ℕ, suc, ◌+◌, ◌-◌, ◌*◌, ◌≤◌, ◌<◌}
use native.Mathlib.Numerals.{add-one}
use native.Mathlib.Omega.{arith}
use borrow.Author.Tests.{le-leb, ne_eqb}
use lib.Dec.{eqb}
use lib.ListN.{length, get_or, length-append}
use Rattle.lists.specs.List.{◌∈◌, concat_map}
use Rattle.lists.proofs.List.{concat_map_append}
use Rattle.heap.specs.Operation.{Kind, kind_of}
use Rattle.heap.proofs.Rows.{column}
use Rattle.run.specs.Run.{Located}
use Rattle.format.specs.JobNumbers.{located_numbers}
use Rattle.forbidden.specs.Sets.{at_state, steps_through, bad_step_shapes, bad_steps_of, bad_steps_shapes}
use Rattle.layout.specs.Entries.{version_of}
use Rattle.layout.specs.Transitions.{op_of, transition_at, transitions_from}
use Rattle.transitions.specs.Transitions.{transition_bytes}
use Rattle.transitions.specs.declared.Transition.{Transition as Bytes}
use Rattle.forbidding.specs.Answers.{count_bytes}
use Rattle.putting.specs.Put.{Put}
use Rattle.std.proofs.Common.{Option as Maybe, None, Some}
use Rattle.std.specs.Option.{option_to_list}
use Rattle.forbidding.specs.Steps.{StepIn}
use Rattle.putting.proofs.Putting.{put_none, put_more}
use Rattle.forbidding.proofs.Shapes.{step_length}

-- ---- which variable an operation steps through, by its kind

module _ (k a b : ℕ) where
  pub through_load : k ≡ 4 → b ∷ [] ≡ steps_through (op_of (kind_of k) a b)
  through_load e = rw e refl

  pub through_store : k ≡ 5 → a ∷ [] ≡ steps_through (op_of (kind_of k) a b)
  through_store e = rw e refl

  -- by the table: no other kind does
  pub through_none : k ≢ 4 → k ≢ 5 → [] ≡ steps_through (op_of (kind_of k) a b)
  through_none m n = go (kind_of k) refl
    where
      go : (r : Option Kind) → kind_of k ≡ r → [] ≡ steps_through (op_of r a b)
      go none e = refl
      go (some row) e =
          let here : steps_through (row.op a b) ≡ cond (eqb k 4) (b ∷ []) (cond (eqb k 5) (a ∷ []) []) =
          column (λ kind row. steps_through (row.op a b)) (λ kind row. cond (eqb kind 4) (b ∷ []) (cond (eqb kind 5) (a ∷ []) [])) refl k row e in
          sym (simp (ne_eqb k 4 m, ne_eqb k 5 n) at here)

-- ---- a transition by its bytes

module _ (job : List ℕ) (at : ℕ) (t : Bytes) (t_is : t ≡ transition_bytes job at) (whole : at + 5 ≤ length job) where
  bytes_are : t
      ≡ record { from = get_or job at 0; kind = get_or job (at + 1) 0; a = get_or job (at + 2) 0; b = get_or job (at + 3) 0; to = get_or job (at + 4) 0 }
  unfolding transition_bytes
  bytes_are = t_is ∙ simp (le-leb (at + 5) (length job) whole)

  pub from_is : t.from ≡ (transition_at job at).from
  from_is = ap (λ (u : Bytes). u.from) bytes_are

  pub through_is : (s : Maybe ℕ) → option_to_list s ≡ steps_through (op_of (kind_of t.kind) t.a t.b) → option_to_list s ≡ steps_through (transition_at job at).op
  through_is s e = e ∙ ap (λ (u : Bytes). steps_through (op_of (kind_of u.kind) u.a u.b)) bytes_are

  module _ (s : Maybe ℕ) (s-is : option_to_list s ≡ steps_through (op_of (kind_of t.kind) t.a t.b)) (n : ℕ) where
    shapes_are : (vs : List ℕ) → option_to_list s ≡ vs → bad_steps_of n (transition_at job at) ≡ concat_map (λ v. at_state (transition_at job at).from (bad_step_shapes n v)) vs
    shapes_are vs e = ap (concat_map (λ v. at_state (transition_at job at).from (bad_step_shapes n v))) (sym (through_is s s-is) ∙ e)

    -- two shapes for a step, and none else
    pub shapes_through : (v : ℕ) → s ≡ Some v → bad_steps_of n (transition_at job at) ≡ at_state t.from (bad_step_shapes n v)
    shapes_through v e = shapes_are (v ∷ []) (ap option_to_list e) ∙ ap (λ (q : ℕ). at_state q (bad_step_shapes n v)) (sym from_is)

    pub shapes_none : s ≡ None → bad_steps_of n (transition_at job at) ≡ []
    shapes_none e = shapes_are [] (ap option_to_list e)

    pub step_bytes : (v : ℕ) → s ≡ Some v → length (concat_map (located_numbers (version_of job)) (bad_steps_of n (transition_at job at))) ≡ 2 * (2 + n + count_bytes (version_of job))
    step_bytes v e = ap (λ (l : List Located). length (concat_map (located_numbers (version_of job)) l)) (shapes_through v e) ∙ step_length (version_of job) n v t.from

    pub put_through : {next last : ℕ} {before after : List ℕ} (v : ℕ) → s ≡ Some v
        → Put next before (concat_map (located_numbers (version_of job)) (at_state t.from (bad_step_shapes n v))) last after
        → Put next before (concat_map (located_numbers (version_of job)) (bad_steps_of n (transition_at job at))) last after
    put_through {next} {last} {before} {after} v e =
        subst (λ (l : List Located). Put next before (concat_map (located_numbers (version_of job)) l) last after) (sym (shapes_through v e))

    pub put_nothing : (next : ℕ) (before : List ℕ) → s ≡ None → next ≤ length before
        → Put next before (concat_map (located_numbers (version_of job)) (bad_steps_of n (transition_at job at))) next before
    put_nothing next before e h =
        subst (λ (l : List Located). Put next before (concat_map (located_numbers (version_of job)) l) next before) (sym (shapes_none e)) (put_none next before h)

    -- the variable of a step is one of the job's
    pub variable_in : (v : ℕ) → s ≡ Some v → StepIn job n at → (1 ≤ v) × (v ≤ n)
    variable_in v e k = k.through v (subst (λ (l : List ℕ). v ∈ l) (ap option_to_list (sym e) ∙ through_is s s-is) (Memᴰ.head refl))

-- ---- the loops over the transitions: those before the i-th are done

module _ (job : List ℕ) (first count n : ℕ) where
  abbrev left : ℕ → List Located
  left i = bad_steps_shapes n (transitions_from job first i (count - i))

  abbrev here : ℕ → List Located
  here i = bad_steps_of n (transition_at job (first + 5 * i))

  module _ (i : ℕ) where
    -- one transition, and those after it
    left_more : i < count → left i ≡ here i ++ left (i + 1)
    left_more h = let e : count - i ≡ suc (count - (i + 1)) = omega arith in rw (e, add-one i) refl

    left_done : count ≤ i → left i ≡ []
    left_done h = let e : count - i ≡ 0 = omega arith in rw e refl

  -- ---- counting

  pub record Counting (shapes i : ℕ) : Type 0 where
    pub upto : i ≤ count
    pub few : shapes ≤ 2 * i
    pub sum : shapes + length (left i) ≡ length (bad_steps_shapes n (transitions_from job first 0 count))

  pub count_none : Counting 0 0
  count_none = let e : count - 0 ≡ count = omega arith in record { upto = omega arith; few = omega arith; sum = rw e (omega arith) }

  module _ (shapes i : ℕ) (c : Counting shapes i) where
    pub count_more : i < count → (k : ℕ) → k ≡ length (here i) → k ≤ 2 → Counting (shapes + k) (i + 1)
    count_more h k e m =
        record {
          upto = omega arith;
          few = omega (arith, c.few);
          sum = omega (arith, c.sum, ap length (left_more i h), length-append (here i) (left (i + 1)));
        }

    pub count_all : count ≤ i → count ≤ 256 → (shapes ≡ length (bad_steps_shapes n (transitions_from job first 0 count))) × (shapes ≤ 512)
    count_all h m = (omega (arith, c.sum, ap length (left_done i h)), omega (arith, c.few, c.upto))

  -- ---- putting

  abbrev all : List ℕ
  all = concat_map (located_numbers (version_of job)) (bad_steps_shapes n (transitions_from job first 0 count))

  pub record Putting (at : ℕ) (before : List ℕ) (next : ℕ) (after : List ℕ) (i : ℕ) : Type 0 where
    pub upto : i ≤ count
    pub done : List ℕ
    pub put : Put at before done next after
    pub rest : done ++ concat_map (located_numbers (version_of job)) (left i) ≡ all

  module _ (at : ℕ) (before : List ℕ) (room : at + length all ≤ length before) where
    pub steps_none : Putting at before at before 0
    steps_none =
        let e : count - 0 ≡ count = omega arith in
        record { upto = omega arith; done = []; put = put_none at before (omega arith); rest = rw e refl }

    module _ (next : ℕ) (after : List ℕ) (i : ℕ) (p : Putting at before next after i) where
      module _ (h : i < count) where
        here_first : concat_map (located_numbers (version_of job)) (left i) ≡ concat_map (located_numbers (version_of job)) (here i) ++ concat_map (located_numbers (version_of job)) (left (i + 1))
        here_first = ap (concat_map (located_numbers (version_of job))) (left_more i h) ∙ concat_map_append (located_numbers (version_of job)) (here i) (left (i + 1))

        -- there is room for this one
        pub step_room : next + length (concat_map (located_numbers (version_of job)) (here i)) ≤ length after
        step_room =
            omega (
              arith,
              p.put.next_is,
              p.put.same,
              ap length p.rest,
              length-append p.done (concat_map (located_numbers (version_of job)) (left i)),
              ap length here_first,
              length-append (concat_map (located_numbers (version_of job)) (here i)) (concat_map (located_numbers (version_of job)) (left (i + 1))),
            )

        pub steps_more : (m : ℕ) (last : List ℕ) → Put next after (concat_map (located_numbers (version_of job)) (here i)) m last → Putting at before m last (i + 1)
        steps_more m last q =
            record {
              upto = omega arith;
              done = p.done ++ concat_map (located_numbers (version_of job)) (here i);
              put = put_more p.put q;
              rest = append_assoc p.done (concat_map (located_numbers (version_of job)) (here i)) (concat_map (located_numbers (version_of job)) (left (i + 1)))
                  ∙ ap (λ (l : List ℕ). p.done ++ l) (sym here_first)
                  ∙ p.rest;
            }

      pub steps_all : count ≤ i → Put at before all next after
      steps_all h =
          subst (λ (l : List ℕ). Put at before l next after)
          (sym (append-nil p.done) ∙ ap (λ (l : List Located). p.done ++ concat_map (located_numbers (version_of job)) l) (sym (left_done i h)) ∙ p.rest) p.put
