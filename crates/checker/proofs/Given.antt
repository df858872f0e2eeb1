-- What the choices of an operand give, with the facts: which choices are tried, and that they give all.
use mathlib.Core.Bool.{true, false}
use mathlib.Core.List.{List, [], ◌∷◌}
use mathlib.Core.Path.{◌≡◌, refl, ap, ◌∙◌}
use Prim.Native.Nat.{ℕ, ◌+◌, ◌≤◌}
use Rattle.lists.specs.List.{concat_map}
use Rattle.layout.specs.ShapeArray.{cell_count, links_in, shape_in}
use Rattle.transitions.specs.declared.Transition.{Transition}
use Rattle.placing.specs.Chosen.{first_of, last_of}
use Rattle.placing.specs.Choice.{put}
use Rattle.placing.specs.Retained.{changed}
use Rattle.placing.specs.Wanted.{fits_in, choices_of}
use Rattle.placing.specs.declared.Choices.{Choices}
use Rattle.placing.specs.declared.Wanted.{Wanted}
use Rattle.placing.proofs.Ranges.{stretch, Covers, covers_map}
use Rattle.shapes.specs.Operands.{HoldsShape, shape_under, Working, OneToPlace, last_operand_in, wanted_first_in, wanted_last_in}
use Rattle.shapes.proofs.Steps.{first_covers, first_range, first_none, last_covers, last_range, last_none, last_one}
use Rattle.undoing.specs.Before.{facts_before, choices_rowed}
use Rattle.undoing.specs.Rowed.{Rowed, rowed}
use Rattle.undoing.proofs.Before.{facts_left}
use Rattle.checker.proofs.Rowed.{stretch_over}

-- choice k of the operand that is placed first, and of the one that is placed last
module _ (variables : ℕ) (by : Transition) (s facts : List ℕ) where
  abbrev pub first_given : ℕ → List Rowed
  first_given k = concat_map (facts_before by.kind by.a by.b facts) (first_of variables by.kind by.a by.b (shape_under variables by.b s) k)

  abbrev pub last_given : ℕ → List Rowed
  last_given k = concat_map (facts_before by.kind by.a by.b facts) (last_of variables by.kind by.a by.b (shape_under variables by.b s) k)

module _ (variables : ℕ) (by : Transition) (s facts : List ℕ) where
  abbrev all : List Rowed
  all = choices_rowed variables by.kind by.a by.b s facts

  abbrev past : ℕ
  past = cell_count s + (2 + cell_count s)

  module _ (p : Working 12 variables by.kind by.a by.b s) where
    -- those to try leave none out that gives something
    pub first_tried : {wanted : Wanted} {c : Choices} → wanted ≡ wanted_first_in by.a by.b s → c ≡ choices_of (cell_count s) wanted
        → Covers c (λ j. first_given variables by s facts j ≡ []) 0 past
    first_tried w e = covers_map (λ j z. rw z refl) (first_covers p w e)

    pub first_all : stretch (first_given variables by s facts) 0 past ≡ all
    first_all =
        stretch_over (facts_before by.kind by.a by.b facts) (first_of variables by.kind by.a by.b (shape_under variables by.b s)) 0 past
        ∙ ap (concat_map (facts_before by.kind by.a by.b facts)) (first_range p)

    pub first_nothing : (k : ℕ) → fits_in (links_in s) (wanted_first_in by.a by.b s) k ≡ false → first_given variables by s facts k ≡ []
    first_nothing k e = ap (concat_map (facts_before by.kind by.a by.b facts)) (first_none p k e)

  module _ (p : OneToPlace variables by.kind by.a by.b s) where
    pub last_tried : {wanted : Wanted} {c : Choices} → wanted ≡ wanted_last_in by.kind by.a by.b s → c ≡ choices_of (cell_count s) wanted
        → Covers c (λ j. last_given variables by s facts j ≡ []) 0 past
    last_tried w e = covers_map (λ j z. rw z refl) (last_covers p w e)

    pub last_all : stretch (last_given variables by s facts) 0 past ≡ all
    last_all =
        stretch_over (facts_before by.kind by.a by.b facts) (last_of variables by.kind by.a by.b (shape_under variables by.b s)) 0 past
        ∙ ap (concat_map (facts_before by.kind by.a by.b facts)) (last_range p)

    pub last_nothing : (k : ℕ) → fits_in (links_in s) (wanted_last_in by.kind by.a by.b s) k ≡ false → last_given variables by s facts k ≡ []
    last_nothing k e = ap (concat_map (facts_before by.kind by.a by.b facts)) (last_none p k e)

    -- kinds 1 to 5 leave the facts: the shape in the array once the operation is undone
    pub last_left : (k : ℕ) → fits_in (links_in s) (wanted_last_in by.kind by.a by.b s) k ≡ true → by.kind ≤ 5
        → (v : List ℕ) → HoldsShape variables v (changed variables by.kind by.a by.b (put (last_operand_in by.a by.b s) (shape_under variables by.b s) k))
        → last_given variables by s facts k ≡ rowed facts (shape_in variables v) ∷ []
    last_left k f few v h = rw (last_one p k f, ← h.same, facts_left by.kind by.a by.b facts (shape_in variables v) few) refl
