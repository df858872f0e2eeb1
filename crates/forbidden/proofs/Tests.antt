-- The ready shapes in codes, for two variables: the places of the variables, then the links of the cells. A job written again.
use mathlib.Core.List.{List, [], ◌∷◌}
use mathlib.Core.Path.{◌≡◌, refl}
use Prim.Native.Nat.{ℕ}
use lib.ListN.{length}
use Rattle.number.specs.Number.{bytes_of, number_in}
use Rattle.number.specs.NumberList.{encode}
use Rattle.heap.specs.Operation.{assign, load, store}
use Rattle.shape.specs.Shape.{Shape}
use Rattle.format.specs.Job.{read_shape, read_facts, read_located, read_transition, read_job, read_whole_job}
use Rattle.format.specs.Parser.{many, read_as, end}
use Rattle.forbidden.specs.Sets.{not_list_shapes, lost_block_shapes, bad_steps_shapes}
use Rattle.forbidden.specs.Written.{not_list, lost_block, written, refused, rewrite_file, rewrite}

abbrev codes : List ℕ → List ℕ → Shape
codes vars links = record { vars = vars; links = links; facts = [] }

four_and_six : (n x : ℕ) → (length (not_list_shapes n x) ≡ 4) × (length (lost_block_shapes n x) ≡ 6)
four_and_six n x = (refl, refl)

four : not_list_shapes 2 1
    ≡ codes (2 ∷ 0 ∷ []) [] ∷ codes (3 ∷ 0 ∷ []) (2 ∷ []) ∷ codes (3 ∷ 0 ∷ []) (3 ∷ []) ∷ codes (3 ∷ 0 ∷ []) (4 ∷ 4 ∷ []) ∷ []
four = refl

six : lost_block_shapes 2 2
    ≡ codes (0 ∷ 2 ∷ []) (0 ∷ [])
    ∷ codes (0 ∷ 3 ∷ []) (2 ∷ 0 ∷ [])
    ∷ codes (0 ∷ 3 ∷ []) (3 ∷ 0 ∷ [])
    ∷ codes (0 ∷ 3 ∷ []) (4 ∷ 4 ∷ 0 ∷ [])
    ∷ codes (0 ∷ 1 ∷ []) (0 ∷ [])
    ∷ codes (0 ∷ 3 ∷ []) (1 ∷ 0 ∷ [])
    ∷ []
six = refl

steps : bad_steps_shapes 2
    (record { from = 0; op = load 1 2; to = 1 } ∷ record { from = 1; op = assign 1 2; to = 1 } ∷ record { from = 1; op = store 1 0; to = 2 } ∷ [])
    ≡ record { state = 0; shape = codes (0 ∷ 1 ∷ []) [] }
    ∷ record { state = 0; shape = codes (0 ∷ 2 ∷ []) [] }
    ∷ record { state = 1; shape = codes (1 ∷ 0 ∷ []) [] }
    ∷ record { state = 1; shape = codes (2 ∷ 0 ∷ []) [] }
    ∷ []
steps = refl

-- ---- job J of document 01 (new of variable 1 from state 0 to 1; variable 1 at # forbidden there)

abbrev J : List ℕ
J = 1 ∷ 1 ∷ 2 ∷ 0 ∷ 1 ∷ 0 ∷ 6 ∷ 1 ∷ 0 ∷ 1 ∷ 1 ∷ 1 ∷ 0 ∷ 1 ∷ []

-- with "not a proper list" of variable 1 at state 1, in just enough room
J_not_list : rewrite J (not_list 1 1) 30
    ≡ written
    (1 ∷ 1 ∷ 2 ∷ 0 ∷ 1 ∷ 0 ∷ 6 ∷ 1 ∷ 0 ∷ 1 ∷ 5 ∷ 1 ∷ 0 ∷ 1 ∷ 1 ∷ 0 ∷ 2 ∷ 1 ∷ 1 ∷ 3 ∷ 2 ∷ 1 ∷ 1 ∷ 3 ∷ 3 ∷ 1 ∷ 2 ∷ 3 ∷ 4 ∷ 4 ∷ [])
unfolding rewrite rewrite_file read_whole_job read_job read_transition read_located read_shape read_facts read_as many end number_in encode bytes_of
J_not_list = refl

J_short : rewrite J (not_list 1 1) 29 ≡ refused 12 30
unfolding rewrite rewrite_file read_whole_job read_job read_transition read_located read_shape read_facts read_as many end number_in encode bytes_of
J_short = refl

J_outside : rewrite J (lost_block 2 1) 99 ≡ refused 16 0
unfolding rewrite rewrite_file read_whole_job read_job read_transition read_located read_shape read_facts read_as many end number_in encode bytes_of
J_outside = refl
