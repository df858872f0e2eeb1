-- The rows, each by computation; P10 and P11 by the test of one cover.
use mathlib.Core.List.Memᴰ
use mathlib.Core.List.{List, [], ◌∷◌}
use mathlib.Core.Path.{◌≡◌, refl}
use Prim.Native.Nat.{ℕ, suc, ◌<◌}
use native.Mathlib.Omega.{arith}
use lib.ListN.{length, get_or}
use Rattle.lists.specs.Test.{all_from, lowest}
use Rattle.lists.proofs.List.{every_none, every_cons, get_or_mem}
use Rattle.heap.specs.Place.{cell}
use Rattle.graph.proofs.Proper.{Closed}
use Rattle.facts.specs.Facts.{FactOf}
use Rattle.shape.specs.Shape.{Shape, AllBelow, shape_graph}
use Rattle.shape.proofs.InRange.{in_range_closed}
use Rattle.run.specs.Run.{Located}
use Rattle.cover.specs.Test.{Answer, holds, broken}
use Rattle.cover.proofs.Answer.{answer_holds}
use Rattle.number.specs.Number.{number_in}
use Rattle.number.specs.Range.{AtMost}
use Rattle.format.specs.Parser.{many, each, read_as, end}
use Rattle.format.specs.Job.{read_fact, facts_after, read_facts, read_shape, read_located, read_transition, read_job, read_whole_job}
use Rattle.format.specs.Certificate.{read_member, read_members, read_cover_by}
use Rattle.format.specs.Verdict.{read_certificate, read_both, verdict_at}
use Rattle.cases.specs.Values.{value_rows}
use Rattle.cases.specs.Rows.{P10, P11, shape, two_links, one_link, four_cells, two_links_followed, rows, Conjunction}

below : (k : ℕ) (l : List ℕ) → AtMost k l → AllBelow (suc k) l
below k [] t = λ x i. absurd (Memᴰ.not-nil i)
below k (y ∷ ys) (t, ts) = every_cons (λ x. x < suc k) (omega arith) (below k ys ts)

-- the shape of two cells or three is closed, by its codes
closed : (n : ℕ) (links : List ℕ) → length links ≡ n → AtMost (suc (suc n)) links → Closed (shape_graph (shape (0 ∷ []) links))
closed n links long codes =
    in_range_closed 1 n (shape (0 ∷ []) links)
    (record {
      variables_number = refl;
      cells = omega arith;
      vars = every_cons (λ x. x < cell (length links)) (omega arith) (λ x i. absurd (Memᴰ.not-nil i));
      facts = every_none (FactOf (length links));
      links = rw long (below (suc (suc n)) links codes);
    })

images_below : (k : ℕ) (images : List ℕ) → AtMost k images → (i : ℕ) → i < length images → get_or images i 0 < suc k
images_below k images t i b = below k images t (get_or images i 0) (get_or_mem images i b)

-- a shape at a state
abbrev at_0 : Shape → Located
at_0 s = record { state = 0; shape = s }

P10_holds : P10
unfolding all_from lowest
P10_holds e =
    let z : ◌≡◌ {A = Answer} (broken 5 1) holds =
    (answer_holds (at_0 two_links) (0 ∷ 1 ∷ 3 ∷ []) (at_0 four_cells) (closed 3 (5 ∷ 5 ∷ 0 ∷ []) refl (omega arith)) refl
    (images_below 3 (0 ∷ 1 ∷ 3 ∷ []) (omega arith)) (every_none (FactOf 3)) (every_none (FactOf 4))).1 (refl, e) in
    let q : ◌≡◌ {A = ℕ} 0 1 = cc in
    omega arith

P11_holds : P11
unfolding all_from lowest
P11_holds =
    ((answer_holds (at_0 one_link) (0 ∷ 3 ∷ []) (at_0 four_cells) (closed 2 (4 ∷ 0 ∷ []) refl (omega arith)) refl
    (images_below 3 (0 ∷ 3 ∷ []) (omega arith)) (every_none (FactOf 2)) (every_none (FactOf 4))).0 refl).1

-- the rows
pub all_rows : Conjunction rows
unfolding all_from lowest number_in many each read_as end read_shape read_facts read_located read_transition read_job read_whole_job read_member read_members read_cover_by read_certificate read_both verdict_at
all_rows = (refl, (refl, (refl, (refl, (refl, (refl, (refl, (refl, (refl, (P10_holds, (P11_holds, (refl, (refl, (refl, tt))))))))))))))

-- links followed, by the same computation
pub links_followed : two_links_followed
unfolding all_from lowest number_in many each read_as end read_shape read_facts read_located read_transition read_job read_whole_job read_member read_members read_cover_by read_certificate read_both verdict_at
links_followed = refl

-- values in the cells
pub all_values : Conjunction value_rows
unfolding all_from lowest number_in many each read_as end read_fact facts_after read_shape read_facts read_located read_transition read_job read_whole_job read_member read_members read_cover_by read_certificate read_both verdict_at
all_values = (refl, (refl, (refl, (refl, (refl, (refl, (refl, (refl, (refl, (refl, (refl, (refl, tt))))))))))))
