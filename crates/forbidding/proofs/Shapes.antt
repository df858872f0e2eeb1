-- The bytes of the ready shapes.
use mathlib.Core.Bool.{Bool, true, false, cond}
use mathlib.Core.List.{List, [], ◌∷◌, ◌++◌, map, append_assoc}
use mathlib.Core.Path.{◌≡◌, refl, sym, ap, ◌∙◌, subst}
use Prim.Native.Nat.{ℕ, zero, suc, ◌+◌, ◌*◌, ◌≤◌}
use native.Mathlib.Omega.{arith}
use lib.Dec.{eqb}
use lib.ListN.{length, set, take, replicate, length-append, length-set, length-replicate, replicate-append-replicate}
use lib.Seq.{length-take-le, take-set-lt}
use Rattle.lists.specs.List.{Every, concat_map}
use Rattle.lists.proofs.List.{every_none, every_cons, every_one, every_head, every_tail, every_concat, concat_map_append}
use Rattle.heap.specs.Place.{nowhere, null, dangling, cell}
use Rattle.shape.specs.Placing.{grow}
use Rattle.shape.specs.Shape.{size}
use Rattle.run.specs.Run.{Transition, Located}
use Rattle.format.specs.JobNumbers.{facts_numbers, located_numbers}
use Rattle.forbidden.specs.Sets.{only, ending, not_list_shapes, lost_block_shapes, at_state, bad_step_shapes, bad_steps_of, bad_steps_shapes, steps_through}
use Rattle.forbidden.proofs.Only.{only_length}
use Rattle.forbidden.specs.Written.{ReadySet, not_list, lost_block, bad_steps, shapes_of}
use Rattle.forbidding.specs.Answers.{cells_of, count_bytes, with_loose}
use Rattle.putting.specs.Put.{Put}
use Rattle.putting.proofs.Putting.{put_more}

take_nowhere : (v n : ℕ) → v ≤ n → take v (replicate n nowhere) ≡ replicate v nowhere
take_nowhere zero n h = refl
take_nowhere (suc v) zero h = absurd (omega arith)
take_nowhere (suc v) (suc n) h = ap (λ (l : List ℕ). nowhere ∷ l) (take_nowhere v n (omega arith))

-- state, number of cells, and the first of eight variables, x at p and the others nowhere
abbrev pub started : ℕ → ℕ → ℕ → ℕ → List ℕ
started q k x p = set (q ∷ k ∷ replicate 8 nowhere) (1 + x) p

start_taken : (q k n x p : ℕ) → 1 ≤ x → x ≤ n → n ≤ 8 → take (2 + n) (started q k x p) ≡ q ∷ k ∷ only n x p
start_taken q k n zero p a b c = absurd (omega arith)
start_taken q k n (suc v) p a b c =
    let e : 1 + suc v ≡ suc (suc v) = omega arith in
    let f : 2 + n ≡ suc (suc n) = omega arith in
    rw (e, f) (ap (λ (l : List ℕ). q ∷ k ∷ l) (take-set-lt n (replicate 8 nowhere) v p (omega arith) ∙ ap (λ (l : List ℕ). set l v p) (take_nowhere n 8 c)))

pub start_length : (q k x p : ℕ) → length (started q k x p) ≡ 10
start_length q k x p = length-set (q ∷ k ∷ replicate 8 nowhere) (1 + x) p

pub starts : (q k n x p : ℕ) → n ≤ 8 → length (take (2 + n) (started q k x p)) ≡ 2 + n
starts q k n x p h = length-take-le (2 + n) (started q k x p) (omega (arith, start_length q k x p))

-- loose cells, and then the number of no facts, in a file of this version
none_taken : (version loose count : ℕ) → loose ≤ 1 → count ≤ 1 → count ≡ count_bytes version
    → take (loose + count) (replicate 2 nowhere) ≡ replicate loose nowhere ++ facts_numbers version []
none_taken version loose count a b e =
    take_nowhere (loose + count) 2 (omega arith)
    ∙ sym (replicate-append-replicate loose count nowhere)
    ∙ ap (λ (l : List ℕ). replicate loose nowhere ++ l) (ap (λ k. replicate k nowhere) e ∙ go (eqb version 2))
  where
    go : (b : Bool) → replicate (cond b 1 0) nowhere ≡ cond b (0 ∷ []) []
    go true = refl
    go false = refl

pub none_count : (k : ℕ) → k ≤ 2 → k ≡ length (take k (replicate 2 nowhere))
none_count k h = sym (length-take-le k (replicate 2 nowhere) h)

none_length : (version : ℕ) → length (facts_numbers version []) ≡ count_bytes version
none_length version = go (eqb version 2)
  where
    go : (b : Bool) → length {A = ℕ} (cond b (0 ∷ []) []) ≡ cond b 1 0
    go true = refl
    go false = refl

-- a shape, put by its parts: state, number of cells and variables, links, then loose cells and the number of no facts
pub put_parts : {at m k next : ℕ} {before b₁ b₂ after : List ℕ} (version q n x p : ℕ) (links : List ℕ) (loose count : ℕ) → loose ≤ 1
    → (count ≡ count_bytes version) × (count ≤ 1) → 1 ≤ x → x ≤ n → n ≤ 8 → Put at before (take (2 + n) (started q (length links + loose) x p)) m b₁
    → Put m b₁ links k b₂ → Put k b₂ (take (loose + count) (replicate 2 nowhere)) next after
    → Put at before (located_numbers version (record { state = q; shape = with_loose loose (record { vars = only n x p; links = links; facts = [] }) })) next after
put_parts version q n x p links loose count h e a b c i j k =
    rw (
      length-append links (replicate loose nowhere),
      length-replicate loose nowhere,
      append_assoc links (replicate loose nowhere) (facts_numbers version []),
      ← none_taken version loose count h e.1 e.0,
    ) (put_more (rw (start_taken q (length links + loose) n x p a b c) at i) (put_more j k))

-- ---- how many bytes shapes have together

-- n variables and no facts
abbrev pub Plain : ℕ → Located → Type 0
Plain n m = (length m.shape.vars ≡ n) × (m.shape.facts ≡ [])

abbrev cells_in : List Located → ℕ
cells_in [] = 0
cells_in (m ∷ ms) = size m.shape + cells_in ms

module _ (version n : ℕ) where
  one_number : (m : Located) → Plain n m → length (located_numbers version m) ≡ 2 + n + count_bytes version + size m.shape
  one_number m (e, z) =
      omega (
        arith,
        length-append m.shape.vars (m.shape.links ++ facts_numbers version m.shape.facts),
        length-append m.shape.links (facts_numbers version m.shape.facts),
        ap (λ l. length (facts_numbers version l)) z,
        none_length version,
      )

  bytes_number : (ms : List Located) → Every (Plain n) ms
      → length (concat_map (located_numbers version) ms) ≡ length ms * (2 + n + count_bytes version) + cells_in ms
  bytes_number [] a = omega arith
  bytes_number (m ∷ ms) a =
      let k = 2 + n + count_bytes version in
      let more : length (m ∷ ms) * k ≡ k + length ms * k = omega arith in
      omega (arith, length-append (located_numbers version m) (concat_map (located_numbers version) ms), one_number m (every_head a), bytes_number ms (every_tail a))

-- n variables, no facts and no cells
abbrev Flat : ℕ → Located → Type 0
Flat n m = Plain n m × (size m.shape ≡ 0)

flat_cells : (n : ℕ) (ms : List Located) → Every (Flat n) ms → cells_in ms ≡ 0
flat_cells n [] a = refl
flat_cells n (m ∷ ms) a = omega (arith, (every_head a).1, flat_cells n ms (every_tail a))

-- the two of a step, and those of all steps
step_flat : (n v q : ℕ) → Every (Flat n) (at_state q (bad_step_shapes n v))
step_flat n v q = every_cons (Flat n) ((only_length n v null, refl), refl) (every_one (Flat n) ((only_length n v dangling, refl), refl))

steps_flat : (n : ℕ) (ts : List Transition) → Every (Flat n) (bad_steps_shapes n ts)
steps_flat n ts =
    every_concat (Flat n) (bad_steps_of n) ts
    (λ t. every_concat (Flat n) (λ v. at_state t.from (bad_step_shapes n v)) (steps_through t.op) (λ v. step_flat n v t.from))

pub step_length : (version n v q : ℕ) → length (concat_map (located_numbers version) (at_state q (bad_step_shapes n v))) ≡ 2 * (2 + n + count_bytes version)
step_length version n v q = omega (arith, bytes_number version n (at_state q (bad_step_shapes n v)) (λ m i. (step_flat n v q m i).0))

-- one shape more, with x alone at a place
only_more : {q : ℕ} {links : List ℕ} {ms : List Located} (n x p : ℕ) → Every (Plain n) ms
    → Every (Plain n) (record { state = q; shape = record { vars = only n x p; links = links; facts = [] } } ∷ ms)
only_more n x p = every_cons (Plain n) (only_length n x p, refl)

-- every shape of a set
pub set_plain : (set : ReadySet) (n : ℕ) (ts : List Transition) → Every (Plain n) (shapes_of set n ts)
set_plain (not_list x q) n ts =
    only_more n x dangling (only_more n x (cell 0) (only_more n x (cell 0) (only_more n x (cell 0) (every_none (Plain n)))))
set_plain (lost_block x q) n ts =
    only_more n x dangling
    (only_more n x (cell 0) (only_more n x (cell 0) (only_more n x (cell 0) (only_more n x null (only_more n x (cell 0) (every_none (Plain n)))))))
set_plain bad_steps n ts = λ m i. (steps_flat n ts m i).0

cells_are : (set : ReadySet) (n : ℕ) (ts : List Transition) → cells_in (shapes_of set n ts) ≡ cells_of set
cells_are (not_list x q) n ts = refl
cells_are (lost_block x q) n ts = refl
cells_are bad_steps n ts = flat_cells n (bad_steps_shapes n ts) (steps_flat n ts)

pub set_length : (version : ℕ) (set : ReadySet) (n : ℕ) (ts : List Transition)
    → length (concat_map (located_numbers version) (shapes_of set n ts)) ≡ length (shapes_of set n ts) * (2 + n + count_bytes version) + cells_of set
set_length version set n ts =
    bytes_number version n (shapes_of set n ts) (set_plain set n ts)
    ∙ ap (λ (k : ℕ). length (shapes_of set n ts) * (2 + n + count_bytes version) + k) (cells_are set n ts)

-- the six are the four with a loose cell, and two more
pub put_lost : {at m next : ℕ} {before middle after : List ℕ} (version n x q : ℕ)
    → Put at before (concat_map (located_numbers version) (at_state q (map grow (not_list_shapes n x)))) m middle
    → Put m middle (concat_map (located_numbers version) (at_state q (map grow (ending n x null)))) next after
    → Put at before (concat_map (located_numbers version) (at_state q (lost_block_shapes n x))) next after
put_lost {at} {next = next} {before = before} {after = after} version n x q i j =
    subst (λ (l : List ℕ). Put at before l next after)
    (sym (concat_map_append (located_numbers version) (at_state q (map grow (not_list_shapes n x))) (at_state q (map grow (ending n x null))))) (put_more i j)
