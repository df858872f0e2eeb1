-- The bytes of a job with more forbidden shapes: those of the job with another number of them, and then theirs.
use mathlib.Core.Bool.{Bool, true, false, cond}
use mathlib.Core.List.{List, [], ◌∷◌, ◌++◌, append_assoc, append-nil}
use mathlib.Core.Path.{◌≡◌, refl, sym, ap, subst, ◌∙◌}
use Prim.Native.Nat.{ℕ, ◌+◌, ◌*◌, ◌≤◌, ◌<◌}
use native.Mathlib.Omega.{arith}
use lib.Dec.{eqb}
use lib.ListN.{length, set as set', length-append}
use lib.Seq.{set_at}
use Rattle.lists.specs.List.{concat_map}
use Rattle.lists.proofs.List.{concat_map_append}
use Rattle.number.specs.Number.{bytes_of}
use Rattle.number.specs.NumberList.{encode}
use Rattle.number.specs.Range.{AtMost}
use Rattle.number.proofs.Encoding.{encode_append, encode_byte, encode_bytes}
use Rattle.heap.specs.Operation.{Op, equal, different, assign, load, store, delete, equal_value, below_value, copy, larger, smaller, read}
use Rattle.heap.specs.Operation.{new as newOp}
use Rattle.shape.specs.Shape.{size}
use Rattle.run.specs.Run.{Transition, Located}
use Rattle.format.specs.JobBytes.{LocatedInRange, JobInRange}
use Rattle.format.specs.JobNumbers.{JobFile, op_numbers, transition_numbers, facts_numbers, located_numbers, job_numbers}
use Rattle.forbidden.specs.Written.{ReadySet, shapes_of, with_set, Inside}
use Rattle.forbidden.proofs.Written.{set_in_range}
use Rattle.forbidding.proofs.Shapes.{set_plain}
use Rattle.format.proofs.Written.{at_most_append, at_most_all, located_at_most, transition_at_most}

three : (o : Op) → length (op_numbers o) ≡ 3
three (equal a b) = refl
three (different a b) = refl
three (assign a b) = refl
three (load a b) = refl
three (store a b) = refl
three (newOp a) = refl
three (delete a) = refl
three (equal_value a b) = refl
three (below_value a b) = refl
three (copy a b) = refl
three (larger a b) = refl
three (smaller a b) = refl
three (read a) = refl

transitions_length : (ts : List Transition) → length (concat_map transition_numbers ts) ≡ 5 * length ts
transitions_length [] = refl
transitions_length (t ∷ ts) =
    omega (
      arith,
      length-append (transition_numbers t) (concat_map transition_numbers ts),
      length-append (op_numbers t.op) (t.to ∷ []),
      three t.op,
      transitions_length ts,
    )

-- without facts, every number of a state with a shape is one byte
module _ (version variables states : ℕ) (m : Located) where
  in_first : m.shape.facts ≡ [] → LocatedInRange version variables states m → LocatedInRange 1 variables states m
  in_first z ok =
      record {
        state = ok.state;
        shape = ok.shape;
        facts = record { number = ok.facts.number; rising = ok.facts.rising; none = λ _. z };
      }

  plain_numbers : m.shape.facts ≡ [] → located_numbers version m ≡ located_numbers 1 m ++ facts_numbers version []
  plain_numbers z =
      let none = facts_numbers version [] in
      ap (λ l. m.state ∷ size m.shape ∷ m.shape.vars ++ (m.shape.links ++ facts_numbers version l)) z
      ∙ ap (λ l. m.state ∷ size m.shape ∷ m.shape.vars ++ (l ++ none)) (sym (append-nil m.shape.links))
      ∙ ap (λ l. m.state ∷ size m.shape ∷ l) (sym (append_assoc m.shape.vars (m.shape.links ++ []) none))

  plain_small : states ≤ 64 → LocatedInRange version variables states m → m.shape.facts ≡ [] → AtMost 127 (located_numbers version m)
  plain_small h ok z =
      subst (AtMost 127) (sym (plain_numbers z))
      (at_most_append 127 (located_numbers 1 m) (facts_numbers version [])
      (located_at_most 127 (omega arith) 1 (λ e. absurd (omega arith)) variables states m h (in_first z ok)) (go (eqb version 2)))
    where
      go : (b : Bool) → AtMost 127 (cond b (0 ∷ []) [])
      go true = (omega arith, tt)
      go false = tt

module _ (f : JobFile) (ok : JobInRange f) where
  -- the numbers of the job before that of its forbidden shapes
  abbrev front : List ℕ
  front =
      f.version ∷ f.job.variables ∷ f.states ∷ f.job.start ∷ length f.job.transitions ∷ concat_map transition_numbers f.job.transitions

  front_length : length (encode front) ≡ 4 + length (bytes_of (length f.job.transitions)) + 5 * length f.job.transitions
  unfolding encode
  front_length =
      let count = length f.job.transitions in
      let ts = concat_map transition_numbers f.job.transitions in
      let small : AtMost 127 ts =
      at_most_all 127 transition_numbers f.job.transitions
      (λ t i.
      transition_at_most 127 (omega arith) f.version f.job.variables f.states t ok.variables.1 ok.states.1 (ok.transitions t i)) in
      let bytes : encode front ≡ f.version ∷ f.job.variables ∷ f.states ∷ f.job.start ∷ (bytes_of count ++ ts) =
      encode_byte f.version (f.job.variables ∷ f.states ∷ f.job.start ∷ count ∷ ts) (omega (arith, ok.version.1))
      ∙ ap (λ (l : List ℕ). f.version ∷ l) (encode_byte f.job.variables (f.states ∷ f.job.start ∷ count ∷ ts) (omega (arith, ok.variables.1))
      ∙ ap (λ (l : List ℕ). f.job.variables ∷ l) (encode_byte f.states (f.job.start ∷ count ∷ ts) (omega (arith, ok.states.1))
      ∙ ap (λ (l : List ℕ). f.states ∷ l) (encode_byte f.job.start (count ∷ ts) (omega (arith, ok.start, ok.states.1))
      ∙ ap (λ (l : List ℕ). f.job.start ∷ (bytes_of count ++ l)) (encode_bytes ts small)))) in
      omega (arith, ap length bytes, length-append (bytes_of count) ts, transitions_length f.job.transitions)

  -- the bytes, in three parts
  parted : (count : ℕ) (ms : List Located) → count < 128 → encode (front ++ (count ∷ concat_map (located_numbers f.version) ms)) ≡ encode front ++ (count ∷ encode (concat_map (located_numbers f.version) ms))
  parted count ms h = encode_append front (count ∷ concat_map (located_numbers f.version) ms) ∙ ap (λ (l : List ℕ). encode front ++ l) (encode_byte count (concat_map (located_numbers f.version) ms) h)

  module _ (job : List ℕ) (job_is : job ≡ encode (job_numbers f)) (place : ℕ)
      (place_is : place ≡ 4 + length (bytes_of (length f.job.transitions)) + 5 * length f.job.transitions) where
    old : job ≡ encode front ++ (length f.job.forbidden ∷ encode (concat_map (located_numbers f.version) f.job.forbidden))
    old = job_is ∙ parted (length f.job.forbidden) f.job.forbidden (omega (arith, ok.forbidden_number.1))

    pub place_inside : place < length job
    place_inside =
        omega (
          arith,
          ap length old,
          length-append (encode front) (length f.job.forbidden ∷ encode (concat_map (located_numbers f.version) f.job.forbidden)),
          front_length,
        )

    module _ (set : ReadySet) (inside : Inside set f.job.variables f.states) (few : length (with_set set f).job.forbidden ≤ 64) where
      abbrev added : List Located
      added = shapes_of set f.job.variables f.job.transitions

      -- with the set after its own
      pub with_bytes : set' job place (length (with_set set f).job.forbidden) ++ concat_map (located_numbers f.version) added ≡ encode (job_numbers (with_set set f))
      with_bytes =
          let count = length (with_set set f).job.forbidden in
          let ys = encode (concat_map (located_numbers f.version) f.job.forbidden) in
          let xs = concat_map (located_numbers f.version) added in
          let small : AtMost 127 xs =
          at_most_all 127 (located_numbers f.version) added
          (λ m i. plain_small f.version f.job.variables f.states m ok.states.1 (set_in_range f ok set inside m i)
          (set_plain set f.job.variables f.job.transitions m i).1) in
          let both : encode (concat_map (located_numbers f.version) (f.job.forbidden ++ added)) ≡ ys ++ xs =
          ap encode (concat_map_append (located_numbers f.version) f.job.forbidden added)
          ∙ encode_append (concat_map (located_numbers f.version) f.job.forbidden) xs
          ∙ ap (λ (l : List ℕ). ys ++ l) (encode_bytes xs small) in
          ap (λ (l : List ℕ). set' l place count ++ xs) old
          ∙ ap (λ (l : List ℕ). l ++ xs) (set_at (encode front) (length f.job.forbidden) ys count place (front_length ∙ sym place_is))
          ∙ append_assoc (encode front) (count ∷ ys) xs
          ∙ ap (λ (l : List ℕ). encode front ++ (count ∷ l)) (sym both)
          ∙ sym (parted count (f.job.forbidden ++ added) (omega arith))
