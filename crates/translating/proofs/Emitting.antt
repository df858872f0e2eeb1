-- Transitions put one after the other into the job's bytes.
use mathlib.Core.List.{List, [], ◌∷◌, ◌++◌}
use mathlib.Core.Path.{◌≡◌, refl, sym, ap, ◌∙◌}
use Prim.Native.Nat.{ℕ, zero, suc, ◌+◌, ◌*◌, ◌<◌}
use native.Mathlib.Omega.{arith}
use lib.ListN.{length, take, drop, length-append, length-drop}
use lib.Seq.{sets, length-sets, sets-eq, take_at, take-nil, drop-append-le, length-take-le}
use Rattle.lines.specs.declared.Operation.{Operation}
use Rattle.listing.specs.LineByLine.{arrow_numbers}
use Rattle.translating.specs.Reading.{Adds}
use Rattle.translating.specs.Work.{transitions_in}

-- the first bytes behind the first k
drop_take : (k n : ℕ) (l : List ℕ) → drop k (take (k + n) l) ≡ take n (drop k l)
drop_take zero n l = let z : 0 + n ≡ n = omega arith in ap (λ m. take m l) z
drop_take (suc k) n [] = ap (drop (suc k)) (take-nil (suc k + n)) ∙ sym (take-nil n)
drop_take (suc k) n (x ∷ l) = let z : suc k + n ≡ suc (k + n) = omega arith in ap (λ m. drop (suc k) (take m (x ∷ l))) z ∙ drop_take k n l

module _ (job : List ℕ) (count : ℕ) (size : length job ≡ 635) (few : count < 126) where
  -- five numbers behind those that are there
  put_behind : (vs : List ℕ) → length vs ≡ 5 → transitions_in (suc count) (sets job (5 + 5 * count) vs) ≡ transitions_in count job ++ vs
  put_behind vs five =
      let at = 5 + 5 * count in
      let front = length-take-le at job (omega arith) in
      let both : length (take at job ++ vs) ≡ at + 5 = length-append (take at job) vs ∙ omega arith in
      let here : drop 5 (take at job ++ vs) ≡ transitions_in count job ++ vs = drop-append-le 5 (take at job) vs (omega arith) ∙ ap (λ l. l ++ vs) (drop_take 5 (5 * count) job) in
      let long : length (transitions_in count job ++ vs) ≡ 5 * suc count = ap length (sym here) ∙ length-drop 5 (take at job ++ vs) ∙ omega arith in
      ap (λ l. take (5 * suc count) (drop 5 l)) (sets-eq vs job at (omega arith))
      ∙ ap (take (5 * suc count)) (drop-append-le 5 (take at job ++ vs) (drop (at + length vs) job) (omega arith) ∙ ap (λ l. l ++ drop (at + length vs) job) here)
      ∙ take_at (transitions_in count job ++ vs) (drop (at + length vs) job) (5 * suc count) long

  pub adds : (from : ℕ) (o : Operation) (to : ℕ) → Adds job count from o to (sets job (5 + 5 * count) (arrow_numbers from o to))
  adds from o to =
      record { size = length-sets job (5 + 5 * count) (arrow_numbers from o to) ∙ size; all = put_behind (arrow_numbers from o to) refl }
