-- The library's tests of bytes are the definitions' words: a prefix that is stripped stands at the front, and equal bytes are the word.
use mathlib.Core.Bool.{Bool, true, false, ◌&&◌}
use mathlib.Core.List.{List, [], ◌∷◌}
use mathlib.Core.Path.{◌≡◌, refl, ap, ◌∙◌}
use Prim.Native.Nat.{ℕ, suc, ◌-◌, ◌≤◌}
use native.Mathlib.Omega.{arith}
use borrow.Author.Tests.{ne_eqb}
use lib.Dec.{eqb, eqb-suc-suc}
use lib.ListN.{length, get_or, take, drop}
use lib.Seq.{take_all}
use Rattle.std.specs.Prelude.{Some}
use Rattle.lines.specs.Line.{letter_of, operand_of}
use Rattle.std.specs.Cmp.Lexicographic.{pointwise}
use Rattle.lines.specs.Words.{null, while, if, mark, equals, differs, gets, next_gets, new, delete, starts, is_word}

pub starts_stripped : (s w : List ℕ) → pointwise eqb (take (length w) s) w ≡ starts s w
unfolding starts
starts_stripped [] [] = refl
starts_stripped (b ∷ s) [] = refl
starts_stripped [] (c ∷ w) = refl
starts_stripped (b ∷ s) (c ∷ w) = ap (λ r. eqb b c && r) (starts_stripped s w)

-- each word at the front
pub front_null : (s : List ℕ) → pointwise eqb (take 4 s) null ≡ starts s null
front_null s = starts_stripped s null

pub front_mark : (s : List ℕ) → pointwise eqb (take 5 s) mark ≡ starts s mark
front_mark s = starts_stripped s mark

pub front_while : (s : List ℕ) → pointwise eqb (take 6 s) while ≡ starts s while
front_while s = starts_stripped s while

pub front_if : (s : List ℕ) → pointwise eqb (take 3 s) if ≡ starts s if
front_if s = starts_stripped s if

pub front_equals : (s : List ℕ) → pointwise eqb (take 3 s) equals ≡ starts s equals
front_equals s = starts_stripped s equals

pub front_differs : (s : List ℕ) → pointwise eqb (take 4 s) differs ≡ starts s differs
front_differs s = starts_stripped s differs

pub front_gets : (s : List ℕ) → pointwise eqb (take 4 s) gets ≡ starts s gets
front_gets s = starts_stripped s gets

pub front_next_gets : (s : List ℕ) → pointwise eqb (take 9 s) next_gets ≡ starts s next_gets
front_next_gets s = starts_stripped s next_gets

pub front_new : (s : List ℕ) → pointwise eqb (take 4 s) new ≡ starts s new
front_new s = starts_stripped s new

pub front_delete : (s : List ℕ) → pointwise eqb (take 7 s) delete ≡ starts s delete
front_delete s = starts_stripped s delete

pub ruleset fronts = (front_null, front_mark, front_while, front_if, front_equals, front_differs, front_gets, front_next_gets, front_new, front_delete)

pub is_word_equal : (s w : List ℕ) → pointwise eqb s w ≡ is_word s w
unfolding is_word starts
is_word_equal [] [] = refl
is_word_equal (b ∷ s) [] = simp (ne_eqb (suc (length s)) 0 (λ e. omega arith))
is_word_equal [] (c ∷ w) = simp (ne_eqb 0 (suc (length w)) (λ e. omega arith))
is_word_equal (b ∷ s) (c ∷ w) = rw eqb-suc-suc (ap (λ r. eqb b c && r) (is_word_equal s w) ∙ swap (eqb b c) (eqb (length s) (length w)) (starts s w))
  where
    swap : (x y z : Bool) → x && (y && z) ≡ y && (x && z)
    swap true y z = refl
    swap false true z = refl
    swap false false z = refl

pub is_word_none : (s : List ℕ) → is_word s [] ≡ eqb (length s) 0
unfolding is_word starts
is_word_none [] = refl
is_word_none (b ∷ s) = simp (ne_eqb (suc (length s)) 0 (λ e. omega arith))

pub ruleset wholes = (is_word_equal, is_word_none)

-- an operand that is a letter, and what a slice pattern leaves behind it
pub letter_operand : (s : List ℕ) (a : ℕ) → starts s null ≡ false → 1 ≤ length s → Some a ≡ letter_of (get_or s 0 0)
    → operand_of s ≡ Some (a, take (length s - 1) (drop 1 s))
unfolding operand_of
letter_operand [] a n h e = absurd (omega arith)
letter_operand (x ∷ s) a n h e = rw (n, ← e, take_all (suc (length s) - 1) s (omega arith)) refl
