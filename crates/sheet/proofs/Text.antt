-- The text of a fraction and of the sheet.
use mathlib.Core.List.{List, [], ◌∷◌, ◌++◌}
use mathlib.Core.Path.{◌≡◌}
use Prim.Native.Nat.{ℕ, ◌/◌, ◌<◌, ◌≤◌}
use native.Mathlib.Nat.{div-le_self, ne_of_gt}
use native.Mathlib.Omega.{arith}
use borrow.Author.Tests.{eq-eqb, ne_eqb, le-leb, lt-leb}
use lib.ListN.{length, take}
use Rattle.std.proofs.Common.{Ok, Err}
use Rattle.number.specs.CallResult.{lent}
use Rattle.putting.specs.Digits.{digits}
use Rattle.putting.specs.Put.{Put, PutIfRoom}
use Rattle.putting.proofs.Decimal.{few_digits}
use Rattle.putting.proofs.Putting.{put_more, put_first, put_taken}
use Rattle.sheet.specs.Lowest.{gcd}
use Rattle.sheet.specs.Sheet.{none_text, share_text, covers_text, fraction_text, sheet_text, reported}

-- a part of a number of 32 bits has ten digits at most
pub part_digits : (n g : ℕ) → n < 4294967296 → length (digits (n / g)) ≤ 10
part_digits n g h = few_digits 9 (n / g) (omega (arith, div-le_self n g))

module _ (n d : ℕ) where
  pub text_none : d ≡ 0 → fraction_text n d ≡ none_text
  unfolding fraction_text
  text_none e = rw (eq-eqb d 0 e)

  pub text_some : 0 < d → fraction_text n d ≡ digits (n / gcd n d) ++ (47 ∷ []) ++ digits (d / gcd n d)
  unfolding fraction_text
  text_some p = rw (ne_eqb d 0 (ne_of_gt p))

-- ---- the sheet

-- the four parts, one after the other
pub put_sheet : (v n m : ℕ) {a b c d : ℕ} {out o₁ o₂ o₃ after : List ℕ} → Put 0 out share_text a o₁ → Put a o₁ (fraction_text n v) b o₂ → Put b o₂ covers_text c o₃
    → Put c o₃ (fraction_text m n) d after → Put 0 out (sheet_text v n m) d after
unfolding sheet_text
put_sheet v n m p q r s = put_more (put_more (put_more p q) r) s

-- the sheet of n bytes is put: what is told of it, and what it leaves of the room
module _ {text before sheet : List ℕ} {n : ℕ} (p : Put 0 before text n sheet) (out : List ℕ) where
  pub told_short : length out < n → Err (record { needed = n }) ≡ reported text (length out)
  unfolding reported
  told_short h = let is : n ≡ length text = omega (arith, p.next_is) in rw (is, lt-leb (length text) (length out) (omega arith))

  pub told_written : n ≤ length out → Ok n ≡ reported text (length out)
  unfolding reported
  told_written h = let is : n ≡ length text = omega (arith, p.next_is) in rw (is, le-leb (length text) (length out) (omega arith))

  pub left : length out < n → out ≡ lent text out
  unfolding lent
  left h = rw (lt-leb (length text) (length out) (omega (arith, p.next_is)))

  pub copied : {next : ℕ} {after : List ℕ} → n ≤ length out → PutIfRoom 0 out (take n sheet) next after → after ≡ lent text out
  unfolding lent
  copied h c = rw (le-leb (length text) (length out) (omega (arith, p.next_is))) (put_first ((rw (put_taken p) at c).room (omega (arith, p.next_is))))
