-- One image marked at a place that has a mark.
use mathlib.Core.Bool.{true, false}
use mathlib.Core.List.{List}
use mathlib.Core.Logic.{◌≢◌}
use mathlib.Core.Path.{◌≡◌, refl, sym, ◌∙◌}
use Prim.Native.Nat.{ℕ, ◌<◌}
use borrow.Author.Tests.{eqb-true, eqb-false, lt-ltb}
use lib.Dec.{eqb}
use lib.ListN.{get_or, set}
use Rattle.marks.specs.Marks.{is_free, marking}

module _ (marks : List ℕ) (p : ℕ) (b : p < 28) where
  pub marking_read : marking marks p ≡ set marks p 1
  marking_read = rw (lt-ltb p 28 b) refl

  free_read : is_free marks p ≡ eqb (get_or marks p 0) 0
  free_read = rw (lt-ltb p 28 b) refl

  pub was_free : is_free marks p ≡ true → get_or marks p 0 ≡ 0
  was_free e = eqb-true (get_or marks p 0) 0 (sym free_read ∙ e)

  pub was_marked : is_free marks p ≡ false → get_or marks p 0 ≢ 0
  was_marked e = eqb-false (get_or marks p 0) 0 (sym free_read ∙ e)
