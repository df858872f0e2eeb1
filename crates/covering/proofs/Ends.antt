-- The way to a stop by marks ends where the path by images ends.
use mathlib.Core.Bool.{Bool, true, false}
use mathlib.Core.List.{List}
use mathlib.Core.Path.{◌≡◌, refl, sym, ap, ◌∙◌}
use Prim.Native.Nat.{ℕ, zero, suc, ◌<◌}
use native.Mathlib.Decide.{ℕ_discrete, dec_lt}
use native.Mathlib.Omega.{arith}
use lib.ListN.{get_or}
use Rattle.heap.specs.Codes.{link_in}
use Rattle.heap.specs.Place.{nowhere, cell}
use Rattle.cover.specs.Test.{stops, walk_end}
use Rattle.marks.specs.Marks.{cells_in, mark_in, stop_from}
use Rattle.marks.proofs.Walks.{stop_none, stop_met, stop_past, stop_more}
use Rattle.covering.specs.Marks.{Walking, end_from}
use Rattle.covering.proofs.Follow.{link_read, marked_end, end_marked}
use Rattle.covering.proofs.Trail.{free_low, no_link}

module _ (links images used s marks : List ℕ) (from : ℕ) (w : Walking links images used s marks from) where
  abbrev end : ℕ → ℕ → ℕ
  end = walk_end (link_in links) (stops images)

  still : (k : ℕ) → end k nowhere ≡ nowhere
  still zero = refl
  still (suc k) = refl

  ends : (k p : ℕ) → stop_from k s marks p ≡ end k p
  ends zero p = stop_none s marks p
  ends (suc k) p = by_mark (ends k (get_or s p 0)) (ℕ_discrete (mark_in (cells_in s) marks p) 1)
    where
      by_mark : stop_from k s marks (get_or s p 0) ≡ end k (get_or s p 0) → Dec (mark_in (cells_in s) marks p ≡ 1) → stop_from (suc k) s marks p ≡ end (suc k) p
      by_mark rest (yes m) = stop_met s marks p k m ∙ rw (marked_end links images used s marks from w p m) refl
      by_mark rest (no m) = by_place (dec_lt p (cell (cells_in s)))
        where
          free : (b : Bool) → stops images p ≡ b → stops images p ≡ false
          free false z = z
          free true z = absurd (m (end_marked links images used s marks from w p z))

          on : end (suc k) p ≡ end k (link_in links p)
          on = rw (free (stops images p) refl) refl

          by_place : Dec (p < cell (cells_in s)) → stop_from (suc k) s marks p ≡ end (suc k) p
          by_place (yes b) =
              let link : get_or s p 0 ≡ link_in links p =
              link_read links s w.linked p (free_low images p (free (stops images p) refl), omega (arith, w.cells)) in
              stop_more s marks p k m b ∙ rest ∙ ap (end k) link ∙ sym on
          by_place (no b) = stop_past s marks p k m (omega arith) ∙ sym (on ∙ ap (end k) (no_link links p (omega (arith, w.cells))) ∙ still k)

  pub ends_same : stop_from (cells_in s) s marks (get_or s from 0) ≡ end_from links images from
  ends_same =
      rw (link_read links s w.linked from (w.low, w.high))
      (ends (cells_in s) (link_in links from) ∙ ap (λ (k : ℕ). end k (link_in links from)) (sym w.cells))
