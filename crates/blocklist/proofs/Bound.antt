-- A list in a table has at most 64 cells, so that following 64 links misses none; and 29 is told just where # is not met.
use mathlib.Core.List.{List, [], ◌∷◌}
use mathlib.Core.Logic.{◌≢◌, ◌↔◌}
use mathlib.Core.Option.{Option, none, some}
use mathlib.Core.Path.{◌≡◌, refl, sym, ap, ◌∙◌}
use Prim.Native.Nat.{ℕ, zero, suc, ◌≤◌, ◌<◌}
use native.Mathlib.Decide.{ℕ_discrete, dec_lt}
use native.Mathlib.Omega.{arith}
use lib.ListN.{length, length-map}
use Rattle.lists.proofs.List.{pigeonhole}
use Rattle.heap.specs.Follow.{follow}
use Rattle.heap.specs.Place.{null}
use Rattle.heap.proofs.Codes.{link_low, link_past}
use Rattle.place.specs.Place.{codes}
use Rattle.place.specs.declared.Place.{Place}
use Rattle.stepper.specs.Table.{heap_of}
use Rattle.stepper.specs.declared.Heap64.{Heap64}
use Rattle.blocklist.specs.BlockList.{Lists}
use Rattle.blocklist.specs.Answers.{blocks, MetFromHead}
use Rattle.blocklist.proofs.Chains.{cells_lists, lists_cells, lists_distinct, lists_linked}

-- # is met exactly if there is a list
module _ (link : ℕ → ℕ) where
  met_lists : (k p : ℕ) → follow link k p ≡ null → (xs : List ℕ) × Lists link p xs
  met_lists zero p e = ([], e)
  met_lists (suc k) p e = go (ℕ_discrete p null) (met_lists k (link p) e)
    where
      go : Dec (p ≡ null) → (xs : List ℕ) × Lists link (link p) xs → (xs : List ℕ) × Lists link p xs
      go (yes z) r = ([], z)
      go (no n) (xs, l) = (p ∷ xs, (refl, n, l))

  lists_met : (p : ℕ) (xs : List ℕ) → Lists link p xs → follow link (length xs) p ≡ null
  lists_met p [] l = l
  lists_met p (x ∷ xs) (e, n, l) = ap (λ (q : ℕ). follow link (length xs) (link q)) e ∙ lists_met (link x) xs l

module _ (t : Heap64) (sized : length t.links ≡ 64) where
  abbrev link : ℕ → ℕ
  link = (heap_of t).link

  -- what has a link is a cell of the table
  inside : (p : ℕ) → link p ≢ 0 → (3 ≤ p) × (p < 67)
  inside p n = (low (dec_lt p 3), high (dec_lt p 67))
    where
      low : Dec (p < 3) → 3 ≤ p
      low (yes h) = absurd (n (sym (link_low (codes t.links) p h)))
      low (no h) = omega arith

      high : Dec (p < 67) → p < 67
      high (yes h) = h
      high (no h) = absurd (n (sym (link_past (codes t.links) p (omega (arith, sized, length-map t.links (λ (q : Place). q.code))))))

  bound : (p : ℕ) (xs : List ℕ) → Lists link p xs → length xs ≤ 64
  bound p xs l =
      pigeonhole 3 64 xs (lists_distinct link p xs l)
      (λ x m. let i = inside x (lists_linked link refl refl p xs l x m) in (i.0, omega (arith, i.1)))

  cells_exactly : (xs : List ℕ) → (blocks t ≡ some xs) ↔ Lists link ((heap_of t).var 1) xs
  cells_exactly xs =
      (cells_lists link 64 ((heap_of t).var 1) xs, λ l. lists_cells link 64 ((heap_of t).var 1) xs l (bound ((heap_of t).var 1) xs l))

  none_exactly : (blocks t ≡ none) ↔ ((k : ℕ) → follow link k ((heap_of t).var 1) ≢ null)
  none_exactly = (λ e k z. there e (met_lists link k ((heap_of t).var 1) z), λ n. go (blocks t) refl n)
    where
      there : blocks t ≡ none → (xs : List ℕ) × Lists link ((heap_of t).var 1) xs → ⊥
      there e (xs, l) = let z : blocks t ≡ some xs = (cells_exactly xs).1 l in let q : ◌≡◌ {A = ℕ} 0 1 = cc in omega arith

      go : (o : Option (List ℕ)) → blocks t ≡ o → ((k : ℕ) → follow link k ((heap_of t).var 1) ≢ null) → blocks t ≡ none
      go none e n = e
      go (some xs) e n = absurd (n (length xs) (lists_met link ((heap_of t).var 1) xs ((cells_exactly xs).0 e)))

  pub met : MetFromHead t
  met = record { cells = cells_exactly; none_met = none_exactly }
