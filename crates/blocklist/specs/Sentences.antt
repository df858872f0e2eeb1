-- What the three do to a heap, in the sentences of document 02, Wish 12. h is the heap before, k the heap after.
use Rattle.std.specs.Prelude.{List, ◌≢◌, ◌≡◌, ℕ, ◌<◌}
use Rattle.std.proofs.Math.Option.{none}
use Rattle.heap.specs.Heap.{Heap}
use Rattle.heap.specs.Operation.{dangled}
use Rattle.heap.specs.Place.{nowhere, null}
use Rattle.lists.specs.List.{◌∈◌}
use Rattle.blocklist.specs.BlockList.{Lists, put_in, taken_out}

-- "changes nothing but variables 2 and 3; these end at #"
pub record OnlyRests (h k : Heap) : Type 0 where
  pub links : (p : ℕ) → k.link p ≡ h.link p
  pub values : (p : ℕ) → k.value p ≡ h.value p
  pub variables : (v : ℕ) → v ≢ 2 → v ≢ 3 → k.var v ≡ h.var v
  pub second : k.var 2 ≡ null
  pub third : k.var 3 ≡ null

-- the cell x, which was free, is put in at n among the cells xs
pub record PutsIn (n x : ℕ) (xs : List ℕ) (h k : Heap) : Type 0 where
  pub was_free : h.link x ≡ nowhere
  -- "After an insert the cells from the head are the old ones with one put in at n"
  pub cells : Lists k.link (k.var 1) (put_in n x xs)
  -- "the old cells that stay keep their values", and the new one has none
  pub values : (p : ℕ) → p ≢ x → k.value p ≡ h.value p
  pub no_value : k.value x ≡ none
  -- "other cells and variables are as they were"
  pub links : (p : ℕ) → ¬ (p ∈ put_in n x xs) → k.link p ≡ h.link p
  pub variables : (v : ℕ) → 3 < v → k.var v ≡ h.var v
  pub second : k.var 2 ≡ null
  pub third : k.var 3 ≡ null

-- the cell x, numbered i from 0 among the cells xs, is taken out
pub record TakesOut (i x : ℕ) (xs : List ℕ) (h k : Heap) : Type 0 where
  pub was_in : x ∈ xs
  -- "after a remove, with the n-th gone, its cell free again and the rest in their order"
  pub cells : Lists k.link (k.var 1) (taken_out i xs)
  pub free : k.link x ≡ nowhere
  pub no_value : k.value x ≡ none
  -- "the old cells that stay keep their values, other cells and variables are as they were, save what delete turns to *"
  pub values : (p : ℕ) → p ≢ x → k.value p ≡ h.value p
  pub links : (p : ℕ) → ¬ (p ∈ xs) → k.link p ≡ dangled x (h.link p)
  pub variables : (v : ℕ) → 3 < v → k.var v ≡ dangled x (h.var v)
  pub second : k.var 2 ≡ null
  pub third : k.var 3 ≡ null
