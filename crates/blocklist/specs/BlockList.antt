-- Lists of blocks in a heap. Document 02, Wish 12: the library "holds pattern blocks as cells from variable 1, the head".
use Rattle.std.specs.Prelude.{cond, List, [], ◌∷◌, ◌++◌, ◌≢◌, ◌≡◌, ℕ, zero, suc, eqb, take, drop}
use Rattle.std.proofs.Math.Option.{Option, none, some}
use Rattle.heap.specs.Heap.{Heap, update}
use Rattle.heap.specs.Operation.{without, write}
use Rattle.heap.specs.Place.{null}

-- Following links from p meets the cells of the list, in this order, and then #.
abbrev pub Lists : (ℕ → ℕ) → ℕ → List ℕ → Type 0
Lists link p [] = p ≡ null
Lists link p (x ∷ xs) = (p ≡ x) × (x ≢ null) × Lists link (link x) xs

abbrev pub prepend : ℕ → Option (List ℕ) → Option (List ℕ)
prepend p none = none
prepend p (some xs) = some (p ∷ xs)

-- that list, if # is met within k links. # and * have no link, so past * every place is nowhere.
unfoldable pub cells_from : (ℕ → ℕ) → ℕ → ℕ → Option (List ℕ)
cells_from link zero p = cond (eqb p null) (some []) none
cells_from link (suc k) p = let rest = cells_from link k (link p) in cond (eqb p null) (some []) (prepend p rest)

-- where the first of the cells is, # if there is none
abbrev pub head_of : List ℕ → ℕ
head_of [] = null
head_of (x ∷ xs) = x

-- each cell of the list is linked to the next, the last to #; other links are as they were
abbrev pub chained : List ℕ → (ℕ → ℕ) → ℕ → ℕ
chained [] link = link
chained (x ∷ xs) link = update (chained xs link) x (head_of xs)

-- variables 1, 2 and 3 stand at a, b and c; other operands as they did
abbrev pub three : (ℕ → ℕ) → ℕ → ℕ → ℕ → ℕ → ℕ
three var a b c zero = var zero
three var a b c (suc zero) = a
three var a b c (suc (suc zero)) = b
three var a b c (suc (suc (suc zero))) = c
three var a b c (suc (suc (suc (suc v)))) = var (suc (suc (suc (suc v))))

-- the heap with the list xs at the head, and variables 2 and 3 at #: "these end at # after each of the three"
abbrev pub holding : List ℕ → Heap → Heap
holding xs h = record { link = chained xs h.link; var = three h.var (head_of xs) null null; value = h.value }

-- "the old ones with one put in at n", and "with the n-th gone", for n from 1 (here i is n - 1)
abbrev pub put_in : ℕ → ℕ → List ℕ → List ℕ
put_in n x xs = take n xs ++ (x ∷ drop n xs)

abbrev pub taken_out : ℕ → List ℕ → List ℕ
taken_out i xs = take i xs ++ drop (suc i) xs

-- the cell numbered i from 0
abbrev pub cell_at : ℕ → List ℕ → ℕ
cell_at i xs = head_of (drop i xs)

-- the heap after each of the three, where xs are the cells from the head
abbrev pub counted : Heap → Heap
counted h = record { link = h.link; var = three h.var (h.var 1) null null; value = h.value }

abbrev pub inserted : ℕ → ℕ → List ℕ → Heap → Heap
inserted n x xs h = holding (put_in n x xs) (write h x none)

abbrev pub removed : ℕ → List ℕ → Heap → Heap
removed i xs h = holding (taken_out i xs) (without h (cell_at i xs))
