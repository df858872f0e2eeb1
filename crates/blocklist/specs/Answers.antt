-- What insert, remove and count answer, for every table and number.
use Rattle.std.specs.Prelude.{Bool, true, ◌&&◌, cond, Result, Ok, Err, List, ◌≢◌, ◌↔◌, ◌≡◌, ℕ, zero, suc, leb, ltb, length}
use Rattle.std.proofs.Math.Option.{Option, none, some}
use Rattle.heap.specs.Follow.{follow}
use Rattle.heap.specs.Heap.{Heap}
use Rattle.heap.specs.Place.{null, cell}
use Rattle.stepper.specs.Step.{lowest_unused}
use Rattle.stepper.specs.Table.{heap_of, table_of, well_formed}
use Rattle.stepper.specs.declared.Heap64.{Heap64}
use Rattle.blocklist.specs.BlockList.{Lists, cells_from, cell_at, counted, inserted, removed}
use Rattle.blocklist.specs.Sentences.{OnlyRests, PutsIn, TakesOut}
use Rattle.blocklist.specs.declared.ListRefusal.{ListRefusal}
use Rattle.blocklist.specs.declared.ListRefusal.TheVariants.{IllFormed, NoList, PastList, Full}

-- document 02's numbers
abbrev pub refusal_number : ListRefusal → ℕ
refusal_number IllFormed = 13
refusal_number NoList = 29
refusal_number PastList = 28
refusal_number Full = 15

-- the opposite of "13 for a bad heap or fewer than three variables"
abbrev pub ready : Heap64 → Bool
ready t = well_formed t && leb 3 t.variables

-- the cells met from the head, if # is: a table has 64 cells
abbrev pub blocks : Heap64 → Option (List ℕ)
blocks t = cells_from (heap_of t).link 64 ((heap_of t).var 1)

abbrev pub on_blocks : {A : Type 0} → (ListRefusal → A) → (List ℕ → A) → Option (List ℕ) → A
on_blocks refused f none = refused NoList
on_blocks refused f (some xs) = f xs

-- 13, then "29 where # isn't met from the head", then what the list gives
abbrev pub with_list : {A : Type 0} → Heap64 → (ListRefusal → A) → (List ℕ → A) → A
with_list t refused f = cond (ready t) (on_blocks refused f (blocks t)) (refused IllFormed)

-- what is told of the cells met
abbrev pub length_told : Option (List ℕ) → Result ℕ ListRefusal
length_told = on_blocks Err (λ xs. Ok (length xs))

-- what a count or an edit answers, and the heap after it
abbrev pub Counted : Type 0
Counted = Result ℕ ListRefusal × Heap64

abbrev pub Edited : Type 0
Edited = Result (Unit {0}) ListRefusal × Heap64

-- "A refusal hands back the heap it got."
abbrev pub hands_back : {A : Type 0} → Heap64 → ListRefusal → Result A ListRefusal × Heap64
hands_back t r = (Err r, t)

-- "Count gives how many cells are met from the head and changes nothing but variables 2 and 3"
unfoldable pub count_of : Heap64 → Counted
count_of t =
    with_list t (hands_back t) (λ xs. (Ok (length xs), table_of t.variables (counted (heap_of t))))

abbrev pub done : Heap64 → Heap → Edited
done t h = (Ok tt, table_of t.variables h)

-- "insert after the n-th (0 is the front)"; "28 for n past the list .. then 15"; new takes the lowest unused cell
unfoldable pub insert_of : Heap64 → ℕ → Edited
insert_of t n =
    let x = lowest_unused t.used in
    with_list t (hands_back t) (λ xs. cond (ltb (length xs) n) (hands_back t PastList)
    (cond (leb 64 x) (hands_back t Full) (done t (inserted n (cell x) xs (heap_of t)))))

-- "28 for n past the list or 0 in a remove"
abbrev pub remove_nth : Heap64 → ℕ → List ℕ → Edited
remove_nth t zero xs = hands_back t PastList
remove_nth t (suc i) xs = cond (ltb i (length xs)) (done t (removed i xs (heap_of t))) (hands_back t PastList)

unfoldable pub remove_of : Heap64 → ℕ → Edited
remove_of t n = with_list t (hands_back t) (remove_nth t n)

-- ---- what the three promise

-- "29 where # isn't met from the head": the cells told are those met and then #, however many there are, and there are none just if # is not met
pub record MetFromHead (t : Heap64) : Type 0 where
  pub cells : (xs : List ℕ) → (blocks t ≡ some xs) ↔ Lists (heap_of t).link ((heap_of t).var 1) xs
  pub none_met : (blocks t ≡ none) ↔ ((k : ℕ) → follow (heap_of t).link k ((heap_of t).var 1) ≢ null)

-- The answer is that of the definition, and a well formed table stays well formed. Where it is done, the table stands for the heap that the definition
-- names, of which the sentences of document 02 hold.
pub record Counts (t : Heap64) (r : Counted) : Type 0 where
  pub result : r ≡ count_of t
  pub formed : well_formed t ≡ true → well_formed r.1 ≡ true
  pub met : MetFromHead t
  pub counts : (n : ℕ) → r.0 ≡ Ok n
      → (xs : List ℕ) × (blocks t ≡ some xs) × (length xs ≡ n) × (heap_of r.1 ≡ counted (heap_of t)) × OnlyRests (heap_of t) (heap_of r.1)

pub record Inserts (t : Heap64) (n : ℕ) (r : Edited) : Type 0 where
  pub result : r ≡ insert_of t n
  pub formed : well_formed t ≡ true → well_formed r.1 ≡ true
  pub met : MetFromHead t
  pub inserts : let x = cell (lowest_unused t.used) in
      r.0 ≡ Ok tt
      → (xs : List ℕ) × (blocks t ≡ some xs) × (heap_of r.1 ≡ inserted n x xs (heap_of t)) × PutsIn n x xs (heap_of t) (heap_of r.1)

pub record Removes (t : Heap64) (n : ℕ) (r : Edited) : Type 0 where
  pub result : r ≡ remove_of t n
  pub formed : well_formed t ≡ true → well_formed r.1 ≡ true
  pub met : MetFromHead t
  pub removes : r.0 ≡ Ok tt
      → (xs : List ℕ) × (i : ℕ) × (n ≡ suc i) × (blocks t ≡ some xs) × (heap_of r.1 ≡ removed i xs (heap_of t))
      × TakesOut i (cell_at i xs) xs (heap_of t) (heap_of r.1)
