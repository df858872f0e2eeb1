-- Facts about the values of cells. Document 02, Wish 6: "shapes get facts "cell i below cell j" and "cell i equal to cell j" .. Facts are
-- closed under the usual laws of order and equality (a cell in any fact equals itself)".
use Rattle.std.specs.Prelude.{Bool, false, ◌&&◌, ◌||◌, not, List, [], ◌∷◌, ℕ, zero, suc, ◌<◌, ◌≤◌, eqb}
use Rattle.lists.specs.List.{◌∈◌, Every, all_of, concat_map, keep}
use Rattle.lists.specs.Range.{range}
use Rattle.heap.specs.Place.{cell}
use Rattle.heap.specs.Value.{below, equals}

-- a kind of fact, 0 (below) or 1 (equal), and the two cells as places
pub record Fact : Type 0 where
  pub kind : ℕ
  pub left : ℕ
  pub right : ℕ

-- What follows from given facts. Equality is transitive by `same`, at kind `equals`.
pub data Closure (Given : ℕ → ℕ → ℕ → Type 0) : ℕ → ℕ → ℕ → Type 0 where
  given : {k p q : ℕ} → Given k p q → Closure Given k p q
  self_left : {k p q : ℕ} → Closure Given k p q → Closure Given equals p p
  self_right : {k p q : ℕ} → Closure Given k p q → Closure Given equals q q
  flip : {p q : ℕ} → Closure Given equals p q → Closure Given equals q p
  same : {k p q r : ℕ} → Closure Given equals p q → Closure Given k q r → Closure Given k p r
  less : {p q r : ℕ} → Closure Given below p q → Closure Given below q r → Closure Given below p r
  less_same : {p q r : ℕ} → Closure Given below p q → Closure Given equals q r → Closure Given below p r

-- the facts of a list, and what follows from them
abbrev pub Listed : List Fact → ℕ → ℕ → ℕ → Type 0
Listed l k p q = record { kind = k; left = p; right = q } ∈ l

abbrev pub Follows : List Fact → ℕ → ℕ → ℕ → Type 0
Follows l = Closure (Listed l)

-- a fact about n cells
abbrev pub FactOf : ℕ → Fact → Type 0
FactOf n t = (t.kind < 2) × ((cell 0 ≤ t.left) × (t.left < cell n)) × ((cell 0 ≤ t.right) × (t.right < cell n))

abbrev pub FactsOf : ℕ → List Fact → Type 0
FactsOf n = Every (FactOf n)

-- ---- the same as a computation, for facts about n cells: `closure_reflects` of the proofs says that it decides what follows

-- the fact is in the list
abbrev pub has : List Fact → ℕ → ℕ → ℕ → Bool
has [] k p q = false
has (t ∷ ts) k p q = (eqb t.kind k && (eqb t.left p && eqb t.right q)) || has ts k p q

-- all facts about n cells for which the test holds, rising by kind, left and right
abbrev pub entry : (ℕ → ℕ → ℕ → Bool) → ℕ → ℕ → ℕ → List Fact
entry E k i j = keep (E k (cell i) (cell j)) (record { kind = k; left = cell i; right = cell j })

abbrev pub table : ℕ → (ℕ → ℕ → ℕ → Bool) → List Fact
table n E = concat_map (λ k. concat_map (λ i. concat_map (entry E k i) (range 0 n)) (range 0 n)) (range 0 2)

-- E are closed facts, as a test, and one more about c and d is added and closed again
module _ (E : ℕ → ℕ → ℕ → Bool) (c d : ℕ) where
  -- p is q, or equal to it or below it
  abbrev pub at_most : ℕ → ℕ → Bool
  at_most p q = eqb p q || (E equals p q || E below p q)

  -- p is one of c and d, or equal to one of them; below one of them; above one of them
  abbrev pub among : ℕ → Bool
  among p = (eqb p c || eqb p d) || (E equals p c || E equals p d)

  abbrev pub under : ℕ → Bool
  under p = E below p c || E below p d

  abbrev pub over : ℕ → Bool
  over q = E below c q || E below d q

  -- c below d
  abbrev pub add_below : ℕ → ℕ → ℕ → Bool
  add_below zero p q = E below p q || (at_most p c && at_most d q)
  add_below (suc zero) p q = E equals p q || (eqb p q && (eqb p c || eqb p d))
  add_below (suc (suc k)) p q = false

  -- c equal to d
  abbrev pub add_equal : ℕ → ℕ → ℕ → Bool
  add_equal zero p q = E below p q || ((among p || under p) && ((among q || over q) && (under p || (over q || (over c || over d)))))
  add_equal (suc zero) p q = E equals p q || (among p && among q)
  add_equal (suc (suc k)) p q = false

-- with a fact of this kind about c and d
abbrev pub added : (ℕ → ℕ → ℕ → Bool) → ℕ → ℕ → ℕ → ℕ → ℕ → ℕ → Bool
added E zero c d = add_below E c d
added E (suc zero) c d = add_equal E c d
added E (suc (suc kind)) c d = E

-- the closed facts: one after the other is added
abbrev pub close : ℕ → List Fact → List Fact
close n [] = []
close n (t ∷ ts) = table n (added (has (close n ts)) t.kind t.left t.right)

-- whether a fact follows
abbrev pub follows? : ℕ → List Fact → ℕ → ℕ → ℕ → Bool
follows? n l = has (close n l)

-- none of these facts puts a cell below itself
abbrev pub consistent : List Fact → Bool
consistent l = all_of (λ t. not (eqb t.kind below && eqb t.left t.right)) l
