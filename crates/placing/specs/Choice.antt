-- Placing by the number of a choice. In a shape of n cells: 0 .. n - 1 a cell, n #, n + 1 a fresh cell, n + 2 + i a fresh cell in the middle
-- of the link of cell i.
use Rattle.std.specs.Prelude.{Bool, ◌||◌, not, cond, List, [], ◌∷◌, ◌++◌, ℕ, suc, ◌+◌, ◌-◌, eqb, ltb, leb, length, set}
use Rattle.heap.specs.Codes.{link_in}
use Rattle.heap.specs.Place.{nowhere, null, cell}
use Rattle.shape.specs.Placing.{set_var_in}
use Rattle.shape.specs.Shape.{Shape, var_at, size}

-- where choice k puts a variable
unfoldable pub chosen : ℕ → ℕ → ℕ
chosen n k = cond (ltb k n) (cell k) (cond (eqb k n) null (cell n))

-- the choice that puts a variable at # or at a cell of the shape
unfoldable pub choice_of : ℕ → ℕ → ℕ
choice_of n p = cond (eqb p null) n (p - 3)

-- choice k is there: the link that it is within has a place
unfoldable pub exists : List ℕ → ℕ → Bool
exists links k = ltb k (length links + 2) || not (eqb (link_in links (cell (k - (length links + 2)))) nowhere)

-- the links with the fresh cell of choice k, if it has one
unfoldable pub opened : List ℕ → ℕ → List ℕ
opened links k =
    let n = length links in
    let i = k - (n + 2) in
    cond (leb k n) links (cond (eqb k (suc n)) (links ++ (nowhere ∷ [])) (set links i (cell n) ++ (link_in links (cell i) ∷ [])))

-- variable v is placed by choice k
unfoldable pub made : ℕ → Shape → ℕ → Shape
made v s k = record { vars = set_var_in v (chosen (size s) k) s.vars; links = opened s.links k; facts = s.facts }

-- the same; nothing where it has a place
unfoldable pub put : ℕ → Shape → ℕ → Shape
put v s k = cond (eqb (var_at s v) nowhere) (made v s k) s
