-- What was before new, by where the variable stands: the results that loops need not make are dropped.
use mathlib.Core.Bool.{Bool, true, false, not, and-false}
use mathlib.Core.List.Memᴰ
use mathlib.Core.List.{List, [], ◌∷◌, ◌++◌, map, append-nil}
use mathlib.Core.Logic.{◌≢◌}
use mathlib.Core.Path.{◌≡◌, refl, sym, ap, ap₂, ◌∙◌}
use Prim.Native.Nat.{ℕ, zero, suc, ◌+◌, ◌≤◌, ◌<◌}
use native.Mathlib.Omega.{arith}
use borrow.Author.Tests.{lt-ltb}
use lib.Dec.{T, eqb}
use lib.ListN.{length, get_or, set}
use lib.Seq.{get_or-set_same, set-set, set-get_or}
use Rattle.lists.specs.List.{◌∈◌, absent, concat_map, keep}
use Rattle.lists.specs.Range.{range}
use Rattle.lists.proofs.List.{concat_map_append}
use Rattle.lists.proofs.Reflect.{Reflect, r_absent, r_and, is_true, is_false}
use Rattle.heap.specs.Operation.{new}
use Rattle.heap.specs.Place.{nowhere, null, dangling, cell}
use Rattle.facts.specs.Facts.{Fact, FactsOf}
use Rattle.shape.specs.Placing.{set_var, fresh, grow, split}
use Rattle.shape.specs.Shape.{Shape, AllBelow, var_at, link_at, size}
use Rattle.backward.specs.Predecessors.{remove_at, lower, lower_fact, remove_cell, unspoken, is_new, before}
use Rattle.backward.proofs.Remove.{lower_low}
use Rattle.backward.proofs.Tests.{Unspoken, r_unspoken, r_link_fits}
use Rattle.shapes.specs.Without.{is_free, without}

-- what the test says
pub r_is_free : (c : ℕ) (s : Shape)
    → Reflect (Unspoken c s.facts × (((dangling < c) × (link_at s c ≢ nowhere → link_at s c ≡ dangling)) × ((¬ (c ∈ s.links)) × (¬ (c ∈ s.vars))))) (is_free c s)
r_is_free c s = r_and (r_unspoken c s.facts) (r_and (r_link_fits c dangling s) (r_and (r_absent c s.links) (r_absent c s.vars)))

abbrev shaped : List ℕ → List ℕ → List Fact → Shape
shaped vars links facts = record { vars = vars; links = links; facts = facts }

-- ---- the variable has a place

module _ (s : Shape) (a : ℕ) where
  pub new_at_cell : (i : ℕ) → var_at s a ≡ cell i → before (new a) s ≡ without (set_var a nowhere s) i
  new_at_cell i e = rw (e, e) (append-nil (without (set_var a nowhere s) i))

  pub new_at_null : var_at s a ≡ null → before (new a) s ≡ []
  new_at_null e = rw (e, e, and-false (unspoken null s.facts)) refl

  pub new_at_dangling : var_at s a ≡ dangling → before (new a) s ≡ []
  new_at_dangling e = rw e refl

-- ---- the variable v + 1 is nowhere

-- the shape without the cell at c, if that is free
abbrev gone : ℕ → Shape → List Shape
gone c s = keep (is_free c s) (remove_cell c s)

module _ (v : ℕ) where
  -- what becomes of a result
  abbrev judged : Shape → List Shape
  judged s = keep (is_new (suc v) (var_at s (suc v)) s) (remove_cell (var_at s (suc v)) (set_var (suc v) nowhere s))

  judged_at : (p : ℕ) (vars links : List ℕ) (facts : List Fact) → v < length vars → get_or vars v nowhere ≡ nowhere
      → judged (shaped (set vars v p) links facts) ≡ gone p (shaped vars links facts)
  judged_at p vars links facts b e =
      let same : set (set vars v p) v nowhere ≡ vars = set-set vars v p nowhere ∙ ap (set vars v) (sym e) ∙ set-get_or vars v nowhere in
      rw (get_or-set_same vars v p nowhere b, same) refl

-- at a fresh cell
remove_last : (l : List ℕ) (x : ℕ) → remove_at (length l) (l ++ (x ∷ [])) ≡ l
remove_last [] x = refl
remove_last (y ∷ ys) x = ap (λ (l : List ℕ). y ∷ l) (remove_last ys x)

lower_none : (c : ℕ) (l : List ℕ) → AllBelow c l → map (lower c) l ≡ l
lower_none c [] b = refl
lower_none c (x ∷ xs) b =
    let h = b x (Memᴰ.head refl) in
    ap₂ (λ (y : ℕ) (ys : List ℕ). y ∷ ys) (lower_low c x (omega arith)) (lower_none c xs (λ y m. b y (Memᴰ.tail m)))

-- no fact is about a cell past the n
unspoken_above : (n : ℕ) (facts : List Fact) → FactsOf n facts → unspoken (cell n) facts ≡ true
unspoken_above n facts h =
    is_true (unspoken (cell n) facts) ((r_unspoken (cell n) facts).tests (λ t m. let (_, p, q) = h t m in (λ e. omega (arith, p.1), λ e. omega (arith, q.1))))

facts_stay : (n : ℕ) (facts : List Fact) → FactsOf n facts → map (lower_fact (cell n)) facts ≡ facts
facts_stay n [] h = refl
facts_stay n (t ∷ ts) h =
    let (_, p, q) = h t (Memᴰ.head refl) in
    ap₂ (λ (u : Fact) (us : List Fact). u ∷ us)
    (ap₂ (λ (x y : ℕ). record { kind = t.kind; left = x; right = y }) (lower_low (cell n) t.left (omega (arith, p.1))) (lower_low (cell n) t.right (omega (arith, q.1))))
    (facts_stay n ts (λ u m. h u (Memᴰ.tail m)))

absent_above : (c : ℕ) (l : List ℕ) → AllBelow c l → absent c l ≡ true
absent_above c l b = is_true (absent c l) ((r_absent c l).tests (λ m. let h = b c m in omega arith))

at_end : (l : List ℕ) (x : ℕ) → get_or (l ++ (x ∷ [])) (length l) nowhere ≡ x
at_end [] x = refl
at_end (y ∷ ys) x = at_end ys x

below_more : (c : ℕ) (l : List ℕ) → 0 < c → AllBelow c l → AllBelow c (l ++ (nowhere ∷ []))
below_more c [] z b y (Memᴰ.tail m) = elim m [ ]
below_more c [] z b y (Memᴰ.head e) = rw e z
below_more c (x ∷ xs) z b y (Memᴰ.head e) = b y (Memᴰ.head e)
below_more c (x ∷ xs) z b y (Memᴰ.tail m) = below_more c xs z (λ y m. b y (Memᴰ.tail m)) y m

gone_fresh : (vars links : List ℕ) (facts : List Fact) → AllBelow (cell (length links)) vars → AllBelow (cell (length links)) links → FactsOf (length links) facts
    → gone (cell (length links)) (grow (shaped vars links facts)) ≡ shaped vars links facts ∷ []
gone_fresh vars links facts bv bl bf =
    let c = cell (length links) in
    rw (
      unspoken_above (length links) facts bf,
      lt-ltb dangling c (omega arith),
      at_end links nowhere,
      absent_above c (links ++ (nowhere ∷ [])) (below_more c links (omega arith) bl),
      absent_above c vars bv,
      remove_last links nowhere,
      lower_none c vars bv,
      lower_none c links bl,
      facts_stay (length links) facts bf,
    )
    refl

-- in the middle of a link
set_mem : (l : List ℕ) (i x : ℕ) → i < length l → x ∈ set l i x
set_mem [] i x b = absurd (omega arith)
set_mem (y ∷ ys) zero x b = Memᴰ.head refl
set_mem (y ∷ ys) (suc i) x b = Memᴰ.tail (set_mem ys i x (omega arith))

gone_split : (s : Shape) (i : ℕ) → i < size s → gone (fresh s) (split i s) ≡ []
gone_split s i b = ap (λ (t : Bool). keep t (remove_cell (fresh s) (split i s))) (is_false (is_free (fresh s) (split i s)) (λ t. dropped t))
  where
    dropped : T (is_free (fresh s) (split i s)) → ⊥
    dropped t = ((r_is_free (fresh s) (split i s)).holds t).1.1.0 (Memᴰ.append_left (link_at s (cell i) ∷ []) (set_mem s.links i (fresh s) b))

-- each cell in turn, then the shape itself
pub new_at_nowhere : (s : Shape) (a : ℕ) → 1 ≤ a → a ≤ length s.vars → AllBelow (cell (size s)) s.vars → AllBelow (cell (size s)) s.links
    → FactsOf (size s) s.facts → var_at s a ≡ nowhere → before (new a) s ≡ concat_map (without s) (range 0 (size s)) ++ (s ∷ [])
new_at_nowhere s zero z b bv bl bf e = absurd (omega arith)
new_at_nowhere s (suc v) z b bv bl bf e =
    rw e
    (concat_map_append (judged v) (map (λ i. set_var (suc v) (cell i) s) (range 0 (size s))) rest
    ∙ ap₂ (λ x y. x ++ y) (cells (range 0 (size s))) others)
  where
    middle : ℕ → List Shape
    middle i = keep (not (eqb (link_at s (cell i)) nowhere)) (set_var (suc v) (fresh s) (split i s))

    rest : List Shape
    rest = set_var (suc v) null s ∷ set_var (suc v) (fresh s) (grow s) ∷ concat_map middle (range 0 (size s))

    cells : (l : List ℕ) → concat_map (judged v) (map (λ i. set_var (suc v) (cell i) s) l) ≡ concat_map (without s) l
    cells [] = refl
    cells (i ∷ is) = ap₂ (λ x y. x ++ y) (judged_at v (cell i) s.vars s.links s.facts b e) (cells is)

    one : (i : ℕ) → i < size s → concat_map (judged v) (middle i) ≡ []
    one i h = go (not (eqb (link_at s (cell i)) nowhere))
      where
        go : (t : Bool) → concat_map (judged v) (keep t (set_var (suc v) (fresh s) (split i s))) ≡ []
        go true = append-nil _ ∙ judged_at v (fresh s) s.vars (split i s).links s.facts b e ∙ gone_split s i h
        go false = refl

    middles : (k n : ℕ) → k + n ≤ size s → concat_map (judged v) (concat_map middle (range k n)) ≡ []
    middles k zero h = refl
    middles k (suc n) h =
        concat_map_append (judged v) (middle k) (concat_map middle (range (suc k) n))
        ∙ ap₂ (λ x y. x ++ y) (one k (omega arith)) (middles (suc k) n (omega arith))

    gone_null : gone null s ≡ []
    gone_null = rw (and-false (unspoken null s.facts)) refl

    others : concat_map (judged v) rest ≡ s ∷ []
    others =
        ap₂ (λ x y. x ++ y) (judged_at v null s.vars s.links s.facts b e ∙ gone_null)
        (ap₂ (λ x y. x ++ y) (judged_at v (fresh s) s.vars (grow s).links s.facts b e ∙ gone_fresh s.vars s.links s.facts bv bl bf) (middles 0 (size s) (omega arith)))
