-- Following a path over places that are neither ends nor used: what the walk of the definitions gives.
use mathlib.Core.Bool.{Bool, true, false, ◌||◌}
use mathlib.Core.List.Memᴰ
use mathlib.Core.List.{List, [], ◌∷◌, ◌++◌, append-nil, append_assoc}
use mathlib.Core.Logic.{◌⊎◌, inl, inr}
use mathlib.Core.Path.{◌≡◌, refl, sym, ◌∙◌}
use Prim.Native.Nat.{ℕ, zero, suc, ◌+◌, ◌≤◌, ◌<◌}
use native.Mathlib.Omega.{arith}
use lib.Dec.{ltb}
use lib.ListN.{length, length-append, get_or-eq_default}
use Rattle.lists.specs.List.{◌∈◌, Distinct, disjoint}
use Rattle.lists.proofs.List.{every_cons, every_snoc, distinct_snoc, pigeonhole}
use Rattle.lists.proofs.Reflect.{is_false, passes, fails, r_lt, r_disjoint}
use Rattle.heap.specs.Codes.{link_in}
use Rattle.heap.specs.Place.{nowhere, cell}
use Rattle.heap.proofs.Codes.{CellOf}
use Rattle.cover.specs.Test.{is_image, stops, walk_end, walked}
use Rattle.covering.specs.Marks.{end_from, path_from}

last_mem : (xs : List ℕ) (y : ℕ) → y ∈ (xs ++ (y ∷ []))
last_mem xs y = Memᴰ.append_right xs (Memᴰ.head refl)

module _ (images : List ℕ) where
  -- what is no end is a cell
  pub free_low : (p : ℕ) → stops images p ≡ false → cell 0 ≤ p
  free_low p e = go (ltb p (cell 0)) refl e
    where
      go : (b : Bool) → ltb p (cell 0) ≡ b → b || is_image images p ≡ false → cell 0 ≤ p
      go true i z = let u : true ≡ false = z in let v : ◌≡◌ {A = ℕ} 0 1 = cc in absurd (omega arith)
      go false i z = let o : ¬ (p < cell 0) = λ b. fails (ltb p (cell 0)) i ((r_lt p (cell 0)).tests b) in omega arith

-- a place past the cells has no link
pub no_link : (links : List ℕ) (p : ℕ) → cell (length links) ≤ p → link_in links p ≡ nowhere
no_link links zero o = refl
no_link links (suc zero) o = refl
no_link links (suc (suc zero)) o = refl
no_link links (suc (suc (suc i))) o = get_or-eq_default links nowhere (omega arith)

module _ (links images used : List ℕ) (from : ℕ) where
  abbrev link : ℕ → ℕ
  link = link_in links

  abbrev stop : ℕ → Bool
  stop = stops images

  -- The path from a cell has been followed to a place: what was passed, and the turns that the definitions have left.
  pub record Trail (path : List ℕ) (q : ℕ) : Type 0 where
    pub left : ℕ
    pub turns : left + length path ≡ length links
    pub ends : end_from links images from ≡ walk_end link stop left q
    pub passes : path_from links images from ≡ path ++ walked link stop left q
    pub distinct : Distinct path
    pub cells : (x : ℕ) → x ∈ path → CellOf (length links) x
    pub free : (x : ℕ) → x ∈ path → stop x ≡ false
    pub unused : (x : ℕ) → x ∈ path → ¬ (x ∈ used)
    pub continues : (x : ℕ) → x ∈ path → (link x ∈ path) ⊎ (link x ≡ q)
    pub begins : (link from ∈ path) ⊎ (link from ≡ q)

  pub trail_none : Trail [] (link from)
  trail_none =
      record {
        left = length links;
        turns = omega arith;
        ends = refl;
        passes = refl;
        distinct = tt;
        cells = λ x m. absurd (Memᴰ.not-nil m);
        free = λ x m. absurd (Memᴰ.not-nil m);
        unused = λ x m. absurd (Memᴰ.not-nil m);
        continues = λ x m. absurd (Memᴰ.not-nil m);
        begins = inr refl;
      }

  module _ (path : List ℕ) (q : ℕ) (t : Trail path q) where
    -- a path round in a ring has no end
    ring : q ∈ path → (k x : ℕ) → x ∈ path → walk_end link stop k x ≡ nowhere
    ring m zero x i = refl
    ring m (suc k) x i = rw (t.free x i) (ring m k (link x) (next (t.continues x i)))
      where
        next : (link x ∈ path) ⊎ (link x ≡ q) → link x ∈ path
        next (inl j) = j
        next (inr e) = Memᴰ.cast e m

    pub trail_past : cell (length links) ≤ q → stop q ≡ false → end_from links images from ≡ nowhere
    trail_past b e = t.ends ∙ go t.left
      where
        still : (k : ℕ) → walk_end link stop k nowhere ≡ nowhere
        still zero = refl
        still (suc k) = refl

        go : (k : ℕ) → walk_end link stop k q ≡ nowhere
        go zero = refl
        go (suc k) = rw (e, no_link links q b) (still k)

    module _ (c : CellOf (length links) from) (s : stop from ≡ true) where
      -- from is an end, so that the path has fewer cells than the shape
      short : length path < length links
      short =
          pigeonhole (cell 0) (length links) (from ∷ path) ((λ m. fails (stop from) (t.free from m) (passes (stop from) s)), t.distinct)
          (every_cons (λ x. (cell 0 ≤ x) × (x < cell 0 + length links)) (c.0, omega arith) (λ x m. let (a, b) = t.cells x m in (a, omega arith)))

      pub trail_more : q < cell (length links) → stop q ≡ false → ¬ (q ∈ path) → ¬ (q ∈ used) → Trail (path ++ (q ∷ [])) (link q)
      trail_more b e o u = go t.left refl
        where
          widen : (x : ℕ) → (x ∈ path) ⊎ (x ≡ q) → (x ∈ (path ++ (q ∷ []))) ⊎ (x ≡ link q)
          widen x (inl i) = inl (Memᴰ.append_left (q ∷ []) i)
          widen x (inr i) = inl (Memᴰ.cast i (last_mem path q))

          go : (l : ℕ) → t.left ≡ l → Trail (path ++ (q ∷ [])) (link q)
          go zero z = absurd (omega (arith, short, t.turns))
          go (suc k) z =
              record {
                left = k;
                turns = omega (arith, t.turns, length-append path (q ∷ []));
                ends = t.ends ∙ rw (z, e) refl;
                passes = t.passes ∙ rw (z, e) (sym (append_assoc path (q ∷ []) (walked link stop k (link q))));
                distinct = distinct_snoc path q t.distinct o;
                cells = every_snoc (CellOf (length links)) path t.cells (free_low images q e, b);
                free = every_snoc (λ x. stop x ≡ false) path t.free e;
                unused = every_snoc (λ x. ¬ (x ∈ used)) path t.unused u;
                continues =
                    every_snoc (λ x. (link x ∈ (path ++ (q ∷ []))) ⊎ (link x ≡ link q)) path (λ x m. widen (link x) (t.continues x m)) (inr refl);
                begins = widen (link from) t.begins;
              }

      pub trail_found : stop q ≡ true → (end_from links images from ≡ q) × (path_from links images from ≡ path)
      trail_found e = go t.left refl
        where
          go : (l : ℕ) → t.left ≡ l → (end_from links images from ≡ q) × (path_from links images from ≡ path)
          go zero z = absurd (omega (arith, short, t.turns))
          go (suc k) z = (t.ends ∙ rw (z, e) refl, t.passes ∙ rw (z, e) (append-nil path))

      pub trail_lost : stop q ≡ false → (q ∈ path) ⊎ (q ∈ used)
          → (end_from links images from ≡ nowhere) ⊎ (disjoint (path_from links images from) used ≡ false)
      trail_lost e (inl m) = inl (ring m (length links) (link from) (first t.begins))
        where
          first : (link from ∈ path) ⊎ (link from ≡ q) → link from ∈ path
          first (inl i) = i
          first (inr i) = Memᴰ.cast i m
      trail_lost e (inr m) = inr (is_false (disjoint (path_from links images from) used) (λ d. (r_disjoint (path_from links images from) used).holds d q (go t.left refl) m))
        where
          go : (l : ℕ) → t.left ≡ l → q ∈ path_from links images from
          go zero z = absurd (omega (arith, short, t.turns))
          go (suc k) z = rw (t.passes, z, e) (Memᴰ.append_right path (Memᴰ.head refl))
