-- The walk along the links from a place of a finite heap: it ends at # or *, or comes back to a cell met before.
use mathlib.Core.List.Memᴰ
use mathlib.Core.List.{List, [], ◌∷◌}
use mathlib.Core.Logic.{◌≢◌}
use mathlib.Core.Path.{◌≡◌, refl}
use Prim.Native.Nat.{ℕ, zero, suc, ◌+◌, ◌≤◌}
use native.Mathlib.Decide.{ℕ_discrete}
use native.Mathlib.Omega.{arith}
use lib.ListN.{length}
use Rattle.lists.specs.List.{◌∈◌, Distinct}
use Rattle.lists.proofs.List.{mem?, every_cons, pigeonhole}
use Rattle.heap.specs.Heap.{Heap, IsCell}
use Rattle.heap.specs.Place.{nowhere, null, dangling}
use Rattle.graph.proofs.Follow.{Visits}
use Rattle.graph.proofs.Proper.{IsPlace}
use Rattle.shape.specs.Shape.{heap_graph}
use Rattle.run.specs.WellFormed.{WellFormed}
use Rattle.run.proofs.WellFormed.{somewhere, var_place, link_place}

-- where a walk stops that met the cells `met`, after those of `seen`
pub data Last (end : ℕ) (met seen : List ℕ) : Type 0 where
  at_null : end ≡ null → Last end met seen
  at_dangling : end ≡ dangling → Last end met seen
  back : end ∈ met → Last end met seen
  back_before : end ∈ seen → Last end met seen

pub record Walk (h : Heap) (p : ℕ) (seen : List ℕ) : Type 0 where
  pub met : List ℕ
  pub end : ℕ
  pub visits : Visits h.link p met end
  pub cells : (c : ℕ) → c ∈ met → IsCell h c
  pub distinct : Distinct met
  pub apart : (c : ℕ) → c ∈ met → ¬ (c ∈ seen)
  pub last : Last end met seen

module _ (h : Heap) (n : ℕ) (w : WellFormed n h) where
  -- the walk stops at once
  stop : (p : ℕ) (seen : List ℕ) → Last p [] seen → Walk h p seen
  stop p seen l =
      record {
        met = [];
        end = p;
        visits = refl;
        cells = λ c m. absurd (Memᴰ.not-nil m);
        distinct = tt;
        apart = λ c m. absurd (Memᴰ.not-nil m);
        last = l;
      }

  -- the walk goes on from the cell p
  step : (p : ℕ) (seen : List ℕ) → IsCell h p → ¬ (p ∈ seen) → Walk h (h.link p) (p ∷ seen) → Walk h p seen
  step p seen k o r =
      record {
        met = p ∷ r.met;
        end = r.end;
        visits = (refl, r.visits);
        cells = every_cons (IsCell h) k r.cells;
        distinct = (λ m. r.apart p m (Memᴰ.head refl), r.distinct);
        apart = every_cons (λ c. ¬ (c ∈ seen)) o (λ c m n. r.apart c m (Memᴰ.tail n));
        last = still r.last;
      }
    where
      still : Last r.end r.met (p ∷ seen) → Last r.end (p ∷ r.met) seen
      still (at_null e) = at_null e
      still (at_dangling e) = at_dangling e
      still (back m) = back (Memᴰ.tail m)
      still (back_before (Memᴰ.head e)) = back (Memᴰ.head e)
      still (back_before (Memᴰ.tail m)) = back_before m

  -- there are fewer cells than `seen` and `more` together
  walk : (more : ℕ) (seen : List ℕ) (p : ℕ) → p ≢ nowhere → IsPlace (heap_graph h) p → Distinct seen → ((c : ℕ) → c ∈ seen → IsCell h c)
      → length seen + more ≡ suc w.finite.0 → Walk h p seen
  walk zero seen p n s d k e =
      absurd (omega (arith, pigeonhole 0 w.finite.0 seen d (λ c m. (omega arith, let b = w.finite.1 c (k c m) in omega arith))))
  walk (suc more) seen p n s d k e = go (ℕ_discrete p null) (ℕ_discrete p dangling) (mem? p seen) (walk more)
    where
      go : Dec (p ≡ null) → Dec (p ≡ dangling) → Dec (p ∈ seen)
          → ((seen : List ℕ) (p : ℕ) → p ≢ nowhere → IsPlace (heap_graph h) p → Distinct seen → ((c : ℕ) → c ∈ seen → IsCell h c)
          → length seen + more ≡ suc w.finite.0 → Walk h p seen)
          → Walk h p seen
      go (yes z) b m r = stop p seen (at_null z)
      go (no a) (yes z) m r = stop p seen (at_dangling z)
      go (no a) (no b) (yes m) r = stop p seen (back_before m)
      go (no a) (no b) (no o) r =
          let c : IsCell h p = s a b in
          step p seen c o (r (p ∷ seen) (h.link p) c (link_place h w p c) (o, d) (every_cons (IsCell h) c k) (omega arith))

  pub walk_from : (x : ℕ) → x ≤ n → Walk h (h.var x) []
  walk_from x x≤n =
      walk (suc w.finite.0) [] (h.var x) (somewhere h w x x≤n) (var_place h w x x≤n) tt
      (λ c m. absurd (Memᴰ.not-nil m)) (omega arith)
