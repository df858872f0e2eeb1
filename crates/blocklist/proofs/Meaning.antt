-- The heaps that the definitions name, in the sentences of document 02, Wish 12.
use mathlib.Core.List.{List}
use mathlib.Core.Logic.{◌≢◌}
use mathlib.Core.Option.{none}
use mathlib.Core.Path.{◌≡◌, refl, sym, ◌∙◌}
use Prim.Native.Nat.{ℕ, zero, suc, ◌<◌}
use native.Mathlib.Omega.{arith}
use lib.ListN.{length}
use Rattle.lists.specs.List.{◌∈◌}
use Rattle.heap.specs.Heap.{Heap}
use Rattle.heap.specs.Operation.{dangled}
use Rattle.heap.specs.Place.{nowhere, null, dangling}
use Rattle.heap.proofs.Update.{update_same, update_other}
use Rattle.blocklist.specs.BlockList.{Lists, three, put_in, taken_out, cell_at, counted, inserted, removed}
use Rattle.blocklist.specs.Sentences.{OnlyRests, PutsIn, TakesOut}
use Rattle.blocklist.proofs.Chains.{cell_in, lists_distinct, lists_not_null, lists_linked, chained_other, chained_lists, cut_off, distinct_put, put_not, in_taken, distinct_taken, taken_gone}

-- operands above 3 are not among the three
beyond : (f : ℕ → ℕ) (a b c v : ℕ) → 3 < v → three f a b c v ≡ f v
beyond f a b c zero h = absurd (omega arith)
beyond f a b c (suc zero) h = absurd (omega arith)
beyond f a b c (suc (suc zero)) h = absurd (omega arith)
beyond f a b c (suc (suc (suc zero))) h = absurd (omega arith)
beyond f a b c (suc (suc (suc (suc v)))) h = refl

pub only_rests : (h : Heap) → OnlyRests h (counted h)
only_rests h = record { links = λ p. refl; values = λ p. refl; variables = same; second = refl; third = refl }
  where
    same : (v : ℕ) → v ≢ 2 → v ≢ 3 → (counted h).var v ≡ h.var v
    same zero a b = refl
    same (suc zero) a b = refl
    same (suc (suc zero)) a b = absurd (a refl)
    same (suc (suc (suc zero))) a b = absurd (b refl)
    same (suc (suc (suc (suc v)))) a b = refl

-- xs are the cells met from the head
module _ (h : Heap) (low : h.link nowhere ≡ nowhere) (loose : h.link dangling ≡ nowhere) (xs : List ℕ) (l : Lists h.link (h.var 1) xs) where
  pub puts_in : (n x : ℕ) → x ≢ null → h.link x ≡ nowhere → PutsIn n x xs h (inserted n x xs h)
  puts_in n x o free =
      let apart : ¬ (x ∈ xs) = λ m. lists_linked h.link low loose (h.var 1) xs l x m free in
      let once = distinct_put x n xs (lists_distinct h.link (h.var 1) xs l) apart in
      let no_null = put_not x null n xs (λ e. o (sym e)) (lists_not_null h.link (h.var 1) xs l) in
      record {
        was_free = free;
        cells = chained_lists h.link (put_in n x xs) once no_null;
        values = λ p e. update_other h.value x none p e;
        no_value = update_same h.value x none x refl;
        links = λ p e. chained_other h.link (put_in n x xs) p e;
        variables = λ v b. beyond h.var _ null null v b;
        second = refl;
        third = refl;
      }

  pub takes_out : (i : ℕ) → i < length xs → TakesOut i (cell_at i xs) xs h (removed i xs h)
  takes_out i b =
      let x = cell_at i xs in
      let distinct = lists_distinct h.link (h.var 1) xs l in
      let no_null : ¬ (null ∈ taken_out i xs) = λ m. lists_not_null h.link (h.var 1) xs l (in_taken null i xs m) in
      let gone : ℕ → ℕ = λ q. dangled x (h.link q) in
      record {
        was_in = cell_in xs i b;
        cells = chained_lists (cut_off x h.link) (taken_out i xs) (distinct_taken i xs distinct) no_null;
        free = chained_other (cut_off x h.link) (taken_out i xs) x (taken_gone i xs distinct b) ∙ update_same gone x nowhere x refl;
        no_value = update_same h.value x none x refl;
        values = λ p e. update_other h.value x none p e;
        links = λ p e. chained_other (cut_off x h.link) (taken_out i xs) p (λ m. e (in_taken p i xs m))
            ∙ update_other gone x nowhere p (λ z. e (is_in p x z (cell_in xs i b)));
        variables = λ v b. beyond (λ u. dangled x (h.var u)) _ null null v b;
        second = refl;
        third = refl;
      }
    where
      is_in : (p x : ℕ) → p ≡ x → x ∈ xs → p ∈ xs
      is_in p x e m = rw e m
