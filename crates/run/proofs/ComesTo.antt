-- Runs that go on.
use mathlib.Core.List.Memᴰ
use mathlib.Core.List.{List, [], ◌∷◌}
use mathlib.Core.Logic.Dec
use mathlib.Core.Logic.{if_pos}
use mathlib.Core.Path.{◌≡◌, refl, sym, ap, subst, ◌∙◌}
use Prim.Native.Nat.{ℕ}
use native.Mathlib.Decide.{ℕ_discrete}
use lib.ListN.{get_elem?}
use Rattle.lists.specs.List.{◌∈◌}
use Rattle.lists.proofs.List.{mem_element}
use Rattle.heap.specs.Operation.{Enabled, enabled?, after}
use Rattle.run.specs.Run.{Transition, Entry, Config, fire_named, configurations, ComesTo}
use Rattle.run.proofs.Runs.{Kept}

module _ (ts : List Transition) where
  pub comes_here : (c : Config) → ComesTo ts c c
  comes_here c = ([], Memᴰ.head refl)

  -- one run after the other
  pub comes_on : (c d e : Config) → ComesTo ts c d → ComesTo ts d e → ComesTo ts c e
  comes_on c d e (es, m) k = go es c m
    where
      go : (es : List Entry) (c : Config) → d ∈ configurations ts es c → ComesTo ts c e
      go [] c m = subst (λ (b : Config). ComesTo ts b e) (Memᴰ.eq_of_singleton m) k
      go (x ∷ es) c (Memᴰ.head z) = subst (λ (b : Config). ComesTo ts b e) z k
      go (x ∷ es) c (Memᴰ.tail m) = let (rest, n) = go es (fire_named (get_elem? ts x.transition) x.choice c) m in (x ∷ rest, Memᴰ.tail n)

  -- a transition that fires
  pub comes_next : (t : Transition) (x : ℕ) (c : Config) → t ∈ ts → t.from ≡ c.state → Enabled t.op x c.heap
      → ComesTo ts c (record { state = t.to; heap = after t.op x c.heap })
  comes_next t x c m z en =
      let (i, e) = mem_element m in
      let c' : Config = record { state = t.to; heap = after t.op x c.heap } in
      let fires : fire_named (get_elem? ts i) x c ≡ c' =
      ap (λ o. fire_named o x c) e ∙ if_pos (Dec.and (ℕ_discrete t.from c.state) (enabled? t.op x c.heap)) (z, en) c' c in
      (record { transition = i; choice = x } ∷ [], Memᴰ.tail (Memᴰ.head (sym fires)))

  -- so where runs come from c, they come on from there
  pub comes_kept : (c : Config) → Kept ts (ComesTo ts c)
  comes_kept c t x d m z en k = comes_on c d _ k (comes_next t x d m z en)
