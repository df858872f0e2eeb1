-- A walk along a list, and the end of the turns.
use mathlib.Core.List.{List, [], ◌∷◌}
use mathlib.Core.Path.{◌≡◌, refl, sym, ap, ◌∙◌, subst}
use Prim.Native.Nat.{ℕ, zero, suc, ◌≤◌}
use native.Mathlib.Omega.{arith}
use lib.ListN.{length}
use Rattle.heap.specs.Place.{nowhere, null, dangling}
use Rattle.stepper.specs.declared.Stepped.{Stepped}
use Rattle.blocklist.specs.BlockList.{Lists, cell_at}
use Rattle.blocklist.specs.Parts.{times, once, rest_turns}
use Rattle.blocklist.proofs.Chains.{lists_head, lists_somewhere, lists_proper}
use Rattle.blocklist.proofs.Moving.{Spot, heap_at, put, At, After, Done, finished, turn_is, assigned, loaded_on}

module _ {n : ℕ} (enough : 3 ≤ n) {r : Stepped} where
  -- v := null
  pub cleared : {turns : List ℕ} {x : Spot} (v : ℕ) → At n (once 3 v 0 ∷ turns) r x → 1 ≤ v → v ≤ 3 → x.others 0 ≡ null → After n turns r (put v null x)
  cleared {turns} {x} v q l m e =
      subst (λ (p : ℕ). After n turns r (put v p x)) e
      (assigned enough v 0 q l m (omega arith) (λ z. let d : null ≡ dangling = sym e ∙ z in omega arith))

  -- 3 := null, 2 := null
  pub rested : {x : Spot} → At n rest_turns r x → x.others 0 ≡ null → Done n r (heap_at (put 2 null (put 3 null x)))
  rested q e = finished (cleared 2 (cleared 3 q (omega arith) (omega arith) e).at (omega arith) (omega arith) e)

  -- k times 3 := 3.next
  pub walked : {turns : List ℕ} (k : ℕ) {x : Spot} (xs : List ℕ) → At n (times k 4 3 3 ∷ turns) r x → x.link nowhere ≡ nowhere → x.link dangling ≡ nowhere
      → Lists x.link x.third xs → k ≤ length xs → At n turns r (put 3 (cell_at k xs) x)
  walked {turns} zero {x} xs q low loose l h =
      subst (λ (p : ℕ). At n turns r (put 3 p x)) (lists_head x.link x.third xs l)
      (record {
        table = q.table;
        stands = q.stands;
        left = subst (λ (P : Type 0). P) (turn_is 0 4 3 3 turns (omega arith) (omega arith) (omega arith) q.table r) q.left;
      })
  walked (suc k) {x} [] q low loose l h = absurd (omega arith)
  walked (suc k) {x} (y ∷ ys) q low loose (e, o, l) h =
      let rest : Lists x.link (x.link x.third) ys = subst (λ (z : ℕ). Lists x.link z ys) (ap x.link (sym e)) l in
      let next = loaded_on enough k 3 3 q (omega arith) (omega arith) (omega arith) (omega arith) (x.link x.third) refl
      (lists_somewhere x.link low loose (x.link x.third) ys rest) (lists_proper x.link low loose (x.link x.third) ys rest) in
      walked k ys next.at low loose rest (omega arith)
