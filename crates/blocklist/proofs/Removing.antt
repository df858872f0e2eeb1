-- The turns of a remove: the list with a cell taken out.
use mathlib.Core.List.Memᴰ
use mathlib.Core.List.{List, ◌∷◌}
use mathlib.Core.Logic.{◌≢◌}
use mathlib.Core.Option.{Option, none}
use mathlib.Core.Path.{◌≡◌, refl, sym, ap, ◌∙◌, subst}
use Prim.Native.Nat.{ℕ, suc, ◌≤◌, ◌<◌}
use native.Mathlib.Decide.{ℕ_discrete}
use native.Mathlib.Omega.{arith}
use lib.ListN.{length, drop, length-drop}
use Rattle.lists.specs.List.{◌∈◌, Distinct}
use Rattle.heap.specs.Heap.{update}
use Rattle.heap.specs.Operation.{dangled}
use Rattle.heap.specs.Place.{nowhere, null, dangling}
use Rattle.heap.proofs.Update.{update_same, update_other, dangled_other, heap_path}
use Rattle.stepper.specs.declared.Stepped.{Stepped}
use Rattle.blocklist.specs.BlockList.{Lists, head_of, chained, three, taken_out, cell_at}
use Rattle.blocklist.specs.Parts.{times, once, rest_turns}
use Rattle.blocklist.proofs.Chains.{cut_off, cell_in, cells_differ, lists_head, lists_drop, cell_next, lists_somewhere, lists_proper, lists_not_null, lists_distinct, lists_unique, take_first, take_after}
use Rattle.blocklist.proofs.Moving.{Spot, At, Done, assigned, loaded, stored, deleted}
use Rattle.blocklist.proofs.Walking.{rested, walked}

-- y and ys are the cells met from the head
module _ (link : ℕ → ℕ) (low : link nowhere ≡ nowhere) (loose : link dangling ≡ nowhere) (y : ℕ) (ys : List ℕ) (l : Lists link y (y ∷ ys)) where
  distinct : Distinct (y ∷ ys)
  distinct = lists_distinct link y (y ∷ ys) l

  -- # stays where a cell of the list goes
  null_stays : (x : ℕ) → x ∈ (y ∷ ys) → dangled x null ≡ null
  null_stays x m = dangled_other x null (λ e. lists_not_null link y (y ∷ ys) l (subst (λ (z : ℕ). z ∈ (y ∷ ys)) (sym e) m))

  y_fine : y ≢ dangling
  y_fine = lists_proper link low loose y (y ∷ ys) l

  y_somewhere : y ≢ nowhere
  y_somewhere = lists_somewhere link low loose y (y ∷ ys) l

  -- the first cell's link does not lead back to it
  y_apart : link y ≢ y
  y_apart e =
      let same = lists_unique link y ys (y ∷ ys) (subst (λ (z : ℕ). Lists link z ys) e l.2) l in
      omega (arith, ap length same)

  -- the first goes
  pub takes_first : {n : ℕ} (enough : 3 ≤ n) {r : Stepped} (f : ℕ → ℕ) (w : ℕ → Option ℕ) (b c : ℕ) → f 0 ≡ null
      → At n (once 3 3 1 ∷ once 4 1 1 ∷ once 7 3 0 ∷ rest_turns) r (record { others = f; values = w; link = link; first = y; second = b; third = c })
      → Done n r (record { link = chained ys (cut_off y link); var = three (λ v. dangled y (f v)) (head_of ys) null null; value = update w y none })
  takes_first {n} enough {r} f w b c none_at q =
      let next : link y ≡ head_of ys = lists_head link (link y) ys l.2 in
      let next_fine : head_of ys ≢ dangling = λ z. lists_proper link low loose (link y) ys l.2 (next ∙ z) in
      let next_there : head_of ys ≢ nowhere = λ z. lists_somewhere link low loose (link y) ys l.2 (next ∙ z) in
      let d1 = assigned enough 3 1 q (omega arith) (omega arith) (omega arith) y_fine in
      let d2 = loaded enough 1 1 d1.at (omega arith) (omega arith) (omega arith) (omega arith) (head_of ys) next next_there next_fine in
      let d3 = deleted enough 3 d2.at (omega arith) (omega arith) y refl (λ z. next_there (sym next ∙ z)) in
      let d4 = rested enough d3.at (ap (dangled y) none_at ∙ null_stays y (Memᴰ.head refl)) in
      let head_is = dangled_other y (head_of ys) (λ z. y_apart (next ∙ z)) in
      subst (Done n r)
      ((λ i. record { link = cut_off y link; var = three (λ v. dangled y (f v)) (head_is i) null null; value = update w y none })
      ∙ heap_path (take_first link y ys l) (λ v. refl) (λ z. refl)) d4

  module _ (i : ℕ) (h : i < length ys) where
    -- the cell that goes, the one before it and the one after it
    abbrev x : ℕ
    x = cell_at i ys

    abbrev p : ℕ
    p = cell_at i (y ∷ ys)

    abbrev next : ℕ
    next = cell_at (suc i) ys

    x_in : x ∈ (y ∷ ys)
    x_in = Memᴰ.tail (cell_in ys i h)

    p_next : link p ≡ x
    p_next = cell_next link y (y ∷ ys) i l (omega arith)

    x_next : link x ≡ next
    x_next = cell_next link y (y ∷ ys) (suc i) l (omega arith)

    x_lists : Lists link x (drop i ys)
    x_lists = lists_drop link y (y ∷ ys) (suc i) l (omega arith)

    next_lists : Lists link next (drop (suc i) ys)
    next_lists = lists_drop link y (y ∷ ys) (suc (suc i)) l (omega arith)

    p_lists : Lists link p (drop i (y ∷ ys))
    p_lists = lists_drop link y (y ∷ ys) i l (omega arith)

    p_x : p ≢ x
    p_x = cells_differ (y ∷ ys) i (suc i) distinct (omega arith) (omega arith)

    y_x : y ≢ x
    y_x = cells_differ (y ∷ ys) 0 (suc i) distinct (omega arith) (omega arith)

    next_x : next ≢ x
    next_x e =
        let same = lists_unique link x (drop (suc i) ys) (drop i ys) (subst (λ (z : ℕ). Lists link z (drop (suc i) ys)) e next_lists) x_lists in
        omega (arith, ap length same, length-drop (suc i) ys, length-drop i ys)

    x_somewhere : x ≢ nowhere
    x_somewhere = lists_somewhere link low loose x (drop i ys) x_lists

    x_fine : x ≢ dangling
    x_fine = lists_proper link low loose x (drop i ys) x_lists

    next_somewhere : next ≢ nowhere
    next_somewhere = lists_somewhere link low loose next (drop (suc i) ys) next_lists

    next_fine : next ≢ dangling
    next_fine = lists_proper link low loose next (drop (suc i) ys) next_lists

    -- the links while that before the cell keeps the head, and without the cell
    abbrev kept : ℕ → ℕ
    kept = update link p y

    kept_x : kept x ≡ next
    kept_x = update_other link p y x (λ e. p_x (sym e)) ∙ x_next

    cut_p : cut_off x kept p ≡ y
    cut_p =
        update_other (λ q. dangled x (kept q)) x nowhere p p_x ∙ ap (dangled x) (update_same link p y p refl) ∙ dangled_other x y y_x

    linked_so : (q : ℕ) → update (cut_off x kept) p next q ≡ update (cut_off x link) p next q
    linked_so q = go (ℕ_discrete q p)
      where
        by : q ≢ p → Dec (q ≡ x) → cut_off x kept q ≡ cut_off x link q
        by o (yes e) = update_same (λ z. dangled x (kept z)) x nowhere q e ∙ sym (update_same (λ z. dangled x (link z)) x nowhere q e)
        by o (no e) =
            update_other (λ z. dangled x (kept z)) x nowhere q e ∙ ap (dangled x) (update_other link p y q o)
            ∙ sym (update_other (λ z. dangled x (link z)) x nowhere q e)

        go : Dec (q ≡ p) → update (cut_off x kept) p next q ≡ update (cut_off x link) p next q
        go (yes e) = update_same (cut_off x kept) p next q e ∙ sym (update_same (cut_off x link) p next q e)
        go (no e) = update_other (cut_off x kept) p next q e ∙ by e (ℕ_discrete q x) ∙ sym (update_other (cut_off x link) p next q e)

    -- the one after that goes
    pub takes_after : {n : ℕ} (enough : 3 ≤ n) {r : Stepped} (f : ℕ → ℕ) (w : ℕ → Option ℕ) (b c : ℕ) → f 0 ≡ null
        → At n (once 3 3 1 ∷ times i 4 3 3 ∷ once 4 2 3 ∷ once 5 3 1 ∷ once 3 1 2 ∷ once 4 2 2 ∷ once 7 1 0 ∷ once 4 1 3 ∷ once 5 3 2 ∷ rest_turns) r
        (record { others = f; values = w; link = link; first = y; second = b; third = c })
        → Done n r (record { link = chained (taken_out (suc i) (y ∷ ys)) (cut_off x link); var = three (λ v. dangled x (f v)) y null null; value = update w x none })
    takes_after {n} enough {r} f w b c none_at q =
        let d1 = assigned enough 3 1 q (omega arith) (omega arith) (omega arith) y_fine in
        let d2 = walked enough i (y ∷ ys) d1.at low loose l (omega arith) in
        let d3 = loaded enough 2 3 d2 (omega arith) (omega arith) (omega arith) (omega arith) x p_next x_somewhere x_fine in
        let d4 = stored enough 1 d3.at (omega arith) (λ z. x_somewhere (sym p_next ∙ z)) y_fine in
        let d5 = assigned enough 1 2 d4.at (omega arith) (omega arith) (omega arith) x_fine in
        let d6 = loaded enough 2 2 d5.at (omega arith) (omega arith) (omega arith) (omega arith) next kept_x next_somewhere next_fine in
        let d7 = deleted enough 1 d6.at (omega arith) (omega arith) x refl (λ z. next_somewhere (sym kept_x ∙ z)) in
        let spot : ℕ → ℕ → Spot =
        λ s t. record { others = λ v. dangled x (f v); values = update w x none; link = cut_off x kept; first = dangled x x; second = s; third = t } in
        let stays : spot (dangled x next) (dangled x p) ≡ spot next p = λ k. spot (dangled_other x next next_x k) (dangled_other x p p_x k) in
        let s7 = subst (At n (once 4 1 3 ∷ once 5 3 2 ∷ rest_turns) r) stays d7.at in
        let d8 = loaded enough 1 3 s7 (omega arith) (omega arith) (omega arith) (omega arith) y cut_p y_somewhere y_fine in
        let d9 = stored enough 2 d8.at (omega arith) (λ z. y_somewhere (sym cut_p ∙ z)) next_fine in
        subst (Done n r) (heap_path (λ z. linked_so z ∙ take_after link i y ys l h z) (λ v. refl) (λ z. refl))
        (rested enough d9.at (ap (dangled x) none_at ∙ null_stays x x_in))
