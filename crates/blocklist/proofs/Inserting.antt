-- The turns of an insert: the list with a cell put in.
use mathlib.Core.List.{List, [], ◌∷◌}
use mathlib.Core.Logic.{◌≢◌}
use mathlib.Core.Option.{Option}
use mathlib.Core.Path.{◌≡◌, refl, sym, ◌∙◌, subst}
use Prim.Native.Nat.{ℕ, zero, suc, ◌≤◌}
use native.Mathlib.Decide.{ℕ_discrete}
use native.Mathlib.Omega.{arith}
use lib.ListN.{length, drop}
use Rattle.lists.specs.List.{◌∈◌}
use Rattle.heap.specs.Heap.{update}
use Rattle.heap.specs.Place.{nowhere, null, dangling}
use Rattle.heap.proofs.Update.{update_same, update_other, by_update, heap_path}
use Rattle.stepper.specs.declared.Stepped.{Stepped}
use Rattle.blocklist.specs.BlockList.{Lists, head_of, chained, three, put_in, cell_at}
use Rattle.blocklist.specs.Parts.{times, once, rest_turns}
use Rattle.blocklist.proofs.Chains.{cell_in, lists_head, lists_drop, cell_next, lists_somewhere, lists_proper, lists_linked, lists_chained, lists_agree, put_after}
use Rattle.blocklist.proofs.Moving.{At, Done, assigned, loaded, stored}
use Rattle.blocklist.proofs.Walking.{rested, walked}

-- x is free, and xs are the cells met from a
module _ (link : ℕ → ℕ) (low : link nowhere ≡ nowhere) (loose : link dangling ≡ nowhere) (a x : ℕ) (xs : List ℕ) (l : Lists link a xs)
    (is_free_lem : link x ≡ nowhere) (is_cell : x ≢ nowhere) (is-not-null : x ≢ null) (is-not-loose : x ≢ dangling) where
  -- the cell is not in the list
  apart : ¬ (x ∈ xs)
  apart m = lists_linked link low loose a xs l x m is_free_lem

  -- the links with the cell in front
  abbrev front : ℕ → ℕ
  front = update (update link x dangling) x a

  front_other : (q : ℕ) → q ≢ x → front q ≡ link q
  front_other q o = update_other (update link x dangling) x a q o ∙ update_other link x dangling q o

  front_x : front x ≡ a
  front_x = update_same (update link x dangling) x a x refl

  front_low : front nowhere ≡ nowhere
  front_low = front_other nowhere (λ e. is_cell (sym e)) ∙ low

  front_loose : front dangling ≡ nowhere
  front_loose = front_other dangling (λ e. is-not-loose (sym e)) ∙ loose

  in_front : Lists front x (x ∷ xs)
  in_front = (
    refl,
    is-not-null,
    subst (λ (z : ℕ). Lists front z xs) (sym front_x)
        (lists_agree link front a xs (λ y m. sym (front_other y (λ e. apart (subst (λ (z : ℕ). z ∈ xs) e m)))) l),
  )

  module _ (k : ℕ) (h : k ≤ length xs) where
    -- the cell after which it belongs, and the one that is then next
    abbrev p : ℕ
    p = cell_at k (x ∷ xs)

    abbrev next : ℕ
    next = cell_at k xs

    p_in : p ∈ (x ∷ xs)
    p_in = cell_in (x ∷ xs) k (omega arith)

    next_of : front p ≡ next
    next_of = cell_next front x (x ∷ xs) k in_front (omega arith)

    rest_lists : Lists front next (drop k xs)
    rest_lists = lists_drop front x (x ∷ xs) (suc k) in_front (omega arith)

    next_somewhere : next ≢ nowhere
    next_somewhere = lists_somewhere front front_low front_loose next (drop k xs) rest_lists

    next_proper : next ≢ dangling
    next_proper = lists_proper front front_low front_loose next (drop k xs) rest_lists

    -- the links with the ring closed, and open again
    abbrev ring : ℕ → ℕ
    ring = update front p x

    abbrev open_ring : ℕ → ℕ
    open_ring = update ring x next

    linked_as : (ys : List ℕ) (i : ℕ) → i ≤ length ys → ¬ (x ∈ ys) → Lists link (head_of ys) ys → (q : ℕ)
        → update (update front (cell_at i (x ∷ ys)) x) x (cell_at i ys) q ≡ chained (put_in i x ys) link q
    linked_as ys zero b o m q =
        by_update (chained ys link) x (head_of ys) q _
        (λ e. update_same (update front x x) x (head_of ys) q e)
        (λ e. update_other (update front x x) x (head_of ys) q e ∙ update_other front x x q e ∙ front_other q e ∙ lists_chained link (head_of ys) ys m q)
    linked_as [] (suc i) b o m q = absurd (omega arith)
    linked_as (y ∷ ys) (suc i) b o m q = go (ℕ_discrete q x) ∙ put_after link x i y ys m o (omega arith) q
      where
        c : ℕ
        c = cell_at i (y ∷ ys)

        d : ℕ
        d = cell_at i ys

        go : Dec (q ≡ x) → update (update front c x) x d q ≡ update (update link c x) x d q
        go (yes e) = update_same (update front c x) x d q e ∙ sym (update_same (update link c x) x d q e)
        go (no e) =
            update_other (update front c x) x d q e ∙ by (ℕ_discrete q c) ∙ sym (update_other (update link c x) x d q e)
          where
            by : Dec (q ≡ c) → update front c x q ≡ update link c x q
            by (yes z) = update_same front c x q z ∙ sym (update_same link c x q z)
            by (no z) = update_other front c x q z ∙ front_other q e ∙ sym (update_other link c x q z)

    all_linked : (q : ℕ) → open_ring q ≡ chained (put_in k x xs) link q
    all_linked = linked_as xs k h apart (subst (λ (z : ℕ). Lists link z xs) (lists_head link a xs l) l)

    -- where the head is then
    head_linked : (i : ℕ) (ys : List ℕ) → i ≤ length ys → a ≡ head_of ys → ¬ (x ∈ ys) → update front (cell_at i (x ∷ ys)) x x ≡ head_of (put_in i x ys)
    head_linked zero ys b e o = update_same front x x x refl
    head_linked (suc i) [] b e o = absurd (omega arith)
    head_linked (suc i) (y ∷ ys) b e o =
        update_other front (cell_at i (y ∷ ys)) x x (λ z. o (subst (λ (q : ℕ). q ∈ (y ∷ ys)) (sym z) (cell_in (y ∷ ys) i (omega arith)))) ∙ front_x ∙ e

    head_is : ring x ≡ head_of (put_in k x xs)
    head_is = head_linked k xs h (lists_head link a xs l) apart

    -- the first of the cells is somewhere, and not at *
    head_fine : (i : ℕ) (ys : List ℕ) → Lists link (head_of ys) ys → i ≤ length ys → (head_of (put_in i x ys) ≢ nowhere) × (head_of (put_in i x ys) ≢ dangling)
    head_fine zero ys m b = (is_cell, is-not-loose)
    head_fine (suc i) [] m b = absurd (omega arith)
    head_fine (suc i) (y ∷ ys) m b = (lists_somewhere link low loose y (y ∷ ys) m, lists_proper link low loose y (y ∷ ys) m)

    -- variable 3 is at the free cell, which is linked to *: the turns that put it in
    pub puts_in : {n : ℕ} (enough : 3 ≤ n) {r : Stepped} (f : ℕ → ℕ) (w : ℕ → Option ℕ) (b : ℕ) → f 0 ≡ null
        → At n (once 5 3 1 ∷ once 3 1 3 ∷ times k 4 3 3 ∷ once 4 2 3 ∷ once 5 3 1 ∷ once 3 3 1 ∷ once 4 1 1 ∷ once 5 3 2 ∷ rest_turns) r
        (record { others = f; values = w; link = update link x dangling; first = a; second = b; third = x })
        → Done n r (record { link = chained (put_in k x xs) link; var = three f (head_of (put_in k x xs)) null null; value = w })
    puts_in {n} enough {r} f w b none q =
        let fine = head_fine k xs (subst (λ (z : ℕ). Lists link z xs) (lists_head link a xs l) l) h in
        let d1 = stored enough 1 q (omega arith) (λ z. let e : dangling ≡ nowhere = sym (update_same link x dangling x refl) ∙ z in omega arith) (lists_proper link low loose a xs l) in
        let d2 = assigned enough 1 3 d1.at (omega arith) (omega arith) (omega arith) is-not-loose in
        let d3 = walked enough k (x ∷ xs) d2.at front_low front_loose in_front (omega arith) in
        let d4 = loaded enough 2 3 d3 (omega arith) (omega arith) (omega arith) (omega arith) next next_of next_somewhere next_proper in
        let d5 = stored enough 1 d4.at (omega arith) (λ z. next_somewhere (sym next_of ∙ z)) is-not-loose in
        let d6 = assigned enough 3 1 d5.at (omega arith) (omega arith) (omega arith) is-not-loose in
        let d7 = loaded enough 1 1 d6.at (omega arith) (omega arith) (omega arith) (omega arith) (head_of (put_in k x xs)) head_is fine.0 fine.1 in
        let d8 = stored enough 2 d7.at (omega arith) (λ z. fine.0 (sym head_is ∙ z)) next_proper in
        subst (Done n r) (heap_path all_linked (λ v. refl) (λ z. refl)) (rested enough d8.at none)
