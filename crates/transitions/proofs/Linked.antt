-- The index of transitions, built last to first: each slot is the next transition into its state.
use mathlib.Core.List.{List}
use mathlib.Core.Path.{◌≡◌, refl, sym, ap, ◌∙◌}
use Prim.Native.Nat.{ℕ, suc, ◌+◌, ◌-◌, ◌≤◌, ◌<◌}
use native.Mathlib.Decide.{ℕ_discrete}
use native.Mathlib.Omega.{arith}
use lib.Dec.{eqb}
use lib.ListN.{length, get_or, set, length-set, replicate, get_or-replicate}
use lib.Seq.{get_or-set_same, get_or-set_other}
use Rattle.lists.proofs.Reflect.{cond_true, cond_false, r_eq}
use Rattle.transitions.specs.Index.{next_into, IndexedFrom}

module _ (to : ℕ → ℕ) (state left i : ℕ) where
  pub into_here : to i ≡ state → next_into to state (suc left) i ≡ suc i
  unfolding next_into
  into_here e = cond_true (eqb (to i) state) (suc i) (next_into to state left (suc i)) ((r_eq (to i) state).tests e)

  pub into_later : (to i ≡ state → ⊥) → next_into to state (suc left) i ≡ next_into to state left (suc i)
  unfolding next_into
  into_later n = cond_false (eqb (to i) state) (suc i) (next_into to state left (suc i)) (λ t. n ((r_eq (to i) state).holds t))

pub into_none : (to : ℕ → ℕ) (state i : ℕ) → next_into to state 0 i ≡ 0
unfolding next_into
into_none to state i = refl

-- at first nothing is linked
pub linked_none : (to : ℕ → ℕ) (count : ℕ) (index : List ℕ) → index ≡ replicate 320 0 → IndexedFrom to count count index
linked_none to count index clear =
    let none : count - count ≡ 0 = omega arith in
    record {
      slots = ap length clear;
      head = λ s b. rw (none, clear) (get_or-replicate 320 s 0 0 (omega arith) ∙ sym (into_none to s count));
      next = λ j a b. absurd (omega arith);
    }

-- one transition more, ahead of the others
pub linked_more : (to : ℕ → ℕ) (count i : ℕ) (index : List ℕ) → i < count → count ≤ 256 → to i < 64 → IndexedFrom to count (i + 1) index
    → IndexedFrom to count i (set (set index (64 + i) (get_or index (to i) 0)) (to i) (i + 1))
linked_more to count i index h most low l =
    record {
      slots = length-set after (to i) (i + 1) ∙ same;
      head = λ s b. head s b (ℕ_discrete s (to i));
      next = λ j a b. get_or-set_other after (to i) (64 + j) (i + 1) 0 (omega arith) ∙ next j a b (ℕ_discrete j i);
    }
  where
    after : List ℕ
    after = set index (64 + i) (get_or index (to i) 0)

    same : length after ≡ 320
    same = length-set index (64 + i) (get_or index (to i) 0) ∙ l.slots

    left : count - i ≡ suc (count - (i + 1))
    left = omega arith

    head : (s : ℕ) → s < 64 → Dec (s ≡ to i) → get_or (set after (to i) (i + 1)) s 0 ≡ next_into to s (count - i) i
    head s b (yes e) =
        rw (e, left)
        (get_or-set_same after (to i) (i + 1) 0 (omega (arith, same)) ∙ omega arith ∙ sym (into_here to (to i) (count - (i + 1)) i refl))
    head s b (no n) =
        rw left
        (get_or-set_other after (to i) s (i + 1) 0 n ∙ get_or-set_other index (64 + i) s (get_or index (to i) 0) 0 (omega arith) ∙ l.head s b
        ∙ ap (next_into to s (count - (i + 1))) (omega arith) ∙ sym (into_later to s (count - (i + 1)) i (λ e. n (sym e))))

    next : (j : ℕ) → i ≤ j → j < count → Dec (j ≡ i) → get_or after (64 + j) 0 ≡ next_into to (to j) (count - suc j) (suc j)
    next j a b (yes e) =
        let one : suc i ≡ i + 1 = omega arith in
        rw (e, one) (get_or-set_same index (64 + i) (get_or index (to i) 0) 0 (omega (arith, l.slots)) ∙ l.head (to i) low)
    next j a b (no n) = get_or-set_other index (64 + i) (64 + j) (get_or index (to i) 0) 0 (omega arith) ∙ l.next j (omega arith) b

-- the whole index
pub linked_head : (to : ℕ → ℕ) (count : ℕ) (index : List ℕ) → IndexedFrom to count 0 index → (s : ℕ) → s < 64 → get_or index s 0 ≡ next_into to s count 0
linked_head to count index l s b = let all : count - 0 ≡ count = omega arith in rw all at (l.head s b)
