-- What a kind retains, by the numbers of the wanted choices.
use mathlib.Core.Bool.{Bool, true, false, ◌&&◌, cond}
use mathlib.Core.List.{List, [], ◌∷◌, append-nil}
use mathlib.Core.Logic.{◌≢◌, ◌⊎◌, inl, inr}
use mathlib.Core.Path.{◌≡◌, refl, sym, ap, ◌∙◌}
use Prim.Native.Nat.{ℕ, ◌+◌, ◌≤◌, ◌<◌}
use native.Mathlib.Decide.{ℕ_discrete}
use native.Mathlib.Omega.{arith}
use Rattle.std.proofs.lemmas.Bool.Decides.{nat_tests}
use borrow.Author.Tests.{eq-eqb, ne_eqb}
use lib.Dec.{eqb}
use lib.ListN.{length, get_or}
use Rattle.lists.specs.List.{concat_map, keep}
use Rattle.lists.specs.Range.{range}
use Rattle.lists.proofs.List.{range_mem}
use Rattle.lists.proofs.Test.{and_right}
use Rattle.heap.specs.Place.{nowhere, dangling, cell}
use Rattle.place.specs.Place.{both_nowhere}
use Rattle.shape.specs.Placing.{place}
use Rattle.shape.specs.Shape.{Shape, var_at, size}
use Rattle.shape.proofs.PlacingByNumber.{choice, choices_by_number}
use Rattle.placing.specs.Choice.{chosen, exists, opened, made, put}
use Rattle.placing.specs.Retained.{At}
use Rattle.placing.specs.Retained.{retained, retained_in, changed, seconds, firsts}
use Rattle.placing.proofs.Chosen.{
  choice_made,
  made_same,
  made_other,
  made_links,
  not_null,
  chosen_placed,
  place_keeps,
  place_dangling,
  retain_keep,
  concat_map_keep,
  tested_at,
}
use Rattle.placing.proofs.Lists.{concat_map_none, concat_map_same, concat_map_concat_map, concat_map_stretch}
use Rattle.placing.proofs.Putting.{put_nothing, put_made}
use Rattle.placing.specs.Chosen.{last_operand, wanted_of_last, last_of, put_first, first_of}
use Rattle.placing.specs.Wanted.{fits_in}
use Rattle.placing.proofs.Wants.{last_a, last_b, last_once, last_later, first_a_dangling, first_b_dangling, first_both, first_one}

-- only choice 0 gives something
only_first : {B : Type 0} (f : ℕ → List B) (m : ℕ) → 1 ≤ m → ((k : ℕ) → k ≢ 0 → f k ≡ []) → concat_map f (range 0 m) ≡ f 0
only_first f m h none = sym (concat_map_stretch f 0 1 m (omega arith) h (λ k _ o. none k (past k o))) ∙ append-nil (f 0)
  where
    past : (k : ℕ) → (k < 0) ⊎ (1 ≤ k) → k ≢ 0
    past k (inl l) = omega arith
    past k (inr l) = omega arith

-- a variable that has a place
pub place_one : (v : ℕ) (s : Shape) → var_at s v ≢ nowhere → var_at s v ≢ dangling → place v s ≡ s ∷ []
place_one v s = grind (arith, nat_tests)

pub place_choices : (v : ℕ) (s : Shape) → var_at s v ≡ nowhere → place v s ≡ concat_map (choice v s) (range 0 (size s + (2 + size s)))
place_choices v s e = rw e (sym (choices_by_number v s))

pub clash : {A : Type 0} → false ≡ true → A
clash e = let z : ◌≡◌ {A = ℕ} 0 1 = cc in absurd (omega arith)

-- both are nowhere, and are two
pub both_nowhere_lem : (a b x y : ℕ) → both_nowhere (eqb a b) x y ≡ true → (x ≡ nowhere) × (y ≡ nowhere) × (a ≢ b)
unfolding both_nowhere
both_nowhere_lem a b x y t = grind (arith, nat_tests)

module _ (variables kind a b : ℕ) where
  abbrev keep_one : Shape → List Shape
  keep_one t = keep (retained_in kind a b t) (changed variables kind a b t)

  firsts_of : (s : Shape) → firsts variables kind a b s ≡ concat_map (seconds variables kind a b) (place a s)
  firsts_of s = concat_map_concat_map keep_one (place b) (place a s)

  -- where a has a place only b is placed
  firsts_seconds : (s : Shape) → var_at s a ≢ nowhere → var_at s a ≢ dangling → firsts variables kind a b s ≡ seconds variables kind a b s
  firsts_seconds s n d =
      firsts_of s ∙ ap (concat_map (seconds variables kind a b)) (place_one a s n d) ∙ append-nil (seconds variables kind a b s)

  -- where b has a place the kind decides
  decided : (t : Shape) → var_at t b ≢ nowhere → var_at t b ≢ dangling → seconds variables kind a b t ≡ keep_one t
  decided t n d = grind (arith, nat_tests)

module _ (variables kind a b : ℕ) (s : Shape) (kind_least : 1 ≤ kind)
    (links_range : (i : ℕ) → i < size s → get_or s.links i nowhere < cell (size s)) where
  abbrev numbers : List ℕ
  numbers = range 0 (size s + (2 + size s))

  -- ---- the operand placed last

  -- what is wanted: a is nowhere, and b has a place or is the same variable
  module _ (e : var_at s a ≡ nowhere) (at : a ≢ b → At (size s) (var_at s b)) (apart : kind ≡ 4 → a ≢ b) (h : a ≤ length s.vars) (k : ℕ) where
    a_is : var_at (made a s k) a ≡ chosen (size s) k
    a_is = made_same a s k (not_null s a e) h

    b_is : Dec (a ≡ b) → (var_at (made a s k) b ≢ nowhere) × (var_at (made a s k) b ≢ dangling)
    b_is (yes i) =
        let c = ap (var_at (made a s k)) (sym i) ∙ a_is in
        let (x, y) = chosen_placed (size s) k in
        (λ z. x (sym c ∙ z), λ z. y (sym c ∙ z))
    b_is (no i) = let c = made_other a s k b (λ j. i (sym j)) in (λ z. (at i).some (sym c ∙ z), λ z. (at i).safe (sym c ∙ z))

    last_a_fits : k < size s + (2 + size s) → fits_in s.links (wanted_of_last kind a b s) k ≡ exists s.links k && retained_in kind a b (made a s k)
    last_a_fits most =
        last_a kind a b (var_at s a) (var_at s b) s.links k kind_least most links_range e apart at ∙ go (ℕ_discrete a b)
      where
        c : ℕ
        c = chosen (size s) k

        links : List ℕ
        links = opened s.links k

        go : Dec (a ≡ b)
            → exists s.links k && cond (eqb a b) (retained kind c c links) (retained kind c (var_at s b) links)
            ≡ exists s.links k && retained_in kind a b (made a s k)
        go (yes i) =
            rw (eq-eqb a b i, tested_at kind a b (made a s k) c c links a_is (ap (var_at (made a s k)) (sym i) ∙ a_is) (made_links a s k)) refl
        go (no i) =
            rw (ne_eqb a b i, tested_at kind a b (made a s k) c (var_at s b) links a_is (made_other a s k b (λ j. i (sym j))) (made_links a s k)) refl

    last_a_made : k < size s + (2 + size s) → last_of variables kind a b s k ≡ concat_map (seconds variables kind a b) (choice a s k)
    unfolding last_of last_operand
    last_a_made most =
        rw (
          choice_made a s k,
          concat_map_keep (seconds variables kind a b) (exists s.links k) (made a s k),
          last_a_fits most,
          eq-eqb (var_at s a) nowhere e,
          put_made a s k e,
          decided variables kind a b (made a s k) (b_is (ℕ_discrete a b)).0 (b_is (ℕ_discrete a b)).1,
        )
        (go (exists s.links k))
      where
        go : (x : Bool) → keep (x && retained_in kind a b (made a s k)) (changed variables kind a b (made a s k)) ≡ cond x (keep_one variables kind a b (made a s k)) []
        go true = refl
        go false = refl

  -- a has a place, b is nowhere
  module _ (at : At (size s) (var_at s a)) (e : var_at s b ≡ nowhere) (h : b ≤ length s.vars) (k : ℕ) (most : k < size s + (2 + size s)) where
    last_b_fits : fits_in s.links (wanted_of_last kind a b s) k ≡ exists s.links k && retained_in kind a b (made b s k)
    last_b_fits =
        last_b kind a b (var_at s a) (var_at s b) s.links k kind_least most links_range at e
        ∙ ap (λ (r : Bool). exists s.links k && r)
        (sym (tested_at kind a b (made b s k) (var_at s a) (chosen (size s) k) (opened s.links k)
        (made_other b s k a (λ z. at.some (ap (var_at s) z ∙ e))) (made_same b s k (not_null s b e) h) (made_links b s k)))

    last_b_made : last_of variables kind a b s k ≡ concat_map (keep_one variables kind a b) (choice b s k)
    unfolding last_of last_operand
    last_b_made =
        rw (
          choice_made b s k,
          retain_keep (retained_in kind a b) (changed variables kind a b) (exists s.links k) (made b s k),
          last_b_fits,
          ne_eqb (var_at s a) nowhere at.some,
          put_made b s k e,
        )
        refl

  -- both have places
  module _ (nx : var_at s a ≢ nowhere) (ny : var_at s b ≢ nowhere) where
    last_first : last_of variables kind a b s 0 ≡ keep_one variables kind a b s
    unfolding last_of last_operand retained_in
    last_first =
        rw (ne_eqb (var_at s a) nowhere nx, put_nothing b s 0 ny, last_once kind a b (var_at s a) (var_at s b) s.links 0 nx ny refl) refl

    last_none : (k : ℕ) → k ≢ 0 → last_of variables kind a b s k ≡ []
    unfolding last_of
    last_none k o = rw (last_later kind a b (var_at s a) (var_at s b) s.links k nx ny o) refl

  module _ (apart : kind ≡ 4 → a ≢ b) (a_slot : a ≤ length s.vars) (nx : var_at s a ≢ dangling) (ny : var_at s b ≢ dangling) where
    module _ (b_slot : b ≤ length s.vars) (one : var_at s a ≡ nowhere → a ≢ b → var_at s b ≢ nowhere) (x_in : var_at s a < cell (size s)) (y-in : var_at s b < cell (size s)) where
      b_at : var_at s a ≡ nowhere → a ≢ b → At (size s) (var_at s b)
      b_at e i = grind (arith, nat_tests)

      a_at : var_at s a ≢ nowhere → At (size s) (var_at s a)
      a_at n = record { some = n; safe = nx; inside = x_in }

      -- the wanted choices give all that is retained
      pub lasts_by_number : concat_map (last_of variables kind a b s) numbers ≡ firsts variables kind a b s
      lasts_by_number = go (ℕ_discrete (var_at s a) nowhere) (ℕ_discrete (var_at s b) nowhere)
        where
          go : Dec (var_at s a ≡ nowhere) → Dec (var_at s b ≡ nowhere) → concat_map (last_of variables kind a b s) numbers ≡ firsts variables kind a b s
          go (yes e) d =
              concat_map_same (last_of variables kind a b s) (λ k. concat_map (seconds variables kind a b) (choice a s k)) numbers
              (λ k m. let (_, most) = range_mem 0 (size s + (2 + size s)) k m in last_a_made e (b_at e) apart a_slot k (omega arith))
              ∙ sym (concat_map_concat_map (seconds variables kind a b) (choice a s) numbers)
              ∙ ap (concat_map (seconds variables kind a b)) (sym (place_choices a s e))
              ∙ sym (firsts_of variables kind a b s)
          go (no n) (yes e) =
              concat_map_same (last_of variables kind a b s) (λ k. concat_map (keep_one variables kind a b) (choice b s k)) numbers
              (λ k m. let (_, most) = range_mem 0 (size s + (2 + size s)) k m in last_b_made (a_at n) e b_slot k (omega arith))
              ∙ sym (concat_map_concat_map (keep_one variables kind a b) (choice b s) numbers)
              ∙ ap (concat_map (keep_one variables kind a b)) (sym (place_choices b s e))
              ∙ sym (firsts_seconds variables kind a b s n nx)
          go (no n) (no m) =
              only_first (last_of variables kind a b s) (size s + (2 + size s)) (omega arith) (last_none n m)
              ∙ last_first n m
              ∙ sym (append-nil (keep_one variables kind a b s))
              ∙ ap (concat_map (keep_one variables kind a b)) (sym (place_one b s m ny))
              ∙ sym (firsts_seconds variables kind a b s n nx)

      -- a wanted choice is retained
      pub last_retained : (k : ℕ) → k < size s + (2 + size s) → fits_in s.links (wanted_of_last kind a b s) k ≡ true → retained_in kind a b (put (last_operand a b s) s k) ≡ true
      unfolding last_operand
      last_retained k most fits = go (ℕ_discrete (var_at s a) nowhere) (ℕ_discrete (var_at s b) nowhere) (ℕ_discrete k 0)
        where
          go : Dec (var_at s a ≡ nowhere) → Dec (var_at s b ≡ nowhere) → Dec (k ≡ 0) → retained_in kind a b (put (last_operand a b s) s k) ≡ true
          go (yes e) d f =
              rw (eq-eqb (var_at s a) nowhere e, put_made a s k e) (and_right (exists s.links k) _ (sym (last_a_fits e (b_at e) apart a_slot k most) ∙ fits))
          go (no n) (yes e) f =
              rw (ne_eqb (var_at s a) nowhere n, put_made b s k e) (and_right (exists s.links k) _ (sym (last_b_fits (a_at n) e b_slot k most) ∙ fits))
          go (no n) (no m) (yes f) =
              rw (ne_eqb (var_at s a) nowhere n, put_nothing b s k m)
              (tested_at kind a b s (var_at s a) (var_at s b) s.links refl refl refl ∙ sym (last_once kind a b (var_at s a) (var_at s b) s.links k n m f) ∙ fits)
          go (no n) (no m) (no f) = clash (sym (last_later kind a b (var_at s a) (var_at s b) s.links k n m f) ∙ fits)

  -- ---- the operand placed first

  module _ (a_slot : a ≤ length s.vars) where
    module _ (nx : var_at s a ≢ dangling) (ny : var_at s b ≢ dangling) where
      module _ (t : both_nowhere (eqb a b) (var_at s a) (var_at s b) ≡ true) where
        first_made : (k : ℕ) → first_of variables kind a b s k ≡ concat_map (seconds variables kind a b) (choice a s k)
        unfolding first_of put_first
        first_made k =
            let e = (both_nowhere_lem a b (var_at s a) (var_at s b) t).0 in
            let a_is = made_same a s k (not_null s a e) a_slot in
            rw (
              choice_made a s k,
              concat_map_keep (seconds variables kind a b) (exists s.links k) (made a s k),
              first_both (eqb a b) (var_at s a) (var_at s b) s.links k nx ny t,
              t,
              put_made a s k e,
              firsts_seconds variables kind a b (made a s k) (λ z. (chosen_placed (size s) k).0 (sym a_is ∙ z)) (λ z. (chosen_placed (size s) k).1 (sym a_is ∙ z)),
            )
            refl

      module _ (f : both_nowhere (eqb a b) (var_at s a) (var_at s b) ≡ false) where
        first_first : first_of variables kind a b s 0 ≡ firsts variables kind a b s
        unfolding first_of put_first
        first_first = rw (first_one (eqb a b) (var_at s a) (var_at s b) s.links 0 nx ny f, f) refl

        first_none : (k : ℕ) → k ≢ 0 → first_of variables kind a b s k ≡ []
        unfolding first_of
        first_none k o = rw (first_one (eqb a b) (var_at s a) (var_at s b) s.links k nx ny f, ne_eqb k 0 o) refl

    a_dangling : var_at s a ≡ dangling → concat_map (first_of variables kind a b s) numbers ≡ firsts variables kind a b s
    unfolding first_of
    a_dangling e =
        concat_map_none (first_of variables kind a b s) numbers
        (λ k _. rw (first_a_dangling (eqb a b) (var_at s a) (var_at s b) s.links k e) refl)
        ∙ sym (rw (place_dangling a s e) refl)

    b_dangling : var_at s b ≡ dangling → concat_map (first_of variables kind a b s) numbers ≡ firsts variables kind a b s
    unfolding first_of
    b_dangling e =
        let none =
        concat_map_none (place b) (place a s)
        (λ t m. place_dangling b t (place_keeps a s t b m (λ z. let q : dangling ≡ nowhere = sym e ∙ z in omega arith) ∙ e)) in
        concat_map_none (first_of variables kind a b s) numbers
        (λ k _. rw (first_b_dangling (eqb a b) (var_at s a) (var_at s b) s.links k e) refl)
        ∙ sym (rw none refl)

    pub firsts_by_number : concat_map (first_of variables kind a b s) numbers ≡ firsts variables kind a b s
    firsts_by_number = go (ℕ_discrete (var_at s a) dangling) (ℕ_discrete (var_at s b) dangling)
      where
        by_test : (nx : var_at s a ≢ dangling) (ny : var_at s b ≢ dangling) (t : Bool) → both_nowhere (eqb a b) (var_at s a) (var_at s b) ≡ t
            → concat_map (first_of variables kind a b s) numbers ≡ firsts variables kind a b s
        by_test nx ny true t =
            concat_map_same (first_of variables kind a b s) (λ k. concat_map (seconds variables kind a b) (choice a s k)) numbers (λ k _. first_made nx ny t k)
            ∙ sym (concat_map_concat_map (seconds variables kind a b) (choice a s) numbers)
            ∙ ap (concat_map (seconds variables kind a b)) (sym (place_choices a s (both_nowhere_lem a b (var_at s a) (var_at s b) t).0))
            ∙ sym (firsts_of variables kind a b s)
        by_test nx ny false f =
            only_first (first_of variables kind a b s) (size s + (2 + size s)) (omega arith) (first_none nx ny f) ∙ first_first nx ny f

        go : Dec (var_at s a ≡ dangling) → Dec (var_at s b ≡ dangling) → concat_map (first_of variables kind a b s) numbers ≡ firsts variables kind a b s
        go (yes e) d = a_dangling e
        go (no nx) (yes e) = b_dangling e
        go (no nx) (no ny) = by_test nx ny (both_nowhere (eqb a b) (var_at s a) (var_at s b)) refl
