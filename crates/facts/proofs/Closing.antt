-- The computed closure of a list of facts decides what follows from them.
use mathlib.Core.Bool.{Bool, ◌&&◌, not}
use mathlib.Core.List.Memᴰ
use mathlib.Core.List.{List, [], ◌∷◌}
use mathlib.Core.Logic.{◌⊎◌, inl, inr}
use mathlib.Core.Path.{◌≡◌, refl, sym, ap, subst, subst₂}
use Prim.Native.Nat.{ℕ, zero, suc, ◌<◌}
use native.Mathlib.Omega.{arith}
use lib.Dec.{T, eqb}
use Rattle.lists.specs.List.{◌∈◌, Every, concat_map}
use Rattle.lists.specs.Range.{range}
use Rattle.lists.proofs.List.{every_none, range_mem, mem_below, concat_map_mem, mem_concat_map, mem_keep, keep_mem}
use Rattle.lists.proofs.Reflect.{Reflect, r_eq, r_and, r_either, r_not, r_iff, r_all_of}
use Rattle.heap.specs.Place.{cell}
use Rattle.heap.specs.Value.{below, equals}
use Rattle.heap.proofs.Codes.{CellOf, by_number}
use Rattle.facts.specs.Facts.{Fact, Closure, given, Listed, Follows, FactOf, FactsOf, has, entry, table, among, under, over, add_below, add_equal, added, follows?, close, consistent}
use Rattle.facts.specs.Laws.{Laws, Plus}
use Rattle.facts.proofs.Adding.{closure_laws, renamed_laws, least, Among, Under, Over, AddBelow, AddEqual, Added, added_more, added_derived, derived_added}

-- ---- what follows from a list

-- what a relation with the laws has of the facts of a list it has of all that follows from them
pub lawful : (l : List Fact) (R : ℕ → ℕ → ℕ → Type 0) → Laws R → Every (λ t. R t.kind t.left t.right) l → {k p q : ℕ} → Follows l k p q → R k p q
lawful l R w h = least (Listed l) R w (λ k p q m. h _ m)

-- both cells are as P says
pub both_laws : (P : ℕ → Type 0) → Laws (λ k p q. P p × P q)
both_laws P =
    record {
      self_left = λ _ _ _ i. (i.0, i.0);
      self_right = λ _ _ _ i. (i.1, i.1);
      flip = λ _ _ i. (i.1, i.0);
      same = λ _ _ _ _ i j. (i.0, j.1);
      less = λ _ _ _ i j. (i.0, j.1);
      less_same = λ _ _ _ i j. (i.0, j.1);
    }

-- what follows from a list, of the images
pub follows_laws : (l : List Fact) (f : ℕ → ℕ) → Laws (λ k p q. Follows l k (f p) (f q))
follows_laws l f = renamed_laws (Follows l) (closure_laws (Listed l)) f

-- a fact more in front of a list
abbrev More : Fact → List Fact → ℕ → ℕ → ℕ → Type 0
More t ts = Plus (Follows ts) t.kind t.left t.right

more_follows : (t : Fact) (ts : List Fact) {k p q : ℕ} → Closure (More t ts) k p q → Follows (t ∷ ts) k p q
more_follows t ts = least (More t ts) (Follows (t ∷ ts)) (closure_laws (Listed (t ∷ ts))) each
  where
    each : (k p q : ℕ) → More t ts k p q → Follows (t ∷ ts) k p q
    each k p q (inl i) = lawful ts (Follows (t ∷ ts)) (closure_laws (Listed (t ∷ ts))) (λ u m. given (Memᴰ.tail m)) i
    each k p q (inr (a, (b, c))) =
        given (Memᴰ.head (λ i. record { kind = a i; left = b i; right = c i }))

follows_more : (t : Fact) (ts : List Fact) {k p q : ℕ} → Follows (t ∷ ts) k p q → Closure (More t ts) k p q
follows_more t ts = lawful (t ∷ ts) (Closure (More t ts)) (closure_laws (More t ts)) (λ u m. each u (Memᴰ.cases_cons m))
  where
    each : (u : Fact) → (u ≡ t) ⊎ (u ∈ ts) → Closure (More t ts) u.kind u.left u.right
    each u (inl e) = given (inr (ap (λ x. x.kind) e, (ap (λ x. x.left) e, ap (λ x. x.right) e)))
    each u (inr m) = given (inl (given m))

-- ---- the tests

pub r_has : (l : List Fact) (k p q : ℕ) → Reflect (record { kind = k; left = p; right = q } ∈ l) (has l k p q)
r_has [] k p q = record { holds = λ t. absurd t; tests = λ m. absurd (Memᴰ.not-nil m) }
r_has (t ∷ ts) k p q = r_iff in_list parts (r_either (r_and (r_eq t.kind k) (r_and (r_eq t.left p) (r_eq t.right q))) (r_has ts k p q))
  where
    fact : Fact
    fact = record { kind = k; left = p; right = q }

    in_list : ((t.kind ≡ k) × ((t.left ≡ p) × (t.right ≡ q))) ⊎ (fact ∈ ts) → fact ∈ (t ∷ ts)
    in_list (inl (a, (b, c))) = Memᴰ.head (λ i. record { kind = sym a i; left = sym b i; right = sym c i })
    in_list (inr m) = Memᴰ.tail m

    parts : fact ∈ (t ∷ ts) → ((t.kind ≡ k) × ((t.left ≡ p) × (t.right ≡ q))) ⊎ (fact ∈ ts)
    parts (Memᴰ.head e) = inl (sym (ap (λ x. x.kind) e), (sym (ap (λ x. x.left) e), sym (ap (λ x. x.right) e)))
    parts (Memᴰ.tail m) = inr m

-- the closed facts R, as the test E
module _ {R : ℕ → ℕ → ℕ → Type 0} {E : ℕ → ℕ → ℕ → Bool} (r : (k p q : ℕ) → Reflect (R k p q) (E k p q)) (c d : ℕ) where
  r_below : (k p q : ℕ) → Reflect (AddBelow R c d k p q) (add_below E c d k p q)
  r_below zero p q =
      r_either (r below p q)
      (r_and (r_either (r_eq p c) (r_either (r equals p c) (r below p c))) (r_either (r_eq d q) (r_either (r equals d q) (r below d q))))
  r_below (suc zero) p q = r_either (r equals p q) (r_and (r_eq p q) (r_either (r_eq p c) (r_eq p d)))
  r_below (suc (suc k)) p q = record { holds = λ t. t; tests = λ t. t }

  r_among : (p : ℕ) → Reflect (Among R c d p) (among E c d p)
  r_among p = r_either (r_either (r_eq p c) (r_eq p d)) (r_either (r equals p c) (r equals p d))

  r_under : (p : ℕ) → Reflect (Under R c d p) (under E c d p)
  r_under p = r_either (r below p c) (r below p d)

  r_over : (q : ℕ) → Reflect (Over R c d q) (over E c d q)
  r_over q = r_either (r below c q) (r below d q)

  r_equal : (k p q : ℕ) → Reflect (AddEqual R c d k p q) (add_equal E c d k p q)
  r_equal zero p q =
      r_either (r below p q)
      (r_and (r_either (r_among p) (r_under p))
      (r_and (r_either (r_among q) (r_over q)) (r_either (r_under p) (r_either (r_over q) (r_either (r_over c) (r_over d))))))
  r_equal (suc zero) p q = r_either (r equals p q) (r_and (r_among p) (r_among q))
  r_equal (suc (suc k)) p q = record { holds = λ t. t; tests = λ t. t }

  r_added : (k₀ k p q : ℕ) → Reflect (Added R k₀ c d k p q) (added E k₀ c d k p q)
  r_added zero = r_below
  r_added (suc zero) = r_equal
  r_added (suc (suc k₀)) = r

-- ---- the table of a test

table_mem : (n : ℕ) (E : ℕ → ℕ → ℕ → Bool) (t : Fact) → t ∈ table n E → T (E t.kind t.left t.right) × FactOf n t
table_mem n E t m =
    let (k, km, m₁) = concat_map_mem (λ k. concat_map (λ i. concat_map (entry E k i) (range 0 n)) (range 0 n)) (range 0 2) t m in
    let (i, im, m₂) = concat_map_mem (λ i. concat_map (entry E k i) (range 0 n)) (range 0 n) t m₁ in
    let (j, jm, m₃) = concat_map_mem (entry E k i) (range 0 n) t m₂ in
    let (d, z) = keep_mem (E k (cell i) (cell j)) (record { kind = k; left = cell i; right = cell j }) t m₃ in
    let (_, bk) = range_mem 0 2 k km in
    let (_, bi) = range_mem 0 n i im in
    let (_, bj) = range_mem 0 n j jm in
    subst (λ (t : Fact). T (E t.kind t.left t.right) × FactOf n t) (sym z) (d, (omega arith, (omega arith, omega arith), (omega arith, omega arith)))

mem_table : (n : ℕ) (E : ℕ → ℕ → ℕ → Bool) (k p q : ℕ) → k < 2 → CellOf n p → CellOf n q → T (E k p q) → record { kind = k; left = p; right = q } ∈ table n E
mem_table n E k p q b kp kq =
    by_number n (λ p. T (E k p q) → record { kind = k; left = p; right = q } ∈ table n E)
    (λ i bi.
    by_number n (λ q. T (E k (cell i) q) → record { kind = k; left = cell i; right = q } ∈ table n E)
    (λ j bj t.
    mem_concat_map (λ k. concat_map (λ i. concat_map (entry E k i) (range 0 n)) (range 0 n)) _ (mem_below 2 k b)
    (mem_concat_map (λ i. concat_map (entry E k i) (range 0 n)) _ (mem_below n i bi)
    (mem_concat_map (entry E k i) _ (mem_below n j bj) (mem_keep (E k (cell i) (cell j)) _ t)))) q kq) p kp

-- ---- the closed facts

-- nothing follows from no facts
pub none_follows : {k p q : ℕ} → ¬ Follows [] k p q
none_follows i = lawful [] (λ k p q. ⊥) none (every_none _) i
  where
    none : Laws (λ k p q. ⊥)
    none = record { self_left = λ _ _ _ i. i; self_right = λ _ _ _ i. i; flip = λ _ _ i. i; same = λ _ _ _ _ i _. i; less = λ _ _ _ i _. i; less_same = λ _ _ _ i _. i }

pub close_cells : (n : ℕ) (l : List Fact) → FactsOf n (close n l)
close_cells n [] t m = absurd (Memᴰ.not-nil m)
close_cells n (t ∷ ts) u m = (table_mem n (added (has (close n ts)) t.kind t.left t.right) u m).1

-- each of them follows
pub close_follows : (n : ℕ) (l : List Fact) (t : Fact) → t ∈ close n l → Follows l t.kind t.left t.right
close_follows n [] t m = absurd (Memᴰ.not-nil m)
close_follows n (t ∷ ts) u m = go (λ v. close_follows n ts v)
  where
    E : ℕ → ℕ → ℕ → Bool
    E = has (close n ts)

    R : ℕ → ℕ → ℕ → Type 0
    R = Listed (close n ts)

    go : ((v : Fact) → v ∈ close n ts → Follows ts v.kind v.left v.right) → Follows (t ∷ ts) u.kind u.left u.right
    go ih =
        more_follows t ts
        (added_derived (Follows ts) (closure_laws (Listed ts)) t.left t.right t.kind u.kind u.left u.right
        (added_more R (Follows ts) (λ k p q i. ih (record { kind = k; left = p; right = q }) i) t.left t.right t.kind u.kind u.left u.right
        ((r_added (r_has (close n ts)) t.left t.right t.kind u.kind u.left u.right
        ).holds (table_mem n (added E t.kind t.left t.right) u m).0)))

-- only kinds 0 and 1 follow, and only of the n cells
follows_of : (n : ℕ) (l : List Fact) → FactsOf n l → (k p q : ℕ) → Follows l k p q → FactOf n (record { kind = k; left = p; right = q })
follows_of n l h k p q i = lawful l (λ k p q. FactOf n (record { kind = k; left = p; right = q })) laws h i
  where
    laws : Laws (λ k p q. FactOf n (record { kind = k; left = p; right = q }))
    laws =
        record {
          self_left = λ _ _ _ (_, a, _). (omega arith, a, a);
          self_right = λ _ _ _ (_, _, b). (omega arith, b, b);
          flip = λ _ _ (_, a, b). (omega arith, b, a);
          same = λ _ _ _ _ (_, a, _) (k, _, c). (k, a, c);
          less = λ _ _ _ (k, a, _) (_, _, c). (k, a, c);
          less_same = λ _ _ _ (k, a, _) (_, _, c). (k, a, c);
        }

-- the computed closure is exact
pub closure_reflects : (l : List Fact) (n : ℕ) → FactsOf n l → (k p q : ℕ) → Reflect (Follows l k p q) (follows? n l k p q)
closure_reflects [] n h k p q = record { holds = λ t. absurd t; tests = none_follows }
closure_reflects (t ∷ ts) n h k p q = go (closure_reflects ts n (λ u m. h u (Memᴰ.tail m)))
  where
    E : ℕ → ℕ → ℕ → Bool
    E = added (has (close n ts)) t.kind t.left t.right

    small : t.kind < 2
    small = (h t (Memᴰ.head refl)).0

    earlier : FactsOf n ts
    earlier u m = h u (Memᴰ.tail m)

    go : ((k p q : ℕ) → Reflect (Follows ts k p q) (follows? n ts k p q)) → Reflect (Follows (t ∷ ts) k p q) (follows? n (t ∷ ts) k p q)
    go r =
        record {
          holds = λ z. close_follows n (t ∷ ts) _ ((r_has (close n (t ∷ ts)) k p q).holds z);
          tests = λ i.
              let (b, kp, kq) = follows_of n (t ∷ ts) h k p q i in
              (r_has (table n E) k p q
              ).tests (mem_table n E k p q b kp kq
              ((r_added r t.left t.right t.kind k p q
              ).tests (derived_added (Follows ts) (closure_laws (Listed ts)) t.left t.right kinds t.kind small k p q (follows_more t ts i))));
        }
      where
        kinds : (k p q : ℕ) → Follows ts k p q → k < 2
        kinds k p q i = (follows_of n ts earlier k p q i).0

-- what follows puts no cell below itself, so the closed facts do not
pub close_consistent : (n : ℕ) (l : List Fact) → ((p : ℕ) → ¬ Follows l below p p) → T (consistent (close n l))
close_consistent n l h =
    (r_all_of {P = λ t. ¬ ((t.kind ≡ below) × (t.left ≡ t.right))} (λ t. not (eqb t.kind below && eqb t.left t.right)) (close n l)
    (λ t. r_not (r_and (r_eq t.kind below) (r_eq t.left t.right)))
    ).tests (λ t m (a, b). h t.left (subst₂ (λ k q. Follows l k t.left q) a (sym b) (close_follows n l t m)))
