-- Rows with one fact more: they have exactly what follows from the facts before and the new one, and a clash is told before it is added.
use mathlib.Core.Bool.{not, cond}
use mathlib.Core.List.{List}
use mathlib.Core.Logic.{◌⊎◌, inl, inr}
use mathlib.Core.Path.{◌≡◌, refl, sym, subst}
use Prim.Native.Nat.{ℕ, zero, suc, ◌+◌, ◌-◌, ◌<◌}
use native.Mathlib.Omega.{arith}
use borrow.Author.Tests.{lt-ltb, le-ltb}
use lib.Bits.{bit_or}
use lib.ListN.{get_or}
use Rattle.lists.proofs.Reflect.{Reflect, r_eq, r_either, r_not, r_iff}
use Rattle.facts.specs.Facts.{Closure}
use Rattle.facts.specs.Laws.{Laws, Plus, Consistent, Alike}
use Rattle.facts.proofs.Adding.{Le, Among, Under, Over, Loop, AddBelow, AddEqual, Added, Clash, added_laws, added_derived, derived_added, alike_laws, clash_below, below_clash}
use Rattle.factrows.specs.Rows.{on, either_on, FactsIn, self_at, self_rows, up_of, below_row, below_at, below_rows, class_of, over_of, some_of, equal_row, equal_at, equal_rows, class_row, class_at, class_rows, with_kind, with_fact, clash_of, clashing}
use Rattle.factrows.proofs.Reading.{decided, Says, r_says, says_iff, says_bit, says_or, says_cond, says_joined, says_below, says_equal, facts_kinds, Inside, rows_facts}
use Rattle.factrows.proofs.Turning.{row_read}

-- a row that is another
says_same : {x y q : ℕ} {P : Type 0} → x ≡ y → Says y q P → Says x q P
says_same {q = q} {P = P} e r = subst (λ (z : ℕ). Says z q P) (sym e) r

-- ---- c is put below d

-- a row with the fact that c equals itself
says_self : (l : List ℕ) (c j q : ℕ) {P : Type 0} → j < 28 → Says (get_or l j 0) q P → Says (get_or (self_rows c l) j 0) q (P ⊎ ((j ≡ 14 + c) × (q ≡ c)))
unfolding self_at
says_self l c j q h r = says_same (row_read (self_at c l) j h) (says_joined (r_eq j (14 + c)) r (says_bit c q))

module _ (l : List ℕ) (c d : ℕ) (hc : c < 14) (hd : d < 14) where
  -- both cells equal themselves
  abbrev own : List ℕ
  own = self_rows d (self_rows c l)

  -- equal, or one of the two and itself
  abbrev OwnEqual : ℕ → ℕ → Type 0
  OwnEqual p q = FactsIn l 1 p q ⊎ ((p ≡ q) × ((p ≡ c) ⊎ (p ≡ d)))

  module _ (p q : ℕ) (hp : p < 14) (hq : q < 14) where
    own_below : Says (get_or own p 0) q (FactsIn l 0 p q)
    own_below = says_iff out (λ f. inl (inl f)) (says_self (self_rows c l) d p q (omega arith) (says_self l c p q (omega arith) (says_below l p q hp hq)))
      where
        out : (FactsIn l 0 p q ⊎ ((p ≡ 14 + c) × (q ≡ c))) ⊎ ((p ≡ 14 + d) × (q ≡ d)) → FactsIn l 0 p q
        out (inl (inl f)) = f
        out (inl (inr (e, _))) = absurd (omega arith)
        out (inr (e, _)) = absurd (omega arith)

    own_equal : Says (get_or own (14 + p) 0) q (OwnEqual p q)
    own_equal =
        says_iff out back (says_self (self_rows c l) d (14 + p) q (omega arith) (says_self l c (14 + p) q (omega arith) (says_equal l p q hp hq)))
      where
        out : (FactsIn l 1 p q ⊎ ((14 + p ≡ 14 + c) × (q ≡ c))) ⊎ ((14 + p ≡ 14 + d) × (q ≡ d)) → OwnEqual p q
        out (inl (inl f)) = inl f
        out (inl (inr (e, z))) = inr (omega arith, inl (omega arith))
        out (inr (e, z)) = inr (omega arith, inr (omega arith))

        back : OwnEqual p q → (FactsIn l 1 p q ⊎ ((14 + p ≡ 14 + c) × (q ≡ c))) ⊎ ((14 + p ≡ 14 + d) × (q ≡ d))
        back (inl f) = inl (inl f)
        back (inr (e, inl z)) = inl (inr (omega arith, omega arith))
        back (inr (e, inr z)) = inr (omega arith, omega arith)

    -- the two rows of a cell together; c and d themselves are in them
    own_both : (p ≡ q → (p ≡ c) ⊎ (p ≡ d)) → Says (bit_or (get_or own p 0) (get_or own (14 + p) 0)) q (Le (FactsIn l) p q)
    own_both near = says_iff out back (says_or own_below own_equal)
      where
        out : FactsIn l 0 p q ⊎ OwnEqual p q → Le (FactsIn l) p q
        out (inl f) = inr (inr f)
        out (inr (inl f)) = inr (inl f)
        out (inr (inr (e, _))) = inl e

        back : Le (FactsIn l) p q → FactsIn l 0 p q ⊎ OwnEqual p q
        back (inl e) = inr (inr (e, near e))
        back (inr (inl f)) = inr (inl f)
        back (inr (inr f)) = inl f

  below_facts : Alike (FactsIn (below_rows c d own)) (AddBelow (FactsIn l) c d)
  unfolding below_at below_row up_of
  below_facts = rows_facts (below_at c d own) (AddBelow (FactsIn l) c d) inside low high
    where
      le_left : (p : ℕ) → Le (FactsIn l) p c → p < 14
      le_left p (inl e) = omega arith
      le_left p (inr (inl f)) = f.1.0
      le_left p (inr (inr f)) = f.1.0

      le_right : (q : ℕ) → Le (FactsIn l) d q → q < 14
      le_right q (inl e) = omega arith
      le_right q (inr (inl f)) = f.1.1.0
      le_right q (inr (inr f)) = f.1.1.0

      inside : Inside (AddBelow (FactsIn l) c d)
      inside zero p q (inl f) = (omega arith, (f.1.0, f.1.1.0))
      inside zero p q (inr (a, b)) = (omega arith, (le_left p a, le_right q b))
      inside (suc zero) p q (inl f) = (omega arith, (f.1.0, f.1.1.0))
      inside (suc zero) p q (inr (e, inl z)) = (omega arith, (omega arith, omega arith))
      inside (suc zero) p q (inr (e, inr z)) = (omega arith, (omega arith, omega arith))
      inside (suc (suc k)) p q a = absurd a

      low : (p q : ℕ) → p < 14 → q < 14 → Says (below_at c d own p) q (AddBelow (FactsIn l) c d 0 p q)
      low p q hp hq =
          rw (lt-ltb p 14 hp)
          (says_joined (r_says (own_both p c hp hc (λ e. inl e))) (own_below p q hp hq) (own_both d q hd hq (λ e. inr refl)))

      high : (p q : ℕ) → p < 14 → q < 14 → Says (below_at c d own (14 + p)) q (AddBelow (FactsIn l) c d 1 p q)
      high p q hp hq = rw (le-ltb (14 + p) 14 (omega arith)) (own_equal p q hp hq)

-- ---- c and d are put equal

module _ (l : List ℕ) (c d : ℕ) (hc : c < 14) (hd : d < 14) where
  says_over : (q : ℕ) → q < 14 → Says (over_of l c d) q (Over (FactsIn l) c d q)
  unfolding over_of
  says_over q hq = says_or (says_below l c q hc hq) (says_below l d q hd hq)

  r_loop : Reflect (Loop (FactsIn l) c d) (clash_of l 1 c d)
  r_loop = r_either (r_says (says_over c hc)) (r_says (says_over d hd))

  module _ (w : Laws (FactsIn l)) where
    says_class : (q : ℕ) → q < 14 → Says (class_of l c d) q (Among (FactsIn l) c d q)
    unfolding class_of
    says_class q hq = says_iff out back (says_or (says_or (says_equal l c q hc hq) (says_equal l d q hd hq)) (says_or (says_bit c q) (says_bit d q)))
      where
        out : (FactsIn l 1 c q ⊎ FactsIn l 1 d q) ⊎ ((q ≡ c) ⊎ (q ≡ d)) → Among (FactsIn l) c d q
        out (inl (inl f)) = inr (inl (w.flip c q f))
        out (inl (inr f)) = inr (inr (w.flip d q f))
        out (inr e) = inl e

        back : Among (FactsIn l) c d q → (FactsIn l 1 c q ⊎ FactsIn l 1 d q) ⊎ ((q ≡ c) ⊎ (q ≡ d))
        back (inl e) = inr e
        back (inr (inl f)) = inl (inl (w.flip q c f))
        back (inr (inr f)) = inl (inr (w.flip q d f))

    says_some : (q : ℕ) → q < 14 → Says (some_of (class_of l c d) (over_of l c d) c d) q (Over (FactsIn l) c d q ⊎ (Loop (FactsIn l) c d × Among (FactsIn l) c d q))
    unfolding some_of
    says_some q hq = says_joined r_loop (says_over q hq) (says_class q hq)

    -- the rows of below: of a cell that is below c or d, of one in their class, of others
    says_row : (p q : ℕ) → p < 14 → q < 14
        → Says (equal_row (get_or l p 0) p c d (class_of l c d) (bit_or (over_of l c d) (class_of l c d)) (some_of (class_of l c d) (over_of l c d) c d)) q (AddEqual (FactsIn l) c d 0 p q)
    unfolding equal_row
    says_row p q hp hq = says_iff out back (says_cond upper lower under)
      where
        under : Reflect (Under (FactsIn l) c d p) (either_on (get_or l p 0) c d)
        under = r_either (r_says (says_below l p c hp hc)) (r_says (says_below l p d hp hd))

        upper : Says (bit_or (get_or l p 0) (bit_or (over_of l c d) (class_of l c d))) q (FactsIn l 0 p q ⊎ (Over (FactsIn l) c d q ⊎ Among (FactsIn l) c d q))
        upper = says_or (says_below l p q hp hq) (says_or (says_over q hq) (says_class q hq))

        Lower : Type 0
        Lower = FactsIn l 0 p q ⊎ (Among (FactsIn l) c d p × (Over (FactsIn l) c d q ⊎ (Loop (FactsIn l) c d × Among (FactsIn l) c d q)))

        lower : Says (cond (on (class_of l c d) p) (bit_or (get_or l p 0) (some_of (class_of l c d) (over_of l c d) c d)) (get_or l p 0)) q Lower
        lower = says_joined (r_says (says_class p hp)) (says_below l p q hp hq) (says_some q hq)

        Both : Type 0
        Both = (Under (FactsIn l) c d p × (FactsIn l 0 p q ⊎ (Over (FactsIn l) c d q ⊎ Among (FactsIn l) c d q))) ⊎ ((¬ Under (FactsIn l) c d p) × Lower)

        out : Both → AddEqual (FactsIn l) c d 0 p q
        out (inl (u, inl f)) = inl f
        out (inl (u, inr (inl o))) = inr (inr u, (inr o, inl u))
        out (inl (u, inr (inr a))) = inr (inr u, (inl a, inl u))
        out (inr (n, inl f)) = inl f
        out (inr (n, inr (a, inl o))) = inr (inl a, (inr o, inr (inl o)))
        out (inr (n, inr (a, inr (z, b)))) = inr (inl a, (inl b, inr (inr z)))

        swap : Among (FactsIn l) c d q ⊎ Over (FactsIn l) c d q → Over (FactsIn l) c d q ⊎ Among (FactsIn l) c d q
        swap (inl a) = inr a
        swap (inr o) = inl o

        -- of a cell in the class
        inner : (¬ Under (FactsIn l) c d p) → Among (FactsIn l) c d p ⊎ Under (FactsIn l) c d p → Among (FactsIn l) c d q ⊎ Over (FactsIn l) c d q
            → Under (FactsIn l) c d p ⊎ (Over (FactsIn l) c d q ⊎ Loop (FactsIn l) c d) → Lower
        inner n (inr u) b s = absurd (n u)
        inner n (inl a) b (inl u) = absurd (n u)
        inner n (inl a) b (inr (inl o)) = inr (a, inl o)
        inner n (inl a) (inl m) (inr (inr z)) = inr (a, inr (z, m))
        inner n (inl a) (inr o) (inr (inr z)) = inr (a, inl o)

        back : AddEqual (FactsIn l) c d 0 p q → Both
        back i = go (decided under) i
          where
            go : Under (FactsIn l) c d p ⊎ (¬ Under (FactsIn l) c d p) → AddEqual (FactsIn l) c d 0 p q → Both
            go (inl u) (inl f) = inl (u, inl f)
            go (inl u) (inr (a, (b, s))) = inl (u, inr (swap b))
            go (inr n) (inl f) = inr (n, inl f)
            go (inr n) (inr (a, (b, s))) = inr (n, inner n a b s)

    equal_facts : Alike (FactsIn (class_rows (class_of l c d) (equal_rows c d l))) (AddEqual (FactsIn l) c d)
    unfolding class_at equal_at class_row
    equal_facts = rows_facts (class_at (class_of l c d) (equal_rows c d l)) (AddEqual (FactsIn l) c d) inside low high
      where
        among_cell : (p : ℕ) → Among (FactsIn l) c d p → p < 14
        among_cell p (inl (inl e)) = omega arith
        among_cell p (inl (inr e)) = omega arith
        among_cell p (inr (inl f)) = f.1.0
        among_cell p (inr (inr f)) = f.1.0

        left_cell : (p : ℕ) → Among (FactsIn l) c d p ⊎ Under (FactsIn l) c d p → p < 14
        left_cell p (inl f) = among_cell p f
        left_cell p (inr (inl f)) = f.1.0
        left_cell p (inr (inr f)) = f.1.0

        right_cell : (q : ℕ) → Among (FactsIn l) c d q ⊎ Over (FactsIn l) c d q → q < 14
        right_cell q (inl f) = among_cell q f
        right_cell q (inr (inl f)) = f.1.1.0
        right_cell q (inr (inr f)) = f.1.1.0

        inside : Inside (AddEqual (FactsIn l) c d)
        inside zero p q (inl f) = (omega arith, (f.1.0, f.1.1.0))
        inside zero p q (inr (a, (b, s))) = (omega arith, (left_cell p a, right_cell q b))
        inside (suc zero) p q (inl f) = (omega arith, (f.1.0, f.1.1.0))
        inside (suc zero) p q (inr (a, b)) = (omega arith, (among_cell p a, among_cell q b))
        inside (suc (suc k)) p q a = absurd a

        low : (p q : ℕ) → p < 14 → q < 14 → Says (class_at (class_of l c d) (equal_rows c d l) p) q (AddEqual (FactsIn l) c d 0 p q)
        low p q hp hq = rw (lt-ltb p 14 hp, row_read (equal_at c d l) p (omega arith), lt-ltb p 14 hp) (says_row p q hp hq)

        high : (p q : ℕ) → p < 14 → q < 14 → Says (class_at (class_of l c d) (equal_rows c d l) (14 + p)) q (AddEqual (FactsIn l) c d 1 p q)
        high p q hp hq =
            let e : 14 + p - 14 ≡ p = omega arith in
            rw (le-ltb (14 + p) 14 (omega arith), row_read (equal_at c d l) (14 + p) (omega arith), le-ltb (14 + p) 14 (omega arith), e)
            (says_joined (r_says (says_class p hp)) (says_equal l p q hp hq) (says_class q hq))

-- ---- THE LAW OF ONE FACT MORE

module _ (l : List ℕ) (w : Laws (FactsIn l)) (k₀ c d : ℕ) (hc : c < 14) (hd : d < 14) where
  with_kind_lem : (k₀ : ℕ) → Alike (FactsIn (with_kind l k₀ c d)) (Added (FactsIn l) k₀ c d)
  with_kind_lem zero = below_facts l c d hc hd
  with_kind_lem (suc zero) = equal_facts l c d hc hd w
  with_kind_lem (suc (suc k)) = λ k p q. (λ f. f, λ f. f)

  -- the rows' facts by cases
  with_added : Alike (FactsIn (with_fact l k₀ c d)) (Added (FactsIn l) k₀ c d)
  with_added = rw (lt-ltb c 14 hc, lt-ltb d 14 hd) (with_kind_lem k₀)

  pub with_laws : Laws (FactsIn (with_fact l k₀ c d))
  with_laws = alike_laws (FactsIn (with_fact l k₀ c d)) (Added (FactsIn l) k₀ c d) with_added (added_laws (FactsIn l) w c d k₀)

  -- the facts before and the new one, closed
  pub with_closure : k₀ < 2 → Alike (FactsIn (with_fact l k₀ c d)) (Closure (Plus (FactsIn l) k₀ c d))
  with_closure b k p q = (
    λ f. added_derived (FactsIn l) w c d k₀ k p q ((with_added k p q).0 f),
    λ f. (with_added k p q).1 (derived_added (FactsIn l) w c d (facts_kinds l) k₀ b k p q f),
  )

  r_clash_of : (k₀ : ℕ) → Reflect (Clash (FactsIn l) k₀ c d) (clash_of l k₀ c d)
  unfolding up_of
  r_clash_of zero = r_iff out back (r_either (r_eq d c) (r_says (says_or (says_below l d c hd hc) (says_equal l d c hd hc))))
    where
      out : (d ≡ c) ⊎ (FactsIn l 0 d c ⊎ FactsIn l 1 d c) → Le (FactsIn l) d c
      out (inl e) = inl e
      out (inr (inl f)) = inr (inr f)
      out (inr (inr f)) = inr (inl f)

      back : Le (FactsIn l) d c → (d ≡ c) ⊎ (FactsIn l 0 d c ⊎ FactsIn l 1 d c)
      back (inl e) = inl e
      back (inr (inl f)) = inr (inr f)
      back (inr (inr f)) = inr (inl f)
  r_clash_of (suc zero) = r_loop l c d hc hd
  r_clash_of (suc (suc k)) = record { holds = λ t. t; tests = λ t. t }

  clash_read : Reflect (Clash (FactsIn l) k₀ c d) (clashing l k₀ c d)
  clash_read = rw (lt-ltb c 14 hc, lt-ltb d 14 hd) (r_clash_of k₀)

  -- told before anything is added: from consistent facts, the new ones are consistent exactly if there is no clash
  pub clash_reflects : Consistent (FactsIn l) → Reflect (Consistent (FactsIn (with_fact l k₀ c d))) (not (clashing l k₀ c d))
  clash_reflects ok =
      r_iff (λ n p f. n (clash_below (FactsIn l) w c d ok k₀ p ((with_added 0 p p).0 f))) (λ h z. h c ((with_added 0 c c).1 (below_clash (FactsIn l) w c d k₀ z)))
      (r_not clash_read)
