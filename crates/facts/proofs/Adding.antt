-- The closure of closed facts and one more, exactly; when the new facts put a cell below itself. Facts are relations of kind and two cells here, so that this
-- holds for any representation of them.
use mathlib.Core.Path.{◌≡◌, refl, sym, subst}
use mathlib.Core.Logic.{◌⊎◌, inl, inr}
use Prim.Native.Nat.{ℕ, zero, suc, ◌<◌}
use native.Mathlib.Omega.{arith}
use Rattle.facts.specs.Facts.{Closure, given, self_left, self_right, flip, same, less, less_same}
use Rattle.facts.specs.Laws.{Laws, Plus, Kinds, Consistent, Alike}

-- ---- what one fact more makes of closed facts

module _ (R : ℕ → ℕ → ℕ → Type 0) where
  -- the cell itself, or equal, or below
  abbrev pub Le : ℕ → ℕ → Type 0
  Le p q = (p ≡ q) ⊎ (R 1 p q ⊎ R 0 p q)

  module _ (c d : ℕ) where
    -- equal to c or d
    abbrev pub Among : ℕ → Type 0
    Among p = ((p ≡ c) ⊎ (p ≡ d)) ⊎ (R 1 p c ⊎ R 1 p d)

    -- below c or d; above c or d
    abbrev pub Under : ℕ → Type 0
    Under p = R 0 p c ⊎ R 0 p d

    abbrev pub Over : ℕ → Type 0
    Over q = R 0 c q ⊎ R 0 d q

    -- one of c and d is below one of them
    abbrev pub Loop : Type 0
    Loop = Over c ⊎ Over d

    abbrev pub AddBelow : ℕ → ℕ → ℕ → Type 0
    AddBelow zero p q = R 0 p q ⊎ (Le p c × Le d q)
    AddBelow (suc zero) p q = R 1 p q ⊎ ((p ≡ q) × ((p ≡ c) ⊎ (p ≡ d)))
    AddBelow (suc (suc k)) p q = ⊥

    abbrev pub AddEqual : ℕ → ℕ → ℕ → Type 0
    AddEqual zero p q = R 0 p q ⊎ ((Among p ⊎ Under p) × ((Among q ⊎ Over q) × (Under p ⊎ (Over q ⊎ Loop))))
    AddEqual (suc zero) p q = R 1 p q ⊎ (Among p × Among q)
    AddEqual (suc (suc k)) p q = ⊥

-- the facts R with the fact (k₀, c, d), closed again
abbrev pub Added : (ℕ → ℕ → ℕ → Type 0) → ℕ → ℕ → ℕ → ℕ → ℕ → ℕ → Type 0
Added R zero c d = AddBelow R c d
Added R (suc zero) c d = AddEqual R c d
Added R (suc (suc k₀)) c d = R

-- the closure has the laws, and is the least such
pub closure_laws : (F : ℕ → ℕ → ℕ → Type 0) → Laws (Closure F)
closure_laws F = record {
  self_left = λ _ _ _ a. Closure.self_left a;
  self_right = λ _ _ _ a. Closure.self_right a;
  flip = λ _ _ a. Closure.flip a;
  same = λ _ _ _ _ a b. Closure.same a b;
  less = λ _ _ _ a b. Closure.less a b;
  less_same = λ _ _ _ a b. Closure.less_same a b;
}

pub least : (F S : ℕ → ℕ → ℕ → Type 0) → Laws S → ((k p q : ℕ) → F k p q → S k p q) → {k p q : ℕ} → Closure F k p q → S k p q
least F S w h (given {k = k} {p = p} {q = q} a) = h k p q a
least F S w h (self_left {k = k} {p = p} {q = q} a) = w.self_left k p q (least F S w h a)
least F S w h (self_right {k = k} {p = p} {q = q} a) = w.self_right k p q (least F S w h a)
least F S w h (flip {p = p} {q = q} a) = w.flip p q (least F S w h a)
least F S w h (same {k = k} {p = p} {q = q} {r = r} a b) = w.same k p q r (least F S w h a) (least F S w h b)
least F S w h (less {p = p} {q = q} {r = r} a b) = w.less p q r (least F S w h a) (least F S w h b)
least F S w h (less_same {p = p} {q = q} {r = r} a b) = w.less_same p q r (least F S w h a) (least F S w h b)

module _ (R : ℕ → ℕ → ℕ → Type 0) (w : Laws R) where
  le_trans : (p q r : ℕ) → Le R p q → Le R q r → Le R p r
  le_trans p q r (inl e) b = subst (λ (x : ℕ). Le R x r) (sym e) b
  le_trans p q r (inr a) (inl e) = subst (λ (x : ℕ). Le R p x) e (inr a)
  le_trans p q r (inr (inl a)) (inr (inl b)) = inr (inl (w.same 1 p q r a b))
  le_trans p q r (inr (inl a)) (inr (inr b)) = inr (inr (w.same 0 p q r a b))
  le_trans p q r (inr (inr a)) (inr (inl b)) = inr (inr (w.less_same p q r a b))
  le_trans p q r (inr (inr a)) (inr (inr b)) = inr (inr (w.less p q r a b))

  module _ (c d : ℕ) where
    -- ---- the new fact is below
    le_left : (p : ℕ) → Le R p c → AddBelow R c d 1 p p
    le_left p (inl e) = inr (refl, inl e)
    le_left p (inr (inl a)) = inl (w.self_left 1 p c a)
    le_left p (inr (inr a)) = inl (w.self_left 0 p c a)

    le_right : (q : ℕ) → Le R d q → AddBelow R c d 1 q q
    le_right q (inl e) = inr (refl, inr (sym e))
    le_right q (inr (inl a)) = inl (w.self_right 1 d q a)
    le_right q (inr (inr a)) = inl (w.self_right 0 d q a)

    below_laws : Laws (AddBelow R c d)
    below_laws = record { self_left = sl; self_right = sr; flip = fl; same = sm; less = ls; less_same = lq }
      where
        sl : (k p q : ℕ) → AddBelow R c d k p q → AddBelow R c d 1 p p
        sl zero p q (inl a) = inl (w.self_left 0 p q a)
        sl zero p q (inr (a, b)) = le_left p a
        sl (suc zero) p q (inl a) = inl (w.self_left 1 p q a)
        sl (suc zero) p q (inr (e, m)) = inr (refl, m)
        sl (suc (suc k)) p q a = absurd a

        sr : (k p q : ℕ) → AddBelow R c d k p q → AddBelow R c d 1 q q
        sr zero p q (inl a) = inl (w.self_right 0 p q a)
        sr zero p q (inr (a, b)) = le_right q b
        sr (suc zero) p q (inl a) = inl (w.self_right 1 p q a)
        sr (suc zero) p q (inr (e, m)) = inr (refl, subst (λ (x : ℕ). (x ≡ c) ⊎ (x ≡ d)) e m)
        sr (suc (suc k)) p q a = absurd a

        fl : (p q : ℕ) → AddBelow R c d 1 p q → AddBelow R c d 1 q p
        fl p q (inl a) = inl (w.flip p q a)
        fl p q (inr (e, m)) = inr (sym e, subst (λ (x : ℕ). (x ≡ c) ⊎ (x ≡ d)) e m)

        sm : (k p q r : ℕ) → AddBelow R c d 1 p q → AddBelow R c d k q r → AddBelow R c d k p r
        sm zero p q r (inl a) (inl b) = inl (w.same 0 p q r a b)
        sm zero p q r (inl a) (inr (b, b')) = inr (le_trans p q c (inr (inl a)) b, b')
        sm zero p q r (inr (e, m)) (inl b) = subst (λ (x : ℕ). AddBelow R c d 0 x r) (sym e) (inl b)
        sm zero p q r (inr (e, m)) (inr b) = subst (λ (x : ℕ). AddBelow R c d 0 x r) (sym e) (inr b)
        sm (suc zero) p q r (inl a) (inl b) = inl (w.same 1 p q r a b)
        sm (suc zero) p q r (inl a) (inr (e, m)) = inl (subst (λ (x : ℕ). R 1 p x) e a)
        sm (suc zero) p q r (inr (e, m)) (inl b) = subst (λ (x : ℕ). AddBelow R c d 1 x r) (sym e) (inl b)
        sm (suc zero) p q r (inr (e, m)) (inr b) = subst (λ (x : ℕ). AddBelow R c d 1 x r) (sym e) (inr b)
        sm (suc (suc k)) p q r a b = absurd b

        ls : (p q r : ℕ) → AddBelow R c d 0 p q → AddBelow R c d 0 q r → AddBelow R c d 0 p r
        ls p q r (inl a) (inl b) = inl (w.less p q r a b)
        ls p q r (inl a) (inr (b, b')) = inr (le_trans p q c (inr (inr a)) b, b')
        ls p q r (inr (a, a')) (inl b) = inr (a, le_trans d q r a' (inr (inr b)))
        ls p q r (inr (a, a')) (inr (b, b')) = inr (a, b')

        lq : (p q r : ℕ) → AddBelow R c d 0 p q → AddBelow R c d 1 q r → AddBelow R c d 0 p r
        lq p q r (inl a) (inl b) = inl (w.less_same p q r a b)
        lq p q r (inr (a, a')) (inl b) = inr (a, le_trans d q r a' (inr (inl b)))
        lq p q r (inl a) (inr (e, m)) = subst (λ (x : ℕ). AddBelow R c d 0 p x) e (inl a)
        lq p q r (inr a) (inr (e, m)) = subst (λ (x : ℕ). AddBelow R c d 0 p x) e (inr a)

    -- ---- the new fact is equal
    among_eq : (p q : ℕ) → R 1 p q → Among R c d q → Among R c d p
    among_eq p q a (inl (inl e)) = inr (inl (subst (λ (x : ℕ). R 1 p x) e a))
    among_eq p q a (inl (inr e)) = inr (inr (subst (λ (x : ℕ). R 1 p x) e a))
    among_eq p q a (inr (inl b)) = inr (inl (w.same 1 p q c a b))
    among_eq p q a (inr (inr b)) = inr (inr (w.same 1 p q d a b))

    under_eq : (p q : ℕ) → R 1 p q → Under R c d q → Under R c d p
    under_eq p q a (inl b) = inl (w.same 0 p q c a b)
    under_eq p q a (inr b) = inr (w.same 0 p q d a b)

    over_eq : (p q : ℕ) → Over R c d p → R 1 p q → Over R c d q
    over_eq p q (inl b) a = inl (w.less_same c p q b a)
    over_eq p q (inr b) a = inr (w.less_same d p q b a)

    -- below one that is equal or below; above one that is equal or above
    under_of : (p q : ℕ) → R 0 p q → Among R c d q ⊎ Under R c d q → Under R c d p
    under_of p q a (inl (inl (inl e))) = inl (subst (λ (x : ℕ). R 0 p x) e a)
    under_of p q a (inl (inl (inr e))) = inr (subst (λ (x : ℕ). R 0 p x) e a)
    under_of p q a (inl (inr (inl b))) = inl (w.less_same p q c a b)
    under_of p q a (inl (inr (inr b))) = inr (w.less_same p q d a b)
    under_of p q a (inr (inl b)) = inl (w.less p q c a b)
    under_of p q a (inr (inr b)) = inr (w.less p q d a b)

    over_of : (q r : ℕ) → Among R c d q ⊎ Over R c d q → R 0 q r → Over R c d r
    over_of q r (inl (inl (inl e))) a = inl (subst (λ (x : ℕ). R 0 x r) e a)
    over_of q r (inl (inl (inr e))) a = inr (subst (λ (x : ℕ). R 0 x r) e a)
    over_of q r (inl (inr (inl b))) a = inl (w.same 0 c q r (w.flip q c b) a)
    over_of q r (inl (inr (inr b))) a = inr (w.same 0 d q r (w.flip q d b) a)
    over_of q r (inr (inl b)) a = inl (w.less c q r b a)
    over_of q r (inr (inr b)) a = inr (w.less d q r b a)

    loop_over : (q : ℕ) → Over R c d q → Among R c d q ⊎ Under R c d q → Loop R c d
    loop_over q (inl a) b = under_loop (under_of c q a b)
      where
        under_loop : Under R c d c → Loop R c d
        under_loop (inl z) = inl (inl z)
        under_loop (inr z) = inr (inl z)
    loop_over q (inr a) b = under_loop (under_of d q a b)
      where
        under_loop : Under R c d d → Loop R c d
        under_loop (inl z) = inl (inr z)
        under_loop (inr z) = inr (inr z)

    loop_under : (q : ℕ) → Under R c d q → Among R c d q ⊎ Over R c d q → Loop R c d
    loop_under q (inl a) b = inl (over_of q c b a)
    loop_under q (inr a) b = inr (over_of q d b a)

    equal_laws : Laws (AddEqual R c d)
    equal_laws = record { self_left = sl; self_right = sr; flip = fl; same = sm; less = ls; less_same = lq }
      where
        sl : (k p q : ℕ) → AddEqual R c d k p q → AddEqual R c d 1 p p
        sl zero p q (inl a) = inl (w.self_left 0 p q a)
        sl zero p q (inr (inl a, b)) = inr (a, a)
        sl zero p q (inr (inr (inl a), b)) = inl (w.self_left 0 p c a)
        sl zero p q (inr (inr (inr a), b)) = inl (w.self_left 0 p d a)
        sl (suc zero) p q (inl a) = inl (w.self_left 1 p q a)
        sl (suc zero) p q (inr (a, b)) = inr (a, a)
        sl (suc (suc k)) p q a = absurd a

        sr : (k p q : ℕ) → AddEqual R c d k p q → AddEqual R c d 1 q q
        sr zero p q (inl a) = inl (w.self_right 0 p q a)
        sr zero p q (inr (a, (inl b, s))) = inr (b, b)
        sr zero p q (inr (a, (inr (inl b), s))) = inl (w.self_right 0 c q b)
        sr zero p q (inr (a, (inr (inr b), s))) = inl (w.self_right 0 d q b)
        sr (suc zero) p q (inl a) = inl (w.self_right 1 p q a)
        sr (suc zero) p q (inr (a, b)) = inr (b, b)
        sr (suc (suc k)) p q a = absurd a

        fl : (p q : ℕ) → AddEqual R c d 1 p q → AddEqual R c d 1 q p
        fl p q (inl a) = inl (w.flip p q a)
        fl p q (inr (a, b)) = inr (b, a)

        to_left : (p q : ℕ) → R 1 p q → Among R c d q ⊎ Under R c d q → Among R c d p ⊎ Under R c d p
        to_left p q a (inl b) = inl (among_eq p q a b)
        to_left p q a (inr b) = inr (under_eq p q a b)

        to_right : (q r : ℕ) → Among R c d q ⊎ Over R c d q → R 1 q r → Among R c d r ⊎ Over R c d r
        to_right q r (inl b) a = inl (among_eq r q (w.flip q r a) b)
        to_right q r (inr b) a = inr (over_eq q r b a)

        strict_left : (p q r : ℕ) → R 1 p q → Under R c d q ⊎ (Over R c d r ⊎ Loop R c d) → Under R c d p ⊎ (Over R c d r ⊎ Loop R c d)
        strict_left p q r a (inl b) = inl (under_eq p q a b)
        strict_left p q r a (inr b) = inr b

        strict_right : (p q r : ℕ) → Under R c d p ⊎ (Over R c d q ⊎ Loop R c d) → R 1 q r → Under R c d p ⊎ (Over R c d r ⊎ Loop R c d)
        strict_right p q r (inl b) a = inl b
        strict_right p q r (inr (inl b)) a = inr (inl (over_eq q r b a))
        strict_right p q r (inr (inr b)) a = inr (inr b)

        -- by the middle of a way
        from_left : (p q r : ℕ) → Among R c d q ⊎ Over R c d q → Under R c d q ⊎ (Over R c d r ⊎ Loop R c d) → Under R c d p ⊎ (Over R c d r ⊎ Loop R c d)
        from_left p q r b (inl z) = inr (inr (loop_under q z b))
        from_left p q r b (inr z) = inr z

        from_right : (p q r : ℕ) → Under R c d p ⊎ (Over R c d q ⊎ Loop R c d) → Among R c d q ⊎ Under R c d q → Under R c d p ⊎ (Over R c d r ⊎ Loop R c d)
        from_right p q r (inl z) b = inl z
        from_right p q r (inr (inl z)) b = inr (inr (loop_over q z b))
        from_right p q r (inr (inr z)) b = inr (inr z)

        sm : (k p q r : ℕ) → AddEqual R c d 1 p q → AddEqual R c d k q r → AddEqual R c d k p r
        sm zero p q r (inl a) (inl b) = inl (w.same 0 p q r a b)
        sm zero p q r (inl a) (inr (b, (b', s))) = inr (to_left p q a b, (b', strict_left p q r a s))
        sm zero p q r (inr (a, a')) (inl b) = let o = over_of q r (inl a') b in inr (inl a, (inr o, inr (inl o)))
        sm zero p q r (inr (a, a')) (inr (b, (b', s))) = inr (inl a, (b', from_left p q r (inl a') s))
        sm (suc zero) p q r (inl a) (inl b) = inl (w.same 1 p q r a b)
        sm (suc zero) p q r (inl a) (inr (b, b')) = inr (among_eq p q a b, b')
        sm (suc zero) p q r (inr (a, a')) (inl b) = inr (a, among_eq r q (w.flip q r b) a')
        sm (suc zero) p q r (inr (a, a')) (inr (b, b')) = inr (a, b')
        sm (suc (suc k)) p q r a b = absurd b

        ls : (p q r : ℕ) → AddEqual R c d 0 p q → AddEqual R c d 0 q r → AddEqual R c d 0 p r
        ls p q r (inl a) (inl b) = inl (w.less p q r a b)
        ls p q r (inl a) (inr (b, (b', s))) = let u = under_of p q a b in inr (inr u, (b', inl u))
        ls p q r (inr (a, (a', s))) (inl b) = let o = over_of q r a' b in inr (a, (inr o, inr (inl o)))
        ls p q r (inr (a, (a', s))) (inr (b, (b', z))) = inr (a, (b', from_right p q r s b))

        lq : (p q r : ℕ) → AddEqual R c d 0 p q → AddEqual R c d 1 q r → AddEqual R c d 0 p r
        lq p q r (inl a) (inl b) = inl (w.less_same p q r a b)
        lq p q r (inl a) (inr (b, b')) = let u = under_of p q a (inl b) in inr (inr u, (inl b', inl u))
        lq p q r (inr (a, (a', s))) (inl b) = inr (a, (to_right q r a' b, strict_right p q r s b))
        lq p q r (inr (a, (a', s))) (inr (b, b')) = inr (a, (inl b', from_right p q r s (inl b)))

    -- ---- what is added is in the closure, and nothing else is
    below_derived : (k p q : ℕ) → AddBelow R c d k p q → Closure (Plus R 0 c d) k p q
    below_derived zero p q (inl a) = given (inl a)
    below_derived zero p q (inr (a, b)) = down a (up b)
      where
        new : Closure (Plus R 0 c d) 0 c d
        new = given (inr (refl, (refl, refl)))

        up : Le R d q → Closure (Plus R 0 c d) 0 c q
        up (inl e) = subst (λ (x : ℕ). Closure (Plus R 0 c d) 0 c x) e new
        up (inr (inl z)) = less_same new (given (inl z))
        up (inr (inr z)) = less new (given (inl z))

        down : Le R p c → Closure (Plus R 0 c d) 0 c q → Closure (Plus R 0 c d) 0 p q
        down (inl e) y = subst (λ (x : ℕ). Closure (Plus R 0 c d) 0 x q) (sym e) y
        down (inr (inl z)) y = same (given (inl z)) y
        down (inr (inr z)) y = less (given (inl z)) y
    below_derived (suc zero) p q (inl a) = given (inl a)
    below_derived (suc zero) p q (inr (e, inl m)) =
        subst (λ (x : ℕ). Closure (Plus R 0 c d) 1 p x) e (subst (λ (x : ℕ). Closure (Plus R 0 c d) 1 x x) (sym m) (self_left (given (inr (refl, (refl, refl))))))
    below_derived (suc zero) p q (inr (e, inr m)) =
        subst (λ (x : ℕ). Closure (Plus R 0 c d) 1 p x) e (subst (λ (x : ℕ). Closure (Plus R 0 c d) 1 x x) (sym m) (self_right (given (inr (refl, (refl, refl))))))
    below_derived (suc (suc k)) p q a = absurd a

    module _ (k₀ : ℕ) (one : k₀ ≡ 1) where
      new_equal : Closure (Plus R k₀ c d) 1 c d
      new_equal = given (inr (sym one, (refl, refl)))

      -- c stands for the class
      to_c : (p : ℕ) → Among R c d p → Closure (Plus R k₀ c d) 1 p c
      to_c p (inl (inl e)) = subst (λ (x : ℕ). Closure (Plus R k₀ c d) 1 x c) (sym e) (self_left new_equal)
      to_c p (inl (inr e)) = subst (λ (x : ℕ). Closure (Plus R k₀ c d) 1 x c) (sym e) (flip new_equal)
      to_c p (inr (inl a)) = given (inl a)
      to_c p (inr (inr a)) = same (given (inl a)) (flip new_equal)

      under_c : (p : ℕ) → Under R c d p → Closure (Plus R k₀ c d) 0 p c
      under_c p (inl a) = given (inl a)
      under_c p (inr a) = less_same (given (inl a)) (flip new_equal)

      over_c : (q : ℕ) → Over R c d q → Closure (Plus R k₀ c d) 0 c q
      over_c q (inl a) = given (inl a)
      over_c q (inr a) = same new_equal (given (inl a))

      loop_c : Loop R c d → Closure (Plus R k₀ c d) 0 c c
      loop_c (inl a) = over_c c a
      loop_c (inr a) = less_same (over_c d a) (flip new_equal)

      equal_derived : (k p q : ℕ) → AddEqual R c d k p q → Closure (Plus R k₀ c d) k p q
      equal_derived zero p q (inl a) = given (inl a)
      equal_derived zero p q (inr (a, (b, s))) = go s
        where
          after : Closure (Plus R k₀ c d) 0 p c → Among R c d q ⊎ Over R c d q → Closure (Plus R k₀ c d) 0 p q
          after y (inl z) = less_same y (flip (to_c q z))
          after y (inr z) = less y (over_c q z)

          before : Among R c d p ⊎ Under R c d p → Closure (Plus R k₀ c d) 0 c q → Closure (Plus R k₀ c d) 0 p q
          before (inl z) y = same (to_c p z) y
          before (inr z) y = less (under_c p z) y

          round : Closure (Plus R k₀ c d) 0 c c → Among R c d p ⊎ Under R c d p → Closure (Plus R k₀ c d) 0 p c
          round y (inl z) = same (to_c p z) y
          round y (inr z) = less (under_c p z) y

          go : Under R c d p ⊎ (Over R c d q ⊎ Loop R c d) → Closure (Plus R k₀ c d) 0 p q
          go (inl z) = after (under_c p z) b
          go (inr (inl z)) = before a (over_c q z)
          go (inr (inr z)) = after (round (loop_c z) a) b
      equal_derived (suc zero) p q (inl a) = given (inl a)
      equal_derived (suc zero) p q (inr (a, b)) = same (to_c p a) (flip (to_c q b))
      equal_derived (suc (suc k)) p q a = absurd a

-- ---- the law of one fact more

module _ (R : ℕ → ℕ → ℕ → Type 0) (w : Laws R) (c d : ℕ) where
  pub added_laws : (k₀ : ℕ) → Laws (Added R k₀ c d)
  added_laws zero = below_laws R w c d
  added_laws (suc zero) = equal_laws R w c d
  added_laws (suc (suc k₀)) = w

  pub added_derived : (k₀ k p q : ℕ) → Added R k₀ c d k p q → Closure (Plus R k₀ c d) k p q
  added_derived zero = below_derived R w c d
  added_derived (suc zero) = equal_derived R w c d 1 refl
  added_derived (suc (suc k₀)) = λ k p q a. given (inl a)

  old : Kinds R → (k₀ k p q : ℕ) → R k p q → Added R k₀ c d k p q
  old kinds zero zero p q a = inl a
  old kinds zero (suc zero) p q a = inl a
  old kinds zero (suc (suc k)) p q a = absurd (let z = kinds (suc (suc k)) p q a in omega arith)
  old kinds (suc zero) zero p q a = inl a
  old kinds (suc zero) (suc zero) p q a = inl a
  old kinds (suc zero) (suc (suc k)) p q a = absurd (let z = kinds (suc (suc k)) p q a in omega arith)
  old kinds (suc (suc k₀)) k p q a = a

  new : (k₀ : ℕ) → k₀ < 2 → Added R k₀ c d k₀ c d
  new zero b = inr (inl refl, inl refl)
  new (suc zero) b = inr (inl (inl refl), inl (inr refl))
  new (suc (suc k)) b = absurd (omega arith)

  pub derived_added : Kinds R → (k₀ : ℕ) → k₀ < 2 → (k p q : ℕ) → Closure (Plus R k₀ c d) k p q → Added R k₀ c d k p q
  derived_added kinds k₀ b k p q = least (Plus R k₀ c d) (Added R k₀ c d) (added_laws k₀) h
    where
      h : (k p q : ℕ) → Plus R k₀ c d k p q → Added R k₀ c d k p q
      h k p q (inl a) = old kinds k₀ k p q a
      h k p q (inr (e, (e', e''))) = subst (λ (x : ℕ). Added R k₀ c d x p q) (sym e) (subst (λ (x : ℕ). Added R k₀ c d k₀ x q) (sym e') (subst (λ (x : ℕ). Added R k₀ c d k₀ c x) (sym e'') (new k₀ b)))

-- ---- more facts give more

module _ (R S : ℕ → ℕ → ℕ → Type 0) (into : (k p q : ℕ) → R k p q → S k p q) (c d : ℕ) where
  le_more : (p q : ℕ) → Le R p q → Le S p q
  le_more p q (inl e) = inl e
  le_more p q (inr (inl a)) = inr (inl (into 1 p q a))
  le_more p q (inr (inr a)) = inr (inr (into 0 p q a))

  among_more : (p : ℕ) → Among R c d p → Among S c d p
  among_more p (inl e) = inl e
  among_more p (inr (inl a)) = inr (inl (into 1 p c a))
  among_more p (inr (inr a)) = inr (inr (into 1 p d a))

  under_more : (p : ℕ) → Under R c d p → Under S c d p
  under_more p (inl a) = inl (into 0 p c a)
  under_more p (inr a) = inr (into 0 p d a)

  over_more : (q : ℕ) → Over R c d q → Over S c d q
  over_more q (inl a) = inl (into 0 c q a)
  over_more q (inr a) = inr (into 0 d q a)

  pub added_more : (k₀ k p q : ℕ) → Added R k₀ c d k p q → Added S k₀ c d k p q
  added_more zero zero p q (inl a) = inl (into 0 p q a)
  added_more zero zero p q (inr (a, b)) = inr (le_more p c a, le_more d q b)
  added_more zero (suc zero) p q (inl a) = inl (into 1 p q a)
  added_more zero (suc zero) p q (inr a) = inr a
  added_more zero (suc (suc k)) p q a = absurd a
  added_more (suc zero) zero p q (inl a) = inl (into 0 p q a)
  added_more (suc zero) zero p q (inr (a, (b, s))) = inr (lower a, (upper b, strict s))
    where
      lower : Among R c d p ⊎ Under R c d p → Among S c d p ⊎ Under S c d p
      lower (inl x) = inl (among_more p x)
      lower (inr x) = inr (under_more p x)

      upper : Among R c d q ⊎ Over R c d q → Among S c d q ⊎ Over S c d q
      upper (inl x) = inl (among_more q x)
      upper (inr x) = inr (over_more q x)

      strict : Under R c d p ⊎ (Over R c d q ⊎ Loop R c d) → Under S c d p ⊎ (Over S c d q ⊎ Loop S c d)
      strict (inl x) = inl (under_more p x)
      strict (inr (inl x)) = inr (inl (over_more q x))
      strict (inr (inr (inl x))) = inr (inr (inl (over_more c x)))
      strict (inr (inr (inr x))) = inr (inr (inr (over_more d x)))
  added_more (suc zero) (suc zero) p q (inl a) = inl (into 1 p q a)
  added_more (suc zero) (suc zero) p q (inr (a, b)) = inr (among_more p a, among_more q b)
  added_more (suc zero) (suc (suc k)) p q a = absurd a
  added_more (suc (suc k₀)) k p q a = into k p q a

-- ---- a cell below itself, found before anything is added

-- the fact (k₀, c, d) does not go with the facts R
abbrev pub Clash : (ℕ → ℕ → ℕ → Type 0) → ℕ → ℕ → ℕ → Type 0
Clash R zero c d = Le R d c
Clash R (suc zero) c d = Loop R c d
Clash R (suc (suc k₀)) c d = ⊥

module _ (R : ℕ → ℕ → ℕ → Type 0) (w : Laws R) (c d : ℕ) where
  pub clash_below : Consistent R → (k₀ p : ℕ) → Added R k₀ c d 0 p p → Clash R k₀ c d
  clash_below ok zero p (inl a) = absurd (ok p a)
  clash_below ok zero p (inr (a, b)) = le_trans R w d p c b a
  clash_below ok (suc zero) p (inl a) = absurd (ok p a)
  clash_below ok (suc zero) p (inr (a, (b, inl s))) = loop_under R w c d p s b
  clash_below ok (suc zero) p (inr (a, (b, inr (inl s)))) = loop_over R w c d p s a
  clash_below ok (suc zero) p (inr (a, (b, inr (inr s)))) = s
  clash_below ok (suc (suc k₀)) p a = ok p a

  pub below_clash : (k₀ : ℕ) → Clash R k₀ c d → Added R k₀ c d 0 c c
  below_clash zero a = inr (inl refl, a)
  below_clash (suc zero) a = inr (inl (inl (inl refl)), (inl (inl (inl refl)), inr (inr a)))
  below_clash (suc (suc k₀)) a = absurd a

-- ---- facts of some cells dropped; cells counted anew

pub dropped_laws : (R : ℕ → ℕ → ℕ → Type 0) → Laws R → (P : ℕ → Type 0) → Laws (λ k p q. R k p q × (P p × P q))
dropped_laws R w P = record {
  self_left = λ k p q (a, (x, y)). (w.self_left k p q a, (x, x));
  self_right = λ k p q (a, (x, y)). (w.self_right k p q a, (y, y));
  flip = λ p q (a, (x, y)). (w.flip p q a, (y, x));
  same = λ k p q r (a, (x, y)) (b, (y', z)). (w.same k p q r a b, (x, z));
  less = λ p q r (a, (x, y)) (b, (y', z)). (w.less p q r a b, (x, z));
  less_same = λ p q r (a, (x, y)) (b, (y', z)). (w.less_same p q r a b, (x, z));
}

pub renamed_laws : (R : ℕ → ℕ → ℕ → Type 0) → Laws R → (f : ℕ → ℕ) → Laws (λ k p q. R k (f p) (f q))
renamed_laws R w f = record {
  self_left = λ k p q. w.self_left k (f p) (f q);
  self_right = λ k p q. w.self_right k (f p) (f q);
  flip = λ p q. w.flip (f p) (f q);
  same = λ k p q r. w.same k (f p) (f q) (f r);
  less = λ p q r. w.less (f p) (f q) (f r);
  less_same = λ p q r. w.less_same (f p) (f q) (f r);
}

-- ---- the same facts have the same laws

pub alike_laws : (R S : ℕ → ℕ → ℕ → Type 0) → Alike R S → Laws S → Laws R
alike_laws R S e w = record {
  self_left = λ k p q a. (e 1 p p).1 (w.self_left k p q ((e k p q).0 a));
  self_right = λ k p q a. (e 1 q q).1 (w.self_right k p q ((e k p q).0 a));
  flip = λ p q a. (e 1 q p).1 (w.flip p q ((e 1 p q).0 a));
  same = λ k p q r a b. (e k p r).1 (w.same k p q r ((e 1 p q).0 a) ((e k q r).0 b));
  less = λ p q r a b. (e 0 p r).1 (w.less p q r ((e 0 p q).0 a) ((e 0 q r).0 b));
  less_same = λ p q r a b. (e 0 p r).1 (w.less_same p q r ((e 0 p q).0 a) ((e 1 q r).0 b));
}
