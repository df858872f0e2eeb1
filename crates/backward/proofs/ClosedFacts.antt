-- The facts of every predecessor are closed, so a cover of it need not close them again.
use mathlib.Core.List.Memᴰ
use mathlib.Core.List.{[], List, ◌∷◌, map}
use mathlib.Core.Logic.{◌≢◌, ◌⊎◌, inl, inr}
use mathlib.Core.Path.{◌≡◌, refl, ap, ◌∙◌, subst, subst₂}
use Prim.Native.Nat.{ℕ}
use native.Mathlib.Omega.{arith}
use Rattle.lists.specs.List.{◌∈◌}
use Rattle.lists.proofs.Reflect.{cond_cases}
use Rattle.heap.specs.Value.{below, equals}
use Rattle.facts.specs.Facts.{Fact, Listed, Follows, given, close, FactsOf}
use Rattle.facts.proofs.Closing.{r_has, close_follows, closure_reflects, lawful, follows_laws}
use Rattle.facts.specs.Laws.{Laws}
use Rattle.facts.proofs.Adding.{closure_laws, dropped_laws}
use Rattle.backward.specs.Predecessors.{without, lower_fact}
use Rattle.backward.proofs.Remove.{raise, raise_lower, lower_raise}
use Rattle.backward.proofs.Tests.{Unspoken, r_speaks_of, without_mem}

-- all that follows from the facts is among them
abbrev pub ClosedFacts : List Fact → Type 0
ClosedFacts l = (k p q : ℕ) → Follows l k p q → record { kind = k; left = p; right = q } ∈ l

pub close_closed : (n : ℕ) (l : List Fact) → FactsOf n l → ClosedFacts (close n l)
close_closed n l h k p q i =
    (r_has (close n l) k p q).holds
    ((closure_reflects l n h k p q).tests (lawful (close n l) (Follows l) (follows_laws l (λ p. p)) (close_follows n l) i))

-- ---- facts of a cell go

pub mem_without : (c : ℕ) (l : List Fact) (t : Fact) → t ∈ l → t.left ≢ c → t.right ≢ c → t ∈ without c l
mem_without c [] t m a b = elim m [ ]
mem_without c (u ∷ us) t m a b = go (mem_without c us t) m
  where
    go : (t ∈ us → t.left ≢ c → t.right ≢ c → t ∈ without c us) → t ∈ (u ∷ us) → t ∈ without c (u ∷ us)
    go r = cond_cases (λ l. t ∈ (u ∷ us) → t ∈ l) (r_speaks_of c u) drops stays
      where
        drops : (u.left ≡ c) ⊎ (u.right ≡ c) → t ∈ (u ∷ us) → t ∈ without c us
        drops (inl z) (Memᴰ.head e) = absurd (a (ap (λ (v : Fact). v.left) e ∙ z))
        drops (inr z) (Memᴰ.head e) = absurd (b (ap (λ (v : Fact). v.right) e ∙ z))
        drops z (Memᴰ.tail n) = r n a b

        stays : ¬ ((u.left ≡ c) ⊎ (u.right ≡ c)) → t ∈ (u ∷ us) → t ∈ (u ∷ without c us)
        stays z (Memᴰ.head e) = Memᴰ.head e
        stays z (Memᴰ.tail n) = Memᴰ.tail (r n a b)

-- what follows, of other cells than c
abbrev Other : List Fact → ℕ → ℕ → ℕ → ℕ → Type 0
Other l c k p q = Follows l k p q × ((p ≢ c) × (q ≢ c))

other_laws : (l : List Fact) (c : ℕ) → Laws (Other l c)
other_laws l c = dropped_laws (Follows l) (closure_laws (Listed l)) (λ p. p ≢ c)

without_other : (c : ℕ) (l : List Fact) (t : Fact) → t ∈ without c l → Other l c t.kind t.left t.right
without_other c l t m = let (n, a, b) = without_mem c l t m in (given n, (a, b))

pub without_closed : (c : ℕ) (l : List Fact) → ClosedFacts l → ClosedFacts (without c l)
without_closed c l h k p q i =
    let (j, (a, b)) = lawful (without c l) (Other l c) (other_laws l c) (without_other c l) i in
    mem_without c l (record { kind = k; left = p; right = q }) (h k p q j) a b

-- ---- a cell goes, and no fact is about it

pub lowered_closed : (c : ℕ) (l : List Fact) → Unspoken c l → ClosedFacts l → ClosedFacts (map (lower_fact c) l)
lowered_closed c l u h k p q i =
    subst₂ (λ (p q : ℕ). record { kind = k; left = p; right = q } ∈ map (lower_fact c) l) (lower_raise c p) (lower_raise c q)
    (Memᴰ.map (lower_fact c) (h k (raise c p) (raise c q) (lawful (map (lower_fact c) l) (λ k p q. Follows l k (raise c p) (raise c q)) (follows_laws l (raise c)) at i)))
  where
    at : (t : Fact) → t ∈ map (lower_fact c) l → Follows l t.kind (raise c t.left) (raise c t.right)
    at t m =
        let (v, n, z) = Memᴰ.of_map (lower_fact c) l m in
        let (a, b) = u v n in
        subst (λ (t : Fact). Follows l t.kind (raise c t.left) (raise c t.right)) z
        (rw (raise_lower c v.left a, raise_lower c v.right b) (given n))

-- ---- that it had a value, in place of a cell's facts

pub had_closed : (c : ℕ) (l : List Fact) → ClosedFacts l → ClosedFacts (record { kind = equals; left = c; right = c } ∷ without c l)
had_closed c l h k p q i = out (lawful (record { kind = equals; left = c; right = c } ∷ without c l) R laws at i)
  where
    R : ℕ → ℕ → ℕ → Type 0
    R k p q = Other l c k p q ⊎ ((k ≡ equals) × ((p ≡ c) × (q ≡ c)))

    self_left : (k p q : ℕ) → R k p q → R equals p p
    self_left k p q (inl i) = inl ((other_laws l c).self_left k p q i)
    self_left k p q (inr (z, (a, b))) = inr (refl, (a, a))

    self_right : (k p q : ℕ) → R k p q → R equals q q
    self_right k p q (inl i) = inl ((other_laws l c).self_right k p q i)
    self_right k p q (inr (z, (a, b))) = inr (refl, (b, b))

    flip : (p q : ℕ) → R equals p q → R equals q p
    flip p q (inl i) = inl ((other_laws l c).flip p q i)
    flip p q (inr (z, (a, b))) = inr (z, (b, a))

    less : (p q r : ℕ) → R below p q → R below q r → R below p r
    less p q r (inl i) (inl j) = inl ((other_laws l c).less p q r i j)
    less p q r (inl i) (inr (z, _)) = absurd (omega arith)
    less p q r (inr (z, _)) j = absurd (omega arith)

    same : (k p q r : ℕ) → R equals p q → R k q r → R k p r
    same k p q r (inl i) (inl j) = inl ((other_laws l c).same k p q r i j)
    same k p q r (inl (i, (a, b))) (inr (z, (x, y))) = absurd (b x)
    same k p q r (inr (z, (x, y))) (inl (j, (a, b))) = absurd (a y)
    same k p q r (inr (z, (x, y))) (inr (z', (x', y'))) = inr (z', (x, y'))

    less_same : (p q r : ℕ) → R below p q → R equals q r → R below p r
    less_same p q r (inl i) (inl j) = inl ((other_laws l c).less_same p q r i j)
    less_same p q r (inl (i, (a, b))) (inr (z, (x, y))) = absurd (b x)
    less_same p q r (inr (z, _)) j = absurd (omega arith)

    laws : Laws R
    laws = record { self_left = self_left; self_right = self_right; flip = flip; less = less; same = same; less_same = less_same }

    at : (t : Fact) → t ∈ (record { kind = equals; left = c; right = c } ∷ without c l) → R t.kind t.left t.right
    at t (Memᴰ.head e) = inr (ap (λ (u : Fact). u.kind) e, (ap (λ (u : Fact). u.left) e, ap (λ (u : Fact). u.right) e))
    at t (Memᴰ.tail m) = inl (without_other c l t m)

    out : R k p q → record { kind = k; left = p; right = q } ∈ (record { kind = equals; left = c; right = c } ∷ without c l)
    out (inl (j, (a, b))) = Memᴰ.tail (mem_without c l (record { kind = k; left = p; right = q }) (h k p q j) a b)
    out (inr (z, (a, b))) = Memᴰ.head (λ i. record { kind = z i; left = a i; right = b i })
