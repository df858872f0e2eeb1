-- The answer over a list of rules is the first broken one, at its lowest name.
use mathlib.Core.Bool.{Bool, true, not}
use mathlib.Core.List.{List, [], ◌∷◌}
use mathlib.Core.Option.{Option, some, none}
use mathlib.Core.Path.{◌≡◌, refl, sym, subst}
use Prim.Native.Nat.{ℕ, suc, ◌+◌, ◌≤◌, ◌<◌}
use native.Mathlib.Decide.{ℕ_discrete, dec_lt}
use native.Mathlib.Omega.{arith}
use lib.Dec.{T}
use Rattle.lists.specs.Test.{lowest}
use Rattle.lists.proofs.Reflect.{Reflect}
use Rattle.lists.proofs.Lowest.{Lowest, lowest_is}
use Rattle.cover.specs.Rules.{First}
use Rattle.cover.specs.Test.{Answer, holds, broken, Rule, or_else, first_broken}

-- the rule's test decides where it is broken, and it is broken at nothing else
pub record Decides (Broken : ℕ → Type 0) (x : Rule) : Type 0 where
  pub within : (n : ℕ) → Broken n → (x.first ≤ n) × (n < x.first + x.number)
  pub decides : (n : ℕ) → x.first ≤ n → n < x.first + x.number → Reflect (Broken n) (not (x.test n))

-- what an answer says, where this breaks the rules
abbrev pub Says : (ℕ → ℕ → Type 0) → Answer → Type 0
Says Broken holds = (r n : ℕ) → ¬ Broken r n
Says Broken (broken r n) = First Broken r n

module _ (Broken : ℕ → ℕ → Type 0) where
  -- no rule before r is broken
  abbrev pub Kept : ℕ → Type 0
  Kept r = (q : ℕ) → q < r → (k : ℕ) → ¬ Broken q k

  -- the rules of a list, numbered from r on, decide; each may count on those before it. No others are broken.
  abbrev pub Rules : ℕ → List Rule → Type 0
  Rules r [] = (q : ℕ) → r ≤ q → (k : ℕ) → ¬ Broken q k
  Rules r (x ∷ xs) = (Kept r → Decides (Broken r) x) × Rules (suc r) xs

  pub kept_next : (r : ℕ) → Kept r → ((k : ℕ) → ¬ Broken r k) → Kept (suc r)
  kept_next r e h q b k = go (ℕ_discrete q r)
    where
      go : Dec (q ≡ r) → ¬ Broken q k
      go (yes z) = subst (λ (q : ℕ). ¬ Broken q k) (sym z) (h k)
      go (no n) = e q (omega arith) k

  pub first_broken_lem : (r : ℕ) (xs : List Rule) → Kept r → Rules r xs → Says Broken (first_broken r xs)
  first_broken_lem r [] e d = λ q n. none_at q n (dec_lt q r)
    where
      none_at : (q n : ℕ) → Dec (q < r) → ¬ Broken q n
      none_at q n (yes b) = e q b n
      none_at q n (no b) = d q (omega arith) n
  first_broken_lem r (x ∷ xs) e (d, ds) =
      go (d e) (lowest x.number x.first x.test) (lowest_is x.test x.number x.first) (λ h. first_broken_lem (suc r) xs (kept_next r e h) ds)
    where
      -- where the test holds, the rule is not broken
      sound : Decides (Broken r) x → (n : ℕ) → ((x.first ≤ n) → (n < x.first + x.number) → x.test n ≡ true) → ¬ Broken r n
      sound c n h k = let (a, b) = c.within n k in subst (λ (t : Bool). T (not t)) (h a b) ((c.decides n a b).tests k)

      go : Decides (Broken r) x → (l : Option ℕ) → Lowest x.number x.first x.test l → (((k : ℕ) → ¬ Broken r k) → Says Broken (first_broken (suc r) xs))
          → Says Broken (or_else r l (first_broken (suc r) xs))
      go c none h rest = rest (λ k. sound c k (h k))
      go c (some n) (a, b, t, h) rest =
          record {
            here = (c.decides n a b).holds (subst (λ (t : Bool). T (not t)) (sym t) tt);
            lowest = λ k o. sound c k (λ i j. h k i o);
            earlier = e;
          }

  -- there is one first
  pub first_unique : (q r k n : ℕ) → First Broken q k → First Broken r n → broken q k ≡ broken r n
  first_unique q r k n a b = go (ℕ_discrete q r) (dec_lt q r)
    where
      same : (n : ℕ) → First Broken q n → Dec (k ≡ n) → Dec (k < n) → k ≡ n
      same n b (yes z) l = z
      same n b (no z) (yes l) = absurd (b.lowest k l a.here)
      same n b (no z) (no l) = absurd (a.lowest n (omega arith) b.here)

      go : Dec (q ≡ r) → Dec (q < r) → broken q k ≡ broken r n
      go (yes z) l =
          let b' : First Broken q n = subst (λ (q : ℕ). First Broken q n) (sym z) b in
          let w : k ≡ n = same n b' (ℕ_discrete k n) (dec_lt k n) in
          λ i. broken (z i) (w i)
      go (no z) (yes l) = absurd (b.earlier q l k a.here)
      go (no z) (no l) = absurd (a.earlier r (omega arith) n b.here)

  -- so an answer that says something true is the answer
  pub says_exactly : (a b : Answer) → Says Broken a → Says Broken b → a ≡ b
  says_exactly holds holds s t = refl
  says_exactly holds (broken r n) s t = absurd (s r n t.here)
  says_exactly (broken r n) holds s t = absurd (t r n s.here)
  says_exactly (broken q k) (broken r n) s t = first_unique q r k n s t
