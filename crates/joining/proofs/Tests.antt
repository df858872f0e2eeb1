-- The tests of 24 to 27 and what they say.
use mathlib.Core.Bool.{true, ◌&&◌, ◌||◌, not}
use mathlib.Core.List.Memᴰ
use mathlib.Core.List.{List}
use mathlib.Core.Logic.{◌≢◌}
use mathlib.Core.Option.{Option, none, some}
use mathlib.Core.Path.{◌≡◌, refl, sym, ap}
use Prim.Native.Nat.{ℕ, ◌<◌}
use lib.Dec.{eqb, ltb}
use Rattle.lists.proofs.Reflect.{Reflect, r_eq, r_lt, r_and, r_not, r_implies, r_iff, r_all_of, r_any_of, r_pairwise, is_true, is_false, cond_cases}
use Rattle.facts.specs.Facts.{Fact}
use Rattle.shape.specs.Shape.{Shape}
use Rattle.run.specs.Run.{Located}
use Rattle.joining.specs.Joined.{Joint}
use Rattle.joining.specs.Joins.{Ends, ListedByFirst, OwedListed, Joins}
use Rattle.joining.specs.Join.{same_numbers, same_facts, same_shape, ends, listed_by_first, owed_listed, joint_refusal}

pub r_numbers : (xs ys : List ℕ) → Reflect (xs ≡ ys) (same_numbers xs ys)
r_numbers = r_pairwise eqb r_eq

pub r_facts : (ts us : List Fact) → Reflect (ts ≡ us) (same_facts ts us)
r_facts =
    r_pairwise _
    (λ t u. r_iff (λ (a, (b, c)). λ i. record { kind = a i; left = b i; right = c i })
    (λ e. (ap (λ (x : Fact). x.kind) e, (ap (λ (x : Fact). x.left) e, ap (λ (x : Fact). x.right) e)))
    (r_and (r_eq t.kind u.kind) (r_and (r_eq t.left u.left) (r_eq t.right u.right))))

pub r_shape : (s t : Shape) → Reflect (s ≡ t) (same_shape s t)
r_shape s t =
    r_iff (λ (a, (b, c)). λ i. record { vars = a i; links = b i; facts = c i }) (λ e. (ap (λ (x : Shape). x.vars) e, (ap (λ (x : Shape). x.links) e, ap (λ (x : Shape). x.facts) e)))
    (r_and (r_numbers s.vars t.vars) (r_and (r_numbers s.links t.links) (r_facts s.facts t.facts)))

module _ (p : Joint) where
  r_ends : Reflect (Ends p) (ends p)
  r_ends = r_all_of (λ t. not (eqb t.from p.handover)) p.first.transitions (λ t. r_not (r_eq t.from p.handover))

  r_listed : (m : Located) → Reflect (ListedByFirst p m) (listed_by_first p m)
  r_listed m =
      r_iff (λ (bad, i, (e, d)). Memᴰ.cast (λ k. record { state = sym e k; shape = sym d k }) i) (λ i. (record { state = p.handover; shape = m.shape }, i, (refl, refl)))
      (r_any_of (λ bad. eqb bad.state p.handover && same_shape bad.shape m.shape) p.first.forbidden
      (λ bad. r_and (r_eq bad.state p.handover) (r_shape bad.shape m.shape)))

  r_owed_listed : (members : List Located) → Reflect (OwedListed p members) (owed_listed p members)
  r_owed_listed members =
      r_all_of (λ m. not (eqb m.state p.second.start) || listed_by_first p m) members
      (λ m. r_implies (r_eq m.state p.second.start) (r_listed m))

  inside : p.handover < p.states → ltb p.handover p.states ≡ true
  inside a = is_true (ltb p.handover p.states) ((r_lt p.handover p.states).tests a)

  same : p.first.variables ≡ p.second.variables → eqb p.first.variables p.second.variables ≡ true
  same b = is_true (eqb p.first.variables p.second.variables) ((r_eq p.first.variables p.second.variables).tests b)

  ended : Ends p → ends p ≡ true
  ended c = is_true (ends p) (r_ends.tests c)

  module _ (members : List Located) where
    -- what falls first, of 24 to 27
    pub data Falls : Option ℕ → Type 0 where
      nothing_falls : Joins p members → Falls none
      falls_24 : ¬ (p.handover < p.states) → Falls (some 24)
      falls_25 : p.handover < p.states → p.first.variables ≢ p.second.variables → Falls (some 25)
      falls_26 : p.handover < p.states → p.first.variables ≡ p.second.variables → ¬ Ends p → Falls (some 26)
      falls_27 : p.handover < p.states → p.first.variables ≡ p.second.variables → Ends p → ¬ OwedListed p members → Falls (some 27)

    pub refusal_falls : Falls (joint_refusal p members)
    unfolding joint_refusal
    refusal_falls =
        cond_cases Falls (r_lt p.handover p.states)
        (λ a. cond_cases Falls (r_eq p.first.variables p.second.variables)
        (λ b. cond_cases Falls r_ends
        (λ c. cond_cases Falls (r_owed_listed members) (λ d. nothing_falls (record { inside = a; variables = b; ends = c; listed = d })) (falls_27 a b c)) (falls_26 a b)) (falls_25 a)) falls_24

    -- and nothing else does
    pub falls_refusal : (r : Option ℕ) → Falls r → joint_refusal p members ≡ r
    unfolding joint_refusal
    falls_refusal r (nothing_falls j) = rw (inside j.inside, same j.variables, ended j.ends, is_true (owed_listed p members) ((r_owed_listed members).tests j.listed)) refl
    falls_refusal r (falls_24 n) = rw (is_false (ltb p.handover p.states) (λ t. n ((r_lt p.handover p.states).holds t))) refl
    falls_refusal r (falls_25 a n) =
        rw (inside a, is_false (eqb p.first.variables p.second.variables) (λ t. n ((r_eq p.first.variables p.second.variables).holds t))) refl
    falls_refusal r (falls_26 a b n) = rw (inside a, same b, is_false (ends p) (λ t. n (r_ends.holds t))) refl
    falls_refusal r (falls_27 a b c n) = rw (inside a, same b, ended c, is_false (owed_listed p members) (λ t. n ((r_owed_listed members).holds t))) refl
