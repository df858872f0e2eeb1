-- Laws of taking covers in turn.
use mathlib.Core.List.{List, [], ◌∷◌, ◌++◌, map, map-append}
use mathlib.Core.Path.{◌≡◌, refl, sym, ap, ap₂, ◌∙◌}
use Prim.Native.Nat.{ℕ, ◌+◌, ◌≤◌}
use native.Mathlib.Omega.{arith}
use lib.ListN.{length}
use Rattle.lists.specs.List.{sum}
use Rattle.format.specs.Parser.{Parsed, parsed, fault, Parser, onward, each}
use Rattle.std.specs.Prelude.{Ok, Err}
use Rattle.verdict.specs.declared.Refused.{Refused}
use Rattle.checker.specs.Checking.{Tally, one_more, take_all, tally_of, Checked, checked_of, Within, Takes}
use Rattle.checker.specs.declared.checked.Position.{Position}

pub take_one : (p : Parser ℕ) (n : Tally) (at : ℕ) → take_all (p ∷ []) n at ≡ onward (p at) (λ links next. parsed (one_more n links) next)
unfolding take_all
take_one p n at = refl

pub take_append : (ps rest : List (Parser ℕ)) (n : Tally) (at : ℕ) → take_all (ps ++ rest) n at ≡ onward (take_all ps n at) (take_all rest)
unfolding take_all
take_append [] rest n at = refl
take_append (p ∷ ps) rest n at = go (p at) (λ links. take_append ps rest (one_more n links))
  where
    go : (r : Parsed ℕ) → ((links next : ℕ) → take_all (ps ++ rest) (one_more n links) next ≡ onward (take_all ps (one_more n links) next) (take_all rest))
        → onward r (λ links. take_all (ps ++ rest) (one_more n links)) ≡ onward (onward r (λ links. take_all ps (one_more n links))) (take_all rest)
    go (parsed links next) later = later links next
    go (fault why place) later = refl

-- covers that read the same at every place
abbrev pub Same : List (Parser ℕ) → List (Parser ℕ) → Type 0
Same [] [] = Unit {0}
Same [] (q ∷ qs) = ⊥
Same (p ∷ ps) [] = ⊥
Same (p ∷ ps) (q ∷ qs) = ((at : ℕ) → p at ≡ q at) × Same ps qs

pub take_same : (ps qs : List (Parser ℕ)) → Same ps qs → (n : Tally) (at : ℕ) → take_all ps n at ≡ take_all qs n at
unfolding take_all
take_same [] [] s n at = refl
take_same [] (q ∷ qs) s n at = absurd s
take_same (p ∷ ps) [] s n at = absurd s
take_same (p ∷ ps) (q ∷ qs) (e, s) n at = ap (λ r. onward r (λ links. take_all ps (one_more n links))) (e at) ∙ go (q at) (λ links. take_same ps qs s (one_more n links))
  where
    go : (r : Parsed ℕ) → ((links next : ℕ) → take_all ps (one_more n links) next ≡ take_all qs (one_more n links) next)
        → onward r (λ links. take_all ps (one_more n links)) ≡ onward r (λ links. take_all qs (one_more n links))
    go (parsed links next) later = later links next
    go (fault why place) later = refl

-- so many covers more, with their links
abbrev pub more : {A : Type 0} → List A → Tally → List ℕ → Tally
more os n ls = record { covers = n.covers + length os; links = n.links + sum ls }

-- as many are counted as are taken, and the links of each
pub take_each : {A : Type 0} (p : A → Parser ℕ) (os : List A) (n : Tally) (at : ℕ)
    → take_all (map p os) n at ≡ onward (each p os at) (λ ls next. parsed (more os n ls) next)
unfolding take_all each
take_each p [] n at = ap₂ (λ (c k : ℕ). parsed (record { covers = c; links = k }) at) (omega arith) (omega arith)
take_each p (o ∷ os) n at = go (p o at) (λ l. take_each p os (one_more n l))
  where
    second : (r : Parsed (List ℕ)) (l : ℕ)
        → onward r (λ ls next. parsed (more os (one_more n l) ls) next)
        ≡ onward (onward r (λ ls next. parsed (l ∷ ls) next)) (λ ls next. parsed (more (o ∷ os) n ls) next)
    second (parsed ls next) l = ap₂ (λ (c k : ℕ). parsed (record { covers = c; links = k }) next) (omega arith) (omega arith)
    second (fault why place) l = refl

    go : (r : Parsed ℕ) → ((l next : ℕ) → take_all (map p os) (one_more n l) next ≡ onward (each p os next) (λ ls next. parsed (more os (one_more n l) ls) next))
        → onward r (λ l. take_all (map p os) (one_more n l))
        ≡ onward (onward r (λ l next. onward (each p os next) (λ ls next. parsed (l ∷ ls) next))) (λ ls next. parsed (more (o ∷ os) n ls) next)
    go (parsed l next) later = later l next ∙ second (each p os next) l
    go (fault why place) later = refl

-- nothing is counted at the start
pub at_start : {cert : List ℕ} (at : ℕ) → at ≤ length cert → length cert ≤ 65536 → Within cert (record { at = at; counted = 0 })
at_start at inside fits = record { counted = omega arith; linked = omega arith; inside = inside; fits = fits }

-- ---- some, and then the rest

-- t is reached from `from`; `rest` is left of all
pub record Progress (cert : List ℕ) (all : List (Parser ℕ)) (from : Position) (rest : List (Parser ℕ)) (t : Position) : Type 0 where
  pub within : Within cert t
  pub left : take_all rest (tally_of t) t.at ≡ take_all all (tally_of from) from.at

-- all, as some and the rest
pub begin_two : {A : Type 0} (p : A → Parser ℕ) (os rest : List A) {cert : List ℕ} {from : Position} → Within cert from
    → Progress cert (map p (os ++ rest)) from (map p os ++ map p rest) from
begin_two p os rest {from = from} w = record { within = w; left = ap (λ ps. take_all ps (tally_of from) from.at) (sym (map-append p os rest)) }

module _ {cert : List ℕ} {all : List (Parser ℕ)} {from : Position} where
  pub begin : Within cert from → Progress cert all from all from
  begin w = record { within = w; left = refl }

  pub finish : {t : Position} → Progress cert all from [] t → Takes cert all from (Ok t)
  unfolding take_all
  finish p = (p.left, p.within)

  -- some of what is left is taken, or refused
  module _ (ps rest : List (Parser ℕ)) {t : Position} (p : Progress cert all from (ps ++ rest) t) where
    after : (r : Parsed Tally) → r ≡ take_all ps (tally_of t) t.at → onward r (take_all rest) ≡ take_all all (tally_of from) from.at
    after r e = ap (λ q. onward q (take_all rest)) e ∙ sym (take_append ps rest (tally_of t) t.at) ∙ p.left

    pub advance : {g : Checked} {u : Position} → Takes cert ps t g → g ≡ Ok u → Progress cert all from rest u
    advance {u = u} (e, w) g_is = record { within = rw g_is at w; left = after (checked_of (Ok u)) (rw g_is at e) }

    pub halt : {g : Checked} {r : Refused} → Takes cert ps t g → g ≡ Err r → Takes cert all from (Err r)
    halt {r = r} (e, w) g_is = (after (checked_of (Err r)) (rw g_is at e), tt)
