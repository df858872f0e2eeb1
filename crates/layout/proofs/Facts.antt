-- The bytes of an entry's facts.
use mathlib.Core.Bool.{Bool, true, false, cond, and-false}
use mathlib.Core.List.{List, []}
use mathlib.Core.Path.{◌≡◌, refl, sym, ap, ◌∙◌}
use Prim.Native.Nat.{ℕ, ◌+◌, ◌-◌, ◌*◌}
use native.Mathlib.Decide.{ℕ_discrete}
use native.Mathlib.Omega.{arith}
use borrow.Author.Tests.{eq-eqb, ne_eqb}
use lib.Dec.{eqb}
use lib.ListN.{length, take, drop, length-drop}
use lib.Seq.{length-take-le}
use Rattle.factrows.specs.Listed.{listed}
use Rattle.layout.specs.Entries.{version_of, fact_count, facts_first, fact_bytes, facts_from, facts_end, links_end, entry_end, located_at, is_whole, Whole}
use Rattle.layout.specs.Loading.{entry_facts, span_first, span_end}
use Rattle.layout.proofs.Whole.{is_whole_lem, not_whole}

module _ (bytes : List ℕ) (variables at : ℕ) where
  abbrev facts_at : ℕ
  facts_at = links_end bytes variables at

  -- there are none in version 1, and where the entry is not whole
  pub facts_none : (version_of bytes ≡ 2 → ⊥) → entry_facts bytes variables at ≡ []
  unfolding entry_facts
  facts_none n = rw (ne_eqb (version_of bytes) 2 n, and-false (is_whole bytes variables at)) refl

  pub facts_lost : (Whole bytes variables at → ⊥) → entry_facts bytes variables at ≡ []
  unfolding entry_facts
  facts_lost n = rw (sym (not_whole bytes variables at n)) refl

  -- of an entry that is whole, the shape's facts are those that they list
  pub facts_listed : Whole bytes variables at → (located_at bytes variables at).shape.facts ≡ listed (entry_facts bytes variables at)
  unfolding facts_from entry_facts
  facts_listed w = rw (is_whole_lem bytes variables at w) (go (eqb (version_of bytes) 2))
    where
      go : (b : Bool) → cond b (listed (fact_bytes bytes facts_at)) [] ≡ listed (cond b (fact_bytes bytes facts_at) [])
      go true = refl
      go false = refl

  -- where they are said to stand
  abbrev SpanIs : ℕ → ℕ → Type 0
  SpanIs first end = (first ≡ span_first bytes variables at) × (end ≡ span_end bytes variables at)

  pub span_none : (version_of bytes ≡ 2 → ⊥) → SpanIs 0 0
  unfolding span_first span_end
  span_none n = rw (ne_eqb (version_of bytes) 2 n, and-false (is_whole bytes variables at)) (refl, refl)

  pub span_lost : (Whole bytes variables at → ⊥) → SpanIs 0 0
  unfolding span_first span_end
  span_lost n = rw (sym (not_whole bytes variables at n)) (refl, refl)

  -- in version 2 they end with the entry
  module _ (second : version_of bytes ≡ 2) where
    pub facts_end_lem : entry_end bytes variables at ≡ facts_first bytes facts_at + 3 * fact_count bytes facts_at
    unfolding facts_end
    facts_end_lem = rw (eq-eqb (version_of bytes) 2 second) refl

    pub facts_told : (first end : ℕ) → first ≡ facts_first bytes facts_at → end ≡ entry_end bytes variables at → Whole bytes variables at
        → take (end - first) (drop first bytes) ≡ entry_facts bytes variables at
    unfolding entry_facts
    facts_told first end f e w =
        let count : end - first ≡ 3 * fact_count bytes facts_at = omega (arith, f, e, facts_end_lem) in
        rw (is_whole_lem bytes variables at w, eq-eqb (version_of bytes) 2 second, count, f) refl

    pub span_told : (first end : ℕ) → first ≡ facts_first bytes facts_at → end ≡ entry_end bytes variables at → Whole bytes variables at → SpanIs first end
    unfolding span_first span_end
    span_told first end f e w = rw (is_whole_lem bytes variables at w, eq-eqb (version_of bytes) 2 second) (f, e)

  -- and are three for each fact
  pub facts_in_threes : Whole bytes variables at → (n : ℕ) × (length (entry_facts bytes variables at) ≡ 3 * n)
  facts_in_threes w = go (ℕ_discrete (version_of bytes) 2)
    where
      go : Dec (version_of bytes ≡ 2) → (n : ℕ) × (length (entry_facts bytes variables at) ≡ 3 * n)
      go (yes second) =
          let end = facts_end_lem second in
          let told = facts_told second (facts_first bytes facts_at) (entry_end bytes variables at) refl refl w in
          let room : length (drop (facts_first bytes facts_at) bytes) ≡ length bytes - facts_first bytes facts_at = length-drop (facts_first bytes facts_at) bytes in (
            fact_count bytes facts_at,
            ap length (sym told)
                ∙ length-take-le (entry_end bytes variables at - facts_first bytes facts_at) (drop (facts_first bytes facts_at) bytes) (omega (arith, room, end, w.facts_inside))
                ∙ (omega (arith, end)),
          )
      go (no first) = (0, ap length (facts_none first))
