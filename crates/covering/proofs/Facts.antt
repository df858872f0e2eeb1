-- The facts of a member in a buffer: rule 6 by the rows of the covered shape, and members without facts.
use mathlib.Core.Bool.{Bool, true, false, cond}
use mathlib.Core.List.{List, []}
use mathlib.Core.Option.{none}
use mathlib.Core.Path.{◌≡◌, refl, sym, ap, ◌∙◌}
use Prim.Native.Nat.{ℕ, ◌+◌, ◌*◌, ◌≤◌}
use native.Mathlib.Omega.{arith}
use lib.Dec.{eqb, eqb→eq}
use lib.ListN.{length, get_or}
use Rattle.lists.specs.Test.{lowest, number_or}
use Rattle.lists.proofs.Lowest.{lowest_none}
use Rattle.shape.specs.Shape.{Shape}
use Rattle.cover.specs.Test.{facts_in}
use Rattle.factrows.specs.Listed.{listed, holds_all, first_missing}
use Rattle.factrows.specs.Rows.{rows_test}
use Rattle.factrows.proofs.Covers.{missing_rows, none_missing}
use Rattle.layout.specs.Entries.{version_of, fact_count, facts_first, fact_bytes, facts_from, facts_end, links_end, located_at, Whole}
use Rattle.layout.specs.Loading.{entry_facts}
use Rattle.layout.proofs.Facts.{facts_listed}
use Rattle.coverreader.specs.Images.{images_in, ImageCodes}
use Rattle.covering.proofs.Images.{image_coded, image_beyond}

-- ---- rule 6

module _ (cert : List ℕ) (variables start : ℕ) (w : Whole cert variables start) where
  abbrev member : Shape
  member = (located_at cert variables start).shape

  module _ (count n : ℕ) (codes : List ℕ) (m : ImageCodes count n codes) (rows s : List ℕ) (bytes : s ≡ entry_facts cert variables start)
      (covered : Shape) where
    abbrev rule : ℕ → Bool
    rule = facts_in member covered (images_in count codes) (rows_test rows)

    are : member.facts ≡ listed s
    are = facts_listed cert variables start w ∙ ap listed (sym bytes)

    pub missing_found : (r : ℕ) → r ≡ first_missing rows s codes count → r ≡ number_or count (lowest count 0 rule)
    missing_found r e =
        e ∙ ap (number_or count)
        (missing_rows rows s codes member covered (images_in count codes) are (image_coded count n codes m) (image_beyond count n codes m) count)

    pub missing_none : holds_all rows s codes ≡ true → lowest count 0 rule ≡ none
    missing_none h = none_missing rows s codes member covered (images_in count codes) are (image_coded count n codes m) (image_beyond count n codes m) h count

-- ---- no facts

-- rule 6 holds for a member without facts
pub bare_holds : (member covered : Shape) (images : List ℕ) (among : ℕ → ℕ → ℕ → Bool) → member.facts ≡ []
    → (count : ℕ) → lowest count 0 (facts_in member covered images among) ≡ none
bare_holds member covered images among bare count = lowest_none (facts_in member covered images among) count 0 (λ _ _ _. rw bare refl)

-- an entry that lists no fact: of a file of version 1, or with 0 for their number
module _ (cert : List ℕ) (variables start : ℕ) (bare : version_of cert ≡ 2 → get_or cert (links_end cert variables start) 0 ≡ 0) where
  abbrev end : ℕ
  end = links_end cert variables start

  pub bare_facts : (located_at cert variables start).shape.facts ≡ []
  unfolding facts_from fact_count
  bare_facts = go (eqb (version_of cert) 2) refl
    where
      go : (b : Bool) → eqb (version_of cert) 2 ≡ b → cond b (listed (fact_bytes cert end)) [] ≡ []
      go true e = rw (bare (eqb→eq (version_of cert) 2 (rw e tt))) refl
      go false e = refl

  -- its 9 variables and 12 cells at most, and the number of its facts, have room
  pub bare_whole : variables ≤ 9 → get_or cert (start + 1) 0 ≤ 12 → start + 24 ≤ length cert → Whole cert variables start
  unfolding facts_end facts_first fact_count
  bare_whole v n room = record { variables_most = v; cells = n; inside = omega arith; facts_inside = go (eqb (version_of cert) 2) refl }
    where
      go : (b : Bool) → eqb (version_of cert) 2 ≡ b → cond b (facts_first cert end + 3 * fact_count cert end) end ≤ length cert
      go true e = rw (bare (eqb→eq (version_of cert) 2 (rw e tt))) (omega arith)
      go false e = omega arith
