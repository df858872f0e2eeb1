-- The values that a verdict tells a host.
use mathlib.Core.List.{List, ◌∷◌}
use mathlib.Core.Logic.{◌↔◌}
use mathlib.Core.Path.{◌≡◌, refl, ap, ◌∙◌}
use Prim.Native.Nat.{ℕ}
use native.Mathlib.Omega.{arith}
use borrow.Author.Tests.{le-leb}
use lib.ListN.{length, get_or, drop}
use Rattle.format.specs.Conditions.{Conditions}
use Rattle.format.specs.Verdict.{Verdict, Counts, accepted}
use Rattle.format.proofs.Links.{links_at_most}
use Rattle.number.specs.CallResult.{lent}
use Rattle.telling.proofs.Judging.{Told}
use Rattle.verdict.specs.Verdict.{verdict_result}
use Rattle.call_check.specs.Links.{LinksBounded}

-- the verdict v on the pair, which is accepted exactly where the conditions hold: the links told are at most 14 for each cover
module _ (job cert : List ℕ) (v : Verdict) (exact : (c : Counts) → (v ≡ accepted c) ↔ Conditions job cert c) where
  pub told_links : (code : ℕ) (out values : List ℕ) → Told job cert code → values ≡ lent (verdict_result v).values out → LinksBounded code out values
  unfolding lent
  told_links code out values told same z room =
      let (c, d) = told.0.0 z in
      let counts : lent (verdict_result v).values out ≡ (c.bads ∷ c.members ∷ c.covers ∷ c.links ∷ drop 4 out) =
      ap (λ v. lent (verdict_result v).values out) ((exact c).1 d) ∙ simp (le-leb 4 (length out) room) refl in
      let covers : get_or values 2 0 ≡ c.covers = ap (λ (l : List ℕ). get_or l 2 0) (same ∙ counts) in
      let links : get_or values 3 0 ≡ c.links = ap (λ (l : List ℕ). get_or l 3 0) (same ∙ counts) in
      omega (arith, covers, links, links_at_most job cert c d)
