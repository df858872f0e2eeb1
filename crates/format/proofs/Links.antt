-- How many links are counted at most, so that the sum fits a type of 32 bits: 14 for each cover, and no more covers than bytes.
use mathlib.Core.List.{List, [], ◌∷◌, map}
use mathlib.Core.Path.{◌≡◌, refl, ap}
use Prim.Native.Nat.{ℕ, ◌*◌, ◌≤◌}
use native.Mathlib.Omega.{arith}
use lib.ListN.{length, length-append}
use Rattle.lists.specs.List.{concat_map, sum}
use Rattle.run.specs.Run.{Located}
use Rattle.shape.proofs.InRange.{in_range_closed}
use Rattle.cover.specs.Cover.{Cover, owed, AllHold}
use Rattle.cover.specs.Lengths.{linked_cells}
use Rattle.cover.proofs.Links.{links_bound, linked_most}
use Rattle.format.specs.Verdict.{Counts}
use Rattle.format.specs.Numbers.{cover_numbers, member_numbers, certificate_numbers}
use Rattle.format.specs.Conditions.{Conditions}
use Rattle.format.proofs.Sequence.{reads_long, reads_inside, decode_reads}
use Rattle.format.proofs.Owed.{owed_range}

-- a cover for each that is owed
hold_length : (ms : List Located) (cs : List Cover) (os : List Located) → AllHold ms cs os → length cs ≡ length os
hold_length ms [] [] hold = refl
hold_length ms [] (o ∷ os) hold = absurd hold
hold_length ms (c ∷ cs) [] hold = absurd hold
hold_length ms (c ∷ cs) (o ∷ os) (k, ks) = let e = hold_length ms cs os ks in omega arith

-- each cover has a number at least
covers_numbers : (cs : List Cover) → length cs ≤ length (concat_map cover_numbers cs)
covers_numbers [] = omega arith
covers_numbers (c ∷ cs) = omega (arith, length-append (cover_numbers c) (concat_map cover_numbers cs), covers_numbers cs)

module _ (job certificate : List ℕ) (counts : Counts) (c : Conditions job certificate counts) where
  abbrev os : List Located
  os = owed c.file.job c.members

  covers_are : counts.covers ≡ length c.covers
  covers_are = let e = hold_length c.members c.covers os c.hold in omega (arith, ap (λ k. k.covers) c.counts_due)

  -- "at most the number of cells of the covered shape that have a link": over all covers
  pub links_linked : counts.links ≤ sum (map (λ o. length (linked_cells o.shape)) os)
  links_linked =
      let vars = c.file.job.variables in
      let most =
      links_bound c.members c.covers os c.hold (λ m i. in_range_closed vars 12 m.shape (c.members_range.members m i).shape) in
      omega (arith, most, ap (λ k. k.links) c.counts_due)

  -- "so at most 14", for each cover
  pub links_at_most : counts.links ≤ 14 * counts.covers
  links_at_most =
      let most = linked_most os (λ o i. (owed_range c.file c.members c.job_is.in_range c.members_range o i).cells) in
      omega (arith, links_linked, most, ap (λ k. k.covers) c.counts_due)

  -- each number has a byte at least
  pub covers_at_most : counts.covers ≤ length certificate
  covers_at_most =
      let (next, r, _) = decode_reads certificate (certificate_numbers c.file.version c.members c.covers) c.certificate_reads in
      omega (
        arith,
        covers_are,
        covers_numbers c.covers,
        length-append (member_numbers c.file.version c.members) (concat_map cover_numbers c.covers),
        reads_long r,
        reads_inside r (omega arith),
      )

  -- 14 for each of 65,536 bytes
  pub links_fit : counts.links ≤ 917504
  links_fit = omega (arith, links_at_most, covers_at_most, c.certificate_length.1)
