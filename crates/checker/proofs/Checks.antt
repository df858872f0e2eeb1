-- Checking one cover.
use mathlib.Core.List.{List, [], ◌∷◌}
use mathlib.Core.Path.{◌≡◌, refl, sym, ap, ap₂}
use Prim.Native.Nat.{ℕ, ◌+◌, ◌%◌, ◌≤◌, ◌<◌}
use lib.ListN.{length}
use native.Mathlib.Nat.{mod-lt, div-add-mod'}
use native.Mathlib.Omega.{arith}
use Rattle.run.specs.Run.{Located}
use Rattle.undoing.specs.Rowed.{Rowed}
use Rattle.factrows.specs.Rows.{rows_test}
use Rattle.format.specs.Parser.{parsed, fault, certificate_buffer}
use Rattle.verdict.specs.Verdict.{reason_of}
use Rattle.std.specs.Prelude.{Ok, Err}
use Rattle.verdict.specs.declared.Refused.{Refused}
use Rattle.checker.specs.Checking.{Tally, one_more, take_all, tally_of, checked_of, located, cover_rowed, Within, Checks}
use Rattle.checker.specs.declared.checked.Position.{Position}
use Rattle.checker.proofs.CoverPlace.{cover_place}
use Rattle.checker.proofs.Checking.{take_one}

-- there is room to count one more, with its links
pub counted_fits : (cert : List ℕ) (t : Position) → Within cert t → t.counted + 4294967296 + 65535 < 18446744073709551616
counted_fits cert t w =
    let parts = div-add-mod' t.counted 4294967296 in
    let rest : t.counted % 4294967296 < 4294967296 = mod-lt t.counted (omega arith) in
    omega (arith, w.counted, w.inside, w.fits)

module _ (cert : List ℕ) (ms : List Located) (state : ℕ) where
  -- one cover
  module _ (o : Rowed) (t : Position) where
    module _ (links next : ℕ) (e : parsed links next ≡ cover_rowed cert ms state o t.at) (w : Within cert t) (small : links < 65536) where
      abbrev further : Position
      further = record { at = next; counted = t.counted + 4294967296 + links }

      place : (t.at < next) × (next ≤ length cert)
      place = cover_place (certificate_buffer cert) (rows_test o.rows) ms (located state o.shape) t.at (sym e)

      -- 65,535 links for each of 65,536 covers are less than 2^32
      links_room : (tally_of t).links + links < 4294967296
      links_room = omega (arith, w.linked, w.counted, w.fits, place)

      -- the counts before and after, as quotient and rest
      parts : tally_of further ≡ one_more (tally_of t) links
      parts =
          let before = div-add-mod' t.counted 4294967296 in
          let after = div-add-mod' further.counted 4294967296 in
          let rest : further.counted % 4294967296 < 4294967296 = mod-lt further.counted (omega arith) in
          ap₂ (λ (c k : ℕ). record { covers = c; links = k }) (omega (arith, links_room)) (omega (arith, links_room))

      pub one_taken : Checks cert ms state (o ∷ []) t (Ok further)
      one_taken = (
        rw (take_one (cover_rowed cert ms state o) (tally_of t) t.at, ← e, parts) refl,
        record {
          counted = omega (arith, ap (λ (n : Tally). n.covers) parts, w.counted, place.0);
          linked = omega (arith, ap (λ (n : Tally). n.covers) parts, ap (λ (n : Tally). n.links) parts, w.linked);
          inside = place.1;
          fits = w.fits;
        },
      )

    pub one_refused : (r : Refused) → fault (reason_of r.refusal) r.place ≡ cover_rowed cert ms state o t.at
        → checked_of (Err r) ≡ take_all (cover_rowed cert ms state o ∷ []) (tally_of t) t.at
    one_refused r e = rw (take_one (cover_rowed cert ms state o) (tally_of t) t.at, ← e) refl
