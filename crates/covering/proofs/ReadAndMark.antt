-- Images of one byte, as they are read and marked in one pass.
use mathlib.Core.Bool.{true, false}
use mathlib.Core.List.{List, []}
use mathlib.Core.Option.{none}
use mathlib.Core.Path.{◌≡◌, refl, sym, ap, ◌∙◌}
use Prim.Native.Nat.{ℕ, ◌+◌, ◌≤◌, ◌<◌}
use native.Mathlib.Omega.{arith}
use Rattle.std.specs.Prelude.{Option, None, Some, IfSome}
use lib.ListN.{length, get_or, set}
use Rattle.number.specs.Number.{number_at, numeral}
use Rattle.number.proofs.Reading.{one_byte}
use Rattle.lists.specs.Test.{lowest}
use Rattle.heap.specs.Place.{cell}
use Rattle.shape.specs.Shape.{Shape, size}
use Rattle.cover.specs.Test.{answer_by}
use Rattle.layout.specs.Entries.{located_at, Whole}
use Rattle.layout.specs.ShapeArray.{shape_in}
use Rattle.covering.specs.Answer.{Tested}
use Rattle.coverreader.specs.Images.{images_in, ImageCodes}
use Rattle.covering.specs.Images.{var_fits_in, PathsFit}
use Rattle.covering.specs.Marks.{Marks, Linking}
use Rattle.marks.specs.Marks.{is_free, marking}
use Rattle.marks.proofs.Images.{marking_read, was_free, was_marked}
use Rattle.covering.specs.Quick.{ImagesMarked, ReadAndMarked, ImagesEmbed}
use Rattle.covering.proofs.Marking.{Marking, marking_none, marking_once, marking_more, marks_again}
use Rattle.coverreader.proofs.ReadImages.{images_snoc, Reading, reading_none, reading_all, reading_more}
use Rattle.covering.proofs.Facts.{bare_holds}
use Rattle.covering.proofs.Whole.{linking_read, answer_whole}

module _ (cert : List ℕ) (first n count : ℕ) where
  -- the first i images are read, one byte each, and marked
  pub record ReadingMarked (codes marks : List ℕ) (i : ℕ) : Type 0 where
    pub reading : Reading cert first n count codes (first + i) i
    pub marking : Marking (images_in i codes) marks

  pub taking_none : (codes marks : List ℕ) → ImageCodes 0 n codes → Marks [] [] marks → ReadingMarked codes marks 0
  taking_none codes marks c m =
      let here : first + 0 ≡ first = omega arith in
      record { reading = rw here (reading_none cert first n count codes c); marking = marking_none marks m }

  module _ (codes marks : List ℕ) (i : ℕ) (t : ReadingMarked codes marks i) where
    pub taking_more : first + count ≤ length cert → count ≤ 12 → n ≤ 25 → i < count → (x p : ℕ) → x ≡ get_or cert (first + i) 0 → x < n → p ≡ x + 3
        → is_free marks p ≡ true → ReadingMarked (set codes (i + 3) (x + 3)) (marking marks p) (i + 1)
    taking_more inside few most b x p e below place was =
        let room : p < 28 = omega arith in
        let free : get_or marks p 0 ≡ 0 = was_free marks p room was in
        let next : first + (i + 1) ≡ first + i + 1 = omega arith in
        let coded : p ≡ cell x = omega arith in
        let number : number_at cert (first + i) ≡ numeral x (first + i + 1) = sym (one_byte cert (first + i) x e (omega arith) (omega arith)) in
        record {
          reading = rw next (reading_more cert first n count codes (first + i) i t.reading b x (first + i + 1) few number below);
          marking =
              rw (marking_read marks p room, images_snoc n i codes t.reading.images x (omega arith), coded)
              (marking_more (images_in i codes) marks t.marking x (omega arith) (rw coded at free));
        }

    taking_all : count ≤ i → ImagesMarked cert first n count codes marks
    taking_all b =
        let end : i ≡ count = omega (arith, t.reading.inside) in
        let (reads, images) = reading_all cert first n count codes (first + i) i t.reading b in
        let m : Marking (images_in count codes) marks = rw end at t.marking in
        record {
          read = record { reads = rw end at reads; images = λ _ _. images };
          apart = marking_once (images_in count codes) marks m;
          marked = m.marked;
        }

    -- what is left where the loop ends: early, at an image that was read before, or with all images
    pub taking_ended : ReadAndMarked cert first n count false codes marks
    taking_ended = record { taken = i; marked = t.marking.marked; whole = λ z. let v : ◌≡◌ {A = ℕ} 0 1 = cc in absurd (omega arith) }

    pub taking_again : (p : ℕ) → p < 28 → is_free marks p ≡ false → ReadAndMarked cert first n count false codes (marking marks p)
    taking_again p b e =
        record {
          taken = i;
          marked = rw (marking_read marks p b) (marks_again (images_in i codes) marks p t.marking.marked b (was_marked marks p b e));
          whole = λ z. let v : ◌≡◌ {A = ℕ} 0 1 = cc in absurd (omega arith);
        }

    pub taking_whole : count ≤ i → ReadAndMarked cert first n count true codes marks
    taking_whole b = record { taken = i; marked = t.marking.marked; whole = λ _. taking_all b }

-- ---- what the images, once they are taken, say of the member that starts at a place and of the shape in an array

module _ (cert : List ℕ) (variables start n : ℕ) (s : List ℕ) (whole : Whole cert variables start) (held : size (shape_in variables s) ≡ n)
    (first count : ℕ) (read : count ≡ get_or cert (start + 1) 0) (codes marks : List ℕ) (t : ImagesMarked cert first n count codes marks) where
  abbrev member : Shape
  member = (located_at cert variables start).shape

  tested : Tested cert variables start codes s
  tested = record { whole = whole; images = rw held (rw read at (t.read.images (first + count) refl)) }

  pub taken_linking : Linking member (shape_in variables s) cert (start + 2 + variables) count codes marks s
  taken_linking = linking_read cert variables start codes s tested count read marks t.marked

  pub taken_embed : member.facts ≡ [] → lowest variables 0 (var_fits_in cert (start + 2) codes s) ≡ none
      → (links : ℕ) → PathsFit member (shape_in variables s) (images_in count codes) count links → ImagesEmbed cert start variables first count s links
  taken_embed bare vars links paths =
      let cells = get_or cert (start + 1) 0 in
      record {
        codes = codes;
        read = rw held t.read;
        counted = paths.counted;
        holds = λ among covered shape_is state_is.
            rw read
            (ap (answer_by among (located_at cert variables start) (images_in cells codes)) (λ i. record { state = state_is i; shape = shape_is i })
            ∙ sym (answer_whole cert variables start codes s tested among (get_or cert start 0) refl (rw read at t.apart) vars (rw read at paths.fit)
            (bare_holds member (shape_in variables s) (images_in cells codes) among bare cells)));
      }

  -- the same of what the code tells of the links
  pub taken_embeds : member.facts ≡ [] → lowest variables 0 (var_fits_in cert (start + 2) codes s) ≡ none
      → (r : Option ℕ) → IfSome r (PathsFit member (shape_in variables s) (images_in count codes) count) → IfSome r (ImagesEmbed cert start variables first count s)
  taken_embeds bare vars None paths = tt
  taken_embeds bare vars (Some links) paths = taken_embed bare vars links paths
