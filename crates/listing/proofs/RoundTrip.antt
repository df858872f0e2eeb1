-- The round trip: the text of a listing within the limits reads as that listing, and what reads as a listing is the text written of it. So a text is
-- one listing at most.
use mathlib.Core.List.Memᴰ
use mathlib.Core.List.{List, [], append-nil}
use mathlib.Core.Logic.{◌↔◌}
use mathlib.Core.Path.{◌≡◌, refl, sym, ap, ap₂, subst, ◌∙◌}
use Prim.Native.Nat.{ℕ, ◌≤◌}
use native.Mathlib.Omega.{arith}
use lib.ListN.{length}
use Rattle.lists.specs.List.{Every, Distinct}
use Rattle.lines.specs.declared.Line.{Line}
use Rattle.listing.specs.Limits.{depth_in, WithinLimits}
use Rattle.listing.specs.Listing.{Block}
use Rattle.listing.specs.Names.{number_in, letter_in, block_by}
use Rattle.listing.specs.Reading.{nothing_seen, first_fault, blocks, first_block, meet_lines, Listing, listing_of, listed, unless, read, write}
use Rattle.listing.specs.Text.{lines_in, lines_of, text_of}
use Rattle.listing.proofs.Depth.{Shallow, shallow_block, depth_by, from_limits}
use Rattle.listing.proofs.Faultless.{Faultless, all_inside, no_fault, blocks_lines}
use Rattle.listing.proofs.Letters.{lines_distinct, block_number_letter, spelled_block}
use Rattle.listing.proofs.Lines.{Proper, Inside, proper_lines, text_of_lines, lines_of_text}
use Rattle.listing.proofs.Read.{marks_block, marks_by, next_by, next_lines, lines_are, spelled, listed_text, read_within}

pub written_text : (text : List ℕ) (l : Listing) → read text ≡ listed l → write l ≡ text
written_text text l e =
    let ls = lines_of text in
    let h = listed_text text l e in
    let p = proper_lines text in
    ap write h.listing_is
    ∙ ap (λ c. text_of (lines_in c)) (spelled ls p h.no_fault)
    ∙ ap text_of (sym (lines_are ls p h.no_fault))
    ∙ text_of_lines text (all_inside ls nothing_seen h.no_fault)

module _ (l : Listing) (ok : WithinLimits l) where
  -- the statements with letters for numbers, and their lines
  abbrev block : Block
  block = block_by (letter_in l.names) l.statements

  abbrev ls : List Line
  ls = lines_in block

  distinct : Distinct l.names
  distinct = subst Distinct (sym ok.first_met) (lines_distinct [] ls tt)

  fine : Every Inside ls × Every Proper ls
  fine = spelled_block l.names distinct ok.letters l.statements ok.operands ok.marks

  faultless : Faultless ls nothing_seen
  faultless =
      let deep : depth_in block ≡ depth_in l.statements = depth_by (letter_in l.names) l.statements in
      let lines : length ls ≤ 63 =
      let s = ok.states in omega (arith, next_lines block 1, next_by (letter_in l.names) l.statements 1) in
      from_limits ls nothing_seen
      (record {
        inside = fine.0;
        shallow = subst (λ x. Shallow x 0) (append-nil ls) (shallow_block block [] 0 (let d = ok.depth in omega arith) refl);
        few = omega arith;
        names = subst (λ x. length x ≤ 8) ok.first_met ok.names;
        once =
            record {
              distinct = subst Distinct (sym (marks_block block ∙ marks_by (letter_in l.names) l.statements)) ok.once;
              fresh = λ k m. Memᴰ.not-nil;
            };
      })

  same_listing : listing_of ls ≡ l
  same_listing =
      let named : (names : List ℕ) → names ≡ l.names → block_by (number_in names) (first_block (blocks ls)) ≡ l.statements =
      λ names e.
      ap₂ (λ x y. block_by (number_in x) (first_block y)) e (blocks_lines block)
      ∙ block_number_letter l.names distinct ok.letters l.statements ok.operands in
      λ i. record { names = sym ok.first_met i; statements = named (meet_lines [] ls) (sym ok.first_met) i }

  pub reads_written : read (write l) ≡ listed l
  reads_written =
      ap (λ x. unless (first_fault x nothing_seen) (listing_of x)) (lines_of_text ls fine.0 fine.1)
      ∙ ap₂ unless (no_fault ls nothing_seen faultless) same_listing

-- A TEXT IS A LISTING exactly if it is the text of a listing within the limits
pub round_trip : (text : List ℕ) (l : Listing) → (read text ≡ listed l) ↔ (WithinLimits l × (write l ≡ text))
round_trip text l = (λ e. (read_within text l e, written_text text l e), λ (ok, e). subst (λ t. read t ≡ listed l) e (reads_written l ok))

pub one_listing : (k l : Listing) → WithinLimits k → WithinLimits l → write k ≡ write l → k ≡ l
one_listing k l a b e =
    let same : listed k ≡ listed l = sym (reads_written k a) ∙ ap read e ∙ reads_written l b in
    cc
