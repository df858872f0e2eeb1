-- The test of the links, cell by cell.
use mathlib.Core.Bool.{Bool, true}
use mathlib.Core.List.{List, []}
use mathlib.Core.Logic.{◌≢◌}
use mathlib.Core.Option.{some}
use mathlib.Core.Path.{◌≡◌, refl, sym, ap, ap₂, ◌∙◌}
use Prim.Native.Nat.{ℕ, ◌+◌, ◌*◌, ◌≤◌, ◌<◌}
use native.Mathlib.Decide.{dec_lt}
use native.Mathlib.Numerals.{add-one}
use native.Mathlib.Omega.{arith}
use borrow.Author.Tests.{eqb-true, eq-eqb, ne_eqb}
use lib.Dec.{eqb}
use lib.ListN.{length, get_or}
use Rattle.lists.specs.Test.{lowest, number_or}
use Rattle.lists.proofs.Reflect.{is_true, passes}
use Rattle.lists.proofs.Lowest.{Passing, pass_none, pass_more, pass_failed, pass_all}
use Rattle.heap.specs.Place.{nowhere, cell}
use Rattle.shape.specs.Shape.{Shape, link_at, size}
use Rattle.cover.specs.Lengths.{lengths_below}
use Rattle.cover.specs.Test.{image_map, stops, link_meets, between, between_below}
use Rattle.cover.proofs.Paths.{r_stops}
use Rattle.coverreader.specs.Images.{images_in}
use Rattle.covering.specs.Images.{image_in, path_fits, PathsFit}
use Rattle.covering.specs.Marks.{Marks, Walking, end_from, Followed, Linking}
use Rattle.coverreader.proofs.Images.{images_length, image_at}
use Rattle.marks.specs.Marks.{mark_in, cells_in, is_stop, walked, stop_from}
use Rattle.marks.proofs.Walks.{walk_few}
use Rattle.covering.proofs.Images.{image_of}
use Rattle.covering.proofs.Follow.{walk_follows}
use Rattle.covering.proofs.Ends.{ends_same}
use Rattle.covering.proofs.Paths.{path_none, link_none, link_some, below_none, length_none, path_counted, path_good, path_bad}

module _ (member covered : Shape) (cert : List ℕ) (first count : ℕ) (codes marks₀ s : List ℕ)
    (l : Linking member covered cert first count codes marks₀ s) where
  abbrev images : List ℕ
  images = images_in count codes

  abbrev test : ℕ → Bool
  test = path_fits member covered images

  -- the lengths of the paths of the first i cells, added up
  abbrev lengths : ℕ → ℕ
  lengths = lengths_below member (between member covered images)

  -- the links of the first i cells fit, their paths are marked, and so many links were followed; a walk follows at most 29
  pub record Fitting (marks : List ℕ) (i steps : ℕ) : Type 0 where
    pub inside : i ≤ count
    pub counted : steps ≡ lengths i
    pub few : steps ≤ 29 * i
    pub marked : Marks images (between_below member covered images i) marks
    pub passing : Passing test count i

  pub fit_none : Fitting marks₀ 0 0
  fit_none = record { inside = omega arith; counted = refl; few = omega arith; marked = l.marked; passing = pass_none test count }

  -- the link of cell i
  module _ (i : ℕ) (b : i < count) (p : ℕ) (e : p ≡ get_or cert (first + i) 0) where
    pub link_of : p ≡ link_at member (cell i)
    link_of = e ∙ l.same i b

    pub image_of_link : (end : ℕ) → end ≡ image_in codes p → end ≡ image_map images (link_at member (cell i))
    image_of_link end t = t ∙ image_of count (size covered) codes l.images p ∙ ap (image_map images) link_of

    -- the cell from which its path is followed
    module _ (from : ℕ) (g : from ≡ get_or codes (i + 3) 0) where
      pub image_of_cell : from ≡ image_map images (cell i)
      image_of_cell = g ∙ sym (image_at count (size covered) codes l.images i b)

      pub walk_from : (used marks : List ℕ) → Marks images used marks → Walking covered.links images used s marks from
      walk_from used marks marked =
          record {
            cells = l.covered_cells;
            linked = l.linked;
            marked = marked;
            low = omega (arith, g, l.images.low i b);
            high = omega (arith, g, l.images.high i b);
            image =
                is_true (stops images from)
                ((r_stops images from).tests (λ _. (i, omega (arith, images_length count (size covered) codes l.images), image_of_cell)));
            ends_in = λ q z. ends_in q ((r_stops images q).holds (passes (stops images q) z)) (dec_lt q (cell 0));
          }
        where
          ends_in : (q : ℕ) → (¬ (q < cell 0) → (j : ℕ) × (j < length images) × (q ≡ cell (get_or images j 0))) → Dec (q < cell 0) → q < cell (size covered)
          ends_in q h (yes b) = omega arith
          ends_in q h (no b) =
              let (j, c, z) = h b in
              let d : j < count = omega (arith, images_length count (size covered) codes l.images) in
              omega (arith, z, image_at count (size covered) codes l.images j d, l.images.high j d)

  -- a stop by its mark
  pub is_a_stop : (marks : List ℕ) (r : ℕ) → is_stop s marks r ≡ true → mark_in (size covered) marks r ≡ 1
  is_a_stop marks r e = rw l.covered_cells (eqb-true (mark_in (cells_in s) marks r) 1 e)

  pub told_a_stop : (marks : List ℕ) (r : ℕ) → mark_in (size covered) marks r ≡ 1 → is_stop s marks r ≡ true
  told_a_stop marks r e = eq-eqb (mark_in (cells_in s) marks r) 1 (rw l.covered_cells at e)

  -- the path of a cell is the first that fails
  pub fit_ends : (i steps : ℕ) → i < count → lowest count 0 test ≡ some i
      → (i ≡ number_or count (lowest count 0 test)) × (count ≤ i → PathsFit member covered images count steps)
  fit_ends i steps b e = (sym (ap (number_or count) e), λ o. absurd (omega arith))

  module _ (marks : List ℕ) (i steps : ℕ) (f : Fitting marks i steps) where
    pub fit_all : count ≤ i → PathsFit member covered images count steps
    fit_all b =
        let all : i ≡ size member = omega (arith, f.inside, l.cells) in
        record { fit = pass_all test count i f.passing b; counted = f.counted ∙ ap lengths all }

    pub walked_few : (q n : ℕ) → n ≡ (walked s marks q).links → n ≤ 29
    walked_few q n d = omega (arith, d, walk_few s (length marks) 1 marks q, f.marked.room)

    module _ (b : i < count) (p : ℕ) (e : p ≡ get_or cert (first + i) 0) where
      pub fit_skip : (marks' : List ℕ) → marks' ≡ marks → p ≡ nowhere → Fitting marks' (i + 1) steps
      fit_skip marks' y z =
          let none : link_at member (cell i) ≡ nowhere = sym (link_of i b p e) ∙ z in
          record {
            inside = omega arith;
            counted = rw (add-one i) (f.counted ∙ sym (length_none member covered images i none));
            few = omega (arith, f.few);
            marked = rw (y, add-one i, below_none member covered images i none) f.marked;
            passing = pass_more test count i f.passing b (path_none member covered images i none);
          }

      module _ (from : ℕ) (g : from ≡ get_or codes (i + 3) 0) where
        pub fit_walk : Walking covered.links images (between_below member covered images i) s marks from
        fit_walk = walk_from i b p e from g (between_below member covered images i) marks f.marked

        -- what the walk by marks gives
        pub fit_walked : (q r n : ℕ) (marks' : List ℕ) → q ≡ get_or s from 0 → r ≡ (walked s marks q).end → n ≡ (walked s marks q).links
            → marks' ≡ (walked s marks q).marks → Followed covered.links images (between_below member covered images i) from r n marks'
        fit_walked q r n marks' z a d c =
            rw (a, d, c, z) (walk_follows covered.links images (between_below member covered images i) s marks from fit_walk)

        module _ (o : p ≢ nowhere) (end : ℕ) (t : end ≡ image_in codes p) (r n : ℕ) (marks' : List ℕ)
            (w : Followed covered.links images (between_below member covered images i) from r n marks') where
          stop : end ≡ image_map images (link_at member (cell i))
          stop = image_of_link i b p e end t

          some_link : link_at member (cell i) ≢ nowhere
          some_link z = o (link_of i b p e ∙ z)

          start : from ≡ image_map images (cell i)
          start = image_of_cell i b p e from g

          pub fit_good : r ≡ end → stops images r ≡ true → n ≤ 29 → Fitting marks' (i + 1) (steps + n)
          fit_good z e most =
              let w' : Followed covered.links images (between_below member covered images i) (image_map images (cell i)) r n marks' = rw (← start) w in
              let (good, marked) = path_good member covered images i some_link r n marks' w' (z ∙ stop) e in
              record {
                inside = omega arith;
                counted = rw (add-one i) (omega (arith, f.counted, path_counted member covered images i some_link r n marks' w' e));
                few = omega (arith, f.few);
                marked = rw (add-one i) marked;
                passing = pass_more test count i f.passing b good;
              }

          pub fit_bad : (stops images r ≡ true → r ≢ end) → lowest count 0 test ≡ some i
          fit_bad m =
              pass_failed test count i f.passing b
              (path_bad member covered images i some_link r n marks' (rw (← start) w) (λ e z. m e (z ∙ sym stop)))

  -- ---- links alone: where their paths end

  abbrev meets : ℕ → Bool
  meets = link_meets member covered images

  module _ (i : ℕ) (k : Passing meets count i) (b : i < count) (p : ℕ) (e : p ≡ get_or cert (first + i) 0) where
    pub meet_skip : p ≡ nowhere → Passing meets count (i + 1)
    meet_skip z = pass_more meets count i k b (link_none member covered images i (sym (link_of i b p e) ∙ z))

    module _ (from : ℕ) (g : from ≡ get_or codes (i + 3) 0) (o : p ≢ nowhere) (end : ℕ) (t : end ≡ image_in codes p) (q r : ℕ) (z : q ≡ get_or s from 0)
        (a : r ≡ stop_from (cells_in s) s marks₀ q) where
      w : r ≡ end_from covered.links images from
      w = a ∙ ap (stop_from (cells_in s) s marks₀) z ∙ ends_same covered.links images [] s marks₀ from (walk_from i b p e from g [] marks₀ l.marked)

      at_end : link_meets member covered images i ≡ eqb r end
      at_end =
          link_some member covered images i (λ z. o (link_of i b p e ∙ z))
          ∙ ap₂ eqb (ap (end_from covered.links images) (sym (image_of_cell i b p e from g)) ∙ sym w) (sym (image_of_link i b p e end t))

      pub meet_more : r ≡ end → Passing meets count (i + 1)
      meet_more z = pass_more meets count i k b (at_end ∙ eq-eqb r end z)

      pub meet_not : r ≢ end → lowest count 0 meets ≡ some i
      meet_not z = pass_failed meets count i k b (at_end ∙ ne_eqb r end z)
