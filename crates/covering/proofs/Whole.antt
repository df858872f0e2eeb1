-- The test of a member in a buffer against a shape in an array, part by part.
use mathlib.Core.Bool.{Bool, true, false, ◌||◌, not}
use mathlib.Core.List.{List, []}
use mathlib.Core.Logic.{◌≢◌}
use mathlib.Core.Option.{Option, some, none}
use mathlib.Core.Path.{◌≡◌, refl, sym, ap, ap₂, ◌∙◌}
use Prim.Native.Nat.{ℕ, suc, ◌+◌, ◌<◌}
use native.Mathlib.Decide.{dec_lt}
use native.Mathlib.Numerals.{add-one}
use native.Mathlib.Omega.{arith}
use borrow.Author.Tests.{eq-eqb, ne_eqb}
use lib.Dec.{eqb}
use lib.ListN.{length, get_or, drop, length-take, length-drop}
use lib.Seq.{length-take-le, get_or-take, get_or-drop}
use Rattle.lists.specs.Test.{all_from, lowest, number_or}
use Rattle.lists.proofs.Lowest.{lowest_none, found_at, found_none, passed_all, lowest_same, next, lowest_next, lowest_second, lowest_both}
use Rattle.lists.proofs.Test.{all_at, all_made}
use Rattle.heap.specs.Place.{cell}
use Rattle.shape.specs.Shape.{Shape, var_at, size}
use Rattle.run.specs.Run.{Located}
use Rattle.cover.specs.Test.{image_map, image_once, var_fits, link_meets, path_unshared, facts_in, Answer, holds, broken, or_else, answer_by, links_followed}
use Rattle.layout.specs.ShapeArray.{cell_count, links_in, shape_in}
use Rattle.layout.specs.Entries.{located_at}
use Rattle.covering.specs.Answer.{Tested, last_answer}
use Rattle.coverreader.specs.Images.{images_in, ImageCodes}
use Rattle.covering.specs.Images.{image_in, once_at, once, var_fits_in, path_fits, PathsFit}
use Rattle.covering.specs.Marks.{Marks, LinksIn, Linking}
use Rattle.coverreader.proofs.Images.{images_length}
use Rattle.covering.proofs.Images.{image_of}

module _ (cert : List ℕ) (variables start : ℕ) (codes s : List ℕ) (t : Tested cert variables start codes s) where
  -- ---- the covered shape

  abbrev n : ℕ
  n = size (shape_in variables s)

  covered_linked : LinksIn (links_in s) s
  covered_linked =
      record {
        fit = t.images.most;
        same = λ i b.
            let swap : 3 + i ≡ cell i = omega arith in
            rw (← swap) (sym (get_or-take (cell_count s) (drop 3 s) i 0 (omega (arith, length-take (cell_count s) (drop 3 s))) ∙ get_or-drop 3 s i 0));
      }

  -- ---- the member

  abbrev cells : ℕ
  cells = get_or cert (start + 1) 0

  abbrev member : Shape
  member = (located_at cert variables start).shape

  abbrev covered : Shape
  covered = shape_in variables s

  abbrev images : List ℕ
  images = images_in cells codes

  member_size : size member ≡ cells
  member_size =
      length-take-le cells (drop (start + 2 + variables) cert) (omega (arith, length-drop (start + 2 + variables) cert, t.whole.inside))

  member_vars : length member.vars ≡ variables
  member_vars = length-take-le variables (drop (start + 2) cert) (omega (arith, length-drop (start + 2) cert, t.whole.inside))

  member_var : (i : ℕ) → i < variables → get_or cert (start + 2 + i) 0 ≡ var_at member (suc i)
  member_var i b = sym (get_or-take variables (drop (start + 2) cert) i 0 b ∙ get_or-drop (start + 2) cert i 0)

  linking : (marks : List ℕ) → Marks images [] marks → Linking member covered cert (start + 2 + variables) cells codes marks s
  linking marks m =
      record {
        inside = t.whole.inside;
        cells = member_size;
        same = λ i b. sym (get_or-take cells (drop (start + 2 + variables) cert) i 0 b ∙ get_or-drop (start + 2 + variables) cert i 0);
        covered_cells = refl;
        images = t.images;
        linked = covered_linked;
        marked = m;
      }

  var_same : (i : ℕ) → i < variables → var_fits member covered images (suc i) ≡ var_fits_in cert (start + 2) codes s i
  var_same i b =
      let swap : 18 + i ≡ i + 18 = omega arith in
      let have : var_at covered (suc i) ≡ get_or s (i + 18) 0 = rw (← swap) (get_or-take variables (drop 18 s) i 0 b ∙ get_or-drop 18 s i 0) in
      let want : image_map images (get_or cert (start + 2 + i) 0) ≡ image_in codes (get_or cert (start + 2 + i) 0) =
      sym (image_of cells n codes t.images (get_or cert (start + 2 + i) 0)) in
      rw (← member_var i b, have, want) refl

  -- ---- the answer, rule by rule; a test tells the facts of the covered shape

  module _ (among : ℕ → ℕ → ℕ → Bool) (state : ℕ) where
    abbrev of_shape : Located
    of_shape = record { state = state; shape = covered }

    abbrev answer : Answer
    answer = answer_by among (located_at cert variables start) images of_shape

    abbrev missing : Option ℕ
    missing = lowest cells 0 (facts_in member covered images among)

    abbrev by_paths : Answer
    by_paths = last_answer member covered images cells missing

    abbrev by_variables : Answer
    by_variables = or_else 3 (next (lowest variables 0 (var_fits_in cert (start + 2) codes s))) by_paths

    abbrev by_images : Answer
    by_images = or_else 2 (lowest cells 0 (once_at images)) by_variables

    twice_same : lowest (size member) 0 (image_once member covered images) ≡ lowest cells 0 (once_at images)
    twice_same =
        let long = images_length cells n codes t.images in
        ap₂ {A = ℕ} {B = ℕ} {C = Option ℕ}
        (λ a b. lowest a 0 (λ i. all_from b 0 (λ j. eqb i j || not (eqb (get_or images i 0) (get_or images j 0))))) member_size (member_size ∙ sym long)

    vars_same : lowest (length member.vars) 1 (var_fits member covered images) ≡ next (lowest variables 0 (var_fits_in cert (start + 2) codes s))
    vars_same =
        ap (λ (k : ℕ). lowest k 1 (var_fits member covered images)) member_vars
        ∙ lowest_next (var_fits member covered images) variables 0
        ∙ ap next (lowest_same (λ i. var_fits member covered images (suc i)) (var_fits_in cert (start + 2) codes s) variables 0 (λ i _ b. var_same i (omega arith)))

    answer_parts : answer ≡ or_else 1 (lowest 1 0 (λ _. eqb (get_or cert start 0) state)) by_images
    answer_parts =
        ap (or_else 1 (lowest 1 0 (λ _. eqb (get_or cert start 0) state)))
        (ap₂ (or_else 2) twice_same
        (ap₂ (or_else 3) vars_same
        (ap (λ (k : ℕ). last_answer member covered images k (lowest k 0 (facts_in member covered images among))) member_size)))

    pub answer_state : get_or cert start 0 ≢ state → broken 1 0 ≡ answer
    unfolding lowest
    answer_state d = sym (answer_parts ∙ rw (ne_eqb (get_or cert start 0) state d) refl)

    module _ (same : get_or cert start 0 ≡ state) where
      from_images : answer ≡ by_images
      unfolding lowest
      from_images = answer_parts ∙ rw (eq-eqb (get_or cert start 0) state same) refl

      -- where two images are the same, one is found
      pub answer_image : (i : ℕ) → once images ≡ false → i ≡ number_or cells (lowest cells 0 (once_at images))
          → broken 2 i ≡ answer
      answer_image i a e = sym (from_images ∙ ap (λ o. or_else 2 o by_variables) (found (dec_lt i cells)))
        where
          found : Dec (i < cells) → lowest cells 0 (once_at images) ≡ some i
          found (yes b) = found_at (once_at images) cells i e b
          found (no b) =
              let long = images_length cells n codes t.images in
              let all : once images ≡ true =
              all_made (once_at images) (length images) 0
              (λ j _ c. passed_all (once_at images) cells j (found_none (once_at images) cells i e (omega arith)) (omega arith)) in
              let z : true ≡ false = sym all ∙ a in
              cc

      module _ (a : once images ≡ true) where
        from_variables : answer ≡ by_variables
        from_variables =
            let long = images_length cells n codes t.images in
            let no_twice : lowest cells 0 (once_at images) ≡ none =
            lowest_none (once_at images) cells 0 (λ j l b. all_at (once_at images) (length images) 0 j a (omega arith) (omega arith)) in
            from_images ∙ ap (λ o. or_else 2 o by_variables) no_twice

        pub answer_variable : (v : ℕ) → lowest variables 0 (var_fits_in cert (start + 2) codes s) ≡ some v
            → broken 3 (v + 1) ≡ answer
        answer_variable v e = rw (add-one v) (sym (from_variables ∙ ap (λ o. or_else 3 (next o) by_paths) e))

        module _ (b : lowest variables 0 (var_fits_in cert (start + 2) codes s) ≡ none) where
          pub answer_paths : by_paths ≡ answer
          answer_paths = sym (from_variables ∙ ap (λ o. or_else 3 (next o) by_paths) b)

          module _ (e : lowest cells 0 (path_fits member covered images) ≡ none) where
            from_facts : or_else 6 missing holds ≡ answer
            from_facts =
                let (meet, apart) = lowest_both (link_meets member covered images) (path_unshared member covered images) cells e in
                ap₂ (λ o u. or_else 4 o (or_else 5 u (or_else 6 missing holds))) (sym meet) (sym apart) ∙ answer_paths

            pub answer_fact : (i : ℕ) → missing ≡ some i → broken 6 i ≡ answer
            answer_fact i z = ap (λ o. or_else 6 o holds) (sym z) ∙ from_facts

            pub answer_whole : missing ≡ none → holds ≡ answer
            answer_whole z = ap (λ o. or_else 6 o holds) (sym z) ∙ from_facts

  -- ---- the two rules of paths, where the path of cell i is the first that fails

  module _ (missing : Option ℕ) where
    paths_miss : (j : ℕ) → lowest cells 0 (link_meets member covered images) ≡ some j → broken 4 j ≡ last_answer member covered images cells missing
    paths_miss j e = sym (ap (λ o. or_else 4 o (or_else 5 (lowest cells 0 (path_unshared member covered images)) (or_else 6 missing holds))) e)

    paths_share : (i : ℕ) → lowest cells 0 (path_fits member covered images) ≡ some i → lowest cells 0 (link_meets member covered images) ≡ none
        → broken 5 i ≡ last_answer member covered images cells missing
    paths_share i e meet =
        let apart : lowest cells 0 (path_unshared member covered images) ≡ some i =
        sym (lowest_second (link_meets member covered images) (path_unshared member covered images) cells meet) ∙ e in
        sym (ap₂ (λ o u. or_else 4 o (or_else 5 u (or_else 6 missing holds))) meet apart)

  -- ---- the tests in turn, where the number of the member's cells has been read

  module _ (count : ℕ) (read : count ≡ cells) where
    pub images_in_lem : ImageCodes count 25 codes
    images_in_lem =
        rw read
        (record {
          room = t.images.room;
          few = t.images.few;
          most = omega arith;
          nowhere_fixed = t.images.nowhere_fixed;
          null_fixed = t.images.null_fixed;
          dangling_fixed = t.images.dangling_fixed;
          low = t.images.low;
          high = λ i b. omega (arith, t.images.high i b, t.images.most);
          rest = t.images.rest;
        })

    pub linking_read : (marks : List ℕ) → Marks (images_in count codes) [] marks
        → Linking member covered cert (start + 2 + variables) count codes marks s
    linking_read marks = rw read (linking marks)

    pub marks_cells : (marks : List ℕ) → Marks (images_in count codes) [] marks → Marks images [] marks
    marks_cells marks m = rw read at m

    module _ (among : ℕ → ℕ → ℕ → Bool) (state : ℕ) (same : get_or cert start 0 ≡ state) where
      pub image_found : (i : ℕ) → once (images_in count codes) ≡ false → i ≡ number_or count (lowest count 0 (once_at (images_in count codes)))
          → broken 2 i ≡ answer among state
      image_found i a e = answer_image among state same i (rw read at a) (rw read at e)

      module _ (a : once (images_in count codes) ≡ true) where
        pub variable_found : (v : ℕ) → lowest variables 0 (var_fits_in cert (start + 2) codes s) ≡ some v → broken 3 (v + 1) ≡ answer among state
        variable_found v e = answer_variable among state same (rw read at a) v e

        module _ (e : lowest variables 0 (var_fits_in cert (start + 2) codes s) ≡ none) where
          pub path_found : (r : Answer) → ((missing : Option ℕ) → r ≡ last_answer member covered images cells missing) → r ≡ answer among state
          path_found r h = h (missing among state) ∙ answer_paths among state same (rw read at a) e

          module _ (links : ℕ) (paths : PathsFit member covered (images_in count codes) count links) where
            pub fact_found : (i : ℕ) → lowest count 0 (facts_in member covered (images_in count codes) among) ≡ some i → broken 6 i ≡ answer among state
            fact_found i h = answer_fact among state same (rw read at a) e (rw read at paths.fit) i (rw read at h)

            pub nothing_found : lowest count 0 (facts_in member covered (images_in count codes) among) ≡ none → holds ≡ answer among state
            nothing_found h = answer_whole among state same (rw read at a) e (rw read at paths.fit) (rw read at h)

    -- the links followed where every path fits
    pub links_told : (links : ℕ) → PathsFit member covered (images_in count codes) count links → links ≡ links_followed member covered images
    links_told links paths = rw read at paths.counted

    -- the path of a cell fails
    pub first_failing : (i : ℕ) → lowest count 0 (path_fits member covered (images_in count codes)) ≡ some i
        → lowest cells 0 (path_fits member covered images) ≡ some i
    first_failing i h = rw read at h

    pub miss_found : (missing : Option ℕ) (j : ℕ) → lowest count 0 (link_meets member covered (images_in count codes)) ≡ some j
        → broken 4 j ≡ last_answer member covered images cells missing
    miss_found missing j e = paths_miss missing j (rw read at e)

    pub share_found : (missing : Option ℕ) (i : ℕ) → lowest cells 0 (path_fits member covered images) ≡ some i
        → lowest count 0 (link_meets member covered (images_in count codes)) ≡ none → broken 5 i ≡ last_answer member covered images cells missing
    share_found missing i h e = paths_share missing i h (rw read at e)
