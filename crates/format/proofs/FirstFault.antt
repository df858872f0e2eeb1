-- The first faulty number is what a parser refuses.
use mathlib.Core.List.{List, [], ◌∷◌, ◌++◌, append-nil}
use mathlib.Core.Logic.{◌↔◌, ◌⊎◌, inl, inr}
use mathlib.Core.Path.{◌≡◌, refl, sym, ap, subst, subst₂, ◌∙◌}
use Prim.Native.Nat.{ℕ, ◌≤◌, ◌<◌}
use native.Mathlib.Decide.{dec_lt}
use native.Mathlib.Omega.{arith}
use lib.ListN.{length, take, length-append}
use lib.Seq.{take-take, take-length, take_at, length-take-le}
use Rattle.number.specs.Number.{largest, number_at, numeral}
use Rattle.number.specs.NumberList.{encode}
use Rattle.number.specs.Range.{AtMost}
use Rattle.run.specs.Run.{Located}
use Rattle.format.specs.Parser.{Reason, Parsed, parsed, fault, Parser}
use Rattle.format.specs.Meaning.{Whole, InFacts, Begun, NumberDue, Unread, OutOfRange}
use Rattle.format.proofs.Sequence.{Reads, one, number_in_lem, reads_append, reads_inside, reads_further, reads_over}
use Rattle.format.proofs.Parsing.{not_fault, Faulty}
use Rattle.format.proofs.Local.{agree_less, reads_local, written_reads, reads_before, before_reads, on, GoesOn, NumberFault, Completes}

-- what is read up to a place is one list
reads_same : (s : List ℕ) {place : ℕ} {ns ms : List ℕ} → Reads s 0 ns place → Reads s 0 ms place → ns ≡ ms
reads_same s r q = let e = sym (reads_before s r).1 ∙ (reads_before s q).1 in cc

at_most_later : (m : ℕ) (ns ms : List ℕ) → AtMost m (ns ++ ms) → AtMost m ms
at_most_later m [] ms h = h
at_most_later m (n ∷ ns) ms (_, h) = at_most_later m ns ms h

-- a buffer up to a place, with what is read there
cut_reads : (s : List ℕ) {place : ℕ} {ns : List ℕ} → Reads s 0 ns place → (length (take place s) ≡ place) × Reads (take place s) 0 ns (length (take place s))
cut_reads s {place} {ns} r =
    let inside = reads_inside r (omega arith) in
    let long = length-take-le place s inside in
    (long, subst (Reads (take place s) 0 ns) (sym long) (reads_local s (take place s) place (sym (take-take place place s (omega arith))) r (omega arith)))

module _ (L : ℕ → List Located → List ℕ → Type 0) where
  -- the number that is due can't be read or breaks its range
  abbrev pub FirstFault : List ℕ → Reason → Reason → Reason → ℕ → Type 0
  FirstFault s u o why place = ((u ≡ why) × Unread L s place) ⊎ ((o ≡ why) × OutOfRange L s place)

  due_at : {s : List ℕ} {u o why : Reason} {place : ℕ} → FirstFault s u o why place → NumberDue L s place
  due_at (inl (_, f)) = f.due
  due_at (inr (_, f)) = f.due

  -- p reads exactly the lists of numbers that are whole, which can be written, and where facts have begun it wants more
  pub record Accepts {A : Type 0} (u : Reason) (p : List ℕ → Parser A) : Type 0 where
    pub sound : (b : List ℕ) (x : A) (next : ℕ) → p b 0 ≡ parsed x next → (ns : List ℕ) × Whole L ns × Reads b 0 ns next
    pub complete : (b ns : List ℕ) (next : ℕ) → Whole L ns → Reads b 0 ns next → (x : A) × (p b 0 ≡ parsed x next)
    pub small : (ns : List ℕ) → Whole L ns → AtMost largest ns
    pub wants : (b ns : List ℕ) → InFacts L ns → Reads b 0 ns (length b) → p b 0 ≡ fault u (length b)

  module _ {A : Type 0} {p : List ℕ → Parser A} (u o l : Reason) (a : Accepts u p) {P : A → List ℕ → Type 0} (c : Completes u o l P (InFacts L) p) where
    faulty_number : (b : List ℕ) (why : Reason) (place : ℕ) → p b 0 ≡ fault why place → NumberFault u o l (InFacts L) p b 0 why place
    faulty_number b why place h = c.refused b 0 why place (omega arith) h

    -- the numbers before the one that is refused may stand
    refused_begun : (b : List ℕ) (why : Reason) (place : ℕ) (f : NumberFault u o l (InFacts L) p b 0 why place) → Begun L f.earlier
    refused_begun b why place f = by_begun f.begun
      where
        by_begun : GoesOn u o l p b 0 place ⊎ InFacts L f.earlier → Begun L f.earlier
        by_begun (inr k) = inr k
        by_begun (inl g) =
            let (ns, whole, r) = a.sound g.other g.value (length g.other) g.parses in
            let (n, later, _, e, _) = reads_further (reads_local b g.other place g.same f.before (omega arith)) r g.longer in
            inl (n ∷ later, subst (Whole L) e whole)

    -- on a buffer that consists of numbers p wants more at its end, or does what it does on every buffer that begins so
    wants_more : (b b' ns : List ℕ) → take (length b) b ≡ take (length b) b' → Reads b 0 ns (length b) → (p b 0 ≡ fault u (length b)) ⊎ (p b' 0 ≡ p b 0)
    wants_more b b' ns agree r = by_result (p b 0) refl
      where
        by_fault : (k : Reason) (q : ℕ) → p b 0 ≡ fault k q → NumberFault u o l (InFacts L) p b 0 k q → Dec (q < length b)
            → Faulty (on u o l b) (λ n. Unit {0}) k q → (p b 0 ≡ fault u (length b)) ⊎ (p b' 0 ≡ p b 0)
        by_fault k q h f (yes early) _ =
            let (n, _, next, _, g) = reads_further f.before r early in
            let (_, _, inside) = number_in_lem q _ _ _ _ n next g in
            inr (f.again n next g b' (agree_less b b' next (length b) (omega arith) agree) ∙ sym h)
        by_fault k q h f (no late) (inl (k_is, _)) =
            let inside = reads_inside f.before (omega arith) in
            let q_is : q ≡ length b = omega arith in
            inl (subst₂ (λ (x : Reason) (y : ℕ). p b 0 ≡ fault x y) k_is q_is h)
        by_fault k q h f (no late) (inr (_, (n, next, g, _))) = let (some_left, _, _) = number_in_lem q _ _ _ _ n next g in absurd (omega arith)

        by_result : (x : Parsed A) → p b 0 ≡ x → (p b 0 ≡ fault u (length b)) ⊎ (p b' 0 ≡ p b 0)
        by_result (parsed x next) h =
            let (_, g, _) = c.reads b 0 x next h in
            inr (c.same b b' 0 x next (agree_less b b' next (length b) (reads_inside g (omega arith)) agree) h ∙ sym h)
        by_result (fault k q) h = let f = faulty_number b k q h in by_fault k q h f (dec_lt q (length b)) f.faulty

    -- p has come to the end of the buffer, and is through or wants more
    Runs : List ℕ → Type 0
    Runs b = ((x : A) × (p b 0 ≡ parsed x (length b))) ⊎ (p b 0 ≡ fault u (length b))

    -- it does so in numbers that may stand
    runs : (b ns : List ℕ) → Begun L ns → Reads b 0 ns (length b) → Runs b
    unfolding Runs
    runs b ns (inr k) r = inr (a.wants b ns k r)
    runs b ns (inl (later, whole)) r = by_end (wants_more b (b ++ encode later) ns agree r)
      where
        agree : take (length b) b ≡ take (length b) (b ++ encode later)
        agree = take-length b ∙ sym (take_at b (encode later) (length b) refl)

        through : (x : A) × (p (b ++ encode later) 0 ≡ parsed x (length (b ++ encode later)))
        through =
            let small = at_most_later largest ns later (a.small (ns ++ later) whole) in
            a.complete (b ++ encode later) (ns ++ later) (length (b ++ encode later)) whole
            (reads_append (reads_local b (b ++ encode later) (length b) agree r (omega arith)) (written_reads b later small))

        by_end : (p b 0 ≡ fault u (length b)) ⊎ (p (b ++ encode later) 0 ≡ p b 0) → Runs b
        by_end (inl h) = inr h
        by_end (inr same) =
            let (x, h) = through in
            let (_, g, _) = c.reads b 0 x (length (b ++ encode later)) (sym same ∙ h) in
            let inside = reads_inside g (omega arith) in
            let long = length-append b (encode later) in
            let length_is : length (b ++ encode later) ≡ length b = omega arith in
            inl (x, sym same ∙ h ∙ ap (parsed x) length_is)

    -- the numbers before those that may stand may stand
    earlier_begun : (s : List ℕ) (ms ns : List ℕ) (place q : ℕ) → Reads s 0 ms place → Reads s 0 ns q → place ≤ q → Begun L ns → Begun L ms
    unfolding Runs
    earlier_begun s ms ns place q r r' order begun =
        let (long, g) = cut_reads s r in
        let (long', g') = cut_reads s r' in
        by_end long long' g (wants_more (take place s) (take q s) ms (agrees long) g) (runs (take q s) ns begun g')
      where
        agrees : length (take place s) ≡ place → take (length (take place s)) (take place s) ≡ take (length (take place s)) (take q s)
        agrees long = rw long (take-take place place s (omega arith) ∙ sym (take-take place q s order))

        -- on the shorter buffer p comes as far: it is no shorter
        as_far : length (take place s) ≡ place → q ≤ length (take place s) → Begun L ms
        as_far long far = let q_is : q ≡ place = omega arith in subst (Begun L) (reads_same s (rw q_is at r') r) begun

        by_end : length (take place s) ≡ place → length (take q s) ≡ q → Reads (take place s) 0 ms (length (take place s))
            → (p (take place s) 0 ≡ fault u (length (take place s))) ⊎ (p (take q s) 0 ≡ p (take place s) 0) → Runs (take q s) → Begun L ms
        by_end long long' g (inl h) _ =
            let f = faulty_number (take place s) u (length (take place s)) h in
            subst (Begun L) (reads_same (take place s) f.before g) (refused_begun (take place s) u (length (take place s)) f)
        by_end long long' g (inr same) (inl (x, h)) =
            let (_, k, _) = c.reads (take place s) 0 x q (sym same ∙ h ∙ ap (parsed x) long') in
            as_far long (reads_inside k (omega arith))
        by_end long long' g (inr same) (inr h) =
            as_far long (reads_inside (faulty_number (take place s) u q (sym same ∙ h ∙ ap (fault u) long')).before (omega arith))

    due : (b : List ℕ) (why : Reason) (place : ℕ) → p b 0 ≡ fault why place → NumberFault u o l (InFacts L) p b 0 why place → NumberDue L b place
    due b why place h f =
        record {
          earlier = f.earlier;
          before = reads_before b f.before;
          begun = refused_begun b why place f;
          unfinished = λ whole. let (x, z) = a.complete b f.earlier place whole f.before in not_fault x place why place (sym h ∙ z);
        }

    -- numbers that may stand are not refused
    outside : (b : List ℕ) (why : Reason) (place : ℕ) (f : NumberFault u o l (InFacts L) p b 0 why place) (n next : ℕ) → number_at b place ≡ numeral n next
        → ¬ Begun L (f.earlier ++ (n ∷ []))
    unfolding Runs
    outside b why place f n next g begun =
        let (_, further, _) = number_in_lem place _ _ _ _ n next g in
        let (long, r) = cut_reads b (reads_append f.before (one g)) in
        let again = f.again n next g (take next b) (sym (take-take next next b (omega arith))) in
        by_end again (omega arith) (runs (take next b) (f.earlier ++ (n ∷ [])) begun r)
      where
        by_end : p (take next b) 0 ≡ fault why place → place < length (take next b) → Runs (take next b) → ⊥
        by_end again further (inl (x, e)) = not_fault x (length (take next b)) why place (sym again ∙ e)
        by_end again further (inr e) =
            let z : ◌≡◌ {A = Parsed A} (fault why place) (fault u (length (take next b))) = sym again ∙ e in
            let place_is : place ≡ length (take next b) = cc in
            omega arith

    -- what p refuses is the first faulty number
    first_fault : (b : List ℕ) (why : Reason) (place : ℕ) → p b 0 ≡ fault why place → FirstFault b u o why place
    unfolding due
    first_fault b why place h = by_fault (faulty_number b why place h)
      where
        by_kind : (f : NumberFault u o l (InFacts L) p b 0 why place) → Faulty (on u o l b) (λ n. Unit {0}) why place → FirstFault b u o why place
        by_kind f (inl (k, g)) = inl (sym k, record { due = due b why place h f; unread = g })
        by_kind f (inr (k, (n, next, g, _))) =
            inr (sym k, record { due = due b why place h f; number = n; next = next; reads = g; outside = outside b why place f n next g })

        by_fault : NumberFault u o l (InFacts L) p b 0 why place → FirstFault b u o why place
        by_fault f = by_kind f f.faulty

    -- ---- and the other way round

    module _ (s : List ℕ) (why : Reason) (place : ℕ) where
      -- before the first faulty number p is not through, and refuses none
      wants_there : NumberDue L s place → p (take place s) 0 ≡ fault u place
      unfolding Runs
      wants_there d =
          let (long, g) = cut_reads s (before_reads s d.before) in
          by_end long g (runs (take place s) d.earlier d.begun g)
        where
          by_end : length (take place s) ≡ place → Reads (take place s) 0 d.earlier (length (take place s)) → Runs (take place s) → p (take place s) 0 ≡ fault u place
          by_end long g (inr h) = h ∙ ap (fault u) long
          by_end long g (inl (x, h)) =
              let (ns, whole, r) = a.sound (take place s) x (length (take place s)) h in
              absurd (d.unfinished (subst (Whole L) (reads_same (take place s) r g) whole))

      -- the numbers from there on may not stand
      not_beyond : (q : ℕ) (ns : List ℕ) → FirstFault s u o why place → Reads s 0 ns q → place < q → ¬ Begun L ns
      not_beyond q ns (inl (_, f)) r b begun =
          let (_, _, _, _, g) = reads_further (before_reads s f.due.before) r b in
          let k = f.unread in
          let z : ◌≡◌ {A = ℕ} 0 1 = cc in
          omega arith
      not_beyond q ns (inr (_, f)) r b begun =
          let r₁ = reads_append (before_reads s f.due.before) (one f.reads) in
          f.outside (earlier_begun s (f.due.earlier ++ (f.number ∷ [])) ns f.next q r₁ r (reads_over (before_reads s f.due.before) r b f.reads) begun)

      -- p refuses the first faulty number
      faults_there : FirstFault s u o why place → p s 0 ≡ fault why place
      faults_there w = by_result (p s 0) refl
        where
          early : p (take place s) 0 ≡ fault u place
          early = wants_there (due_at w)

          by_kind : (k : Reason) → p s 0 ≡ fault k place → Faulty (on u o l s) (λ n. Unit {0}) k place → FirstFault s u o why place
              → ◌≡◌ {A = Parsed A} (fault k place) (fault why place)
          by_kind k h (inl (x, _)) (inl (y, _)) = ap (λ (k : Reason). fault k place) (x ∙ y)
          by_kind k h (inr (x, _)) (inr (y, _)) = ap (λ (k : Reason). fault k place) (x ∙ y)
          by_kind k h (inl (_, g)) (inr (_, f)) = let e = f.reads in let z : ◌≡◌ {A = ℕ} 0 1 = cc in absurd (omega arith)
          by_kind k h (inr (_, (n, next, g, _))) (inl (_, f)) = let e = f.unread in let z : ◌≡◌ {A = ℕ} 0 1 = cc in absurd (omega arith)

          by_order : (k : Reason) (q : ℕ) → p s 0 ≡ fault k q → NumberFault u o l (InFacts L) p s 0 k q → Dec (q < place) → Dec (place < q)
              → ◌≡◌ {A = Parsed A} (fault k q) (fault why place)
          by_order k q h f (yes b) _ =
              let r = before_reads s (due_at w).before in
              let (n, _, next, _, g) = reads_further f.before r b in
              let over = reads_over f.before r b g in
              let z : ◌≡◌ {A = Parsed A} (fault k q) (fault u place) =
              sym (f.again n next g (take place s) (sym (take-take next place s over))) ∙ early in
              let q_is : q ≡ place = cc in
              absurd (omega arith)
          by_order k q h f (no _) (yes b) = absurd (not_beyond q f.earlier w f.before b (refused_begun s k q f))
          by_order k q h f (no b) (no b') =
              let q_is : q ≡ place = omega arith in
              ap (fault k) q_is ∙ by_kind k (rw q_is at h) (rw q_is at f.faulty) w

          by_end : (x : A) (next : ℕ) → p s 0 ≡ parsed x next → Dec (place < next) → parsed x next ≡ fault why place
          by_end x next h (yes b) =
              let (ns, whole, r) = a.sound s x next h in
              absurd (not_beyond next ns w r b (inl ([], subst (Whole L) (sym (append-nil ns)) whole)))
          by_end x next h (no b) =
              absurd (not_fault x next u place (sym early ∙ c.same s (take place s) 0 x next (sym (take-take next place s (omega arith))) h))

          by_result : (r : Parsed A) → p s 0 ≡ r → r ≡ fault why place
          by_result (parsed x next) h = by_end x next h (dec_lt place next)
          by_result (fault k q) h = by_order k q h (faulty_number s k q h) (dec_lt q place) (dec_lt place q)

    -- p refuses the first faulty number, and no other
    pub faults : (s : List ℕ) (why : Reason) (place : ℕ) → (p s 0 ≡ fault why place) ↔ FirstFault s u o why place
    faults s why place = (first_fault s why place, faults_there s why place)
