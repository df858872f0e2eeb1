-- What the parsers of jobs and members have read without refusal begins a job, or members, in range, or facts have begun: they refuse the first
-- faulty number.
use mathlib.Core.Bool.{Bool}
use mathlib.Core.List.Memᴰ
use mathlib.Core.List.{List, [], ◌∷◌, ◌++◌, map, append-nil, append_assoc}
use mathlib.Core.Logic.{◌↔◌}
use mathlib.Core.Option.{none, some}
use mathlib.Core.Path.{◌≡◌, refl, sym, ap, subst, subst₂, ◌∙◌}
use Prim.Native.Nat.{ℕ, zero, suc, ◌-◌, ◌≤◌, ◌<◌}
use native.Mathlib.Decide.{ℕ_discrete}
use native.Mathlib.Omega.{arith}
use borrow.Author.Tests.{ne_eqb}
use lib.Dec.{T, leb}
use lib.ListN.{length, take, length-append, length-map, replicate, length-replicate}
use lib.Seq.{take_at}
use Rattle.lists.specs.List.{Every, concat_map}
use Rattle.lists.proofs.List.{every_none, every_cons, every_append, concat_map_append}
use Rattle.lists.proofs.Reflect.{r_eq, r_le, r_lt, r_and, cond_true, cond_cases}
use Rattle.number.specs.Number.{largest}
use Rattle.number.specs.Range.{AtMost}
use Rattle.heap.specs.Operation.{Kind, kind_of, allows_a, allows_b}
use Rattle.heap.specs.Place.{cell}
use Rattle.heap.proofs.Rows.{tested, most_b_is}
use Rattle.facts.specs.Facts.{FactOf}
use Rattle.shape.specs.Shape.{size, AllBelow, InRange}
use Rattle.run.specs.Run.{Transition, Located}
use Rattle.format.specs.Parser.{refusal, Reason, fault, Parser, ◌>>=◌, job_buffer, within, such, many, read_as, ranged}
use Rattle.format.specs.Job.{kind_in, read_shape, read_located, read_transition, read_job}
use Rattle.format.specs.JobNumbers.{JobFile, transition_numbers, located_numbers, job_numbers}
use Rattle.format.specs.JobBytes.{last_kind, LocatedInRange, TransitionInRange, JobInRange}
use Rattle.format.specs.Meaning.{FactsBegun, InFacts, OfJob}
use Rattle.format.proofs.Sequence.{Reads, one, reads_first, reads_split}
use Rattle.format.proofs.Parsing.{ranged_exact, many_exact, many_refuses, codes_exact}
use Rattle.format.proofs.Files.{kind_in_lem, in_kind, located_exact, transition_exact, file_with, job_opening, opening_is, job_opened, job_exact}
use Rattle.format.proofs.Written.{small_job}
use Rattle.format.proofs.Local.{on, Some, Never, Of, Among, Completes, completes_weaken, completes_return, completes_read, completes_bind, completes_of, completes_many}
use Rattle.format.proofs.FirstFault.{FirstFault, Accepts, faults}
use Rattle.format.proofs.FactFaults.{facts_want, completes_facts}

-- every row of the table of kinds allows variable 1 as a, and its least b
pub record AllowsSome (variables : ℕ) (row : Kind) : Type 0 where
  pub first : row.least_a ≤ 1
  pub second : row.least_b ≤ 1
  pub room : row.least_b ≤ row.most_b variables

allows_some : (variables kind : ℕ) (row : Kind) → 1 ≤ variables → kind_of kind ≡ some row → AllowsSome variables row
allows_some variables kind row h f = record { first = first; second = second; room = room (ℕ_discrete (row.most_b 1) 0) }
  where
    first : row.least_a ≤ 1
    first = (r_le row.least_a 1).holds (tested (λ kind row. leb row.least_a 1) refl kind row f)

    second : row.least_b ≤ 1
    second = (r_le row.least_b 1).holds (tested (λ kind row. leb row.least_b 1) refl kind row f)

    room_one : row.least_b ≤ row.most_b 1
    room_one = (r_le row.least_b (row.most_b 1)).holds (tested (λ kind row. leb row.least_b (row.most_b 1)) refl kind row f)

    room : Dec (row.most_b 1 ≡ 0) → row.least_b ≤ row.most_b variables
    room (yes z) = let none : row.least_b ≤ 0 = rw z at room_one in omega arith
    room (no z) = rw (most_b_is variables kind row f, ne_eqb (row.most_b 1) 0 z) (omega (arith, second))

-- every version has kind 1
some_kind : (version : ℕ) → 1 ≤ last_kind version
some_kind version = cond_cases (λ (k : ℕ). 1 ≤ k) (r_eq version 2) (λ _. omega arith) (λ _. omega arith)

-- the first numbers of a state with a shape of version 2, whose facts have begun
pub record InShape (version variables states : ℕ) (ns : List ℕ) : Type 0 where
  pub two : version ≡ 2
  pub located : Located
  pub in_range : LocatedInRange version variables states located
  pub facts : List ℕ
  pub begun : FactsBegun (size located.shape) facts
  pub numbers_are : located_numbers 1 located ++ facts ≡ ns

module _ (u o l : Reason) where
  -- a number that passes a test, where n does
  completes_such : (test : ℕ → Bool) (n : ℕ) → n ≤ largest → T (test n) → Completes u o l Some Never (λ b. read_as (on u o l b) (such test))
  completes_such test n small t =
      completes_weaken u o l (λ x ns _. tt) (λ ns h. h) (completes_read u o l (such test) n n small (cond_true (test n) (some n) none t))

  completes_ranged : (low limit : ℕ) → low < limit → low ≤ largest
      → Completes u o l (Of (λ n. n ∷ []) (λ n. (low ≤ n) × (n < limit))) Never (λ b. ranged (on u o l b) low limit)
  completes_ranged low limit h small =
      completes_of u o l (λ n. n ∷ []) (λ n. (low ≤ n) × (n < limit)) (λ b. (ranged_exact (on u o l b) low limit).sound)
      (completes_such (within low limit) low small ((r_and (r_le low low) (r_lt low limit)).tests (omega arith, h)))

  -- a number from `low` on and below `limit`, and what comes after it
  pub number_first : {A : Type 0} (C : List ℕ → Type 0) (low limit : ℕ) → low < limit → low ≤ largest → {r : ℕ → List ℕ → Parser A}
      → ((n : ℕ) → low ≤ n → n < limit → Completes u o l Some (λ ns. C (n ∷ ns)) (r n)) → Completes u o l Some C (λ b. ranged (on u o l b) low limit >>= (λ n. r n b))
  number_first C low limit h small rest =
      completes_bind u o l C (completes_ranged low limit h small) (λ ns z. absurd z) (λ n ms (ms_is, (a, b)). rw ms_is (rest n a b))

  -- several, among which no facts begin
  completes_several : {A : Type 0} (numbers : A → List ℕ) (Ok : A → Type 0) {p : List ℕ → Parser A} → Completes u o l (Of numbers Ok) Never p → (k : ℕ)
      → Completes u o l Some Never (λ b. many k (p b))
  completes_several numbers Ok c k =
      completes_weaken u o l {P = Some} {Q = Some} {C = Among numbers Ok Never k} {D = Never} (λ x ns h. h) (λ ns h. h.holds) (completes_many u o l numbers Ok c k)

  completes_codes : (k limit : ℕ) → 0 < limit → Completes u o l (Of (λ xs. xs) (λ xs. (length xs ≡ k) × AllBelow limit xs)) Never (λ b. many k (ranged (on u o l b) 0 limit))
  completes_codes k limit h =
      completes_of u o l (λ xs. xs) (λ xs. (length xs ≡ k) × AllBelow limit xs) (λ b. (codes_exact (on u o l b) k limit).sound)
      (completes_several (λ n. n ∷ []) (λ n. (0 ≤ n) × (n < limit)) (completes_ranged 0 limit h (omega arith)) k)

  module _ (version variables : ℕ) where
    module _ (C : List ℕ → Type 0) (in-facts : (vars links facts : List ℕ) → InRange variables 12 (record { vars = vars; links = links; facts = [] }) → version ≡ 2
        → FactsBegun (length links) facts → C (length links ∷ vars ++ (links ++ facts))) where
      completes_shape : Completes u o l Some C (λ b. read_shape version (on u o l b) variables)
      unfolding read_shape
      completes_shape =
          number_first C 0 13 (omega arith) (omega arith)
          (λ n _ small. completes_bind u o l (λ ns. C (n ∷ ns)) (completes_codes variables (cell n) (omega arith)) (λ ns h. absurd h)
          (λ vars ms (ms_is, (long, codes)). rw ms_is
          (completes_bind u o l (λ ns. C (n ∷ vars ++ ns)) (completes_codes n (cell n) (omega arith)) (λ ns h. absurd h)
          (λ links ms (ms_is, (size_is, codes')). rw ms_is
          (completes_bind u o l (λ ns. C (n ∷ vars ++ (links ++ ns))) (completes_facts u o l n version)
          (λ ns (two, begun).
          let ok : InRange variables 12 (record { vars = vars; links = links; facts = [] }) =
          record { variables_number = long; cells = omega arith; vars = rw size_is codes; links = rw size_is codes'; facts = every_none (FactOf (length links)) } in
          subst (λ (k : ℕ). C (k ∷ vars ++ (links ++ ns))) size_is (in-facts vars links ns ok two (rw size_is begun)))
          (λ facts _ _. completes_return u o l _ tt))))))

    module _ (states : ℕ) (some-state : 1 ≤ states) where
      pub completes_located : Completes u o l (Of (located_numbers version) (LocatedInRange version variables states)) (InShape version variables states)
          (λ b. read_located version (on u o l b) variables states)
      unfolding read_located
      completes_located =
          completes_of u o l (located_numbers version) (LocatedInRange version variables states)
          (λ b. (located_exact version (on u o l b) variables states).sound)
          (number_first (InShape version variables states) 0 states (omega arith) (omega arith)
          (λ state _ below. completes_bind u o l (λ ns. InShape version variables states (state ∷ ns))
          (completes_shape (λ ns. InShape version variables states (state ∷ ns))
          (λ vars links facts ok two begun.
          record {
            two = two;
            located = record { state = state; shape = record { vars = vars; links = links; facts = [] } };
            in_range = record { state = below; shape = ok; facts = record { number = omega arith; rising = tt; none = λ _. refl } };
            facts = facts;
            begun = begun;
            numbers_are =
                ap (λ (k : List ℕ). state ∷ length links ∷ k)
                (append_assoc vars (links ++ []) facts ∙ ap (λ (k : List ℕ). vars ++ (k ++ facts)) (append-nil links));
          }))
          (λ ns h. h) (λ shape _ _. completes_return u o l _ tt)))

      completes_transition : 1 ≤ variables → Completes u o l (Of transition_numbers (TransitionInRange version variables states)) Never
          (λ b. read_transition version (on u o l b) variables states)
      unfolding read_transition
      completes_transition some-variable =
          completes_of u o l transition_numbers (TransitionInRange version variables states) (λ b. (transition_exact version (on u o l b) variables states).sound)
          (number_first Never 0 states (omega arith) (omega arith)
          (λ from _ _. completes_bind u o l {D = Never} Never
          (completes_read u o l (kind_in version) 1 _ (omega arith) (in_kind version 1 _ (some_kind version) refl)) (λ ns h. h)
          (λ row _ (kind, _, found).
          let w = allows_some variables kind row some-variable (kind_in_lem version kind row found).1 in
          completes_bind u o l Never
          (completes_such (allows_a variables row) 1 (omega arith) ((r_and (r_le row.least_a 1) (r_le 1 variables)).tests (w.first, some-variable))) (λ ns h. h)
          (λ a _ _. completes_bind u o l Never
          (completes_such (allows_b variables row) row.least_b (omega (arith, w.second))
          ((r_and (r_le row.least_b row.least_b) (r_le row.least_b (row.most_b variables))).tests (omega arith, w.room))) (λ ns h. h)
          (λ b _ _. number_first Never 0 states (omega arith) (omega arith)
          (λ to _ _. completes_return u o l _ tt))))))

-- ---- facts among shapes

append_cancel : (xs ys zs : List ℕ) → xs ++ zs ≡ ys ++ zs → xs ≡ ys
append_cancel xs ys zs e =
    let long = sym (length-append xs zs) ∙ ap length e ∙ length-append ys zs in
    sym (take_at xs zs (length xs) refl) ∙ ap (take (length xs)) e ∙ take_at ys zs (length xs) (omega arith)

numbers_map : {A : Type 0} (g : Located → List ℕ) (of : A → Located) (xs : List A) → concat_map (λ x. g (of x)) xs ≡ concat_map g (map of xs)
numbers_map g of [] = refl
numbers_map g of (x ∷ xs) = ap (λ (l : List ℕ). g (of x) ++ l) (numbers_map g of xs)

every_map : {A : Type 0} (P : Located → Type 0) (of : A → Located) (xs : List A) → Every (λ x. P (of x)) xs → Every P (map of xs)
every_map P of [] h = every_none P
every_map P of (x ∷ xs) h = every_cons P (h x (Memᴰ.head refl)) (every_map P of xs (λ y i. h y (Memᴰ.tail i)))

every_copy : (P : Located → Type 0) (m : Located) (k : ℕ) → P m → Every P (replicate k m)
every_copy P m zero h = every_none P
every_copy P m (suc k) h = every_cons P h (every_copy P m k h)

module _ (L : ℕ → List Located → List ℕ → Type 0) (variables states : ℕ) where
  abbrev pub Ranged : Located → Type 0
  Ranged = LocatedInRange 2 variables states

  -- several shapes are whole, and in the next the facts have begun: as many more as are wanted can follow it
  pub among_facts : (k : ℕ) (opening : List ℕ)
      → ((shapes : List Located) → length shapes ≡ k → Every Ranged shapes → L 2 shapes (opening ++ concat_map (located_numbers 2) shapes))
      → {A : Type 0} (of : A → Located) (ns : List ℕ) → Among (λ x. located_numbers 2 (of x)) (λ x. Ranged (of x)) (InShape 2 variables states) k ns
      → InFacts L (opening ++ ns)
  among_facts k opening whole of ns h =
      let m = h.holds.located in
      let earlier : List Located = map of h.several in
      let later : List Located = replicate (k - suc (length h.several)) m in
      let start : List ℕ = concat_map (located_numbers 2) earlier in
      let long : length (earlier ++ (m ∷ later)) ≡ k =
      omega (arith, length-append earlier (m ∷ later), length-map h.several of, length-replicate (k - suc (length h.several)) m, h.fewer) in
      let ranges =
      every_append Ranged earlier (every_map Ranged of h.several h.ok)
      (every_cons Ranged h.holds.in_range (every_copy Ranged m (k - suc (length h.several)) h.holds.in_range)) in
      record {
        earlier = earlier;
        located = m;
        later = later;
        before = opening ++ start;
        in_range =
            subst (L 2 (earlier ++ (m ∷ later)))
            (ap (λ (l : List ℕ). opening ++ l) (concat_map_append (located_numbers 2) earlier (m ∷ later))
            ∙ sym (append_assoc opening start (concat_map (located_numbers 2) (m ∷ later))))
            (whole (earlier ++ (m ∷ later)) long ranges);
        facts = h.holds.facts;
        begun = h.holds.begun;
        numbers_are =
            append_assoc opening start (located_numbers 1 m ++ h.holds.facts)
            ∙ ap (λ (l : List ℕ). opening ++ l)
            (ap (λ (l : List ℕ). start ++ l) h.holds.numbers_are
            ∙ ap (λ (l : List ℕ). l ++ h.rest) (sym (numbers_map (located_numbers 2) of h.several)) ∙ h.numbers_are);
      }

  module _ (u o l : Reason) (b : List ℕ) where
    located_wants : (at : ℕ) (m : Located) (facts : List ℕ) → Ranged m → FactsBegun (size m.shape) facts → Reads b at (located_numbers 1 m ++ facts) (length b)
        → read_located 2 (on u o l b) variables states at ≡ fault u (length b)
    unfolding read_located read_shape
    located_wants at m facts ok begun r =
        let x = m.shape in
        let s = on u o l b in
        let (p₁, g₁, r₁) = reads_first r in
        let (p₂, g₂, r₂) = reads_first r₁ in
        let parts : (x.vars ++ (x.links ++ [])) ++ facts ≡ x.vars ++ (x.links ++ facts) =
        append_assoc x.vars (x.links ++ []) facts ∙ ap (λ (k : List ℕ). x.vars ++ (k ++ facts)) (append-nil x.links) in
        let (p₃, g₃, r₃) = reads_split x.vars (subst (λ (k : List ℕ). Reads b p₂ k (length b)) parts r₂) in
        let (p₄, g₄, g₅) = reads_split x.links r₃ in
        rw (
          (ranged_exact s 0 states).complete at m.state p₁ (one g₁) (omega arith, ok.state),
          (ranged_exact s 0 13).complete p₁ (size x) p₂ (one g₂) (omega arith, omega (arith, ok.shape.cells)),
          (codes_exact s variables (cell (size x))).complete p₂ x.vars p₃ g₃ (ok.shape.variables_number, ok.shape.vars),
          (codes_exact s (size x) (cell (size x))).complete p₃ x.links p₄ g₄ (refl, ok.shape.links),
          facts_want u o l (size x) b p₄ facts begun g₅,
        )

    -- where facts have begun, after the numbers that open a file, the parser of its shapes wants more
    pub shapes_want : (ns : List ℕ) (k : InFacts L ns) (opening : List ℕ)
        → opening ++ concat_map (located_numbers 2) (k.earlier ++ (k.located ∷ k.later)) ≡ k.before ++ concat_map (located_numbers 2) (k.located ∷ k.later)
        → Every Ranged (k.earlier ++ (k.located ∷ k.later)) → Reads b 0 ns (length b)
        → (mid : ℕ) × Reads b 0 opening mid
        × (many (length (k.earlier ++ (k.located ∷ k.later))) (read_located 2 (on u o l b) variables states) mid ≡ fault u (length b))
    shapes_want ns k opening e oks r =
        let m = k.located in
        let start : List ℕ = concat_map (located_numbers 2) k.earlier in
        let rest : List ℕ = concat_map (located_numbers 2) (m ∷ k.later) in
        let before_is : k.before ≡ opening ++ start =
        append_cancel k.before (opening ++ start) rest
        (sym e ∙ ap (λ (l : List ℕ). opening ++ l) (concat_map_append (located_numbers 2) k.earlier (m ∷ k.later)) ∙ sym (append_assoc opening start rest)) in
        let all : ns ≡ opening ++ (start ++ (located_numbers 1 m ++ k.facts)) =
        sym k.numbers_are ∙ ap (λ (l : List ℕ). l ++ (located_numbers 1 m ++ k.facts)) before_is ∙ append_assoc opening start (located_numbers 1 m ++ k.facts) in
        let (mid, g₁, r₁) = reads_split opening (subst (λ (l : List ℕ). Reads b 0 l (length b)) all r) in
        let (p, g₂, g₃) = reads_split start r₁ in
        let long = length-append k.earlier (m ∷ k.later) in (
          mid,
          g₁,
          many_refuses (on u o l b) (located_exact 2 (on u o l b) variables states) (length (k.earlier ++ (m ∷ k.later))) mid k.earlier p u (length b) g₂ (omega arith)
              (λ x i. oks x (Memᴰ.append_left (m ∷ k.later) i))
              (located_wants p m k.facts (oks m (Memᴰ.append_right k.earlier (Memᴰ.head refl))) k.begun g₃),
        )

-- ---- jobs

-- facts have begun among the forbidden shapes of a job
job_among : (version variables states start : ℕ) → version ≡ 2 → (ts : List Transition) (bads : ℕ)
    → ((shapes : List Located) → length shapes ≡ bads → Every (LocatedInRange version variables states) shapes
    → JobInRange (file_with version variables states start ts shapes))
    → (ns : List ℕ) → Among (located_numbers version) (LocatedInRange version variables states) (InShape version variables states) bads ns
    → InFacts OfJob (version ∷ variables ∷ states ∷ start ∷ length ts ∷ concat_map transition_numbers ts ++ (bads ∷ ns))
job_among version variables states start two ts bads whole ns h =
    let opening : List ℕ = 2 ∷ variables ∷ states ∷ start ∷ length ts ∷ concat_map transition_numbers ts ++ (bads ∷ []) in
    let e = append_assoc (concat_map transition_numbers ts) (bads ∷ []) ns in
    let w : (shapes : List Located) → length shapes ≡ bads → Every (LocatedInRange 2 variables states) shapes
    → JobInRange (file_with 2 variables states start ts shapes) = rw two at whole in
    rw two
    (subst (λ (l : List ℕ). InFacts OfJob (2 ∷ variables ∷ states ∷ start ∷ length ts ∷ l)) e
    (among_facts OfJob variables states bads opening
    (λ shapes long oks.
    let f : JobFile = file_with 2 variables states start ts shapes in
    let numbers_are : job_numbers f ≡ opening ++ concat_map (located_numbers 2) shapes =
    subst (λ (k : ℕ). job_numbers f ≡ (2 ∷ variables ∷ states ∷ start ∷ length ts ∷ concat_map transition_numbers ts ++ (k ∷ [])) ++ concat_map (located_numbers 2) shapes) long
    (sym (opening_is f)) in
    (f, w shapes long oks, refl, refl, numbers_are))
    (λ m. m) ns (rw two at h)))

module _ (u o l : Reason) where
  completes_job : Completes u o l Some (InFacts OfJob) (λ b. read_job (on u o l b))
  unfolding read_job
  completes_job =
      number_first u o l (InFacts OfJob) 1 3 (omega arith) (omega arith)
      (λ version v_low v_high. number_first u o l (λ ns. InFacts OfJob (version ∷ ns)) 1 9 (omega arith) (omega arith)
      (λ variables some-variable few-variables. number_first u o l (λ ns. InFacts OfJob (version ∷ variables ∷ ns)) 1 65 (omega arith) (omega arith)
      (λ states some-state few-states. number_first u o l (λ ns. InFacts OfJob (version ∷ variables ∷ states ∷ ns)) 0 states (omega arith) (omega arith)
      (λ start _ below. number_first u o l (λ ns. InFacts OfJob (version ∷ variables ∷ states ∷ start ∷ ns)) 0 257 (omega arith) (omega arith)
      (λ count _ few. completes_bind u o l (λ ns. InFacts OfJob (version ∷ variables ∷ states ∷ start ∷ count ∷ ns))
      (transitions version variables states some-state some-variable count) (λ ns h. absurd h)
      (λ ts ms (ms_is, (long, oks)). rw ms_is
      (number_first u o l (λ ns. InFacts OfJob (version ∷ variables ∷ states ∷ start ∷ count ∷ concat_map transition_numbers ts ++ ns)) 1 65 (omega arith) (omega arith)
      (λ bads some-bad few-bads.
      completes_bind u o l (λ ns. InFacts OfJob (version ∷ variables ∷ states ∷ start ∷ count ∷ concat_map transition_numbers ts ++ (bads ∷ ns)))
      (completes_many u o l (located_numbers version) (LocatedInRange version variables states) (completes_located u o l version variables states some-state) bads)
      (λ ns h.
      let whole : (shapes : List Located) → length shapes ≡ bads → Every (LocatedInRange version variables states) shapes
      → JobInRange (file_with version variables states start ts shapes) =
      λ shapes number forbidden. record {
        version = (v_low, omega arith);
        variables = (some-variable, omega arith);
        states = (some-state, omega arith);
        start = below;
        transitions_number = omega arith;
        transitions = oks;
        forbidden_number = (omega arith, omega arith);
        forbidden = forbidden;
      } in
      subst (λ (k : ℕ). InFacts OfJob (version ∷ variables ∷ states ∷ start ∷ k ∷ concat_map transition_numbers ts ++ (bads ∷ ns))) long
      (job_among version variables states start h.holds.two ts bads whole ns h))
      (λ forbidden _ _. completes_return u o l _ tt)))))))))
    where
      transitions : (version variables states : ℕ) → 1 ≤ states → 1 ≤ variables → (k : ℕ)
          → Completes u o l (Of (concat_map transition_numbers) (λ ts. (length ts ≡ k) × Every (TransitionInRange version variables states) ts)) Never
          (λ b. many k (read_transition version (on u o l b) variables states))
      transitions version variables states some-state some-variable k =
          completes_of u o l (concat_map transition_numbers) (λ ts. (length ts ≡ k) × Every (TransitionInRange version variables states) ts)
          (λ b. (many_exact (on u o l b) (transition_exact version (on u o l b) variables states) k).sound)
          (completes_several u o l transition_numbers (TransitionInRange version variables states)
          (completes_transition u o l version variables states some-state some-variable) k)

  job_wants : (b ns : List ℕ) → InFacts OfJob ns → Reads b 0 ns (length b) → read_job (on u o l b) 0 ≡ fault u (length b)
  job_wants b ns k r =
      let (f, ok, two, shapes_are, numbers_are) = k.in_range in
      let (mid, g, h) = shapes_want OfJob f.job.variables f.states u o l b ns k (job_opening f)
      (subst₂ (λ (v : ℕ) (ms : List Located). job_opening f ++ concat_map (located_numbers v) ms ≡ job_numbers f) two shapes_are (opening_is f) ∙ numbers_are)
      (subst₂ (λ (v : ℕ) (ms : List Located). Every (LocatedInRange v f.job.variables f.states) ms) two shapes_are ok.forbidden) r in
      let h' : many (length f.job.forbidden) (read_located f.version (on u o l b) f.job.variables f.states) mid ≡ fault u (length b) =
      subst₂ (λ (v : ℕ) (ms : List Located). many (length ms) (read_located v (on u o l b) f.job.variables f.states) mid ≡ fault u (length b))
      (sym two) (sym shapes_are) h in
      job_opened (on u o l b) 0 f mid g ok ∙ rw h'

  -- the parser of a job reads the numbers of jobs in range
  job_accepts : Accepts OfJob u (λ b. read_job (on u o l b))
  job_accepts =
      record {
        sound = λ b f next h. let (g, ok) = (job_exact (on u o l b)).sound 0 f next h in (job_numbers f, (f.version, f.job.forbidden, (f, ok, refl, refl, refl)), g);
        complete = λ b ns next (_, _, (f, ok, _, _, e)) r. (f, (job_exact (on u o l b)).complete 0 f next (rw (← e) at r) ok);
        small = λ ns (_, _, (f, ok, _, _, e)). subst (AtMost largest) e (small_job f ok);
        wants = job_wants;
      }

-- the parser of a job refuses the first faulty number
pub job_faults : (job : List ℕ) (why : Reason) (place : ℕ) → (read_job (job_buffer job) 0 ≡ fault why place) ↔ FirstFault OfJob job (refusal 3) (refusal 4) why place
job_faults =
    faults OfJob (refusal 3) (refusal 4) (refusal 5) (job_accepts (refusal 3) (refusal 4) (refusal 5)) (completes_job (refusal 3) (refusal 4) (refusal 5))
