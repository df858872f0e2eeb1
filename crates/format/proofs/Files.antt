-- What the parsers of shapes, transitions, jobs and members read.
use mathlib.Core.Bool.{Bool, true, false, ◌&&◌, cond}
use mathlib.Core.List.Memᴰ
use mathlib.Core.List.{List, [], ◌∷◌, ◌++◌, append_assoc}
use mathlib.Core.Option.{Option, none, some}
use mathlib.Core.Path.{◌≡◌, refl, sym, ap, subst, ◌∙◌}
use Prim.Native.Nat.{ℕ, zero, suc, ◌-◌, ◌≤◌, ◌<◌}
use native.Mathlib.Decide.{dec_lt}
use native.Mathlib.Omega.{arith}
use borrow.Author.Tests.{eqb-true, eqb-false}
use lib.Dec.{T, eqb, ltb, leb}
use lib.ListN.{length}
use Rattle.lists.specs.List.{concat_map}
use Rattle.lists.proofs.List.{every_none, every_cons}
use Rattle.lists.proofs.Reflect.{Reflect, r_eq, r_lt, r_le, r_and, r_either, cond_cases, cond_true}
use Rattle.heap.specs.Operation.{Kind, kind_of, allows_a, allows_b}
use Rattle.heap.specs.Place.{cell}
use Rattle.heap.proofs.Rows.{in_table, table_named, op_numbers}
use Rattle.facts.specs.Facts.{Fact, FactOf, FactsOf}
use Rattle.shape.specs.Shape.{Shape, size, InRange}
use Rattle.run.specs.Run.{Transition, Located}
use Rattle.format.specs.Parser.{Reason, parsed, fault, onward, ◌>>=◌, return, many, Buffer, such, read_as, ranged, end}
use Rattle.format.specs.Job.{rises, rises_after, fact_of, read_fact, facts_after, read_facts, kind_in, read_shape, read_located, read_transition, read_job, read_whole_job}
use Rattle.format.specs.JobNumbers.{JobFile, transition_numbers, fact_numbers, facts_numbers, shape_numbers, located_numbers, job_numbers}
pub use Rattle.format.specs.JobNumbers.{job_opening}
use Rattle.format.specs.JobBytes.{Rises, RisingAfter, Rising, FactsInRange, LocatedInRange, last_kind, TransitionInRange, JobInRange}
use Rattle.format.proofs.Sequence.{Reads, done, more, one, reads_none, reads_first, reads_append, reads_split}
use Rattle.format.proofs.Parsing.{then, require_sound, require_fault, require_complete, require_refuses, read_sound, read_complete}
use Rattle.format.proofs.Parsing.{Exact, such_exact, ranged_exact, many_exact, codes_exact}

-- a kind of this version is one of the table
pub kind_in_lem : (version kind : ℕ) (row : Kind) → kind_in version kind ≡ some row → (kind ≤ last_kind version) × (kind_of kind ≡ some row)
kind_in_lem version kind row =
    cond_cases (λ o. o ≡ some row → (kind ≤ last_kind version) × (kind_of kind ≡ some row)) (r_le kind (last_kind version)) (λ h e. (h, e))
    (λ _ e. let z : ◌≡◌ {A = ℕ} 0 1 = cc in absurd (omega arith))

pub in_kind : (version kind : ℕ) (row : Kind) → kind ≤ last_kind version → kind_of kind ≡ some row → kind_in version kind ≡ some row
in_kind version kind row h e = cond_true (leb kind (last_kind version)) _ _ ((r_le kind (last_kind version)).tests h) ∙ e

-- ---- facts

r_rises : (t u : Fact) → Reflect (Rises t u) (rises t u)
r_rises t u =
    r_either (r_lt t.kind u.kind)
    (r_and (r_eq t.kind u.kind) (r_either (r_lt t.left u.left) (r_and (r_eq t.left u.left) (r_lt t.right u.right))))

-- the fact u comes after the last, if there is one; the facts of a list do
abbrev pub Next : Option Fact → Fact → Type 0
Next none u = Unit {0}
Next (some t) u = Rises t u

abbrev pub RisingFrom : Option Fact → List Fact → Type 0
RisingFrom none l = Rising l
RisingFrom (some t) l = RisingAfter t l

r_next : (last : Option Fact) (u : Fact) → Reflect (Next last u) (rises_after last u)
r_next none u = record { holds = λ _. tt; tests = λ _. tt }
r_next (some t) u = r_rises t u

pub rising_none : (last : Option Fact) → RisingFrom last []
rising_none none = tt
rising_none (some t) = tt

pub rising_cons : (last : Option Fact) (t : Fact) (ts : List Fact) → Next last t → RisingAfter t ts → RisingFrom last (t ∷ ts)
rising_cons none t ts a b = b
rising_cons (some u) t ts a b = (a, b)

pub rising_parts : (last : Option Fact) (t : Fact) (ts : List Fact) → RisingFrom last (t ∷ ts) → Next last t × RisingAfter t ts
rising_parts none t ts a = (tt, a)
rising_parts (some u) t ts a = a

-- the facts of a shape of n cells in a file of this version
pub record FactsRead (n version : ℕ) (l : List Fact) : Type 0 where
  pub of : FactsOf n l
  pub range : FactsInRange version l

module _ (s : Buffer) (n : ℕ) where
  second_exact : (last : Option Fact) (kind i : ℕ) → Exact s (read_as s (such (λ j. ltb j n && rises_after last (fact_of kind i j)))) (λ j. j ∷ []) (λ j. (j < n) × Next last (fact_of kind i j))
  second_exact last kind i = such_exact s _ (λ j. (j < n) × Next last (fact_of kind i j)) (λ j. r_and (r_lt j n) (r_next last (fact_of kind i j)))

  pub fact_sound : (last : Option Fact) (at : ℕ) (t : Fact) (next : ℕ) → read_fact s n last at ≡ parsed t next
      → Reads s.bytes at (fact_numbers t) next × (FactOf n t × Next last t)
  unfolding read_fact
  fact_sound last at t next =
      then (ranged s _ _ at) _
      (λ kind a h₁. then (ranged s _ _ a) _
      (λ i b h₂. then (read_as s _ b) _
      (λ j c h₃ r.
      let (g₁, (_, small)) = (ranged_exact s _ _).sound at kind a h₁ in
      let (g₂, (_, left)) = (ranged_exact s _ _).sound a i b h₂ in
      let (g₃, (right, rise)) = (second_exact last kind i).sound b j c h₃ in
      let t_is : fact_of kind i j ≡ t = cc in
      let next_is : c ≡ next = cc in
      let i_is : cell i - 3 ≡ i = omega arith in
      let j_is : cell j - 3 ≡ j = omega arith in
      rw (← t_is, ← next_is) (
        rw (i_is, j_is) (reads_append g₁ (reads_append g₂ g₃)),
        ((small, (omega arith, omega arith), (omega arith, omega arith)), rise),
      ))))

  pub fact_complete : (last : Option Fact) (at : ℕ) (t : Fact) (next : ℕ) → Reads s.bytes at (fact_numbers t) next → FactOf n t → Next last t
      → read_fact s n last at ≡ parsed t next
  unfolding read_fact
  fact_complete last at t next r (small, left, right) rise =
      let (a, g₁, r₁) = reads_first r in
      let (b, g₂, g₃) = reads_first r₁ in
      let left_is : cell (t.left - 3) ≡ t.left = omega arith in
      let right_is : cell (t.right - 3) ≡ t.right = omega arith in
      let t_is : fact_of t.kind (t.left - 3) (t.right - 3) ≡ t = λ i. record { kind = t.kind; left = left_is i; right = right_is i } in
      rw (
        (ranged_exact s 0 2).complete at t.kind a (one g₁) (omega arith, small),
        (ranged_exact s 0 n).complete a (t.left - 3) b (one g₂) (omega arith, omega arith),
        (second_exact last t.kind (t.left - 3)).complete b (t.right - 3) next g₃ (omega arith, subst (Next last) (sym t_is) rise),
      )
      (ap (λ u. parsed u next) t_is)

  facts_sound : (k : ℕ) (last : Option Fact) (at : ℕ) (l : List Fact) (next : ℕ) → facts_after s n k last at ≡ parsed l next
      → Reads s.bytes at (concat_map fact_numbers l) next × ((length l ≡ k) × FactsOf n l × RisingFrom last l)
  unfolding facts_after
  facts_sound zero last at l next e =
      let l_is : [] ≡ l = cc in
      let next_is : at ≡ next = cc in
      rw (← l_is, ← next_is) (done, (refl, every_none (FactOf n), rising_none last))
  facts_sound (suc k) last at l next e =
      then (read_fact s n last at) _
      (λ t a h₁. then (facts_after s n k (some t) a) _
      (λ ts b h₂ r.
      let (g₁, (of, rise)) = fact_sound last at t a h₁ in
      let (g₂, (long, ofs, rises)) = facts_sound k (some t) a ts b h₂ in
      let l_is : t ∷ ts ≡ l = cc in
      let next_is : b ≡ next = cc in
      rw (← l_is, ← next_is) (reads_append g₁ g₂, (ap suc long, every_cons (FactOf n) of ofs, rising_cons last t ts rise rises)))) e

  facts_complete : (k : ℕ) (last : Option Fact) (at : ℕ) (l : List Fact) (next : ℕ) → Reads s.bytes at (concat_map fact_numbers l) next → length l ≡ k
      → FactsOf n l → RisingFrom last l → facts_after s n k last at ≡ parsed l next
  unfolding facts_after
  facts_complete zero last at [] next r long of rise = let at_is = reads_none r in ap (parsed []) at_is
  facts_complete zero last at (t ∷ ts) next r long of rise = absurd (omega arith)
  facts_complete (suc k) last at [] next r long of rise = absurd (omega arith)
  facts_complete (suc k) last at (t ∷ ts) next r long of rise =
      let (mid, g₁, g₂) = reads_split (fact_numbers t) r in
      let (first, rest) = rising_parts last t ts rise in
      rw (
        fact_complete last at t mid g₁ (of t (Memᴰ.head refl)) first,
        facts_complete k (some t) mid ts next g₂ (omega arith) (λ u m. of u (Memᴰ.tail m)) rest,
      )

  pub read_facts_sound : (version at : ℕ) (l : List Fact) (next : ℕ) → read_facts s n version at ≡ parsed l next
      → Reads s.bytes at (facts_numbers version l) next × FactsRead n version l
  unfolding read_facts
  read_facts_sound version at l next = go (eqb version 2) refl
    where
      go : (b : Bool) → eqb version 2 ≡ b → cond b (ranged s 0 289 >>= (λ count. facts_after s n count none)) (return []) at ≡ parsed l next
          → Reads s.bytes at (cond b (length l ∷ concat_map fact_numbers l) []) next × FactsRead n version l
      go true v e =
          then (ranged s _ _ at) _
          (λ count a h₁ h₂.
          let (g₁, (_, few)) = (ranged_exact s _ _).sound at count a h₁ in
          let (g₂, (long, of, rise)) = facts_sound count none a l next h₂ in (
            rw long (reads_append g₁ g₂),
            record { of = of; range = record { number = omega arith; rising = rise; none = λ m. absurd (m (eqb-true version 2 v)) } },
          )) e
      go false v e =
          let l_is : [] ≡ l = cc in
          let next_is : at ≡ next = cc in
          rw (← l_is, ← next_is) (done, record { of = every_none (FactOf n); range = record { number = omega arith; rising = tt; none = λ _. refl } })

  pub read_facts_complete : (version at : ℕ) (l : List Fact) (next : ℕ) → Reads s.bytes at (facts_numbers version l) next → FactsRead n version l
      → read_facts s n version at ≡ parsed l next
  unfolding read_facts
  read_facts_complete version at l next = go (eqb version 2) refl
    where
      go : (b : Bool) → eqb version 2 ≡ b → Reads s.bytes at (cond b (length l ∷ concat_map fact_numbers l) []) next → FactsRead n version l
          → cond b (ranged s 0 289 >>= (λ count. facts_after s n count none)) (return []) at ≡ parsed l next
      go true v r ok =
          let (a, g₁, g₂) = reads_first r in
          rw (
            (ranged_exact s 0 289).complete at (length l) a (one g₁) (omega arith, omega (arith, ok.range.number)),
            facts_complete (length l) none a l next g₂ refl ok.of ok.range.rising,
          )
      go false v r ok =
          let at_is = reads_none r in
          let l_is : [] ≡ l = sym (ok.range.none (eqb-false version 2 v)) in
          rw (← l_is, ← at_is) refl

module _ (version : ℕ) (s : Buffer) (variables : ℕ) where
  -- ---- shapes

  -- a shape in range, with the facts of this version
  abbrev Fits : Shape → Type 0
  Fits x = InRange variables 12 x × FactsInRange version x.facts

  shape_sound : (at : ℕ) (x : Shape) (next : ℕ) → read_shape version s variables at ≡ parsed x next → Reads s.bytes at (shape_numbers version x) next × Fits x
  unfolding read_shape
  shape_sound at x next =
      then (ranged s _ _ at) _
      (λ n a h₁. then (many _ (ranged s _ _) a) _
      (λ vars b h₂. then (many _ (ranged s _ _) b) _
      (λ links c h₃. then (read_facts s n version c) _
      (λ facts d h₄ r.
      let (g₁, (_, small)) = (ranged_exact s _ _).sound at n a h₁ in
      let (g₂, (long, codes)) = (codes_exact s _ _).sound a vars b h₂ in
      let (g₃, (size_is, codes')) = (codes_exact s _ _).sound b links c h₃ in
      let (g₄, ok) = read_facts_sound s n version c facts d h₄ in
      let x_is : record { vars = vars; links = links; facts = facts } ≡ x = cc in
      let next_is : d ≡ next = cc in
      rw (← x_is, ← next_is) (
        rw size_is (reads_append g₁ (reads_append g₂ (reads_append g₃ g₄))),
        (record { variables_number = long; cells = omega arith; vars = rw size_is codes; links = rw size_is codes'; facts = rw size_is ok.of }, ok.range),
      )))))

  shape_complete : (at : ℕ) (x : Shape) (next : ℕ) → Reads s.bytes at (shape_numbers version x) next → Fits x → read_shape version s variables at ≡ parsed x next
  unfolding read_shape
  shape_complete at x next r (ok, facts) =
      let (a, g₁, g) = reads_first r in
      let (b, g₂, g') = reads_split x.vars g in
      let (c, g₃, g₄) = reads_split x.links g' in
      rw (
        (ranged_exact s 0 13).complete at (size x) a (one g₁) (omega arith, omega (arith, ok.cells)),
        (codes_exact s variables (cell (size x))).complete a x.vars b g₂ (ok.variables_number, ok.vars),
        (codes_exact s (size x) (cell (size x))).complete b x.links c g₃ (refl, ok.links),
        read_facts_complete s (size x) version c x.facts next g₄ (record { of = ok.facts; range = facts }),
      )

  module _ (states : ℕ) where
    -- ---- a state with a shape

    located_sound : (at : ℕ) (m : Located) (next : ℕ) → read_located version s variables states at ≡ parsed m next
        → Reads s.bytes at (located_numbers version m) next × LocatedInRange version variables states m
    unfolding read_located
    located_sound at m next =
        then (ranged s _ _ at) _
        (λ state a h₁. then (read_shape version s variables a) _
        (λ shape b h₂ r.
        let (g₁, (_, below)) = (ranged_exact s _ _).sound at state a h₁ in
        let (g₂, ok) = shape_sound a shape b h₂ in
        let m_is : record { state = state; shape = shape } ≡ m = cc in
        let next_is : b ≡ next = cc in
        rw (← m_is, ← next_is)
        (reads_append g₁ g₂, record { state = below; shape = ok.0; facts = ok.1 })))

    located_complete : (at : ℕ) (m : Located) (next : ℕ) → Reads s.bytes at (located_numbers version m) next → LocatedInRange version variables states m
        → read_located version s variables states at ≡ parsed m next
    unfolding read_located
    located_complete at m next r ok =
        let (a, g₁, g₂) = reads_first r in
        rw ((ranged_exact s 0 states).complete at m.state a (one g₁) (omega arith, ok.state), shape_complete a m.shape next g₂ (ok.shape, ok.facts))

    pub located_exact : Exact s (read_located version s variables states) (located_numbers version) (LocatedInRange version variables states)
    located_exact = record { sound = located_sound; complete = located_complete }

    -- ---- transitions

    operand_exact : (test : ℕ → Bool) → Exact s (read_as s (such test)) (λ n. n ∷ []) (λ n. T (test n))
    operand_exact test = such_exact s test (λ n. T (test n)) (λ n. record { holds = λ t. t; tests = λ t. t })

    transition_sound : (at : ℕ) (t : Transition) (next : ℕ) → read_transition version s variables states at ≡ parsed t next
        → Reads s.bytes at (transition_numbers t) next × TransitionInRange version variables states t
    unfolding read_transition
    transition_sound at t next =
        then (ranged s _ _ at) _
        (λ from p₁ h₁. then (read_as s (kind_in version) p₁) _
        (λ row p₂ h₂. then (read_as s (such (allows_a variables row)) p₂) _
        (λ a p₃ h₃. then (read_as s (such (allows_b variables row)) p₃) _
        (λ b p₄ h₄. then (ranged s _ _ p₄) _
        (λ to p₅ h₅ r.
        let (g₁, (_, below)) = (ranged_exact s _ _).sound at from p₁ h₁ in
        let (kind, g₂, here) = read_sound s (kind_in version) p₁ row p₂ h₂ in
        let (early, found) = kind_in_lem version kind row here in
        let (g₃, ta) = (operand_exact (allows_a variables row)).sound p₂ a p₃ h₃ in
        let (g₄, tb) = (operand_exact (allows_b variables row)).sound p₃ b p₄ h₄ in
        let (g₅, (_, below')) = (ranged_exact s _ _).sound p₄ to p₅ h₅ in
        let t_is : record { from = from; op = row.op a b; to = to } ≡ t = cc in
        let next_is : p₅ ≡ next = cc in
        let named = table_named variables kind a b row found ta tb in
        rw (← t_is, ← next_is) (
          rw (op_numbers variables kind a b (row.op a b) named)
              (reads_append g₁
              (more g₂ (reads_append g₃ (reads_append g₄ g₅)))),
          record { from = below; op = (kind, a, b, (early, named)); to = below' },
        ))))))

    transition_complete : (at : ℕ) (t : Transition) (next : ℕ) → Reads s.bytes at (transition_numbers t) next → TransitionInRange version variables states t
        → read_transition version s variables states at ≡ parsed t next
    unfolding read_transition
    transition_complete at t next g ok =
        let (kind, a, b, (early, named)) = ok.op in
        let i = in_table variables kind a b t.op named in
        let g' : Reads s.bytes at (t.from ∷ kind ∷ a ∷ b ∷ t.to ∷ []) next =
        subst (λ (n : ℕ × ℕ × ℕ). Reads s.bytes at (t.from ∷ n.0 ∷ n.1 ∷ n.2 ∷ t.to ∷ []) next) (op_numbers variables kind a b t.op named) g in
        let (p₁, g₁, r₁) = reads_first g' in
        let (p₂, g₂, r₂) = reads_first r₁ in
        let (p₃, g₃, r₃) = reads_first r₂ in
        let (p₄, g₄, g₅) = reads_first r₃ in
        rw (
          (ranged_exact s 0 states).complete at t.from p₁ (one g₁) (omega arith, ok.from),
          read_complete s (kind_in version) p₁ kind p₂ i.row g₂ (in_kind version kind i.row early i.found),
          (operand_exact (allows_a variables i.row)).complete p₂ a p₃ (one g₃) i.first,
          (operand_exact (allows_b variables i.row)).complete p₃ b p₄ (one g₄) i.second,
          (ranged_exact s 0 states).complete p₄ t.to next g₅ (omega arith, ok.to),
          i.named,
        )

    pub transition_exact : Exact s (read_transition version s variables states) transition_numbers (TransitionInRange version variables states)
    transition_exact = record { sound = transition_sound; complete = transition_complete }

-- the job of these parts
abbrev pub file_with : ℕ → ℕ → ℕ → ℕ → List Transition → List Located → JobFile
file_with version variables states start ts shapes =
    record { version = version; states = states; job = record { variables = variables; start = start; transitions = ts; forbidden = shapes } }

pub opening_is : (f : JobFile) → job_opening f ++ concat_map (located_numbers f.version) f.job.forbidden ≡ job_numbers f
opening_is f =
    let j = f.job in
    ap (λ (l : List ℕ). f.version ∷ j.variables ∷ f.states ∷ j.start ∷ length j.transitions ∷ l)
    (append_assoc (concat_map transition_numbers j.transitions) (length j.forbidden ∷ []) (concat_map (located_numbers f.version) j.forbidden))

-- ---- the end of a buffer

module _ (s : Buffer) where
  pub end_sound : (at : ℕ) {u : Unit {0}} {next : ℕ} → end s at ≡ parsed u next → (length s.bytes ≤ at) × (at ≡ next)
  unfolding end
  end_sound at e =
      let (t, at_is) = require_sound (leb (length s.bytes) at) s.left at at e in
      ((r_le _ _).holds t, at_is)

  pub end_complete : (at : ℕ) → length s.bytes ≤ at → end s at ≡ parsed tt at
  unfolding end
  end_complete at h = require_complete (leb (length s.bytes) at) s.left at at ((r_le (length s.bytes) at).tests h)

  pub end_fault : (at : ℕ) {why : Reason} {place : ℕ} → end s at ≡ fault why place → (s.left ≡ why) × (at ≡ place) × (at < length s.bytes)
  unfolding end
  end_fault at e =
      let (k, q, n) = require_fault (leb (length s.bytes) at) s.left at at e in
      (k, q, go (dec_lt at (length s.bytes)) n)
    where
      go : Dec (at < length s.bytes) → ¬ T (leb (length s.bytes) at) → at < length s.bytes
      go (yes h) n = h
      go (no h) n = absurd (n ((r_le (length s.bytes) at).tests (omega arith)))

  pub end_refuses : (at : ℕ) → at < length s.bytes → end s at ≡ fault s.left at
  unfolding end
  end_refuses at h =
      require_refuses (leb (length s.bytes) at) s.left at at (λ t. let k = (r_le (length s.bytes) at).holds t in omega arith)

  -- ---- jobs

  job_sound : (at : ℕ) (f : JobFile) (next : ℕ) → read_job s at ≡ parsed f next → Reads s.bytes at (job_numbers f) next × JobInRange f
  unfolding read_job
  job_sound at f next =
      then (ranged s _ _ at) _
      (λ version p₁ h₁. then (ranged s _ _ p₁) _
      (λ variables p₂ h₂. then (ranged s _ _ p₂) _
      (λ states p₃ h₃. then (ranged s _ _ p₃) _
      (λ start p₄ h₄. then (ranged s _ _ p₄) _
      (λ count p₅ h₅. then (many count (read_transition version s variables states) p₅) _
      (λ transitions p₆ h₆. then (ranged s _ _ p₆) _
      (λ bads p₇ h₇. then (many bads (read_located version s variables states) p₇) _
      (λ forbidden p₈ h₈ r.
      let (g₁, (low₁, high₁)) = (ranged_exact s _ _).sound at version p₁ h₁ in
      let (g₂, (low₂, high₂)) = (ranged_exact s _ _).sound p₁ variables p₂ h₂ in
      let (g₃, (low₃, high₃)) = (ranged_exact s _ _).sound p₂ states p₃ h₃ in
      let (g₄, (_, high₄)) = (ranged_exact s _ _).sound p₃ start p₄ h₄ in
      let (g₅, (_, high₅)) = (ranged_exact s _ _).sound p₄ count p₅ h₅ in
      let (g₆, (long, oks)) = (many_exact s (transition_exact version s variables states) count).sound p₅ transitions p₆ h₆ in
      let (g₇, (low₇, high₇)) = (ranged_exact s _ _).sound p₆ bads p₇ h₇ in
      let (g₈, (long', oks')) = (many_exact s (located_exact version s variables states) bads).sound p₇ forbidden p₈ h₈ in
      let f_is : record { version = version; states = states; job = record { variables = variables; start = start; transitions = transitions; forbidden = forbidden } } ≡ f = cc in
      let next_is : p₈ ≡ next = cc in
      rw (← f_is, ← next_is) (
        rw (long, long')
            (reads_append g₁
            (reads_append g₂ (reads_append g₃ (reads_append g₄ (reads_append g₅ (reads_append g₆ (reads_append g₇ g₈))))))),
        record {
          version = (low₁, omega arith);
          variables = (low₂, omega arith);
          states = (low₃, omega arith);
          start = high₄;
          transitions_number = omega arith;
          transitions = oks;
          forbidden_number = (omega arith, omega arith);
          forbidden = oks';
        },
      )))))))))

  -- a job up to its forbidden shapes is read, and they decide
  pub job_opened : (at : ℕ) (f : JobFile) (next : ℕ) → Reads s.bytes at (job_opening f) next → JobInRange f
      → read_job s at
      ≡ onward (many (length f.job.forbidden) (read_located f.version s f.job.variables f.states) next)
      (λ forbidden. return (file_with f.version f.job.variables f.states f.job.start f.job.transitions forbidden))
  unfolding read_job
  job_opened at f next r ok =
      let (p₁, g₁, r₁) = reads_first r in
      let (p₂, g₂, r₂) = reads_first r₁ in
      let (p₃, g₃, r₃) = reads_first r₂ in
      let (p₄, g₄, r₄) = reads_first r₃ in
      let (p₅, g₅, r₅) = reads_first r₄ in
      let «V» = f.job.variables in
      let ts = f.job.transitions in
      let (p₆, g₆, g₇) = reads_split (concat_map transition_numbers ts) r₅ in
      rw (
        (ranged_exact s 1 3).complete at f.version p₁ (one g₁) (ok.version.0, omega (arith, ok.version.1)),
        (ranged_exact s 1 9).complete p₁ «V» p₂ (one g₂) (ok.variables.0, omega (arith, ok.variables.1)),
        (ranged_exact s 1 65).complete p₂ f.states p₃ (one g₃) (ok.states.0, omega (arith, ok.states.1)),
        (ranged_exact s 0 f.states).complete p₃ f.job.start p₄ (one g₄) (omega arith, ok.start),
        (ranged_exact s 0 257).complete p₄ (length ts) p₅ (one g₅) (omega arith, omega (arith, ok.transitions_number)),
        (many_exact s (transition_exact f.version s «V» f.states) (length ts)).complete p₅ ts p₆ g₆ (refl, ok.transitions),
        (ranged_exact s 1 65).complete p₆ (length f.job.forbidden) next g₇ (ok.forbidden_number.0, omega (arith, ok.forbidden_number.1)),
      )

  job_complete : (at : ℕ) (f : JobFile) (next : ℕ) → Reads s.bytes at (job_numbers f) next → JobInRange f → read_job s at ≡ parsed f next
  job_complete at f next r ok =
      let (mid, g₁, g₂) = reads_split (job_opening f) (subst (λ (l : List ℕ). Reads s.bytes at l next) (sym (opening_is f)) r) in
      job_opened at f mid g₁ ok
      ∙ rw ((many_exact s (located_exact f.version s f.job.variables f.states) (length f.job.forbidden)).complete mid f.job.forbidden next g₂ (refl, ok.forbidden))

  pub job_exact : Exact s (read_job s) job_numbers JobInRange
  job_exact = record { sound = job_sound; complete = job_complete }

  pub whole_sound : (at : ℕ) (f : JobFile) (next : ℕ) → read_whole_job s at ≡ parsed f next
      → (read_job s at ≡ parsed f next) × (length s.bytes ≤ next)
  unfolding read_whole_job
  whole_sound at f next =
      then (read_job s at) _
      (λ g mid h₁. then (end s mid) _
      (λ u last h₂ r.
      let g_is : g ≡ f = cc in
      let (whole, mid_is) = end_sound mid h₂ in
      let next_is : mid ≡ next = cc in
      rw (← g_is, ← next_is) (h₁, whole)))

  pub whole_complete : (at : ℕ) (f : JobFile) (next : ℕ) → read_job s at ≡ parsed f next → length s.bytes ≤ next → read_whole_job s at ≡ parsed f next
  unfolding read_whole_job
  whole_complete at f next h whole = rw (h, end_complete next whole)
