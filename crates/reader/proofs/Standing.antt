-- Where what was read stands in the buffer.
use mathlib.Core.Bool.{true}
use mathlib.Core.List.{List, [], ◌∷◌, map}
use mathlib.Core.Path.{◌≡◌, refl, sym, ap, ap₂, subst, ◌∙◌}
use Prim.Native.Nat.{ℕ, zero, suc, ◌+◌, ◌*◌, ◌≤◌, ◌<◌}
use native.Mathlib.Decide.{ℕ_discrete}
use native.Mathlib.Omega.{arith}
use lib.ListN.{length, get_or, take, drop}
use Rattle.lists.specs.Range.{range}
use Rattle.lists.proofs.Reflect.{r_le, r_and}
use Rattle.heap.specs.Operation.{kind_of}
use Rattle.heap.specs.Place.{cell}
use Rattle.heap.proofs.Rows.{in_table, op_numbers}
use Rattle.shape.specs.Shape.{InRange}
use Rattle.run.specs.Run.{Transition, Located}
use Rattle.number.specs.Number.{number_at, numeral}
use Rattle.kinds.specs.Kinds.{most_b_of, is_some, allowed}
use Rattle.kinds.proofs.Rows.{known, most_bound}
use Rattle.format.specs.Certificate.{Member, read_member}
use Rattle.format.specs.Job.{read_facts, read_located, read_transition}
use Rattle.format.specs.Parser.{parsed, many, Buffer, ranged}
use Rattle.format.proofs.Files.{located_exact, transition_exact}
use Rattle.format.proofs.Parsing.{then, ranged_exact, codes_exact}
use Rattle.format.proofs.Sequence.{Reads, one, reads_first, reads_one, reads_split, reads_inside}
use Rattle.layout.specs.Entries.{version_of, facts_from, facts_end, links_end, located_at, EntryInRange, entry_end, entries_at, places_at, EntriesIn}
use Rattle.layout.specs.Transitions.{op_of, transition_at}
use Rattle.reader.specs.Job.{TransitionIn}
use Rattle.reader.specs.Number.{without_value}
use Rattle.reader.proofs.Bytes.{Single, single, reads_bytes}
use Rattle.reader.proofs.Entries.{facts_last}
use Rattle.reader.proofs.FactBytes.{facts_stand}

-- ---- the version of a file, which is its first byte

pub version_read : (s : Buffer) (version a : ℕ) → ranged s 1 3 0 ≡ parsed version a → version ≡ version_of s.bytes
version_read s version a e =
    let (g, (_, small)) = (ranged_exact s 1 3).sound 0 version a e in
    (single s.bytes 0 version a (reads_one g) (omega arith)).value

-- ---- an entry by the place after its state

module _ (s : Buffer) (variables states : ℕ) where
  -- where its facts begin, if its number of cells is at a
  abbrev facts_place : ℕ → ℕ
  facts_place a = a + 1 + variables + get_or s.bytes a 0

  pub record EntryAfter (at a : ℕ) (m : Located) (next : ℕ) : Type 0 where
    pub number : number_at s.bytes at ≡ numeral m.state a
    pub state : m.state < states
    pub shape : InRange variables 12 m.shape
    pub some : a < length s.bytes
    pub cells : length m.shape.links ≡ get_or s.bytes a 0
    pub vars : m.shape.vars ≡ take variables (drop (a + 1) s.bytes)
    pub links : m.shape.links ≡ take (length m.shape.links) (drop (a + 1 + variables) s.bytes)
    pub facts : m.shape.facts ≡ facts_from s.bytes (facts_place a)
    pub after : next ≡ facts_end s.bytes (facts_place a)
    pub links_inside_lem : facts_place a ≤ length s.bytes
    pub inside : next ≤ length s.bytes
    pub read_facts_lem : without_value (read_facts s (get_or s.bytes a 0) (version_of s.bytes) (facts_place a)) ≡ parsed tt next

  pub entry_after : (at : ℕ) (m : Located) (next : ℕ) → read_located (version_of s.bytes) s variables states at ≡ parsed m next
      → (a : ℕ) × EntryAfter at a m next
  entry_after at m next h =
      let version = version_of s.bytes in
      let (r, ok) = (located_exact version s variables states).sound at m next h in
      let n = length m.shape.links in
      let vars : List ℕ = m.shape.vars in
      let links : List ℕ = m.shape.links in
      let (a, g₁, r₁) = reads_first r in
      let (b, g₂, r₂) = reads_first r₁ in
      let (c, r₃, r') = reads_split vars r₂ in
      let (d, r₄, r₅) = reads_split links r' in
      let cells : n ≤ 12 = ok.shape.cells in
      let t = single s.bytes a (length links) b g₂ (omega arith) in
      let (vars_are, c_is) = reads_bytes r₃ (λ x i. omega (arith, ok.shape.vars x i)) in
      let (links_are, d-is) = reads_bytes r₄ (λ x i. omega (arith, ok.shape.links x i)) in
      let long : length vars ≡ variables = ok.shape.variables_number in
      let links_at : c ≡ a + 1 + variables = omega (arith, t.after) in
      let facts_at : d ≡ facts_place a = omega (arith, t.value) in
      let (facts-are, next_is) = facts_stand s.bytes n d m.shape.facts next cells ok.shape.facts ok.facts r₅ in
      let code : cell n ≡ 3 + n = omega arith in
      let last : without_value (read_facts s n version d) ≡ without_value (read_located version s variables states at) =
      facts_last version s variables states at ((ranged_exact s 0 states).complete at m.state a (one g₁) (omega arith, ok.state))
      ((ranged_exact s 0 13).complete a n b (one g₂) (omega arith, omega arith))
      (ap without_value (rw code at ((codes_exact s variables (cell n)).complete b vars c r₃ (long, ok.shape.vars))))
      (ap without_value (rw code at ((codes_exact s n (cell n)).complete c links d r₄ (refl, ok.shape.links)))) in (
        a,
        record {
          number = g₁;
          state = ok.state;
          shape = ok.shape;
          some = t.inside;
          cells = t.value;
          vars = rw (long, t.after) at vars_are;
          links = rw links_at at links_are;
          facts = rw facts_at at facts-are;
          after = rw facts_at at next_is;
          links_inside_lem = omega (arith, reads_inside r₄ (omega (arith, reads_inside r₃ (omega (arith, t.inside, t.after)))));
          inside = reads_inside r₁ (omega (arith, t.inside));
          read_facts_lem = sym (ap₂ (λ k p. without_value (read_facts s k version p)) t.value facts_at) ∙ last ∙ ap without_value h;
        },
      )

module _ (s : Buffer) (variables states : ℕ) (few : states ≤ 64) where
  -- ---- an entry whose state is one byte

  pub record EntryRead (at : ℕ) (m : Located) (next : ℕ) : Type 0 where
    pub same : m ≡ located_at s.bytes variables at
    pub after : next ≡ entry_end s.bytes variables at
    pub entry : EntryInRange s.bytes variables at

  located_is : (at n : ℕ) (m : Located) (b c : ℕ) → m.state ≡ get_or s.bytes at 0 → n ≡ get_or s.bytes (at + 1) 0 → b ≡ at + 2 → c ≡ at + 2 + variables
      → m.shape.vars ≡ take variables (drop b s.bytes) → m.shape.links ≡ take n (drop c s.bytes)
      → m.shape.facts ≡ facts_from s.bytes (links_end s.bytes variables at) → m ≡ located_at s.bytes variables at
  located_is at n m b c state_is n_is b_is c_is vars_are links_are facts-are =
      let vars_at : m.shape.vars ≡ take variables (drop (at + 2) s.bytes) = rw b_is at vars_are in
      let links_at : m.shape.links ≡ take (get_or s.bytes (at + 1) 0) (drop (at + 2 + variables) s.bytes) = rw (c_is, n_is) at links_are in
      λ i. record { state = state_is i; shape = record { vars = vars_at i; links = links_at i; facts = facts-are i } }

  pub entry_read : (at : ℕ) (m : Located) (next : ℕ) → read_located (version_of s.bytes) s variables states at ≡ parsed m next → EntryRead at m next
  entry_read at m next h =
      let (a, e) = entry_after s variables states at m next h in
      let t = single s.bytes at m.state a e.number (omega (arith, e.state)) in
      let a_is : a ≡ at + 1 = t.after in
      let n_at : get_or s.bytes a 0 ≡ get_or s.bytes (at + 1) 0 = ap (λ k. get_or s.bytes k 0) a_is in
      let facts_at : a + 1 + variables + get_or s.bytes a 0 ≡ links_end s.bytes variables at = omega (arith, n_at) in
      let cells : length m.shape.links ≤ 12 = e.shape.cells in
      let same : m ≡ located_at s.bytes variables at =
      located_is at (length m.shape.links) m (a + 1) (a + 1 + variables) t.value (e.cells ∙ n_at) (omega arith) (omega arith) e.vars e.links
      (e.facts ∙ ap (facts_from s.bytes) facts_at) in
      let after : next ≡ entry_end s.bytes variables at = e.after ∙ ap (facts_end s.bytes) facts_at in
      record {
        same = same;
        after = after;
        entry = record {
          inside = omega (arith, e.links_inside_lem, facts_at);
          facts_inside = omega (arith, after, e.inside);
          cells = omega (arith, e.cells);
          state = omega (arith, t.value, e.state);
          range = subst (λ (k : Located). InRange variables 12 k.shape) same e.shape;
        };
      }

  -- ---- entries, one after the other

  pub record EntriesRead (k at : ℕ) (ms : List Located) (next : ℕ) : Type 0 where
    pub same : ms ≡ entries_at s.bytes variables at k
    pub entries : EntriesIn s.bytes variables at k

  pub entries_read : (k at : ℕ) (ms : List Located) (next : ℕ) → at ≤ length s.bytes → many k (read_located (version_of s.bytes) s variables states) at ≡ parsed ms next
      → EntriesRead k at ms next
  unfolding many entries_at EntriesIn
  entries_read zero at ms next inside h = let ms_are : [] ≡ ms = cc in record { same = sym ms_are; entries = inside }
  entries_read (suc k) at ms next inside h =
      then (read_located (version_of s.bytes) s variables states at) _
      (λ m mid h₁. then (many k (read_located (version_of s.bytes) s variables states) mid) _
      (λ rest last h₂ r.
      let e = entry_read at m mid h₁ in
      let es = entries_read k mid rest last (omega (arith, e.after, e.entry.facts_inside)) h₂ in
      let ms_are : m ∷ rest ≡ ms = cc in
      record {
        same = sym ms_are ∙ ap₂ ◌∷◌ e.same (es.same ∙ ap (λ p. entries_at s.bytes variables p k) e.after);
        entries = (e.entry, subst (λ (p : ℕ). EntriesIn s.bytes variables p k) e.after es.entries);
      }))
      h

  -- ---- members, each with its first place

  pub record MembersAre (k at : ℕ) (ms : List Member) (next : ℕ) : Type 0 where
    pub located : map (λ m. m.located) ms ≡ map (located_at s.bytes variables) (places_at s.bytes variables at k)
    pub places : map (λ m. m.first) ms ≡ places_at s.bytes variables at k
    pub entries : EntriesIn s.bytes variables at k

  pub members_read : (k at : ℕ) (ms : List Member) (next : ℕ) → at ≤ length s.bytes → many k (read_member s (version_of s.bytes) variables states) at ≡ parsed ms next
      → MembersAre k at ms next
  unfolding many read_member places_at EntriesIn
  members_read zero at ms next inside h =
      let ms_are : [] ≡ ms = cc in
      rw (← ms_are) (record { located = refl; places = refl; entries = inside })
  members_read (suc k) at ms next inside h =
      then (read_member s (version_of s.bytes) variables states at) _
      (λ m mid h₀. then (many k (read_member s (version_of s.bytes) variables states) mid) _
      (λ rest last h₂ r. then (read_located (version_of s.bytes) s variables states at) _
      (λ l p h₁ q.
      let m_is : record { first = at; located = l } ≡ m = cc in
      let p_is : p ≡ mid = cc in
      let e = entry_read at l p h₁ in
      let after : mid ≡ entry_end s.bytes variables at = sym p_is ∙ e.after in
      let es = members_read k mid rest last (omega (arith, e.entry.facts_inside)) h₂ in
      let ms_are : m ∷ rest ≡ ms = cc in
      rw (← ms_are, ← m_is) (record {
        located = ap₂ ◌∷◌ e.same (es.located ∙ ap (λ p. map (located_at s.bytes variables) (places_at s.bytes variables p k)) after);
        places = ap₂ ◌∷◌ refl (es.places ∙ ap (λ p. places_at s.bytes variables p k) after);
        entries = (e.entry, subst (λ (p : ℕ). EntriesIn s.bytes variables p k) after es.entries);
      }))
      h₀))
      h

  -- ---- transitions

  module _ (some-variables : variables ≤ 8) where
    pub record TransitionRead (at : ℕ) (t : Transition) (next : ℕ) : Type 0 where
      pub same : t ≡ transition_at s.bytes at
      pub after : next ≡ at + 5
      pub transition : TransitionIn s.bytes variables states at

    byte_at : (at k p n next : ℕ) → Single s.bytes p n next → p ≡ at + k → n ≡ get_or s.bytes (at + k) 0
    byte_at at k p n next t e = t.value ∙ ap (λ q. get_or s.bytes q 0) e

    pub transition_read : (at : ℕ) (t : Transition) (next : ℕ) → read_transition (version_of s.bytes) s variables states at ≡ parsed t next → TransitionRead at t next
    unfolding allowed most_b_of
    transition_read at t next h =
        let (r, ok) = (transition_exact (version_of s.bytes) s variables states).sound at t next h in
        let (kind, a, b, (_, named)) = ok.op in
        let row = in_table variables kind a b t.op named in
        let r' : Reads s.bytes at (t.from ∷ kind ∷ a ∷ b ∷ t.to ∷ []) next =
        subst (λ (n : ℕ × ℕ × ℕ). Reads s.bytes at (t.from ∷ n.0 ∷ n.1 ∷ n.2 ∷ t.to ∷ []) next) (op_numbers variables kind a b t.op named) r in
        let (p₁, g₁, r₁) = reads_first r' in
        let (p₂, g₂, r₂) = reads_first r₁ in
        let (p₃, g₃, r₃) = reads_first r₂ in
        let (p₄, g₄, r₄) = reads_first r₃ in
        let g₅ = reads_one r₄ in
        let allows : allowed variables kind a b ≡ true = ap is_some named in
        let (low, high) = known variables kind a b allows in
        let (_, a_most) = (r_and (r_le row.row.least_a a) (r_le a variables)).holds row.first in
        let (_, b_most) = (r_and (r_le row.row.least_b b) (r_le b (row.row.most_b variables))).holds row.second in
        let most : most_b_of kind variables ≡ row.row.most_b variables = rw row.found refl in
        let t₁ = single s.bytes at t.from p₁ g₁ (omega (arith, ok.from)) in
        let t₂ = single s.bytes p₁ kind p₂ g₂ (omega arith) in
        let t₃ = single s.bytes p₂ a p₃ g₃ (omega arith) in
        let t₄ = single s.bytes p₃ b p₄ g₄ (omega (arith, most_bound kind variables)) in
        let t₅ = single s.bytes p₄ t.to next g₅ (omega (arith, ok.to)) in
        let kind_is = byte_at at 1 p₁ kind p₂ t₂ (omega (arith, t₁.after)) in
        let a_is = byte_at at 2 p₂ a p₃ t₃ (omega (arith, t₁.after, t₂.after)) in
        let b_is = byte_at at 3 p₃ b p₄ t₄ (omega (arith, t₁.after, t₂.after, t₃.after)) in
        let to_is = byte_at at 4 p₄ t.to next t₅ (omega (arith, t₁.after, t₂.after, t₃.after, t₄.after)) in
        let op_is : t.op ≡ op_of (kind_of (get_or s.bytes (at + 1) 0)) (get_or s.bytes (at + 2) 0) (get_or s.bytes (at + 3) 0) =
        sym row.named ∙ ap (λ k. op_of k a b) (sym row.found) ∙ rw (kind_is, a_is, b_is) refl in
        record {
          same = λ i. record { from = t₁.value i; op = op_is i; to = to_is i };
          after = omega (arith, t₁.after, t₂.after, t₃.after, t₄.after, t₅.after);
          transition = record {
            inside = omega (arith, t₁.after, t₂.after, t₃.after, t₄.after, t₅.inside);
            from = omega (arith, t₁.value, ok.from);
            kind = (omega arith, omega arith);
            operands = rw (← kind_is, ← a_is, ← b_is) allows;
            to = omega (arith, ok.to);
          };
        }

    -- transitions, the first of them number j of those that start at `base`
    pub transitions_read : (base k j at : ℕ) (ts : List Transition) (next : ℕ) → at ≡ base + 5 * j
        → many k (read_transition (version_of s.bytes) s variables states) at ≡ parsed ts next
        → (ts ≡ map (λ i. transition_at s.bytes (base + 5 * i)) (range j k))
        × ((i : ℕ) → j ≤ i → i < j + k → TransitionIn s.bytes variables states (base + 5 * i))
        × (next ≡ base + 5 * (j + k))
    unfolding many
    transitions_read base zero j at ts next at_is h =
        let ts_are : [] ≡ ts = cc in
        let next_is : at ≡ next = cc in
        (sym ts_are, (λ i l b. absurd (omega arith)), omega arith)
    transitions_read base (suc k) j at ts next at_is h =
        then (read_transition (version_of s.bytes) s variables states at) _
        (λ t mid h₁. then (many k (read_transition (version_of s.bytes) s variables states) mid) _
        (λ rest last h₂ r.
        let e = transition_read at t mid h₁ in
        let (same, each, end) = transitions_read base k (suc j) mid rest last (omega (arith, e.after)) h₂ in
        let ts_are : t ∷ rest ≡ ts = cc in
        let next_is : last ≡ next = cc in (
          sym ts_are ∙ ap₂ ◌∷◌ (e.same ∙ ap (transition_at s.bytes) at_is) same,
          (λ i l b. by_index i l b (ℕ_discrete j i) (subst (TransitionIn s.bytes variables states) at_is e.transition) each),
          omega arith,
        )))
        h
      where
        by_index : (i : ℕ) → j ≤ i → i < j + suc k → Dec (j ≡ i) → TransitionIn s.bytes variables states (base + 5 * j)
            → ((i : ℕ) → suc j ≤ i → i < suc j + k → TransitionIn s.bytes variables states (base + 5 * i))
            → TransitionIn s.bytes variables states (base + 5 * i)
        by_index i l b (yes z) first each = subst (λ (n : ℕ). TransitionIn s.bytes variables states (base + 5 * n)) z first
        by_index i l b (no z) first each = each i (omega arith) (omega arith)
