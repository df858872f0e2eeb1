-- Refusal 8: the test of the members, one after the other.
use mathlib.Core.Bool.{Bool, true, false, not, ◌&&◌}
use mathlib.Core.List.{List, [], ◌∷◌}
use mathlib.Core.Path.{◌≡◌, refl, sym, ap, subst, ◌∙◌}
use Prim.Native.Nat.{ℕ, suc, ◌+◌, ◌-◌, ◌≤◌, ◌<◌}
use native.Mathlib.Omega.{arith}
use borrow.Author.Tests.{eq-eqb, ne_eqb}
use lib.Dec.{eqb}
use lib.ListN.{length, get_or}
use Rattle.number.proofs.Reading.{one_byte, number_some, same_next, same_value}
use Rattle.run.specs.Run.{Located}
use Rattle.format.specs.Certificate.{Member, at_start, read_member, test_start}
use Rattle.format.specs.Job.{read_located}
use Rattle.format.specs.Parser.{Reason, refusal, Parsed, parsed, fault, Parser, onward, require, many, each, Buffer, certificate_buffer, ranged}
use Rattle.format.proofs.Parsing.{not_fault, then, require_sound, ranged_exact}
use Rattle.format.proofs.Sequence.{reads_one}
use Rattle.layout.specs.Entries.{version_of}
use Rattle.reader.specs.Members.{empty_at, tested}
use Rattle.reader.specs.Number.{without_value}
use Rattle.reader.proofs.Entries.{lost_state}
use Rattle.reader.proofs.Many.{remembered, without_value_fault, without_value_onward, bind_assoc, many_suc}
use Rattle.reader.proofs.Standing.{EntryAfter, entry_after}

-- ---- where a member that was read stands, and its test

module _ (cert : List ℕ) (variables states start at : ℕ) (l : Located) (next : ℕ) (h : read_located (version_of cert) (certificate_buffer cert) variables states at ≡ parsed l next)
  where
    abbrev s : Buffer
    s = certificate_buffer cert

    abbrev member : Member
    member = record { first = at; located = l }

    pub state_read : {why : Reason} {place : ℕ} → ranged s 0 states at ≡ fault why place → ⊥
    state_read {why} {place} e = not_fault tt next why place (lost_state (version_of cert) s variables states at e ∙ ap without_value h)

    module _ (a : ℕ) (w : EntryAfter s variables states at a l next) where
      -- its test, by its bytes
      by_bytes : at_start start l ≡ eqb l.state start && empty_at cert variables a
      by_bytes = rw (w.cells, w.vars) refl

      pub other_state : (l.state ≡ start → ⊥) → parsed tt next ≡ test_start start member next
      other_state z = rw (by_bytes, ne_eqb l.state start z) refl

      module _ (is-start : l.state ≡ start) where
        pub not_empty : empty_at cert variables a ≡ false → parsed tt next ≡ test_start start member next
        not_empty z = rw (by_bytes, eq-eqb l.state start is-start, z) refl

        pub satisfied : empty_at cert variables a ≡ true → fault (refusal 8) at ≡ test_start start member next
        satisfied z = rw (by_bytes, eq-eqb l.state start is-start, z) refl

    -- where its state is the number read
    module _ (state a : ℕ) (e : ranged s 0 states at ≡ parsed state a) where
      pub stand : (l.state ≡ state) × EntryAfter s variables states at a l next
      stand =
          let (b, w) = entry_after s variables states at l next h in
          let number = w.number in
          let g = reads_one ((ranged_exact s 0 states).sound at state a e).0 in
          let b_is : b ≡ a = same_next (sym number ∙ g) in
          let state_is : l.state ≡ state = same_value (sym number ∙ g) in
          (state_is, subst (λ (k : ℕ). EntryAfter s variables states at k l next) b_is w)

    -- where its state is one byte
    pub first_inside : at < length cert
    first_inside = let (b, w) = entry_after s variables states at l next h in number_some cert at l.state b w.number

    pub stand_byte : get_or cert at 0 < 128 → (l.state ≡ get_or cert at 0) × EntryAfter s variables states at (at + 1) l next
    stand_byte small =
        let (b, w) = entry_after s variables states at l next h in
        let number = w.number in
        let g = one_byte cert at (get_or cert at 0) refl first_inside small in
        let b_is : b ≡ at + 1 = same_next (sym number ∙ sym g) in
        let state_is : l.state ≡ get_or cert at 0 = same_value (sym number ∙ sym g) in
        (state_is, subst (λ (k : ℕ). EntryAfter s variables states at k l next) b_is w)

-- ---- the tests keep the place

each_place : (start : ℕ) (ms : List Member) (at : ℕ) (us : List (Unit {0})) (next : ℕ) → each (test_start start) ms at ≡ parsed us next → at ≡ next
unfolding each
each_place start [] at us next e = cc
each_place start (m ∷ ms) at us next e =
    then (test_start start m at) _
    (λ u a h₁. then (each (test_start start) ms a) _
    (λ vs b h₂ r.
    let (_, here) = require_sound (not (at_start start m.located)) (refusal 8) m.first at h₁ in
    let later = each_place start ms a vs b h₂ in
    cc)) e

module _ (start : ℕ) (ms : List Member) (at next : ℕ) (e : without_value (tested start ms at) ≡ parsed tt next) where
  all_passed : (at ≡ next) × (tested start ms at ≡ parsed ms next)
  all_passed =
      let (vs, g) = remembered (tested start ms at) next e in
      then (each (test_start start) ms at) _
      (λ us mid h r.
      let here = each_place start ms at us mid h in
      let vs_are : ms ≡ vs = cc in
      let mid_is : mid ≡ next = cc in
      (here ∙ mid_is, g ∙ ap (λ l. parsed l next) (sym vs_are))) g

  tested_place : at ≡ next
  tested_place = all_passed.0

  tested_same : tested start ms at ≡ parsed ms next
  tested_same = all_passed.1

-- ---- one member more

module _ (start : ℕ) (m : Member) (ms : List Member) (mid end : ℕ) where
  pub first_refused : (why : Reason) (place : ℕ) → test_start start m mid ≡ fault why place → fault why place ≡ without_value (tested start (m ∷ ms) end)
  unfolding each
  first_refused why place e = go (not (at_start start m.located)) e
    where
      one : Unit {0}
      one = tt

      go : (b : Bool) → require b (refusal 8) m.first mid ≡ fault why place
          → fault why place ≡ without_value (onward (onward (require b (refusal 8) m.first end) (λ u a. onward (each (test_start start) ms a) (λ us c. parsed (u ∷ us) c)))
          (λ us c. parsed (m ∷ ms) c))
      go true e = absurd (not_fault one mid why place (sym e))
      go false e = ap without_value {x = fault why place} {y = fault (refusal 8) m.first} (sym e)

  pub first_passed : (next : ℕ) → test_start start m mid ≡ parsed tt next → (mid ≡ next) × (without_value (tested start (m ∷ ms) end) ≡ without_value (tested start ms end))
  unfolding each
  first_passed next e = go (not (at_start start m.located)) e
    where
      one : Unit {0}
      one = tt

      rest : (x : Parsed (List (Unit {0}))) → without_value (onward (onward x (λ us c. parsed (one ∷ us) c)) (λ us c. parsed (m ∷ ms) c))
          ≡ without_value (onward x (λ us c. parsed ms c))
      rest (parsed us c) = refl
      rest (fault why place) = refl

      go : (b : Bool) → require b (refusal 8) m.first mid ≡ parsed one next
          → (mid ≡ next)
          × (without_value (onward (onward (require b (refusal 8) m.first end) (λ u a. onward (each (test_start start) ms a) (λ us c. parsed (u ∷ us) c)))
          (λ us c. parsed (m ∷ ms) c)) ≡ without_value (onward (each (test_start start) ms end) (λ us c. parsed ms c)))
      go true e = (cc, rest (each (test_start start) ms end))
      go false e = absurd (not_fault one next (refusal 8) m.first e)

-- ---- the loop: i of the members are tested, the next is at a place

module _ (cert : List ℕ) (variables states start first count : ℕ) where
  abbrev p : ℕ → Parsed Member
  p = read_member (certificate_buffer cert) (version_of cert) variables states

  pub record Testing (at i : ℕ) : Type 0 where
    pub upto : i ≤ count
    pub left : List Member
    pub end : ℕ
    pub read : many (count - i) p at ≡ parsed left end
    pub same : without_value (tested start left end) ≡ without_value (onward (many count p first) (tested start))

  pub test_none : (ms : List Member) (end : ℕ) → many count p first ≡ parsed ms end → Testing first 0
  test_none ms end e =
      let all : count - 0 ≡ count = omega arith in
      record {
        upto = omega arith;
        left = ms;
        end = end;
        read = ap (λ k. many k p first) all ∙ e;
        same = sym (ap (λ x. without_value (onward x (tested start))) e);
      }

  -- the member at the place
  pub record Next (at i : ℕ) (left : List Member) (end : ℕ) : Type 0 where
    pub located : Located
    pub mid : ℕ
    pub read : read_located (version_of cert) (certificate_buffer cert) variables states at ≡ parsed located mid
    pub others : List Member
    pub read_others : many (count - (i + 1)) p mid ≡ parsed others end
    pub left_are : record { first = at; located = located } ∷ others ≡ left

  module _ (at i : ℕ) (w : Testing at i) where
    pub next_member : i < count → Next at i w.left w.end
    unfolding read_member
    next_member b =
        let less : count - i ≡ suc (count - (i + 1)) = omega arith in
        then (p at) _
        (λ m mid h₁. then (many (count - (i + 1)) p mid) _
        (λ ms last h₂ r. then (read_located (version_of cert) (certificate_buffer cert) variables states at) _
        (λ l c h₃ q.
        let m_is : record { first = at; located = l } ≡ m = cc in
        let c_is : c ≡ mid = cc in
        let left_are : m ∷ ms ≡ w.left = cc in
        let last_is : last ≡ w.end = cc in
        record {
          located = l;
          mid = mid;
          read = h₃ ∙ ap (parsed l) c_is;
          others = ms;
          read_others = h₂ ∙ ap (parsed ms) last_is;
          left_are = ap (λ x. x ∷ ms) m_is ∙ left_are;
        })
        h₁))
        (sym (many_suc p (count - (i + 1)) at) ∙ ap (λ k. many k p at) (sym less) ∙ w.read)

    module _ (n : Next at i w.left w.end) where
      abbrev here : Member
      here = record { first = at; located = n.located }

      pub test_lost : (why : Reason) (place : ℕ) → test_start start here n.mid ≡ fault why place
          → fault why place ≡ without_value (onward (many count p first) (tested start))
      test_lost why place e =
          first_refused start here n.others n.mid w.end why place e
          ∙ ap (λ ms. without_value (tested start ms w.end)) n.left_are ∙ w.same

      pub test_more : (next : ℕ) → i < count → test_start start here n.mid ≡ parsed tt next → Testing next (i + 1)
      test_more next b e =
          let (place_is, rest) = first_passed start here n.others n.mid w.end next e in
          record {
            upto = omega arith;
            left = n.others;
            end = w.end;
            read = ap (many (count - (i + 1)) p) (sym place_is) ∙ n.read_others;
            same = sym rest ∙ ap (λ ms. without_value (tested start ms w.end)) n.left_are ∙ w.same;
          }

    pub test_all : count ≤ i → parsed tt at ≡ without_value (onward (many count p first) (tested start))
    unfolding many each
    test_all b =
        let none : count - i ≡ 0 = omega arith in
        let done : ◌≡◌ {A = Parsed (List Member)} (parsed [] at) (parsed w.left w.end) = sym (ap (λ k. many k p at) none) ∙ w.read in
        let left_are : [] ≡ w.left = cc in
        let end_is : at ≡ w.end = cc in
        ap (parsed tt) end_is ∙ ap (λ ms. without_value (tested start ms w.end)) left_are ∙ w.same

-- ---- the loop that reads them: the test has passed the i members that were read, so that what is left decides

module _ (cert : List ℕ) (variables states start first count : ℕ) where
  abbrev q : ℕ → Parsed Member
  q = read_member (certificate_buffer cert) (version_of cert) variables states

  abbrev pub Passing : ℕ → ℕ → Type 0
  Passing at i = without_value (onward (many (count - i) q at) (tested start)) ≡ without_value (onward (many count q first) (tested start))

  pub pass_none : Passing first 0
  pass_none = let all : count - 0 ≡ count = omega arith in rw all refl

  module _ (at i : ℕ) (w : Passing at i) where
    pub pass_more : (l : Located) (mid : ℕ) → i < count → read_located (version_of cert) (certificate_buffer cert) variables states at ≡ parsed l mid
        → parsed tt mid ≡ test_start start (record { first = at; located = l }) mid → Passing mid (i + 1)
    unfolding read_member
    pass_more l mid b h t =
        let k = count - (i + 1) in
        let m : Member = record { first = at; located = l } in
        let less : count - i ≡ suc k = omega arith in
        let here : q at ≡ parsed m mid = rw h refl in
        let made : List Member → Parser (List Member) = λ ms end. parsed (m ∷ ms) end in
        let one_more_lem : onward (many (count - i) q at) (tested start) ≡ onward (onward (many k q mid) made) (tested start) =
        rw (less, many_suc q k at, here) refl in
        let rest : without_value (onward (many k q mid) (λ ms end. tested start (m ∷ ms) end)) ≡ without_value (onward (many k q mid) (tested start)) =
        without_value_onward (many k q mid) (λ ms. tested start (m ∷ ms)) (tested start) (λ ms end. (first_passed start m ms mid end mid (sym t)).1) in
        sym (ap without_value (one_more_lem ∙ bind_assoc (many k q mid) made (tested start)) ∙ rest) ∙ w

    pub pass_all : count ≤ i → parsed tt at ≡ without_value (onward (many count q first) (tested start))
    unfolding many each
    pass_all b =
        let none : count - i ≡ 0 = omega arith in
        let done : without_value (onward (many (count - i) q at) (tested start)) ≡ parsed tt at = rw none refl in
        sym done ∙ w

  -- a member that is refused as it is read is refused before any test
  pub read_lost : (why : Reason) (place : ℕ) → fault why place ≡ without_value (many count q first)
      → fault why place ≡ without_value (onward (many count q first) (tested start))
  read_lost why place e = rw (without_value_fault (many count q first) why place (sym e)) refl

-- all members were read, where all pass
pub all_read : (start : ℕ) (x : Parsed (List Member)) (next : ℕ) → without_value (onward x (tested start)) ≡ parsed tt next
    → (ms : List Member) × ((x ≡ parsed ms next) × (tested start ms next ≡ parsed ms next))
all_read start (parsed ms at) next e =
    let same : at ≡ next = tested_place start ms at next e in
    (ms, (ap (parsed ms) same, ap (tested start ms) (sym same) ∙ tested_same start ms at next e))
all_read start (fault why place) next e = absurd (not_fault tt next why place e)
