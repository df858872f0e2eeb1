-- Members with a table of their first places.
use mathlib.Core.Bool.{true}
use mathlib.Core.List.{List, [], ◌∷◌, ◌++◌, map, append-nil, append_assoc}
use mathlib.Core.Path.{◌≡◌, refl, sym, ap, ap₂, subst, ◌∙◌}
use Prim.Native.Nat.{ℕ, zero, suc, ◌+◌, ◌-◌, ◌%◌, ◌≤◌, ◌<◌}
use native.Mathlib.Nat.{mod-eq_of_lt}
use native.Mathlib.Numerals.{add-one}
use native.Mathlib.Omega.{arith}
use borrow.Author.Tests.{eq-eqb, ne_eqb}
use lib.Dec.{eqb}
use lib.ListN.{length, get_or, take, drop, set, length-set, length-map, length-append, length-drop, take-append-drop}
use lib.Seq.{length-take-le, take-suc-set, take_at, drop-set-lt, drop-drop}
use Rattle.run.specs.Run.{Located}
use Rattle.format.specs.Certificate.{Member, read_member, read_members}
use Rattle.format.specs.Job.{read_located}
use Rattle.format.specs.Parser.{Reason, refusal, Parsed, parsed, fault, Parser, onward, Buffer, certificate_buffer, many, ranged}
use Rattle.format.proofs.Covers.{members_sound}
use Rattle.format.proofs.Parsing.{then, ranged_exact}
use Rattle.format.proofs.Sequence.{reads_one, reads_inside}
use Rattle.layout.specs.Entries.{version_of, located_at, EntryInRange, entry_end, places_at, EntriesIn}
use Rattle.reader.specs.Members.{Bounds, places_read, member_places, with_places, tested, read_tested, MembersRead}
use Rattle.reader.specs.Number.{without_value}
use Rattle.number.proofs.Reading.{number_inside}
use Rattle.reader.proofs.Many.{remembered, without_value_fault, without_value_made, many_length, Left, left_none, left_more}
use Rattle.reader.proofs.Standing.{version_read, MembersAre, members_read}
use Rattle.reader.proofs.Testing.{all_read}

-- ---- the table while values are read: i of them are, up to the place `at`

-- a place as a slot has it
abbrev slot : ℕ → ℕ
slot at = at % 65536

with_places_by : (table places before : List ℕ) (i : ℕ) → i ≤ length table → take i table ≡ map slot places → drop i table ≡ drop i before
    → table ≡ with_places places before
with_places_by table places before i h front rest =
    let i_is : i ≡ length places = sym (length-take-le i table h) ∙ ap length front ∙ length-map places slot in
    sym (take-append-drop i table) ∙ ap₂ ◌++◌ front (rest ∙ ap (λ k. drop k before) i_is)

module _ {A : Type 0} (p : Parser A) where
  places_more : (k at next : ℕ) → without_value (p at) ≡ parsed tt next → places_read (suc k) p at ≡ at ∷ places_read k p next
  unfolding places_read
  places_more k at next e = let (x, g) = remembered (p at) next e in rw g refl

  places_last : (k at : ℕ) (why : Reason) (place : ℕ) → without_value (p at) ≡ fault why place → places_read (suc k) p at ≡ at ∷ []
  unfolding places_read
  places_last k at why place e = rw (without_value_fault (p at) why place e) refl

  module _ (count first : ℕ) (before : List ℕ) where
    pub record Noting (table : List ℕ) (at i : ℕ) : Type 0 where
      pub left : Left p count first at i
      pub size : length table ≡ length before
      pub places : take i table ++ map slot (places_read (count - i) p at) ≡ map slot (places_read count p first)
      pub rest : drop i table ≡ drop i before

    pub note_none : Noting before first 0
    note_none =
        record {
          left = left_none p count first;
          size = refl;
          places = let all : count - 0 ≡ count = omega arith in rw all refl;
          rest = refl;
        }

    module _ (table : List ℕ) (at i : ℕ) (n : Noting table at i) where
      module _ (more : i < count) (room : count ≤ length before) where
        i_left : count - i ≡ suc (count - (i + 1))
        i_left = omega arith

        -- the slot of the value at the place, filled
        filled : take (i + 1) (set table i (slot at)) ≡ take i table ++ (slot at ∷ [])
        filled = ap (λ k. take k (set table i (slot at))) (add-one i) ∙ take-suc-set table i (slot at) (omega (arith, n.size))

        behind : drop (i + 1) (set table i (slot at)) ≡ drop (i + 1) before
        behind = drop-set-lt (i + 1) table i (slot at) (omega arith) ∙ sym (drop-drop 1 i table) ∙ ap (drop 1) n.rest ∙ drop-drop 1 i before

        pub note_more : (next : ℕ) → without_value (p at) ≡ parsed tt next → Noting (set table i (slot at)) next (i + 1)
        note_more next e =
            let later = map slot (places_read (count - (i + 1)) p next) in
            let places_left : places_read (count - i) p at ≡ at ∷ places_read (count - (i + 1)) p next =
            ap (λ k. places_read k p at) i_left ∙ places_more (count - (i + 1)) at next e in
            record {
              left = left_more p count first at i n.left next more e;
              size = length-set table i (slot at) ∙ n.size;
              places =
                  ap (λ l. l ++ later) filled ∙ append_assoc (take i table) (slot at ∷ []) later
                  ∙ ap (λ l. take i table ++ map slot l) (sym places_left) ∙ n.places;
              rest = behind;
            }

        pub note_last : (why : Reason) (place : ℕ) → without_value (p at) ≡ fault why place → set table i (slot at) ≡ with_places (places_read count p first) before
        note_last why place e =
            let places_left : places_read (count - i) p at ≡ at ∷ [] =
            ap (λ k. places_read k p at) i_left ∙ places_last (count - (i + 1)) at why place e in
            with_places_by (set table i (slot at)) (places_read count p first) before (i + 1) (omega (arith, length-set table i (slot at), n.size))
            (filled ∙ ap (λ l. take i table ++ map slot l) (sym places_left) ∙ n.places) behind

      pub note_all : count ≤ i → count ≤ length before → table ≡ with_places (places_read count p first) before
      unfolding places_read
      note_all h room =
          let none : count - i ≡ 0 = omega arith in
          with_places_by table (places_read count p first) before i (omega (arith, n.left.0, n.size))
          (sym (append-nil (take i table)) ∙ ap (λ k. take i table ++ map slot (places_read k p at)) (sym none) ∙ n.places) n.rest

-- ---- the places of entries that are read

entry_of : (bytes : List ℕ) (variables k at i : ℕ) → EntriesIn bytes variables at k → i < k → EntryInRange bytes variables (get_or (places_at bytes variables at k) i 0)
unfolding EntriesIn places_at
entry_of bytes variables zero at i es h = absurd (omega arith)
entry_of bytes variables (suc k) at zero es h = es.0
entry_of bytes variables (suc k) at (suc i) es h = entry_of bytes variables k (entry_end bytes variables at) i es.1 (omega arith)

-- they fit 16 bits
entries_fit : (bytes : List ℕ) (variables k at : ℕ) → length bytes ≤ 65536 → EntriesIn bytes variables at k
    → map slot (places_at bytes variables at k) ≡ places_at bytes variables at k
unfolding EntriesIn places_at
entries_fit bytes variables zero at fits es = refl
entries_fit bytes variables (suc k) at fits es =
    ap₂ ◌∷◌ (mod-eq_of_lt (omega (arith, es.0.inside))) (entries_fit bytes variables k (entry_end bytes variables at) fits es.1)

module _ (cert : List ℕ) (variables states : ℕ) where
  abbrev s : Buffer
  s = certificate_buffer cert

  -- a member is read as its entry is
  pub as_entry : (at : ℕ) → without_value (read_located (version_of cert) s variables states at) ≡ without_value (read_member s (version_of cert) variables states at)
  unfolding read_member
  as_entry at = let member : Located → Member = λ l. record { first = at; located = l } in without_value_made (read_located (version_of cert) s variables states at) member

  -- the places at which members were read are their first places
  firsts : (k at : ℕ) (ms : List Member) (next : ℕ) → many k (read_member s (version_of cert) variables states) at ≡ parsed ms next
      → places_read k (read_member s (version_of cert) variables states) at ≡ map (λ m. m.first) ms
  unfolding many read_member places_read
  firsts zero at ms next e = let ms_are : [] ≡ ms = cc in ap (map (λ m. m.first)) ms_are
  firsts (suc k) at ms next e =
      then (read_member s (version_of cert) variables states at) _
      (λ m mid h₁. then (many k (read_member s (version_of cert) variables states) mid) _
      (λ rest last h₂ r. then (read_located (version_of cert) s variables states at) _
      (λ l c h₃ q.
      let m_is : record { first = at; located = l } ≡ m = cc in
      let ms_are : m ∷ rest ≡ ms = cc in
      let later = firsts k mid rest last h₂ in
      rw (← ms_are, ← m_is) (places_more (read_member s (version_of cert) variables states) k at mid (ap without_value h₁) ∙ ap (λ ps. at ∷ ps) later))
      h₁))
      e

  -- ---- the certificate's first bytes

  module _ (version start : ℕ) where
    pub lost_version : {why : Reason} {place : ℕ} → ranged s 1 3 0 ≡ fault why place
        → (read_tested s version variables states start 0 ≡ fault why place) × (member_places s version variables states ≡ [])
    unfolding read_tested read_members member_places
    lost_version e = rw e (refl, refl)

    module _ {own a : ℕ} (e₁ : ranged s 1 3 0 ≡ parsed own a) where
      own_is : own ≡ version_of cert
      own_is = version_read s own a e₁

      pub versions_differ : (version_of cert ≡ version → ⊥)
          → (read_tested s version variables states start 0 ≡ fault (refusal 20) 0) × (member_places s version variables states ≡ [])
      unfolding read_tested read_members member_places
      versions_differ d = rw (e₁, ne_eqb own version (λ z. d (sym own_is ∙ z))) (refl, refl)

      module _ (same : version_of cert ≡ version) where
        alike : eqb own version ≡ true
        alike = eq-eqb own version (own_is ∙ same)

        pub lost_number : {why : Reason} {place : ℕ} → ranged s 1 513 a ≡ fault why place
            → (read_tested s version variables states start 0 ≡ fault why place) × (member_places s version variables states ≡ [])
        unfolding read_tested read_members member_places
        lost_number e = rw (e₁, alike, e) (refl, refl)

        module _ {count first : ℕ} (e₂ : ranged s 1 513 a ≡ parsed count first) where
          abbrev all : Parsed (List Member)
          all = many count (read_member s (version_of cert) variables states) first

          pub places_are : member_places s version variables states ≡ places_read count (read_member s (version_of cert) variables states) first
          unfolding member_places
          places_are = rw (e₁, alike, e₂) (ap (λ v. places_read count (read_member s v variables states) first) (sym same))

          reading_is : read_members s version variables states 0 ≡ all
          unfolding read_members
          reading_is = rw (e₁, alike, e₂) (ap (λ v. many count (read_member s v variables states) first) (sym same))

          testing_is : read_tested s version variables states start 0 ≡ onward all (tested start)
          unfolding read_tested
          testing_is = ap (λ x. onward x (tested start)) reading_is

          pub lost_test : {why : Reason} {place : ℕ} → without_value (onward all (tested start)) ≡ fault why place
              → read_tested s version variables states start 0 ≡ fault why place
          lost_test {why} {place} e = testing_is ∙ without_value_fault (onward all (tested start)) why place e

          pub members_made : (before table : List ℕ) (next : ℕ) → table ≡ with_places (places_read count (read_member s (version_of cert) variables states) first) before
              → without_value (onward all (tested start)) ≡ parsed tt next → length before ≡ 512 → MembersRead cert version variables states start table count next
          members_made before table next n t full =
              let (ms, (g, passed)) = all_read start all next t in
              let read : read_tested s version variables states start 0 ≡ parsed ms next = testing_is ∙ ap (λ x. onward x (tested start)) g ∙ passed in
              let (number_read, (low, high)) = (ranged_exact s 1 513).sound a count first e₂ in
              let first_inside : first ≤ length cert = number_inside cert a count first (reads_one number_read) in
              let next_inside : next ≤ length cert = reads_inside (members_sound s version variables states 0 ms next (reading_is ∙ g)).0 (omega arith) in
              let number : length ms ≡ count = many_length (read_member s (version_of cert) variables states) count first ms next g in
              let places : List ℕ = places_read count (read_member s (version_of cert) variables states) first in
              let firsts_are : places ≡ map (λ m. m.first) ms = firsts count first ms next g in
              let places_number : length (map slot places) ≡ count = length-map places slot ∙ ap length firsts_are ∙ length-map ms (λ m. m.first) ∙ number in
              let taken : take count table ≡ map slot places = ap (take count) n ∙ take_at (map slot places) (drop (length places) before) count places_number in
              let taken_number : length (take count table) ≡ count = ap length taken ∙ places_number in
              let are : (b : Bounds cert variables states) → MembersAre s variables states b.states_most count first ms next = λ b.
              members_read s variables states b.states_most count first ms next first_inside g in
              let slots : Bounds cert variables states → take count table ≡ places_at cert variables first count = λ b.
              taken ∙ ap (map slot) (firsts_are ∙ (are b).places) ∙ entries_fit cert variables count first b.fits (are b).entries in
              record {
                members = ms;
                read = read;
                version_is = sym same;
                number = number;
                number_range = (low, omega arith);
                inside = omega arith;
                size =
                    ap length n ∙ length-append (map slot places) (drop (length places) before)
                    ∙ omega (arith, places_number, length-map places slot, length-drop (length places) before);
                places_are = λ b. (are b).places ∙ sym (slots b);
                members_are = λ b. (are b).located ∙ ap (map (located_at cert variables)) (sym (slots b));
                table_is = λ b.
                    record {
                      variables_some = b.variables_range.0;
                      variables_most = b.variables_range.1;
                      count_most = omega (arith, taken_number);
                      entry = λ i h.
                          subst (EntryInRange cert variables) (ap (λ l. get_or l i 0) (sym (slots b)))
                          (entry_of cert variables count first i (are b).entries (omega (arith, taken_number)));
                    };
              }
