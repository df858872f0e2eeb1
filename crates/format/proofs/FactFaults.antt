-- Where facts are refused: at the first number that is not allowed after those before it.
use mathlib.Core.Bool.{Bool, ◌&&◌}
use mathlib.Core.List.Memᴰ
use mathlib.Core.List.{List, [], ◌∷◌, ◌++◌, append_assoc}
use mathlib.Core.Logic.{inl, inr}
use mathlib.Core.Option.{Option, none, some}
use mathlib.Core.Path.{◌≡◌, refl, sym, ap, subst, ◌∙◌}
use Prim.Native.Nat.{ℕ, zero, suc, ◌<◌}
use native.Mathlib.Decide.{ℕ_discrete}
use native.Mathlib.Omega.{arith}
use borrow.Author.Tests.{ne_eqb}
use lib.Dec.{ltb}
use lib.ListN.{length, take}
use Rattle.lists.specs.List.{concat_map}
use Rattle.lists.proofs.List.{every_none, every_cons}
use Rattle.std.specs.Prelude.{Ok, Err}
use Rattle.number.specs.Number.{number_at, Read, no_numeral, numeral}
use Rattle.number.proofs.Reading.{same_next, read_or_not, unreadable_at}
use Rattle.facts.specs.Facts.{Fact, FactOf, FactsOf}
use Rattle.format.specs.Parser.{Reason, parsed, fault, Buffer, within, such, read_as, ranged}
use Rattle.format.specs.Job.{rises_after, fact_of, read_fact, facts_after, read_facts}
use Rattle.format.specs.JobNumbers.{fact_numbers}
use Rattle.format.specs.Meaning.{FactBegun, FactsBegun}
use Rattle.format.proofs.Sequence.{Reads, done, one, number_in_lem, reads_none, reads_first, reads_append, reads_split, reads_on}
use Rattle.format.proofs.Parsing.{not_fault, then_fault, Faulty, faulty_map, read_fault, read_refuses, ranged_exact}
use Rattle.format.proofs.Files.{RisingFrom, rising_none, rising_cons, rising_parts, fact_sound, fact_complete, read_facts_sound, read_facts_complete}
use Rattle.format.proofs.Local.{number_local, reads_local, on, NumberFault, Completes, Some, first_grows, number_refused, completes_return}

-- what may stand after the first numbers of a fact: a kind, i, j
abbrev allowed : ℕ → Option Fact → List ℕ → ℕ → Bool
allowed n last [] = within 0 2
allowed n last (kind ∷ []) = within 0 n
allowed n last (kind ∷ i ∷ rest) = λ j. ltb j n && rises_after last (fact_of kind i j)

-- the last of the facts, after the one before them
abbrev last_of : Option Fact → List Fact → Option Fact
last_of last [] = last
last_of last (t ∷ ts) = last_of (some t) ts

module _ (s : Buffer) (n : ℕ) where
  -- the number at the place is not allowed after the first numbers of a fact
  abbrev NotAllowed : Option Fact → List ℕ → Reason → ℕ → Type 0
  NotAllowed last next = Faulty s (λ m. such (allowed n last next) m ≡ none)

  -- some facts are read, and a number of the next is refused
  pub record FactRefused (k : ℕ) (last : Option Fact) (at : ℕ) (why : Reason) (place : ℕ) : Type 0 where
    pub facts : List Fact
    pub fewer : length facts < k
    pub of : FactsOf n facts
    pub rising : RisingFrom last facts
    pub next : List ℕ
    pub begun : FactBegun n next
    pub reads : Reads s.bytes at (concat_map fact_numbers facts ++ next) place
    pub faulty : NotAllowed (last_of last facts) next why place

  fact_fault : (last : Option Fact) (at : ℕ) (why : Reason) (place : ℕ) → read_fact s n last at ≡ fault why place
      → (next : List ℕ) × FactBegun n next × Reads s.bytes at next place × NotAllowed last next why place
  unfolding read_fact
  fact_fault last at why place =
      then_fault (ranged s _ _ at) _
      (λ kind a h₁. then_fault (ranged s _ _ a) _
      (λ i b h₂. then_fault (read_as s _ b) _ (λ j c h₃ r. absurd (not_fault (fact_of kind i j) c why place (sym r)))
      (λ h₃.
      let (g₁, (_, small)) = (ranged_exact s _ _).sound at kind a h₁ in
      let (g₂, (_, left)) = (ranged_exact s _ _).sound a i b h₂ in
      let (b_is, f) = read_fault s (such (allowed n last (kind ∷ i ∷ []))) b why place h₃ in
      (kind ∷ i ∷ [], (small, left), subst (Reads s.bytes at (kind ∷ i ∷ [])) b_is (reads_append g₁ g₂), subst (NotAllowed last (kind ∷ i ∷ []) why) b_is f)))
      (λ h₂.
      let (g₁, (_, small)) = (ranged_exact s _ _).sound at kind a h₁ in
      let (a_is, f) = read_fault s (such (within 0 n)) a why place h₂ in
      (kind ∷ [], small, subst (Reads s.bytes at (kind ∷ [])) a_is g₁, subst (NotAllowed last (kind ∷ []) why) a_is f)))
      (λ h₁.
      let (at_is, f) = read_fault s (such (within 0 2)) at why place h₁ in
      ([], tt, subst (Reads s.bytes at []) at_is done, subst (NotAllowed last [] why) at_is f))

  fact_refuses : (last : Option Fact) (at : ℕ) (why : Reason) (place : ℕ) (next : List ℕ) → FactBegun n next → Reads s.bytes at next place
      → NotAllowed last next why place → read_fact s n last at ≡ fault why place
  unfolding read_fact
  fact_refuses last at why place [] begun r f = let at_is = reads_none r in rw at_is (rw (read_refuses s (such (within 0 2)) place why f))
  fact_refuses last at why place (kind ∷ []) small r f =
      rw ((ranged_exact s 0 2).complete at kind place r (omega arith, small), read_refuses s (such (within 0 n)) place why f)
  fact_refuses last at why place (kind ∷ i ∷ []) (small, left) r f =
      let (a, g₁, g₂) = reads_first r in
      rw (
        (ranged_exact s 0 2).complete at kind a (one g₁) (omega arith, small),
        (ranged_exact s 0 n).complete a i place g₂ (omega arith, left),
        read_refuses s (such (allowed n last (kind ∷ i ∷ []))) place why f,
      )
  fact_refuses last at why place (kind ∷ i ∷ j ∷ rest) begun r f = absurd begun

  facts_fault : (k : ℕ) (last : Option Fact) (at : ℕ) (why : Reason) (place : ℕ) → facts_after s n k last at ≡ fault why place → FactRefused k last at why place
  unfolding facts_after
  facts_fault zero last at why place h = absurd (not_fault [] at why place (sym h))
  facts_fault (suc k) last at why place h =
      then_fault (read_fact s n last at) _
      (λ t a h₁. then_fault (facts_after s n k (some t) a) _ (λ ts b _ r. absurd (not_fault (t ∷ ts) b why place (sym r)))
      (λ h₂.
      let (g, (of, rise)) = fact_sound s n last at t a h₁ in
      let f = facts_fault k (some t) a why place h₂ in
      record {
        facts = t ∷ f.facts;
        fewer = omega (arith, f.fewer);
        of = every_cons (FactOf n) of f.of;
        rising = rising_cons last t f.facts rise f.rising;
        next = f.next;
        begun = f.begun;
        reads = rw append_assoc (reads_append g f.reads);
        faulty = f.faulty;
      }))
      (λ h₁.
      let (next, begun, r, f) = fact_fault last at why place h₁ in
      record { facts = []; fewer = omega arith; of = every_none (FactOf n); rising = rising_none last; next = next; begun = begun; reads = r; faulty = f }) h

  facts_refuses : (k : ℕ) (last : Option Fact) (at : ℕ) (why : Reason) (place : ℕ) (ts : List Fact) → length ts < k → FactsOf n ts → RisingFrom last ts
      → (next : List ℕ) → FactBegun n next → Reads s.bytes at (concat_map fact_numbers ts ++ next) place → NotAllowed (last_of last ts) next why place
      → facts_after s n k last at ≡ fault why place
  unfolding facts_after
  facts_refuses zero last at why place ts fewer of rising next begun r f = absurd (omega arith)
  facts_refuses (suc k) last at why place [] fewer of rising next begun r f = rw (fact_refuses last at why place next begun r f)
  facts_refuses (suc k) last at why place (t ∷ ts) fewer of rising next begun r f =
      let (mid, g₁, g₂) = reads_split (fact_numbers t) (rw append_assoc at r) in
      let (first, rest) = rising_parts last t ts rising in
      rw (
        fact_complete s n last at t mid g₁ (of t (Memᴰ.head refl)) first,
        facts_refuses k (some t) mid why place ts (omega arith) (λ u m. of u (Memᴰ.tail m)) rest next begun g₂ f,
      )

-- past the end no number can be read
past_end : (s : List ℕ) → number_at s (length s) ≡ no_numeral (length s)
past_end s = by_read (number_at s (length s)) refl
  where
    by_read : (r : Read) → number_at s (length s) ≡ r → r ≡ no_numeral (length s)
    by_read (Ok r) g = let (some_left, _, _) = number_in_lem (length s) _ _ _ _ r.value r.next g in absurd (omega arith)
    by_read (Err p) g = ap no_numeral (sym (unreadable_at (length s) _ _ _ _ p.at g))

module _ (u o l : Reason) (n : ℕ) where
  -- where facts have begun, the next number of them is due
  pub facts_want : (b : List ℕ) (at : ℕ) (ns : List ℕ) → FactsBegun n ns → Reads b at ns (length b) → read_facts (on u o l b) n 2 at ≡ fault u (length b)
  unfolding read_facts
  facts_want b at ns f r =
      let (mid, g₁, g₂) = reads_first (rw (sym f.numbers_are) at r) in
      rw (
        (ranged_exact (on u o l b) 0 289).complete at f.count mid (one g₁) (omega arith, omega (arith, f.number)),
        facts_refuses (on u o l b) n f.count none mid u (length b) f.facts f.fewer f.of f.rising f.next f.begun g₂ (inl (refl, past_end b)),
      )

  -- a number that is refused is so on every buffer with the same bytes up to its end
  facts_again : (b : List ℕ) (k : ℕ) (at : ℕ) (why : Reason) (place : ℕ) → FactRefused (on u o l b) n k none at why place → (m next : ℕ)
      → number_at b place ≡ numeral m next → (b' : List ℕ) → take next b ≡ take next b' → facts_after (on u o l b') n k none at ≡ fault why place
  facts_again b k at why place f m next g b' agree =
      let (_, further, _) = number_in_lem place _ _ _ _ m next g in
      facts_refuses (on u o l b') n k none at why place f.facts f.fewer f.of f.rising f.next f.begun
      (reads_local b b' next agree f.reads (omega arith)) (by_fault f.faulty)
    where
      Not : ℕ → Type 0
      Not m = such (allowed n (last_of none f.facts) f.next) m ≡ none

      by_fault : Faulty (on u o l b) Not why place → Faulty (on u o l b') Not why place
      by_fault (inl (_, h)) = absurd (read_or_not (sym h ∙ g))
      by_fault (inr (k, (m', next', h, out))) =
          let next_is : next' ≡ next = same_next (sym h ∙ g) in
          inr (k, (m', next', number_local b b' next agree place m' next' h (omega arith), out))

  counted_refused : (b : List ℕ) (at count mid : ℕ) (why : Reason) (place : ℕ) → Reads b at (count ∷ []) mid → count < 289
      → FactRefused (on u o l b) n count none mid why place
      → NumberFault u o l (λ ns. (◌≡◌ {A = ℕ} 2 2) × FactsBegun n ns) (λ b. read_facts (on u o l b) n 2) b at why place
  unfolding read_facts
  counted_refused b at count mid why place g few f =
      record {
        earlier = count ∷ concat_map fact_numbers f.facts ++ f.next;
        before = reads_append g f.reads;
        faulty = faulty_map (on u o l b) (λ m _. tt) f.faulty;
        again = λ m next h b' agree.
            let (_, further, _) = number_in_lem place _ _ _ _ m next h in
            let on-it = reads_on f.reads in
            rw ((ranged_exact (on u o l b') 0 289).complete at count mid (reads_local b b' next agree g (omega arith)) (omega arith, few))
            (facts_again b count mid why place f m next h b' agree);
        begun =
            inr (
              refl,
              record {
                count = count;
                number = omega arith;
                facts = f.facts;
                fewer = f.fewer;
                of = f.of;
                rising = f.rising;
                next = f.next;
                begun = f.begun;
                numbers_are = refl;
              },
            );
      }

  -- facts are counted in version 2
  completes_counted : Completes u o l Some (λ ns. (◌≡◌ {A = ℕ} 2 2) × FactsBegun n ns) (λ b. read_facts (on u o l b) n 2)
  unfolding read_facts facts_after
  completes_counted =
      record {
        reads = λ b at x next h. let (g, _) = read_facts_sound (on u o l b) n 2 at x next h in (_, g, tt);
        same = λ b b' at x next agree h.
            let (g, ok) = read_facts_sound (on u o l b) n 2 at x next h in
            read_facts_complete (on u o l b') n 2 at x next (reads_local b b' next agree g (omega arith)) ok;
        grows = first_grows u o l (such (within 0 289)) 0 0 (omega arith) refl (λ b. read_facts (on u o l b) n 2) [] stops ends;
        refused = λ b at why place inside.
            then_fault (ranged (on u o l b) 0 289 at) _
            (λ count mid h₁ h₂.
            let (g, (_, few)) = (ranged_exact (on u o l b) 0 289).sound at count mid h₁ in
            counted_refused b at count mid why place g few (facts_fault (on u o l b) n count none mid why place h₂))
            (number_refused u o l (such (within 0 289)) 0 0 (omega arith) refl (λ b. read_facts (on u o l b) n 2) [] stops ends b at why place inside);
      }
    where
      stops : (b : List ℕ) (at : ℕ) (why : Reason) (place : ℕ) → ranged (on u o l b) 0 289 at ≡ fault why place → read_facts (on u o l b) n 2 at ≡ fault why place
      stops b at why place h = rw h

      ends : (b : List ℕ) (at next : ℕ) → ranged (on u o l b) 0 289 at ≡ parsed 0 next → read_facts (on u o l b) n 2 at ≡ parsed [] next
      ends b at next h = rw h

  pub completes_facts : (version : ℕ) → Completes u o l Some (λ ns. (version ≡ 2) × FactsBegun n ns) (λ b. read_facts (on u o l b) n version)
  unfolding read_facts
  completes_facts version = by_version (ℕ_discrete version 2)
    where
      by_version : Dec (version ≡ 2) → Completes u o l Some (λ ns. (version ≡ 2) × FactsBegun n ns) (λ b. read_facts (on u o l b) n version)
      by_version (yes two) = rw two completes_counted
      by_version (no other) = rw (ne_eqb version 2 other) (completes_return u o l [] tt)
