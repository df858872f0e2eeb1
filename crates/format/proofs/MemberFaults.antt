-- The members of a certificate of the job's version are refused at the first faulty number.
use mathlib.Core.List.{List, [], ◌∷◌, ◌++◌}
use mathlib.Core.Logic.{◌↔◌, ◌⊎◌, inl, inr}
use mathlib.Core.Option.{none}
use mathlib.Core.Path.{◌≡◌, refl, sym, ap, subst, ◌∙◌}
use Prim.Native.Nat.{ℕ, zero, suc, ◌≤◌, ◌<◌}
use native.Mathlib.Omega.{arith}
use lib.Dec.{eqb}
use lib.ListN.{length}
use Rattle.lists.specs.List.{concat_map}
use Rattle.lists.proofs.Reflect.{r_eq}
use Rattle.number.specs.Number.{largest, number_at, numeral}
use Rattle.number.specs.Range.{AtMost}
use Rattle.run.specs.Run.{Located}
use Rattle.format.specs.Parser.{Reason, refusal, parsed, fault, Parser, ◌>>=◌, return, many, Buffer, certificate_buffer, within, such, ranged}
use Rattle.format.specs.Job.{read_located}
use Rattle.format.specs.JobNumbers.{JobFile, located_numbers}
use Rattle.format.specs.JobBytes.{LocatedInRange, JobInRange}
use Rattle.format.specs.Certificate.{Member, without_places, read_member, read_members}
use Rattle.format.specs.Numbers.{member_numbers}
use Rattle.format.specs.Conditions.{MembersInRange}
use Rattle.format.specs.Meaning.{InFacts, OfMembers}
use Rattle.format.proofs.Sequence.{Reads, one, reads_one, reads_first, reads_on}
use Rattle.format.proofs.Parsing.{not_fault, then, then_fault, require_complete, Faulty, read_fault, read_refuses, ranged_exact}
use Rattle.format.proofs.Files.{located_exact}
use Rattle.format.proofs.Covers.{member_read, members_sound, members_complete}
use Rattle.format.proofs.Written.{small_members}
use Rattle.format.proofs.Local.{on, Some, Of, Among, Completes, completes_weaken, completes_return, completes_here, completes_bind, completes_of, completes_many}
use Rattle.format.proofs.FirstFault.{FirstFault, Accepts, faults}
use Rattle.format.proofs.Completing.{InShape, number_first, completes_located, among_facts, shapes_want}

module _ (f : JobFile) (ok : JobInRange f) where
  abbrev version : ℕ
  version = f.version

  abbrev variables : ℕ
  variables = f.job.variables

  abbrev states : ℕ
  states = f.states

  -- members after the version number, and after that of the job's version alone
  abbrev pub read_listed : Buffer → Parser (List Member)
  read_listed s = ranged s 1 513 >>= (λ count. many count (read_member s version variables states))

  abbrev pub read_own : Buffer → Parser (List Member)
  read_own s = ranged s version (suc version) >>= (λ own. read_listed s)

  -- where the job's version stands both parsers go on with the members
  pub same_version : (s : Buffer) (at next : ℕ) → number_at s.bytes at ≡ numeral version next
      → (read_members s version variables states at ≡ read_listed s next) × (read_own s at ≡ read_listed s next)
  unfolding read_members
  same_version s at next g = (
    rw (
      (ranged_exact s 1 3).complete at version next (one g) (ok.version.0, omega (arith, ok.version.1)),
      require_complete (eqb version version) (refusal 20) 0 next ((r_eq version version).tests refl),
    ),
    rw ((ranged_exact s version (suc version)).complete at version next (one g) (omega arith, omega arith)),
  )

  own_number : (s : Buffer) (at own next : ℕ) → ranged s version (suc version) at ≡ parsed own next → number_at s.bytes at ≡ numeral version next
  own_number s at own next h =
      let (g, (low, high)) = (ranged_exact s version (suc version)).sound at own next h in
      let own_is : own ≡ version = omega arith in
      subst (λ (k : ℕ). number_at s.bytes at ≡ numeral k next) own_is (reads_one g)

  own_parsed : (s : Buffer) (at : ℕ) (ms : List Member) (next : ℕ) → read_own s at ≡ parsed ms next → read_members s version variables states at ≡ parsed ms next
  own_parsed s at ms next = then (ranged s version (suc version) at) _ (λ own mid h₁ h₂. (same_version s at mid (own_number s at own mid h₁)).0 ∙ h₂)

  -- where the job's version is wanted, another is refused: this alone may differ
  pub own_fault : (s : Buffer) (at : ℕ) (why : Reason) (place : ℕ) → read_own s at ≡ fault why place
      → (read_members s version variables states at ≡ fault why place) ⊎ ((why ≡ s.outside) × (at ≡ place))
  unfolding read_members
  own_fault s at why place =
      then_fault (ranged s version (suc version) at) _
      (λ own mid h₁ h₂. inl ((same_version s at mid (own_number s at own mid h₁)).0 ∙ h₂))
      (λ h₁. by_number (read_fault s (such (within version (suc version))) at why place h₁))
    where
      by_number : (at ≡ place) × Faulty s (λ n. such (within version (suc version)) n ≡ none) why at
          → (read_members s version variables states at ≡ fault why place) ⊎ ((why ≡ s.outside) × (at ≡ place))
      by_number (at_is, inl w) = inl (rw (read_refuses s (such (within 1 3)) at why (inl w)) (ap (fault why) at_is))
      by_number (at_is, inr (k, _)) = inr (k, at_is)

  -- members with their places are refused where they are without
  places_fault : (s : Buffer) (k at : ℕ) (why : Reason) (place : ℕ) → many k (read_located version s variables states) at ≡ fault why place
      → many k (read_member s version variables states) at ≡ fault why place
  unfolding many read_member
  places_fault s zero at why place h = absurd (not_fault [] at why place (sym h))
  places_fault s (suc k) at why place h =
      then_fault (read_located version s variables states at) _
      (λ m a h₁. then_fault (many k (read_located version s variables states) a) _ (λ ms b _ r. absurd (not_fault (m ∷ ms) b why place (sym r)))
      (λ h₂. let e = places_fault s k a why place h₂ in rw (h₁, e)))
      (λ h₁. rw h₁) h

  module _ (u o l : Reason) where
    abbrev numbers_of : Member → List ℕ
    numbers_of m = located_numbers version m.located

    abbrev Ranges : Member → Type 0
    Ranges m = LocatedInRange version variables states m.located

    completes_member : Completes u o l (Of numbers_of Ranges) (InShape version variables states) (λ b. read_member (on u o l b) version variables states)
    unfolding read_member
    completes_member =
        completes_of u o l numbers_of Ranges
        (λ b at m next h. (located_exact version (on u o l b) variables states).sound at m.located next (member_read (on u o l b) version variables states at m next h).0)
        (completes_bind u o l {D = InShape version variables states} (InShape version variables states)
        {r = λ first b. read_located version (on u o l b) variables states >>= (λ m. return (record { first = first; located = m }))} (completes_here u o l) (λ ns h. h)
        (λ first ms ms_is. rw ms_is
        (completes_bind u o l (InShape version variables states) (completes_located u o l version variables states ok.states.0) (λ ns h. h)
        (λ m _ _. completes_return u o l (record { first = first; located = m }) tt))))

    -- facts have begun among the members
    members_among : (count : ℕ) → 1 ≤ count → count < 513 → (ns : List ℕ) → Among numbers_of Ranges (InShape version variables states) count ns
        → InFacts (OfMembers f) (version ∷ count ∷ ns)
    members_among count low high ns h =
        let two : version ≡ 2 = h.holds.two in
        subst
        (λ (v : ℕ). Among (λ (m : Member). located_numbers v m.located) (λ m. LocatedInRange v variables states m.located) (InShape v variables states) count ns
        → InFacts (OfMembers f) (v ∷ count ∷ ns)) (sym two)
        (among_facts (OfMembers f) variables states count (2 ∷ count ∷ [])
        (λ ms long oks. (
          record { number = (omega arith, omega arith); members = rw two oks },
          two,
          ap (λ (k : ℕ). 2 ∷ k ∷ concat_map (located_numbers 2) ms) long,
        ))
        (λ m. m.located) ns) h

    completes_listed : Completes u o l Some (λ ns. InFacts (OfMembers f) (version ∷ ns)) (λ b. read_listed (on u o l b))
    completes_listed =
        number_first u o l (λ ns. InFacts (OfMembers f) (version ∷ ns)) 1 513 (omega arith) (omega arith)
        (λ count low high. completes_weaken u o l {P = Some} {Q = Some} {C = Among numbers_of Ranges (InShape version variables states) count}
        {D = λ ns. InFacts (OfMembers f) (version ∷ count ∷ ns)} (λ x ns h. h) (members_among count low high) (completes_many u o l numbers_of Ranges completes_member count))

    completes_own : Completes u o l Some (InFacts (OfMembers f)) (λ b. read_own (on u o l b))
    completes_own =
        number_first u o l (InFacts (OfMembers f)) version (suc version) (omega arith) (omega (arith, ok.version.1))
        (λ own low high. let own_is : own ≡ version = omega arith in rw own_is completes_listed)

    -- what is refused after the version number stands after it
    pub after_version : (b : List ℕ) (at : ℕ) (why : Reason) (place : ℕ) → at ≤ length b → read_listed (on u o l b) at ≡ fault why place → at ≤ place
    after_version b at why place inside h = reads_on (completes_listed.refused b at why place inside h).before

    own_wants : (b ns : List ℕ) → InFacts (OfMembers f) ns → Reads b 0 ns (length b) → read_own (on u o l b) 0 ≡ fault u (length b)
    own_wants b ns k r =
        let (oks, two, numbers_are) = k.in_range in
        let (mid, g, h) = shapes_want (OfMembers f) variables states u o l b ns k (2 ∷ length ms ∷ []) numbers_are (rw two at oks.members) r in
        opened oks mid
        (subst (λ (v : ℕ). Reads b 0 (v ∷ length ms ∷ []) mid) (sym two) g)
        (subst (λ (v : ℕ). many (length ms) (read_located v (on u o l b) variables states) mid ≡ fault u (length b)) (sym two) h)
      where
        ms : List Located
        ms = k.earlier ++ (k.located ∷ k.later)

        opened : MembersInRange f ms → (mid : ℕ) → Reads b 0 (version ∷ length ms ∷ []) mid
            → many (length ms) (read_located version (on u o l b) variables states) mid ≡ fault u (length b) → read_own (on u o l b) 0 ≡ fault u (length b)
        opened oks mid r h =
            let (p, g₁, g₂) = reads_first r in
            (same_version (on u o l b) 0 p g₁).1
            ∙ rw ((ranged_exact (on u o l b) 1 513).complete p (length ms) mid g₂ (oks.number.0, omega (arith, oks.number.1)))
            (places_fault (on u o l b) (length ms) mid u (length b) h)

    own_accepts : Accepts (OfMembers f) u (λ b. read_own (on u o l b))
    own_accepts =
        record {
          sound = λ b ms next h.
              let (g, count, oks) = members_sound (on u o l b) version variables states 0 ms next (own_parsed (on u o l b) 0 ms next h) in
              (member_numbers version (without_places ms), (version, without_places ms, (record { number = count; members = oks }, refl, refl)), g);
          complete = λ b ns next (v, ms, (oks, v_is, e)) r.
              let r' : Reads b 0 (member_numbers version ms) next = subst (λ (l : List ℕ). Reads b 0 l next) (sym e ∙ ap (λ (v : ℕ). member_numbers v ms) (sym v_is)) r in
              let (x, _, h) = members_complete (on u o l b) version variables states 0 ms next r' ok.version oks.number oks.members in
              let (mid, g, _) = reads_first r' in
              let (m_is, o_is) = same_version (on u o l b) 0 mid g in
              (x, o_is ∙ sym m_is ∙ h);
          small = λ ns (v, ms, (oks, v_is, e)). subst (AtMost largest) (ap (λ (v : ℕ). member_numbers v ms) v_is ∙ e) (small_members f ms ok oks);
          wants = own_wants;
        }

  pub members_faults : (certificate : List ℕ) (why : Reason) (place : ℕ)
      → (read_own (certificate_buffer certificate) 0 ≡ fault why place) ↔ FirstFault (OfMembers f) certificate (refusal 6) (refusal 7) why place
  members_faults =
      faults (OfMembers f) (refusal 6) (refusal 7) (refusal 10) (own_accepts (refusal 6) (refusal 7) (refusal 10)) (completes_own (refusal 6) (refusal 7) (refusal 10))
