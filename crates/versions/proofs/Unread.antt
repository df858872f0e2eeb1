-- A certificate that can't be read is refused where document 02 says so, and only there, covers not judged.
use mathlib.Core.List.{List, [], ◌∷◌, ◌++◌, append-nil, append_assoc}
use mathlib.Core.Logic.{◌≢◌, ◌↔◌, ◌⊎◌, inl, inr}
use mathlib.Core.Option.{Option, none, some}
use mathlib.Core.Path.{◌≡◌, refl, sym, ap, subst, subst₂, ◌∙◌}
use Prim.Native.Nat.{ℕ, suc, ◌≤◌, ◌<◌}
use native.Mathlib.Omega.{arith}
use lib.ListN.{length, get_elem?}
use Rattle.lists.specs.List.{concat_map}
use Rattle.lists.proofs.List.{element_none, concat_map_append}
use Rattle.lists.proofs.Reflect.{r_le, r_lt, r_and, cond_false}
use Rattle.number.specs.Number.{number_at, numeral}
use Rattle.shape.specs.Shape.{size, AllBelow}
use Rattle.run.specs.Run.{Located}
use Rattle.cover.specs.Cover.{Cover, owed}
use Rattle.format.specs.Certificate.{Member, without_places, read_members}
use Rattle.format.specs.Conditions.{MembersInRange, AllFit}
use Rattle.format.specs.JobBytes.{Between, JobInRange}
use Rattle.format.specs.JobNumbers.{JobFile}
use Rattle.format.specs.Meaning.{OfMembers}
use Rattle.format.specs.Numbers.{member_numbers, cover_numbers}
use Rattle.format.specs.Parser.{Reason, refusal, reason_number, Parsed, parsed, fault, onward, many, each}
use Rattle.format.specs.Parser.{Buffer, certificate_buffer, within, such, read_as, ranged, end}
use Rattle.format.proofs.Covers.{members_sound, members_complete}
use Rattle.format.proofs.Decided.{each_refuses}
use Rattle.format.proofs.Files.{end_fault, end_refuses}
use Rattle.format.proofs.FirstFault.{FirstFault}
use Rattle.format.proofs.Local.{reads_before, before_reads}
use Rattle.format.proofs.MemberFaults.{read_own, same_version, members_faults}
use Rattle.format.proofs.Parsing.{not_fault, then_fault, Faulty, faulty_map}
use Rattle.format.proofs.Parsing.{read_sound, read_complete, read_fault, read_refuses, ranged_exact, codes_fault, codes_refuses}
use Rattle.format.proofs.Refusals.{no_member}
use Rattle.format.proofs.Sequence.{Reads, more, reads_one, reads_first, reads_append, reads_split, reads_place}
use Rattle.versions.specs.Carry.{of_version, Named, naming, read_cover_alone, CertificateFile, read_certificate_of}
use Rattle.versions.specs.Carries.{OtherVersion, ReadTo, CoverBegun, CoverDue, member_due, image_due}
use Rattle.versions.specs.Carries.{CertificateUnread, member_unread, member_range, cover_unread, cover_range, bytes_left}
use Rattle.versions.proofs.Reading.{other_refused, naming_some, alone_sound, covers_alone_sound, covers_alone_complete, version_sound, version_complete}

-- ---- covers, not judged

naming_none : (n : ℕ) (x : Option Located) → (naming n x ≡ none) ↔ (x ≡ none)
naming_none n none = ((λ e. refl), λ e. refl)
naming_none n (some m) = ((λ e. let z : ◌≡◌ {A = ℕ} 0 1 = cc in absurd (omega arith)), λ e. let z : ◌≡◌ {A = ℕ} 0 1 = cc in absurd (omega arith))

module _ (s : Buffer) (ms : List Located) where
  -- some of the numbers of a cover
  pub record Some (o : Located) (at next : ℕ) : Type 0 where
    pub cover : Cover
    pub member : Located
    pub numbered : get_elem? ms cover.member ≡ some member
    pub fewer : length cover.images < size member.shape
    pub below : AllBelow (size o.shape) cover.images
    pub reads : Reads s.bytes at (cover_numbers cover) next

  -- the number at a place of it has to be below the limit
  pub data Due (o : Located) (at place limit : ℕ) : Type 0 where
    member_owed : at ≡ place → limit ≡ length ms → Due o at place limit
    image_owed : Some o at place → limit ≡ size o.shape → Due o at place limit

  alone_fault : (o : Located) (at : ℕ) (why : Reason) (place : ℕ) → read_cover_alone s ms o at ≡ fault why place
      → (limit : ℕ) × Due o at place limit × Faulty s (λ n. limit ≤ n) why place
  unfolding read_cover_alone
  alone_fault o at why place =
      then_fault (read_as s (λ n. naming n (get_elem? ms n)) at) _
      (λ k a h₁. then_fault (many _ (ranged s _ _) a) _ (λ images b _ r. absurd (not_fault _ b why place (sym r)))
      (λ h₂.
      let (n, g, e) = read_sound s (λ n. naming n (get_elem? ms n)) at k a h₁ in
      let (numbered, n_is) = naming_some n (get_elem? ms n) k e in
      let (images, r, fewer, below, w) = codes_fault s (size k.member.shape) (size o.shape) a why place h₂ in
      let some_read : Some o at place =
      record { cover = record { member = n; images = images }; member = k.member; numbered = numbered; fewer = fewer; below = below; reads = more g r } in
      (size o.shape, image_owed some_read refl, w)))
      (λ h₁.
      let (q, w) = read_fault s (λ n. naming n (get_elem? ms n)) at why place h₁ in
      (length ms, member_owed q refl, rw (← q) (faulty_map s (λ n e. no_member ms n ((naming_none n (get_elem? ms n)).0 e)) w)))

  fault_alone : (o : Located) (at place limit : ℕ) (why : Reason) → Due o at place limit → Faulty s (λ n. limit ≤ n) why place
      → read_cover_alone s ms o at ≡ fault why place
  unfolding read_cover_alone
  fault_alone o at place limit why (member_owed q e) w =
      rw (read_refuses s (λ n. naming n (get_elem? ms n)) at why
      (rw q (faulty_map s (λ n above. (naming_none n (get_elem? ms n)).1 (element_none ms n (omega arith))) w))) (ap (fault why) q)
  fault_alone o at place limit why (image_owed k e) w =
      let (a, g, r) = reads_first k.reads in
      let named : Named = record { number = k.cover.member; member = k.member } in
      rw (
        read_complete s (λ n. naming n (get_elem? ms n)) at k.cover.member a named g (ap (naming k.cover.member) k.numbered),
        codes_refuses s (size k.member.shape) (size o.shape) a k.cover.images place why place r k.fewer k.below
            (read_refuses s (such (within 0 (size o.shape))) place why (faulty_map s (λ n above. outside n (omega arith)) w)),
      )
    where
      outside : (n : ℕ) → size o.shape ≤ n → such (within 0 (size o.shape)) n ≡ none
      outside n h =
          cond_false (within 0 (size o.shape) n) (some n) none (λ t. let (_, b) = (r_and (r_le 0 n) (r_lt n (size o.shape))).holds t in omega arith)

  -- the first cover that is refused
  pub record Stopped (os : List Located) (at : ℕ) (why : Reason) (place : ℕ) : Type 0 where
    pub done : List Located
    pub shape : Located
    pub later : List Located
    pub all : os ≡ done ++ (shape ∷ later)
    pub covers : List Cover
    pub mid : ℕ
    pub reads : Reads s.bytes at (concat_map cover_numbers covers) mid
    pub fit : AllFit ms covers done
    pub refused : read_cover_alone s ms shape mid ≡ fault why place

  covers_stop : (os : List Located) (at : ℕ) (why : Reason) (place : ℕ) → each (read_cover_alone s ms) os at ≡ fault why place → Stopped os at why place
  unfolding each
  covers_stop [] at why place e = absurd (not_fault [] at why place (sym e))
  covers_stop (o ∷ os) at why place e =
      then_fault (read_cover_alone s ms o at) _
      (λ c a h₁. then_fault (each (read_cover_alone s ms) os a) _ (λ cs b h₂ r. absurd (not_fault (c ∷ cs) b why place (sym r)))
      (λ h₂.
      let (g, k) = alone_sound s ms o at c a h₁ in
      let t = covers_stop os a why place h₂ in
      record {
        done = o ∷ t.done;
        shape = t.shape;
        later = t.later;
        all = ap (λ l. o ∷ l) t.all;
        covers = c ∷ t.covers;
        mid = t.mid;
        reads = reads_append g t.reads;
        fit = (k, t.fit);
        refused = t.refused;
      }))
      (λ h₁. record { done = []; shape = o; later = os; all = refl; covers = []; mid = at; reads = Reads.done; fit = tt; refused = h₁ }) e

-- ---- the certificate

module _ (f : JobFile) (ok : JobInRange f) (certificate : List ℕ) where
  abbrev s : Buffer
  s = certificate_buffer certificate

  abbrev Says : Reason → ℕ → Type 0
  Says = CertificateUnread f certificate

  -- members of the job's version, by the parser that `format` has for them
  own_members : of_version f.version s (read_members s f.version f.job.variables f.states) 0 ≡ read_own f ok s 0
  own_members = by_number (ranged s f.version (suc f.version) 0) refl
    where
      by_number : (r : Parsed ℕ) → ranged s f.version (suc f.version) 0 ≡ r
          → onward r (λ _ _. read_members s f.version f.job.variables f.states 0) ≡ read_own f ok s 0
      by_number (fault why place) h = rw h
      by_number (parsed own mid) h =
          let (g, (low, high)) = (ranged_exact s f.version (suc f.version)).sound 0 own mid h in
          let own_is : own ≡ f.version = omega arith in
          let (a, b) = same_version f ok s 0 mid (subst (λ (k : ℕ). number_at certificate 0 ≡ numeral k mid) own_is (reads_one g)) in
          a ∙ sym b

  members_tell : (why : Reason) (place : ℕ) → FirstFault (OfMembers f) certificate (refusal 6) (refusal 7) why place → Says why place
  members_tell why place (inl (k, w)) = subst (λ (x : Reason). Says x place) k (member_unread place w)
  members_tell why place (inr (k, w)) = subst (λ (x : Reason). Says x place) k (member_range place w)

  -- once the members are read
  module _ (members : List Member) (p : ℕ) (h : of_version f.version s (read_members s f.version f.job.variables f.states) 0 ≡ parsed members p) where
    abbrev ms : List Located
    ms = without_places members

    members_are : Reads certificate 0 (member_numbers f.version ms) p × MembersInRange f ms
    members_are =
        let (h₀, _) = version_sound f.version s (read_members s f.version f.job.variables f.states) 0 members p h in
        let (g, number, oks) = members_sound s f.version f.job.variables f.states 0 members p h₀ in
        (g, record { number = number; members = oks })

    read_to : (covers : List Cover) (place : ℕ) (ready left : List Located) → Reads certificate p (concat_map cover_numbers covers) place
        → owed f.job ms ≡ ready ++ left → AllFit ms covers ready → ReadTo f certificate place left
    read_to covers place ready left g all fit =
        record {
          members = ms;
          members_range = members_are.1;
          covers = covers;
          done = ready;
          owed_is = all;
          fit = fit;
          before = reads_before certificate (reads_append members_are.0 g);
        }

    covers_tell : (why : Reason) (place : ℕ) → each (read_cover_alone s ms) (owed f.job ms) p ≡ fault why place → Says why place
    unfolding read_to
    covers_tell why place h₁ = let (limit, d, w) = alone_fault s ms t.shape t.mid why place t.refused in by_number limit (due limit d) w
      where
        t : Stopped s ms (owed f.job ms) p why place
        t = covers_stop s ms (owed f.job ms) p why place h₁

        so_far : ReadTo f certificate t.mid (t.shape ∷ t.later)
        so_far = read_to t.covers t.mid t.done (t.shape ∷ t.later) t.reads t.all t.fit

        begun : Some s ms t.shape t.mid place → CoverBegun f certificate t.mid place
        begun k =
            let one_more_lem : concat_map cover_numbers t.covers ++ cover_numbers k.cover ≡ concat_map cover_numbers (t.covers ++ (k.cover ∷ [])) =
            ap (λ (l : List ℕ). concat_map cover_numbers t.covers ++ l) (sym (append-nil (cover_numbers k.cover)))
            ∙ sym (concat_map_append cover_numbers t.covers (k.cover ∷ [])) in
            record {
              shape = t.shape;
              later = t.later;
              so_far = so_far;
              cover = k.cover;
              member = k.member;
              numbered = k.numbered;
              fewer = k.fewer;
              below = k.below;
              reads =
                  reads_before certificate
                  (reads_append members_are.0 (subst (λ (l : List ℕ). Reads certificate p l place) one_more_lem (reads_append t.reads k.reads)));
            }

        due : (limit : ℕ) → Due s ms t.shape t.mid place limit → CoverDue f certificate place limit
        due limit (member_owed q e) = subst (λ (x : ℕ). CoverDue f certificate x limit) q (member_due t.shape t.later so_far e)
        due limit (image_owed k e) = image_due t.mid (begun k) e

        by_number : (limit : ℕ) → CoverDue f certificate place limit → Faulty s (λ n. limit ≤ n) why place → Says why place
        by_number limit d (inl (k, g)) = subst (λ (x : Reason). Says x place) (sym k) (cover_unread place limit d g)
        by_number limit d (inr (k, (n, next, g, above))) = subst (λ (x : Reason). Says x place) (sym k) (cover_range place limit d n next g above)

    left_tells : (why : Reason) (place q : ℕ) (cs : List Cover) → each (read_cover_alone s ms) (owed f.job ms) p ≡ parsed cs q
        → end s q ≡ fault why place → Says why place
    left_tells why place q cs h₁ h₂ =
        let (g, fit) = covers_alone_sound s ms (owed f.job ms) p cs q h₁ in
        let (k, place_is, more_left) = end_fault s q h₂ in
        subst₂ Says k place_is (bytes_left q (read_to cs q (owed f.job ms) [] g (sym (append-nil (owed f.job ms))) fit) more_left)

  told_unread : (why : Reason) (place : ℕ) → read_certificate_of f.version s f 0 ≡ fault why place → Says why place
  unfolding read_certificate_of
  told_unread why place =
      then_fault (of_version f.version s (read_members s f.version f.job.variables f.states) 0) _
      (λ members p h₁. then_fault (each (read_cover_alone s (without_places members)) (owed f.job (without_places members)) p) _
      (λ cs q h₂. then_fault (end s q) _ (λ u r _ e. absurd (not_fault _ r why place (sym e))) (left_tells members p h₁ why place q cs h₂))
      (covers_tell members p h₁ why place))
      (λ h₁. members_tell why place ((members_faults f ok certificate why place).0 (sym own_members ∙ h₁)))

  -- ---- and the other way round

  abbrev read : Parsed CertificateFile
  read = read_certificate_of f.version s f 0

  members_stop : (why : Reason) (place : ℕ) → FirstFault (OfMembers f) certificate (refusal 6) (refusal 7) why place → read ≡ fault why place
  unfolding read_certificate_of
  members_stop why place w = rw (own_members ∙ (members_faults f ok certificate why place).1 w)

  -- what is read up to a place
  module _ {place : ℕ} {left : List Located} (k : ReadTo f certificate place left) where
    members_first : (members : List Member) × (without_places members ≡ k.members)
        × ((p : ℕ) × (of_version f.version s (read_members s f.version f.job.variables f.states) 0 ≡ parsed members p)
        × (each (read_cover_alone s k.members) k.done p ≡ parsed k.covers place))
    members_first =
        let r = before_reads certificate k.before in
        let (p, g₁, g₂) = reads_split (member_numbers f.version k.members) r in
        let (mid, first, _) = reads_first g₁ in
        let (members, same, h) =
        members_complete s f.version f.job.variables f.states 0 k.members p g₁ ok.version k.members_range.number
        k.members_range.members in (
          members,
          same,
          (
            p,
            version_complete f.version s (read_members s f.version f.job.variables f.states) 0 members p mid first h,
            covers_alone_complete s k.members k.done p k.covers place g₂ k.fit,
          ),
        )

  -- then the next cover is refused
  cover_stops : (at : ℕ) (shape : Located) (later : List Located) (k : ReadTo f certificate at (shape ∷ later)) (why : Reason) (place : ℕ)
      → read_cover_alone s k.members shape at ≡ fault why place → read ≡ fault why place
  unfolding read_certificate_of
  cover_stops at shape later k why place e =
      let (members, same, (p, h₁, h₂)) = members_first k in
      let h₃ = each_refuses (read_cover_alone s k.members) k.done shape later p h₂ e in
      rw (h₁, same, k.owed_is, h₃)

  some_read : (first place : ℕ) (k : CoverBegun f certificate first place) → Some s k.so_far.members k.shape first place
  some_read first place k =
      let c = k.so_far in
      let listed = member_numbers f.version c.members in
      let earlier = concat_map cover_numbers c.covers in
      let last : concat_map cover_numbers (c.covers ++ (k.cover ∷ [])) ≡ earlier ++ cover_numbers k.cover =
      concat_map_append cover_numbers c.covers (k.cover ∷ []) ∙ ap (λ (l : List ℕ). earlier ++ l) (append-nil (cover_numbers k.cover)) in
      let all : listed ++ concat_map cover_numbers (c.covers ++ (k.cover ∷ [])) ≡ (listed ++ earlier) ++ cover_numbers k.cover =
      ap (λ (l : List ℕ). listed ++ l) last ∙ sym (append_assoc listed earlier (cover_numbers k.cover)) in
      let (mid, g₁, g₂) = reads_split (listed ++ earlier) (subst (λ (l : List ℕ). Reads certificate 0 l place) all (before_reads certificate k.reads)) in
      record {
        cover = k.cover;
        member = k.member;
        numbered = k.numbered;
        fewer = k.fewer;
        below = k.below;
        reads = subst (λ (x : ℕ). Reads certificate x (cover_numbers k.cover) place) (reads_place g₁ (before_reads certificate c.before)) g₂;
      }

  number_stops : (why : Reason) (place limit : ℕ) → CoverDue f certificate place limit → Faulty s (λ n. limit ≤ n) why place → read ≡ fault why place
  number_stops why place limit (member_due shape later k e) w =
      cover_stops place shape later k why place (fault_alone s k.members shape place place limit why (member_owed refl e) w)
  number_stops why place limit (image_due first k e) w =
      cover_stops first k.shape k.later k.so_far why place
      (fault_alone s k.so_far.members k.shape first place limit why (image_owed (some_read first place k) e) w)

  unread_told : (why : Reason) (place : ℕ) → Says why place → read ≡ fault why place
  unfolding read_certificate_of
  unread_told why place (member_unread q w) = members_stop (refusal 6) q (inl (refl, w))
  unread_told why place (member_range q w) = members_stop (refusal 7) q (inr (refl, w))
  unread_told why place (cover_unread q limit d g) = number_stops (refusal 6) q limit d (inl (refl, g))
  unread_told why place (cover_range q limit d n next g above) = number_stops (refusal 7) q limit d (inr (refl, (n, next, g, above)))
  unread_told why place (bytes_left q k more_left) =
      let (members, same, (p, h₁, h₂)) = members_first k in
      rw (h₁, same, k.owed_is, append-nil k.done, h₂, end_refuses s q more_left)

  -- UNREAD: a certificate is refused at a place if and only if that is what is the matter there
  pub unread_exact : (why : Reason) (place : ℕ)
      → (read_certificate_of f.version (certificate_buffer certificate) f 0 ≡ fault why place) ↔ CertificateUnread f certificate why place
  unread_exact why place = (told_unread why place, unread_told why place)

-- OTHER: one of another version than its job's gets 7 at 0
pub other_certificate : (f : JobFile) (certificate : List ℕ) → JobInRange f → OtherVersion f.version certificate → CertificateUnread f certificate (refusal 7) 0
unfolding read_certificate_of
other_certificate f certificate ok o =
    let s = certificate_buffer certificate in
    (unread_exact f ok certificate (refusal 7) 0).0 (rw (other_refused f.version s (read_members s f.version f.job.variables f.states) o))

-- it is refused with 6, 7 or 10
pub unread_numbers : (f : JobFile) (certificate : List ℕ) (why : Reason) (place : ℕ) → CertificateUnread f certificate why place
    → (number : ℕ) → 6 ≢ number → 7 ≢ number → 10 ≢ number → reason_number why ≢ number
unread_numbers f certificate why place (member_unread q w) number a b c = a
unread_numbers f certificate why place (member_range q w) number a b c = b
unread_numbers f certificate why place (cover_unread q limit d g) number a b c = a
unread_numbers f certificate why place (cover_range q limit d n next g above) number a b c = b
unread_numbers f certificate why place (bytes_left q k more_left) number a b c = c

pub unread_number_is : (f : JobFile) (certificate : List ℕ) (why : Reason) (place : ℕ) → CertificateUnread f certificate why place
    → Between 6 7 (reason_number why) ⊎ (reason_number why ≡ 10)
unread_number_is f certificate why place (member_unread q w) = inl (omega arith, omega arith)
unread_number_is f certificate why place (member_range q w) = inl (omega arith, omega arith)
unread_number_is f certificate why place (cover_unread q limit d g) = inl (omega arith, omega arith)
unread_number_is f certificate why place (cover_range q limit d n next g above) = inl (omega arith, omega arith)
unread_number_is f certificate why place (bytes_left q k more_left) = inr refl
