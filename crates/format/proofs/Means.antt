-- Where the verdict is refused, what document 01 says of its number holds at its place.
use mathlib.Core.Bool.{Bool, true, false, cond}
use mathlib.Core.List.Memᴰ
use mathlib.Core.List.{List, [], ◌∷◌, ◌++◌, append-nil, map-append}
use mathlib.Core.Logic.{◌⊎◌, inl, inr}
use mathlib.Core.Option.{none}
use mathlib.Core.Path.{◌≡◌, refl, sym, ap, ap₂, subst, subst₂, ◌∙◌}
use Prim.Native.Nat.{ℕ, suc, ◌≤◌, ◌<◌}
use native.Mathlib.Omega.{arith}
use lib.Dec.{eqb}
use lib.ListN.{length}
use Rattle.lists.specs.List.{◌∈◌, Every, concat_map, sum}
use Rattle.lists.proofs.List.{concat_map_append}
use Rattle.lists.proofs.Reflect.{r_eq, r_le, r_lt, r_and}
use Rattle.number.specs.Number.{number_at, no_numeral, numeral}
use Rattle.shape.specs.Shape.{InRange}
use Rattle.run.specs.Run.{Located}
use Rattle.cover.specs.Cover.{Cover, owed, AllHold}
use Rattle.format.specs.Parser.{broken_rule, Reason, refusal, Parsed, parsed, fault, require, each, Buffer, job_buffer, certificate_buffer, within, such, ranged, end}
use Rattle.format.specs.Job.{read_job, read_whole_job}
use Rattle.format.specs.JobNumbers.{JobFile, job_numbers}
use Rattle.format.specs.Certificate.{Member, without_places, read_members, test_start, read_cover}
use Rattle.format.specs.Verdict.{Counts, refused, read_certificate, read_both, conclude, fits, verdict_at}
use Rattle.format.specs.Conditions.{MembersInRange, ImageForEach, counts_of}
use Rattle.format.specs.JobBytes.{Between, JobInRange}
use Rattle.format.specs.Numbers.{member_numbers, cover_numbers}
use Rattle.format.specs.Meaning.{OfJob, InJob, job_number, job_range, job_left, OfMembers, Covered, CoverBegun, CoverDue, member_due, image_due}
use Rattle.format.specs.Meaning.{InCertificate, member_unread, cover_unread, version_range, member_range, versions_differ, cover_range, member_satisfied, cover_fails, certificate_left}
use Rattle.format.specs.Meaning.{MeaningAt, job_length, certificate_length, in_job, in_certificate}
use Rattle.format.proofs.Sequence.{Reads, reads_one, reads_append, number_in_lem, reads_decode}
use Rattle.format.proofs.Parsing.{not_fault, then_fault, require_sound, require_fault, Faulty, read_fault, read_refuses, such_none, ranged_exact}
use Rattle.format.proofs.Files.{end_fault, job_exact, whole_sound}
use Rattle.format.proofs.Owed.{owed_range}
use Rattle.format.proofs.Covers.{members_sound, tests_sound, covers_sound}
use Rattle.format.proofs.Exact.{r_fits}
use Rattle.format.proofs.Local.{reads_before}
use Rattle.format.proofs.FirstFault.{FirstFault}
use Rattle.format.proofs.Completing.{job_faults}
use Rattle.format.proofs.MemberFaults.{same_version, after_version, members_faults}
use Rattle.format.proofs.Refusals.{FactsFit, member_first, tests_fault, Stopped, covers_fault, Begun, Fails, Due, member_owed, image_owed, cover_fault}

-- ---- the job

pub job_meaning : (job : List ℕ) (why : Reason) (place : ℕ) → read_whole_job (job_buffer job) 0 ≡ fault why place → InJob job why place
unfolding read_whole_job
job_meaning job why place h =
    then_fault (read_job (job_buffer job) 0) _
    (λ f mid h₁. then_fault (end (job_buffer job) mid) _ (λ u a _ r. absurd (not_fault f a why place (sym r)))
    (λ h₂.
    let (g, ok) = (job_exact (job_buffer job)).sound 0 f mid h₁ in
    let (k, q, more) = end_fault (job_buffer job) mid h₂ in
    subst₂ (InJob job) k q (job_left f mid (record { in_range = ok; reads = (reads_before job g).1 }) more)))
    (λ h₁. by_fault ((job_faults job why place).0 h₁)) h
  where
    by_fault : FirstFault OfJob job (refusal 3) (refusal 4) why place → InJob job why place
    by_fault (inl (k, f)) = subst (λ (x : Reason). InJob job x place) k (job_number place f)
    by_fault (inr (k, f)) = subst (λ (x : Reason). InJob job x place) k (job_range place f)

-- ---- the certificate

module _ (tested : ℕ) (certificate : List ℕ) (f : JobFile) (ok : JobInRange f) where
  abbrev s : Buffer
  s = certificate_buffer certificate

  by_fault : (why : Reason) (place : ℕ) → 0 < place → FirstFault (OfMembers f) certificate (refusal 6) (refusal 7) why place → InCertificate tested f certificate why place
  by_fault why place later (inl (k, w)) = subst (λ (x : Reason). InCertificate tested f certificate x place) k (member_unread place w)
  by_fault why place later (inr (k, w)) = subst (λ (x : Reason). InCertificate tested f certificate x place) k (member_range place later w)

  -- the version number can't be read
  version_unread : number_at certificate 0 ≡ no_numeral 0 → InCertificate tested f certificate (refusal 6) 0
  version_unread g =
      let h = read_refuses s (such (within f.version (suc f.version))) 0 (refusal 6) (inl (refl, g)) in
      by_kind ((members_faults f ok certificate (refusal 6) 0).0 (rw h))
    where
      by_kind : FirstFault (OfMembers f) certificate (refusal 6) (refusal 7) (refusal 6) 0 → InCertificate tested f certificate (refusal 6) 0
      by_kind (inl (_, w)) = member_unread 0 w
      by_kind (inr (k, w)) = let z : ◌≡◌ {A = ℕ} 7 6 = cc in absurd (omega arith)

  members_meaning : (why : Reason) (place : ℕ) → read_members s f.version f.job.variables f.states 0 ≡ fault why place → InCertificate tested f certificate why place
  unfolding read_members
  members_meaning why place =
      then_fault (ranged s 1 3 0) _
      (λ own a h₁. then_fault (require (eqb own f.version) (refusal 20) 0 a) _
      (λ _ b h₂ h₃.
      let (g, _) = (ranged_exact s 1 3).sound 0 own a h₁ in
      let (same, a_is) = require_sound (eqb own f.version) (refusal 20) 0 a h₂ in
      let own_is : own ≡ f.version = (r_eq own f.version).holds same in
      let g' : number_at certificate 0 ≡ numeral f.version b = subst₂ (λ (k e : ℕ). number_at certificate 0 ≡ numeral k e) own_is a_is (reads_one g) in
      let (_, further, inside) = number_in_lem 0 _ _ _ _ f.version b g' in
      let on-it = after_version f ok (refusal 6) (refusal 7) (refusal 10) certificate b why place (omega arith) h₃ in
      by_fault why place (omega arith) ((members_faults f ok certificate why place).0 ((same_version f ok s 0 b g').1 ∙ h₃)))
      (λ h₂.
      let (g, (low, high)) = (ranged_exact s 1 3).sound 0 own a h₁ in
      let (k, q, n) = require_fault (eqb own f.version) (refusal 20) 0 a h₂ in
      subst₂ (InCertificate tested f certificate) k q (versions_differ own a (reads_one g) (low, omega arith) (λ e. n ((r_eq own f.version).tests e)))))
      (λ h₁. let (q, w) = read_fault s (such (within 1 3)) 0 why place h₁ in subst (InCertificate tested f certificate why) q (by_number w))
    where
      by_number : Faulty s (λ n. such (within 1 3) n ≡ none) why 0 → InCertificate tested f certificate why 0
      by_number (inl (k, g)) = subst (λ (x : Reason). InCertificate tested f certificate x 0) (sym k) (version_unread g)
      by_number (inr (k, (n, next, g, out))) =
          subst (λ (x : Reason). InCertificate tested f certificate x 0) (sym k)
          (version_range n next g (λ (low, high). such_none (within 1 3) n out ((r_and (r_le 1 n) (r_lt n 3)).tests (low, omega arith))))

  -- ---- once the members are read

  module _ (members : List Member) (p₂ : ℕ) (h₂ : read_members s f.version f.job.variables f.states 0 ≡ parsed members p₂) where
    start_meaning : (why : Reason) (place : ℕ) → each (test_start tested) members p₂ ≡ fault why place → InCertificate tested f certificate why place
    start_meaning why place h₃ =
        let (g₂, count, oks) = members_sound s f.version f.job.variables f.states 0 members p₂ h₂ in
        let t = tests_fault f.version f.job.variables f.states tested members oks p₂ why place h₃ in
        let split : without_places (t.earlier ++ (t.member ∷ t.later)) ≡ without_places t.earlier ++ (t.member.located ∷ without_places t.later) =
        map-append (λ m. m.located) t.earlier (t.member ∷ t.later) in
        let all : without_places members ≡ without_places t.earlier ++ (t.member.located ∷ without_places t.later) = ap without_places t.all ∙ split in
        subst₂ (InCertificate tested f certificate) t.why_is t.place_is
        (member_satisfied t.member.first
        (record {
          earlier = without_places t.earlier;
          member = t.member.located;
          later = without_places t.later;
          next = p₂;
          members_range = subst (MembersInRange f) all (record { number = count; members = oks });
          members_read = reads_before certificate (rw all at g₂);
          before =
              reads_before certificate
              (rw split at (member_first s f.version f.job.variables f.states 0 t.earlier t.member t.later p₂ (rw t.all at h₂)));
          unsatisfied = t.avoid;
          state = t.state;
          satisfied = t.satisfied;
        }))

    module _ (us : List (Unit {0})) (p₃ : ℕ) (h₃ : each (test_start tested) members p₂ ≡ parsed us p₃) where
      ms : List Located
      ms = without_places members

      shapes : (m : Located) → m ∈ ms → InRange f.job.variables 12 m.shape
      unfolding ms
      shapes m i = ((members_sound s f.version f.job.variables f.states 0 members p₂ h₂).2 m i).shape

      fits_cells : Every FactsFit (owed f.job ms)
      unfolding ms
      fits_cells o i =
          let (_, count, oks) = members_sound s f.version f.job.variables f.states 0 members p₂ h₂ in
          (owed_range f ms ok (record { number = count; members = oks }) o i).facts

      members_end : Reads certificate 0 (member_numbers f.version ms) p₃
      unfolding ms
      members_end =
          let (g₂, _, oks) = members_sound s f.version f.job.variables f.states 0 members p₂ h₂ in
          let (_, p₃-is) = tests_sound f.version f.job.variables f.states tested members oks p₂ h₃ in
          rw p₃-is at g₂

      -- the covers up to a place hold
      so_far : (covers : List Cover) (place : ℕ) (done left : List Located) → Reads certificate p₃ (concat_map cover_numbers covers) place
          → owed f.job ms ≡ done ++ left → AllHold ms covers done → ((c : Cover) → c ∈ covers → ImageForEach ms c) → Covered tested f certificate place left
      unfolding ms
      so_far covers place done left g all hold images =
          let (_, count, oks) = members_sound s f.version f.job.variables f.states 0 members p₂ h₂ in
          record {
            members = ms;
            members_range = record { number = count; members = oks };
            start = (tests_sound f.version f.job.variables f.states tested members oks p₂ h₃).0;
            covers = covers;
            images = images;
            before = reads_before certificate (reads_append members_end g);
            done = done;
            owed_is = all;
            hold = hold;
          }

      covers_meaning : (why : Reason) (place : ℕ) → each (read_cover s ms) (owed f.job ms) p₃ ≡ fault why place → InCertificate tested f certificate why place
      unfolding so_far
      covers_meaning why place h₄ = by_cover (cover_fault s f.job.variables ms shapes t.shape fit t.mid why place t.refused)
        where
          t : Stopped s f.job.variables ms shapes (owed f.job ms) p₃ why place
          t = covers_fault s f.job.variables ms shapes (owed f.job ms) fits_cells p₃ why place h₄

          fit : FactsFit t.shape
          fit = fits_cells t.shape (subst (λ (l : List Located). t.shape ∈ l) (sym t.all) (Memᴰ.append_right t.done (Memᴰ.head refl)))

          covered : Covered tested f certificate t.mid (t.shape ∷ t.later)
          covered = so_far t.covers t.mid t.done (t.shape ∷ t.later) t.reads t.all t.hold t.images

          read : (next : ℕ) → Begun s f.job.variables ms shapes t.shape t.mid next → CoverBegun tested f certificate t.mid next
          read next w =
              let one_more_lem : concat_map cover_numbers t.covers ++ cover_numbers w.cover ≡ concat_map cover_numbers (t.covers ++ (w.cover ∷ [])) =
              ap (λ (l : List ℕ). concat_map cover_numbers t.covers ++ l) (sym (append-nil (cover_numbers w.cover)))
              ∙ sym (concat_map_append cover_numbers t.covers (w.cover ∷ [])) in
              record {
                shape = t.shape;
                later = t.later;
                so_far = covered;
                cover = w.cover;
                member = w.member;
                numbered = w.numbered;
                below = w.below;
                reads =
                    reads_before certificate
                    (reads_append members_end (subst (λ (l : List ℕ). Reads certificate p₃ l next) one_more_lem (reads_append t.reads w.reads)));
              }

          due : (limit : ℕ) → Due s f.job.variables ms shapes t.shape t.mid place limit → CoverDue tested f certificate place limit
          due limit (member_owed q e) = subst (λ (x : ℕ). CoverDue tested f certificate x limit) q (member_due t.shape t.later covered e)
          due limit (image_owed w fewer e) = image_due t.mid (read place w) fewer e

          by_number : (limit : ℕ) → CoverDue tested f certificate place limit → Faulty s (λ n. limit ≤ n) why place → InCertificate tested f certificate why place
          by_number limit d (inl (k, g)) = subst (λ (x : Reason). InCertificate tested f certificate x place) (sym k) (cover_unread place limit d g)
          by_number limit d (inr (k, (n, next, g, above))) =
              subst (λ (x : Reason). InCertificate tested f certificate x place) (sym k) (cover_range place limit d n next g above)

          by_cover : ((rule : ℕ) × (name : ℕ) × (broken_rule rule name ≡ why) × (t.mid ≡ place) × Fails s f.job.variables ms shapes t.shape t.mid rule name)
              ⊎ ((limit : ℕ) × Due s f.job.variables ms shapes t.shape t.mid place limit × Faulty s (λ n. limit ≤ n) why place)
              → InCertificate tested f certificate why place
          by_cover (inr (limit, d, w)) = by_number limit (due limit d) w
          by_cover (inl (rule, name, k, q, w)) =
              subst₂ (InCertificate tested f certificate) k q
              (cover_fails rule name t.mid (record { next = w.next; cover = read w.next w.begun; images = w.images; first = w.first }))

      left_meaning : (why : Reason) (place p₄ : ℕ) (vs : List ℕ) → each (read_cover s ms) (owed f.job ms) p₃ ≡ parsed vs p₄ → end s p₄ ≡ fault why place
          → InCertificate tested f certificate why place
      left_meaning why place p₄ vs h₄ h₅ =
          let (cs, g, images, (hold, _)) = covers_sound s f.job.variables ms shapes (owed f.job ms) fits_cells p₃ h₄ in
          let (k, q, more) = end_fault s p₄ h₅ in
          subst₂ (InCertificate tested f certificate) k q
          (certificate_left p₄ (so_far cs p₄ (owed f.job ms) [] g (sym (append-nil (owed f.job ms))) hold images) more)

  certificate_meaning : (why : Reason) (place : ℕ) → read_certificate tested s f 0 ≡ fault why place → InCertificate tested f certificate why place
  unfolding ms read_certificate
  certificate_meaning why place h =
      then_fault (read_members s f.version f.job.variables f.states 0) _
      (λ members p₂ h₂. then_fault (each (test_start tested) members p₂) _
      (λ us p₃ h₃. then_fault (each (read_cover s (without_places members)) (owed f.job (without_places members)) p₃) _
      (λ vs p₄ h₄. then_fault (end s p₄) _ (λ u p₅ h₅ r. absurd (not_fault (counts_of f.job (without_places members) (sum vs)) p₅ why place (sym r)))
      (left_meaning members p₂ h₂ us p₃ h₃ why place p₄ vs h₄))
      (covers_meaning members p₂ h₂ us p₃ h₃ why place))
      (start_meaning members p₂ h₂ why place))
      (members_meaning why place) h

-- ---- the verdict

pub means : (tested : JobFile → ℕ) (job certificate : List ℕ) (why : Reason) (place : ℕ) → verdict_at tested job certificate ≡ refused why place → MeaningAt tested job certificate why place
unfolding verdict_at read_both
means tested job certificate why place = by_fits (fits job) (fits certificate) refl refl
  where
    same : (k : Reason) (q : ℕ) → refused k q ≡ refused why place → MeaningAt tested job certificate k q → MeaningAt tested job certificate why place
    same k q e m = let k_is : k ≡ why = cc in let q_is : q ≡ place = cc in subst₂ (MeaningAt tested job certificate) k_is q_is m

    by_both : Between 1 65536 (length job) → Between 1 65536 (length certificate) → read_both tested job certificate ≡ fault why place → MeaningAt tested job certificate why place
    by_both a b =
        then_fault (read_whole_job (job_buffer job) 0) _
        (λ f next h₁ h₂.
        let (h₀, whole) = whole_sound (job_buffer job) 0 f next h₁ in
        let (g, ok) = (job_exact (job_buffer job)).sound 0 f next h₀ in
        in_certificate why place a b f (record { in_range = ok; reads = reads_decode job (job_numbers f) next g whole })
        (certificate_meaning (tested f) certificate f ok why place h₂))
        (λ h₁. in_job why place a b (job_meaning job why place h₁))

    by_conclusion : Between 1 65536 (length job) → Between 1 65536 (length certificate) → (r : Parsed Counts) → read_both tested job certificate ≡ r
        → conclude r ≡ refused why place → MeaningAt tested job certificate why place
    by_conclusion a b (parsed c next) h e = let z : ◌≡◌ {A = ℕ} 0 1 = cc in absurd (omega arith)
    by_conclusion a b (fault k q) h e =
        let k_is : k ≡ why = cc in
        let q_is : q ≡ place = cc in
        by_both a b (h ∙ ap₂ {A = Reason} {B = ℕ} {C = Parsed Counts} fault k_is q_is)

    by_fits : (a b : Bool) → fits job ≡ a → fits certificate ≡ b
        → cond a (cond b (conclude (read_both tested job certificate)) (refused (refusal 2) 0)) (refused (refusal 1) 0) ≡ refused why place → MeaningAt tested job certificate why place
    by_fits true true x y e = by_conclusion ((r_fits job).holds (rw x tt)) ((r_fits certificate).holds (rw y tt)) (read_both tested job certificate) refl e
    by_fits true false x y e = same (refusal 2) 0 e (certificate_length ((r_fits job).holds (rw x tt)) (λ k. rw y at ((r_fits certificate).tests k)))
    by_fits false b x y e = same (refusal 1) 0 e (job_length (λ k. rw x at ((r_fits job).tests k)))
