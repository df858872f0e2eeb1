-- "Files that can't be read [..] get 1 to 7 or 10 as before (8 and 9 aren't judged)": what the checker refuses, but for 8, 9 and 20, is refused likewise.
use mathlib.Core.List.{List}
use mathlib.Core.Logic.{◌≢◌, ◌⊎◌, inl, inr}
use mathlib.Core.Path.{◌≡◌, refl, sym, subst, ◌∙◌}
use Prim.Native.Nat.{ℕ}
use lib.ListN.{length}
use Rattle.run.specs.Run.{Located}
use Rattle.format.specs.JobBytes.{Between, JobInRange}
use Rattle.format.specs.JobNumbers.{JobFile}
use Rattle.format.specs.Meaning.{Covered, CoverDue as DueHeld, member_due as member-due-held, image_due as image-due-held, InJob, InCertificate, MeaningAt}
use Rattle.format.specs.Parser.{Reason, reason_number}
use Rattle.format.specs.Verdict.{start_of, verdict, refused as refusedFor}
use Rattle.format.proofs.Covers.{hold_fit}
use Rattle.format.proofs.Decided.{job_refused}
use Rattle.format.proofs.Exact.{job_read}
use Rattle.format.proofs.Guarantee.{one_job}
use Rattle.format.proofs.Meaning.{meaning}
use Rattle.format.proofs.Parsing.{not_fault}
use Rattle.versions.specs.Carry.{refused, carry_job, carry_certificate}
use Rattle.versions.specs.Carries.{OtherVersion, JobOf, ReadTo, CoverBegun, CoverDue, member_due, image_due}
use Rattle.versions.specs.Carries.{CertificateUnread, member_unread, member_range, cover_unread, cover_range, bytes_left}
use Rattle.versions.specs.Carries.{job_unread, in_job, certificate_unread}
use Rattle.versions.proofs.Certificate.{certificate_means}
use Rattle.versions.proofs.Job.{job_means}
use Rattle.versions.proofs.Unread.{other_certificate}

-- BEFORE: a job of version v "can't be read" exactly where the checker says so, beside any certificate of a length that fits
pub job_as_before : (v w : ℕ) (job : List ℕ) (room : ℕ) → Between 1 65536 (length job) → ¬ OtherVersion v job → (certificate : List ℕ)
    → Between 1 65536 (length certificate) → (why : Reason) (place : ℕ) → InJob job why place
    → (carry_job v w job room ≡ refused (reason_number why) place 0) × (verdict job certificate ≡ refusedFor why place)
job_as_before v w job room a own certificate b why place k = (
  (job_means v w job room _).1 (job_unread a why place (in_job own why place k)),
  (meaning job certificate why place).1 (MeaningAt.in_job why place a b k),
)

-- ---- certificates

module _ (tested : ℕ) (f : JobFile) (certificate : List ℕ) (ok : JobInRange f) where
  -- covers that hold fit
  read_to : {place : ℕ} {left : List Located} → Covered tested f certificate place left → ReadTo f certificate place left
  read_to k =
      record {
        members = k.members;
        members_range = k.members_range;
        covers = k.covers;
        done = k.done;
        owed_is = k.owed_is;
        fit = hold_fit k.members k.covers k.done k.images k.hold;
        before = k.before;
      }

  due : (place limit : ℕ) → DueHeld tested f certificate place limit → CoverDue f certificate place limit
  unfolding read_to
  due place limit (member-due-held shape later k e) = member_due shape later (read_to k) e
  due place limit (image-due-held first k fewer e) =
      let begun : CoverBegun f certificate first place =
      record {
        shape = k.shape;
        later = k.later;
        so_far = read_to k.so_far;
        cover = k.cover;
        member = k.member;
        numbered = k.numbered;
        fewer = fewer;
        below = k.below;
        reads = k.reads;
      } in
      image_due first begun e

  -- 8, 9 and 20
  abbrev Judged : Reason → Type 0
  Judged why = (reason_number why ≡ 8) ⊎ ((reason_number why ≡ 9) ⊎ (reason_number why ≡ 20))

  as_before : (why : Reason) (place : ℕ) → InCertificate tested f certificate why place → CertificateUnread f certificate why place ⊎ Judged why
  as_before why place (InCertificate.member_unread q w) = inl (member_unread q w)
  as_before why place (InCertificate.cover_unread q limit d g) = inl (cover_unread q limit (due q limit d) g)
  as_before why place (InCertificate.version_range n next g out) =
      inl (other_certificate f certificate ok (record { number = n; next = next; reads = g; other = λ e. out (subst (Between 1 2) (sym e) ok.version) }))
  as_before why place (InCertificate.member_range q later w) = inl (member_range q w)
  as_before why place (InCertificate.cover_range q limit d n next g above) = inl (cover_range q limit (due q limit d) n next g above)
  as_before why place (InCertificate.versions_differ n next g ok n_is) = inr (inr (inr refl))
  as_before why place (InCertificate.member_satisfied q k) = inr (inl refl)
  as_before why place (InCertificate.cover_fails rule name q k) = inr (inr (inl refl))
  as_before why place (InCertificate.certificate_left q k more) = inl (bytes_left q (read_to k) more)

module _ (v w : ℕ) (job certificate : List ℕ) (room : ℕ) (f : JobFile) (k : JobOf v job f) (b : Between 1 65536 (length certificate)) where
  -- BEFORE: beside a job of version v, what the checker refuses with 6, 7 or 10 is refused with that at that place
  pub certificate_as_before : (why : Reason) (place : ℕ) → verdict job certificate ≡ refusedFor why place
      → reason_number why ≢ 8 → reason_number why ≢ 9 → reason_number why ≢ 20 → carry_certificate v w job certificate room ≡ refused (reason_number why) place 1
  certificate_as_before why place e not-8 not-9 not-20 = by_meaning why place ((meaning job certificate why place).0 e) not-8 not-9 not-20
    where
      by_kind : (why : Reason) (place : ℕ) → CertificateUnread f certificate why place ⊎ Judged f.job.start f certificate k.job_is.in_range why
          → reason_number why ≢ 8 → reason_number why ≢ 9 → reason_number why ≢ 20 → carry_certificate v w job certificate room ≡ refused (reason_number why) place 1
      by_kind why place (inl u) a b' c = (certificate_means v w job certificate room _).1 (certificate_unread f k b why place u)
      by_kind why place (inr (inl q)) a b' c = absurd (a q)
      by_kind why place (inr (inr (inl q))) a b' c = absurd (b' q)
      by_kind why place (inr (inr (inr q))) a b' c = absurd (c q)

      by_meaning : (why : Reason) (place : ℕ) → MeaningAt start_of job certificate why place → reason_number why ≢ 8 → reason_number why ≢ 9 → reason_number why ≢ 20
          → carry_certificate v w job certificate room ≡ refused (reason_number why) place 1
      by_meaning why place (MeaningAt.job_length n) = absurd (n k.job_length)
      by_meaning why place (MeaningAt.certificate_length a n) = absurd (n b)
      by_meaning why place (MeaningAt.in_job y q a b' i) =
          let (next, h) = job_read job f k.job_is in
          absurd (not_fault f next y q (sym (job_refused job y q i) ∙ h))
      by_meaning why place (MeaningAt.in_certificate y q a b' g i m) =
          let m' = subst (λ (x : JobFile). InCertificate x.job.start x certificate y q) (one_job job g f i k.job_is) m in
          by_kind y q (as_before f.job.start f certificate k.job_is.in_range y q m')
