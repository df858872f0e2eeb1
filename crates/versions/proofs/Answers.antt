-- Certificates beside their jobs: what some of the call's answers say, one by one.
use mathlib.Core.List.{List}
use mathlib.Core.Logic.{◌≢◌, ◌↔◌, ◌⊎◌, inl, inr}
use mathlib.Core.Option.{Option, none, some}
use mathlib.Core.Path.{◌≡◌, refl, sym, ap, subst, ◌∙◌}
use Prim.Native.Nat.{ℕ}
use native.Mathlib.Omega.{arith}
use lib.ListN.{length}
use Rattle.number.specs.NumberList.{encode}
use Rattle.format.specs.JobBytes.{Between}
use Rattle.format.specs.JobNumbers.{JobFile}
use Rattle.format.specs.Parser.{Reason, refusal, reason_number}
use Rattle.format.proofs.Versions.{Plain, plain_first}
use Rattle.versions.specs.Carry.{CertificateFile, new_in_job, new_in_members, Carried, written, refused, carry_certificate, certificate_in}
use Rattle.versions.specs.Carries.{NewInJob, NewInMembers, NoneInJob, NoneInMembers, OtherVersion, JobOf, PairOf, TooLong}
use Rattle.versions.specs.Carries.{CertificateCarries, carried, job_length, certificate_length, job_unread, certificate_unread, job_new, members_new, too_long}
use Rattle.versions.proofs.Certificate.{certificate_means}
use Rattle.versions.proofs.Job.{unread_number}
use Rattle.versions.proofs.New.{new_in_job_lem, new_in_members_lem, none_in_job, none_in_members, plain_both}
use Rattle.versions.proofs.Reading.{one_pair}
use Rattle.versions.proofs.Unread.{other_certificate, unread_numbers, unread_number_is}

module _ (v w : ℕ) (job certificate : List ℕ) (room : ℕ) where
  abbrev Says : Carried → Type 0
  Says = CertificateCarries v w job certificate room

  abbrev Written : List ℕ → Type 0
  Written out =
      (f : JobFile) × (c : CertificateFile) × PairOf v job certificate f c × (NoneInJob f × NoneInMembers f.version c.members)
      × (¬ TooLong room (certificate_in w c)) × (certificate_in w c ≡ out)

  -- WRITTEN: bytes are written exactly if the two are a pair of version v with nothing new, and they are the certificate's in version w, with room for
  -- them
  pub certificate_written : (out : List ℕ) → (carry_certificate v w job certificate room ≡ written out) ↔ Written out
  certificate_written out = (
    (λ e. by_case _ ((certificate_means v w job certificate room _).0 e) refl),
    λ (f, c, k, (old, bare), short, e). (certificate_means v w job certificate room _).1 (carried f c k old bare short) ∙ ap written e,
  )
    where
      by_case : (x : Carried) → Says x → x ≡ written out → Written out
      by_case x (carried f c k old bare short) e = (f, c, k, (old, bare), short, cc)
      by_case x (job_length n) e = let z : ◌≡◌ {A = ℕ} 0 1 = cc in absurd (omega arith)
      by_case x (certificate_length a n) e = let z : ◌≡◌ {A = ℕ} 0 1 = cc in absurd (omega arith)
      by_case x (job_unread a b why p k) e = let z : ◌≡◌ {A = ℕ} 0 1 = cc in absurd (omega arith)
      by_case x (certificate_unread f k b why p i) e = let z : ◌≡◌ {A = ℕ} 0 1 = cc in absurd (omega arith)
      by_case x (job_new f c k before n) e = let z : ◌≡◌ {A = ℕ} 0 1 = cc in absurd (omega arith)
      by_case x (members_new f c k old before n) e = let z : ◌≡◌ {A = ℕ} 0 1 = cc in absurd (omega arith)
      by_case x (too_long f c k old bare long) e = let z : ◌≡◌ {A = ℕ} 0 1 = cc in absurd (omega arith)

  abbrev JobNew : ℕ → Type 0
  JobNew place =
      (f : JobFile) × (c : CertificateFile) × PairOf v job certificate f c
      × ((before : List ℕ) × NewInJob f before × (length (encode before) ≡ place))

  -- 21 in the job: told exactly if the two are a pair of version v and the job has something new, at its place
  pub certificate_21_job : (place : ℕ) → (carry_certificate v w job certificate room ≡ refused 21 place 0) ↔ JobNew place
  certificate_21_job place = (
    (λ e. by_case _ ((certificate_means v w job certificate room _).0 e) refl),
    λ (f, c, k, (before, n, e)). (certificate_means v w job certificate room _).1 (job_new f c k before n) ∙ ap (λ (p : ℕ). refused 21 p 0) e,
  )
    where
      by_case : (x : Carried) → Says x → x ≡ refused 21 place 0 → JobNew place
      by_case x (job_new f c k before n) e = (f, c, k, (before, n, cc))
      by_case x (carried f c k old bare short) e = let z : ◌≡◌ {A = ℕ} 0 1 = cc in absurd (omega arith)
      by_case x (job_length n) e = let z : ◌≡◌ {A = ℕ} 1 21 = cc in absurd (omega arith)
      by_case x (certificate_length a n) e = let z : ◌≡◌ {A = ℕ} 2 21 = cc in absurd (omega arith)
      by_case x (job_unread a b why p k) e = let z : reason_number why ≡ 21 = cc in absurd (omega (arith, unread_number v job why p k))
      by_case x (certificate_unread f k b why p i) e = let z : ◌≡◌ {A = ℕ} 1 0 = cc in absurd (omega arith)
      by_case x (members_new f c k old before n) e = let z : ◌≡◌ {A = ℕ} 1 0 = cc in absurd (omega arith)
      by_case x (too_long f c k old bare long) e = let z : ◌≡◌ {A = ℕ} 12 21 = cc in absurd (omega arith)

  abbrev MembersNew : ℕ → Type 0
  MembersNew place =
      (f : JobFile) × (c : CertificateFile) × PairOf v job certificate f c × NoneInJob f
      × ((before : List ℕ) × NewInMembers f.version c.members before × (length (encode before) ≡ place))

  -- 21 in the certificate: told exactly if the job has nothing new and the members have, at its place
  pub certificate_21_members : (place : ℕ) → (carry_certificate v w job certificate room ≡ refused 21 place 1) ↔ MembersNew place
  certificate_21_members place = (
    (λ e. by_case _ ((certificate_means v w job certificate room _).0 e) refl),
    λ (f, c, k, old, (before, n, e)). (certificate_means v w job certificate room _).1 (members_new f c k old before n) ∙ ap (λ (p : ℕ). refused 21 p 1) e,
  )
    where
      by_case : (x : Carried) → Says x → x ≡ refused 21 place 1 → MembersNew place
      by_case x (members_new f c k old before n) e = (f, c, k, old, (before, n, cc))
      by_case x (carried f c k old bare short) e = let z : ◌≡◌ {A = ℕ} 0 1 = cc in absurd (omega arith)
      by_case x (job_length n) e = let z : ◌≡◌ {A = ℕ} 1 21 = cc in absurd (omega arith)
      by_case x (certificate_length a n) e = let z : ◌≡◌ {A = ℕ} 2 21 = cc in absurd (omega arith)
      by_case x (job_unread a b why p k) e = let z : ◌≡◌ {A = ℕ} 0 1 = cc in absurd (omega arith)
      by_case x (certificate_unread f k b why p i) e =
          let z : reason_number why ≡ 21 = cc in
          absurd (unread_numbers f certificate why p i 21 (λ q. omega arith) (λ q. omega arith) (λ q. omega arith) z)
      by_case x (job_new f c k before n) e = let z : ◌≡◌ {A = ℕ} 0 1 = cc in absurd (omega arith)
      by_case x (too_long f c k old bare long) e = let z : ◌≡◌ {A = ℕ} 12 21 = cc in absurd (omega arith)

  abbrev Long : ℕ → Type 0
  Long n =
      (f : JobFile) × (c : CertificateFile) × PairOf v job certificate f c × (NoneInJob f × NoneInMembers f.version c.members)
      × TooLong room (certificate_in w c) × (length (certificate_in w c) ≡ n)

  -- 12: told exactly if the two read, have nothing new, and the certificate's bytes in version w are too long for the room or above 65,536
  pub certificate_12 : (n : ℕ) → (carry_certificate v w job certificate room ≡ refused 12 n 0) ↔ Long n
  certificate_12 n = (
    (λ e. by_case _ ((certificate_means v w job certificate room _).0 e) refl),
    λ (f, c, k, (old, bare), long, e). (certificate_means v w job certificate room _).1 (too_long f c k old bare long) ∙ ap (λ (p : ℕ). refused 12 p 0) e,
  )
    where
      by_case : (x : Carried) → Says x → x ≡ refused 12 n 0 → Long n
      by_case x (too_long f c k old bare long) e = (f, c, k, (old, bare), long, cc)
      by_case x (carried f c k old bare short) e = let z : ◌≡◌ {A = ℕ} 0 1 = cc in absurd (omega arith)
      by_case x (job_length _) e = let z : ◌≡◌ {A = ℕ} 1 12 = cc in absurd (omega arith)
      by_case x (certificate_length a _) e = let z : ◌≡◌ {A = ℕ} 2 12 = cc in absurd (omega arith)
      by_case x (job_unread a b why p k) e = let z : reason_number why ≡ 12 = cc in absurd (omega (arith, unread_number v job why p k))
      by_case x (certificate_unread f k b why p i) e = let z : ◌≡◌ {A = ℕ} 1 0 = cc in absurd (omega arith)
      by_case x (job_new f c k before _) e = let z : ◌≡◌ {A = ℕ} 21 12 = cc in absurd (omega arith)
      by_case x (members_new f c k old before _) e = let z : ◌≡◌ {A = ℕ} 21 12 = cc in absurd (omega arith)

  -- the numbers that are told: 1 to 7, 10, 12 and 21
  pub numbers_told : (number value file : ℕ) → carry_certificate v w job certificate room ≡ refused number value file
      → Between 1 7 number ⊎ ((number ≡ 10) ⊎ ((number ≡ 12) ⊎ (number ≡ 21)))
  numbers_told number value file e = by_case _ ((certificate_means v w job certificate room _).0 e) refl
    where
      unread : (why : Reason) → reason_number why ≡ number → Between 6 7 (reason_number why) ⊎ (reason_number why ≡ 10)
          → Between 1 7 number ⊎ ((number ≡ 10) ⊎ ((number ≡ 12) ⊎ (number ≡ 21)))
      unread why e (inl (low, high)) = inl (omega arith, omega arith)
      unread why e (inr is) = inr (inl (sym e ∙ is))

      by_case : (x : Carried) → Says x → x ≡ refused number value file → Between 1 7 number ⊎ ((number ≡ 10) ⊎ ((number ≡ 12) ⊎ (number ≡ 21)))
      by_case x (carried f c k old bare short) e = let z : ◌≡◌ {A = ℕ} 0 1 = cc in absurd (omega arith)
      by_case x (job_length n) e = let z : 1 ≡ number = cc in inl (omega arith, omega arith)
      by_case x (certificate_length a n) e = let z : 2 ≡ number = cc in inl (omega arith, omega arith)
      by_case x (job_unread a b why p k) e =
          let z : reason_number why ≡ number = cc in
          let (low, high) = unread_number v job why p k in
          inl (omega arith, omega arith)
      by_case x (certificate_unread f k b why p i) e = unread why (cc) (unread_number_is f certificate why p i)
      by_case x (job_new f c k before n) e = let z : 21 ≡ number = cc in inr (inr (inr (sym z)))
      by_case x (members_new f c k old before n) e = let z : 21 ≡ number = cc in inr (inr (inr (sym z)))
      by_case x (too_long f c k old bare long) e = let z : 12 ≡ number = cc in inr (inr (inl (sym z)))

  -- UNJUDGED: 8, 9 and 20 do not occur
  pub unjudged : (number value file : ℕ) → carry_certificate v w job certificate room ≡ refused number value file
      → (number ≢ 8) × (number ≢ 9) × (number ≢ 20)
  unjudged number value file e = go (numbers_told number value file e)
    where
      go : Between 1 7 number ⊎ ((number ≡ 10) ⊎ ((number ≡ 12) ⊎ (number ≡ 21))) → (number ≢ 8) × (number ≢ 9) × (number ≢ 20)
      go (inl (low, high)) = ((λ q. omega arith), (λ q. omega arith), λ q. omega arith)
      go (inr (inl is)) = ((λ q. omega arith), (λ q. omega arith), λ q. omega arith)
      go (inr (inr (inl is))) = ((λ q. omega arith), (λ q. omega arith), λ q. omega arith)
      go (inr (inr (inr is))) = ((λ q. omega arith), (λ q. omega arith), λ q. omega arith)

  -- OTHER: 7 at 0 for a certificate of another version than its job's, which is of version v
  pub certificate_of_another : (f : JobFile) → JobOf v job f → Between 1 65536 (length certificate) → OtherVersion v certificate
      → carry_certificate v w job certificate room ≡ refused 7 0 1
  certificate_of_another f k b o =
      let other = subst (λ (u : ℕ). OtherVersion u certificate) (sym k.version_is) o in
      (certificate_means v w job certificate room _).1 (certificate_unread f k b (refusal 7) 0 (other_certificate f certificate k.job_is.in_range other))

  -- where 21 is told, in the job or in the certificate, the pair is not plain
  abbrev NotPlain : Type 0
  NotPlain = (f : JobFile) × (c : CertificateFile) × PairOf v job certificate f c × (¬ Plain f.job c.members)

  told_21 : (place file : ℕ) → carry_certificate v w job certificate room ≡ refused 21 place file → NotPlain
  told_21 place file e = by_case _ ((certificate_means v w job certificate room _).0 e) refl
    where
      by_case : (x : Carried) → Says x → x ≡ refused 21 place file → NotPlain
      by_case x (job_new f c k before n) e = (f, c, k, λ p. ((plain_both f f.version c.members).1 p).0 before n)
      by_case x (members_new f c k old before n) e = (f, c, k, λ p. ((plain_both f f.version c.members).1 p).1 before n)
      by_case x (carried f c k old bare short) e = let z : ◌≡◌ {A = ℕ} 0 1 = cc in absurd (omega arith)
      by_case x (job_length n) e = let z : ◌≡◌ {A = ℕ} 1 21 = cc in absurd (omega arith)
      by_case x (certificate_length a n) e = let z : ◌≡◌ {A = ℕ} 2 21 = cc in absurd (omega arith)
      by_case x (job_unread a b why p k) e = let z : reason_number why ≡ 21 = cc in absurd (omega (arith, unread_number v job why p k))
      by_case x (certificate_unread f k b why p i) e =
          let z : reason_number why ≡ 21 = cc in
          absurd (unread_numbers f certificate why p i 21 (λ q. omega arith) (λ q. omega arith) (λ q. omega arith) z)
      by_case x (too_long f c k old bare long) e = let z : ◌≡◌ {A = ℕ} 12 21 = cc in absurd (omega arith)

  -- LOST: "nothing but what it must": of a pair that reads, 21 is told exactly if it is not plain
  pub pair_lost : (f : JobFile) (c : CertificateFile) → PairOf v job certificate f c
      → ((place : ℕ) × (file : ℕ) × (carry_certificate v w job certificate room ≡ refused 21 place file)) ↔ (¬ Plain f.job c.members)
  pair_lost f c k = (
    (λ (place, file, e) p.
        let (g, d, i, new) = told_21 place file e in
        let (f_is, c_is) = one_pair job certificate f g c d k.job_of.job_is i.job_of.job_is k.certificate_is i.certificate_is in
        new (subst (λ (x : CertificateFile). Plain g.job x.members) c_is (subst (λ (x : JobFile). Plain x.job c.members) f_is p))),
    λ n. by_new n (new_in_job f) refl,
  )
    where
      Told : Type 0
      Told = (place : ℕ) × (file : ℕ) × (carry_certificate v w job certificate room ≡ refused 21 place file)

      by_members : (¬ Plain f.job c.members) → NoneInJob f → (x : Option (List ℕ)) → new_in_members f.version c.members ≡ x → Told
      by_members n old none h = absurd (n ((plain_both f f.version c.members).0 (old, (none_in_members f.version c.members).0 h)))
      by_members n old (some before) h =
          (_, _, (certificate_means v w job certificate room _).1 (members_new f c k old before ((new_in_members_lem f.version c.members before).0 h)))

      by_new : (¬ Plain f.job c.members) → (x : Option (List ℕ)) → new_in_job f ≡ x → Told
      by_new n none h = by_members n ((none_in_job f).0 h) (new_in_members f.version c.members) refl
      by_new n (some before) h = (_, _, (certificate_means v w job certificate room _).1 (job_new f c k before ((new_in_job_lem f before).0 h)))

-- UP: never of a pair of version 1
pub pair_never_21 : (w : ℕ) (job certificate : List ℕ) (room place file : ℕ) → carry_certificate 1 w job certificate room ≢ refused 21 place file
pair_never_21 w job certificate room place file e =
    let (f, c, k, new) = told_21 1 w job certificate room place file e in
    new (plain_first f c.members (λ two. omega (arith, k.job_of.version_is)) k.job_of.job_is.in_range k.certificate_is.members_range)
