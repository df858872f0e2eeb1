-- Certificates beside their jobs: each answer of the call is given where document 02 says so, and only there.
use mathlib.Core.List.{List}
use mathlib.Core.Logic.{◌↔◌}
use mathlib.Core.Option.{Option, none, some}
use mathlib.Core.Path.{◌≡◌, refl, sym, ap, subst, ◌∙◌}
use Prim.Native.Nat.{ℕ}
use lib.ListN.{length}
use Rattle.lists.proofs.Reflect.{cond_true, cond_false, cond_cases}
use Rattle.format.specs.JobBytes.{Between}
use Rattle.format.specs.JobNumbers.{JobFile}
use Rattle.format.specs.Parser.{Parsed, parsed, fault, job_buffer, certificate_buffer}
use Rattle.format.specs.Verdict.{fits}
use Rattle.format.proofs.Exact.{r_fits}
use Rattle.versions.specs.Carry.{read_job_of, CertificateFile, read_certificate_of, new_in_job, new_in_members, certificate_in}
use Rattle.versions.specs.Carry.{Carried, refused, sized, unless_new, carry_both, carry_beside, carry_certificate}
use Rattle.versions.specs.Carries.{NoneInJob, NoneInMembers, JobOf, PairOf}
use Rattle.versions.specs.Carries.{CertificateCarries, carried, job_length, certificate_length, job_unread, certificate_unread, job_new, members_new, too_long}
use Rattle.versions.proofs.Job.{r_long, sized_long, sized_fits, unread_told, told_unread}
use Rattle.versions.proofs.New.{new_in_job_lem, new_in_members_lem, none_in_job, none_in_members}
use Rattle.versions.proofs.Reading.{job_of_sound, job_of_complete, certificate_of_sound, certificate_of_complete}
use Rattle.versions.proofs.Unread.{unread_exact}

module _ (v w : ℕ) (job certificate : List ℕ) (room : ℕ) where
  abbrev Says : Carried → Type 0
  Says = CertificateCarries v w job certificate room

  -- what is read beside a job
  abbrev read_beside : ℕ → JobFile → Parsed CertificateFile
  read_beside u f = read_certificate_of u (certificate_buffer certificate) f 0

  -- what comes after 21 in the job, and after 21 in the members
  abbrev after_job : JobFile → CertificateFile → Carried
  after_job f c = unless_new 1 (new_in_members f.version c.members) (sized room (certificate_in w c))

  -- ---- what the call answers holds

  certificate_tells : Says (carry_certificate v w job certificate room)
  unfolding carry_certificate sized
  certificate_tells =
      cond_cases Says (r_fits job)
      (λ a. cond_cases Says (r_fits certificate) (λ b. by_job a b (read_job_of v (job_buffer job) 0) refl) (certificate_length a)) job_length
    where
      by_members : (f : JobFile) (c : CertificateFile) → PairOf v job certificate f c → NoneInJob f → (x : Option (List ℕ))
          → new_in_members f.version c.members ≡ x → Says (unless_new 1 x (sized room (certificate_in w c)))
      by_members f c k old (some before) h = members_new f c k old before ((new_in_members_lem f.version c.members before).0 h)
      by_members f c k old none h =
          let bare = (none_in_members f.version c.members).0 h in
          cond_cases Says (r_long room (certificate_in w c)) (too_long f c k old bare) (carried f c k old bare)

      by_new : (f : JobFile) (c : CertificateFile) → PairOf v job certificate f c → (x : Option (List ℕ)) → new_in_job f ≡ x → Says (unless_new 0 x (after_job f c))
      by_new f c k (some before) h = job_new f c k before ((new_in_job_lem f before).0 h)
      by_new f c k none h = by_members f c k ((none_in_job f).0 h) (new_in_members f.version c.members) refl

      by_certificate : (f : JobFile) → JobOf v job f → Between 1 65536 (length certificate) → (r : Parsed CertificateFile) → read_beside f.version f ≡ r
          → Says (carry_both w room f r)
      by_certificate f k b (fault why place) h = certificate_unread f k b why place ((unread_exact f k.job_is.in_range certificate why place).0 h)
      by_certificate f k b (parsed c next) h =
          by_new f c (record { job_of = k; certificate_length = b; certificate_is = certificate_of_sound f certificate c next h }) (new_in_job f) refl

      by_job : Between 1 65536 (length job) → Between 1 65536 (length certificate) → (r : Parsed JobFile) → read_job_of v (job_buffer job) 0 ≡ r
          → Says (carry_beside v w room certificate r)
      by_job a b (fault why place) h = job_unread a b why place (told_unread v job why place h)
      by_job a b (parsed f next) h =
          let (i, same) = job_of_sound v job f next h in
          subst (λ (u : ℕ). Says (carry_both w room f (read_beside u f))) same
          (by_certificate f (record { job_length = a; job_is = i; version_is = same }) b (read_beside f.version f) refl)

  -- ---- and what holds it answers

  by_lengths : Between 1 65536 (length job) → Between 1 65536 (length certificate) → (x : Carried)
      → carry_beside v w room certificate (read_job_of v (job_buffer job) 0) ≡ x → carry_certificate v w job certificate room ≡ x
  unfolding carry_certificate
  by_lengths a b x e =
      cond_true (fits job) _ (refused 1 0 0) ((r_fits job).tests a)
      ∙ cond_true (fits certificate) (carry_beside v w room certificate (read_job_of v (job_buffer job) 0)) (refused 2 0 1) ((r_fits certificate).tests b) ∙ e

  by_file : (f : JobFile) → JobOf v job f → Between 1 65536 (length certificate) → (x : Carried) → carry_both w room f (read_beside f.version f) ≡ x
      → carry_certificate v w job certificate room ≡ x
  by_file f k b x e =
      let (next, h) = job_of_complete v job f k.job_is k.version_is in
      by_lengths k.job_length b x
      (ap (carry_beside v w room certificate) h ∙ ap (λ (u : ℕ). carry_both w room f (read_beside u f)) (sym k.version_is) ∙ e)

  by_pair : (f : JobFile) (c : CertificateFile) → PairOf v job certificate f c → (x : Carried) → unless_new 0 (new_in_job f) (after_job f c) ≡ x
      → carry_certificate v w job certificate room ≡ x
  by_pair f c k x e =
      let (next, h) = certificate_of_complete f certificate k.job_of.job_is.in_range c k.certificate_is in
      by_file f k.job_of k.certificate_length x (ap (carry_both w room f) h ∙ e)

  by_old : (f : JobFile) (c : CertificateFile) → PairOf v job certificate f c → NoneInJob f → (x : Carried) → after_job f c ≡ x
      → carry_certificate v w job certificate room ≡ x
  by_old f c k old x e = by_pair f c k x (ap (λ y. unless_new 0 y (after_job f c)) ((none_in_job f).1 old) ∙ e)

  by_plain : (f : JobFile) (c : CertificateFile) → PairOf v job certificate f c → NoneInJob f → NoneInMembers f.version c.members → (x : Carried)
      → sized room (certificate_in w c) ≡ x → carry_certificate v w job certificate room ≡ x
  by_plain f c k old bare x e =
      by_old f c k old x (ap (λ y. unless_new 1 y (sized room (certificate_in w c))) ((none_in_members f.version c.members).1 bare) ∙ e)

  certificate_told : (x : Carried) → Says x → carry_certificate v w job certificate room ≡ x
  unfolding carry_certificate
  certificate_told x (job_length n) = cond_false (fits job) _ (refused 1 0 0) (λ t. n ((r_fits job).holds t))
  certificate_told x (certificate_length a n) =
      cond_true (fits job) _ (refused 1 0 0) ((r_fits job).tests a)
      ∙ cond_false (fits certificate) (carry_beside v w room certificate (read_job_of v (job_buffer job) 0)) (refused 2 0 1) (λ t. n ((r_fits certificate).holds t))
  certificate_told x (job_unread a b why place k) = by_lengths a b _ (ap (carry_beside v w room certificate) (unread_told v job why place k))
  certificate_told x (certificate_unread f k b why place i) =
      by_file f k b _ (ap (carry_both w room f) ((unread_exact f k.job_is.in_range certificate why place).1 i))
  certificate_told x (job_new f c k before n) = by_pair f c k _ (ap (λ y. unless_new 0 y (after_job f c)) ((new_in_job_lem f before).1 n))
  certificate_told x (members_new f c k old before n) =
      by_old f c k old _ (ap (λ y. unless_new 1 y (sized room (certificate_in w c))) ((new_in_members_lem f.version c.members before).1 n))
  certificate_told x (too_long f c k old bare long) = by_plain f c k old bare _ (sized_long room (certificate_in w c) long)
  certificate_told x (carried f c k old bare short) = by_plain f c k old bare _ (sized_fits room (certificate_in w c) short)

  -- CERTIFICATE: the call answers x if and only if that is so
  pub certificate_means : (x : Carried) → (carry_certificate v w job certificate room ≡ x) ↔ CertificateCarries v w job certificate room x
  certificate_means x = ((λ e. subst Says e certificate_tells), certificate_told x)
