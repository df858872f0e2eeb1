-- Jobs: each answer of the call is given where document 02 says so, and only there; and one that is carried is carried back.
use mathlib.Core.Bool.{◌||◌}
use mathlib.Core.List.{List, []}
use mathlib.Core.Logic.{◌≢◌, ◌↔◌, inl, inr}
use mathlib.Core.Option.{Option, none, some}
use mathlib.Core.Path.{◌≡◌, refl, sym, ap, subst, subst₂, ◌∙◌}
use Prim.Native.Nat.{ℕ, ◌≤◌, ◌<◌}
use native.Mathlib.Omega.{arith}
use lib.Dec.{ltb}
use lib.ListN.{length}
use Rattle.lists.proofs.Reflect.{Reflect, r_lt, r_either, cond_true, cond_false, cond_cases}
use Rattle.number.specs.NumberList.{encode}
use Rattle.number.specs.Range.{AtMost}
use Rattle.format.specs.JobBytes.{Between, IsJob}
use Rattle.format.specs.JobNumbers.{JobFile, in_version, job_numbers}
use Rattle.format.specs.Parser.{Reason, refusal, reason_number, Parsed, parsed, fault, job_buffer}
use Rattle.format.specs.Meaning.{job_number, job_range, job_left}
use Rattle.format.specs.Verdict.{fits}
use Rattle.format.proofs.Decided.{job_refused}
use Rattle.format.proofs.Exact.{r_fits}
use Rattle.format.proofs.Guarantee.{one_job, job_bytes}
use Rattle.format.proofs.Means.{job_meaning}
use Rattle.format.proofs.Versions.{Plain, job_either}
use Rattle.format.proofs.Written.{encode_some, written_job}
use Rattle.versions.specs.Carry.{read_job_of, new_in_job, Carried, written, refused, sized, unless_new, carry_read, carry_job, job_in}
use Rattle.versions.specs.Carries.{NewInJob, NoneInJob, OtherVersion, JobOf, TooLong}
use Rattle.versions.specs.Carries.{JobUnread, other_version, in_job, JobCarries, carried, job_length, job_unread, job_new, too_long}
use Rattle.versions.proofs.New.{new_in_job_lem, none_in_job, plain_job, up_job}
use Rattle.versions.proofs.Reading.{other?, job_other, job_own, job_of_sound, job_of_complete}

-- "12 for short room or a result above 65,536 bytes"
pub r_long : (room : ℕ) (bytes : List ℕ) → Reflect (TooLong room bytes) (ltb 65536 (length bytes) || ltb room (length bytes))
r_long room bytes = r_either (r_lt 65536 (length bytes)) (r_lt room (length bytes))

pub not_long : (room : ℕ) (bytes : List ℕ) → length bytes ≤ 65536 → length bytes ≤ room → ¬ TooLong room bytes
not_long room bytes few enough (inl h) = omega arith
not_long room bytes few enough (inr h) = omega arith

pub at_most_limit : (room : ℕ) (bytes : List ℕ) → ¬ TooLong room bytes → length bytes ≤ 65536
at_most_limit room bytes n = let k : ¬ (65536 < length bytes) = λ h. n (inl h) in omega arith

pub sized_long : (room : ℕ) (bytes : List ℕ) → TooLong room bytes → sized room bytes ≡ refused 12 (length bytes) 0
unfolding sized
sized_long room bytes k =
    cond_true (ltb 65536 (length bytes) || ltb room (length bytes)) (refused 12 (length bytes) 0) (written bytes) ((r_long room bytes).tests k)

pub sized_fits : (room : ℕ) (bytes : List ℕ) → ¬ TooLong room bytes → sized room bytes ≡ written bytes
unfolding sized
sized_fits room bytes k =
    cond_false (ltb 65536 (length bytes) || ltb room (length bytes)) (refused 12 (length bytes) 0) (written bytes) (λ t. k ((r_long room bytes).holds t))

-- a job that can't be carried
module _ (v : ℕ) (job : List ℕ) where
  pub unread_told : (why : Reason) (place : ℕ) → JobUnread v job why place → read_job_of v (job_buffer job) 0 ≡ fault why place
  unread_told why place (other_version o) = job_other v job o
  unread_told why place (in_job own k q i) = job_own v job own ∙ job_refused job k q i

  pub told_unread : (why : Reason) (place : ℕ) → read_job_of v (job_buffer job) 0 ≡ fault why place → JobUnread v job why place
  told_unread why place h = by_version (other? v job)
    where
      by_version : Dec (OtherVersion v job) → JobUnread v job why place
      by_version (yes o) =
          let e : ◌≡◌ {A = Parsed JobFile} (fault (refusal 4) 0) (fault why place) = sym (job_other v job o) ∙ h in
          let why_is : refusal 4 ≡ why = cc in
          let place_is : 0 ≡ place = cc in
          subst₂ (JobUnread v job) why_is place_is (other_version o)
      by_version (no own) = in_job own why place (job_meaning job why place (sym (job_own v job own) ∙ h))

  -- it is refused with 3, 4 or 5
  pub unread_number : (why : Reason) (place : ℕ) → JobUnread v job why place → Between 3 5 (reason_number why)
  unread_number why place (other_version o) = (omega arith, omega arith)
  unread_number why place (in_job own k q (job_number at i)) = (omega arith, omega arith)
  unread_number why place (in_job own k q (job_range at i)) = (omega arith, omega arith)
  unread_number why place (in_job own k q (job_left f at i more)) = (omega arith, omega arith)

module _ (v w : ℕ) (job : List ℕ) (room : ℕ) where
  abbrev Says : Carried → Type 0
  Says = JobCarries v w job room

  -- ---- what the call answers holds

  job_tells : Says (carry_job v w job room)
  unfolding carry_job sized
  job_tells = cond_cases Says (r_fits job) (λ a. by_read a (read_job_of v (job_buffer job) 0) refl) job_length
    where
      by_new : (f : JobFile) → JobOf v job f → (x : Option (List ℕ)) → new_in_job f ≡ x → Says (unless_new 0 x (sized room (job_in w f)))
      by_new f k (some before) h = job_new f k before ((new_in_job_lem f before).0 h)
      by_new f k none h = let old = (none_in_job f).0 h in cond_cases Says (r_long room (job_in w f)) (too_long f k old) (carried f k old)

      by_read : Between 1 65536 (length job) → (r : Parsed JobFile) → read_job_of v (job_buffer job) 0 ≡ r → Says (carry_read w room r)
      by_read a (fault why place) h = job_unread a why place (told_unread v job why place h)
      by_read a (parsed f next) h =
          let (i, same) = job_of_sound v job f next h in
          by_new f (record { job_length = a; job_is = i; version_is = same }) (new_in_job f) refl

  -- ---- and what holds it answers

  by_length : Between 1 65536 (length job) → (x : Carried) → carry_read w room (read_job_of v (job_buffer job) 0) ≡ x → carry_job v w job room ≡ x
  unfolding carry_job
  by_length a x e = cond_true (fits job) (carry_read w room (read_job_of v (job_buffer job) 0)) (refused 1 0 0) ((r_fits job).tests a) ∙ e

  by_file : (f : JobFile) → JobOf v job f → (x : Carried) → unless_new 0 (new_in_job f) (sized room (job_in w f)) ≡ x → carry_job v w job room ≡ x
  by_file f k x e = let (next, h) = job_of_complete v job f k.job_is k.version_is in by_length k.job_length x (ap (carry_read w room) h ∙ e)

  job_told : (x : Carried) → Says x → carry_job v w job room ≡ x
  unfolding carry_job
  job_told x (job_length n) = cond_false (fits job) (carry_read w room (read_job_of v (job_buffer job) 0)) (refused 1 0 0) (λ t. n ((r_fits job).holds t))
  job_told x (job_unread a why place k) = by_length a _ (ap (carry_read w room) (unread_told v job why place k))
  job_told x (job_new f k before n) = by_file f k _ (ap (λ y. unless_new 0 y (sized room (job_in w f))) ((new_in_job_lem f before).1 n))
  job_told x (too_long f k old long) = by_file f k _ (ap (λ y. unless_new 0 y (sized room (job_in w f))) ((none_in_job f).1 old) ∙ sized_long room (job_in w f) long)
  job_told x (carried f k old short) = by_file f k _ (ap (λ y. unless_new 0 y (sized room (job_in w f))) ((none_in_job f).1 old) ∙ sized_fits room (job_in w f) short)

  -- JOB: the call answers x if and only if that is so
  pub job_means : (x : Carried) → (carry_job v w job room ≡ x) ↔ JobCarries v w job room x
  job_means x = ((λ e. subst Says e job_tells), job_told x)

  -- ---- one by one

  abbrev Written : List ℕ → Type 0
  Written out = (f : JobFile) × JobOf v job f × NoneInJob f × (¬ TooLong room (job_in w f)) × (job_in w f ≡ out)

  -- WRITTEN: bytes are written exactly if the job is of version v, has nothing new, and they are its in version w, with room for them
  pub job_written : (out : List ℕ) → (carry_job v w job room ≡ written out) ↔ Written out
  job_written out = ((λ e. by_case _ ((job_means _).0 e) refl), λ (f, k, old, short, e). (job_means _).1 (carried f k old short) ∙ ap written e)
    where
      by_case : (x : Carried) → Says x → x ≡ written out → Written out
      by_case x (carried f k old short) e = (f, k, old, short, cc)
      by_case x (job_length n) e = let z : ◌≡◌ {A = ℕ} 0 1 = cc in absurd (omega arith)
      by_case x (job_unread a why place k) e = let z : ◌≡◌ {A = ℕ} 0 1 = cc in absurd (omega arith)
      by_case x (job_new f k before n) e = let z : ◌≡◌ {A = ℕ} 0 1 = cc in absurd (omega arith)
      by_case x (too_long f k old long) e = let z : ◌≡◌ {A = ℕ} 0 1 = cc in absurd (omega arith)

  abbrev New : ℕ → Type 0
  New place = (f : JobFile) × JobOf v job f × ((before : List ℕ) × NewInJob f before × (length (encode before) ≡ place))

  -- 21: told exactly if the job is of version v and has something new, at its place
  pub job_21 : (place : ℕ) → (carry_job v w job room ≡ refused 21 place 0) ↔ New place
  job_21 place =
      ((λ e. by_case _ ((job_means _).0 e) refl), λ (f, k, (before, n, e)). (job_means _).1 (job_new f k before n) ∙ ap (λ (p : ℕ). refused 21 p 0) e)
    where
      by_case : (x : Carried) → Says x → x ≡ refused 21 place 0 → New place
      by_case x (job_new f k before n) e = (f, k, (before, n, cc))
      by_case x (carried f k old short) e = let z : ◌≡◌ {A = ℕ} 0 1 = cc in absurd (omega arith)
      by_case x (job_length n) e = let z : ◌≡◌ {A = ℕ} 1 21 = cc in absurd (omega arith)
      by_case x (job_unread a why p k) e = let z : reason_number why ≡ 21 = cc in absurd (omega (arith, unread_number v job why p k))
      by_case x (too_long f k old long) e = let z : ◌≡◌ {A = ℕ} 12 21 = cc in absurd (omega arith)

  abbrev Long : ℕ → Type 0
  Long n = (f : JobFile) × JobOf v job f × NoneInJob f × TooLong room (job_in w f) × (length (job_in w f) ≡ n)

  -- 12: told exactly if it reads, has nothing new, and its bytes in version w are too long for the room or above 65,536
  pub job_12 : (n : ℕ) → (carry_job v w job room ≡ refused 12 n 0) ↔ Long n
  job_12 n = ((λ e. by_case _ ((job_means _).0 e) refl), λ (f, k, old, long, e). (job_means _).1 (too_long f k old long) ∙ ap (λ (p : ℕ). refused 12 p 0) e)
    where
      by_case : (x : Carried) → Says x → x ≡ refused 12 n 0 → Long n
      by_case x (too_long f k old long) e = (f, k, old, long, cc)
      by_case x (carried f k old short) e = let z : ◌≡◌ {A = ℕ} 0 1 = cc in absurd (omega arith)
      by_case x (job_length _) e = let z : ◌≡◌ {A = ℕ} 1 12 = cc in absurd (omega arith)
      by_case x (job_unread a why p k) e = let z : reason_number why ≡ 12 = cc in absurd (omega (arith, unread_number v job why p k))
      by_case x (job_new f k before _) e = let z : ◌≡◌ {A = ℕ} 21 12 = cc in absurd (omega arith)

  -- OTHER: 4 at 0 for a job of the other version, or of none
  pub job_of_another : Between 1 65536 (length job) → OtherVersion v job → carry_job v w job room ≡ refused 4 0 0
  job_of_another a o = (job_means _).1 (job_unread a (refusal 4) 0 (other_version o))

  -- LOST: "nothing but what it must": of a job that reads, 21 is told exactly if it is not plain
  pub job_lost : (f : JobFile) → JobOf v job f → ((place : ℕ) × (carry_job v w job room ≡ refused 21 place 0)) ↔ (¬ Plain f.job [])
  job_lost f k = (
    (λ (place, e) p.
        let (g, i, (before, n, _)) = (job_21 place).0 e in
        (plain_job g).1 (subst (λ (h : JobFile). Plain h.job []) (one_job job f g k.job_is i.job_is) p) before n),
    λ n. by_new n (new_in_job f) refl,
  )
    where
      by_new : (¬ Plain f.job []) → (x : Option (List ℕ)) → new_in_job f ≡ x → (place : ℕ) × (carry_job v w job room ≡ refused 21 place 0)
      by_new n none h = absurd (n ((plain_job f).0 ((none_in_job f).0 h)))
      by_new n (some before) h = (_, (job_means _).1 (job_new f k before ((new_in_job_lem f before).0 h)))

-- UP: never of a job of version 1
pub job_never_21 : (w : ℕ) (job : List ℕ) (room place : ℕ) → carry_job 1 w job room ≢ refused 21 place 0
job_never_21 w job room place e =
    let (f, k, (before, n, _)) = (job_21 1 w job room place).0 e in
    up_job f k.job_is.in_range (λ two. omega (arith, k.version_is)) before n

-- ---- and back

-- the job's bytes in version v, and those of the same job in version w
pub record JobCarried (v w : ℕ) (job out : List ℕ) (f : JobFile) : Type 0 where
  pub job_of : JobOf v job f
  pub plain : Plain f.job []
  pub out_is : job_in w f ≡ out
  pub out_length : length out ≤ 65536

pub job_carried : (v w : ℕ) (job : List ℕ) (room : ℕ) (out : List ℕ) → carry_job v w job room ≡ written out → (f : JobFile) × JobCarried v w job out f
job_carried v w job room out e =
    let (f, k, old, short, is) = (job_written v w job room out).0 e in
    let few = subst (λ (l : List ℕ). length l ≤ 65536) is (at_most_limit room (job_in w f) short) in
    (f, record { job_of = k; plain = (plain_job f).0 old; out_is = is; out_length = few })

pub same_file : (v : ℕ) (f : JobFile) → f.version ≡ v → in_version v f ≡ f
same_file v f e i = record { version = sym e i; states = f.states; job = f.job }

-- what is written is the job in version w
pub out_job : (v w : ℕ) → Between 1 2 w → (job out : List ℕ) (f : JobFile) → JobCarried v w job out f → JobOf w out (in_version w f)
out_job v w okw job out f k =
    record {
      job_length = (subst (λ (l : List ℕ). 1 ≤ length l) k.out_is (encode_some (job_numbers (in_version w f)) (omega arith)), k.out_length);
      job_is =
          subst (λ (l : List ℕ). IsJob l (in_version w f)) k.out_is
          (written_job (in_version w f) (job_either w f okw [] k.plain k.job_of.job_is.in_range));
      version_is = refl;
    }

-- BACK: "Up and then down gives the bytes one began with", and down and then up, where there is room for them
pub job_and_back : (v w : ℕ) → Between 1 2 w → (job : List ℕ) → AtMost 255 job → (room : ℕ) (out : List ℕ) → carry_job v w job room ≡ written out
    → (room' : ℕ) → length job ≤ room' → carry_job w v out room' ≡ written job
job_and_back v w okw job limit room out e room' enough =
    let (f, k) = job_carried v w job room out e in
    let i = k.job_of in
    let is : job_in v (in_version w f) ≡ job = ap (λ g. encode (job_numbers g)) (same_file v f i.version_is) ∙ sym (job_bytes job f limit i.job_is) in
    (job_written w v out room' job).1 (
      in_version w f,
      out_job v w okw job out f k,
      (plain_job (in_version w f)).1 k.plain,
      subst (λ (l : List ℕ). ¬ TooLong room' l) (sym is) (not_long room' job i.job_length.1 enough),
      is,
    )
