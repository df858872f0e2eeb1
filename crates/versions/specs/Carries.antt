-- What each answer of the carrying calls says, without parsers and tests, and the claim about a pair that is carried.
use Rattle.std.specs.Prelude.{List, [], ◌∷◌, ◌++◌, ◌≢◌, ◌↔◌, ◌⊎◌, ◌≡◌, ℕ, ◌≤◌, ◌<◌, length, drop}
use Rattle.std.proofs.Math.Option.{some}
use Rattle.std.proofs.Math.ListN.{get_elem?}
use Rattle.lists.specs.List.{Every, concat_map}
use Rattle.number.specs.Number.{number_at, no_numeral, numeral}
use Rattle.number.specs.NumberList.{numbers, decode, encode}
use Rattle.shape.specs.Shape.{size, AllBelow}
use Rattle.run.specs.Run.{Transition, Located}
use Rattle.cover.specs.Cover.{Cover, owed}
use Rattle.format.specs.Conditions.{MembersInRange, AllFit, Conditions}
use Rattle.format.specs.JobBytes.{Between, IsJob}
use Rattle.format.specs.JobNumbers.{JobFile, transition_numbers, located_numbers, job_opening}
use Rattle.format.specs.Meaning.{Before, Unread, OutOfRange, OfMembers, InJob}
use Rattle.format.specs.Numbers.{certificate_numbers}
use Rattle.format.specs.Parser.{Reason, refusal, reason_number}
use Rattle.format.specs.Verdict.{Counts}
use Rattle.versions.specs.Carry.{CertificateFile, kind_number, ahead_of_kind, ahead_of_count, opening, opening_of_members}
use Rattle.versions.specs.Carry.{job_in, certificate_in, Carried, written, refused, carry_job}

-- ---- "21 at the first kind above 7 or fact count above 0"

-- the numbers ahead of what is new in the first element that has it
pub record FirstNew {A : Type 0} (New : A → Type 0) (ahead numbers : A → List ℕ) (so_far : List ℕ) (xs : List A) (before : List ℕ) : Type 0 where
  pub earlier : List A
  pub first : A
  pub later : List A
  pub all_are : xs ≡ earlier ++ (first ∷ later)
  pub none_new : Every (λ x. ¬ New x) earlier
  pub new : New first
  pub before_is : so_far ++ (concat_map numbers earlier ++ ahead first) ≡ before

abbrev pub KindAbove : Transition → Type 0
KindAbove t = 7 < kind_number t.op

abbrev pub HasFacts : Located → Type 0
HasFacts m = 0 < length m.shape.facts

abbrev pub FirstCount : List ℕ → List Located → List ℕ → Type 0
FirstCount = FirstNew HasFacts ahead_of_count (located_numbers 2)

-- these numbers of the job stand before the first that is new
pub data NewInJob (f : JobFile) (before : List ℕ) : Type 0 where
  at_kind : FirstNew KindAbove ahead_of_kind transition_numbers (opening f) f.job.transitions before → NewInJob f before
  at_count : Every (λ t. ¬ KindAbove t) f.job.transitions → FirstCount (job_opening f) f.job.forbidden before → NewInJob f before

-- these numbers of the certificate do
abbrev pub NewInMembers : ℕ → List Located → List ℕ → Type 0
NewInMembers version ms = FirstCount (opening_of_members version ms) ms

-- ---- files of one version

-- "or are of the other version": the first number reads, and is not v
pub record OtherVersion (v : ℕ) (bytes : List ℕ) : Type 0 where
  pub number : ℕ
  pub next : ℕ
  pub reads : number_at bytes 0 ≡ numeral number next
  pub other : number ≢ v

-- the bytes are those of the job f of version v
pub record JobOf (v : ℕ) (job : List ℕ) (f : JobFile) : Type 0 where
  pub job_length : Between 1 65536 (length job)
  pub job_is : IsJob job f
  pub version_is : f.version ≡ v

-- "8 and 9 aren't judged": they are those of members in range and of a cover for each shape that is owed, which need not hold
pub record IsCertificate (f : JobFile) (certificate : List ℕ) (c : CertificateFile) : Type 0 where
  pub members_range : MembersInRange f c.members
  pub fit : AllFit c.members c.covers (owed f.job c.members)
  pub reads : decode certificate ≡ numbers (certificate_numbers f.version c.members c.covers)

-- the two are a pair of version v
pub record PairOf (v : ℕ) (job certificate : List ℕ) (f : JobFile) (c : CertificateFile) : Type 0 where
  pub job_of : JobOf v job f
  pub certificate_length : Between 1 65536 (length certificate)
  pub certificate_is : IsCertificate f certificate c

-- ---- a certificate that can't be read: "8 and 9 aren't judged"

module _ (f : JobFile) (certificate : List ℕ) (place : ℕ) where
  -- up to the place all is well: what is left is still owed a cover
  pub record ReadTo (left : List Located) : Type 0 where
    pub members : List Located
    pub members_range : MembersInRange f members
    pub covers : List Cover
    pub done : List Located
    pub owed_is : owed f.job members ≡ done ++ left
    pub fit : AllFit members covers done
    pub before : Before certificate place (certificate_numbers f.version members covers)

  -- the cover at the place begins, up to `next`: a member number and some of its images
  pub record CoverBegun (next : ℕ) : Type 0 where
    pub shape : Located
    pub later : List Located
    pub so_far : ReadTo (shape ∷ later)
    pub cover : Cover
    pub member : Located
    pub numbered : get_elem? so_far.members cover.member ≡ some member
    pub fewer : length cover.images < size member.shape
    pub below : AllBelow (size shape.shape) cover.images
    pub reads : Before certificate next (certificate_numbers f.version so_far.members (so_far.covers ++ (cover ∷ [])))

-- at the place a number of the next cover is due, which has to be below the limit
pub data CoverDue (f : JobFile) (certificate : List ℕ) (place limit : ℕ) : Type 0 where
  -- "a member number below N"
  member_due : (shape : Located) (later : List Located) (k : ReadTo f certificate place (shape ∷ later)) → limit ≡ length k.members
      → CoverDue f certificate place limit
  -- "one image for each of its cells, below the number of cells of the covered shape"
  image_due : (first : ℕ) (k : CoverBegun f certificate first place) → limit ≡ size k.shape.shape → CoverDue f certificate place limit

-- what is the matter with one beside the job f: "Files that can't be read, or are of the other version, get 1 to 7 or 10 as before"
pub data CertificateUnread (f : JobFile) (certificate : List ℕ) : Reason → ℕ → Type 0 where
  member_unread : (place : ℕ) → Unread (OfMembers f) certificate place → CertificateUnread f certificate (refusal 6) place
  -- any version number but the job's is one that breaks its range
  member_range : (place : ℕ) → OutOfRange (OfMembers f) certificate place → CertificateUnread f certificate (refusal 7) place
  cover_unread : (place limit : ℕ) → CoverDue f certificate place limit → number_at certificate place ≡ no_numeral place
      → CertificateUnread f certificate (refusal 6) place
  cover_range : (place limit : ℕ) → CoverDue f certificate place limit → (n next : ℕ) → number_at certificate place ≡ numeral n next → limit ≤ n
      → CertificateUnread f certificate (refusal 7) place
  bytes_left : (place : ℕ) → ReadTo f certificate place [] → place < length certificate → CertificateUnread f certificate (refusal 10) place

-- ---- what each answer says

-- nothing is new
abbrev pub NoneInJob : JobFile → Type 0
NoneInJob f = (before : List ℕ) → ¬ NewInJob f before

abbrev pub NoneInMembers : ℕ → List Located → Type 0
NoneInMembers version ms = (before : List ℕ) → ¬ NewInMembers version ms before

-- "short room or a result above 65,536 bytes"
abbrev pub TooLong : ℕ → List ℕ → Type 0
TooLong room bytes = (65536 < length bytes) ⊎ (room < length bytes)

-- what is the matter with a job that can't be carried, alone or beside a certificate
pub data JobUnread (v : ℕ) (job : List ℕ) : Reason → ℕ → Type 0 where
  -- "Files that [..] are of the other version": 4 at the version number
  other_version : OtherVersion v job → JobUnread v job (refusal 4) 0
  -- "Files that can't be read [..] get 1 to 7 or 10 as before": 3, 4 or 5
  in_job : ¬ OtherVersion v job → (why : Reason) (place : ℕ) → InJob job why place → JobUnread v job why place

-- what each answer says of a job and the room for it in version w
pub data JobCarries (v w : ℕ) (job : List ℕ) (room : ℕ) : Carried → Type 0 where
  carried : (f : JobFile) → JobOf v job f → NoneInJob f → ¬ TooLong room (job_in w f) → JobCarries v w job room (written (job_in w f))
  job_length : ¬ Between 1 65536 (length job) → JobCarries v w job room (refused 1 0 0)
  job_unread : Between 1 65536 (length job) → (why : Reason) (place : ℕ) → JobUnread v job why place → JobCarries v w job room (refused (reason_number why) place 0)
  -- "then, on the way down, 21 at the first kind above 7 or fact count above 0"
  job_new : (f : JobFile) → JobOf v job f → (before : List ℕ) → NewInJob f before → JobCarries v w job room (refused 21 (length (encode before)) 0)
  -- "and 12 for short room or a result above 65,536 bytes"
  too_long : (f : JobFile) → JobOf v job f → NoneInJob f → TooLong room (job_in w f) → JobCarries v w job room (refused 12 (length (job_in w f)) 0)

-- and of a certificate beside its job
pub data CertificateCarries (v w : ℕ) (job certificate : List ℕ) (room : ℕ) : Carried → Type 0 where
  carried : (f : JobFile) (c : CertificateFile) → PairOf v job certificate f c → NoneInJob f → NoneInMembers f.version c.members
      → ¬ TooLong room (certificate_in w c) → CertificateCarries v w job certificate room (written (certificate_in w c))
  job_length : ¬ Between 1 65536 (length job) → CertificateCarries v w job certificate room (refused 1 0 0)
  certificate_length : Between 1 65536 (length job) → ¬ Between 1 65536 (length certificate) → CertificateCarries v w job certificate room (refused 2 0 1)
  job_unread : Between 1 65536 (length job) → Between 1 65536 (length certificate) → (why : Reason) (place : ℕ) → JobUnread v job why place
      → CertificateCarries v w job certificate room (refused (reason_number why) place 0)
  certificate_unread : (f : JobFile) → JobOf v job f → Between 1 65536 (length certificate) → (why : Reason) (place : ℕ)
      → CertificateUnread f certificate why place → CertificateCarries v w job certificate room (refused (reason_number why) place 1)
  -- "job before certificate"
  job_new : (f : JobFile) (c : CertificateFile) → PairOf v job certificate f c → (before : List ℕ) → NewInJob f before
      → CertificateCarries v w job certificate room (refused 21 (length (encode before)) 0)
  members_new : (f : JobFile) (c : CertificateFile) → PairOf v job certificate f c → NoneInJob f → (before : List ℕ) → NewInMembers f.version c.members before
      → CertificateCarries v w job certificate room (refused 21 (length (encode before)) 1)
  too_long : (f : JobFile) (c : CertificateFile) → PairOf v job certificate f c → NoneInJob f → NoneInMembers f.version c.members
      → TooLong room (certificate_in w c) → CertificateCarries v w job certificate room (refused 12 (length (certificate_in w c)) 0)

-- ---- the claim about a pair

-- "a pair that goes up is accepted exactly if it was before, with the same counts", and one that goes down: whatever its job is written as
abbrev pub AcceptedAlike : ℕ → ℕ → List ℕ → List ℕ → List ℕ → Type 0
AcceptedAlike v w job certificate certificate' =
    (room : ℕ) (job' : List ℕ) → carry_job v w job room ≡ written job' → (counts : Counts) → Conditions job certificate counts ↔ Conditions job' certificate' counts

-- the output begins with such a certificate, and the rest of it is as before
pub record AlikeIn (v w : ℕ) (job certificate before after : List ℕ) : Type 0 where
  pub bytes : List ℕ
  pub after_is : after ≡ bytes ++ drop (length bytes) before
  pub alike : AcceptedAlike v w job certificate bytes
