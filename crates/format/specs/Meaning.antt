-- What each refusal says, without the parsers. Document 01, "Refusals, in checking order", and document 02, Wish 6, for facts and for 20. `meaning`
-- of the proofs says that the verdict is a refusal for a reason at a place exactly if this holds of them.
use Rattle.std.specs.Prelude.{List, [], ◌∷◌, ◌++◌, ◌≢◌, ◌⊎◌, ◌≡◌, ℕ, ◌≤◌, ◌<◌, length, take}
use Rattle.std.proofs.Math.Option.{some}
use Rattle.std.proofs.Math.ListN.{get_elem?}
use Rattle.lists.specs.List.{Every, concat_map}
use Rattle.number.specs.Number.{number_at, no_numeral, numeral}
use Rattle.number.specs.NumberList.{numbers, decode}
use Rattle.heap.specs.Heap.{empty}
use Rattle.facts.specs.Facts.{Fact, FactsOf}
use Rattle.shape.specs.Shape.{size, Satisfies, AllBelow}
use Rattle.run.specs.Run.{Located}
use Rattle.cover.specs.Cover.{Cover, owed, Avoids, AllHold}
use Rattle.cover.specs.Rules.{Breaks, First}
use Rattle.format.specs.Parser.{Reason, refusal, broken_rule}
use Rattle.format.specs.JobNumbers.{JobFile, fact_numbers, located_numbers, job_numbers}
use Rattle.format.specs.Numbers.{member_numbers, certificate_numbers}
use Rattle.format.specs.Verdict.{start_of}
use Rattle.format.specs.Conditions.{MembersInRange, ImageForEach}
use Rattle.format.specs.JobBytes.{Between, Rising, JobInRange, IsJob}

-- the bytes before the place are these numbers
abbrev pub Before : List ℕ → ℕ → List ℕ → Type 0
Before s place ns = (place ≤ length s) × (decode (take place s) ≡ numbers ns)

-- ---- numbers that may stand

-- the first numbers of a fact about n cells: "each fact as 0 (below) or 1 (equal), i, j"
abbrev pub FactBegun : ℕ → List ℕ → Type 0
FactBegun n [] = Unit {0}
FactBegun n (kind ∷ []) = kind < 2
FactBegun n (kind ∷ i ∷ []) = (kind < 2) × (i < n)
FactBegun n (kind ∷ i ∷ j ∷ more) = ⊥

-- the first numbers of the facts of a shape of n cells, which are not all: "a count 0 to 288, then each fact [..] strictly rising"
pub record FactsBegun (n : ℕ) (ns : List ℕ) : Type 0 where
  pub count : ℕ
  pub number : count ≤ 288
  pub facts : List Fact
  pub fewer : length facts < count
  pub of : FactsOf n facts
  pub rising : Rising facts
  pub next : List ℕ
  pub begun : FactBegun n next
  pub numbers_are : count ∷ concat_map fact_numbers facts ++ next ≡ ns

-- Jobs, or the members of certificates: L version shapes ns says that ns are the numbers of one in range, of this version, with these shapes at
-- its end.
module _ (L : ℕ → List Located → List ℕ → Type 0) where
  -- the numbers of one in range
  abbrev pub Whole : List ℕ → Type 0
  Whole ns = (version : ℕ) × (shapes : List Located) × L version shapes ns

  -- facts have begun: the numbers of one in range up to the links of a shape (version 1 has no more of it), then the first numbers of facts
  pub record InFacts (ns : List ℕ) : Type 0 where
    pub earlier : List Located
    pub located : Located
    pub later : List Located
    pub before : List ℕ
    pub in_range : L 2 (earlier ++ (located ∷ later)) (before ++ concat_map (located_numbers 2) (located ∷ later))
    pub facts : List ℕ
    pub begun : FactsBegun (size located.shape) facts
    pub numbers_are : before ++ (located_numbers 1 located ++ facts) ≡ ns

  -- These numbers may stand at the beginning: one in range begins with them, or facts have begun, though they may have no end (of 2 cells at most 8
  -- facts rise, but the count may be 9).
  abbrev pub Begun : List ℕ → Type 0
  Begun ns = ((later : List ℕ) × Whole (ns ++ later)) ⊎ InFacts ns

  -- "the first faulty number"
  module _ (s : List ℕ) (place : ℕ) where
    -- the numbers before the place may stand and are not all: at the place a number is due
    pub record NumberDue : Type 0 where
      pub earlier : List ℕ
      pub before : Before s place earlier
      pub begun : Begun earlier
      pub unfinished : ¬ Whole earlier

    -- the number that is due "can't be read"
    pub record Unread : Type 0 where
      pub due : NumberDue
      pub unread : number_at s place ≡ no_numeral place

    -- the number that is due "reads but breaks its range": with it they may not stand
    pub record OutOfRange : Type 0 where
      pub due : NumberDue
      pub number : ℕ
      pub next : ℕ
      pub reads : number_at s place ≡ numeral number next
      pub outside : ¬ Begun (due.earlier ++ (number ∷ []))

-- ---- the job

-- the numbers of a job in range, of this version and with these forbidden shapes
abbrev pub OfJob : ℕ → List Located → List ℕ → Type 0
OfJob version shapes ns = (f : JobFile) × JobInRange f × (f.version ≡ version) × (f.job.forbidden ≡ shapes) × (job_numbers f ≡ ns)

-- what a refusal 3 to 5 says of the job
pub data InJob (job : List ℕ) : Reason → ℕ → Type 0 where
  -- "3. A number of the job can't be read: past the end, above 65,535, or longer than needed (place: its first byte)."
  job_number : (place : ℕ) → Unread OfJob job place → InJob job (refusal 3) place
  -- "4. A number of the job reads but breaks its range or the table of kinds (its first byte)."
  job_range : (place : ℕ) → OutOfRange OfJob job place → InJob job (refusal 4) place
  -- "5. Bytes are left after the job (the first of them)."
  job_left : (f : JobFile) (place : ℕ) → IsJob (take place job) f → place < length job → InJob job (refusal 5) place

-- ---- the certificate

-- "version 1; N 1..512; N members (state, shape)": the numbers of members in range, of the job's version
abbrev pub OfMembers : JobFile → ℕ → List Located → List ℕ → Type 0
OfMembers f version ms ns = MembersInRange f ms × (f.version ≡ version) × (member_numbers version ms ≡ ns)

-- 8 is judged for members at the state `tested`
module _ (tested : ℕ) where
  module _ (f : JobFile) (certificate : List ℕ) (place : ℕ) where
    -- the member at the place is the first at the tested state that the empty heap satisfies
    pub record StartSatisfied : Type 0 where
      pub earlier : List Located
      pub member : Located
      pub later : List Located
      pub next : ℕ
      pub members_range : MembersInRange f (earlier ++ (member ∷ later))
      pub members_read : Before certificate next (member_numbers f.version (earlier ++ (member ∷ later)))
      pub before : Before certificate place (f.version ∷ length (earlier ++ (member ∷ later)) ∷ concat_map (located_numbers f.version) earlier)
      pub unsatisfied : Every (Avoids tested) earlier
      pub state : member.state ≡ tested
      pub satisfied : Satisfies empty member.shape

    -- up to the place all is well: what is left is still owed a cover
    pub record Covered (left : List Located) : Type 0 where
      pub members : List Located
      pub members_range : MembersInRange f members
      pub start : Every (Avoids tested) members
      pub covers : List Cover
      pub images : Every (ImageForEach members) covers
      pub before : Before certificate place (certificate_numbers f.version members covers)
      pub done : List Located
      pub owed_is : owed f.job members ≡ done ++ left
      pub hold : AllHold members covers done

    -- the cover at the place begins, up to `next`: "a member number below N and one image for each of its cells, below the number of cells of
    -- the covered shape", though images may still be owed
    pub record CoverBegun (next : ℕ) : Type 0 where
      pub shape : Located
      pub later : List Located
      pub so_far : Covered (shape ∷ later)
      pub cover : Cover
      pub member : Located
      pub numbered : get_elem? so_far.members cover.member ≡ some member
      pub below : AllBelow (size shape.shape) cover.images
      pub reads : Before certificate next (certificate_numbers f.version so_far.members (so_far.covers ++ (cover ∷ [])))

    -- the cover at the place reads, and this is the first rule that it breaks, at this cell or variable
    pub record CoverFails (rule name : ℕ) : Type 0 where
      pub next : ℕ
      pub cover : CoverBegun next
      pub images : length cover.cover.images ≡ size cover.member.shape
      pub first : First (Breaks cover.member cover.cover.images cover.shape) rule name

  -- "then cover by cover 6, 7, 9": at the place a number of the next cover is due, which has to be below the limit. (No cover need begin so and
  -- go on: where the covered shape has no cells, an image that is due has no number to be.)
  pub data CoverDue (f : JobFile) (certificate : List ℕ) (place limit : ℕ) : Type 0 where
    -- "a member number below N"
    member_due : (shape : Located) (later : List Located) (c : Covered f certificate place (shape ∷ later)) → limit ≡ length c.members
        → CoverDue f certificate place limit
    -- "one image for each of its cells, below the number of cells of the covered shape"
    image_due : (first : ℕ) (c : CoverBegun f certificate first place) → length c.cover.images < size c.member.shape
        → limit ≡ size c.shape.shape → CoverDue f certificate place limit

  -- what a refusal 6 to 10 or 20 says of the certificate of a job that is read
  pub data InCertificate (f : JobFile) (certificate : List ℕ) : Reason → ℕ → Type 0 where
    -- "6. A number of the certificate can't be read, as in 3."
    member_unread : (place : ℕ) → Unread (OfMembers f) certificate place → InCertificate f certificate (refusal 6) place
    cover_unread : (place limit : ℕ) → CoverDue f certificate place limit → number_at certificate place ≡ no_numeral place → InCertificate f certificate (refusal 6) place
    -- "7. A number of the certificate breaks its range (its first byte)." The version number, at place 0, may be the other version.
    version_range : (n next : ℕ) → number_at certificate 0 ≡ numeral n next → ¬ Between 1 2 n → InCertificate f certificate (refusal 7) 0
    member_range : (place : ℕ) → 0 < place → OutOfRange (OfMembers f) certificate place → InCertificate f certificate (refusal 7) place
    cover_range : (place limit : ℕ) → CoverDue f certificate place limit → (n next : ℕ) → number_at certificate place ≡ numeral n next → limit ≤ n
        → InCertificate f certificate (refusal 7) place
    -- Document 02, Wish 6: "A job and a certificate of different versions get 20, after 5 and before anything in the certificate past its version
    -- number."
    versions_differ : (n next : ℕ) → number_at certificate 0 ≡ numeral n next → Between 1 2 n → n ≢ f.version → InCertificate f certificate (refusal 20) 0
    -- "8. A member at the start state is satisfied by the empty heap [..] (the member's first byte)."
    member_satisfied : (place : ℕ) → StartSatisfied f certificate place → InCertificate f certificate (refusal 8) place
    -- "9. A cover that reads doesn't hold (the cover's first byte)." Document 02: "say what broke".
    cover_fails : (rule name place : ℕ) → CoverFails f certificate place rule name → InCertificate f certificate (broken_rule rule name) place
    -- "10. Bytes are left after the last cover (the first of them)."
    certificate_left : (place : ℕ) → Covered f certificate place [] → place < length certificate → InCertificate f certificate (refusal 10) place

-- what each refusal, by its reason and place, says of the two buffers; 8 is judged at the state `tested`
pub data MeaningAt (tested : JobFile → ℕ) (job certificate : List ℕ) : Reason → ℕ → Type 0 where
  -- "1. The job's length is 0 or above 65,536 (place 0)."
  job_length : ¬ Between 1 65536 (length job) → MeaningAt tested job certificate (refusal 1) 0
  -- "2. The certificate's length is 0 or above 65,536 (place 0)."
  certificate_length : Between 1 65536 (length job) → ¬ Between 1 65536 (length certificate) → MeaningAt tested job certificate (refusal 2) 0
  in_job : (why : Reason) (place : ℕ) → Between 1 65536 (length job) → Between 1 65536 (length certificate) → InJob job why place
      → MeaningAt tested job certificate why place
  in_certificate : (why : Reason) (place : ℕ) → Between 1 65536 (length job) → Between 1 65536 (length certificate) → (f : JobFile) → IsJob job f
      → InCertificate (tested f) f certificate why place → MeaningAt tested job certificate why place

abbrev pub Meaning : List ℕ → List ℕ → Reason → ℕ → Type 0
Meaning = MeaningAt start_of
