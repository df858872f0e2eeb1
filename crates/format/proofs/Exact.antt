-- A certificate is accepted exactly under the conditions of document 01.
use mathlib.Core.Bool.{Bool, true, false, cond}
use mathlib.Core.List.{List}
use mathlib.Core.Logic.{◌↔◌}
use mathlib.Core.Path.{◌≡◌, sym, ap, ◌∙◌}
use Prim.Native.Nat.{ℕ, ◌≤◌}
use native.Mathlib.Omega.{arith}
use lib.Dec.{T}
use lib.ListN.{length}
use Rattle.lists.specs.List.{◌∈◌, concat_map, sum}
use Rattle.lists.proofs.Reflect.{Reflect, r_le, r_lt, r_and, r_iff, cond_true}
use Rattle.heap.specs.Heap.{empty}
use Rattle.shape.specs.Shape.{Satisfies}
use Rattle.run.specs.Run.{Located}
use Rattle.cover.specs.Cover.{owed}
use Rattle.format.specs.Parser.{refusal, Parsed, parsed, fault, each, job_buffer, certificate_buffer, end}
use Rattle.format.specs.Job.{read_whole_job}
use Rattle.format.specs.JobNumbers.{JobFile, job_numbers}
use Rattle.format.specs.Certificate.{Member, without_places, read_members, test_start, read_cover}
use Rattle.format.specs.Verdict.{Counts, accepted, refused, read_certificate, read_both, conclude, fits, verdict_at, start_of, verdict}
use Rattle.format.specs.Numbers.{member_numbers, cover_numbers, certificate_numbers}
use Rattle.format.specs.Conditions.{counts_of, ConditionsAt, Conditions}
use Rattle.format.specs.JobBytes.{Between, LocatedInRange, IsJob}
use Rattle.format.proofs.Sequence.{Reads, reads_append, reads_split, reads_decode, decode_reads}
use Rattle.format.proofs.Parsing.{then}
use Rattle.format.proofs.Files.{end_sound, end_complete, job_exact, whole_sound, whole_complete}
use Rattle.format.proofs.Owed.{owed_range}
use Rattle.format.proofs.Covers.{members_sound, members_complete, tests_sound, tests_complete, covers_sound, covers_complete}

pub r_fits : (s : List ℕ) → Reflect (Between 1 65536 (length s)) (fits s)
r_fits s = r_iff (λ (a, b). (a, omega arith)) (λ (a, b). (a, omega arith)) (r_and (r_le 1 (length s)) (r_lt (length s) 65537))

-- the job's parser reads what the bytes are
pub job_read : (job : List ℕ) (f : JobFile) → IsJob job f → (next : ℕ) × (read_whole_job (job_buffer job) 0 ≡ parsed f next)
job_read job f i =
    let (next, g, whole) = decode_reads job (job_numbers f) i.reads in
    (next, whole_complete (job_buffer job) 0 f next ((job_exact (job_buffer job)).complete 0 f next g i.in_range) whole)

module _ (tested : JobFile → ℕ) (job certificate : List ℕ) (counts : Counts) where
  read_both_lem : (r : Parsed Counts) → conclude r ≡ accepted counts → (next : ℕ) × (r ≡ parsed counts next)
  read_both_lem (parsed c next) e = let c_is : c ≡ counts = cc in (next, ap (λ x. parsed x next) c_is)
  read_both_lem (fault k p) e = let z : ◌≡◌ {A = ℕ} 0 1 = cc in absurd (omega arith)

  pub accepted_both : verdict_at tested job certificate ≡ accepted counts
      → T (fits job) × T (fits certificate) × ((next : ℕ) × (read_both tested job certificate ≡ parsed counts next))
  unfolding verdict_at
  accepted_both = by_fits (fits job) (fits certificate)
    where
      by_fits : (a b : Bool) → cond a (cond b (conclude (read_both tested job certificate)) (refused (refusal 2) 0)) (refused (refusal 1) 0) ≡ accepted counts
          → T a × T b × ((next : ℕ) × (read_both tested job certificate ≡ parsed counts next))
      by_fits true true e = (tt, tt, read_both_lem (read_both tested job certificate) e)
      by_fits true false e = let z : ◌≡◌ {A = ℕ} 0 1 = cc in absurd (omega arith)
      by_fits false b e = let z : ◌≡◌ {A = ℕ} 0 1 = cc in absurd (omega arith)

  both_sound : Between 1 65536 (length job) → Between 1 65536 (length certificate) → (last : ℕ) → read_both tested job certificate ≡ parsed counts last
      → ConditionsAt tested job certificate counts
  unfolding read_both read_certificate
  both_sound a b last =
      then (read_whole_job (job_buffer job) 0) _
      (λ f next h₁. then (read_members (certificate_buffer certificate) f.version f.job.variables f.states 0) _
      (λ members p₂ h₂. then (each (test_start _) members p₂) _
      (λ us p₃ h₃. then (each (read_cover (certificate_buffer certificate) (without_places members)) _ p₃) _
      (λ vs p₄ h₄. then (end (certificate_buffer certificate) p₄) _
      (λ u p₅ h₅ r.
      let ms : List Located = without_places members in
      let (h₀, whole) = whole_sound (job_buffer job) 0 f next h₁ in
      let (g₁, ok) = (job_exact (job_buffer job)).sound 0 f next h₀ in
      let (g₂, number, oks) = members_sound (certificate_buffer certificate) f.version f.job.variables f.states 0 members p₂ h₂ in
      let (avoid, p₃-is) = tests_sound f.version f.job.variables f.states _ members oks p₂ h₃ in
      let (cs, g₄, images, (hold, links_are)) = covers_sound (certificate_buffer certificate) f.job.variables ms (λ m i. (oks m i).shape) _
      (λ o i. (owed_range f ms ok (record { number = number; members = oks }) o i).facts) p₃ h₄ in
      let (whole', p₄-is) = end_sound (certificate_buffer certificate) p₄ h₅ in
      let due : counts ≡ counts_of f.job ms (sum vs) = cc in
      record {
        job_length = a;
        certificate_length = b;
        file = f;
        job_is = record { in_range = ok; reads = reads_decode job (job_numbers f) next g₁ whole };
        members = ms;
        members_range = record { number = number; members = oks };
        covers = cs;
        images = images;
        certificate_reads = reads_decode certificate (certificate_numbers f.version ms cs) p₄ (reads_append (rw p₃-is at g₂) g₄) whole';
        start = avoid;
        hold = hold;
        counts_due = due ∙ ap (counts_of f.job ms) links_are;
      })))))

  sound : verdict_at tested job certificate ≡ accepted counts → ConditionsAt tested job certificate counts
  sound v =
      let (t, t', (last, h)) = accepted_both v in
      both_sound ((r_fits job).holds t) ((r_fits certificate).holds t') last h

  module _ (c : ConditionsAt tested job certificate counts) where
    -- the parsers go through, whatever the places of the members
    answers : (members : List Member) → without_places members ≡ c.members → (p₁ p₂ p₄ : ℕ) → read_whole_job (job_buffer job) 0 ≡ parsed c.file p₁
        → read_members (certificate_buffer certificate) c.file.version c.file.job.variables c.file.states 0 ≡ parsed members p₂
        → Reads certificate p₂ (concat_map cover_numbers c.covers) p₄ → length certificate ≤ p₄ → read_both tested job certificate ≡ parsed counts p₄
    unfolding read_both read_certificate
    answers members same p₁ p₂ p₄ h₁ h₂ g whole =
        let s = certificate_buffer certificate in
        let f = c.file in
        let ms : List Located = without_places members in
        let oks : (m : Located) → m ∈ ms → LocatedInRange f.version f.job.variables f.states m = rw same c.members_range.members in
        let avoid : (m : Located) → m ∈ ms → m.state ≡ tested f → ¬ Satisfies empty m.shape = rw same c.start in
        let (us, h₃) = tests_complete f.version f.job.variables f.states (tested f) members oks p₂ avoid in
        let (ls, h₄, links_are) =
        covers_complete s f.job.variables c.members (λ m i. (c.members_range.members m i).shape) (owed f.job c.members)
        (λ o i. (owed_range f c.members c.job_is.in_range c.members_range o i).facts) c.covers p₂ p₄ g
        c.images c.hold in
        let due : counts_of f.job c.members (sum ls) ≡ counts = ap (counts_of f.job c.members) links_are ∙ sym c.counts_due in
        rw (h₁, h₂, h₃, same, h₄, end_complete s p₄ whole) (ap (λ x. parsed x p₄) due)

    complete : verdict_at tested job certificate ≡ accepted counts
    unfolding verdict_at
    complete =
        let (p₁, h₁) = job_read job c.file c.job_is in
        let (p₄, g, whole') = decode_reads certificate (certificate_numbers c.file.version c.members c.covers) c.certificate_reads in
        let (p₂, g₂, g₄) = reads_split (member_numbers c.file.version c.members) g in
        let (members, same, h₂) =
        members_complete (certificate_buffer certificate) c.file.version c.file.job.variables c.file.states 0 c.members p₂ g₂
        c.job_is.in_range.version c.members_range.number
        c.members_range.members in
        let h = answers members same p₁ p₂ p₄ h₁ h₂ g₄ whole' in
        cond_true (fits job) (cond (fits certificate) (conclude (read_both tested job certificate)) (refused (refusal 2) 0)) (refused (refusal 1) 0) ((r_fits job).tests c.job_length)
        ∙ cond_true (fits certificate) (conclude (read_both tested job certificate)) (refused (refusal 2) 0) ((r_fits certificate).tests c.certificate_length)
        ∙ ap conclude h

-- EXACT: the verdict is accepted with these counts if and only if every condition holds, wherever 8 is judged
pub exact_at : (tested : JobFile → ℕ) (job certificate : List ℕ) (counts : Counts) → (verdict_at tested job certificate ≡ accepted counts) ↔ ConditionsAt tested job certificate counts
exact_at tested job certificate counts = (sound tested job certificate counts, complete tested job certificate counts)

pub exact : (job certificate : List ℕ) (counts : Counts) → (verdict job certificate ≡ accepted counts) ↔ Conditions job certificate counts
exact = exact_at start_of
