-- What is kept of a pair: the job's header, and the members' places.
use mathlib.Core.Bool.{true, false}
use mathlib.Core.List.{List}
use mathlib.Core.Path.{◌≡◌, refl, sym, subst, ◌∙◌}
use Prim.Native.Nat.{ℕ, ◌≤◌}
use native.Mathlib.Omega.{arith}
use lib.ListN.{length, take, length-map}
use lib.Seq.{length-take-le}
use Rattle.format.specs.Job.{read_whole_job}
use Rattle.format.specs.Parser.{Reason, fault, job_buffer}
use Rattle.format.specs.Verdict.{Counts, accepted, conclude, fits}
use Rattle.layout.specs.Entries.{version_of, located_at, members_at}
use Rattle.reader.specs.Job.{JobRead}
use Rattle.reader.specs.Members.{MembersRead}
use Rattle.reader.specs.declared.Header.{Header}
use Rattle.run.specs.Run.{Job}
use Rattle.checker.specs.Jobs.{file_in, read_covers}
use Rattle.checker.specs.Pairs.{MembersKept, placed, places_after}
use Rattle.checker.proofs.Verdicts.{file_is, members_counted}

-- the members read are those counted
pub members_kept : (job cert : List ℕ) (h : Header) (j : Job) (tested version count next : ℕ) (table : List ℕ) (c : Counts) → version ≡ version_of job
    → MembersRead cert version h.variables h.states tested table count next
    → accepted c ≡ conclude (read_covers cert j (members_at cert h.variables (take count table)) next) → MembersKept job cert h tested c.members table
members_kept job cert h j tested version count next table c version_is m e =
    let room : count ≤ length table = omega (arith, m.size, m.number_range.1) in
    let counted : c.members ≡ count =
    members_counted cert j (members_at cert h.variables (take count table)) next c e
    ∙ length-map (take count table) (located_at cert h.variables) ∙ length-take-le count table room in (
      next,
      subst (λ (n : ℕ). MembersRead cert (version_of job) h.variables h.states tested table n next) (sym counted)
          (subst (λ (v : ℕ). MembersRead cert v h.variables h.states tested table count next) version_is m),
    )

-- the table afterwards
module _ (job cert table : List ℕ) where
  pub places_job_length : fits job ≡ false → table ≡ places_after job cert table
  unfolding places_after
  places_job_length e = rw e refl

  module _ (job_fits : fits job ≡ true) where
    pub places_length : fits cert ≡ false → table ≡ places_after job cert table
    unfolding places_after
    places_length e = rw (job_fits, e) refl

    module _ (cert_fits : fits cert ≡ true) where
      pub places_refused : (why : Reason) (place : ℕ) → read_whole_job (job_buffer job) 0 ≡ fault why place → table ≡ places_after job cert table
      unfolding places_after
      places_refused why place e = rw (job_fits, cert_fits, e) refl

      pub places_read : (h : Header) → JobRead job h → placed cert (file_in job h) table ≡ places_after job cert table
      unfolding places_after
      places_read h d = rw (job_fits, cert_fits, d.read, file_is job h d) refl
