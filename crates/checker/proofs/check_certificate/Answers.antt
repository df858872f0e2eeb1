-- Members that are refused give the verdict; else the covers do, for the members at the table's places.
use mathlib.Core.Path.{◌≡◌, ap, ◌∙◌, sym, subst}
use Prim.Native.Nat.{ℕ}
use native.Mathlib.Omega.{arith}
use lib.Seq.{length-take-le}
use Rattle.std.specs.Prelude.{Result, Ok, Err, IfOk}
use Rattle.std.proofs.lemmas.Result.{err_from_is_err_and}
use Rattle.format.specs.Parser.{parsed, certificate_buffer}
use Rattle.format.specs.Verdict.{Verdict, conclude}
use Rattle.reader.specs.Members.{member_places, with_places, read_tested}
use Rattle.verdict.specs.declared.Counts.{Counts}
use Rattle.verdict.specs.declared.Refused.{Refused}
use Rattle.verdict.specs.Verdict.{counts_told}
use Rattle.checker.specs.Jobs.{file_in, read_covers}
use Rattle.verdict.specs.Verdict.{verdict_of}
use Rattle.checker.proofs.Pairs.{members_kept}
use Rattle.checker.proofs.Verdicts.{bounds, certificate_refused, certificate_members}
use Rattle.checker.proofs.check_certificate.Goals as goal

-- what follows of counts, where there are some
of_counts : (r : Result Counts Refused) (v : Verdict) (P : Counts → Type 0) → verdict_of r ≡ v → ((k : Counts) → verdict_of (Ok k) ≡ v → P k) → IfOk r P
of_counts (Ok k) v P e f = f k e
of_counts (Err r) v P e f = tt

pub slice_bounds-check_covers-end : goal.slice_bounds-check_covers-end
slice_bounds-check_covers-end c =
    let m = c.in_ok-members.ensures.answer in
    sym (length-take-le _ _ (omega (arith, m.size, m.number_range.1)))

pub check_covers-requires : goal.check_covers-requires
check_covers-requires c =
    let a = c.args in
    let m = c.in_ok-members.ensures.answer in
    (c.requires.0, m.table_is (bounds a.job.now a.cert.now a.h c.requires.0 c.requires.1), m.inside, c.requires.1)

pub returns-in_err-members : goal.returns-in_err-members
returns-in_err-members c =
    let a = c.args in
    let version = c.version_of-version.ensures in
    let p = err_from_is_err_and c.from_residual.result c.from_residual.ensures.1 in
    rw (p.1, p.2)
    (record {
      verdict = certificate_refused a.cert.now (file_in a.job.now a.h) a.tested _ _ (rw version at c.in_err-members.ensures.answer);
      kept = tt;
      starts = c.in_err-members.ensures.starts
          ∙ ap (λ (v : ℕ). with_places (member_places (certificate_buffer a.cert.now) v a.h.variables a.h.states) a.starts.now) version;
    })

pub returns : goal.returns
returns c =
    let a = c.args in
    let f = file_in a.job.now a.h in
    let version = c.version_of-version.ensures in
    let m = c.in_ok-members.ensures.answer in
    let next = c.in_ok-members.members.end in
    record {
      verdict = c.check_covers.ensures
          ∙ ap conclude (ap (λ ms. read_covers a.cert.now f.job ms next) (sym (m.members_are (bounds a.job.now a.cert.now a.h c.requires.0 c.requires.1)))
          ∙ certificate_members a.cert.now f a.tested m.members next
          (subst (λ (w : ℕ). read_tested (certificate_buffer a.cert.now) w a.h.variables a.h.states a.tested 0 ≡ parsed m.members next) version m.read));
      kept = of_counts c.check_covers.result _ _ c.check_covers.ensures (λ k e. members_kept a.job.now a.cert.now a.h f.job a.tested _ _ next _ (counts_told k) version m e);
      starts = c.in_ok-members.ensures.starts
          ∙ ap (λ (v : ℕ). with_places (member_places (certificate_buffer a.cert.now) v a.h.variables a.h.states) a.starts.now) version;
    }
