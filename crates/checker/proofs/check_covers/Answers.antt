-- A cover refused, bytes left, or all covered: each is what reading the covers gives.
use native.Mathlib.Omega.{arith}
use mathlib.Core.Path.{sym}
use lib.ListN.{length-map}
use Rattle.std.proofs.lemmas.Result.{err_from_is_err_and}
use Rattle.layout.specs.Entries.{located_at, members_at}
use Rattle.layout.proofs.Entries.{entries_number}
use Rattle.checker.specs.Jobs.{file_in}
use Rattle.checker.proofs.Verdicts.{covers_refused, covers_left, covers_taken}
use Rattle.checker.proofs.check_covers.Goals as goal

pub check_owed-requires : goal.check_owed-requires
check_owed-requires c = c.requires

pub returns-in_err-t : goal.returns-in_err-t
returns-in_err-t c =
    let a = c.args in
    let p = err_from_is_err_and c.from_residual.result c.from_residual.ensures.1 in
    rw (p.1, p.2) (covers_refused a.cert.now (file_in a.job.now a.h).job (members_at a.cert.now a.h.variables a.starts.now) a.at _ c.check_owed.ensures _ c.in_err-t.was)

pub returns-then-t-cert : goal.returns-then-t-cert
returns-then-t-cert c =
    let a = c.args in
    covers_left a.cert.now (file_in a.job.now a.h).job (members_at a.cert.now a.h.variables a.starts.now) a.at _ c.check_owed.ensures c.in_ok-t.t c.in_ok-t.was (omega arith)

pub overflow_cast-result : goal.overflow_cast-result
overflow_cast-result c = omega (arith, c.requires.0.bads_number)

pub overflow_cast-result-2 : goal.overflow_cast-result-2
overflow_cast-result-2 c = omega (arith, c.requires.1.count_most)

pub returns : goal.returns
returns c =
    let a = c.args in
    covers_taken a.cert.now (file_in a.job.now a.h).job (members_at a.cert.now a.h.variables a.starts.now) a.at _ c.check_owed.ensures c.in_ok-t.t c.in_ok-t.was a.h.bads _ (omega arith)
    (sym (entries_number a.job.now a.h.variables a.h.bads_at a.h.bads)) (sym (length-map a.starts.now (located_at a.cert.now a.h.variables)))
