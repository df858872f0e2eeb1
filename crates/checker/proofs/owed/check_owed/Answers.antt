-- First the forbidden shapes, then the members.
use mathlib.Core.Path.{refl, ◌∙◌}
use native.Mathlib.Omega.{arith}
use Rattle.std.proofs.lemmas.Result.{err_from_is_err_and}
use Rattle.lists.specs.List.{concat_map}
use Rattle.format.specs.Certificate.{read_cover}
use Rattle.format.specs.Parser.{certificate_buffer}
use Rattle.layout.specs.Entries.{entries_at, members_at}
use Rattle.layout.specs.Members.{members_from}
use Rattle.checker.specs.Checking.{covers_of}
use Rattle.checker.specs.Jobs.{owed_by}
use Rattle.checker.proofs.Checking.{begin_two, at_start, advance, halt}
use Rattle.checker.proofs.Indexed.{linked_job}
use Rattle.checker.proofs.Members.{from_table}
use Rattle.checker.proofs.owed.check_owed.Goals as goal

-- there are at most 8 variables
pub returns-then-h-gt8 : goal.returns-then-h-gt8
returns-then-h-gt8 c = absurd (omega (arith, c.if-h-gt8.true, c.requires.1.variables_most))

-- and at least one
pub returns-then-h-eq0 : goal.returns-then-h-eq0
returns-then-h-eq0 c = absurd (omega (arith, c.if-h-eq0.true, c.requires.1.variables_some))

pub check_forbidden-requires : goal.check_forbidden-requires
check_forbidden-requires c = (c.requires.0.bads, c.requires.1.variables_most, at_start _ c.requires.2 c.requires.3)

pub returns-in_err-t : goal.returns-in_err-t
returns-in_err-t c =
    let a = c.args in
    let ms = members_from a.cert.now a.h.variables a.starts.now in
    let forbidden = entries_at a.job.now a.h.variables a.h.bads_at a.h.bads in
    let two = begin_two (read_cover (certificate_buffer a.cert.now) ms) forbidden (concat_map (owed_by a.job.now a.h) (members_at a.cert.now a.h.variables a.starts.now)) (at_start a.at c.requires.2 c.requires.3) in
    let p = err_from_is_err_and c.from_residual.result c.from_residual.ensures.1 in
    rw (p.1, p.2) (rw (from_table a.cert.now a.h.variables a.starts.now c.requires.1) at (halt (covers_of a.cert.now ms forbidden) _ two c.check_forbidden.ensures c.in_err-t.was).0)

pub check_members-requires : goal.check_members-requires
check_members-requires c = (c.requires.0, rw c.index_transitions.ensures (linked_job c.requires.0 _ refl), c.requires.1, c.in_ok-t.ensures.1)

pub returns : goal.returns
returns c =
    let a = c.args in
    let ms = members_from a.cert.now a.h.variables a.starts.now in
    let forbidden = entries_at a.job.now a.h.variables a.h.bads_at a.h.bads in
    let two = begin_two (read_cover (certificate_buffer a.cert.now) ms) forbidden (concat_map (owed_by a.job.now a.h) (members_at a.cert.now a.h.variables a.starts.now)) (at_start a.at c.requires.2 c.requires.3) in
    rw (from_table a.cert.now a.h.variables a.starts.now c.requires.1) at
    (c.check_members.ensures.0 ∙ (advance (covers_of a.cert.now ms forbidden) _ two c.check_forbidden.ensures c.in_ok-t.was).left)
