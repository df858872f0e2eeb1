-- By the first number that is full, or the tally after the verdict where none is.
use mathlib.Core.Path.{◌≡◌, refl, ap, ◌∙◌}
use Prim.Native.Nat.{◌-◌}
use native.Mathlib.Omega.{arith}
use Rattle.std.proofs.Common.{Some}
use Rattle.tally.specs.Tally.{one_more}
use Rattle.tally.proofs.Taking.{one_more_lem, accepted_goes_in, refused_goes_in, full_verdicts, full_accepted, full_members, full_covers, full_count}
use Rattle.tally.proofs.Release.{same_tally}
use Rattle.format.specs.Parser.{reason_number}
use lib.ListN.{set}
use Rattle.tally.proofs.Tally.added.Goals as goal
use Rattle.verdict.specs.Verdict.{verdict_of, counts_told, reason_of}

pub returns-in_err-verdicts : goal.returns-in_err-verdicts
returns-in_err-verdicts c = c.from_residual.ensures ∙ full_verdicts (verdict_of c.args.v) c.args.self (omega (arith, c.in_err-verdicts.ensures))

pub returns-in_err-accepted-in-Ok : goal.returns-in_err-accepted-in-Ok
returns-in_err-accepted-in-Ok c =
    rw c.in-Ok.is (c.from_residual-in_err-accepted-in-Ok.ensures ∙ full_accepted c.args.self (counts_told c.in-Ok.counts) (omega arith) (omega arith))

pub returns-in_err-members-in-Ok : goal.returns-in_err-members-in-Ok
returns-in_err-members-in-Ok c =
    rw c.in-Ok.is
    (c.from_residual-in_err-members-in-Ok.ensures ∙ full_members c.args.self (counts_told c.in-Ok.counts) (omega arith) (omega arith) (omega arith))

pub returns-in_err-covers-in-Ok : goal.returns-in_err-covers-in-Ok
returns-in_err-covers-in-Ok c =
    rw c.in-Ok.is
    (c.from_residual-in_err-covers-in-Ok.ensures
    ∙ full_covers c.args.self (counts_told c.in-Ok.counts) (omega arith) (omega arith) (omega arith) (omega arith))

pub returns-in_ok-covers-in-Ok : goal.returns-in_ok-covers-in-Ok
returns-in_ok-covers-in-Ok c =
    rw c.in-Ok.is
    (ap Some (same_tally (omega arith) (omega arith) (omega arith) (omega arith) refl)
    ∙ accepted_goes_in c.args.self (counts_told c.in-Ok.counts)
    (record { one_verdict = omega arith; one_accepted = omega arith; its_members = omega arith; its_covers = omega arith }))

pub returns-in_err-refusals-in-Err : goal.returns-in_err-refusals-in-Err
returns-in_err-refusals-in-Err c =
    rw c.in-Err.is
    (c.from_residual-in_err-refusals-in-Err.ensures
    ∙ full_count c.args.self (reason_of c.in-Err.r.refusal) c.in-Err.r.place (omega arith) (rw (← c.refusal_number.ensures) (omega arith)))

pub returns-in_ok-refusals-in-Err : goal.returns-in_ok-refusals-in-Err
returns-in_ok-refusals-in-Err c =
    let t = c.args.self in
    let at = c.refusal_number.result - 1 in
    let more : set t.refusals at c.in_ok-refusals-in-Err.field-0 ≡ one_more (reason_number (reason_of c.in-Err.r.refusal) - 1) t.refusals =
    rw (c.in_ok-refusals-in-Err.ensures.1, ← c.refusal_number.ensures) (one_more_lem t.refusals at) in
    rw c.in-Err.is
    (ap Some (same_tally (omega arith) refl refl refl more)
    ∙ refused_goes_in t (reason_of c.in-Err.r.refusal) c.in-Err.r.place
    (record { one_verdict = omega arith; one_count = rw (← c.refusal_number.ensures) (omega arith) }))
