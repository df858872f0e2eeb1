-- By what was refused before, what stands at the place and the two limits: that refusal again, unreadable, out of range, or the number.
use Rattle.std.proofs.Common.{sym, arith}
use Rattle.format.specs.Parser.{job_buffer}
use Rattle.jobreader.proofs.OneNumber.{unread, outside, value}
use Rattle.jobreader.proofs.Reader.next.Goals as goal
use Rattle.jobreader.proofs.Reader.next.Goals.{then-n-low-via-then-n-low, then-n-low-via-else-n-low+then-limit-n}

pub returns-in_default-read_number-clause-number : goal.returns-in_default-read_number-clause-number
returns-in_default-read_number-clause-number c =
    let (refusal, place) = c.refuse.ensures.refusal in
    rw (c.in_default.is, refusal, place) (unread (job_buffer c.args.self.now.src.now) _ _ _ (sym c.in_default-read_number.ensures))

pub returns-then-n-low-clause-number : goal.returns-then-n-low-clause-number
returns-then-n-low-clause-number c =
    let (refusal, place) = c.refuse-then-n-low.ensures.refusal in
    rw (c.in_default.is, refusal, place) (outside (job_buffer c.args.self.now.src.now) _ _ _ (sym c.in-Ok.ensures)
    (λ (l, h). elim c.then-n-low.branch [
      | then-n-low-via-then-n-low w ↦ omega arith
      | then-n-low-via-else-n-low+then-limit-n w ↦ omega arith
    ]))

pub returns-clause-number : goal.returns-clause-number
returns-clause-number c = rw c.in_default.is (value (job_buffer c.args.self.now.src.now) _ _ _ (sym c.in-Ok.ensures) (omega arith) (omega arith))
