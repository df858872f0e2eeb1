-- The loop reads the members one after the other, and has put down the place of each before it reads it. Where none was seen that may be refused,
-- all that were read pass the test (`Passing`).
use Rattle.std.proofs.Common.{◌∙◌, ap, sym, arith}
use Rattle.format.specs.Certificate.{read_member}
use Rattle.format.specs.Parser.{many, certificate_buffer}
use Rattle.layout.specs.Entries.{version_of}
use Rattle.reader.specs.Number.{without_value}
use Rattle.reader.proofs.Answers.{handed}
use Rattle.reader.proofs.Many.{remembered, left_lost, left_all}
use Rattle.reader.proofs.MemberPlaces.{as_entry, note_more, note_last, note_all}
use Rattle.reader.proofs.Testing.{pass_more, pass_all, read_lost}
use Rattle.reader.proofs.read_entries.Goals as goal
use Rattle.reader.proofs.read_entries.Goals.{then-may_refuse, else-may_refuse}

pub returns-in_err-next : goal.returns-in_err-next
returns-in_err-next c =
    let a = c.args in
    let l = c.loop-i in
    let refused = sym (as_entry a.cert.now a.variables a.states l.at) ∙ sym c.in_err-next.ensures in
    record {
      answer = handed _ _ c.from_residual.ensures.1
          (read_lost a.cert.now a.variables a.states a.start a.first a.count _ _ (left_lost (read_member (certificate_buffer a.cert.now) (version_of a.cert.now) a.variables a.states) a.count a.first l.at l.i l.invariant.0.left _ _ (omega arith) refused));
      starts = note_last (read_member (certificate_buffer a.cert.now) (version_of a.cert.now) a.variables a.states) a.count a.first a.starts.now l.starts l.at l.i l.invariant.0 (omega arith) (omega arith) _ _ refused;
    }

pub loop-i-preserved : goal.loop-i-preserved
loop-i-preserved c =
    let a = c.args in
    let l = c.loop-i in
    let (m, g) = remembered _ _ (sym c.in_ok-next.ensures) in (
      note_more (read_member (certificate_buffer a.cert.now) (version_of a.cert.now) a.variables a.states) a.count a.first a.starts.now l.starts l.at l.i l.invariant.0 (omega arith) (omega arith) _
          (sym (as_entry a.cert.now a.variables a.states l.at) ∙ ap without_value g),
      λ z. elim c.if-may_refuse.branch [
        | then-may_refuse w ↦ let y = w.seen-is in absurd cc
        | else-may_refuse w ↦
            pass_more a.cert.now a.variables a.states a.start a.first a.count l.at l.i (l.invariant.1 (sym w.seen-is ∙ z)) m _ (omega arith) g
            (c.may_refuse.ensures a.states m _ g w.if-may_refuse.false)
      ],
    )

pub test_members-requires : goal.test_members-requires
test_members-requires c =
    let a = c.args in
    let l = c.loop-i in
    let (ms, g) = remembered (many a.count (read_member (certificate_buffer a.cert.now) (version_of a.cert.now) a.variables a.states) a.first) _ (sym (left_all (read_member (certificate_buffer a.cert.now) (version_of a.cert.now) a.variables a.states) a.count a.first l.at l.i l.invariant.0.left (omega arith))) in
    (ms, _, g)

pub returns-then-seen : goal.returns-then-seen
returns-then-seen c =
    let a = c.args in
    let l = c.loop-i in
    record {
      answer = c.test_members.ensures;
      starts = note_all (read_member (certificate_buffer a.cert.now) (version_of a.cert.now) a.variables a.states) a.count a.first a.starts.now l.starts l.at l.i l.invariant.0 (omega arith) (omega arith);
    }

pub returns : goal.returns
returns c =
    let a = c.args in
    let l = c.loop-i in
    record {
      answer = pass_all a.cert.now a.variables a.states a.start a.first a.count l.at l.i (l.invariant.1 c.if-seen.false) (omega arith);
      starts = note_all (read_member (certificate_buffer a.cert.now) (version_of a.cert.now) a.variables a.states) a.count a.first a.starts.now l.starts l.at l.i l.invariant.0 (omega arith) (omega arith);
    }
