-- Number after number as the parser of a transition reads them, by the columns of the table of kinds; each refusal is the parser's.
use Rattle.std.proofs.Common.{◌∙◌, ap, sym, arith}
use Rattle.layout.specs.Entries.{version_of}
use Rattle.kinds.proofs.Rows.{most_bound}
use Rattle.reader.specs.Number.{buffer_in, without_value}
use Rattle.reader.proofs.Answers.{handed}
use Rattle.reader.proofs.Transitions.{lost_from, lost_kind, lost_a, lost_b, to_last}
use Rattle.reader.proofs.Source.transition.Goals as goal

pub returns-in_err-from : goal.returns-in_err-from
returns-in_err-from c =
    handed _ _ c.from_residual.ensures.1
    (lost_from (version_of c.args.self.now.bytes.now) (buffer_in c.args.self.now) c.args.variables c.args.states c.args.first (sym c.in_err-from.ensures))

pub returns-in_err-kind : goal.returns-in_err-kind
returns-in_err-kind c =
    handed _ _ c.from_residual-in_err-kind.ensures.1
    (lost_kind (version_of c.args.self.now.bytes.now) (buffer_in c.args.self.now) c.args.variables c.args.states c.args.first (sym c.in_ok-from.ensures) (rw c.last_kind.ensures at (sym c.in_err-kind.ensures)))

pub returns-in_err-a : goal.returns-in_err-a
returns-in_err-a c =
    handed _ _ c.from_residual-in_err-a.ensures.1
    (lost_a (version_of c.args.self.now.bytes.now) (buffer_in c.args.self.now) c.args.variables c.args.states c.args.first (sym c.in_ok-from.ensures) (rw c.last_kind.ensures at (sym c.in_ok-kind.ensures)) (rw c.least_a-least.ensures at (sym c.in_err-a.ensures)))

pub overflow_add-most : goal.overflow_add-most
overflow_add-most c = omega (arith, c.most_b-most.ensures, most_bound c.in_ok-kind.kind.value c.args.variables)

pub returns-in_err-b : goal.returns-in_err-b
returns-in_err-b c =
    handed _ _ c.from_residual-in_err-b.ensures.1
    (lost_b (version_of c.args.self.now.bytes.now) (buffer_in c.args.self.now) c.args.variables c.args.states c.args.first (sym c.in_ok-from.ensures) (rw c.last_kind.ensures at (sym c.in_ok-kind.ensures))
    (rw c.least_a-least.ensures at (sym c.in_ok-a.ensures)) (rw (c.least_b-least.ensures, c.most_b-most.ensures) at (sym c.in_err-b.ensures)))

pub returns-in_err-to : goal.returns-in_err-to
returns-in_err-to c =
    handed _ _ c.from_residual-in_err-to.ensures.1
    (ap without_value c.in_err-to.ensures ∙ to_last (version_of c.args.self.now.bytes.now) (buffer_in c.args.self.now) c.args.variables c.args.states c.args.first (sym c.in_ok-from.ensures) (rw c.last_kind.ensures at (sym c.in_ok-kind.ensures))
    (rw c.least_a-least.ensures at (sym c.in_ok-a.ensures)) (rw (c.least_b-least.ensures, c.most_b-most.ensures) at (sym c.in_ok-b.ensures)))

pub returns : goal.returns
returns c =
    ap without_value c.in_ok-to.ensures
    ∙ to_last (version_of c.args.self.now.bytes.now) (buffer_in c.args.self.now) c.args.variables c.args.states c.args.first (sym c.in_ok-from.ensures) (rw c.last_kind.ensures at (sym c.in_ok-kind.ensures))
    (rw c.least_a-least.ensures at (sym c.in_ok-a.ensures)) (rw (c.least_b-least.ensures, c.most_b-most.ensures) at (sym c.in_ok-b.ensures))
