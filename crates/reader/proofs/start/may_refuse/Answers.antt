-- A state of one byte is the member's, so that its bytes decide.
use Rattle.std.proofs.Common.{◌+◌, ◌∙◌, sym, arith}
use Rattle.reader.proofs.Testing.{first_inside, stand_byte, other_state, not_empty}
use Rattle.reader.proofs.start.may_refuse.Goals as goal

pub bounds-cert-at : goal.bounds-cert-at
bounds-cert-at c = first_inside c.args.cert.now c.args.variables c.requires.0 c.args.start c.args.at c.requires.1 c.requires.2 c.requires.3

pub returns-then-state-start : goal.returns-then-state-start
returns-then-state-start c = λ states l next h z.
    let a = c.args in
    let (state_is, w) = stand_byte a.cert.now a.variables states a.start a.at l next h (omega arith) in
    other_state a.cert.now a.variables states a.start a.at l next h (a.at + 1) w (λ e. c.if-state-start.true (sym state_is ∙ e))

pub overflow_add-at : goal.overflow_add-at
overflow_add-at c =
    let inside = first_inside c.args.cert.now c.args.variables c.requires.0 c.args.start c.args.at c.requires.1 c.requires.2 c.requires.3 in
    omega arith

pub empty_at-requires : goal.empty_at-requires
empty_at-requires c =
    let (_, w) = stand_byte c.args.cert.now c.args.variables c.requires.0 c.args.start c.args.at c.requires.1 c.requires.2 c.requires.3 (omega arith) in
    omega (arith, w.links_inside_lem)

pub returns : goal.returns
returns c = λ states l next h z.
    let a = c.args in
    let (state_is, w) = stand_byte a.cert.now a.variables states a.start a.at l next h (omega arith) in
    not_empty a.cert.now a.variables states a.start a.at l next h (a.at + 1) w (state_is ∙ c.if-state-start.false) (sym c.empty_at.ensures ∙ z)
