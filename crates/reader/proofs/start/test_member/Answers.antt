-- Refused at the start state where its bytes say that the empty heap satisfies it; else the facts are gone over, for the place after them.
use Rattle.std.proofs.Common.{◌≤◌, length, sym, ◌∙◌, arith}
use Rattle.reader.proofs.Testing.{state_read, stand, other_state, not_empty, satisfied}
use Rattle.reader.proofs.start.test_member.Goals as goal
use Rattle.reader.proofs.start.test_member.Goals.{else-state-start-via-then-state-start+else-empty_at, else-state-start-via-else-state-start}

pub returns-in_err-state : goal.returns-in_err-state
returns-in_err-state c = λ l next h.
    let e = rw c.certificate-source.ensures.buffer at c.in_err-state.ensures in
    absurd (state_read c.args.cert.now c.args.variables c.args.states c.args.start c.args.at l next h (sym e))

pub empty_at-requires : goal.empty_at-requires
empty_at-requires c =
    let e = rw c.certificate-source.ensures.buffer at c.in_ok-state.ensures in
    let (_, w) = stand c.args.cert.now c.args.variables c.args.states c.args.start c.args.at c.requires.0 c.requires.1 c.requires.2 c.in_ok-state.state.value c.in_ok-state.state.next (sym e) in
    omega (arith, w.links_inside_lem)

pub returns-then-empty_at : goal.returns-then-empty_at
returns-then-empty_at c = λ l next h.
    let e = rw c.certificate-source.ensures.buffer at c.in_ok-state.ensures in
    let (state_is, w) = stand c.args.cert.now c.args.variables c.args.states c.args.start c.args.at l next h c.in_ok-state.state.value c.in_ok-state.state.next (sym e) in
    satisfied c.args.cert.now c.args.variables c.args.states c.args.start c.args.at l next h _ w (state_is ∙ c.if-state-start.true) (sym c.empty_at.ensures ∙ c.if-empty_at.true)

pub bounds-cert-n_at : goal.bounds-cert-n_at
bounds-cert-n_at c =
    let e = rw c.certificate-source.ensures.buffer at c.in_ok-state.ensures in
    let (_, w) = stand c.args.cert.now c.args.variables c.args.states c.args.start c.args.at c.requires.0 c.requires.1 c.requires.2 c.in_ok-state.state.value c.in_ok-state.state.next (sym e) in
    omega (arith, w.some, w.links_inside_lem)

pub overflow_add-n_at : goal.overflow_add-n_at
overflow_add-n_at c =
    let e = rw c.certificate-source.ensures.buffer at c.in_ok-state.ensures in
    let (_, w) = stand c.args.cert.now c.args.variables c.args.states c.args.start c.args.at c.requires.0 c.requires.1 c.requires.2 c.in_ok-state.state.value c.in_ok-state.state.next (sym e) in
    omega (arith, w.some, w.links_inside_lem)

pub overflow_add-n_at-2 : goal.overflow_add-n_at-2
overflow_add-n_at-2 c =
    let e = rw c.certificate-source.ensures.buffer at c.in_ok-state.ensures in
    let (_, w) = stand c.args.cert.now c.args.variables c.args.states c.args.start c.args.at c.requires.0 c.requires.1 c.requires.2 c.in_ok-state.state.value c.in_ok-state.state.next (sym e) in
    omega (arith, w.some, w.links_inside_lem)

pub overflow_add-n_at-3 : goal.overflow_add-n_at-3
overflow_add-n_at-3 c =
    let e = rw c.certificate-source.ensures.buffer at c.in_ok-state.ensures in
    let (_, w) = stand c.args.cert.now c.args.variables c.args.states c.args.start c.args.at c.requires.0 c.requires.1 c.requires.2 c.in_ok-state.state.value c.in_ok-state.state.next (sym e) in
    omega (arith, w.some, w.links_inside_lem)

pub facts-requires : goal.facts-requires
facts-requires c =
    let e = rw c.certificate-source.ensures.buffer at c.in_ok-state.ensures in
    let (_, w) = stand c.args.cert.now c.args.variables c.args.states c.args.start c.args.at c.requires.0 c.requires.1 c.requires.2 c.in_ok-state.state.value c.in_ok-state.state.next (sym e) in
    let most : length c.requires.0.shape.links ≤ 12 = w.shape.cells in
    omega (arith, w.cells)

pub returns : goal.returns
returns c = λ l next h.
    let e = rw c.certificate-source.ensures.buffer at c.in_ok-state.ensures in
    let (state_is, w) = stand c.args.cert.now c.args.variables c.args.states c.args.start c.args.at l next h c.in_ok-state.state.value c.in_ok-state.state.next (sym e) in
    rw (c.certificate-source.ensures.buffer, c.certificate-source.ensures.bytes) at c.facts.ensures ∙ w.read_facts_lem
    ∙ elim c.else-state-start.branch [
      | else-state-start-via-then-state-start+else-empty_at b ↦
          not_empty c.args.cert.now c.args.variables c.args.states c.args.start c.args.at l next h _ w (state_is ∙ b.if-state-start.true) (sym b.empty_at.ensures ∙ b.if-empty_at.false)
      | else-state-start-via-else-state-start b ↦ other_state c.args.cert.now c.args.variables c.args.states c.args.start c.args.at l next h _ w (λ e. b.if-state-start.false (sym state_is ∙ e))
    ]
