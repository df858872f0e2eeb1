-- The loop along the index: the covers for the transitions into the member's state so far are checked.
use mathlib.Core.Bool.{true, false}
use mathlib.Core.List.{List, map}
use mathlib.Core.Path.{◌≡◌, refl, sym, ◌∙◌, subst}
use Prim.Native.Nat.{ℕ, ◌+◌, ◌-◌, ◌*◌, ◌≤◌, ◌<◌}
use native.Mathlib.Omega.{arith}
use lib.ListN.{get_or}
use mir.Syntax.{w64}
use mir.Val.{Fits}
use borrow.Author.Tests.{le-leb}
use Rattle.std.proofs.lemmas.Result.{err_from_is_err_and}
use Rattle.shape.specs.Shape.{Shape}
use Rattle.run.specs.Run.{Located}
use Rattle.heap.specs.Operation.{kind_of}
use Rattle.backward.specs.Predecessors.{before as predecessorsBefore}
use Rattle.factrows.specs.Rows.{is_consistent}
use Rattle.layout.specs.Entries.{located_at}
use Rattle.layout.specs.Members.{members_from}
use Rattle.layout.specs.Transitions.{op_of}
use Rattle.layout.proofs.Loaded.{loaded}
use Rattle.transitions.specs.Transitions.{transition_from}
use Rattle.transitions.specs.declared.Transition.{Transition}
use Rattle.transitions.proofs.Bytes.{bytes_all, named_some}
use Rattle.transitions.proofs.Linked.{linked_head}
use Rattle.reader.specs.Transitions.{transitions_in}
use Rattle.checker.specs.Checking.{located, Checked, ChecksAll}
use Rattle.checker.specs.Jobs.{transition_in, to_state}
use Rattle.checker.specs.declared.checked.Position.{Position}
use Rattle.checker.proofs.Chain.{Chain, chain_begin, chain_end, chain_below, chain_halt, chain_more, chain_less}
use Rattle.checker.proofs.Entry.{whole, entry_settled, entry_checked, entry_none, nothing_owed}
use Rattle.checker.proofs.Into.{before}
use Rattle.checker.proofs.Rowed.{loaded_none, checks_none}
use Rattle.checker.proofs.owed.check_member.Goals as goal

-- ---- the state of the member

pub overflow_cast-at : goal.overflow_cast-at
overflow_cast-at c = omega (arith, (c.requires.2.entry c.args.m c.requires.3).inside)

pub bounds-cert-at : goal.bounds-cert-at
bounds-cert-at c = omega (arith, (c.requires.2.entry c.args.m c.requires.3).inside)

pub overflow_cast-k : goal.overflow_cast-k
overflow_cast-k c = omega (arith, (c.requires.2.entry c.args.m c.requires.3).state)

pub offset_bounds-index-cert : goal.offset_bounds-index-cert
offset_bounds-index-cert c = omega (arith, (c.requires.2.entry c.args.m c.requires.3).state)

pub bounds-index-cert : goal.bounds-index-cert
bounds-index-cert c = omega (arith, (c.requires.2.entry c.args.m c.requires.3).state)

-- no transition leads into its state
pub returns-then-k-eq0 : goal.returns-then-k-eq0
returns-then-k-eq0 c =
    let a = c.args in
    let member : Located = located_at a.cert.now a.h.variables (get_or a.starts.now a.m 0) in
    let linked : Chain a.job.now a.h a.cert.now (members_from a.cert.now a.h.variables a.starts.now) member a.from (get_or a.index.now member.state 0) a.from =
    chain_begin (linked_head (to_state a.job.now a.h) a.h.transitions a.index.now c.requires.1 member.state (c.requires.2.entry a.m c.requires.3).state) c.requires.4 in
    chain_end linked (omega arith)

pub settle_facts-requires : goal.settle_facts-requires
settle_facts-requires c = refl

-- a cell is below itself: nothing is owed
pub returns-then-not-settle_facts : goal.returns-then-not-settle_facts
returns-then-not-settle_facts c =
    let a = c.args in
    let first : ℕ = get_or a.starts.now a.m 0 in
    let entry = c.requires.2.entry a.m c.requires.3 in
    let f = c.settle_facts in
    let fails : is_consistent f.new.facts ≡ false = rw f.ensures.facts (sym f.ensures.is ∙ c.if-not-settle_facts.true) in
    rw (nothing_owed (located_at a.cert.now a.h.variables first) (entry_none a.cert.now a.h.variables first entry c.requires.2.variables_most _ _ c.load_shape.ensures f.ensures.facts fails) (transitions_in a.job.now a.h))
    (checks_none a.cert.now (members_from a.cert.now a.h.variables a.starts.now) 0 a.from c.requires.4)

-- ---- the loop

pub loop-k-init : goal.loop-k-init
loop-k-init c =
    let a = c.args in
    let member : Located = located_at a.cert.now a.h.variables (get_or a.starts.now a.m 0) in
    chain_begin (linked_head (to_state a.job.now a.h) a.h.transitions a.index.now c.requires.1 member.state (c.requires.2.entry a.m c.requires.3).state) c.requires.4

pub check_transition-requires : goal.check_transition-requires
check_transition-requires c =
    let a = c.args in
    let first : ℕ = get_or a.starts.now a.m 0 in
    let entry = c.requires.2.entry a.m c.requires.3 in
    let most = c.requires.2.variables_most in
    let f = c.settle_facts in
    let here = loaded a.cert.now a.h.variables first _ entry most c.load_shape.ensures in
    let consistent : is_consistent f.new.facts ≡ true = rw f.ensures.facts (sym f.ensures.is ∙ c.if-not-settle_facts.false) in
    let there = c.requires.0.transitions (c.loop-k.k - 1) (chain_below c.loop-k.invariant c.loop-k-test.true) in
    let bytes : c.transition_named-by.result ≡ transition_from a.job.now (a.h.transitions_at + 5 * (c.loop-k.k - 1)) =
    c.transition_named-by.ensures ∙ named_some a.job.now a.h.transitions_at c.loop-k.k c.loop-k-test.true
    ∙ bytes_all a.job.now (a.h.transitions_at + 5 * (c.loop-k.k - 1)) (le-leb _ _ there.inside) in (
      rw bytes there.operands,
      c.requires.0.variables.1,
      here.array,
      here.cells,
      (λ n. f.ensures.facts ∙ loaded_none a.cert.now a.h.variables first n),
      c.loop-k.invariant.progress.within,
      (
        whole a.cert.now a.h.variables first entry most _ _ c.load_shape.ensures f.ensures.facts,
        entry_settled a.cert.now a.h.variables first entry most _ _ c.load_shape.ensures f.ensures.facts consistent,
      ),
    )

pub returns-in_err-t : goal.returns-in_err-t
returns-in_err-t c =
    let a = c.args in
    let first : ℕ = get_or a.starts.now a.m 0 in
    let ms = members_from a.cert.now a.h.variables a.starts.now in
    let entry = c.requires.2.entry a.m c.requires.3 in
    let f = c.settle_facts in
    let consistent : is_consistent f.new.facts ≡ true = rw f.ensures.facts (sym f.ensures.is ∙ c.if-not-settle_facts.false) in
    let by = transition_in a.job.now a.h (c.loop-k.k - 1) in
    let there = c.requires.0.transitions (c.loop-k.k - 1) (chain_below c.loop-k.invariant c.loop-k-test.true) in
    let bytes : c.transition_named-by.result ≡ transition_from a.job.now (a.h.transitions_at + 5 * (c.loop-k.k - 1)) =
    c.transition_named-by.ensures ∙ named_some a.job.now a.h.transitions_at c.loop-k.k c.loop-k-test.true
    ∙ bytes_all a.job.now (a.h.transitions_at + 5 * (c.loop-k.k - 1)) (le-leb _ _ there.inside) in
    let taken : ChecksAll a.cert.now ms (before (located_at a.cert.now a.h.variables first) by) c.loop-k.t c.check_transition.result =
    entry_checked a.cert.now a.h.variables first entry c.requires.2.variables_most _ _ c.load_shape.ensures f.ensures.facts consistent ms by.from by.op c.loop-k.t c.check_transition.result
    (rw bytes at c.check_transition.ensures) in
    let p = err_from_is_err_and c.from_residual.result c.from_residual.ensures.1 in
    rw (p.1, p.2) (chain_halt c.loop-k.invariant c.loop-k-test.true taken c.in_err-t.was)

-- there are few transitions, so that a slot of the index fits
pub overflow_cast-k-in-loop-k : goal.overflow_cast-k-in-loop-k
overflow_cast-k-in-loop-k c = omega (arith, chain_below c.loop-k.invariant c.loop-k-test.true, c.requires.0.transitions_number)

pub overflow_add-k : goal.overflow_add-k
overflow_add-k c = omega (arith, chain_below c.loop-k.invariant c.loop-k-test.true, c.requires.0.transitions_number)

pub offset_bounds-index-k : goal.offset_bounds-index-k
offset_bounds-index-k c = omega (arith, chain_below c.loop-k.invariant c.loop-k-test.true, c.requires.0.transitions_number)

pub bounds-index-k : goal.bounds-index-k
bounds-index-k c = omega (arith, chain_below c.loop-k.invariant c.loop-k-test.true, c.requires.0.transitions_number)

pub loop-k-smaller : goal.loop-k-smaller
loop-k-smaller c = chain_less c.loop-k.invariant c.loop-k-test.true c.args.index.now c.requires.1.next

pub loop-k-preserved : goal.loop-k-preserved
loop-k-preserved c =
    let a = c.args in
    let first : ℕ = get_or a.starts.now a.m 0 in
    let ms = members_from a.cert.now a.h.variables a.starts.now in
    let entry = c.requires.2.entry a.m c.requires.3 in
    let f = c.settle_facts in
    let consistent : is_consistent f.new.facts ≡ true = rw f.ensures.facts (sym f.ensures.is ∙ c.if-not-settle_facts.false) in
    let by = transition_in a.job.now a.h (c.loop-k.k - 1) in
    let there = c.requires.0.transitions (c.loop-k.k - 1) (chain_below c.loop-k.invariant c.loop-k-test.true) in
    let bytes : c.transition_named-by.result ≡ transition_from a.job.now (a.h.transitions_at + 5 * (c.loop-k.k - 1)) =
    c.transition_named-by.ensures ∙ named_some a.job.now a.h.transitions_at c.loop-k.k c.loop-k-test.true
    ∙ bytes_all a.job.now (a.h.transitions_at + 5 * (c.loop-k.k - 1)) (le-leb _ _ there.inside) in
    let taken : ChecksAll a.cert.now ms (before (located_at a.cert.now a.h.variables first) by) c.loop-k.t c.check_transition.result =
    entry_checked a.cert.now a.h.variables first entry c.requires.2.variables_most _ _ c.load_shape.ensures f.ensures.facts consistent ms by.from by.op c.loop-k.t c.check_transition.result
    (rw bytes at c.check_transition.ensures) in
    chain_more c.loop-k.invariant c.loop-k-test.true taken c.args.index.now c.requires.1.next c.in_ok-t.was

pub returns : goal.returns
returns c = chain_end c.loop-k.invariant c.loop-k-test.false
