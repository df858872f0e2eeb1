-- The loop: the covers of the cases before this one are checked.
use mathlib.Core.Bool.{Bool, true, cond}
use mathlib.Core.List.{List}
use mathlib.Core.Path.{◌≡◌, ◌∙◌, sym}
use Prim.Native.Nat.{ℕ}
use native.Mathlib.Omega.{arith}
use Rattle.std.proofs.lemmas.Result.{err_from_is_err_and}
use Rattle.layout.specs.Members.{members_from}
use Rattle.placing.proofs.Ranges.{covers_stretch}
use Rattle.shapes.specs.Change.{is_before}
use Rattle.undoing.specs.Before.{before_rowed}
use Rattle.checker.specs.Checking.{Checks}
use Rattle.checker.proofs.ChoiceLoop.{loop_none, loop_past, loop_more, loop_stop, loop_all}
use Rattle.checker.proofs.Rowed.{case_none, case_new, case_one, cases_all}
use Rattle.checker.proofs.removal.check_cases.Goals as goal
use Rattle.checker.proofs.removal.check_cases.Goals.{then-undo_case+then-undo_rows+in_ok-t, then-undo_case+else-undo_rows, else-undo_case}

-- what a test that holds chooses
chosen : {b : Bool} (x y : List ℕ) {z : List ℕ} → b ≡ true → z ≡ cond b x y → z ≡ x
chosen x y t e = rw t at e

pub loop-case-init : goal.loop-case-init
loop-case-init c = loop_none (covers_stretch _ _ _) c.requires.7

pub undo_rows-requires : goal.undo_rows-requires
undo_rows-requires c = c.requires.6

pub check_cover-requires : goal.check_cover-requires
check_cover-requires c = c.loop-case.invariant.progress.within

pub returns-in_err-t : goal.returns-in_err-t
returns-in_err-t c =
    let a = c.args in
    let whole = cases_all a.variables a.by.kind a.by.a a.s.now a.facts.now _ _ c.prepare_cases-cases.ensures.cases c.prepare_cases-cases.ensures.shape in
    let before : is_before a.variables a.by.kind c.prepare_cases-cases.new.s c.loop-case.case ≡ true = sym c.undo_case.ensures.is ∙ c.if-undo_case.true in
    let taken : Checks a.cert.now (members_from a.cert.now a.variables a.starts.now) a.by.from (before_rowed a.variables a.by.kind c.prepare_cases-cases.result.end c.prepare_cases-cases.new.s a.facts.now c.loop-case.case) c.loop-case.t c.check_cover.result =
    rw (case_one a.variables a.by.kind _ _ a.facts.now c.loop-case.case before (sym c.undo_rows.ensures.is ∙ c.if-undo_rows.true) _ _
    (chosen _ _ c.if-undo_case.true c.undo_case.ensures.shape) (chosen _ _ c.if-undo_rows.true c.undo_rows.ensures.rows))
    c.check_cover.ensures in
    let p = err_from_is_err_and c.from_residual.result c.from_residual.ensures.1 in
    rw (p.1, p.2) (loop_stop (covers_stretch _ _ _) c.loop-case.invariant c.loop-case-test.true taken c.in_err-t.was whole)

-- there is none before by its places and links, or by its facts; or its cover is checked
pub loop-case-preserved : goal.loop-case-preserved
loop-case-preserved c =
    let a = c.args in
    elim c.if-undo_case.branch [
      | then-undo_case+then-undo_rows+in_ok-t w ↦
          let before : is_before a.variables a.by.kind c.prepare_cases-cases.new.s c.loop-case.case ≡ true = sym c.undo_case.ensures.is ∙ w.if-undo_case.true in
          let taken : Checks a.cert.now (members_from a.cert.now a.variables a.starts.now) a.by.from (before_rowed a.variables a.by.kind c.prepare_cases-cases.result.end c.prepare_cases-cases.new.s a.facts.now c.loop-case.case) c.loop-case.t w.check_cover.result =
          rw (case_one a.variables a.by.kind _ _ a.facts.now c.loop-case.case before (sym w.undo_rows.ensures.is ∙ w.if-undo_rows.true) _ _
          (chosen _ _ w.if-undo_case.true c.undo_case.ensures.shape) (chosen _ _ w.if-undo_rows.true w.undo_rows.ensures.rows))
          w.check_cover.ensures in
          rw w.t-is (loop_more (covers_stretch _ _ _) c.loop-case.invariant c.loop-case-test.true taken w.in_ok-t.was)
      | then-undo_case+else-undo_rows w ↦
          let before : is_before a.variables a.by.kind c.prepare_cases-cases.new.s c.loop-case.case ≡ true = sym c.undo_case.ensures.is ∙ w.if-undo_case.true in
          rw w.t-is (loop_past (covers_stretch _ _ _) c.loop-case.invariant c.loop-case-test.true
          (case_new a.variables a.by.kind _ _ a.facts.now c.loop-case.case before (sym w.undo_rows.ensures.is ∙ w.if-undo_rows.false)))
      | else-undo_case w ↦
          rw w.t-is (loop_past (covers_stretch _ _ _) c.loop-case.invariant c.loop-case-test.true
          (case_none a.variables a.by.kind _ _ a.facts.now c.loop-case.case (sym c.undo_case.ensures.is ∙ w.if-undo_case.false)))
    ]

pub returns : goal.returns
returns c =
    let a = c.args in
    let whole = cases_all a.variables a.by.kind a.by.a a.s.now a.facts.now _ _ c.prepare_cases-cases.ensures.cases c.prepare_cases-cases.ensures.shape in
    loop_all (covers_stretch _ _ _) c.loop-case.invariant (omega arith) whole
