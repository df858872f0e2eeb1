-- The number and the place, and then the rule and the name where one broke.
use native.Mathlib.Omega.{arith}
use Rattle.telling.proofs.Lines.{put_refused, put_ruled}
use Rattle.telling.proofs.put_refusal.Goals as goal

pub returns-then-rule-eq0-clause-put : goal.returns-then-rule-eq0-clause-put
returns-then-rule-eq0-clause-put c =
    let number = rw c.refusal_number.ensures at c.put_worded-number.ensures.put in
    put_refused _ _ number c.put_worded-at.ensures.put (omega arith)

pub returns-clause-put : goal.returns-clause-put
returns-clause-put c =
    let number = rw c.refusal_number.ensures at c.put_worded-number.ensures.put in
    let rule = rw c.rule_number-rule.ensures at c.put_worded-named.ensures.put in
    let name = rw c.rule_name.ensures at c.put_worded.ensures.put in
    put_ruled _ _ number c.put_worded-at.ensures.put (omega arith) rule name
