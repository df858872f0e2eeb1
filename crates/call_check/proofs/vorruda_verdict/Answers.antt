-- 0 exactly where the conditions hold, and then their counts, of which the links are bounded.
use mathlib.Core.Path.{ap, ◌∙◌}
use Rattle.call_check.proofs.Judging.{told_links}
use Rattle.format.specs.Verdict.{Verdict}
use Rattle.number.specs.CallResult.{lent}
use Rattle.telling.proofs.Judging.{told}
use Rattle.verdict.specs.Verdict.{verdict_result}
use Rattle.call_check.proofs.vorruda_verdict.Goals as goal

pub returns-clause-counts : goal.returns-clause-counts
returns-clause-counts c counts d = c.tell.ensures.values ∙ ap (λ (v : Verdict). lent (verdict_result v).values c.args.out.now) ((c.check.ensures.accepted counts).1 d)

pub returns-clause-links : goal.returns-clause-links
returns-clause-links c =
    let k = c.check.ensures in
    told_links _ _ _ k.accepted _ _ _ (told _ _ _ k.exact k.accepted k.safe _ c.tell.ensures.number) c.tell.ensures.values

pub returns-clause-accepted : goal.returns-clause-accepted
returns-clause-accepted c = let k = c.check.ensures in (told _ _ _ k.exact k.accepted k.safe _ c.tell.ensures.number).0
