-- 0 exactly where the conditions hold.
use Rattle.telling.proofs.Judging.{told}
use Rattle.call_check.proofs.vorruda_check.Goals as goal

pub returns-clause-accepted : goal.returns-clause-accepted
returns-clause-accepted c = let k = c.check.ensures in (told _ _ _ k.exact k.accepted k.safe _ c.verdict_number.ensures).0
