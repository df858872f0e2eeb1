-- Four words, each with a count.
use Rattle.telling.proofs.Lines.{put_accepted}
use Rattle.telling.proofs.put_counts.Goals as goal

pub returns-clause-put : goal.returns-clause-put
returns-clause-put c =
    put_accepted _ c.put_worded-bads.ensures.put c.put_worded-members.ensures.put c.put_worded-covers.ensures.put c.put_worded.ensures.put
