-- Too many, not all there, or indexed.
use mathlib.Core.Path.{refl, sym, ◌∙◌}
use Rattle.transitions.proofs.Bytes.{there, too_many, not_there, when_some, when_none}
use Rattle.transitions.proofs.index_transitions.Goals as goal
use Rattle.transitions.proofs.index_transitions.Goals.{else-count-le256-via-then-count-le256+else-is_some, else-count-le256-via-else-count-le256}

pub returns-then-is_some : goal.returns-then-is_some
returns-then-is_some c =
    let a = c.args in
    rw (there a.job.now a.first a.count c.if-count-le256.true (when_some _ _ _ (sym c.is_some.ensures ∙ c.if-is_some.true) c.bytes_at.ensures).1.0) c.index_all.ensures

pub returns-else-count-le256 : goal.returns-else-count-le256
returns-else-count-le256 c =
    let a = c.args in
    elim c.else-count-le256.branch [
      | else-count-le256-via-then-count-le256+else-is_some w ↦ rw (not_there a.job.now a.first a.count (when_none _ _ _ (sym w.is_some.ensures ∙ w.if-is_some.false) w.bytes_at.ensures)) refl
      | else-count-le256-via-else-count-le256 w ↦ rw (too_many a.job.now a.first a.count w.if-count-le256.false) refl
    ]
