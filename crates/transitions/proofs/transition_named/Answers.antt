-- The bytes up to the transition end with it, if they are all there.
use mathlib.Core.Path.{◌∙◌}
use Rattle.transitions.proofs.Bytes.{read_last, named_none}
use Rattle.transitions.proofs.transition_named.Goals as goal

pub returns-in-Some : goal.returns-in-Some
returns-in-Some c =
    let (inside, same) = c.in-Some.ensures in
    c.ending.ensures ∙ read_last c.args.k (record { inside = inside; same = same })

pub returns-in-None : goal.returns-in-None
returns-in-None c = let a = c.args in named_none a.job.now a.first a.k c.in-None.ensures
