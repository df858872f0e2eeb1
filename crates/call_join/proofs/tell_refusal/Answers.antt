-- By the refusal.
use Rattle.call_join.proofs.tell_refusal.Goals as goal

pub returns-in-First : goal.returns-in-First
returns-in-First c = rw c.in-First.is (c.tell_pair.ensures.number, c.tell_pair.ensures.values)

pub returns-in-Second : goal.returns-in-Second
returns-in-Second c = rw c.in-Second.is (c.tell_pair-in-Second.ensures.number, c.tell_pair-in-Second.ensures.values)

pub returns-in-Joint : goal.returns-in-Joint
returns-in-Joint c = rw c.in-Joint.is (c.number.ensures, c.lend.ensures)
