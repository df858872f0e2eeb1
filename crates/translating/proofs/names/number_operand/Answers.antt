-- A name, or a new one.
use Rattle.translating.proofs.Naming.{meets_found, meets_new}
use Rattle.translating.proofs.names.number_operand.Goals as goal

pub returns-in-Some : goal.returns-in-Some
returns-in-Some c = let a = c.args in meets_found a.letters.now a.met c.requires.0 c.requires.1 a.operand c.in-Some.i c.if-operand-eq0.false c.in-Some.ensures

pub returns : goal.returns
returns c = let a = c.args in meets_new a.letters.now a.met c.requires.0 c.requires.1 a.operand c.if-operand-eq0.false c.in_default.ensures c.if-met-ge8.false
