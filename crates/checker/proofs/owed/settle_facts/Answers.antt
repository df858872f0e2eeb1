-- None in version 1; else they are loaded and tested.
use mathlib.Core.Path.{refl, sym, ap, ◌∙◌}
use Rattle.factrows.specs.Rows.{is_consistent}
use Rattle.undoing.proofs.None.{consistent_none}
use Rattle.checker.proofs.Rowed.{loaded_none}
use Rattle.checker.proofs.owed.settle_facts.Goals as goal

pub returns-then-version_of-ne2 : goal.returns-then-version_of-ne2
returns-then-version_of-ne2 c =
    let s = c.before.before.before.before in
    let a = s.args in
    let none = loaded_none a.cert.now a.variables a.at (λ e. c.if-version_of-ne2.true (c.version_of.ensures ∙ e)) in
    (record { is = rw (none, consistent_none) refl; facts = s.requires ∙ sym none })

pub returns : goal.returns
returns c = (record { is = c.is_consistent.ensures ∙ ap is_consistent c.load_facts.ensures; facts = c.load_facts.ensures })
