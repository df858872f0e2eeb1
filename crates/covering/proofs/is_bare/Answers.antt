-- In version 2 the byte behind the links is the one that is read.
use mathlib.Core.Path.{◌≡◌, ◌∙◌, subst}
use Prim.Native.Nat.{ℕ, ◌+◌}
use lib.Dec.{eqb→eq}
use lib.ListN.{get_or}
use Rattle.covering.proofs.is_bare.Goals as goal

pub returns-then-version_of-ne2 : goal.returns-then-version_of-ne2
returns-then-version_of-ne2 c = λ _ e. absurd (c.if-version_of-ne2.true (c.version_of.ensures ∙ e))

pub returns : goal.returns
returns c = λ t _.
    let a = c.args in
    subst (λ (n : ℕ). get_or a.cert.now (a.start + 2 + a.variables + n) 0 ≡ 0) c.requires.1 (eqb→eq _ _ (rw t tt))
