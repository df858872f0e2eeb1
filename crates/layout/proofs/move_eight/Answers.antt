-- The eight bytes go to the front of an array of eight, and from there (`copy_through`).
use Rattle.std.proofs.Common.{◌∙◌, drop, arith, length-drop}
use lib.ListN.{replicate}
use Rattle.layout.proofs.Copies.{copy_through}
use Rattle.layout.proofs.move_eight.Goals as goal

pub returns : goal.returns
returns c =
    let a = c.args in
    c.copy_bytes-2.ensures
    ∙ rw c.copy_bytes.ensures (copy_through a.to.now a.at (replicate 8 0) (drop a.first a.bytes.now) 8 (omega (arith, length-drop a.first a.bytes.now)))
