-- A link that misses is found first; where there is none, the path that failed shares a cell.
use mathlib.Core.Path.{sym}
use native.Mathlib.Omega.{arith}
use Rattle.covering.proofs.Found.{found_below}
use Rattle.covering.proofs.Whole.{linking_read, miss_found, share_found}
use Rattle.covering.proofs.rules.broken_path.Goals as goal

pub link_misses-requires : goal.link_misses-requires
link_misses-requires c =
    let read = c.wide-cells.ensures.0 in
    (_, _, linking_read _ _ _ _ _ c.requires.0 _ read _ (rw read c.requires.1))

pub overflow_cast-result : goal.overflow_cast-result
overflow_cast-result c =
    let read = c.wide-cells.ensures.0 in
    let missed = sym (c.in-Some.ensures _ _ (linking_read _ _ _ _ _ c.requires.0 _ read _ (rw read c.requires.1))) in
    omega (arith, read, c.requires.0.images.few, found_below _ _ _ missed)

pub returns-in-Some : goal.returns-in-Some
returns-in-Some c = λ missing.
    let read = c.wide-cells.ensures.0 in
    let missed = sym (c.in-Some.ensures _ _ (linking_read _ _ _ _ _ c.requires.0 _ read _ (rw read c.requires.1))) in
    miss_found _ _ _ _ _ c.requires.0 _ read missing _ missed

pub returns-in-None : goal.returns-in-None
returns-in-None c = λ missing.
    let read = c.wide-cells.ensures.0 in
    let none = sym (c.in-None.ensures _ _ (linking_read _ _ _ _ _ c.requires.0 _ read _ (rw read c.requires.1))) in
    share_found _ _ _ _ _ c.requires.0 _ read missing _ c.requires.3 none
