-- What the list promises of the heap that is lent.
use mathlib.Core.Path.{subst}
use Rattle.std.proofs.Common.{of_calls}
use Rattle.stepper.specs.declared.Heap64.{Heap64}
use Rattle.blocklist.specs.Answers.{Removes}
use Rattle.list_calls.proofs.Lists.{edits_by}
use Rattle.list_calls.proofs.vorruda_list_remove.Goals as goal

pub returns : goal.returns
returns c =
    let n = c.args.n in
    rw c.edit_number.ensures
    (edits_by c.args.heap.now c.args.values.now _ (λ t r. Removes t n r)
    (λ t r p. subst (λ (u : Heap64). Removes u n r) p.shows (subst (λ (u : Heap64). Removes p.shown.now n (r.0, u)) p.leaves (search (of_calls, p.met))))
    c.on_lent.result c.on_lent.new.heap c.on_lent.new.values c.on_lent.ensures)
