-- State, number of cells and places, links, loose cells and the number of no facts, put in this order, are the numbers of the shape at its state.
use mathlib.Core.Path.{sym}
use Prim.Native.Nat.{◌+◌}
use native.Mathlib.Omega.{arith}
use lib.ListN.{length}
use Rattle.forbidding.proofs.Shapes.{start_length, starts, none_count, put_parts}
use Rattle.forbidding.proofs.put.put_shape.Goals as goal

pub slice_bounds-start-end : goal.slice_bounds-start-end
slice_bounds-start-end c =
    let a = c.args in
    omega (arith, c.requires.0.most, start_length a.p.state (length a.links.now + a.loose) a.p.variable a.place)

pub slice_bounds-put_all-end : goal.slice_bounds-put_all-end
slice_bounds-put_all-end c =
    let a = c.args in
    sym (starts a.p.state (length a.links.now + a.loose) a.p.variables a.p.variable a.place c.requires.0.most)

pub slice_bounds-put_all-end-2 : goal.slice_bounds-put_all-end-2
slice_bounds-put_all-end-2 c = none_count (c.args.loose + c.count_bytes.result) (omega (arith, c.count_bytes.ensures.1))

pub returns : goal.returns
returns c =
    let a = c.args in
    let p = a.p in
    let r = c.requires in
    let count = c.count_bytes in
    let start = starts p.state (length a.links.now + a.loose) p.variables p.variable a.place r.0.most in
    let end = none_count (a.loose + count.result) (omega (arith, count.ensures.1)) in
    let places = c.put_all-links_at.ensures.room (omega (arith, r.1, start)) in
    let links = c.put_all-last_at.ensures.room (omega (arith, r.1, start, places.next_is, places.same)) in
    let last = c.put_all.ensures.room (omega (arith, r.1, start, places.next_is, places.same, links.next_is, links.same, end, count.ensures.0)) in (
      omega (arith, start, places.next_is, links.next_is, last.next_is, end, count.ensures.0),
      put_parts p.version p.state p.variables p.variable a.place a.links.now a.loose count.result r.3 count.ensures r.0.some r.0.variable r.0.most places links last,
    )
