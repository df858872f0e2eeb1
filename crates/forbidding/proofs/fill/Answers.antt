-- The copied job, the number put in its place and the set after it are the bytes of the rewritten job, one after the other.
use mathlib.Core.Path.{◌∙◌}
use native.Mathlib.Omega.{arith}
use lib.ListN.{length-set}
use Rattle.forbidding.proofs.Answers.{count_inside, put_job}
use Rattle.number.proofs.RoundTrip.{bytes_at_most}
use Rattle.forbidding.proofs.fill.Goals as goal

pub bounds-bytes-count_place : goal.bounds-bytes-count_place
bounds-bytes-count_place c =
    let job = c.args.job.now in
    let r = c.requires in
    let copy = c.put_all-end.ensures.room (omega (arith, r.3)) in
    let bytes = bytes_at_most job (λ i. omega (arith, c.type_inv.job i)) in
    omega (arith, count_inside job c.args.h r.0 bytes, c.count_place.ensures, copy.same, copy.inside, copy.next_is)

pub put_set-requires : goal.put_set-requires
put_set-requires c =
    let r = c.requires in
    let copy = c.put_all-end.ensures.room (omega (arith, r.3)) in (
      r.0,
      r.1,
      omega (arith, length-set c.put_all-end.new.bytes c.count_place.result c.args.count, copy.same, copy.next_is, r.3),
    )

pub shape_of-bytes : goal.shape_of-bytes
shape_of-bytes c =
    let copy = c.put_all-end.ensures.room (omega (arith, c.requires.3)) in
    c.put_set.ensures.same ∙ length-set c.put_all-end.new.bytes c.count_place.result c.args.count ∙ copy.same

pub returns : goal.returns
returns c =
    let job = c.args.job.now in
    let r = c.requires in
    let copy = c.put_all-end.ensures.room (omega (arith, r.3)) in
    let bytes = bytes_at_most job (λ i. omega (arith, c.type_inv.job i)) in
    put_job job c.args.h r.0 c.count_place.result c.args.count _ bytes c.count_place.ensures copy c.put_set.ensures
