-- The loop follows the paths in turn, as `follow_paths` does. The image of a place that the member has is an end, so what is met there is one. A link
-- that stands there at once is a path of one step (`follow_direct`).
use Rattle.shape.specs.Shape.{Shape}
use Rattle.covering.specs.Marks.{Linking}
use Rattle.covering.proofs.Links.{Fitting}
use Rattle.covering.proofs.quick.quick_links.Given as goal

abbrev pub invariant-loop-i : goal.invariant-loop-i
invariant-loop-i l =
    (member covered : Shape) (k : Linking member covered l.cert l.first l.count l.images l.initial.marks l.s)
    → Fitting member covered l.cert l.first l.count l.images l.initial.marks l.s k l.marks l.i l.links
