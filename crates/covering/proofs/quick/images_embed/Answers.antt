-- Where all three tests pass, the images are read and the cover holds, if its state is right.
use mathlib.Core.Path.{◌≡◌}
use Prim.Native.Nat.{◌≤◌}
use native.Mathlib.Omega.{arith}
use lib.ListN.{length, get_or, drop, length-take, length-drop}
use Rattle.layout.specs.ShapeArray.{links_in}
use Rattle.coverreader.proofs.Images.{images_none}
use Rattle.covering.proofs.ReadAndMark.{taken_linking, taken_embeds}
use Rattle.covering.proofs.quick.images_embed.Goals as goal

pub read_and_mark-requires : goal.read_and_mark-requires
read_and_mark-requires c =
    let most : c.wide-n.result ≤ 25 = omega (arith, c.all-1.given, c.if-all-n.false) in
    (c.requires.3, omega (arith, c.requires.0.cells), most, images_none _ most)

pub quick_links-requires : goal.quick_links-requires
quick_links-requires c =
    let (w, _, e, _) = c.requires in
    let s = c.args.s.now in
    let held : length (links_in s) ≡ c.wide-n.result = omega (arith, c.all-1.given, c.wide-n.ensures.0, c.if-all-n.false, length-take (get_or s 0 0) (drop 3 s), length-drop 3 s) in
    (_, _, taken_linking _ _ _ _ _ w held _ _ e _ _ (c.read_and_mark.ensures.whole c.if-not-read_and_mark.false))

pub returns : goal.returns
returns c =
    let (w, bare, e, _) = c.requires in
    let s = c.args.s.now in
    let held : length (links_in s) ≡ c.wide-n.result = omega (arith, c.all-1.given, c.wide-n.ensures.0, c.if-all-n.false, length-take (get_or s 0 0) (drop 3 s), length-drop 3 s) in
    let marked = c.read_and_mark.ensures.whole c.if-not-read_and_mark.false in
    taken_embeds _ _ _ _ _ w held _ _ e _ _ marked bare (c.quick_vars.ensures c.if-not-quick_vars.false) _
    (c.quick_links.ensures _ _ (taken_linking _ _ _ _ _ w held _ _ e _ _ marked))
