-- The loop: what is met from the place that is reached, with the links that are left, is what is met from the head.
use mathlib.Core.List.{List}
use mathlib.Core.Path.{◌≡◌, refl, sym, ◌∙◌, subst}
use Prim.Native.Nat.{ℕ, ◌+◌, ◌-◌, ◌≤◌, ◌<◌}
use native.Mathlib.Decide.{dec_lt}
use native.Mathlib.Omega.{arith}
use borrow.Author.Rules.{rules}
use lib.ListN.{length, get_or, length-map, get_or-map}
use Rattle.heap.specs.Codes.{link_in}
use Rattle.heap.specs.Place.{nowhere}
use Rattle.heap.proofs.Codes.{link_slot, link_low, link_past}
use Rattle.place.specs.Place.{place_of, codes}
use Rattle.place.specs.declared.Place.{Place}
use Rattle.stepper.specs.Table.{heap_of}
use Rattle.blocklist.proofs.Measuring.{Followed, at_null, at_end, too_far, one_more_lem}
use Rattle.blocklist.proofs.length_of.Goals as goal

code_at : (l : List Place) (i : ℕ) → (get_or l i (place_of nowhere)).code ≡ get_or (codes l) i nowhere
code_at l i = sym (get_or-map (λ (p : Place). p.code) l i (place_of nowhere))

-- what is no cell has no link
no_link : (links : List Place) (code : ℕ) → length links ≡ 64 → (3 ≤ code → code ≤ 66 → ⊥) → link_in (codes links) code ≡ nowhere
no_link links code size out = go (dec_lt code 3)
  where
    go : Dec (code < 3) → link_in (codes links) code ≡ nowhere
    go (yes l) = sym (link_low (codes links) code l)
    go (no n) = past (dec_lt 66 code)
      where
        past : Dec (66 < code) → link_in (codes links) code ≡ nowhere
        past (yes h) = sym (link_past (codes links) code (omega (arith, length-map links (λ (p : Place). p.code))))
        past (no m) = absurd (out (omega arith) (omega arith))

pub returns-in-1-clause-told : goal.returns-in-1-clause-told
returns-in-1-clause-told c = at_null (heap_of c.args.heap.now).link ((heap_of c.args.heap.now).var 1) c.loop-n.n c.loop-n.code c.loop-n.invariant c.in-1.is

pub returns-in_default-clause-told : goal.returns-in_default-clause-told
returns-in_default-clause-told c =
    let t = c.args.heap.now in
    let size : length t.links ≡ 64 = search rules in
    at_end (heap_of t).link ((heap_of t).var 1) c.loop-n.n c.loop-n.code c.loop-n.invariant refl (λ e. omega arith) (no_link t.links c.loop-n.code size (λ l h. omega arith))

pub returns-in_default-2-clause-told : goal.returns-in_default-2-clause-told
returns-in_default-2-clause-told c =
    let t = c.args.heap.now in
    let size : length t.links ≡ 64 = search rules in
    at_end (heap_of t).link ((heap_of t).var 1) c.loop-n.n c.loop-n.code c.loop-n.invariant refl (λ e. omega arith) (no_link t.links c.loop-n.code size (λ l h. omega arith))

pub loop-n-preserved : goal.loop-n-preserved
loop-n-preserved c =
    let t = c.args.heap.now in
    subst (Followed (heap_of t).link ((heap_of t).var 1) (c.loop-n.n + 1))
    (sym (code_at t.links (c.loop-n.code - 3) ∙ link_slot (codes t.links) c.loop-n.code (omega arith)))
    (one_more_lem (heap_of t).link ((heap_of t).var 1) c.loop-n.n c.loop-n.code c.loop-n.invariant (omega arith) (λ e. omega arith))

pub returns-then-code-eq-NULL-clause-told : goal.returns-then-code-eq-NULL-clause-told
returns-then-code-eq-NULL-clause-told c =
    let t = c.args.heap.now in
    let all : c.loop-n.n ≡ 64 = omega arith in
    rw all at (at_null (heap_of t).link ((heap_of t).var 1) c.loop-n.n c.loop-n.code c.loop-n.invariant c.if-code-eq-NULL.true)

pub returns-else-code-eq-NULL-clause-told : goal.returns-else-code-eq-NULL-clause-told
returns-else-code-eq-NULL-clause-told c =
    let t = c.args.heap.now in
    too_far (heap_of t).link ((heap_of t).var 1) c.loop-n.n c.loop-n.code c.loop-n.invariant (omega arith) c.if-code-eq-NULL.false
