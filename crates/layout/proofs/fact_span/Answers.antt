-- From 0 up to 0 where the entry is not whole, or of version 1; else from where they begin to the entry's end.
use Rattle.std.proofs.Common.{◌≡◌, ◌∙◌, sym, arith}
use Rattle.layout.specs.Entries.{version_of}
use Rattle.layout.proofs.Whole.{end_lost, end_whole}
use Rattle.layout.proofs.Facts.{facts_none, facts_lost, span_none, span_lost, facts_end_lem, facts_told, span_told}
use Rattle.layout.proofs.fact_span.Goals as goal

pub returns-in_default : goal.returns-in_default
returns-in_default c =
    let a = c.args in
    let lost = end_lost a.bytes.now a.variables a.at c.in_default.ensures in
    let places = span_lost _ _ _ lost in
    (omega arith, omega arith, sym (facts_lost _ _ _ lost), places.0, places.1)

pub returns-then-version_of-ne2 : goal.returns-then-version_of-ne2
returns-then-version_of-ne2 c =
    let a = c.args in
    let other : ¬ (version_of a.bytes.now ≡ 2) = λ e. c.if-version_of-ne2.true (c.version_of.ensures ∙ e) in
    let places = span_none a.bytes.now a.variables a.at other in
    (omega arith, omega arith, sym (facts_none a.bytes.now a.variables a.at other), places.0, places.1)

pub overflow_add-at : goal.overflow_add-at
overflow_add-at c = let (w, _) = end_whole _ _ _ _ c.in-Some.ensures in omega arith

pub overflow_add-at-2 : goal.overflow_add-at-2
overflow_add-at-2 c = let (w, _) = end_whole _ _ _ _ c.in-Some.ensures in omega arith

pub overflow_add-at-3 : goal.overflow_add-at-3
overflow_add-at-3 c = let (w, _) = end_whole _ _ _ _ c.in-Some.ensures in omega arith

pub bounds-bytes-at : goal.bounds-bytes-at
bounds-bytes-at c = let (w, _) = end_whole _ _ _ _ c.in-Some.ensures in omega arith

pub overflow_add-at-4 : goal.overflow_add-at-4
overflow_add-at-4 c = let (w, _) = end_whole _ _ _ _ c.in-Some.ensures in omega (arith, c.wide.ensures.0)

pub facts_first-first-requires : goal.facts_first-first-requires
facts_first-first-requires c = let (w, _) = end_whole _ _ _ _ c.in-Some.ensures in omega (arith, c.wide.ensures.0, w.inside)

pub returns : goal.returns
returns c =
    let a = c.args in
    let (w, end) = end_whole a.bytes.now a.variables a.at _ c.in-Some.ensures in
    let second = sym c.version_of.ensures ∙ c.if-version_of-ne2.false in
    let first = rw c.wide.ensures.0 at c.facts_first-first.ensures.0 in
    let places = span_told a.bytes.now a.variables a.at second _ _ first end w in (
      omega (arith, first, end, facts_end_lem a.bytes.now a.variables a.at second),
      omega (arith, end, w.facts_inside),
      facts_told _ _ _ second _ _ first end w,
      places.0,
      places.1,
    )
