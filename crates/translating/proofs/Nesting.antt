-- The block reader and the statement reader, one call after the other: what each comes to is what the definitions come to.
use mathlib.Core.List.{List, [], ◌∷◌}
use mathlib.Core.Path.{◌≡◌, refl, sym, ap, subst, ◌∙◌}
use Prim.Native.Nat.{ℕ, suc, ◌+◌, ◌≤◌, ◌<◌}
use native.Mathlib.Omega.{arith}
use borrow.Author.Tests.{leb-true}
use lib.ListN.{length, drop}
use lib.Seq.{drop-cons}
use Rattle.std.specs.Prelude.{Result, Ok, Err}
use Rattle.lines.specs.Line.{line_of}
use Rattle.lines.specs.declared.Line.{Line}
use Rattle.lines.specs.declared.Line.TheVariants.{Perform, While, If, End, Mark, Other}
use Rattle.lines.proofs.ReadsText.{reads_text}
use Rattle.listing.specs.LineByLine.{Open, LinePosition, Outcome, reached, refused, advance, onward, go_on}
use Rattle.listing.specs.Text.{last_line, lines_of}
use Rattle.translating.specs.Reading.{Begins, MarkIn, Closes, Comes, Further, rest_from, BlockRead, StatementRead}
use Rattle.translating.specs.Work.{fault_number, open_of, position_of, WorkWithin}
use Rattle.translating.specs.declared.Fault.{Fault}
use Rattle.translating.specs.declared.Fault.TheVariants.{Grammar}
use Rattle.translating.specs.declared.Refusal.{Refusal}
use Rattle.translating.specs.declared.blocks.Block.{Block}
use Rattle.translating.specs.declared.blocks.Block.TheVariants as block
use Rattle.translating.specs.declared.blocks.Statement.TheVariants as statement
use Rattle.translating.specs.declared.steps.Begun.{Begun}
use Rattle.translating.specs.declared.steps.Begun.TheVariants as begun
use Rattle.translating.specs.declared.steps.Open as declared
use Rattle.translating.specs.declared.steps.Progress.{Progress}
use Rattle.translating.specs.declared.steps.Work.{Work}
use Rattle.translating.proofs.Cutting.{cut_over}

-- ---- one line of the definitions

go_line : (l : Line) (ls : List Line) (s : LinePosition) → go_on (l ∷ ls) s ≡ onward (advance l s) (go_on ls)
unfolding go_on
go_line l ls s = refl

go_on_lem : (l : Line) (ls : List Line) (s s' : LinePosition) → advance l s ≡ reached s' → go_on (l ∷ ls) s ≡ go_on ls s'
go_on_lem l ls s s' e = go_line l ls s ∙ ap (λ o. onward o (go_on ls)) e

go_refused : (l : Line) (ls : List Line) (s : LinePosition) (number line : ℕ) → advance l s ≡ refused number line → go_on (l ∷ ls) s ≡ refused number line
go_refused l ls s number line e = go_line l ls s ∙ ap (λ o. onward o (go_on ls)) e

-- a refusal that is told
told : (r : Refusal) (fault : Fault) (line : ℕ) → r ≡ record { fault = fault; line = line } → refused (fault_number fault) line ≡ refused (fault_number r.fault) r.line
told r fault line e = sym (ap (λ (x : Refusal). refused (fault_number x.fault) x.line) e)

-- an `end` is missing
go_open : (o : Open) (os : List Open) (p : Progress) (w : Work) → go_on [] (position_of p w (o ∷ os)) ≡ refused 17 (suc p.passed)
unfolding go_on
go_open o os p w = refl

-- the mark of a line that is read has its place
pub mark_in_lem : (s : List ℕ) (l : Line) → l ≡ line_of s → MarkIn l
mark_in_lem s (Perform o) e = tt
mark_in_lem s (While t) e = tt
mark_in_lem s (If t) e = tt
mark_in_lem s End e = tt
mark_in_lem s (Mark k) e = leb-true k 63 (reads_text s (Mark k) (sym e) (λ z. let y : ◌≡◌ {A = ℕ} 0 1 = cc in omega arith)).1
mark_in_lem s Other e = tt

-- the place in the text has no part in the bounds
pub moved : (p : Progress) (w : Work) (at : ℕ) → WorkWithin p w → WorkWithin (record { at = at; passed = p.passed; count = p.count; met = p.met }) w
moved p w at h = record { passed = h.passed; count = h.count; met = h.met; job = h.job; letters = h.letters; states = h.states }

-- ---- blocks

-- statements are passed, from p to q
pub record Passed (text : List ℕ) (depth : ℕ) (p : Progress) (w : Work) (q : Progress) (w' : Work) : Type 0 where
  pub further : Further text p q w'
  pub comes : Comes depth (rest_from text p) p w (λ os. go_on (rest_from text q) (position_of q w' os))

module _ (text : List ℕ) (depth : ℕ) (p : Progress) (w : Work) (q : Progress) (w' : Work) (passed : Passed text depth p w q w') where
  -- how the block ends after them is how it ends
  pub block_after : (b : Result Block Refusal) (w'' : Work) → BlockRead text depth q w' b w'' → BlockRead text depth p w b w''
  block_after (Ok (block.Over r)) w'' (bounds, comes) = (bounds, λ os e. passed.comes os e ∙ comes os e)
  block_after (Ok (block.Ended r)) w'' (beyond, comes) =
      (record { within = beyond.within; on = omega (arith, beyond.on, passed.further.on); inside = beyond.inside }, λ os e. passed.comes os e ∙ comes os e)
  block_after (Err r) w'' comes = λ os e. passed.comes os e ∙ comes os e

module _ (text : List ℕ) (depth : ℕ) (p : Progress) (w : Work) where
  pub block_over : WorkWithin p w → length text ≤ p.at → BlockRead text depth p w (Ok (block.Over p)) w
  block_over bounds h = (bounds, λ os e. ap (λ ls. go_on ls (position_of p w os)) (cut_over text p.at h))

  -- a last line without byte 10
  pub block_last : (r : Refusal) → p.at < length text → rest_from text p ≡ last_line (drop p.at text) → r ≡ record { fault = Grammar; line = suc p.passed }
      → BlockRead text depth p w (Err r) w
  block_last r some last is os e =
      ap (λ ls. go_on ls (position_of p w os)) (last ∙ ap last_line (drop-cons text p.at 0 some))
      ∙ go_refused Other [] (position_of p w os) 17 (suc p.passed) refl
      ∙ told r Grammar (suc p.passed) is

-- ---- statements

module _ (text : List ℕ) (line : Line) (depth : ℕ) (p : Progress) (w : Work) (bounds : WorkWithin p w) (inside : p.at ≤ length text)
    (w' : Work) where
  -- the place in the text stays
  same_rest : (q : Progress) → q.at ≡ p.at → rest_from text p ≡ rest_from text q
  same_rest q e = ap (λ n. lines_of (drop n text)) (sym e)

  pub statement_refused : (r : Refusal) → Begins depth line p w (Err r) w' → StatementRead text line depth p w (Err r) w'
  statement_refused r begins os d = go_refused line (rest_from text p) (position_of p w os) (fault_number r.fault) r.line (begins os d)

  module _ (r : Begun) (begins : Begins depth line p w (Ok r) w') where
    pub statement_on : (q : Progress) → r ≡ begun.On q → StatementRead text line depth p w (Ok (statement.On q)) w'
    statement_on q e =
        let ((within, at), steps) = subst (λ x. Begins depth line p w (Ok x) w') e begins in (
          record { within = within; on = omega arith; inside = omega arith },
          λ os d.
              go_on_lem line (rest_from text p) (position_of p w os) (position_of q w' os) (steps os d)
              ∙ ap (λ ls. go_on ls (position_of q w' os)) (same_rest q at),
        )

    -- one that holds a block
    module _ (q : Progress) (o : declared.Open) (e : r ≡ begun.Opened q o) where
      opened_here : Begins depth line p w (Ok (begun.Opened q o)) w'
      opened_here = subst (λ x. Begins depth line p w (Ok x) w') e begins

      enter : (to : List Open → Outcome) → Comes (depth + 1) (rest_from text q) q w' to → Comes depth (line ∷ rest_from text p) p w (λ os. to (open_of o ∷ os))
      enter to comes os d =
          go_on_lem line (rest_from text p) (position_of p w os) (position_of q w' (open_of o ∷ os)) (opened_here.3 os d)
          ∙ ap (λ ls. go_on ls (position_of q w' (open_of o ∷ os))) (same_rest q opened_here.0.1)
          ∙ comes (open_of o ∷ os) (omega arith)

      pub open_refused : (r' : Refusal) (w'' : Work) → BlockRead text (depth + 1) q w' (Err r') w'' → StatementRead text line depth p w (Err r') w''
      open_refused r' w'' read = enter _ read

      module _ (b : Block) (w'' : Work) (read : BlockRead text (depth + 1) q w' (Ok b) w'') where
        pub open_over : (s : Progress) → b ≡ block.Over s → (r' : Refusal) → r' ≡ record { fault = Grammar; line = suc s.passed }
            → StatementRead text line depth p w (Err r') w''
        open_over s f r' is os d =
            enter _ (subst (λ x. BlockRead text (depth + 1) q w' (Ok x) w'') f read).1 os d
            ∙ go_open (open_of o) os s w''
            ∙ told r' Grammar (suc s.passed) is

        module _ (s : Progress) (f : b ≡ block.Ended s) where
          ended_here : BlockRead text (depth + 1) q w' (Ok (block.Ended s)) w''
          ended_here = subst (λ x. BlockRead text (depth + 1) q w' (Ok x) w'') f read

          pub close_statement : (t : Progress) (v : Work) → Closes s w'' o (Ok t) v → StatementRead text line depth p w (Ok (statement.On t)) v
          close_statement t v ((within, at), steps) =
              let further = ended_here.0 in (
                record { within = within; on = omega (arith, further.on, opened_here.0.1); inside = omega (arith, further.inside) },
                λ os d.
                    enter _ ended_here.1 os d
                    ∙ go_on_lem End (rest_from text s) (position_of s w'' (open_of o ∷ os)) (position_of t v os) (steps (open_of o ∷ os) os)
                    ∙ ap (λ n. go_on (lines_of (drop n text)) (position_of t v os)) (sym at),
              )

          pub close_refused : (r' : Refusal) (v : Work) → Closes s w'' o (Err r') v → StatementRead text line depth p w (Err r') v
          close_refused r' v closes os d =
              enter _ ended_here.1 os d
              ∙ go_refused End (rest_from text s) (position_of s w'' (open_of o ∷ os)) (fault_number r'.fault) r'.line (closes (open_of o ∷ os) os)
