-- What is answered, once the text is read.
use mathlib.Core.List.{List, [], ◌∷◌}
use mathlib.Core.Path.{◌≡◌, refl, sym, ap, subst, ◌∙◌}
use Prim.Native.Nat.{ℕ, suc}
use native.Mathlib.Omega.{arith}
use borrow.Author.Tests.{ne_eqb}
use lib.ListN.{length, take, replicate}
use lib.Seq.{length-take-le}
use Rattle.std.specs.Prelude.{Result, Ok, Err}
use Rattle.listing.specs.LineByLine.{reached, refused, begin, go_on, bytes_ahead, translate_by}
use Rattle.listing.specs.Names.{variables_for}
use Rattle.listing.specs.Promise.{Translates}
use Rattle.listing.specs.Text.{lines_of}
use Rattle.listing.specs.Written.{in_room, translate_result, bytes_after, marks_after}
use Rattle.listing.proofs.Promise.{translates}
use Rattle.translating.specs.Answer.{answer_result, variables_of}
use Rattle.translating.specs.Reading.{BlockRead}
use Rattle.translating.specs.Work.{fault_number, transitions_in, position_of}
use Rattle.translating.specs.declared.Fault.TheVariants.{Grammar}
use Rattle.translating.specs.declared.Refusal.{Refusal}
use Rattle.translating.specs.declared.TranslateRefusal.{TranslateRefusal}
use Rattle.translating.specs.declared.TranslateRefusal.TheVariants.{AtLine}
use Rattle.translating.specs.declared.blocks.Block.{Block}
use Rattle.translating.specs.declared.blocks.Block.TheVariants as block
use Rattle.translating.specs.declared.steps.Progress.{Progress}
use Rattle.translating.specs.declared.steps.Work.{Work}

variables_by_number : (names : List ℕ) → variables_for names ≡ variables_of (length names)
variables_by_number [] = refl
variables_by_number (x ∷ names) = rw (ne_eqb (suc (length names)) 0 (λ e. omega arith)) refl

-- ---- answering

abbrev start : Progress
start = record { at = 0; passed = 0; count = 0; met = 0 }

-- what the reading begins with
abbrev fresh : Work
fresh = record { job = replicate 635 0; letters = replicate 8 0; states = replicate 64 64 }

module _ (text : List ℕ) (w : Work) where
  -- the whole text, from the first line
  over : (p : Progress) → BlockRead text 0 start fresh (Ok (block.Over p)) w → go_on (lines_of text) begin ≡ reached (position_of p w [])
  unfolding go_on
  over p (bounds, comes) = comes [] refl

  module _ (bytes marks : List ℕ) where
    refuses : (r : Refusal) → go_on (lines_of text) begin ≡ refused (fault_number r.fault) r.line
        → Translates text bytes marks (answer_result (Err (AtLine r))) bytes marks
    refuses r e =
        translates text bytes marks bytes marks (answer_result (Err (AtLine r)))
        (ap (λ o. translate_result (translate_by (length bytes) o)) (sym e))
        (ap (λ o. bytes_after (translate_by (length bytes) o) bytes) (sym e))
        (ap (λ o. marks_after (translate_by (length bytes) o) marks) (sym e))

    pub answers_refused : (r : Refusal) → BlockRead text 0 start fresh (Err r) w → Translates text bytes marks (answer_result (Err (AtLine r))) bytes marks
    answers_refused r comes = refuses r (comes [] refl)

    -- an `end` with nothing open
    pub answers_ended : (b : Block) (p : Progress) → b ≡ block.Ended p → BlockRead text 0 start fresh (Ok b) w
        → (r : Refusal) → r ≡ record { fault = Grammar; line = suc p.passed } → Translates text bytes marks (answer_result (Err (AtLine r))) bytes marks
    unfolding go_on
    answers_ended b p e read r is =
        let (further, comes) = subst (λ x. BlockRead text 0 start fresh (Ok x) w) e read in
        refuses r (comes [] refl ∙ sym (ap (λ (x : Refusal). refused (fault_number x.fault) x.line) is))

    -- the job with its numbers ahead is written
    pub answers_over : (b : Block) (p : Progress) → b ≡ block.Over p → BlockRead text 0 start fresh (Ok b) w → (job' : List ℕ)
        → job' ≡ 1 ∷ variables_of p.met ∷ suc p.passed ∷ 0 ∷ p.count ∷ transitions_in p.count w.job
        → (t : Result ℕ TranslateRefusal) (bytes' marks' : List ℕ)
        → answer_result t ≡ translate_result (in_room (length bytes) job' w.states)
        → bytes' ≡ bytes_after (in_room (length bytes) job' w.states) bytes
        → marks' ≡ marks_after (in_room (length bytes) job' w.states) marks
        → Translates text bytes marks (answer_result t) bytes' marks'
    answers_over b p e found job' is t bytes' marks' result output beside =
        let read = subst (λ x. BlockRead text 0 start fresh (Ok x) w) e found in
        let bounds = read.0 in
        let names = length-take-le p.met w.letters (omega (arith, bounds.met, bounds.letters)) in
        let variables = variables_by_number (take p.met w.letters) ∙ ap variables_of names in
        let ahead : job' ≡ bytes_ahead (position_of p w []) = is ∙ ap (λ v. 1 ∷ v ∷ suc p.passed ∷ 0 ∷ p.count ∷ transitions_in p.count w.job) (sym variables) in
        let passed = ap (λ j. in_room (length bytes) j w.states) ahead ∙ ap (translate_by (length bytes)) (sym (over p read)) in
        translates text bytes marks bytes' marks' (answer_result t) (result ∙ ap translate_result passed)
        (output ∙ ap (λ x. bytes_after x bytes) passed) (beside ∙ ap (λ x. marks_after x marks) passed)
