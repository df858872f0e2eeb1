-- A text that is a listing is one within the limits.
use mathlib.Core.List.{List, [], ◌∷◌, ◌++◌, append-nil}
use mathlib.Core.Option.{Option, none, some}
use mathlib.Core.Path.{◌≡◌, refl, sym, ap, ap₂, subst, ◌∙◌}
use Prim.Native.Nat.{ℕ, suc, ◌+◌, ◌≤◌}
use native.Mathlib.Omega.{arith}
use lib.ListN.{length, length-append}
use Rattle.lists.specs.List.{Every, Distinct}
use Rattle.lists.proofs.List.{every_none, every_cons, every_head, every_tail}
use Rattle.format.specs.JobBytes.{Between}
use Rattle.lines.specs.declared.Line.{Line}
use Rattle.lines.specs.declared.Line.TheVariants.{Perform, While, If, End, Mark, Other}
use Rattle.listing.specs.Limits.{Fits, WithinLimits}
use Rattle.listing.specs.Listing.{Statement, perform, mark, while, if, Block, done, ◌⨾◌, mark_of, marks_in}
use Rattle.listing.specs.Names.{number_in, letter_in, variables_for, statement_by, block_by}
use Rattle.listing.specs.Reading.{nothing_seen, Fault, first_fault, blocks, first_block, meet_lines, Listing, listing_of, listed, unless, read}
use Rattle.listing.specs.Text.{lines_of, lines_for, lines_in}
use Rattle.listing.specs.Translation.{exit, next}
use Rattle.listing.proofs.Depth.{Shallow, faultless_shallow, depth_lines, depth_by}
use Rattle.listing.proofs.Faultless.{Faultless, faultless, few_names, few_lines, marks_on, marks_once, are_statements}
use Rattle.listing.proofs.Fits.{fits_more}
use Rattle.listing.proofs.Letters.{block_back, lines_letters}
use Rattle.listing.proofs.Lines.{Proper, proper_lines}
use Rattle.listing.proofs.Names.{lines_met, MetLine, block_fits, variables_enough}

-- ---- the marks and the number of lines of a block

marks_append : (a b : List Line) → marks_on (a ++ b) ≡ marks_on a ++ marks_on b
marks_append [] b = refl
marks_append (Perform o ∷ a) b = marks_append a b
marks_append (While t ∷ a) b = marks_append a b
marks_append (If t ∷ a) b = marks_append a b
marks_append (End ∷ a) b = marks_append a b
marks_append (Mark k ∷ a) b = ap (λ l. k ∷ l) (marks_append a b)
marks_append (Other ∷ a) b = marks_append a b

mutual
  marks_statement : (s : Statement) → marks_on (lines_for s) ≡ mark_of s
  marks_statement (perform o) = refl
  marks_statement (mark k) = refl
  marks_statement (while t b) = marks_append (lines_in b) (End ∷ []) ∙ append-nil (marks_on (lines_in b)) ∙ marks_block b
  marks_statement (if t b) = marks_append (lines_in b) (End ∷ []) ∙ append-nil (marks_on (lines_in b)) ∙ marks_block b

  pub marks_block : (b : Block) → marks_on (lines_in b) ≡ marks_in b
  marks_block done = refl
  marks_block (s ⨾ b) = marks_append (lines_for s) (lines_in b) ∙ ap₂ (λ x y. x ++ y) (marks_statement s) (marks_block b)

-- other operands change no mark and no number of a state
module _ (f : ℕ → ℕ) where
  mutual
    marks_by_statement : (s : Statement) → mark_of (statement_by f s) ≡ mark_of s
    marks_by_statement (perform o) = refl
    marks_by_statement (mark k) = refl
    marks_by_statement (while t b) = marks_by b
    marks_by_statement (if t b) = marks_by b

    pub marks_by : (b : Block) → marks_in (block_by f b) ≡ marks_in b
    marks_by done = refl
    marks_by (s ⨾ b) = ap₂ (λ x y. x ++ y) (marks_by_statement s) (marks_by b)

  mutual
    exit_by : (s : Statement) (n : ℕ) → exit (statement_by f s) n ≡ exit s n
    exit_by (perform o) n = refl
    exit_by (mark k) n = refl
    exit_by (while t b) n = next_by b (suc n)
    exit_by (if t b) n = next_by b (suc n)

    pub next_by : (b : Block) (n : ℕ) → next (block_by f b) n ≡ next b n
    next_by done n = refl
    next_by (s ⨾ b) n = ap (λ (m : ℕ). next (block_by f b) (suc m)) (exit_by s n) ∙ next_by b (suc (exit s n))

-- every line makes one state
mutual
  exit_lines : (s : Statement) (n : ℕ) → suc (exit s n) ≡ n + length (lines_for s)
  exit_lines (perform o) n = omega arith
  exit_lines (mark k) n = omega arith
  exit_lines (while t b) n = omega (arith, next_lines b (suc n), length-append (lines_in b) (End ∷ []))
  exit_lines (if t b) n = omega (arith, next_lines b (suc n), length-append (lines_in b) (End ∷ []))

  pub next_lines : (b : Block) (n : ℕ) → next b n ≡ n + length (lines_in b)
  next_lines done n = omega arith
  next_lines (s ⨾ b) n = omega (arith, exit_lines s n, next_lines b (suc (exit s n)), length-append (lines_for s) (lines_in b))

-- ---- what is read

small_marks : (ls : List Line) → Every Proper ls → Every (λ k. k ≤ 63) (marks_on ls)
small_marks [] p = every_none (λ k. k ≤ 63)
small_marks (Perform o ∷ ls) p = small_marks ls (every_tail p)
small_marks (While t ∷ ls) p = small_marks ls (every_tail p)
small_marks (If t ∷ ls) p = small_marks ls (every_tail p)
small_marks (End ∷ ls) p = small_marks ls (every_tail p)
small_marks (Mark k ∷ ls) p = every_cons (λ k. k ≤ 63) (every_head p) (small_marks ls (every_tail p))
small_marks (Other ∷ ls) p = small_marks ls (every_tail p)

-- the lines of a listing
module _ (ls : List Line) (p : Every Proper ls) (f : Faultless ls nothing_seen) where
  abbrev pub lettered : Block
  lettered = first_block (blocks ls)

  pub lines_are : ls ≡ lines_in lettered
  lines_are = are_statements ls p nothing_seen refl f

  abbrev pub names : List ℕ
  names = meet_lines [] ls

  met : Every (MetLine names) (lines_in lettered)
  met = subst (Every (MetLine names)) lines_are (lines_met [] ls)

  -- the letters again
  pub spelled : block_by (letter_in names) (listing_of ls).statements ≡ lettered
  spelled = block_back names lettered met

  pub within_limits : WithinLimits (listing_of ls)
  within_limits =
      let number = number_in names in
      let marks : marks_in (block_by number lettered) ≡ marks_on ls =
      marks_by number lettered ∙ sym (marks_block lettered) ∙ ap marks_on (sym lines_are) in
      let same_lines : length (lines_in lettered) ≡ length ls = ap length (sym lines_are) in
      let shallow = depth_lines lettered (subst (λ l. Shallow l 0) lines_are (faultless_shallow ls nothing_seen f)) in
      record {
        letters = lines_letters [] ls p (every_none (Between 1 26));
        first_met = ap (meet_lines []) (lines_are ∙ ap lines_in (sym spelled));
        names = few_names ls nothing_seen f (omega arith);
        operands = block_fits names lettered (subst (Every Proper) lines_are p) met;
        states = omega (arith, next_by number lettered 1, next_lines lettered 1, same_lines, few_lines ls nothing_seen f (omega arith));
        depth = subst (λ (d : ℕ). d ≤ 16) (sym (depth_by number lettered)) shallow;
        once = subst Distinct (sym marks) (marks_once ls nothing_seen f).distinct;
        marks = subst (Every (λ k. k ≤ 63)) (sym marks) (small_marks ls p);
      }

pub fits_variables : (l : Listing) → WithinLimits l → Fits l.statements (variables_for l.names)
fits_variables l ok = fits_more l.statements (length l.names) (variables_for l.names) (variables_enough l.names) ok.operands

-- a text that is a listing has no fault
pub record LinesRead (text : List ℕ) (l : Listing) : Type 0 where
  pub no_fault : Faultless (lines_of text) nothing_seen
  pub listing_is : l ≡ listing_of (lines_of text)

pub listed_text : (text : List ℕ) (l : Listing) → read text ≡ listed l → LinesRead text l
listed_text text l e = go (first_fault (lines_of text) nothing_seen) refl e
  where
    go : (f : Option Fault) → first_fault (lines_of text) nothing_seen ≡ f → unless f (listing_of (lines_of text)) ≡ listed l → LinesRead text l
    go none w v = record { no_fault = faultless (lines_of text) nothing_seen w; listing_is = let q : l ≡ listing_of (lines_of text) = cc in q }
    go (some f) w v = absurd (let q : ◌≡◌ {A = ℕ} 0 1 = cc in omega arith)

pub read_within : (text : List ℕ) (l : Listing) → read text ≡ listed l → WithinLimits l
read_within text l e =
    let h = listed_text text l e in
    subst WithinLimits (sym h.listing_is) (within_limits (lines_of text) (proper_lines text) h.no_fault)
