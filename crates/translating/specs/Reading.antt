-- What the steps of the reading do to the position, whatever is open around them.
use Rattle.std.specs.Prelude.{Option, None, Some, Result, Ok, Err, List, [], ◌∷◌, ◌++◌, ◌≡◌, ℕ, suc, ◌≤◌, ◌<◌, length, take, drop}
use Rattle.lines.specs.declared.Line.{Line}
use Rattle.lines.specs.declared.Line.TheVariants.{Perform, While, If, End, Mark, Other}
use Rattle.lines.specs.declared.Operation.{Operation}
use Rattle.listing.specs.LineByLine.{Open, Outcome, reached, refused, numbered, arrow_numbers, limited, closed, advance, go_on}
use Rattle.listing.specs.Names.{meet, number_in}
use Rattle.listing.specs.Text.{lines_of}
use Rattle.translating.specs.Work.{fault_number, open_of, transitions_in, position_of, WorkWithin}
use Rattle.translating.specs.declared.Fault.TheVariants.{Limits}
use Rattle.translating.specs.declared.Refusal.{Refusal}
use Rattle.translating.specs.declared.blocks.Block.{Block}
use Rattle.translating.specs.declared.blocks.Block.TheVariants as block
use Rattle.translating.specs.declared.blocks.Statement.{Statement}
use Rattle.translating.specs.declared.blocks.Statement.TheVariants as statement
use Rattle.translating.specs.declared.names.Met.{Met}
use Rattle.translating.specs.declared.names.Numbered.{Numbered}
use Rattle.translating.specs.declared.steps.Begun.{Begun}
use Rattle.translating.specs.declared.steps.Begun.TheVariants as begun
use Rattle.translating.specs.declared.steps.Open as declared
use Rattle.translating.specs.declared.steps.Progress.{Progress}
use Rattle.translating.specs.declared.steps.Work.{Work}

-- The letters after an operand is met, and the operand's number; none if it would be the ninth name.
pub record LetterMet (before : List ℕ) (met operand : ℕ) (r : Met) (after : List ℕ) : Type 0 where
  pub size : length after ≡ 8
  pub few : r.met ≤ 8
  pub names : take r.met after ≡ meet (take met before) operand
  pub number : r.number ≡ number_in (take r.met after) operand

abbrev pub LettersMet : List ℕ → ℕ → ℕ → Option Met → List ℕ → Type 0
LettersMet before met operand None after = 8 < length (meet (take met before) operand)
LettersMet before met operand (Some r) after = LetterMet before met operand r after

-- the same of an operation
abbrev pub names_after : List ℕ → Operation → List ℕ
names_after names o = meet (meet names o.a) o.b

pub record OperandsMet (before : List ℕ) (met : ℕ) (o : Operation) (r : Numbered) (after : List ℕ) : Type 0 where
  pub size : length after ≡ 8
  pub few : r.met ≤ 8
  pub names : take r.met after ≡ names_after (take met before) o
  pub operation : r.operation ≡ numbered (take r.met after) o

abbrev pub Numbers : List ℕ → ℕ → Operation → Option Numbered → List ℕ → Type 0
Numbers before met o None after = 8 < length (names_after (take met before) o)
Numbers before met o (Some r) after = OperandsMet before met o r after

-- a transition is put after those that are there
pub record Adds (before : List ℕ) (count from : ℕ) (o : Operation) (to : ℕ) (after : List ℕ) : Type 0 where
  pub size : length after ≡ 635
  pub all : transitions_in (suc count) after ≡ transitions_in count before ++ arrow_numbers from o to

-- a step by an operation to a new state
abbrev pub Leads : Progress → ℕ → Operation → List ℕ → Result Progress Refusal → List ℕ → Type 0
Leads p met o before (Ok q) after =
    (p.passed ≤ 62) × (q ≡ record { at = p.at; passed = suc p.passed; count = suc p.count; met = met })
    × Adds before p.count p.passed o (suc p.passed) after
Leads p met o before (Err r) after = (62 < p.passed) × (r ≡ record { fault = Limits; line = suc p.passed })

-- the line does this to every position with so many open
abbrev pub LineSteps : ℕ → Line → Progress → Work → (List Open → Outcome) → Type 0
LineSteps depth line p w to = (opens : List Open) → length opens ≡ depth → advance line (position_of p w opens) ≡ to opens

-- reading goes on within bounds, from the same place in the text
abbrev pub Kept : Progress → Progress → Work → Type 0
Kept p q w = WorkWithin q w × (q.at ≡ p.at)

abbrev pub Begins : ℕ → Line → Progress → Work → Result Begun Refusal → Work → Type 0
Begins depth line p w (Ok (begun.On q)) w' = Kept p q w' × LineSteps depth line p w (λ os. reached (position_of q w' os))
Begins depth line p w (Ok (begun.Opened q o)) w' =
    Kept p q w' × (depth < 16) × (o.state < 64) × LineSteps depth line p w (λ os. reached (position_of q w' (open_of o ∷ os)))
Begins depth line p w (Ok begun.Ended) w' = (line ≡ End) × (w' ≡ w)
Begins depth line p w (Err r) w' = LineSteps depth line p w (λ os. refused (fault_number r.fault) r.line)

-- `mark k` has a k that the array of states has room for
abbrev pub MarkIn : Line → Type 0
MarkIn (Perform o) = Unit {0}
MarkIn (While t) = Unit {0}
MarkIn (If t) = Unit {0}
MarkIn End = Unit {0}
MarkIn (Mark k) = k ≤ 63
MarkIn Other = Unit {0}

-- the end of a block that o opened, inside what else is open
abbrev pub Closes : Progress → Work → declared.Open → Result Progress Refusal → Work → Type 0
Closes p w o (Ok q) w' =
    Kept p q w' × ((inner opens : List Open) → limited (closed (open_of o) opens (position_of p w inner)) ≡ reached (position_of q w' opens))
Closes p w o (Err r) w' =
    (inner opens : List Open) → limited (closed (open_of o) opens (position_of p w inner)) ≡ refused (fault_number r.fault) r.line

-- from lines at a position, whatever is open, the reading comes to the same
abbrev pub Comes : ℕ → List Line → Progress → Work → (List Open → Outcome) → Type 0
Comes depth ls p w to = (opens : List Open) → length opens ≡ depth → go_on ls (position_of p w opens) ≡ to opens

-- reading goes on within bounds, further on in the text
pub record Further (text : List ℕ) (p q : Progress) (w : Work) : Type 0 where
  pub within : WorkWithin q w
  pub on : p.at ≤ q.at
  pub inside : q.at ≤ length text

abbrev pub rest_from : List ℕ → Progress → List Line
rest_from text p = lines_of (drop p.at text)

abbrev pub BlockRead : List ℕ → ℕ → Progress → Work → Result Block Refusal → Work → Type 0
BlockRead text depth p w (Ok (block.Over q)) w' = WorkWithin q w' × Comes depth (rest_from text p) p w (λ os. go_on [] (position_of q w' os))
BlockRead text depth p w (Ok (block.Ended q)) w' =
    Further text p q w' × Comes depth (rest_from text p) p w (λ os. go_on (End ∷ rest_from text q) (position_of q w' os))
BlockRead text depth p w (Err r) w' = Comes depth (rest_from text p) p w (λ os. refused (fault_number r.fault) r.line)

abbrev pub StatementRead : List ℕ → Line → ℕ → Progress → Work → Result Statement Refusal → Work → Type 0
StatementRead text line depth p w (Ok (statement.On q)) w' =
    Further text p q w' × Comes depth (line ∷ rest_from text p) p w (λ os. go_on (rest_from text q) (position_of q w' os))
StatementRead text line depth p w (Ok (statement.Ended q)) w' =
    Further text p q w' × Comes depth (line ∷ rest_from text p) p w (λ os. go_on (End ∷ rest_from text q) (position_of q w' os))
StatementRead text line depth p w (Err r) w' = Comes depth (line ∷ rest_from text p) p w (λ os. refused (fault_number r.fault) r.line)
