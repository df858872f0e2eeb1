-- What the reading keeps in arrays, and the position of the definitions that it stands for.
use Rattle.std.specs.Prelude.{List, ℕ, ◌*◌, ◌≤◌, ◌≡◌, length, take, drop}
use Rattle.listing.specs.LineByLine.{Open, LinePosition}
use Rattle.translating.specs.declared.Fault.{Fault}
use Rattle.translating.specs.declared.Fault.TheVariants.{Grammar, Nesting, Limits}
use Rattle.translating.specs.declared.steps.Open as declared
use Rattle.translating.specs.declared.steps.Progress.{Progress}
use Rattle.translating.specs.declared.steps.Work.{Work}

-- Document 02, wish 4: "A line outside the grammar, an `end` with nothing open or one missing (at the line after the last) gets 17, deeper
-- nesting 18, more than 8 names or 64 states 19".
abbrev pub fault_number : Fault → ℕ
fault_number Grammar = 17
fault_number Nesting = 18
fault_number Limits = 19

abbrev pub open_of : declared.Open → Open
open_of o = record { loops = o.loops; test = o.test; state = o.state }

-- so many transitions, five numbers each
abbrev pub transitions_in : ℕ → List ℕ → List ℕ
transitions_in count job = take (5 * count) (drop 5 job)

-- the position, where these are open
abbrev pub position_of : Progress → Work → List Open → LinePosition
position_of p w opens =
    record {
      passed = p.passed;
      names = take p.met w.letters;
      opens = opens;
      count = p.count;
      transitions = transitions_in p.count w.job;
      marks = w.states;
    }

-- a line brings one state, at most two transitions and, while it is not refused, no ninth name
pub record WorkWithin (p : Progress) (w : Work) : Type 0 where
  pub passed : p.passed ≤ 63
  pub count : p.count ≤ 2 * p.passed
  pub met : p.met ≤ 8
  pub job : length w.job ≡ 635
  pub letters : length w.letters ≡ 8
  pub states : length w.states ≡ 64
