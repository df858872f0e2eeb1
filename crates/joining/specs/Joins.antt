-- What is asked of two jobs that are joined, beside what is asked of each with its certificate.
use Rattle.std.specs.Prelude.{List, ◌≢◌, ◌≡◌, ℕ, ◌<◌}
use Rattle.lists.specs.List.{◌∈◌, Every}
use Rattle.run.specs.Run.{Located, Job}
use Rattle.joining.specs.Joined.{Joint}

-- the states that a job names are below this number
pub record StatesBelow (states : ℕ) (j : Job) : Type 0 where
  pub start : j.start < states
  pub from : Every (λ t. t.from < states) j.transitions
  pub to : Every (λ t. t.to < states) j.transitions
  pub forbidden : Every (λ bad. bad.state < states) j.forbidden

-- 26: "The first has no transition from that state, not even to itself."
abbrev pub Ends : Joint → Type 0
Ends p = Every (λ t. t.from ≢ p.handover) p.first.transitions

-- the shape is "listed, equal number for number [..], as forbidden by the first at the hand-over"
abbrev pub ListedByFirst : Joint → Located → Type 0
ListedByFirst p m = record { state = p.handover; shape = m.shape } ∈ p.first.forbidden

-- 27: "its members at its start are owed: each must be listed"
abbrev pub OwedListed : Joint → List Located → Type 0
OwedListed p members = Every (λ m. m.state ≡ p.second.start → ListedByFirst p m) members

-- "24 for a state outside the first job, 25 for different numbers of variables, 26 for a transition from there, 27 for an owed shape not listed": none
-- of them falls. The members are those of the second.
pub record Joins (p : Joint) (members : List Located) : Type 0 where
  pub inside : p.handover < p.states
  pub variables : p.first.variables ≡ p.second.variables
  pub ends : Ends p
  pub listed : OwedListed p members
