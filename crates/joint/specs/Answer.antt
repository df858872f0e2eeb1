-- The code's answer on two pairs as that of the definitions, and what a host is told.
use Rattle.std.specs.Prelude.{Bool, ◌&&◌, ◌||◌, not, List, [], ◌∷◌, ℕ, eqb, Result, Ok, Err}
use Rattle.std.proofs.Math.Option.{Option, none, some}
use Rattle.lists.specs.List.{any_of}
use Rattle.shape.specs.Shape.{Shape}
use Rattle.run.specs.Run.{Located}
use Rattle.format.specs.Parser.{reason_number}
use Rattle.format.specs.Verdict.{Counts}
use Rattle.joining.specs.Conditions.{JoinMeans}
use Rattle.joining.specs.Join.{Joining, both, pair_refused, joint_refused, same_shape}
use Rattle.number.specs.CallResult.{CallResult}
use Rattle.verdict.specs.Verdict.{reason_of, counts_told, rule_told, name_told}
use Rattle.joint.specs.declared.JoinCounts.{JoinCounts}
use Rattle.joint.specs.declared.JoinRefusal.{JoinRefusal}
use Rattle.joint.specs.declared.JoinRefusal.TheVariants.{First, Second, Joint}
use Rattle.joint.specs.declared.JointRefusal.{JointRefusal}
use Rattle.joint.specs.declared.JointRefusal.TheVariants.{Outside, VariablesDiffer, GoesOn, NotListed}

-- document 02's number of what falls where both pairs are accepted
abbrev pub joint_number : JointRefusal → ℕ
joint_number Outside = 24
joint_number VariablesDiffer = 25
joint_number GoesOn = 26
joint_number NotListed = 27

-- the answer of the definitions that an answer of the code is
abbrev pub joining_of : Result JoinCounts JoinRefusal → Joining
joining_of (Ok c) = both (counts_told c.first) (counts_told c.second)
joining_of (Err (First r)) = pair_refused 1 (reason_of r.refusal) r.place
joining_of (Err (Second r)) = pair_refused 2 (reason_of r.refusal) r.place
joining_of (Err (Joint r)) = joint_refused (joint_number r)

-- the number of what falls; none where the two are to be joined
abbrev pub falls_of : Result (Unit {0}) JointRefusal → Option ℕ
falls_of (Ok joins) = none
falls_of (Err r) = some (joint_number r)

-- the shape is one of these at the state
abbrev pub listed_among : ℕ → List Located → Shape → Bool
listed_among state bads s = any_of (λ bad. eqb bad.state state && same_shape bad.shape s) bads

-- a member at this start is listed among them
abbrev pub is_settled : ℕ → List Located → ℕ → Located → Bool
is_settled state bads start m = not (eqb m.state start) || listed_among state bads m.shape

-- What a host is told: 0 with the four counts of the first pair and those of the second; the number of a pair's refusal with the pair, the place, the
-- rule that broke, the name and zeros; 24 to 27 with zeros.
abbrev pub join_result : Joining → CallResult
join_result (both a b) =
    record { code = 0; values = a.bads ∷ a.members ∷ a.covers ∷ a.links ∷ b.bads ∷ b.members ∷ b.covers ∷ b.links ∷ [] }
join_result (pair_refused n why place) = record { code = reason_number why; values = n ∷ place ∷ rule_told why ∷ name_told why ∷ 0 ∷ 0 ∷ 0 ∷ 0 ∷ [] }
join_result (joint_refused n) = record { code = n; values = 0 ∷ 0 ∷ 0 ∷ 0 ∷ 0 ∷ 0 ∷ 0 ∷ 0 ∷ [] }

-- both pairs are to be accepted, the second without 8, and none of 24 to 27 falls
abbrev pub Joinable : List ℕ → List ℕ → List ℕ → List ℕ → ℕ → Type 0
Joinable job₁ cert₁ job₂ cert₂ state = (a : Counts) × (b : Counts) × JoinMeans job₁ cert₁ job₂ cert₂ state (both a b)
