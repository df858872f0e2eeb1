-- One fact as it is read, by its rank.
use Rattle.std.proofs.Math.Option.{Option, none, some}
use Rattle.std.specs.Prelude.{◌≡◌, ℕ, suc, ◌+◌, ◌-◌, ◌*◌, Result}
use Rattle.facts.specs.Facts.{Fact, FactOf}
use Rattle.format.specs.Job.{read_fact}
use Rattle.format.specs.Parser.{Parsed, parsed, fault, Buffer}
use Rattle.verdict.specs.declared.Refused.{Refused}
use Rattle.number.specs.declared.Numeral.{Numeral}
use Rattle.reader.specs.Number.{ranged_of}

-- the rank of a fact, by which facts rise
abbrev pub rank : Fact → ℕ
rank t = t.kind * 256 + (t.left - 3) * 16 + (t.right - 3)

-- the least rank that is due after the last fact about n cells
abbrev pub LeastAfter : ℕ → Option Fact → ℕ → Type 0
LeastAfter n none least = least ≡ 0
LeastAfter n (some t) least = FactOf n t × (least ≡ suc (rank t))

-- a fact that was read, told by its rank
abbrev pub ranked : Parsed Fact → Parsed ℕ
ranked (parsed t next) = parsed (rank t) next
ranked (fault why place) = fault why place

-- the answer is that of reading a fact about n cells, after one that this least rank is due after
abbrev pub FactAnswered : Buffer → ℕ → ℕ → ℕ → Result Numeral Refused → Type 0
FactAnswered s n least at r = (last : Option Fact) → LeastAfter n last least → ranged_of r ≡ ranked (read_fact s n last at)
