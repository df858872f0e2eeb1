-- What a reader of a job reads, in terms of the parsers.
use Rattle.std.specs.Prelude.{ℕ, Option, Some, None, Result, Ok, Err}
use Rattle.format.specs.Parser.{Reason, Parsed, parsed, fault, Parser, onward, ◌>>=◌, ◌>>◌, return, here, Buffer, ranged}
use Rattle.verdict.specs.Verdict.{reason_of}
use Rattle.verdict.specs.declared.Refused.{Refused}
use Rattle.jobreader.specs.declared.Preamble.{Preamble}
use Rattle.jobreader.specs.declared.Unfinished.{Unfinished}

-- what was read last, as the answer of a parser: the number and the place reached after it, or a refusal with its place
abbrev pub last_read_of : Result ℕ Refused → ℕ → Parsed ℕ
last_read_of (Ok n) next = parsed n next
last_read_of (Err r) next = fault (reason_of r.refusal) r.place

-- reading goes on at a place, unless a number was refused: then that is the answer again, and nothing is read
abbrev pub read_on : Option Refused → Parser ℕ → Parser ℕ
read_on None p at = p at
read_on (Some r) p at = fault (reason_of r.refusal) r.place

-- the numbers before the transitions with the place after them, or a refusal with its place
abbrev pub preamble_of : Result Preamble Unfinished → Parsed Preamble
preamble_of (Ok f) = parsed f f.at
preamble_of (Err u) = fault (reason_of u.refused.refusal) u.refused.place

-- The numbers of a job before its transitions, each read after the one before it, and the place after them. Once one is refused, that is all.
unfoldable pub preamble_read : Buffer → Parser Preamble
preamble_read s = do
  ranged s 1 3
  variables ← ranged s 1 9
  states ← ranged s 1 65
  start ← ranged s 0 states
  transitions ← ranged s 0 257
  at ← here
  return (record { variables = variables; states = states; start = start; transitions = transitions; at = at })

-- The numbers before the transitions as far as they were read, and why one was refused, if one was. It and those after it are 0, and the place is
-- its own.
pub record Numbers : Type 0 where
  pub read : Preamble
  pub refused : Option Reason

abbrev pub numbers_of : Result Preamble Unfinished → Numbers
numbers_of (Ok f) = record { read = f; refused = None }
numbers_of (Err u) = record { read = u.read; refused = Some (reason_of u.refused.refusal) }

-- what a parser of a number read: the number, 0 where it was refused; the place after it, or its own where it was refused; and why
abbrev pub number_in : Parsed ℕ → ℕ
number_in (parsed n next) = n
number_in (fault why place) = 0

abbrev pub place_in : Parsed ℕ → ℕ
place_in (parsed n next) = next
place_in (fault why place) = place

abbrev pub reason_in : Parsed ℕ → Option Reason
reason_in (parsed n next) = None
reason_in (fault why place) = Some why

-- The numbers of a job before its transitions, each read after the one before it. Once one is refused, nothing more is read.
unfoldable pub preamble_numbers : Buffer → ℕ → Numbers
preamble_numbers s at =
    let version = ranged s 1 3 at in
    let variables = onward version (λ n. ranged s 1 9) in
    let states = onward variables (λ n. ranged s 1 65) in
    let start = onward states (λ n. ranged s 0 n) in
    let transitions = onward start (λ n. ranged s 0 257) in
    record {
      read = record {
        variables = number_in variables;
        states = number_in states;
        start = number_in start;
        transitions = number_in transitions;
        at = place_in transitions;
      };
      refused = reason_in transitions;
    }
