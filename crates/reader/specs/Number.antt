-- The code's answers on single numbers as those of the parsers.
use Rattle.std.specs.Prelude.{List, ℕ, Result, Ok, Err}
use Rattle.format.specs.Parser.{Parsed, parsed, fault, Buffer, job_buffer, certificate_buffer}
use Rattle.verdict.specs.Verdict.{reason_of}
use Rattle.verdict.specs.declared.Refused.{Refused}
use Rattle.number.specs.declared.Numeral.{Numeral}
use Rattle.reader.specs.declared.Input.{Input}
use Rattle.reader.specs.declared.Input.TheVariants.{Job, Certificate}
use Rattle.reader.specs.declared.Source.{Source}

-- the bytes of an input as a buffer, with its refusals
abbrev pub buffer_of : Input → List ℕ → Buffer
buffer_of Job bytes = job_buffer bytes
buffer_of Certificate bytes = certificate_buffer bytes

-- the buffer that is read
abbrev pub buffer_in : Source → Buffer
buffer_in s = buffer_of s.input s.bytes.now

abbrev pub ranged_of : Result Numeral Refused → Parsed ℕ
ranged_of (Ok n) = parsed n.value n.next
ranged_of (Err r) = fault (reason_of r.refusal) r.place

-- what a parser answers, without the value
abbrev pub without_value : {A : Type 0} → Parsed A → Parsed (Unit {0})
without_value (parsed x next) = parsed tt next
without_value (fault why place) = fault why place
