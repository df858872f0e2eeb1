-- What the code's answers say of the parsers.
use mathlib.Core.List.{List}
use mathlib.Core.Option.{none, some}
use mathlib.Core.Path.{◌≡◌, refl}
use mathlib.Core.Bool.{Bool}
use Prim.Native.Nat.{ℕ, ◌≤◌, ◌<◌}
use lib.Dec.{T}
use Rattle.lists.proofs.Reflect.{cond_false}
use Rattle.std.specs.Prelude.{Result, IsErrAnd}
use Rattle.std.proofs.lemmas.Result.{err_from_is_err_and}
use Rattle.format.specs.Parser.{Parsed, parsed, fault, Buffer, such, ranged}
use Rattle.format.proofs.Parsing.{ranged_exact}
use Rattle.verdict.specs.Verdict.{reason_of, reached_of}
use Rattle.verdict.specs.declared.Refused.{Refused}
use Rattle.reader.specs.Number.{buffer_of, buffer_in}
use Rattle.reader.specs.declared.Input.{Input}
use Rattle.reader.specs.declared.Input.TheVariants.{Job, Certificate}
use Rattle.reader.specs.declared.Source.{Source}

-- ---- the exit of a `?`: what was refused is handed on

pub handed : {x : Parsed (Unit {0})} (r : Result ℕ Refused) (e : Refused) → IsErrAnd r (λ y. y ≡ e) → fault (reason_of e.refusal) e.place ≡ x → reached_of r ≡ x
handed r e p h = let q = err_from_is_err_and r p in rw (q.1, q.2) h

-- ---- the buffer that is read

bytes_of : (input : Input) (bytes : List ℕ) → (buffer_of input bytes).bytes ≡ bytes
bytes_of Job bytes = refl
bytes_of Certificate bytes = refl

pub bytes_in : (source : Source) → (buffer_in source).bytes ≡ source.bytes.now
bytes_in source = bytes_of source.input source.bytes.now

-- ---- a number in its range

pub in_range : (s : Buffer) (low limit at n next : ℕ) → ranged s low limit at ≡ parsed n next → (low ≤ n) × (n < limit)
in_range s low limit at n next h = ((ranged_exact s low limit).sound at n next h).1

-- a test that the number fails makes nothing of it
pub such_none : (test : ℕ → Bool) (n : ℕ) → ¬ T (test n) → such test n ≡ none
such_none test n h = cond_false (test n) (some n) none h
