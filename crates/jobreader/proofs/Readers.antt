-- A reader that reads one number after the other: what it has read is what the parsers read, each after the one before it.
use mathlib.Core.Path.{◌≡◌, refl, sym, ap, ◌∙◌}
use Prim.Native.Nat.{ℕ}
use Rattle.std.specs.Prelude.{Option, Some, None, Result, Ok, Err, OnErr, option_map}
use Rattle.std.specs.Result.{result_err, result_unwrap_or}
use Rattle.format.specs.Parser.{Reason, Parsed, parsed, fault, Parser, onward, Buffer, within, such, ranged}
use Rattle.format.proofs.Parsing.{read_fault}
use Rattle.verdict.specs.Verdict.{reason_of}
use Rattle.verdict.specs.declared.Refused.{Refused}
use Rattle.jobreader.specs.Reader.{last_read_of, read_on, number_in, place_in, reason_in}
use Rattle.jobreader.specs.declared.Reader.{Reader}

-- the reader has read x last, and gave r: it stands at the place of x, and is refused where x is
pub record Told (x : Parsed ℕ) (r : Result ℕ Refused) (reader : Reader) : Type 0 where
  pub answer : last_read_of r reader.at ≡ x
  pub place : reader.at ≡ place_in x
  pub kept : reader.refused ≡ result_err r

-- what it reads next is read after x
read_after : (p : Parser ℕ) (r : Result ℕ Refused) (reader : Reader) {x : Parsed ℕ} → Told x r reader → read_on reader.refused p reader.at ≡ onward x (λ n. p)
read_after p (Ok n) reader t = rw (t.kept, ← t.answer) refl
read_after p (Err e) reader t = rw (t.kept, ← t.answer) refl

module _ (s : Buffer) (low limit : ℕ) where
  -- a refusal has the place that was reached
  refused_place : (x : Parsed ℕ) {why : Reason} {place : ℕ} → fault why place ≡ onward x (λ n. ranged s low limit) → place_in x ≡ place
  refused_place (parsed n at) {why} {place} e = (read_fault s (such (within low limit)) at why place (sym e)).0
  refused_place (fault k q) e = cc

  -- the reader stands at the place of what it has read
  stands : (x : Parsed ℕ) (r : Result ℕ Refused) (old new : ℕ) → last_read_of r new ≡ onward x (λ n. ranged s low limit) → OnErr r (new ≡ old) → old ≡ place_in x
      → new ≡ place_in (onward x (λ n. ranged s low limit))
  stands x (Ok n) old new e stays at = ap place_in e
  stands x (Err f) old new e stays at = stays ∙ at ∙ refused_place x e ∙ ap place_in e

  pub told_next : {x : Parsed ℕ} {r₀ r : Result ℕ Refused} {old new : Reader} → Told x r₀ old
      → last_read_of r new.at ≡ read_on old.refused (ranged s low limit) old.at → OnErr r (new.at ≡ old.at) → new.refused ≡ result_err r
      → Told (onward x (λ n. ranged s low limit)) r new
  told_next {x} {r₀} {r} {old} {new} t number stays kept =
      let answer : last_read_of r new.at ≡ onward x (λ n. ranged s low limit) = number ∙ read_after (ranged s low limit) r₀ old t in
      record { answer = answer; place = stands x r old.at new.at answer stays t.place; kept = kept }

-- ---- what is told of it

number_told : (r : Result ℕ Refused) (at : ℕ) → result_unwrap_or r 0 ≡ number_in (last_read_of r at)
number_told (Ok n) at = refl
number_told (Err e) at = refl

pub number_is : {x : Parsed ℕ} {r : Result ℕ Refused} {reader : Reader} → Told x r reader → result_unwrap_or r 0 ≡ number_in x
number_is {x} {r} {reader} t = number_told r reader.at ∙ ap number_in t.answer

-- a limit that is the number read
pub limited : (x : Parsed ℕ) (p : ℕ → Parser ℕ) → onward x (λ n. p (number_in x)) ≡ onward x p
limited (parsed n at) p = refl
limited (fault why place) p = refl

abbrev pub why_of : Option Refused → Option Reason
why_of o = option_map (λ e. reason_of e.refusal) o

reason_told : (r : Result ℕ Refused) (at : ℕ) → why_of (result_err r) ≡ reason_in (last_read_of r at)
reason_told (Ok n) at = refl
reason_told (Err e) at = refl

pub reason_is : {x : Parsed ℕ} {r : Result ℕ Refused} {reader : Reader} → Told x r reader → why_of reader.refused ≡ reason_in x
reason_is {x} {r} {reader} t = ap why_of t.kept ∙ reason_told r reader.at ∙ ap reason_in t.answer

-- a refused reader stands at the place of its refusal
pub refused_at : {x : Parsed ℕ} (r : Result ℕ Refused) {reader : Reader} {e : Refused} → Told x r reader → reader.refused ≡ Some e → reader.at ≡ e.place
refused_at (Ok n) {reader} {e} t is = let z : None ≡ Some e = sym t.kept ∙ is in cc
refused_at (Err f) {reader} {e} t is =
    let z : Some f ≡ Some e = sym t.kept ∙ is in
    let same : f ≡ e = cc in
    t.place ∙ sym (ap place_in t.answer) ∙ ap (λ y. y.place) same
