-- Numbers below 128 are single bytes.
use mathlib.Core.List.Memᴰ
use mathlib.Core.List.{List, ◌∷◌}
use mathlib.Core.Path.{◌≡◌, refl, sym, ap, ap₂, ◌∙◌}
use Prim.Native.Nat.{ℕ, suc, ◌+◌, ◌<◌}
use native.Mathlib.Omega.{arith}
use lib.ListN.{length, get_or, take, drop}
use lib.Seq.{drop-cons}
use Rattle.number.specs.Number.{number_at, numeral}
use Rattle.number.proofs.Reading.{number_known}
use Rattle.shape.specs.Shape.{AllBelow}
use Rattle.format.proofs.Sequence.{Reads, done, more}

-- a number below 128, at a place
pub record Single (s : List ℕ) (at n next : ℕ) : Type 0 where
  pub inside : at < length s
  pub value : n ≡ get_or s at 0
  pub after : next ≡ at + 1

module _ (s : List ℕ) (at n next : ℕ) (g : number_at s at ≡ numeral n next) where
  pub single : n < 128 → Single s at n next
  single h = let t = number_known s at n next g in record { inside = omega (arith, t.some); value = t.value h; after = t.after h }

module _ {s : List ℕ} where
  -- numbers below 128 are as many bytes
  pub reads_bytes : {at next : ℕ} {ns : List ℕ} → Reads s at ns next → AllBelow 128 ns → (ns ≡ take (length ns) (drop at s)) × (next ≡ at + length ns)
  reads_bytes done small = (refl, omega arith)
  reads_bytes {at} {next} (more {n = n} {mid = mid} {ns = ns} g r) small =
      let t = single s at n mid g (small n (Memᴰ.head refl)) in
      let (same, after) = reads_bytes r (λ x i. small x (Memᴰ.tail i)) in
      let here : drop at s ≡ get_or s at 0 ∷ drop (suc at) s = drop-cons s at 0 t.inside in
      let mid_is : mid ≡ suc at = omega (arith, t.after) in (
        ap₂ ◌∷◌ t.value (same ∙ ap (λ m. take (length ns) (drop m s)) mid_is) ∙ ap (take (suc (length ns))) (sym here),
        omega arith,
      )
