-- Numbers that stand one after the other in a buffer.
use mathlib.Core.List.{List, [], ◌∷◌, ◌++◌}
use mathlib.Core.Path.{◌≡◌, refl, sym, ap, ap₂, ◌∙◌}
use Prim.Native.Nat.{ℕ, zero, suc, ◌+◌, ◌-◌, ◌≤◌, ◌<◌}
use native.Mathlib.Omega.{arith}
use lib.ListN.{length}
use Rattle.lists.proofs.Reflect.{r_lt, cond_cases}
use Rattle.std.specs.Prelude.{Ok, Err}
use Rattle.number.specs.Number.{number_in, number_at, Read, no_numeral, numeral}
use Rattle.number.specs.NumberList.{DecodedList, numbers, refused, with_number, followed, decode_from, decode}
use Rattle.number.proofs.Reading.{same_value, same_next, known_number}
use Rattle.number.proofs.RoundTrip.{decode_more, decode_end}

-- the numbers ns are read one after the other from a place to the next
pub data Reads (s : List ℕ) : ℕ → List ℕ → ℕ → Type 0 where
  done : {at : ℕ} → Reads s at [] at
  more : {at n mid next : ℕ} {ns : List ℕ} → number_at s at ≡ numeral n mid → Reads s mid ns next → Reads s at (n ∷ ns) next

module _ {s : List ℕ} where
  pub one : {at n next : ℕ} → number_at s at ≡ numeral n next → Reads s at (n ∷ []) next
  one g = more g done

  pub reads_none : {at next : ℕ} → Reads s at [] next → at ≡ next
  reads_none done = refl

  pub reads_first : {at n next : ℕ} {ns : List ℕ} → Reads s at (n ∷ ns) next → (mid : ℕ) × (number_at s at ≡ numeral n mid) × Reads s mid ns next
  reads_first (more {mid = k} g r) = (k, g, r)

  pub reads_one : {at n next : ℕ} → Reads s at (n ∷ []) next → number_at s at ≡ numeral n next
  reads_one r = let (mid, g, e) = reads_first r in rw (reads_none e) at g

  pub reads_append : {at mid next : ℕ} {ns ms : List ℕ} → Reads s at ns mid → Reads s mid ms next → Reads s at (ns ++ ms) next
  reads_append done r = r
  reads_append (more g k) r = more g (reads_append k r)

  pub reads_split : {at next : ℕ} (ns : List ℕ) {ms : List ℕ} → Reads s at (ns ++ ms) next → (mid : ℕ) × Reads s at ns mid × Reads s mid ms next
  reads_split {at = at} [] r = (at, done, r)
  reads_split {at = at} (n ∷ ns) r =
      let (k, g, q) = reads_first r in
      let (mid, a, b) = reads_split {at = k} ns q in
      (mid, more g a, b)

-- a number has a byte of the buffer, the next place is further on, and not past the end
pub number_in_lem : (at left a b c n next : ℕ) → number_in at left a b c ≡ numeral n next → (0 < left) × (at < next) × (next ≤ at + left)
number_in_lem at left a b c n next e = let t = known_number at left a b c n next e in (t.some, t.on, t.inside)

pub reads_on : {s : List ℕ} {at next : ℕ} {ns : List ℕ} → Reads s at ns next → at ≤ next
reads_on done = omega arith
reads_on (more {at = a} {n = n} {mid = k} g r) = let (_, b, _) = number_in_lem a _ _ _ _ n k g in let c = reads_on r in omega arith

-- each number has a byte at least
pub reads_long : {s : List ℕ} {at next : ℕ} {ns : List ℕ} → Reads s at ns next → at + length ns ≤ next
reads_long done = omega arith
reads_long (more {at = a} {n = n} {mid = k} g r) = let (_, b, _) = number_in_lem a _ _ _ _ n k g in let c = reads_long r in omega arith

-- what is read does not go past the end
pub reads_inside : {s : List ℕ} {at next : ℕ} {ns : List ℕ} → Reads s at ns next → at ≤ length s → next ≤ length s
reads_inside done i = i
reads_inside (more {at = a} {n = n} {mid = k} g r) i = let (_, _, b) = number_in_lem a _ _ _ _ n k g in reads_inside r (omega arith)

-- the same numbers from one place end at one place
pub reads_place : {s : List ℕ} {at p q : ℕ} {ns : List ℕ} → Reads s at ns p → Reads s at ns q → p ≡ q
reads_place done r = reads_none r
reads_place (more {mid = k} g r) q =
    let (k', g', q') = reads_first q in
    let k_is : k' ≡ k = same_next (sym g' ∙ g) in
    reads_place r (rw k_is at q')

-- of two readings from one place, the one that goes further goes on where the other ends
pub reads_further : {s : List ℕ} {at p q : ℕ} {ns ms : List ℕ} → Reads s at ns p → Reads s at ms q → p < q
    → (n : ℕ) × (later : List ℕ) × (next : ℕ) × (ms ≡ ns ++ (n ∷ later)) × (number_at s p ≡ numeral n next)
reads_further {at = at} done done h = absurd (omega arith)
reads_further done (more {n = n} {mid = k} {ns = ns} g r) h = (n, ns, k, refl, g)
reads_further (more {at = a} {n = n} {mid = k} g r) done h = let (_, b, _) = number_in_lem a _ _ _ _ n k g in let c = reads_on r in absurd (omega arith)
reads_further (more {n = n} {mid = k} g r) (more {n = n'} {mid = k'} g' r') h =
    let k_is : k' ≡ k = same_next (sym g' ∙ g) in
    let n_is : n' ≡ n = same_value (sym g' ∙ g) in
    let (m, later, next, e, x) = reads_further r (rw k_is at r') h in
    (m, later, next, ap₂ {A = ℕ} {B = List ℕ} {C = List ℕ} (λ h l. h ∷ l) n_is e, x)

-- what is read beyond a place goes over the number there
pub reads_over : {s : List ℕ} {at p q n next : ℕ} {ns ms : List ℕ} → Reads s at ns p → Reads s at ms q → p < q → number_at s p ≡ numeral n next → next ≤ q
reads_over {at = at} done done b g = absurd (omega arith)
reads_over {next = next} done (more {mid = k} h r) b g = let k_is : k ≡ next = same_next (sym h ∙ g) in let on = reads_on r in omega arith
reads_over (more {at = at} {n = m} {mid = k} h r) done b g = let (_, on, _) = number_in_lem at _ _ _ _ m k h in let on' = reads_on r in absurd (omega arith)
reads_over (more {mid = k} h r) (more {mid = k'} h' r') b g = let k_is : k' ≡ k = same_next (sym h' ∙ h) in reads_over r (rw k_is at r') b g

module _ (s : List ℕ) where
  reads_from : (turns at : ℕ) (ns : List ℕ) (next : ℕ) → Reads s at ns next → length s ≤ next → length s - at ≤ turns → decode_from turns s at ≡ numbers ns
  reads_from turns at [] next r h t = decode_end turns s at (omega (arith, reads_none r))
  reads_from zero at (n ∷ ns) next r h t =
      let (mid, g, k) = reads_first r in
      let (some_left, on, _) = number_in_lem at (length s - at) _ _ _ n mid g in
      absurd (omega arith)
  reads_from (suc turns) at (n ∷ ns) next r h t =
      let (mid, g, k) = reads_first r in
      let (some_left, on, _) = number_in_lem at (length s - at) _ _ _ n mid g in
      decode_more turns s at (omega arith) ∙ ap (followed (decode_from turns s)) g ∙ ap (with_number n) (reads_from turns mid ns next k h (omega arith))

  -- what is read to the end is the list of numbers
  pub reads_decode : (ns : List ℕ) (next : ℕ) → Reads s 0 ns next → length s ≤ next → decode s ≡ numbers ns
  reads_decode ns next r h = reads_from (length s) 0 ns next r h (omega arith)

  Done : ℕ → List ℕ → Type 0
  Done at ns = (next : ℕ) × Reads s at ns next × (length s ≤ next)

  at_end : (at : ℕ) (ns : List ℕ) → ¬ (at < length s) → numbers [] ≡ numbers ns → Done at ns
  unfolding Done
  at_end at ns l e = let ns_is : [] ≡ ns = cc in (at, rw (← ns_is) done, omega arith)

  decode_from_lem : (turns at : ℕ) (ns : List ℕ) → decode_from turns s at ≡ numbers ns → Done at ns
  unfolding Done decode_from
  decode_from_lem zero at ns e =
      cond_cases (λ x. x ≡ numbers ns → Done at ns) (r_lt at (length s)) (λ _ z. let q : ◌≡◌ {A = ℕ} 0 1 = cc in absurd (omega arith)) (at_end at ns) e
  decode_from_lem (suc turns) at ns e =
      cond_cases (λ x. x ≡ numbers ns → Done at ns) (r_lt at (length s)) (λ _. by_number (number_at s at) refl (decode_from_lem turns)) (at_end at ns) e
    where
      by_rest : (n mid : ℕ) → number_at s at ≡ numeral n mid → (r : DecodedList) → decode_from turns s mid ≡ r
          → ((ms : List ℕ) → decode_from turns s mid ≡ numbers ms → Done mid ms) → with_number n r ≡ numbers ns → Done at ns
      by_rest n mid g (refused p) h rest z = let q : ◌≡◌ {A = ℕ} 0 1 = cc in absurd (omega arith)
      by_rest n mid g (numbers ms) h rest z =
          let (next, r, l) = rest ms h in
          let ns_is : n ∷ ms ≡ ns = cc in
          (next, rw (← ns_is) (more g r), l)

      by_number : (r : Read) → number_at s at ≡ r → ((mid : ℕ) (ms : List ℕ) → decode_from turns s mid ≡ numbers ms → Done mid ms)
          → followed (decode_from turns s) r ≡ numbers ns → Done at ns
      by_number (Ok r) g rest z = by_rest r.value r.next g (decode_from turns s r.next) refl (rest r.next) z
      by_number (Err p) g rest z = let q : ◌≡◌ {A = ℕ} 0 1 = cc in absurd (omega arith)

  pub decode_reads : (ns : List ℕ) → decode s ≡ numbers ns → (next : ℕ) × Reads s 0 ns next × (length s ≤ next)
  unfolding Done
  decode_reads ns e = decode_from_lem (length s) 0 ns e
