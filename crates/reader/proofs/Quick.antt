-- An entry whose numbers are one byte each, and in range, is read up to its facts.
use mathlib.Core.List.{List}
use mathlib.Core.Option.{none, some}
use mathlib.Core.Path.{◌≡◌, refl, sym, ap, subst, ◌∙◌}
use Prim.Native.Nat.{ℕ, zero, suc, ◌+◌, ◌-◌, ◌≤◌, ◌<◌}
use native.Mathlib.Omega.{arith}
use lib.ListN.{length, get_or, take, drop, length-drop}
use lib.Seq.{length-take-le}
use Rattle.std.specs.Prelude.{EachIndex}
use Rattle.std.proofs.lemmas.List.{get_or-take, get_or-drop}
use Rattle.lists.proofs.Reflect.{r_le, r_lt, r_and, cond_true}
use Rattle.number.proofs.Reading.{one_byte}
use Rattle.format.specs.Job.{read_facts, read_located}
use Rattle.format.specs.Parser.{parsed, Buffer, within, such, many, ranged}
use Rattle.format.proofs.Parsing.{read_complete}
use Rattle.reader.specs.Number.{without_value}
use Rattle.reader.proofs.Entries.{facts_last}
use Rattle.reader.proofs.Many.{more}

-- what holds of each of m bytes from a place on
pub each_from : (l : List ℕ) (a m limit : ℕ) → a + m ≤ length l → EachIndex (take m (drop a l)) (λ i. get_or (take m (drop a l)) i 0 < limit)
    → (i : ℕ) → i < m → get_or l (a + i) 0 < limit
each_from l a m limit room below i h =
    let size : length (take m (drop a l)) ≡ m = length-take-le m (drop a l) (omega (arith, length-drop a l)) in
    let here : get_or (take m (drop a l)) i 0 ≡ get_or l (a + i) 0 = get_or-take m (drop a l) i 0 h ∙ get_or-drop a l i 0 in
    let less : i < length (take m (drop a l)) = omega arith in
    subst (λ (k : ℕ). k < limit) here (below i less)

module _ (s : Buffer) where
  -- a number of one byte
  byte_read : (limit at : ℕ) → at < length s.bytes → get_or s.bytes at 0 < 128 → get_or s.bytes at 0 < limit
      → ranged s 0 limit at ≡ parsed (get_or s.bytes at 0) (at + 1)
  byte_read limit at inside small h =
      let n = get_or s.bytes at 0 in
      read_complete s (such (within 0 limit)) at n (at + 1) n (sym (one_byte s.bytes at n refl inside small))
      (cond_true (within 0 limit n) (some n) none ((r_and (r_le 0 n) (r_lt n limit)).tests (omega arith, h)))

  -- so many of them
  bytes_read : (limit k at : ℕ) → limit ≤ 128 → at + k ≤ length s.bytes → ((i : ℕ) → at ≤ i → i < at + k → get_or s.bytes i 0 < limit)
      → without_value (many k (ranged s 0 limit) at) ≡ parsed tt (at + k)
  unfolding many
  bytes_read limit zero at small inside h = let e : at ≡ at + 0 = omega arith in ap (parsed tt) e
  bytes_read limit (suc k) at small inside h =
      let e : at + 1 + k ≡ at + suc k = omega arith in
      let b : get_or s.bytes at 0 < limit = h at (omega arith) (omega arith) in
      more (ranged s 0 limit) k at (at + 1) (ap without_value (byte_read limit at (omega arith) (omega arith) b))
      ∙ bytes_read limit k (at + 1) small (omega arith) (λ i l m. h i (omega arith) (omega arith)) ∙ ap (parsed tt) e

  pub entry_quick : (version variables states at : ℕ) → get_or s.bytes at 0 < 128 → get_or s.bytes at 0 < states → get_or s.bytes (at + 1) 0 ≤ 12
      → at + 2 + variables + get_or s.bytes (at + 1) 0 ≤ length s.bytes
      → ((i : ℕ) → i < variables + get_or s.bytes (at + 1) 0 → get_or s.bytes (at + 2 + i) 0 < 3 + get_or s.bytes (at + 1) 0)
      → without_value (read_located version s variables states at)
      ≡ without_value (read_facts s (get_or s.bytes (at + 1) 0) version (at + 2 + variables + get_or s.bytes (at + 1) 0))
  entry_quick version variables states at small state cells inside below =
      let n = get_or s.bytes (at + 1) 0 in
      let end = at + 2 + variables + n in
      let e : at + 1 + 1 ≡ at + 2 = omega arith in
      let code : (i : ℕ) → at + 2 ≤ i → i < end → get_or s.bytes i 0 < 3 + n = λ i l h.
      let i_is : at + 2 + (i - (at + 2)) ≡ i = omega arith in
      subst (λ (k : ℕ). get_or s.bytes k 0 < 3 + n) i_is (below (i - (at + 2)) (omega arith)) in
      let size : ranged s 0 13 (at + 1) ≡ parsed n (at + 2) = byte_read 13 (at + 1) (omega arith) (omega arith) (omega arith) ∙ ap (parsed n) e in
      sym
      (facts_last version s variables states at (byte_read states at (omega arith) small state) size
      (bytes_read (3 + n) variables (at + 2) (omega arith) (omega arith) (λ i l h. code i l (omega arith)))
      (bytes_read (3 + n) n (at + 2 + variables) (omega arith) (omega arith) (λ i l h. code i (omega arith) h)))
