-- Reading and writing undo each other.
use mathlib.Core.List.{List, [], ◌∷◌, ◌++◌}
use mathlib.Core.Path.{◌≡◌, refl, sym, ap, ◌∙◌}
use Prim.Native.Nat.{ℕ, zero, suc, ◌+◌, ◌-◌, ◌*◌, ◌/◌, ◌%◌, ◌≤◌, ◌<◌}
use native.Mathlib.Decide.{dec_lt}
use native.Mathlib.Nat.{add-zero}
use native.Mathlib.Numerals.{add-one, add-two, add-three}
use native.Mathlib.Omega.{arith}
use borrow.Author.Tests.{lt-ltb, le-ltb}
use lib.ListN.{length, get_or, drop, length-append, length-drop, drop_of_length-le}
use lib.Seq.{drop-cons, drop-drop, drop_at, get_or-drop}
use Rattle.number.specs.Number.{largest, bytes_of, number_at, Read, no_numeral, numeral}
use Rattle.number.specs.NumberList.{encode, DecodedList, numbers, refused, with_number, followed, decode_from, decode}
use Rattle.number.specs.Range.{AtMost, Stands}
use Rattle.std.specs.Prelude.{Ok, Err}
use Rattle.number.proofs.Reading.{same_value, same_next, read_or_not, by_bytes, one_byte, two_bytes, three_bytes}
use Rattle.number.proofs.Writing.{one, two, three, some_bytes}

-- ---- one number

module _ (s : List ℕ) (at n : ℕ) (r : List ℕ) (small : n ≤ largest) (e : drop at s ≡ bytes_of n ++ r) where
  long : length s - at ≡ length (bytes_of n) + length r
  long = sym (length-drop at s) ∙ ap length e ∙ length-append (bytes_of n) r

  byte : (i : ℕ) → get_or s (at + i) 0 ≡ get_or (bytes_of n ++ r) i 0
  byte i = sym (get_or-drop at s i 0) ∙ ap (λ (l : List ℕ). get_or l i 0) e

  first : get_or s at 0 ≡ get_or (bytes_of n ++ r) 0 0
  first = ap (λ (i : ℕ). get_or s i 0) (sym (add-zero at)) ∙ byte 0

  -- the bytes of a number read as that number
  pub reads : number_at s at ≡ numeral n (at + length (bytes_of n))
  reads = by_size (dec_lt n 128) (dec_lt n 16384)
    where
      by_size : Dec (n < 128) → Dec (n < 16384) → number_at s at ≡ numeral n (at + length (bytes_of n))
      by_size (yes h) d =
          let b = one n h in
          let a_is : n ≡ get_or s at 0 = sym (rw b at first) in
          let size : length (bytes_of n) ≡ 1 = ap length b in
          rw size (sym (one_byte s at n a_is (omega (arith, long)) h))
      by_size (no h) (yes k) =
          let b = two n (omega arith) k in
          let a_is : n % 128 + 128 ≡ get_or s at 0 = sym (rw b at first) in
          let b_is : n / 128 ≡ get_or s (at + 1) 0 = sym (rw b at byte 1) in
          let size : length (bytes_of n) ≡ 2 = ap length b in
          let value : n % 128 + 128 - 128 + n / 128 * 128 ≡ n = omega arith in
          rw size (rw value at (sym (two_bytes s at (n % 128 + 128) a_is (omega arith) (n / 128) b_is (omega (arith, long)) (omega arith) (omega arith))))
      by_size (no h) (no k) =
          let b = three n (omega arith) in
          let a_is : n % 128 + 128 ≡ get_or s at 0 = sym (rw b at first) in
          let b_is : n / 128 % 128 + 128 ≡ get_or s (at + 1) 0 = sym (rw b at byte 1) in
          let c_is : n / 16384 ≡ get_or s (at + 2) 0 = sym (rw b at byte 2) in
          let size : length (bytes_of n) ≡ 3 = ap length b in
          let value : n % 128 + 128 - 128 + (n / 128 % 128 + 128 - 128) * 128 + n / 16384 * 16384 ≡ n = omega arith in
          rw size (rw value at (sym (three_bytes s at (n % 128 + 128) a_is (omega arith) (n / 128 % 128 + 128) b_is (omega (arith, long)) (omega arith) (omega arith) (n / 16384) c_is (omega (arith, long)) (omega arith) (omega arith))))

-- what an array of bytes holds
pub bytes_at_most : (s : List ℕ) → ((i : ℕ) → get_or s i 0 < 256) → AtMost 255 s
bytes_at_most [] h = tt
bytes_at_most (x ∷ xs) h = (let q = h 0 in omega arith, bytes_at_most xs (λ i. h (suc i)))

at_most : (m : ℕ) (s : List ℕ) (i : ℕ) → AtMost m s → get_or s i 0 ≤ m
at_most m [] i h = omega arith
at_most m (x ∷ s) zero h = h.0
at_most m (x ∷ s) (suc i) h = at_most m s i h.1

module _ (s : List ℕ) (at : ℕ) where
  drop_one : at < length s → drop at s ≡ get_or s at 0 ∷ drop (at + 1) s
  drop_one h = rw add-one (drop-cons s at 0 h)

  drop_two : at + 1 < length s → drop at s ≡ get_or s at 0 ∷ get_or s (at + 1) 0 ∷ drop (at + 2) s
  drop_two h = drop_one (omega arith) ∙ ap (λ (l : List ℕ). get_or s at 0 ∷ l) (rw (add-two, add-one) (drop-cons s (suc at) 0 (omega arith)))

  drop_three : at + 2 < length s → drop at s ≡ get_or s at 0 ∷ get_or s (at + 1) 0 ∷ get_or s (at + 2) 0 ∷ drop (at + 3) s
  drop_three h =
      drop_two (omega arith)
      ∙ ap (λ (l : List ℕ). get_or s at 0 ∷ get_or s (at + 1) 0 ∷ l) (rw (add-three, add-two) (drop-cons s (suc (suc at)) 0 (omega arith)))

low_digit : (x y : ℕ) → x < 128 → (x + y * 128) % 128 ≡ x
low_digit x y h = omega arith

module _ (s : List ℕ) (at n next : ℕ) (e : number_at s at ≡ numeral n next) where
  -- bytes vs that stand at the place, and are those of a number
  standing : (m : ℕ) (vs : List ℕ) → numeral m (at + length vs) ≡ numeral n next → m ≤ largest → bytes_of m ≡ vs
      → drop at s ≡ vs ++ drop (at + length vs) s → Stands s at n next
  standing m vs q l b d =
      let m_is : m ≡ n = same_value q in
      let next_is : at + length vs ≡ next = same_next q in
      let b' : bytes_of n ≡ vs = rw m_is at b in
      record { small = rw m_is at l; bytes = rw (b', ← next_is) d; after = rw b' (sym next_is) }

  -- the number that is read stands there
  pub stands : AtMost 255 s → Stands s at n next
  stands limit =
      let a = get_or s at 0 in
      let b = get_or s (at + 1) 0 in
      let c = get_or s (at + 2) 0 in
      let la : a ≤ 255 = at_most 255 s at limit in
      let lb : b ≤ 255 = at_most 255 s (at + 1) limit in
      by_bytes at (length s - at) a b c (λ r. r ≡ numeral n next → Stands s at n next) (λ z. absurd (read_or_not z))
      (λ h d q. standing a (a ∷ []) q (omega arith) (one a d) (drop_one s at (omega arith)))
      (λ h ha nz d q.
      let m = a - 128 + b * 128 in
      let b0 : m % 128 + 128 ≡ a = omega arith in
      let b1 : m / 128 ≡ b = omega arith in
      standing m (a ∷ b ∷ []) q (omega arith) (two m (omega arith) (omega arith) ∙ rw (b0, b1) refl) (drop_two s at (omega arith)))
      (λ h ha nz hb nc d q.
      let m = a - 128 + (b - 128) * 128 + c * 16384 in
      let b0 : m % 128 + 128 ≡ a = omega arith in
      let q' : m / 128 ≡ b - 128 + c * 128 = omega arith in
      let b1 : m / 128 % 128 + 128 ≡ b = rw (q', low_digit (b - 128) c (omega arith)) (omega arith) in
      let b2 : m / 16384 ≡ c = omega arith in
      standing m (a ∷ b ∷ c ∷ []) q (omega arith) (three m (omega arith) ∙ rw (b0, b1, b2) refl) (drop_three s at (omega arith)))
      e

-- ---- lists

pub decode_more : (turns : ℕ) (s : List ℕ) (at : ℕ) → at < length s → decode_from (suc turns) s at ≡ followed (decode_from turns s) (number_at s at)
unfolding decode_from
decode_more turns s at h = simp (lt-ltb at (length s) h)

pub decode_end : (turns : ℕ) (s : List ℕ) (at : ℕ) → length s ≤ at → decode_from turns s at ≡ numbers []
unfolding decode_from
decode_end zero s at h = simp (le-ltb at (length s) h)
decode_end (suc turns) s at h = simp (le-ltb at (length s) h)

decode_none : (s : List ℕ) (at : ℕ) → at < length s → decode_from zero s at ≡ refused at
unfolding decode_from
decode_none s at h = simp (lt-ltb at (length s) h)

-- where the numbers ns stand from a place to the end, they are what is read there
decode_from_lem : (turns : ℕ) (s : List ℕ) (at : ℕ) (ns : List ℕ) → AtMost largest ns → drop at s ≡ encode ns → length (encode ns) ≤ turns
    → decode_from turns s at ≡ numbers ns
unfolding encode
decode_from_lem turns s at [] small e h = decode_end turns s at (omega (arith, sym (length-drop at s) ∙ ap length e))
decode_from_lem zero s at (n ∷ ns) small e h =
    absurd (omega (arith, some_bytes n, length-append (bytes_of n) (encode ns)))
decode_from_lem (suc turns) s at (n ∷ ns) small e h =
    let k = length (bytes_of n) in
    let sum = length-append (bytes_of n) (encode ns) in
    let size = sym (length-drop at s) ∙ ap length e in
    let rest : drop (at + k) s ≡ encode ns = sym (drop-drop k at s) ∙ ap (drop k) e ∙ drop_at (bytes_of n) (encode ns) k refl in
    decode_more turns s at (omega (arith, some_bytes n))
    ∙ rw (reads s at n (encode ns) small.0 e) (ap (with_number n) (decode_from_lem turns s (at + k) ns small.1 rest (omega (arith, some_bytes n))))

-- every list of numbers up to 65,535 written as bytes reads back as that list
pub decode_encode : (ns : List ℕ) → AtMost largest ns → decode (encode ns) ≡ numbers ns
decode_encode ns small = decode_from_lem (length (encode ns)) (encode ns) 0 ns small refl (omega arith)

encode_none : (s ns : List ℕ) (at : ℕ) → length s ≤ at → numbers [] ≡ numbers ns → AtMost largest ns × (encode ns ≡ drop at s)
unfolding encode
encode_none s ns at h e = let z : [] ≡ ns = cc in rw (← z) (tt, sym (drop_of_length-le s h))

encode_from : (turns : ℕ) (s : List ℕ) (at : ℕ) (ns : List ℕ) → AtMost 255 s → decode_from turns s at ≡ numbers ns
    → AtMost largest ns × (encode ns ≡ drop at s)
unfolding encode
encode_from zero s at ns limit e = by_end (dec_lt at (length s))
  where
    by_end : Dec (at < length s) → AtMost largest ns × (encode ns ≡ drop at s)
    by_end (yes h) = let f : refused at ≡ numbers ns = sym (decode_none s at h) ∙ e in let z : ◌≡◌ {A = ℕ} 0 1 = cc in absurd (omega arith)
    by_end (no h) = encode_none s ns at (omega arith) (sym (decode_end zero s at (omega arith)) ∙ e)
encode_from (suc turns) s at ns limit e = by_end (dec_lt at (length s)) (encode_from turns s)
  where
    Rest : Type 0
    Rest = (next : ℕ) (ms : List ℕ) → AtMost 255 s → decode_from turns s next ≡ numbers ms → AtMost largest ms × (encode ms ≡ drop next s)

    listed : (n next : ℕ) → Stands s at n next → (r : DecodedList) → decode_from turns s next ≡ r → with_number n r ≡ numbers ns → Rest
        → AtMost largest ns × (encode ns ≡ drop at s)
    listed n next st (refused p) d f rest = let z : ◌≡◌ {A = ℕ} 0 1 = cc in absurd (omega arith)
    listed n next st (numbers ms) d f rest =
        let z : n ∷ ms ≡ ns = cc in
        let (small, same) = rest next ms limit d in
        rw (← z) ((st.small, small), ap (λ (l : List ℕ). bytes_of n ++ l) same ∙ sym st.bytes)

    by_read : (r : Read) → number_at s at ≡ r → followed (decode_from turns s) r ≡ numbers ns → Rest → AtMost largest ns × (encode ns ≡ drop at s)
    by_read (Ok r) g f rest = listed r.value r.next (stands s at r.value r.next g limit) (decode_from turns s r.next) refl f rest
    by_read (Err p) g f rest = let z : ◌≡◌ {A = ℕ} 0 1 = cc in absurd (omega arith)

    by_end : Dec (at < length s) → Rest → AtMost largest ns × (encode ns ≡ drop at s)
    by_end (yes h) rest = by_read (number_at s at) refl (sym (decode_more turns s at h) ∙ e) rest
    by_end (no h) rest = encode_none s ns at (omega arith) (sym (decode_end (suc turns) s at (omega arith)) ∙ e)

-- bytes that read without refusal are written again identically
pub encode_decode : (s ns : List ℕ) → AtMost 255 s → decode s ≡ numbers ns → AtMost largest ns × (encode ns ≡ s)
encode_decode s ns limit e = encode_from (length s) s 0 ns limit e
