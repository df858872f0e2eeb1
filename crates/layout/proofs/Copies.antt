-- A list with a number of elements of another copied into it (`paste`), element by element.
use mathlib.Core.List.{List, ◌++◌}
use mathlib.Core.Path.{◌≡◌, sym, ap, ◌∙◌}
use Prim.Native.Nat.{ℕ, ◌+◌, ◌-◌, ◌≤◌, ◌<◌}
use native.Mathlib.Decide.{dec_lt}
use native.Mathlib.Numerals.{add-one}
use native.Mathlib.Omega.{arith}
use lib.ListN.{length, get_or, take, drop, set, length-drop, get_or-append}
use lib.Seq.{length-take-le, take-append-le, take-take, get_or-append-add, get_or-take, get_or-drop, ext_get_or, paste, paste-suc, length_paste_head, length-paste}

module _ (d : List ℕ) (at : ℕ) (s : List ℕ) (n : ℕ) (room : at + n ≤ length d) (enough : n ≤ length s) where
  abbrev front : List ℕ
  front = take at d ++ take n s

  first_length : length (take at d) ≡ at
  first_length = length-take-le at d (omega arith)

  front_length : length front ≡ at + n
  front_length = length_paste_head d at s n (omega arith) enough

  pub in_copy : (i : ℕ) → i < n → get_or (paste d at s n) (at + i) 0 ≡ get_or s i 0
  in_copy i b =
      let e : at + i ≡ length (take at d) + i = omega (arith, first_length) in
      get_or-append front (drop (at + n) d) 0 (at + i) (omega (arith, front_length))
      ∙ ap (λ (k : ℕ). get_or front k 0) e
      ∙ get_or-append-add (take at d) (take n s) i 0
      ∙ get_or-take n s i 0 b

  pub below_copy : (i : ℕ) → i < at → get_or (paste d at s n) i 0 ≡ get_or d i 0
  below_copy i b =
      get_or-append front (drop (at + n) d) 0 i (omega (arith, front_length))
      ∙ get_or-append (take at d) (take n s) 0 i (omega (arith, first_length))
      ∙ get_or-take at d i 0 b

  pub above_copy : (i : ℕ) → at + n ≤ i → get_or (paste d at s n) i 0 ≡ get_or d i 0
  above_copy i b =
      let k = i - (at + n) in
      let e : i ≡ length front + k = omega (arith, front_length) in
      let f : at + n + k ≡ i = omega arith in
      ap (λ (j : ℕ). get_or (paste d at s n) j 0) e
      ∙ get_or-append-add front (drop (at + n) d) k 0
      ∙ get_or-drop (at + n) d k 0
      ∙ ap (λ (j : ℕ). get_or d j 0) f

-- i bytes from a place on are copied, and then one more
pub copy_more : (d : List ℕ) (at : ℕ) (bytes : List ℕ) (first : ℕ) (l : List ℕ) (i : ℕ) → l ≡ paste d at (drop first bytes) i → at + i < length d → first + i < length bytes
    → set l (at + i) (get_or bytes (first + i) 0) ≡ paste d at (drop first bytes) (i + 1)
copy_more d at bytes first l i e room enough =
    rw (e, ← get_or-drop first bytes i 0, add-one i) (paste-suc d at (drop first bytes) i 0 room (omega (arith, length-drop first bytes)))

-- copied to the front of a list, and from there
pub copy_through : (d : List ℕ) (at : ℕ) (z s : List ℕ) (n : ℕ) → n ≤ length s → paste d at (drop 0 (paste z 0 s n)) n ≡ paste d at s n
copy_through d at z s n enough =
    ap (λ (l : List ℕ). take at d ++ l ++ drop (at + n) d)
    (take-append-le n (take n s) (drop (0 + n) z) (omega (arith, length-take-le n s enough)) ∙ take-take n n s (omega arith))

-- two copies that meet or overlap are one
module _ (d : List ℕ) (at : ℕ) (s : List ℕ) (k j m : ℕ) (room : at + (j + m) ≤ length d) (enough : j + m ≤ length s) (low : j ≤ k) (high : k ≤ j + m)
  where
    abbrev once : List ℕ
    once = paste d at s k

    once_length : length once ≡ length d
    once_length = length-paste d at s k (omega arith) (omega arith)

    abbrev twice : List ℕ
    twice = paste once (at + j) (drop j s) m

    room_twice : at + j + m ≤ length once
    room_twice = omega (arith, once_length)

    rest : m ≤ length (drop j s)
    rest = omega (arith, length-drop j s)

    same_slot : (i : ℕ) → get_or twice i 0 ≡ get_or (paste d at s (j + m)) i 0
    same_slot i = go (dec_lt i at) (dec_lt i (at + j)) (dec_lt i (at + (j + m)))
      where
        go : Dec (i < at) → Dec (i < at + j) → Dec (i < at + (j + m)) → get_or twice i 0 ≡ get_or (paste d at s (j + m)) i 0
        go (yes a) b c =
            below_copy once (at + j) (drop j s) m room_twice rest i (omega arith)
            ∙ below_copy d at s k (omega arith) (omega arith) i a
            ∙ sym (below_copy d at s (j + m) room enough i a)
        go (no a) (yes b) c =
            let e : at + (i - at) ≡ i = omega arith in
            rw (← e)
            (below_copy once (at + j) (drop j s) m room_twice rest (at + (i - at)) (omega arith)
            ∙ in_copy d at s k (omega arith) (omega arith) (i - at) (omega arith)
            ∙ sym (in_copy d at s (j + m) room enough (i - at) (omega arith)))
        go (no a) (no b) (yes c) =
            let e : at + (i - at) ≡ i = omega arith in
            let f : at + j + (i - (at + j)) ≡ i = omega arith in
            let g : j + (i - (at + j)) ≡ i - at = omega arith in
            ap (λ (p : ℕ). get_or twice p 0) (sym f)
            ∙ in_copy once (at + j) (drop j s) m room_twice rest (i - (at + j)) (omega arith)
            ∙ get_or-drop j s (i - (at + j)) 0
            ∙ ap (λ (p : ℕ). get_or s p 0) g
            ∙ sym (in_copy d at s (j + m) room enough (i - at) (omega arith))
            ∙ ap (λ (p : ℕ). get_or (paste d at s (j + m)) p 0) e
        go (no a) (no b) (no c) =
            above_copy once (at + j) (drop j s) m room_twice rest i (omega arith)
            ∙ above_copy d at s k (omega arith) (omega arith) i (omega arith)
            ∙ sym (above_copy d at s (j + m) room enough i (omega arith))

    pub copy_joined : twice ≡ paste d at s (j + m)
    copy_joined =
        ext_get_or 0 twice (paste d at s (j + m))
        (length-paste once (at + j) (drop j s) m room_twice rest ∙ once_length ∙ sym (length-paste d at s (j + m) room enough))
        (λ i b. same_slot i)
