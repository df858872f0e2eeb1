-- Bytes put one after the other.
use mathlib.Core.List.{List, [], ◌++◌, append_assoc, append-nil}
use mathlib.Core.Path.{◌≡◌, refl, sym, ap, ap₂, ◌∙◌, subst}
use Prim.Native.Nat.{ℕ, ◌+◌, ◌≤◌, ◌<◌}
use native.Mathlib.Numerals.{add-one}
use native.Mathlib.Omega.{arith}
use lib.ListN.{length, get_or, set, take, drop, length-append, length-set, take-append-drop}
use lib.Seq.{length-take-le, take_at, take-length, drop-drop, drop-append-add, set-append_left, paste, paste-zero, paste-suc}
use Rattle.putting.specs.Put.{Put, PutIfRoom}

pub put_none : (at : ℕ) (out : List ℕ) → at ≤ length out → Put at out [] at out
put_none at out h =
    record {
      next_is = omega arith;
      inside = h;
      same = refl;
      bytes = sym (ap (λ (l : List ℕ). l ++ drop at out) (append-nil (take at out)) ∙ take-append-drop at out);
    }

-- ---- the two answers

pub no_room : {at : ℕ} {out xs : List ℕ} → length out < at + length xs → PutIfRoom at out xs at out
no_room h = record { room = λ r. absurd (omega arith); short = λ s. (refl, refl) }

pub had_room : {at next : ℕ} {before xs after : List ℕ} → Put at before xs next after → PutIfRoom at before xs next after
had_room p = record { room = λ r. p; short = λ s. absurd (omega (arith, p.next_is, p.inside)) }

-- ---- one after the other

-- two runs of bytes
pub put_more : {at m n : ℕ} {before xs middle ys after : List ℕ} → Put at before xs m middle → Put m middle ys n after → Put at before (xs ++ ys) n after
put_more {at} {m} {n} {before} {xs} {middle} {ys} {after} p q =
    record {
      next_is = omega (arith, length-append xs ys, p.next_is, q.next_is);
      inside = omega (arith, p.same, q.inside);
      same = q.same ∙ p.same;
      bytes = q.bytes
          ∙ ap₂ (λ (u v : List ℕ). (u ++ ys) ++ v) taken dropped
          ∙ ap (λ (u : List ℕ). u ++ drop n before) (append_assoc (take at before) xs ys);
    }
  where
    front : length (take at before ++ xs) ≡ m
    front =
        length-append (take at before) xs
        ∙ omega (arith, length-take-le at before (omega (arith, p.next_is, p.inside)), p.next_is)

    taken : take m middle ≡ take at before ++ xs
    taken = ap (take m) p.bytes ∙ take_at (take at before ++ xs) (drop m before) m front

    dropped : drop n middle ≡ drop n before
    dropped =
        ap₂ (λ (k : ℕ) (l : List ℕ). drop k l) (q.next_is ∙ ap (λ (k : ℕ). k + length ys) (sym front)) p.bytes
        ∙ drop-append-add (take at before ++ xs) (drop m before) (length ys)
        ∙ drop-drop (length ys) m before
        ∙ ap (λ (k : ℕ). drop k before) (sym q.next_is)

-- and none after them
pub put_end : {at n : ℕ} {before xs after : List ℕ} → Put at before xs n after → Put at before (xs ++ []) n after
put_end {at} {n} {before} {xs} {after} p = subst (λ (l : List ℕ). Put at before l n after) (sym (append-nil xs)) p

-- a byte of them changed
pub put_set : {n : ℕ} {before xs after : List ℕ} → Put 0 before xs n after → (i v : ℕ) → i < length xs → Put 0 before (set xs i v) n (set after i v)
put_set {n} {before} {xs} {after} p i v h =
    record {
      next_is = omega (arith, length-set xs i v, p.next_is);
      inside = p.inside;
      same = length-set after i v ∙ p.same;
      bytes = ap (λ (l : List ℕ). set l i v) p.bytes ∙ set-append_left xs (drop n before) i v h;
    }

-- from the first byte on, they are the output's first bytes
pub put_first : {n : ℕ} {before xs after : List ℕ} → Put 0 before xs n after → after ≡ xs ++ drop (length xs) before
put_first {n} {before} {xs} p = let e : n ≡ length xs = omega (arith, p.next_is) in p.bytes ∙ ap (λ (k : ℕ). xs ++ drop k before) e

-- and they can be taken from it
pub put_taken : {n : ℕ} {before xs after : List ℕ} → Put 0 before xs n after → take n after ≡ xs
put_taken {n} {before} {xs} p = ap (take n) (put_first p) ∙ take_at xs (drop (length xs) before) n (omega (arith, p.next_is))

-- ---- the loop that copies: i bytes are copied

pub record Copying (before codes : List ℕ) (at : ℕ) (after : List ℕ) (i : ℕ) : Type 0 where
  pub upto : i ≤ length codes
  pub same : length after ≡ length before
  pub copied : after ≡ paste before at codes i

module _ (before codes : List ℕ) (at : ℕ) where
  pub copy_none : Copying before codes at before 0
  copy_none = record { upto = omega arith; same = refl; copied = paste-zero before at codes }

  module _ (room : at + length codes ≤ length before) (after : List ℕ) (i : ℕ) (c : Copying before codes at after i) where
    pub copy_more : i < length codes → Copying before codes at (set after (at + i) (get_or codes i 0)) (i + 1)
    copy_more h =
        record {
          upto = omega arith;
          same = length-set after (at + i) (get_or codes i 0) ∙ c.same;
          copied = rw (add-one i)
              (ap (λ (l : List ℕ). set l (at + i) (get_or codes i 0)) c.copied ∙ paste-suc before at codes i 0 (omega arith) h);
        }

    pub copy_all : length codes ≤ i → Put at before codes (at + length codes) after
    copy_all h =
        let e : i ≡ length codes = omega (arith, c.upto) in
        record {
          next_is = refl;
          inside = room;
          same = c.same;
          bytes = c.copied ∙ ap (λ (k : ℕ). paste before at codes k) e ∙ ap (λ (l : List ℕ). (take at before ++ l) ++ drop (at + length codes) before) (take-length codes);
        }
