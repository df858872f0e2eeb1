-- Images as they are read into an array.
use mathlib.Core.List.{List, [], ◌∷◌, ◌++◌, map, append-nil, append_assoc}
use mathlib.Core.Option.{Option, none, some}
use mathlib.Core.Path.{◌≡◌, refl, sym, ap, ◌∙◌}
use Prim.Native.Nat.{ℕ, suc, ◌+◌, ◌-◌, ◌≤◌, ◌<◌}
use native.Mathlib.Decide.{ℕ_discrete}
use native.Mathlib.Numerals.{add-one}
use native.Mathlib.Omega.{arith}
use borrow.Author.Tests.{le-leb, lt-ltb, le-ltb}
use lib.ListN.{length, get_or, take, drop, set, length-set, length-drop}
use lib.Seq.{get_or-set_same, get_or-set_other, drop-set-add, take-suc-set}
use Rattle.heap.specs.Place.{cell}
use Rattle.number.specs.Number.{number_at, numeral, no_numeral}
use Rattle.format.specs.Parser.{Reason, refusal, Parsed, parsed, fault, Parser, onward, return, many, certificate_buffer, within, such, meant, read_as, ranged}
use Rattle.format.proofs.Parsing.{read_outside, read_complete}
use Rattle.coverreader.specs.Images.{images_in, ImageCodes}

-- ---- one number

such_in : (n x : ℕ) → x < n → such (within 0 n) x ≡ some x
such_in n x h = simp (le-leb 0 x (omega arith), lt-ltb x n h)

such_out : (n x : ℕ) → n ≤ x → such (within 0 n) x ≡ none
such_out n x h = simp (le-leb 0 x (omega arith), le-ltb x n h)

pub read_unreadable : {A : Type 0} (cert : List ℕ) (meaning : ℕ → Option A) (at place : ℕ) → number_at cert at ≡ no_numeral place
    → read_as (certificate_buffer cert) meaning at ≡ fault (refusal 6) at
unfolding read_as
read_unreadable cert meaning at place e = ap (meant (certificate_buffer cert) meaning at) e

-- ---- one image more in the array

map_snoc : (f : ℕ → ℕ) (xs : List ℕ) (y : ℕ) → map f (xs ++ (y ∷ [])) ≡ map f xs ++ (f y ∷ [])
map_snoc f [] y = refl
map_snoc f (x ∷ xs) y = ap (λ (l : List ℕ). f x ∷ l) (map_snoc f xs y)

module _ (n i : ℕ) (codes : List ℕ) (m : ImageCodes i n codes) (x : ℕ) (room : i < 12) where
  pub images_snoc : images_in (i + 1) (set codes (i + 3) (x + 3)) ≡ images_in i codes ++ (x ∷ [])
  images_snoc =
      let swap : i + 3 ≡ 3 + i = omega arith in
      let inside : i < length (drop 3 codes) = omega (arith, length-drop 3 codes, m.room) in
      let back : x + 3 - 3 ≡ x = omega arith in
      rw (add-one i, swap, drop-set-add 3 codes i (x + 3), take-suc-set (drop 3 codes) i (x + 3) inside)
      (map_snoc (λ p. p - 3) (take i (drop 3 codes)) (x + 3) ∙ ap (λ (y : ℕ). images_in i codes ++ (y ∷ [])) back)

  images_more : x < n → ImageCodes (i + 1) n (set codes (i + 3) (x + 3))
  images_more b =
      record {
        room = length-set codes (i + 3) (x + 3) ∙ m.room;
        few = omega arith;
        most = m.most;
        nowhere_fixed = get_or-set_other codes (i + 3) 0 (x + 3) 0 (omega arith) ∙ m.nowhere_fixed;
        null_fixed = get_or-set_other codes (i + 3) 1 (x + 3) 0 (omega arith) ∙ m.null_fixed;
        dangling_fixed = get_or-set_other codes (i + 3) 2 (x + 3) 0 (omega arith) ∙ m.dangling_fixed;
        low = λ j c. at_least j c (ℕ_discrete j i);
        high = λ j c. below j c (ℕ_discrete j i);
        rest = λ j c d. get_or-set_other codes (i + 3) (j + 3) (x + 3) 0 (omega arith) ∙ m.rest j (omega arith) d;
      }
    where
      here : get_or (set codes (i + 3) (x + 3)) (i + 3) 0 ≡ x + 3
      here = get_or-set_same codes (i + 3) (x + 3) 0 (omega (arith, m.room))

      at_least : (j : ℕ) → j < i + 1 → Dec (j ≡ i) → cell 0 ≤ get_or (set codes (i + 3) (x + 3)) (j + 3) 0
      at_least j c (yes z) = rw z (omega (arith, here))
      at_least j c (no y) = rw (get_or-set_other codes (i + 3) (j + 3) (x + 3) 0 (omega arith)) (m.low j (omega arith))

      below : (j : ℕ) → j < i + 1 → Dec (j ≡ i) → get_or (set codes (i + 3) (x + 3)) (j + 3) 0 < cell n
      below j c (yes z) = rw z (omega (arith, here))
      below j c (no y) = rw (get_or-set_other codes (i + 3) (j + 3) (x + 3) 0 (omega arith)) (m.high j (omega arith))

-- ---- the loop

module _ (cert : List ℕ) (first n count : ℕ) where
  abbrev image : Parser ℕ
  image = ranged (certificate_buffer cert) 0 n

  -- the first i images are read, up to a place
  pub record Reading (codes : List ℕ) (at i : ℕ) : Type 0 where
    pub inside : i ≤ count
    pub images : ImageCodes i n codes
    pub whole : onward (many (count - i) image at) (λ xs. return (images_in i codes ++ xs)) ≡ many count image first

  return_all : (r : Parsed (List ℕ)) → onward r (λ xs. return xs) ≡ r
  return_all (parsed xs next) = refl
  return_all (fault why place) = refl

  pub reading_none : (codes : List ℕ) → ImageCodes 0 n codes → Reading codes first 0
  reading_none codes m =
      record {
        inside = omega arith;
        images = m;
        whole = return_all (many (count - 0) image first) ∙ ap (λ (k : ℕ). many k image first) (omega arith);
      }

  module _ (codes : List ℕ) (at i : ℕ) (r : Reading codes at i) where
    pub reading_all : count ≤ i → (parsed (images_in count codes) at ≡ many count image first) × ImageCodes count n codes
    unfolding many
    reading_all b =
        let e : i ≡ count = omega (arith, r.inside) in
        let none : count - i ≡ 0 = omega arith in (
          ap (λ (k : ℕ). parsed (images_in k codes) at) (sym e)
              ∙ ap (λ (xs : List ℕ). parsed xs at) (sym (append-nil (images_in i codes)))
              ∙ rw none at r.whole,
          rw e at r.images,
        )

    module _ (b : i < count) where
      left : count - i ≡ suc (count - (i + 1))
      left = omega arith

      stops_here : (why : Reason) (place : ℕ) → image at ≡ fault why place → fault why place ≡ many count image first
      unfolding many
      stops_here why place e = rw (left, e) at r.whole

      pub reading_unreadable : (place : ℕ) → number_at cert at ≡ no_numeral place → fault (refusal 6) at ≡ many count image first
      reading_unreadable place e = stops_here (refusal 6) at (read_unreadable cert (such (within 0 n)) at place e)

      pub reading_outside : (x next : ℕ) → number_at cert at ≡ numeral x next → n ≤ x → fault (refusal 7) at ≡ many count image first
      reading_outside x next e h = stops_here (refusal 7) at (read_outside (certificate_buffer cert) (such (within 0 n)) at x next e (such_out n x h))

      pub reading_more : (x next : ℕ) → count ≤ 12 → number_at cert at ≡ numeral x next → x < n → Reading (set codes (i + 3) (x + 3)) next (i + 1)
      unfolding many
      reading_more x next few e h =
          record {
            inside = omega arith;
            images = images_more n i codes r.images x (omega arith) h;
            whole =
                rw (images_snoc n i codes r.images x (omega arith))
                (regroup (many (count - (i + 1)) image next)
                ∙ rw (left, read_complete (certificate_buffer cert) (such (within 0 n)) at x next x e (such_in n x h)) at r.whole);
          }
        where
          regroup : (q : Parsed (List ℕ)) → onward q (λ xs. return ((images_in i codes ++ (x ∷ [])) ++ xs))
              ≡ onward (onward q (λ xs. return (x ∷ xs))) (λ xs. return (images_in i codes ++ xs))
          regroup (parsed xs k) = ap (λ (l : List ℕ). parsed l k) (append_assoc (images_in i codes) (x ∷ []) xs)
          regroup (fault why place) = refl
