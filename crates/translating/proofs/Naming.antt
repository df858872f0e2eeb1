-- Letters and their numbers: a letter is found among the names or becomes the next one, and keeps its number.
use mathlib.Core.Bool.{Bool, true, false, cond, not}
use mathlib.Core.List.{List, [], ◌∷◌, ◌++◌, append-nil}
use mathlib.Core.Path.{◌≡◌, refl, sym, ap, ap₂, ◌∙◌}
use Prim.Native.Nat.{ℕ, zero, suc, ◌+◌, ◌≤◌, ◌<◌}
use native.Mathlib.Decide.{dec_lt}
use native.Mathlib.Nat.{not-suc-le-zero}
use native.Mathlib.Numerals.{add-one}
use native.Mathlib.Omega.{arith}
use borrow.Author.Tests.{eq-eqb, ltb-true, ltb-false}
use lib.Dec.{eqb, ltb}
use lib.ListN.{length, take, set, length-set, length-append}
use lib.Seq.{length-take-le, take-suc-set}
use Rattle.std.specs.Prelude.{None, Some, position}
use Rattle.std.specs.List.{position_or_len}
use Rattle.lists.specs.List.{absent}
use Rattle.lines.specs.declared.Operation.{Operation}
use Rattle.listing.specs.Names.{meet, index_of, number_in}
use Rattle.translating.specs.Reading.{LetterMet, names_after, OperandsMet}
use Rattle.translating.specs.declared.names.Met.{Met}

-- ---- the index of a letter

-- the library's search finds the index, or comes to the end
index_position : (x : ℕ) (l : List ℕ) → position_or_len (λ y. eqb y x) l ≡ index_of x l
index_position x [] = refl
index_position x (y ∷ l) = go (eqb y x) (index_position x l)
  where
    go : (b : Bool) → position_or_len (λ y. eqb y x) l ≡ index_of x l → cond (not b) (1 + position_or_len (λ y. eqb y x) l) 0 ≡ cond b 0 (suc (index_of x l))
    go true e = refl
    go false e = omega arith

module _ (x : ℕ) (l : List ℕ) where
  abbrev place : ℕ
  place = position_or_len (λ y. eqb y x) l

  pub at_place : (i : ℕ) → Some i ≡ position (λ y. eqb y x) l → (i ≡ index_of x l) × (i < length l)
  at_place i = go (ltb place (length l)) refl
    where
      go : (b : Bool) → ltb place (length l) ≡ b → Some i ≡ cond b (Some place) None → (i ≡ index_of x l) × (i < length l)
      go true h e = let is : i ≡ place = cc in (is ∙ index_position x l, omega (arith, ltb-true place (length l) h))
      go false h e = let z : ◌≡◌ {A = ℕ} 0 1 = cc in absurd (omega arith)

  pub at_end : None ≡ position (λ y. eqb y x) l → length l ≤ index_of x l
  at_end = go (ltb place (length l)) refl
    where
      go : (b : Bool) → ltb place (length l) ≡ b → None ≡ cond b (Some place) None → length l ≤ index_of x l
      go true h e = let z : ◌≡◌ {A = ℕ} 0 1 = cc in absurd (omega arith)
      go false h e = omega (arith, ltb-false place (length l) h, index_position x l)

index_most : (x : ℕ) (l : List ℕ) → index_of x l ≤ length l
index_most x [] = omega arith
index_most x (y ∷ l) = go (eqb y x) (index_most x l)
  where
    go : (b : Bool) → index_of x l ≤ length l → cond b 0 (suc (index_of x l)) ≤ suc (length l)
    go true h = omega arith
    go false h = omega arith

-- found, or absent
index_found : (x : ℕ) (l : List ℕ) → index_of x l < length l → absent x l ≡ false
index_found x [] h = absurd (not-suc-le-zero h)
index_found x (y ∷ l) h = go (eqb y x) refl h (index_found x l)
  where
    go : (b : Bool) → eqb y x ≡ b → cond b 0 (suc (index_of x l)) < suc (length l) → (index_of x l < length l → absent x l ≡ false)
        → absent x (y ∷ l) ≡ false
    go true e h rest = rw e refl
    go false e h rest = rw e (rest (omega arith))

index_absent : (x : ℕ) (l : List ℕ) → length l ≤ index_of x l → absent x l ≡ true
index_absent x [] h = refl
index_absent x (y ∷ l) h = go (eqb y x) refl h (index_absent x l)
  where
    go : (b : Bool) → eqb y x ≡ b → suc (length l) ≤ cond b 0 (suc (index_of x l)) → (length l ≤ index_of x l → absent x l ≡ true) → absent x (y ∷ l) ≡ true
    go true e h rest = absurd (omega arith)
    go false e h rest = rw e (rest (omega arith))

-- more names leave the index of one that is there; a letter put at the end is there
index_kept : (x : ℕ) (l m : List ℕ) → index_of x l < length l → index_of x (l ++ m) ≡ index_of x l
index_kept x [] m h = absurd (not-suc-le-zero h)
index_kept x (y ∷ l) m h = go (eqb y x) h (index_kept x l m)
  where
    go : (b : Bool) → cond b 0 (suc (index_of x l)) < suc (length l) → (index_of x l < length l → index_of x (l ++ m) ≡ index_of x l)
        → cond b 0 (suc (index_of x (l ++ m))) ≡ cond b 0 (suc (index_of x l))
    go true h rest = refl
    go false h rest = ap suc (rest (omega arith))

index_last : (x : ℕ) (l : List ℕ) → length l ≤ index_of x l → index_of x (l ++ (x ∷ [])) ≡ length l
index_last x [] h = simp (eq-eqb x x refl)
index_last x (y ∷ l) h = go (eqb y x) h (index_last x l)
  where
    go : (b : Bool) → suc (length l) ≤ cond b 0 (suc (index_of x l)) → (length l ≤ index_of x l → index_of x (l ++ (x ∷ [])) ≡ length l)
        → cond b 0 (suc (index_of x (l ++ (x ∷ [])))) ≡ suc (length l)
    go true h rest = absurd (omega arith)
    go false h rest = ap suc (rest (omega arith))

-- ---- one operand

module _ (letters : List ℕ) (met : ℕ) (few : met ≤ 8) (size : length letters ≡ 8) where
  abbrev names : List ℕ
  names = take met letters

  pub names_length : length names ≡ met
  names_length = length-take-le met letters (omega arith)

  pub meets_found : (x i : ℕ) → (x ≡ 0 → ⊥) → Some i ≡ position (λ y. eqb y x) names
      → LetterMet letters met x (record { met = met; number = i + 1 }) letters
  meets_found zero i n e = absurd (n refl)
  meets_found (suc x) i n e =
      let (is, below) = at_place (suc x) names i e in
      let there = index_found (suc x) names (omega arith) in
      record { size = size; few = few; names = rw there refl; number = rw (add-one i) (ap suc is) }

  -- a letter that is no name yet
  module _ (x : ℕ) (n : x ≡ 0 → ⊥) (e : None ≡ position (λ y. eqb y x) names) where
    new_name : meet names x ≡ names ++ (x ∷ [])
    new_name = go x n (index_absent x names (at_end x names e))
      where
        go : (y : ℕ) → (y ≡ 0 → ⊥) → absent y names ≡ true → meet names y ≡ names ++ (y ∷ [])
        go zero n a = absurd (n refl)
        go (suc y) n a = rw a refl

    pub meets_new : met < 8 → LetterMet letters met x (record { met = met + 1; number = met + 1 }) (set letters met x)
    meets_new l =
        let after : take (met + 1) (set letters met x) ≡ names ++ (x ∷ []) = rw (add-one met) (take-suc-set letters met x (omega arith)) in
        record {
          size = length-set letters met x ∙ size;
          few = omega arith;
          names = after ∙ sym new_name;
          number = rw after (go x n (sym (index_last x names (at_end x names e) ∙ names_length)));
        }
      where
        go : (y : ℕ) → (y ≡ 0 → ⊥) → met ≡ index_of y (names ++ (y ∷ [])) → met + 1 ≡ number_in (names ++ (y ∷ [])) y
        go zero n w = absurd (n refl)
        go (suc y) n w = rw (add-one met) (ap suc w)

-- ---- an operation

-- an operand is null or among the names once it is met, and keeps its number
abbrev Among : List ℕ → ℕ → Type 0
Among names x = (x ≡ 0 → ⊥) → index_of x names < length names

meet_among : (names : List ℕ) (x : ℕ) → Among (meet names x) x
meet_among names zero n = absurd (n refl)
meet_among names (suc x) n = go (dec_lt (index_of (suc x) names) (length names))
  where
    go : Dec (index_of (suc x) names < length names) → index_of (suc x) (meet names (suc x)) < length (meet names (suc x))
    go (yes h) = rw (index_found (suc x) names h) h
    go (no h) =
        let new = index_absent (suc x) names (omega arith) in
        rw (new, index_last (suc x) names (omega arith), length-append names (suc x ∷ [])) (omega arith)

meet_more : (names : List ℕ) (y : ℕ) → (m : List ℕ) × (meet names y ≡ names ++ m)
meet_more names zero = ([], sym (append-nil names))
meet_more names (suc y) = go (absent (suc y) names)
  where
    go : (b : Bool) → (m : List ℕ) × (cond b (names ++ (suc y ∷ [])) names ≡ names ++ m)
    go true = (suc y ∷ [], refl)
    go false = ([], sym (append-nil names))

number_kept : (names : List ℕ) (y x : ℕ) → Among names x → number_in (meet names y) x ≡ number_in names x
number_kept names y zero h = refl
number_kept names y (suc x) h =
    let (m, e) = meet_more names y in
    ap suc (ap (index_of (suc x)) e ∙ index_kept (suc x) names m (h (λ z. omega arith)))

module _ (letters : List ℕ) (met : ℕ) (o : Operation) (first : Met) (letters₁ : List ℕ) (a : LetterMet letters met o.a first letters₁) where
  all_names : meet (take first.met letters₁) o.b ≡ names_after (take met letters) o
  all_names = ap (λ l. meet l o.b) a.names

  pub numbers_both : (second : Met) (letters₂ : List ℕ) → LetterMet letters₁ first.met o.b second letters₂
      → OperandsMet letters met o (record { met = second.met; operation = record { kind = o.kind; a = first.number; b = second.number } }) letters₂
  numbers_both second letters₂ b =
      record {
        size = b.size;
        few = b.few;
        names = b.names ∙ all_names;
        operation =
            ap₂ (λ x y. record { kind = o.kind; a = x; b = y })
            (a.number
            ∙ ap (λ l. number_in l o.a) a.names
            ∙ sym (number_kept (meet (take met letters) o.a) o.b o.a (meet_among (take met letters) o.a))
            ∙ ap (λ l. number_in l o.a) (sym (b.names ∙ all_names)))
            b.number;
      }
