-- The lines of a text, cut at the first byte 10.
use mathlib.Core.Bool.{Bool, true, false, cond}
use mathlib.Core.List.{List, [], ◌∷◌, ◌++◌, append-nil, append_assoc}
use mathlib.Core.Path.{◌≡◌, sym, ap, ◌∙◌}
use Prim.Native.Nat.{ℕ, suc, ◌+◌, ◌-◌, ◌≤◌, ◌<◌}
use native.Mathlib.Nat.{not-suc-le-zero, le_of_suc-le-suc}
use native.Mathlib.Omega.{arith}
use lib.Dec.{eqb}
use lib.ListN.{length, take, drop, length-drop, drop_of_length-le}
use lib.Seq.{length-take-le, take_all}
use Rattle.std.proofs.lemmas.List.{drop-drop}
use Rattle.std.specs.Prelude.{None, Some, position}
use Rattle.lines.specs.Line.{line_of}
use Rattle.listing.specs.Names.{index_of}
use Rattle.listing.specs.Text.{last_line, lines_from, lines_of}
use Rattle.translating.proofs.Naming.{at_place, at_end}

-- how many bytes stand before the first byte 10
abbrev before_ten : List ℕ → ℕ
before_ten = index_of 10

first_line : (begun s : List ℕ) → before_ten s < length s
    → lines_from begun s ≡ line_of (begun ++ take (before_ten s) s) ∷ lines_of (drop (suc (before_ten s)) s)
unfolding lines_from
first_line begun [] h = absurd (not-suc-le-zero h)
first_line begun (c ∷ s) h = go (eqb c 10) h (first_line (begun ++ (c ∷ [])) s)
  where
    go : (b : Bool) → cond b 0 (suc (before_ten s)) < suc (length s)
        → (before_ten s < length s → lines_from (begun ++ (c ∷ [])) s ≡ line_of ((begun ++ (c ∷ [])) ++ take (before_ten s) s) ∷ lines_of (drop (suc (before_ten s)) s))
        → cond b (line_of begun ∷ lines_from [] s) (lines_from (begun ++ (c ∷ [])) s)
        ≡ line_of (begun ++ take (cond b 0 (suc (before_ten s))) (c ∷ s)) ∷ lines_of (drop (suc (cond b 0 (suc (before_ten s)))) (c ∷ s))
    go true h rest = ap (λ l. line_of l ∷ lines_of s) (sym (append-nil begun))
    go false h rest =
        rest (le_of_suc-le-suc h) ∙ ap (λ l. line_of l ∷ lines_of (drop (suc (before_ten s)) s)) (append_assoc begun (c ∷ []) (take (before_ten s) s))

no_line : (begun s : List ℕ) → length s ≤ before_ten s → lines_from begun s ≡ last_line (begun ++ s)
unfolding lines_from
no_line begun [] h = ap last_line (sym (append-nil begun))
no_line begun (c ∷ s) h = go (eqb c 10) h (no_line (begun ++ (c ∷ [])) s)
  where
    go : (b : Bool) → suc (length s) ≤ cond b 0 (suc (before_ten s))
        → (length s ≤ before_ten s → lines_from (begun ++ (c ∷ [])) s ≡ last_line ((begun ++ (c ∷ [])) ++ s))
        → cond b (line_of begun ∷ lines_from [] s) (lines_from (begun ++ (c ∷ [])) s) ≡ last_line (begun ++ (c ∷ s))
    go true h rest = absurd (not-suc-le-zero h)
    go false h rest = rest (le_of_suc-le-suc h) ∙ ap last_line (append_assoc begun (c ∷ []) s)

-- the rest of a text from a place on, as a slice of it
module _ (text : List ℕ) (at : ℕ) (inside : at ≤ length text) where
  abbrev rest : List ℕ
  rest = take (length text - at) (drop at text)

  same_rest : rest ≡ drop at text
  same_rest = take_all (length text - at) (drop at text) (omega (arith, length-drop at text))

  pub cut_last : None ≡ position (λ b. eqb b 10) rest → lines_of (drop at text) ≡ last_line (drop at text)
  cut_last e = no_line [] (drop at text) (at_end 10 (drop at text) (e ∙ ap (position (λ b. eqb b 10)) same_rest))

  pub cut_line : (end : ℕ) → Some end ≡ position (λ b. eqb b 10) rest
      → (at + length (take end rest) < length text) × (lines_of (drop at text) ≡ line_of (take end rest) ∷ lines_of (drop (at + length (take end rest) + 1) text))
  cut_line end e =
      let (is, below) = at_place 10 (drop at text) end (e ∙ ap (position (λ b. eqb b 10)) same_rest) in
      let short : length (take end rest) ≡ end = length-take-le end rest (omega (arith, ap length same_rest)) in
      let size = length-drop at text in
      let behind : drop (suc end) (drop at text) ≡ drop (at + length (take end rest) + 1) text = drop-drop (suc end) at text ∙ ap (λ n. drop n text) (omega arith) in (
        omega arith,
        first_line [] (drop at text) (omega arith)
            ∙ ap (λ n. line_of (take n (drop at text)) ∷ lines_of (drop (suc n) (drop at text))) (sym is)
            ∙ ap (λ l. line_of (take end l) ∷ lines_of (drop (suc end) (drop at text))) (sym same_rest)
            ∙ ap (λ l. line_of (take end rest) ∷ lines_of l) behind,
      )

pub cut_over : (text : List ℕ) (at : ℕ) → length text ≤ at → lines_of (drop at text) ≡ []
unfolding lines_from
cut_over text at h = ap lines_of (drop_of_length-le text h)
