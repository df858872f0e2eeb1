-- The lines of a text: cut at bytes 10. Lines of the grammar written as text are the lines of that text, and the other way.
use mathlib.Core.Bool.{Bool, true, false, cond}
use mathlib.Core.List.Memᴰ
use mathlib.Core.List.{List, [], ◌∷◌, ◌++◌, append_assoc, append-nil}
use mathlib.Core.Path.{◌≡◌, refl, sym, ap, ap₂, ◌∙◌}
use Prim.Native.Nat.{ℕ, ◌≤◌}
use native.Mathlib.Omega.{arith}
use lib.Dec.{eqb, T}
use Rattle.lists.specs.List.{◌∈◌, Every}
use Rattle.lists.proofs.List.{every_none, every_cons, every_one, every_head, every_tail}
use Rattle.lists.proofs.Reflect.{r_eq, r_le, r_absent, is_true, is_false, passes}
use Rattle.lines.specs.Line.{is_operation, is_test, is_line, line_text, line_of}
use Rattle.lines.proofs.ReadsText.{reads_text, text_clear}
use Rattle.lines.proofs.TextReads.{text_reads}
use Rattle.lines.specs.declared.Line.{Line}
use Rattle.lines.specs.declared.Line.TheVariants.{Perform, While, If, End, Mark, Other}
use Rattle.listing.specs.Text.{last_line, lines_from, lines_of, text_of}

abbrev NoFeed : List ℕ → Type 0
NoFeed s = ¬ (10 ∈ s)

not_feed : (c : ℕ) (s : List ℕ) → NoFeed (c ∷ s) → eqb c 10 ≡ false
not_feed c s n = is_false (eqb c 10) (λ t. n (Memᴰ.head (sym ((r_eq c 10).holds t))))

-- a byte that is no byte 10 belongs to the line that is begun
goes_on : (begun : List ℕ) (c : ℕ) (s : List ℕ) → eqb c 10 ≡ false → lines_from begun (c ∷ s) ≡ lines_from (begun ++ (c ∷ [])) s
unfolding lines_from
goes_on begun c s e = ap (λ b. cond b (line_of begun ∷ lines_from [] s) (lines_from (begun ++ (c ∷ [])) s)) e

goes_past : (begun s r : List ℕ) → NoFeed s → lines_from begun (s ++ r) ≡ lines_from (begun ++ s) r
goes_past begun [] r n = ap (λ b. lines_from b r) (sym (append-nil begun))
goes_past begun (c ∷ s) r n =
    goes_on begun c (s ++ r) (not_feed c s n)
    ∙ goes_past (begun ++ (c ∷ [])) s r (λ i. n (Memᴰ.tail i))
    ∙ ap (λ b. lines_from b r) (append_assoc begun (c ∷ []) s)

ends : (begun r : List ℕ) → lines_from begun (10 ∷ r) ≡ line_of begun ∷ lines_of r
unfolding lines_from
ends begun r = refl

stops : (begun : List ℕ) → lines_from begun [] ≡ last_line begun
unfolding lines_from
stops begun = refl

lines_none : lines_of [] ≡ []
lines_none = stops []

-- a line, and the lines behind it
lines_one : (s r : List ℕ) → NoFeed s → lines_of (s ++ (10 ∷ r)) ≡ line_of s ∷ lines_of r
lines_one s r n = goes_past [] s (10 ∷ r) n ∙ ends s r

-- ---- every line of a text is one of the grammar, or outside it

abbrev pub Proper : Line → Type 0
Proper (Perform o) = T (is_operation o)
Proper (While t) = T (is_test t)
Proper (If t) = T (is_test t)
Proper End = Unit {0}
Proper (Mark k) = k ≤ 63
Proper Other = Unit {0}

abbrev pub Inside : Line → Type 0
Inside l = ¬ (l ≡ Other)

proper_line : (s : List ℕ) → Proper (line_of s)
proper_line s = go (line_of s) refl
  where
    go : (l : Line) → line_of s ≡ l → Proper l
    go (Perform o) e = passes _ (reads_text s (Perform o) e (λ z. let q : ◌≡◌ {A = ℕ} 0 1 = cc in omega arith)).1
    go (While t) e = passes _ (reads_text s (While t) e (λ z. let q : ◌≡◌ {A = ℕ} 0 1 = cc in omega arith)).1
    go (If t) e = passes _ (reads_text s (If t) e (λ z. let q : ◌≡◌ {A = ℕ} 0 1 = cc in omega arith)).1
    go End e = tt
    go (Mark k) e = (r_le k 63).holds (passes _ (reads_text s (Mark k) e (λ z. let q : ◌≡◌ {A = ℕ} 0 1 = cc in omega arith)).1)
    go Other e = tt

proper_from : (begun s : List ℕ) → Every Proper (lines_from begun s)
unfolding lines_from
proper_from [] [] = every_none Proper
proper_from (b ∷ begun) [] = every_one Proper tt
proper_from begun (c ∷ s) = go (eqb c 10) (proper_from [] s) (proper_from (begun ++ (c ∷ [])) s)
  where
    go : (b : Bool) → Every Proper (lines_from [] s) → Every Proper (lines_from (begun ++ (c ∷ [])) s)
        → Every Proper (cond b (line_of begun ∷ lines_from [] s) (lines_from (begun ++ (c ∷ [])) s))
    go true x y = every_cons Proper (proper_line begun) x
    go false x y = y

pub proper_lines : (text : List ℕ) → Every Proper (lines_of text)
proper_lines text = proper_from [] text

-- ---- lines and text

is_line_lem : (l : Line) → Inside l → Proper l → is_line l ≡ true
is_line_lem (Perform o) i p = is_true _ p
is_line_lem (While t) i p = is_true _ p
is_line_lem (If t) i p = is_true _ p
is_line_lem End i p = refl
is_line_lem (Mark k) i p = is_true _ ((r_le k 63).tests p)
is_line_lem Other i p = absurd (i refl)

clear : (l : Line) → is_line l ≡ true → NoFeed (line_text l)
clear l e = (r_absent 10 (line_text l)).holds (passes _ (text_clear l e))

pub lines_of_text : (ls : List Line) → Every Inside ls → Every Proper ls → lines_of (text_of ls) ≡ ls
lines_of_text [] i p = lines_none
lines_of_text (l ∷ ls) i p =
    let e = is_line_lem l (every_head i) (every_head p) in
    ap lines_of (append_assoc (line_text l) (10 ∷ []) (text_of ls))
    ∙ lines_one (line_text l) (text_of ls) (clear l e)
    ∙ ap₂ (λ x y. x ∷ y) (text_reads l e) (lines_of_text ls (every_tail i) (every_tail p))

text_from : (begun s : List ℕ) → Every Inside (lines_from begun s) → text_of (lines_from begun s) ≡ begun ++ s
unfolding lines_from
text_from [] [] i = refl
text_from (b ∷ begun) [] i = absurd (every_head i refl)
text_from begun (c ∷ s) i = go (eqb c 10) (r_eq c 10).holds i (text_from [] s) (text_from (begun ++ (c ∷ [])) s)
  where
    go : (b : Bool) → (T b → c ≡ 10) → Every Inside (cond b (line_of begun ∷ lines_from [] s) (lines_from (begun ++ (c ∷ [])) s))
        → (Every Inside (lines_from [] s) → text_of (lines_from [] s) ≡ s)
        → (Every Inside (lines_from (begun ++ (c ∷ [])) s) → text_of (lines_from (begun ++ (c ∷ [])) s) ≡ (begun ++ (c ∷ [])) ++ s)
        → text_of (cond b (line_of begun ∷ lines_from [] s) (lines_from (begun ++ (c ∷ [])) s)) ≡ begun ++ (c ∷ s)
    go true h i x y =
        ap₂ (λ u v. (u ++ (10 ∷ [])) ++ v) (reads_text begun (line_of begun) refl (every_head i)).0 (x (every_tail i))
        ∙ append_assoc begun (10 ∷ []) s
        ∙ ap (λ d. begun ++ (d ∷ s)) (sym (h tt))
    go false h i x y = y i ∙ append_assoc begun (c ∷ []) s

pub text_of_lines : (text : List ℕ) → Every Inside (lines_of text) → text_of (lines_of text) ≡ text
text_of_lines text i = text_from [] text i
