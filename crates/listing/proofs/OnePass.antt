-- The one pass refuses where the text has its first fault, and else ends with what its lines add.
use mathlib.Core.Bool.{Bool, true, false, ◌&&◌, ◌||◌, cond, not}
use mathlib.Core.List.{List, [], ◌∷◌}
use mathlib.Core.Option.{Option, none, some}
use mathlib.Core.Path.{◌≡◌, refl, sym, ap, ◌∙◌}
use Prim.Native.Nat.{ℕ, suc, ◌≤◌, ◌<◌}
use native.Mathlib.Decide.{ℕ_discrete}
use native.Mathlib.Omega.{arith}
use lib.Dec.{eqb, leb, ltb, T}
use lib.ListN.{length, length-set, get_or, set}
use lib.Seq.{get_or-set_same, get_or-set_other}
use Rattle.lists.specs.List.{Every, absent}
use Rattle.lists.proofs.List.{every_head, every_tail}
use Rattle.lists.proofs.Reflect.{r_eq, r_lt, r_le, is_true, is_false}
use Rattle.lines.specs.declared.Line.{Line}
use Rattle.lines.specs.declared.Line.TheVariants.{Perform, While, If, End, Mark, Other}
use Rattle.listing.specs.LineByLine.{Open, LinePosition, Outcome, reached, refused, numbered, limited, onward, lastly, go_on}
use Rattle.listing.specs.Names.{meet_line}
use Rattle.listing.specs.Reading.{Seen, marks_met, is_too_deep, is_too_much, Fault, fault, first_fault, meet_lines}
use Rattle.listing.proofs.Emitted.{Emitted, emit, emit_all}
use Rattle.listing.proofs.Lines.{Proper}

-- a line with its operands numbered by the names that are met by then
abbrev pub numbered_line : List ℕ → Line → Line
numbered_line names (Perform o) = Perform (numbered names o)
numbered_line names (While t) = While (numbered names t)
numbered_line names (If t) = If (numbered names t)
numbered_line names End = End
numbered_line names (Mark k) = Mark k
numbered_line names Other = Other

abbrev pub numbered_all : List ℕ → List Line → List Line
numbered_all names [] = []
numbered_all names (l ∷ ls) = numbered_line (meet_line names l) l ∷ numbered_all (meet_line names l) ls

abbrev pub position : List ℕ → Emitted → LinePosition
position names e =
    record { passed = e.passed; names = names; opens = e.opens; count = e.count; transitions = e.transitions; marks = e.marks }

-- what has been seen there, ks being the marks
abbrev pub seen_at : Emitted → List ℕ → List ℕ → Seen
seen_at e names ks = record { passed = e.passed; names = names; marks = ks; depth = length e.opens }

-- within the limits; a mark has a state exactly if it was seen
pub record Known (e : Emitted) (ks : List ℕ) : Type 0 where
  pub sized : length e.marks ≡ 64
  pub few : e.passed ≤ 63
  pub shallow : length e.opens ≤ 16
  pub seen : (k : ℕ) → k ≤ 63 → absent k ks ≡ eqb (get_or e.marks k 64) 64

abbrev pub told : Option Fault → LinePosition → Outcome
told none s = reached s
told (some f) s = refused f.number f.line

-- a mark more
seen_more : (k p : ℕ) (ks ms : List ℕ) → length ms ≡ 64 → k ≤ 63 → p ≤ 63 → ((j : ℕ) → j ≤ 63 → absent j ks ≡ eqb (get_or ms j 64) 64)
    → (j : ℕ) → j ≤ 63 → absent j (k ∷ ks) ≡ eqb (get_or (set ms k p) j 64) 64
seen_more k p ks ms l a b known j c = go (ℕ_discrete j k)
  where
    go : Dec (j ≡ k) → absent j (k ∷ ks) ≡ eqb (get_or (set ms k p) j 64) 64
    go (yes e) =
        let x : eqb k j ≡ true = is_true (eqb k j) ((r_eq k j).tests (sym e)) in
        let y : get_or (set ms k p) j 64 ≡ p = ap (λ i. get_or (set ms k p) i 64) e ∙ get_or-set_same ms k p 64 (omega arith) in
        let z : eqb p 64 ≡ false = is_false (eqb p 64) (λ t. let w = (r_eq p 64).holds t in omega arith) in
        ap (λ b. not b && absent j ks) x ∙ sym (ap (λ i. eqb i 64) y ∙ z)
    go (no n) =
        let x : eqb k j ≡ false = is_false (eqb k j) (λ t. n (sym ((r_eq k j).holds t))) in
        ap (λ b. not b && absent j ks) x ∙ known j c ∙ ap (λ i. eqb i 64) (sym (get_or-set_other ms k j p 64 n))

-- what is to be shown of the lines that are left
abbrev pub Agrees : List Line → Emitted → List ℕ → List ℕ → Type 0
Agrees ls e names ks =
    go_on ls (position names e) ≡ told (first_fault ls (seen_at e names ks)) (position (meet_lines names ls) (emit_all (numbered_all names ls) e))

-- what is to be shown of the lines ls, wherever they stand
abbrev Left : List Line → Type 0
Left ls = (d : Emitted) (names ks : List ℕ) → Known d ks → Agrees ls d names ks

-- One line l, from what is left after it: d is what it emits, and `left` what is to be shown of the lines after it.
module _ (ls : List Line) (e : Emitted) (names ks : List ℕ) (l : Line) (d : Emitted) (one : d.passed ≡ suc e.passed) where
  abbrev here : ℕ
  here = suc e.passed

  abbrev then : LinePosition
  then = position (meet_line names l) d

  abbrev seen_then : Seen
  seen_then = seen_at d (meet_line names l) (marks_met l ks)

  abbrev final : LinePosition
  final = position (meet_lines (meet_line names l) ls) (emit_all (numbered_all (meet_line names l) ls) d)

  -- what is left of the tests at this line, 19 alone, and 18 and 19
  abbrev from_19 : Option Fault
  from_19 = cond (is_too_much seen_then) (some (fault 19 here)) (first_fault ls seen_then)

  abbrev from_18 : Option Fault
  from_18 = cond (is_too_deep seen_then) (some (fault 18 here)) from_19

  limits : (d.passed ≤ 63 → Agrees ls d (meet_line names l) (marks_met l ks)) → onward (limited then) (go_on ls) ≡ told from_19 final
  limits left =
      ap (λ (n : ℕ). onward (cond (is_too_much seen_then) (refused 19 n) (reached then)) (go_on ls)) one
      ∙ go (ltb 8 (length (meet_line names l))) (ltb 64 (suc d.passed)) (r_lt 64 (suc d.passed)).tests
    where
      go : (x y : Bool) → (64 < suc d.passed → T y)
          → onward (cond (x || y) (refused 19 here) (reached then)) (go_on ls)
          ≡ told (cond (x || y) (some (fault 19 here)) (first_fault ls seen_then)) final
      go true y t = refl
      go false true t = refl
      go false false t = let n : ¬ (64 < suc d.passed) = t in left (omega arith)

  -- where no more than 16 are open then
  within : length d.opens ≤ 16 → (d.passed ≤ 63 → Agrees ls d (meet_line names l) (marks_met l ks))
      → onward (limited then) (go_on ls) ≡ told from_18 final
  within shallow left =
      limits left
      ∙ ap (λ b. told (cond b (some (fault 18 here)) from_19) final)
      (sym (is_false (ltb 16 (length d.opens)) (λ t. let w = (r_lt 16 (length d.opens)).holds t in omega arith)))

  -- where the line opens one more
  opening : length d.opens ≡ suc (length e.opens)
      → (length d.opens ≤ 16 → d.passed ≤ 63 → Agrees ls d (meet_line names l) (marks_met l ks))
      → onward (cond (leb 16 (length e.opens)) (refused 18 here) (limited then)) (go_on ls) ≡ told from_18 final
  opening more left = go (leb 16 (length e.opens)) (r_le 16 (length e.opens)).holds (r_le 16 (length e.opens)).tests
    where
      go : (b : Bool) → (T b → 16 ≤ length e.opens) → (16 ≤ length e.opens → T b)
          → onward (cond b (refused 18 here) (limited then)) (go_on ls) ≡ told from_18 final
      go true h t =
          let deep = h tt in
          ap (λ b. told (cond b (some (fault 18 here)) from_19) final)
          (sym (is_true (ltb 16 (length d.opens)) ((r_lt 16 (length d.opens)).tests (omega arith))))
      go false h t =
          let n : ¬ (16 ≤ length e.opens) = t in
          let shallow : length d.opens ≤ 16 = omega arith in
          within shallow (left shallow)

abbrev with_opens : List Open → Emitted → Emitted
with_opens os e = record { passed = e.passed; opens = os; count = e.count; transitions = e.transitions; marks = e.marks }

pub agrees : (ls : List Line) → Every Proper ls → (e : Emitted) (names ks : List ℕ) → Known e ks → Agrees ls e names ks
unfolding go_on first_fault
agrees [] proper e names ks known = go e.opens
  where
    go : (os : List Open) → lastly os (position names e) ≡ told (cond (eqb (length os) 0) none (some (fault 17 (suc e.passed)))) (position names e)
    go [] = refl
    go (o ∷ os) =
        ap (λ b. told (cond b none (some (fault 17 (suc e.passed)))) (position names e))
        (sym (is_false (eqb (suc (length os)) 0) (λ t. let w = (r_eq (suc (length os)) 0).holds t in omega arith)))
agrees (Perform o ∷ ls) proper e names ks known =
    let l = Perform o in
    let d = emit (numbered_line (meet_line names l) l) e in
    within ls e names ks l d refl known.shallow
    (λ few. agrees ls (every_tail proper) d (meet_line names l) ks (record { sized = known.sized; few = few; shallow = known.shallow; seen = known.seen }))
agrees (While t ∷ ls) proper e names ks known =
    let l = While t in
    let d = emit (numbered_line (meet_line names l) l) e in
    opening ls e names ks l d refl refl
    (λ shallow few. agrees ls (every_tail proper) d (meet_line names l) ks (record { sized = known.sized; few = few; shallow = shallow; seen = known.seen }))
agrees (If t ∷ ls) proper e names ks known =
    let l = If t in
    let d = emit (numbered_line (meet_line names l) l) e in
    opening ls e names ks l d refl refl
    (λ shallow few. agrees ls (every_tail proper) d (meet_line names l) ks (record { sized = known.sized; few = few; shallow = shallow; seen = known.seen }))
agrees (End ∷ ls) proper e names ks known = go (agrees ls (every_tail proper)) e.opens known.shallow
  where
    go : Left ls → (os : List Open) → length os ≤ 16 → Agrees (End ∷ ls) (with_opens os e) names ks
    go left [] h = refl
    go left (o ∷ os) h =
        let at = with_opens (o ∷ os) e in
        let d = emit End at in
        let shallow : length os ≤ 16 = omega arith in
        within ls at names ks End d refl shallow
        (λ few. left d names ks (record { sized = known.sized; few = few; shallow = shallow; seen = known.seen }))
        ∙ ap (λ b. told (cond b (some (fault 17 (suc e.passed))) (from_18 ls at names ks End d refl)) (final ls at names ks End d refl))
        (sym (is_false (eqb (suc (length os)) 0) (λ t. let w = (r_eq (suc (length os)) 0).holds t in omega arith)))
agrees (Mark k ∷ ls) proper e names ks known =
    ap (λ b. onward (cond b (limited (then ls e names ks (Mark k) (emit (Mark k) e) refl)) (refused 17 (suc e.passed))) (go_on ls))
    (sym (known.seen k (every_head proper)))
    ∙ go (agrees ls (every_tail proper)) (absent k ks)
  where
    go : Left ls → (b : Bool)
        → onward (cond b (limited (then ls e names ks (Mark k) (emit (Mark k) e) refl)) (refused 17 (suc e.passed))) (go_on ls)
        ≡ told (cond (not b) (some (fault 17 (suc e.passed))) (from_18 ls e names ks (Mark k) (emit (Mark k) e) refl))
        (final ls e names ks (Mark k) (emit (Mark k) e) refl)
    go left true =
        within ls e names ks (Mark k) (emit (Mark k) e) refl known.shallow
        (λ few.
        left (emit (Mark k) e) names (k ∷ ks)
        (record {
          sized = length-set e.marks k e.passed ∙ known.sized;
          few = few;
          shallow = known.shallow;
          seen = seen_more k e.passed ks e.marks known.sized (every_head proper) known.few known.seen;
        }))
    go left false = refl
agrees (Other ∷ ls) proper e names ks known = refl
