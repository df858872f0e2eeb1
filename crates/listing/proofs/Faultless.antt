-- Lines without a fault: what that says of them, line by line, and which statements they are.
use mathlib.Core.Bool.{Bool, true, false, ◌||◌, cond}
use mathlib.Core.List.Memᴰ
use mathlib.Core.List.{List, [], ◌∷◌, ◌++◌, append_assoc, append-nil}
use mathlib.Core.Option.{Option, none, some}
use mathlib.Core.Path.{◌≡◌, refl, sym, ap, ap₂, subst, ◌∙◌}
use Prim.Native.Nat.{ℕ, zero, suc, ◌+◌, ◌≤◌, ◌<◌}
use native.Mathlib.Omega.{arith}
use lib.Dec.{eqb, ltb, T}
use lib.ListN.{length}
use Rattle.lists.specs.List.{◌∈◌, Every, Distinct}
use Rattle.lists.proofs.List.{every_none, every_cons, every_head, every_tail}
use Rattle.lists.proofs.Reflect.{r_eq, r_lt, r_absent, r_not, is_false, fails}
use Rattle.lines.specs.declared.Line.{Line}
use Rattle.lines.specs.declared.Line.TheVariants.{Perform, While, If, End, Mark, Other}
use Rattle.listing.specs.Listing.{Statement, perform, mark, while, if, Block, done, ◌⨾◌, ◌followed_by◌}
use Rattle.listing.specs.Reading.{Seen, depth_after, see, is_misplaced, is_too_deep, Fault, fault, first_fault, op_of, test_of, ahead, enclosed, blocks, first_block, meet_lines}
use Rattle.listing.specs.Text.{operation_for_test, lines_for, lines_in}
use Rattle.listing.proofs.Lines.{Proper, Inside}
use Rattle.listing.proofs.Operations.{op_of_for, test_of_for, good_op, good_test}
use Rattle.listing.proofs.Rests.{followed_by_done}

-- no refusal falls at the line
pub record Clear (l : Line) (s : Seen) : Type 0 where
  pub placed : is_misplaced l s ≡ false
  pub shallow : (see l s).depth ≤ 16
  pub names : length (see l s).names ≤ 8
  pub states : (see l s).passed ≤ 63

abbrev pub Faultless : List Line → Seen → Type 0
Faultless [] s = s.depth ≡ 0
Faultless (l ∷ ls) s = Clear l s × Faultless ls (see l s)

pub faultless : (ls : List Line) (s : Seen) → first_fault ls s ≡ none → Faultless ls s
unfolding first_fault
faultless [] s e = go (eqb s.depth 0) (r_eq s.depth 0).holds e
  where
    go : (b : Bool) → (T b → s.depth ≡ 0) → cond b none (some (fault 17 (suc s.passed))) ≡ none → s.depth ≡ 0
    go true h w = h tt
    go false h w = absurd (let z : ◌≡◌ {A = ℕ} 0 1 = cc in omega arith)
faultless (l ∷ ls) s e =
    let (c, w) =
    go (is_misplaced l s) refl (is_too_deep (see l s)) (r_lt 16 (see l s).depth).tests (ltb 8 (length (see l s).names))
    (r_lt 8 (length (see l s).names)).tests (ltb 64 (suc (see l s).passed)) (r_lt 64 (suc (see l s).passed)).tests (first_fault ls (see l s)) e
    in
    (c, faultless ls (see l s) w)
  where
    go : (m : Bool) → is_misplaced l s ≡ m → (d : Bool) → (16 < (see l s).depth → T d) → (x : Bool) → (8 < length (see l s).names → T x) → (y : Bool)
        → (64 < suc (see l s).passed → T y) → (later : Option Fault)
        → cond m (some (fault 17 (suc s.passed)))
        (cond d (some (fault 18 (suc s.passed))) (cond (x || y) (some (fault 19 (suc s.passed))) later))
        ≡ none
        → Clear l s × (later ≡ none)
    go true i d j x k y n later w = absurd (let z : ◌≡◌ {A = ℕ} 0 1 = cc in omega arith)
    go false i true j x k y n later w = absurd (let z : ◌≡◌ {A = ℕ} 0 1 = cc in omega arith)
    go false i false j true k y n later w = absurd (let z : ◌≡◌ {A = ℕ} 0 1 = cc in omega arith)
    go false i false j false k true n later w = absurd (let z : ◌≡◌ {A = ℕ} 0 1 = cc in omega arith)
    go false i false j false k false n later w =
        let j' : ¬ (16 < (see l s).depth) = j in
        let k' : ¬ (8 < length (see l s).names) = k in
        let n' : ¬ (64 < suc (see l s).passed) = n in
        (record { placed = i; shallow = omega arith; names = omega arith; states = omega arith }, w)

pub no_fault : (ls : List Line) (s : Seen) → Faultless ls s → first_fault ls s ≡ none
unfolding first_fault
no_fault [] s e = ap (λ (d : ℕ). cond (eqb d 0) none (some (fault 17 (suc s.passed)))) e
no_fault (l ∷ ls) s (c, more) =
    let d : is_too_deep (see l s) ≡ false = is_false _ (λ t. let w = (r_lt 16 (see l s).depth).holds t in let v = c.shallow in omega arith) in
    let few = c.names in
    let x : ltb 8 (length (see l s).names) ≡ false = is_false _ (λ t. let w = (r_lt 8 (length (see l s).names)).holds t in omega arith) in
    let small = c.states in
    let y : ltb 64 (suc (see l s).passed) ≡ false = is_false _ (λ t. let w = (r_lt 64 (suc (see l s).passed)).holds t in omega arith) in
    λ i.
    cond (c.placed i) (some (fault 17 (suc s.passed)))
    (cond (d i) (some (fault 18 (suc s.passed))) (cond (x i || y i) (some (fault 19 (suc s.passed))) (no_fault ls (see l s) more i)))

-- ---- limits

pub all_inside : (ls : List Line) (s : Seen) → Faultless ls s → Every Inside ls
all_inside [] s f = every_none Inside
all_inside (l ∷ ls) s (c, f) = every_cons Inside (λ e. fails _ (subst (λ x. is_misplaced x s ≡ false) e c.placed) tt) (all_inside ls (see l s) f)

pub few_names : (ls : List Line) (s : Seen) → Faultless ls s → length s.names ≤ 8 → length (meet_lines s.names ls) ≤ 8
few_names [] s f h = h
few_names (l ∷ ls) s (c, f) h = few_names ls (see l s) f c.names

pub few_lines : (ls : List Line) (s : Seen) → Faultless ls s → s.passed ≤ 63 → s.passed + length ls ≤ 63
few_lines [] s f h = omega arith
few_lines (l ∷ ls) s (c, f) h = let w = few_lines ls (see l s) f c.states in omega arith

-- the k of the marks, in line order
abbrev pub marks_on : List Line → List ℕ
marks_on [] = []
marks_on (Perform o ∷ ls) = marks_on ls
marks_on (While t ∷ ls) = marks_on ls
marks_on (If t ∷ ls) = marks_on ls
marks_on (End ∷ ls) = marks_on ls
marks_on (Mark k ∷ ls) = k ∷ marks_on ls
marks_on (Other ∷ ls) = marks_on ls

-- each at most once, and none of those seen before
pub record Once (ks : List ℕ) (seen : List ℕ) : Type 0 where
  pub distinct : Distinct ks
  pub fresh : (k : ℕ) → k ∈ ks → ¬ (k ∈ seen)

pub marks_once : (ls : List Line) (s : Seen) → Faultless ls s → Once (marks_on ls) s.marks
marks_once [] s f = record { distinct = tt; fresh = λ k m. absurd (Memᴰ.not-nil m) }
marks_once (Perform o ∷ ls) s (c, f) = marks_once ls (see (Perform o) s) f
marks_once (While t ∷ ls) s (c, f) = marks_once ls (see (While t) s) f
marks_once (If t ∷ ls) s (c, f) = marks_once ls (see (If t) s) f
marks_once (End ∷ ls) s (c, f) = marks_once ls (see End s) f
marks_once (Other ∷ ls) s (c, f) = marks_once ls (see Other s) f
marks_once (Mark k ∷ ls) s (c, f) =
    let o = marks_once ls (see (Mark k) s) f in
    record { distinct = (λ m. o.fresh k m (Memᴰ.head refl), o.distinct); fresh = either o (r_not (r_absent k s.marks)).tests }
  where
    either : Once (marks_on ls) (k ∷ s.marks) → ((¬ (¬ (k ∈ s.marks))) → T (is_misplaced (Mark k) s)) → (j : ℕ) → j ∈ (k ∷ marks_on ls)
        → ¬ (j ∈ s.marks)
    either o t j (Memᴰ.head e) m = fails _ c.placed (t (λ n. n (subst (λ i. i ∈ s.marks) e m)))
    either o t j (Memᴰ.tail i) m = o.fresh j i (Memᴰ.tail m)

-- ---- statements

-- the lines of several blocks, an `end` ahead of each but the first
abbrev after_ends : List Block → List Line
after_ends [] = []
after_ends (b ∷ bs) = End ∷ (lines_in b ++ after_ends bs)

abbrev lines_of_all : List Block → List Line
lines_of_all [] = []
lines_of_all (b ∷ bs) = lines_in b ++ after_ends bs

-- the lines are those of one block more than are open
record Are (ls : List Line) (depth : ℕ) (bs : List Block) : Type 0 where
  number : length bs ≡ suc depth
  written : ls ≡ lines_of_all bs

are_ahead : (l : Line) (s : Statement) (ls : List Line) (depth : ℕ) (bs : List Block) → lines_for s ≡ l ∷ [] → Are ls depth bs
    → Are (l ∷ ls) depth (ahead s bs)
are_ahead l s ls depth [] e a = absurd (let z = a.number in omega arith)
are_ahead l s ls depth (b ∷ bs) e a =
    record {
      number = a.number;
      written =
          ap (λ x. l ∷ x) a.written
          ∙ ap (λ x. x ++ (lines_in b ++ after_ends bs)) (sym e)
          ∙ sym (append_assoc (lines_for s) (lines_in b) (after_ends bs));
    }

are_enclosed : (l : Line) (f : Block → Statement) (ls : List Line) (depth : ℕ) (bs : List Block)
    → ((b : Block) → lines_for (f b) ≡ l ∷ (lines_in b ++ (End ∷ []))) → Are ls (suc depth) bs → Are (l ∷ ls) depth (enclosed f bs)
are_enclosed l f ls depth [] e a = absurd (let z = a.number in omega arith)
are_enclosed l f ls depth (b ∷ []) e a = absurd (let z = a.number in omega arith)
are_enclosed l f ls depth (b ∷ c ∷ bs) e a =
    let rest = lines_in c ++ after_ends bs in
    record {
      number = let z = a.number in omega arith;
      written =
          ap (λ x. l ∷ x) (a.written ∙ sym (append_assoc (lines_in b) (End ∷ []) rest))
          ∙ ap (λ x. x ++ rest) (sym (e b))
          ∙ sym (append_assoc (lines_for (f b)) (lines_in c) (after_ends bs));
    }

are_end : (ls : List Line) (depth : ℕ) (bs : List Block) → Are ls depth bs → Are (End ∷ ls) (suc depth) (done ∷ bs)
are_end ls depth [] a = absurd (let z = a.number in omega arith)
are_end ls depth (b ∷ bs) a = record { number = ap suc a.number; written = ap (λ x. End ∷ x) a.written }

are_blocks : (ls : List Line) → Every Proper ls → (s : Seen) → Faultless ls s → Are ls s.depth (blocks ls)
unfolding blocks
are_blocks [] p s f = record { number = omega arith; written = refl }
are_blocks (Perform o ∷ ls) p s (c, f) =
    are_ahead (Perform o) (perform (op_of o)) ls s.depth (blocks ls) (ap (λ x. Perform x ∷ []) (good_op o (every_head p)).back)
    (are_blocks ls (every_tail p) (see (Perform o) s) f)
are_blocks (While t ∷ ls) p s (c, f) =
    are_enclosed (While t) (while (test_of t)) ls s.depth (blocks ls) (λ b. ap (λ x. While x ∷ (lines_in b ++ (End ∷ []))) (good_test t (every_head p)).back)
    (are_blocks ls (every_tail p) (see (While t) s) f)
are_blocks (If t ∷ ls) p s (c, f) =
    are_enclosed (If t) (if (test_of t)) ls s.depth (blocks ls) (λ b. ap (λ x. If x ∷ (lines_in b ++ (End ∷ []))) (good_test t (every_head p)).back)
    (are_blocks ls (every_tail p) (see (If t) s) f)
are_blocks (Mark k ∷ ls) p s (c, f) = are_ahead (Mark k) (mark k) ls s.depth (blocks ls) refl (are_blocks ls (every_tail p) (see (Mark k) s) f)
are_blocks (End ∷ ls) p s (c, f) = go s.depth (are_blocks ls (every_tail p) (see End s) f) c.placed
  where
    go : (n : ℕ) → Are ls (depth_after End n) (blocks ls) → eqb n 0 ≡ false → Are (End ∷ ls) n (done ∷ blocks ls)
    go zero a w = absurd (fails true w tt)
    go (suc n) a w = are_end ls n (blocks ls) a
are_blocks (Other ∷ ls) p s (c, f) = absurd (fails true c.placed tt)

-- so lines without a fault are those of one block
pub are_statements : (ls : List Line) → Every Proper ls → (s : Seen) → s.depth ≡ 0 → Faultless ls s → ls ≡ lines_in (first_block (blocks ls))
are_statements ls p s z f = one (blocks ls) (are_blocks ls p s f)
  where
    one : (bs : List Block) → Are ls s.depth bs → ls ≡ lines_in (first_block bs)
    one [] a = absurd (let w = a.number in omega arith)
    one (b ∷ []) a = a.written ∙ append-nil (lines_in b)
    one (b ∷ c ∷ bs) a = absurd (let w = a.number in omega arith)

-- and the other way, the lines of a block are that block
mutual
  unfolding blocks

  blocks_statement : (s : Statement) (rest : List Line) (b : Block) (bs : List Block) → blocks rest ≡ b ∷ bs
      → blocks (lines_for s ++ rest) ≡ (s ⨾ b) ∷ bs
  blocks_statement (perform o) rest b bs e = ap₂ (λ x y. ahead (perform x) y) (op_of_for o) e
  blocks_statement (mark k) rest b bs e = ap (ahead (mark k)) e
  blocks_statement (while t c) rest b bs e =
      ap (λ x. enclosed (while (test_of (operation_for_test t))) (blocks x)) (append_assoc (lines_in c) (End ∷ []) rest)
      ∙ ap₂ (λ x y. enclosed (while x) y) (test_of_for t) (blocks_block c (End ∷ rest) done (b ∷ bs) (ap (λ x. done ∷ x) e))
      ∙ ap (λ x. (while t x ⨾ b) ∷ bs) (followed_by_done c)
  blocks_statement (if t c) rest b bs e =
      ap (λ x. enclosed (if (test_of (operation_for_test t))) (blocks x)) (append_assoc (lines_in c) (End ∷ []) rest)
      ∙ ap₂ (λ x y. enclosed (if x) y) (test_of_for t) (blocks_block c (End ∷ rest) done (b ∷ bs) (ap (λ x. done ∷ x) e))
      ∙ ap (λ x. (if t x ⨾ b) ∷ bs) (followed_by_done c)

  blocks_block : (c : Block) (rest : List Line) (b : Block) (bs : List Block) → blocks rest ≡ b ∷ bs
      → blocks (lines_in c ++ rest) ≡ (c followed_by b) ∷ bs
  blocks_block done rest b bs e = e
  blocks_block (s ⨾ c) rest b bs e =
      ap blocks (append_assoc (lines_for s) (lines_in c) rest)
      ∙ blocks_statement s (lines_in c ++ rest) (c followed_by b) bs (blocks_block c rest b bs e)

pub blocks_lines : (b : Block) → blocks (lines_in b) ≡ b ∷ []
unfolding blocks
blocks_lines b =
    ap blocks (sym (append-nil (lines_in b)))
    ∙ blocks_block b [] done [] refl
    ∙ ap (λ x. x ∷ []) (followed_by_done b)
