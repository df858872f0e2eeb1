-- How many `while` and `if` are open, line by line, and of a block; lines without a fault from the limits.
use mathlib.Core.Bool.{false}
use mathlib.Core.List.Memᴰ
use mathlib.Core.List.{List, [], ◌∷◌, ◌++◌, append_assoc, append-nil}
use mathlib.Core.Path.{◌≡◌, refl, sym, ap, subst, ◌∙◌}
use Prim.Native.Nat.{ℕ, zero, suc, ◌+◌, ◌≤◌, max}
use native.Mathlib.Omega.{arith}
use lib.Dec.{eqb}
use lib.ListN.{length, length-append}
use Rattle.lists.specs.List.{◌∈◌, Every}
use Rattle.lists.proofs.List.{every_head, every_tail}
use Rattle.lists.proofs.Reflect.{r_eq, r_absent, r_not, is_false, fails}
use Rattle.lines.specs.declared.Line.{Line}
use Rattle.lines.specs.declared.Line.TheVariants.{Perform, While, If, End, Mark, Other}
use Rattle.listing.specs.Limits.{depth_of, depth_in}
use Rattle.listing.specs.Listing.{Statement, perform, mark, while, if, Block, done, ◌⨾◌}
use Rattle.listing.specs.Names.{statement_by, block_by, meet_line}
use Rattle.listing.specs.Reading.{Seen, depth_after, see, is_misplaced, meet_lines}
use Rattle.listing.specs.Text.{lines_for, lines_in}
use Rattle.listing.proofs.Faultless.{Clear, Faultless, marks_on, Once}
use Rattle.listing.proofs.Lines.{Inside}
use Rattle.listing.proofs.Names.{lines_extend}

-- an `end` closes something
abbrev Closes : Line → ℕ → Type 0
Closes (Perform o) d = Unit {0}
Closes (While t) d = Unit {0}
Closes (If t) d = Unit {0}
Closes End d = 1 ≤ d
Closes (Mark k) d = Unit {0}
Closes Other d = Unit {0}

-- no more than 16 are open, and none at the end
abbrev pub Shallow : List Line → ℕ → Type 0
Shallow [] d = d ≡ 0
Shallow (l ∷ ls) d = Closes l d × (depth_after l d ≤ 16) × Shallow ls (depth_after l d)

closes : (l : Line) (s : Seen) → Clear l s → Closes l s.depth
closes (Perform o) s c = tt
closes (While t) s c = tt
closes (If t) s c = tt
closes End s c = go s.depth c.placed
  where
    go : (d : ℕ) → eqb d 0 ≡ false → 1 ≤ d
    go zero e = absurd (fails _ e tt)
    go (suc d) e = omega arith
closes (Mark k) s c = tt
closes Other s c = tt

pub faultless_shallow : (ls : List Line) (s : Seen) → Faultless ls s → Shallow ls s.depth
faultless_shallow [] s f = f
faultless_shallow (l ∷ ls) s (c, f) = (closes l s c, c.shallow, faultless_shallow ls (see l s) f)

-- ---- blocks

mutual
  shallow_statement : (s : Statement) (rest : List Line) (d : ℕ) → d + depth_of s ≤ 16 → Shallow rest d → Shallow (lines_for s ++ rest) d
  shallow_statement (perform o) rest d h r = (tt, omega arith, r)
  shallow_statement (mark k) rest d h r = (tt, omega arith, r)
  shallow_statement (while t b) rest d h r =
      let inside = shallow_block b (End ∷ rest) (suc d) (omega arith) (omega arith, omega arith, r) in
      (tt, omega arith, subst (λ x. Shallow x (suc d)) (sym (append_assoc (lines_in b) (End ∷ []) rest)) inside)
  shallow_statement (if t b) rest d h r =
      let inside = shallow_block b (End ∷ rest) (suc d) (omega arith) (omega arith, omega arith, r) in
      (tt, omega arith, subst (λ x. Shallow x (suc d)) (sym (append_assoc (lines_in b) (End ∷ []) rest)) inside)

  pub shallow_block : (b : Block) (rest : List Line) (d : ℕ) → d + depth_in b ≤ 16 → Shallow rest d → Shallow (lines_in b ++ rest) d
  shallow_block done rest d h r = r
  shallow_block (s ⨾ b) rest d h r =
      subst (λ x. Shallow x d) (sym (append_assoc (lines_for s) (lines_in b) rest))
      (shallow_statement s (lines_in b ++ rest) d (omega arith) (shallow_block b rest d (omega arith) r))

mutual
  depth_statement : (s : Statement) (rest : List Line) (d : ℕ) → d ≤ 16 → Shallow (lines_for s ++ rest) d → (d + depth_of s ≤ 16) × Shallow rest d
  depth_statement (perform o) rest d h r = (omega arith, r.2)
  depth_statement (mark k) rest d h r = (omega arith, r.2)
  depth_statement (while t b) rest d h r =
      let (x, y) = depth_block b (End ∷ rest) (suc d) r.1 (subst (λ x. Shallow x (suc d)) (append_assoc (lines_in b) (End ∷ []) rest) r.2) in
      (omega arith, y.2)
  depth_statement (if t b) rest d h r =
      let (x, y) = depth_block b (End ∷ rest) (suc d) r.1 (subst (λ x. Shallow x (suc d)) (append_assoc (lines_in b) (End ∷ []) rest) r.2) in
      (omega arith, y.2)

  depth_block : (b : Block) (rest : List Line) (d : ℕ) → d ≤ 16 → Shallow (lines_in b ++ rest) d → (d + depth_in b ≤ 16) × Shallow rest d
  depth_block done rest d h r = (omega arith, r)
  depth_block (s ⨾ b) rest d h r =
      let (x, y) = depth_statement s (lines_in b ++ rest) d h (subst (λ x. Shallow x d) (append_assoc (lines_for s) (lines_in b) rest) r) in
      let (z, w) = depth_block b rest d h y in
      (omega arith, w)

pub depth_lines : (b : Block) → Shallow (lines_in b) 0 → depth_in b ≤ 16
depth_lines b h =
    let (x, y) = depth_block b [] 0 (omega arith) (subst (λ x. Shallow x 0) (sym (append-nil (lines_in b))) h) in
    omega arith

-- other operands change no depth
module _ (f : ℕ → ℕ) where
  mutual
    depth_by_statement : (s : Statement) → depth_of (statement_by f s) ≡ depth_of s
    depth_by_statement (perform o) = refl
    depth_by_statement (mark k) = refl
    depth_by_statement (while t b) = ap suc (depth_by b)
    depth_by_statement (if t b) = ap suc (depth_by b)

    pub depth_by : (b : Block) → depth_in (block_by f b) ≡ depth_in b
    depth_by done = refl
    depth_by (s ⨾ b) = λ i. max (depth_by_statement s i) (depth_by b i)

-- ---- from the limits

pub record Limits (ls : List Line) (s : Seen) : Type 0 where
  pub inside : Every Inside ls
  pub shallow : Shallow ls s.depth
  pub few : s.passed + length ls ≤ 63
  pub names : length (meet_lines s.names ls) ≤ 8
  pub once : Once (marks_on ls) s.marks

placed : (l : Line) (s : Seen) (ls : List Line) → Inside l → Closes l s.depth → Once (marks_on (l ∷ ls)) s.marks → is_misplaced l s ≡ false
placed (Perform o) s ls i c o' = refl
placed (While t) s ls i c o' = refl
placed (If t) s ls i c o' = refl
placed End s ls i c o' = is_false _ (λ t. let w = (r_eq s.depth 0).holds t in omega arith)
placed (Mark k) s ls i c o' = is_false _ (λ t. (r_not (r_absent k s.marks)).holds t (o'.fresh k (Memᴰ.head refl)))
placed Other s ls i c o' = absurd (i refl)

later_once : (l : Line) (s : Seen) (ls : List Line) → Once (marks_on (l ∷ ls)) s.marks → Once (marks_on ls) (see l s).marks
later_once (Perform o) s ls x = x
later_once (While t) s ls x = x
later_once (If t) s ls x = x
later_once End s ls x = x
later_once (Mark k) s ls x = record { distinct = x.distinct.1; fresh = either }
  where
    either : (j : ℕ) → j ∈ marks_on ls → ¬ (j ∈ (k ∷ s.marks))
    either j i (Memᴰ.head e) = x.distinct.0 (subst (λ n. n ∈ marks_on ls) e i)
    either j i (Memᴰ.tail m) = x.fresh j (Memᴰ.tail i) m
later_once Other s ls x = x

pub from_limits : (ls : List Line) (s : Seen) → Limits ls s → Faultless ls s
from_limits [] s h = h.shallow
from_limits (l ∷ ls) s h =
    let met = meet_line s.names l in
    let (more, e) = lines_extend met ls in
    let longer : length (meet_lines met ls) ≡ length met + length more = ap length e ∙ length-append met more in
    let n = h.names in
    let c : Clear l s =
    record {
      placed = placed l s ls (every_head h.inside) h.shallow.0 h.once;
      shallow = h.shallow.1;
      names = omega arith;
      states = let w = h.few in omega arith;
    } in (
      c,
      from_limits ls (see l s)
          (record {
            inside = every_tail h.inside;
            shallow = h.shallow.2;
            few = let w = h.few in omega arith;
            names = h.names;
            once = later_once l s ls h.once;
          }),
    )
