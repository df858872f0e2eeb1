-- Listings whose operations keep to the table of kinds.
use Prim.Native.Nat.{ℕ, suc, ◌≤◌}
use native.Mathlib.Omega.{arith}
use Rattle.lists.specs.List.{Every}
use Rattle.lists.proofs.List.{every_none, every_one, every_append}
use Rattle.heap.specs.Operation.{Op, equal, different, assign, load, store, new, delete, equal_value, below_value, copy, larger, smaller, read, Allowed}
use Rattle.run.specs.Run.{Transition}
use Rattle.listing.specs.Limits.{Listable, FitsOne, Fits}
use Rattle.listing.specs.Listing.{Test, same, other, any, Statement, perform, mark, while, if, Block, done, ◌⨾◌}
use Rattle.listing.specs.Translation.{skip, test, opposite, exit, steps, lines}
use Rattle.listing.proofs.Members.{every_around}

-- names are numbered as they are met: what fits so far still fits when there are more
allowed_more : (o : Op) (v w : ℕ) → v ≤ w → Allowed v o → Allowed w o
allowed_more (equal a b) v w i (f, g) = (omega arith, omega arith)
allowed_more (different a b) v w i (f, g) = (omega arith, omega arith)
allowed_more (assign a b) v w i (e, f, g) = (e, omega arith, omega arith)
allowed_more (load a b) v w i (e, d, f, g) = (e, d, omega arith, omega arith)
allowed_more (store a b) v w i (e, f, g) = (e, omega arith, omega arith)
allowed_more (new a) v w i (e, f) = (e, omega arith)
allowed_more (delete a) v w i (e, f) = (e, omega arith)
allowed_more (equal_value a b) v w i (e, d, f, g) = (e, d, omega arith, omega arith)
allowed_more (below_value a b) v w i (e, d, f, g) = (e, d, omega arith, omega arith)
allowed_more (copy a b) v w i (e, d, f, g) = (e, d, omega arith, omega arith)
allowed_more (larger a b) v w i (e, d, f, g) = (e, d, omega arith, omega arith)
allowed_more (smaller a b) v w i (e, d, f, g) = (e, d, omega arith, omega arith)
allowed_more (read a) v w i (e, f) = (e, omega arith)

mutual
  pub fits_more_one : (s : Statement) (v w : ℕ) → v ≤ w → FitsOne s v → FitsOne s w
  fits_more_one (perform o) v w i f = (allowed_more o v w i f.0, f.1)
  fits_more_one (mark k) v w i f = tt
  fits_more_one (while t b) v w i f = (allowed_more (test t) v w i f.0, fits_more b v w i f.1)
  fits_more_one (if t b) v w i f = (allowed_more (test t) v w i f.0, fits_more b v w i f.1)

  pub fits_more : (b : Block) (v w : ℕ) → v ≤ w → Fits b v → Fits b w
  fits_more done v w i f = tt
  fits_more (s ⨾ b) v w i f = (fits_more_one s v w i f.0, fits_more b v w i f.1)

test_listable : (t : Test) (v : ℕ) → Allowed v (test t) → Listable v (test t) × Listable v (opposite t)
test_listable (same a b) v f = ((f, omega arith), (f, omega arith))
test_listable (other a b) v f = ((f, omega arith), (f, omega arith))
test_listable any v f = ((f, omega arith), (f, omega arith))

skip_listable : (v : ℕ) → Listable v skip
skip_listable v = ((omega arith, omega arith), omega arith)

-- then every transition's operation is one
abbrev pub Fine : ℕ → Transition → Type 0
Fine v t = Listable v t.op

mutual
  fine : (s : Statement) (v p n : ℕ) → FitsOne s v → Every (Fine v) (steps s p n)
  fine (perform o) v p n f = every_one (Fine v) f
  fine (mark k) v p n f = every_one (Fine v) (skip_listable v)
  fine (while t b) v p n f =
      let (first, last) = test_listable t v f.0 in
      every_around (Fine v) (lines b n (suc n)) first (fine_in b v n (suc n) f.1) (skip_listable v) last
  fine (if t b) v p n f =
      let (first, last) = test_listable t v f.0 in
      every_around (Fine v) (lines b n (suc n)) first (fine_in b v n (suc n) f.1) (skip_listable v) last

  pub fine_in : (b : Block) (v p n : ℕ) → Fits b v → Every (Fine v) (lines b p n)
  fine_in done v p n f = every_none (Fine v)
  fine_in (s ⨾ b) v p n f = every_append (Fine v) (steps s p n) (fine s v p n f.0) (fine_in b v (exit s n) (suc (exit s n)) f.1)
