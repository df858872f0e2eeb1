-- Transitions read from bytes that are there, and those that are not.
use mathlib.Core.Bool.{true, false}
use mathlib.Core.List.{List}
use mathlib.Core.Path.{◌≡◌, refl, sym, ◌∙◌}
use Prim.Native.Nat.{ℕ, ◌+◌, ◌-◌, ◌*◌, ◌≤◌, ◌<◌}
use borrow.Author.Tests.{eq-eqb, ne_eqb, le-leb, lt-leb}
use lib.Dec.{leb}
use lib.ListN.{length, get_or, take, drop}
use native.Mathlib.Decide.{ℕ_discrete}
use native.Mathlib.Omega.{arith}
use Rattle.std.specs.Option.{MatchOption, is_some}
use Rattle.std.specs.Prelude.{Option, None, Some}
use Rattle.std.proofs.lemmas.List.{get_or-take, get_or-drop, length-take-le, length-drop}
use Rattle.lists.proofs.Reflect.{Reflect, r_and, r_le, is_true, is_false, same_test}
use Rattle.transitions.specs.Transitions.{zeros, transition_from, transition_bytes, transition_ending, transition_named, are_there}

-- the tests whether bytes are there
module _ (at size most : ℕ) where
  pub beyond : most < at → false ≡ leb (at + size) most
  beyond h = sym (is_false (leb (at + size) most) (λ t. omega (arith, (r_le (at + size) most).holds t)))

  pub fits_left : at ≤ most → leb size (most - at) ≡ leb (at + size) most
  fits_left h = same_test (r_le size (most - at)) (r_le (at + size) most) (λ a. omega arith) (λ a. omega arith)

-- so many of the job's bytes, from a place on
pub record Part (job : List ℕ) (at size : ℕ) (bytes : List ℕ) : Type 0 where
  pub inside : at + size ≤ length job
  pub same : bytes ≡ take size (drop at job)

-- whether they are there
module _ {A : Type 0} (P : Type 0) (Q : A → Type 0) where
  pub when_some : (o : Option A) → is_some o ≡ true → MatchOption o P Q → (x : A) × Q x
  when_some None e h = absurd (cc)
  when_some (Some x) e h = (x, h)

  pub when_none : (o : Option A) → is_some o ≡ false → MatchOption o P Q → P
  when_none None e h = h
  when_none (Some x) e h = absurd (cc)

module _ {job : List ℕ} {at size : ℕ} {bytes : List ℕ} (p : Part job at size bytes) where
  pub byte_at : (i j : ℕ) → i < size → at + i ≡ j → get_or bytes i 0 ≡ get_or job j 0
  byte_at i j h e = rw (p.same, ← e) (get_or-take size (drop at job) i 0 h ∙ get_or-drop at job i 0)

  pub part_length : length bytes ≡ size
  part_length = rw p.same (length-take-le size (drop at job) (omega (arith, length-drop at job, p.inside)))

module _ (job : List ℕ) (at : ℕ) where
  pub bytes_none : length job < at + 5 → zeros ≡ transition_bytes job at
  unfolding transition_bytes
  bytes_none h = rw (lt-leb (at + 5) (length job) h) refl

  pub bytes_all : leb (at + 5) (length job) ≡ true → transition_bytes job at ≡ transition_from job at
  unfolding transition_bytes
  bytes_all e = rw e refl

-- by a name
module _ (job : List ℕ) (first k : ℕ) where
  pub named_zero : k ≡ 0 → zeros ≡ transition_named job first k
  unfolding transition_named
  named_zero e = rw (eq-eqb k 0 e) refl

  pub named_some : 0 < k → transition_named job first k ≡ transition_bytes job (first + 5 * (k - 1))
  unfolding transition_named
  named_some h = rw (ne_eqb k 0 (λ e. omega arith)) refl

  pub named_none : length job < first + 5 * k → zeros ≡ transition_named job first k
  named_none h = known (ℕ_discrete k 0)
    where
      known : Dec (k ≡ 0) → zeros ≡ transition_named job first k
      known (yes e) = named_zero e
      known (no n) = bytes_none job (first + 5 * (k - 1)) (omega arith) ∙ sym (named_some (omega arith))

-- five bytes from the i-th on are the transition at a place
module _ {job : List ℕ} {first size : ℕ} {bytes : List ℕ} (p : Part job first size bytes) where
  bytes_read : (i at : ℕ) → i + 5 ≤ size → first + i ≡ at
      → record { from = get_or bytes i 0; kind = get_or bytes (i + 1) 0; a = get_or bytes (i + 2) 0; b = get_or bytes (i + 3) 0; to = get_or bytes (i + 4) 0 } ≡ transition_bytes job at
  bytes_read i at h e =
      let e0 = byte_at p i at (omega arith) e in
      let e1 = byte_at p (i + 1) (at + 1) (omega arith) (omega arith) in
      let e2 = byte_at p (i + 2) (at + 2) (omega arith) (omega arith) in
      let e3 = byte_at p (i + 3) (at + 3) (omega arith) (omega arith) in
      let e4 = byte_at p (i + 4) (at + 4) (omega arith) (omega arith) in
      rw (e0, e1, e2, e3, e4) (sym (bytes_all job at (le-leb (at + 5) (length job) (omega (arith, p.inside)))))

-- the first five, and the last five of those up to a name's transition
pub read_first : {job : List ℕ} {at : ℕ} {bytes : List ℕ} → Part job at 5 bytes → transition_from bytes 0 ≡ transition_bytes job at
read_first {at = at} p = bytes_read p 0 at (omega arith) (omega arith)

pub read_last : {job : List ℕ} {first : ℕ} {bytes : List ℕ} (k : ℕ) → Part job first (5 * k) bytes → transition_ending bytes ≡ transition_named job first k
unfolding transition_ending
read_last {job} {first} {bytes} k p = known (ℕ_discrete k 0)
  where
    size : length bytes ≡ 5 * k
    size = part_length p

    known : Dec (k ≡ 0) → transition_ending bytes ≡ transition_named job first k
    known (yes e) = rw (lt-leb 5 (length bytes) (omega (arith, size))) (named_zero job first k e)
    known (no n) =
        rw (le-leb 5 (length bytes) (omega (arith, size)))
        (bytes_read p (length bytes - 5) (first + 5 * (k - 1)) (omega (arith, size)) (omega (arith, size)) ∙ sym (named_some job first k (omega arith)))

module _ (job : List ℕ) (first count : ℕ) where
  r_there : Reflect ((count ≤ 256) × (first + 5 * count ≤ length job)) (are_there job first count)
  unfolding are_there
  r_there = r_and (r_le count 256) (r_le (first + 5 * count) (length job))

  pub there : count ≤ 256 → first + 5 * count ≤ length job → are_there job first count ≡ true
  there a b = is_true (are_there job first count) (r_there.tests (a, b))

  pub too_many : 256 < count → are_there job first count ≡ false
  too_many h = is_false (are_there job first count) (λ t. omega (arith, (r_there.holds t).0))

  pub not_there : length job < first + 5 * count → are_there job first count ≡ false
  not_there h = is_false (are_there job first count) (λ t. omega (arith, (r_there.holds t).1))
