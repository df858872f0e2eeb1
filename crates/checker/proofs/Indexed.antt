-- The index of a job's transitions, as `transitions` makes it.
use mathlib.Core.Bool.{Bool, cond, true, false}
use mathlib.Core.List.{List}
use mathlib.Core.Path.{◌≡◌, refl}
use Prim.Native.Nat.{ℕ, zero, suc, ◌+◌, ◌*◌, ◌≤◌, ◌<◌}
use native.Mathlib.Numerals.{add-one}
use native.Mathlib.Omega.{arith}
use borrow.Author.Tests.{lt-ltb}
use lib.ListN.{length, replicate}
use Rattle.transitions.specs.Index.{IndexedFrom}
use Rattle.transitions.proofs.Linked.{linked_none, linked_more}
use Rattle.reader.specs.Job.{JobRead}
use Rattle.reader.specs.declared.Header.{Header}
use Rattle.transitions.specs.Transitions.{to_byte, index_one, index_with, are_there, indexed}
use Rattle.transitions.proofs.Bytes.{there}
use Rattle.checker.specs.Jobs.{to_state}

-- the transitions before the i-th are put in front of those from it on
linked_with : (to : ℕ → ℕ) (count : ℕ) → count ≤ 256 → ((j : ℕ) → j < count → to j < 64) → (i : ℕ) (index : List ℕ) → i ≤ count
    → IndexedFrom to count i index → IndexedFrom to count 0 (index_with to i index)
unfolding index_with index_one
linked_with to count most low zero index b l = l
linked_with to count most low (suc i) index b l =
    linked_with to count most low i _ (omega arith)
    (rw (lt-ltb (to i) 64 (low i (omega arith))) (rw (add-one i) at (linked_more to count i index (omega arith) most (low i (omega arith)) (rw (add-one i) l))))

same_both : {A : Type 0} (b : Bool) (x : A) → cond b x x ≡ x
same_both true x = refl
same_both false x = refl

-- all of them, in a cleared index
linked_all : (job : List ℕ) (first count : ℕ) → count ≤ 256 → ((i : ℕ) → i < count → first + 5 * i + 5 ≤ length job)
    → ((i : ℕ) → i < count → to_byte job first i < 64) → (index : List ℕ) → index ≡ replicate 320 0
    → IndexedFrom (to_byte job first) count 0 (indexed job first count index)
unfolding index_with
linked_all job first zero most inside low index clear = rw (same_both (are_there job first 0) index) (linked_none (to_byte job first) 0 index clear)
linked_all job first (suc n) most inside low index clear =
    rw (there job first (suc n) most (omega (arith, inside n (omega arith))))
    (linked_with (to_byte job first) (suc n) most low (suc n) index (omega arith) (linked_none (to_byte job first) (suc n) index clear))

-- those of a job
pub linked_job : {job : List ℕ} {h : Header} → JobRead job h → (index : List ℕ) → index ≡ replicate 320 0
    → IndexedFrom (to_state job h) h.transitions 0 (indexed job h.transitions_at h.transitions index)
linked_job {job} {h} r =
    linked_all job h.transitions_at h.transitions r.transitions_number (λ i b. (r.transitions i b).inside)
    (λ i b. omega (arith, (r.transitions i b).to, r.states.1))
