-- Laws of a function that is changed at one number, of what stood at a place that is no more, and of heaps part by part.
use mathlib.Core.Logic.{◌≢◌, ite, if_pos, if_neg}
use mathlib.Core.Path.{◌≡◌, sym, ◌∙◌}
use Prim.Native.Nat.{ℕ}
use native.Mathlib.Decide.{ℕ_discrete}
use Rattle.heap.specs.Heap.{Heap, update}
use Rattle.heap.specs.Operation.{dangled}
use Rattle.heap.specs.Place.{dangling}

module _ {A : Type 0} (f : ℕ → A) (k : ℕ) (y : A) (n : ℕ) where
  pub update_same : n ≡ k → update f k y n ≡ y
  update_same e = if_pos (ℕ_discrete n k) e y (f n)

  pub update_other : n ≢ k → update f k y n ≡ f n
  update_other o = if_neg (ℕ_discrete n k) o y (f n)

  pub by_update : (z : A) → (n ≡ k → z ≡ y) → (n ≢ k → z ≡ f n) → z ≡ update f k y n
  by_update z same other = go (ℕ_discrete n k)
    where
      go : Dec (n ≡ k) → z ≡ update f k y n
      go (yes e) = same e ∙ sym (update_same e)
      go (no o) = other o ∙ sym (update_other o)

pub update_cases : {A : Type 0} (P : A → Type 0) (f : ℕ → A) (k : ℕ) (y : A) (n : ℕ) → (n ≡ k → P y) → (n ≢ k → P (f n)) → P (update f k y n)
update_cases P f k y n a b = go (ℕ_discrete n k)
  where
    go : (d : Dec (n ≡ k)) → P (ite d y (f n))
    go (yes e) = a e
    go (no o) = b o

pub dangled_other : (c p : ℕ) → p ≢ c → dangled c p ≡ p
dangled_other c p o = if_neg (ℕ_discrete p c) o dangling p

pub heap_path : {h k : Heap} → ((p : ℕ) → h.link p ≡ k.link p) → ((v : ℕ) → h.var v ≡ k.var v) → ((p : ℕ) → h.value p ≡ k.value p) → h ≡ k
heap_path a b c = λ i. record { link = λ p. a p i; var = λ v. b v i; value = λ p. c p i }
