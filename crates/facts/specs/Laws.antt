-- The usual laws of order and equality. Facts are relations of kind and two cells here, so that this is for any representation of them.
use Rattle.std.specs.Prelude.{◌⊎◌, ◌≡◌, ℕ, ◌<◌}

-- R is closed: a cell in any fact equals itself, equal cells have the same facts, below is transitive
pub record Laws (R : ℕ → ℕ → ℕ → Type 0) : Type 0 where
  pub self_left : (k p q : ℕ) → R k p q → R 1 p p
  pub self_right : (k p q : ℕ) → R k p q → R 1 q q
  pub flip : (p q : ℕ) → R 1 p q → R 1 q p
  pub same : (k p q r : ℕ) → R 1 p q → R k q r → R k p r
  pub less : (p q r : ℕ) → R 0 p q → R 0 q r → R 0 p r
  pub less_same : (p q r : ℕ) → R 0 p q → R 1 q r → R 0 p r

-- one fact more
abbrev pub Plus : (ℕ → ℕ → ℕ → Type 0) → ℕ → ℕ → ℕ → ℕ → ℕ → ℕ → Type 0
Plus R k₀ c d k p q = R k p q ⊎ ((k ≡ k₀) × ((p ≡ c) × (q ≡ d)))

-- only kinds 0 and 1
abbrev pub Kinds : (ℕ → ℕ → ℕ → Type 0) → Type 0
Kinds R = (k p q : ℕ) → R k p q → k < 2

-- no cell is below itself
abbrev pub Consistent : (ℕ → ℕ → ℕ → Type 0) → Type 0
Consistent R = (p : ℕ) → ¬ R 0 p p

-- the same facts
abbrev pub Alike : (ℕ → ℕ → ℕ → Type 0) → (ℕ → ℕ → ℕ → Type 0) → Type 0
Alike R S = (k p q : ℕ) → (R k p q → S k p q) × (S k p q → R k p q)
