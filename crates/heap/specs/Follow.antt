-- Following links from a place.
use Rattle.std.specs.Prelude.{ℕ, zero, suc}

-- the place after k steps along the links from p: # and * have no link, so that after them it is nowhere
abbrev pub follow : (ℕ → ℕ) → ℕ → ℕ → ℕ
follow link zero p = p
follow link (suc k) p = follow link k (link p)
