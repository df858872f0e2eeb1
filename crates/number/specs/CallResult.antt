-- What a call tells a host.
use Rattle.std.specs.Prelude.{cond, List, ◌++◌, ℕ, leb, length, drop}

-- document 01's number, 0 if the call did what was asked, and the values beside it
pub record CallResult : Type 0 where
  pub code : ℕ
  pub values : List ℕ

-- an array that the host lends for the values: if it is too short, it is left as it was
unfoldable pub lent : List ℕ → List ℕ → List ℕ
lent values out = cond (leb (length values) (length out)) (values ++ drop (length values) out) out
