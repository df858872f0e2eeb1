-- The links that a host is told.
use Rattle.std.specs.Prelude.{List, ◌≡◌, ℕ, ◌*◌, ◌≤◌, length, get_or}

-- Document 02, Wish 8, of an accepted cover: "at most the number of cells of the covered shape that have a link, so at most 14". Where 0 is returned and the
-- array that the host lends has room for the four counts, the links told are at most 14 for each cover told.
abbrev pub LinksBounded : ℕ → List ℕ → List ℕ → Type 0
LinksBounded code before after = code ≡ 0 → 4 ≤ length before → get_or after 3 0 ≤ 14 * get_or after 2 0
