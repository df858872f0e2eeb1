-- What is tested of images in an array.
use Rattle.std.specs.Prelude.{Bool, ◌&&◌, ◌||◌, not, cond, List, ◌≡◌, ℕ, ◌+◌, eqb, ltb, length, get_or, Option, None, Some}
use Rattle.std.proofs.Math.Option.{none, some, Option as OptionDue}
use Rattle.lists.specs.Test.{all_from, lowest}
use Rattle.heap.specs.Place.{nowhere, cell}
use Rattle.shape.specs.Shape.{Shape}
use Rattle.cover.specs.Test.{link_meets, path_unshared, links_followed}

-- the image of a place by the array
unfoldable pub image_in : List ℕ → ℕ → ℕ
image_in codes p = cond (ltb p 15) (get_or codes p 0) (cell 0)

-- the number that the code finds, as that of the definitions
abbrev pub found : Option ℕ → OptionDue ℕ
found None = none
found (Some i) = some i

-- "no two cells have the same image": cell i and any other
abbrev pub once_at : List ℕ → ℕ → Bool
once_at images i = all_from (length images) 0 (λ j. eqb i j || not (eqb (get_or images i 0) (get_or images j 0)))

abbrev pub once : List ℕ → Bool
once images = all_from (length images) 0 (once_at images)

-- variable i + 1 fits, where the member's variables are the bytes from a place on and the covered shape is in an array
abbrev pub var_fits_in : List ℕ → ℕ → List ℕ → List ℕ → ℕ → Bool
var_fits_in cert first codes s i =
    eqb (get_or cert (first + i) 0) nowhere || eqb (get_or s (i + 18) 0) (image_in codes (get_or cert (first + i) 0))

-- the path for the link of cell i ends where it should and shares no cell with that of a lower cell
abbrev pub path_fits : Shape → Shape → List ℕ → ℕ → Bool
path_fits member covered images i = link_meets member covered images i && path_unshared member covered images i

-- the paths of all cells, of which there are so many, fit, and so many links are followed
pub record PathsFit (member covered : Shape) (images : List ℕ) (count links : ℕ) : Type 0 where
  pub fit : lowest count 0 (path_fits member covered images) ≡ none
  pub counted : links ≡ links_followed member covered images
