-- Marks by the code of a place, while the paths of a cover are followed.
use Rattle.std.specs.Prelude.{Bool, true, false, List, [], ◌++◌, ◌⊎◌, ◌≡◌, ℕ, suc, ◌+◌, ◌≤◌, ◌<◌, length, get_or}
use Rattle.lists.specs.List.{absent, disjoint}
use Rattle.heap.specs.Codes.{link_in}
use Rattle.heap.specs.Place.{nowhere, cell}
use Rattle.shape.specs.Shape.{Shape, size}
use Rattle.cover.specs.Test.{stops, walk_end, walked}
use Rattle.coverreader.specs.Images.{images_in, ImageCodes}
use Rattle.marks.specs.Marks.{mark_in, cells_in}

-- the mark of a place at which a path ends or not, and that no path has used or one has: 0 is free, 1 a stop, 2 used
abbrev pub mark : Bool → Bool → ℕ
mark true unused = 1
mark false true = 0
mark false false = 2

-- the marks where paths end at these images and have used these cells
pub record Marks (images used marks : List ℕ) : Type 0 where
  pub room : length marks ≡ 28
  pub marked : (p : ℕ) → p < 28 → get_or marks p 0 ≡ mark (stops images p) (absent p used)

-- these are the links of the shape in an array
pub record LinksIn (links s : List ℕ) : Type 0 where
  pub fit : length links ≤ 25
  pub same : (i : ℕ) → i < length links → get_or s (cell i) 0 ≡ get_or links i 0

-- a path may be followed from a cell that is an image, in the shape in an array
pub record Walking (links images used s marks : List ℕ) (from : ℕ) : Type 0 where
  pub cells : length links ≡ cells_in s
  pub linked : LinksIn links s
  pub marked : Marks images used marks
  pub low : cell 0 ≤ from
  pub high : from < cell (length links)
  pub image : stops images from ≡ true
  pub ends_in : (p : ℕ) → stops images p ≡ true → p < cell (length links)

-- where the path from a cell ends, and what is between
module _ (links images : List ℕ) where
  abbrev pub end_from : ℕ → ℕ
  end_from from = walk_end (link_in links) (stops images) (length links) (link_in links from)

  abbrev pub path_from : ℕ → List ℕ
  path_from from = walked (link_in links) (stops images) (length links) (link_in links from)

-- What following a path by so many links gives, the first place met that is not free. Where that is an end, it is the path's, with its links counted
-- and its cells used; else the path has no end or shares a cell.
pub record Followed (links images used : List ℕ) (from r steps : ℕ) (marks : List ℕ) : Type 0 where
  pub ends : stops images r ≡ true → end_from links images from ≡ r
  pub counted : stops images r ≡ true → steps ≡ suc (length (path_from links images from))
  pub unshared : stops images r ≡ true → disjoint (path_from links images from) used ≡ true
  pub marked : stops images r ≡ true → Marks images (path_from links images from ++ used) marks
  pub lost : stops images r ≡ false → (end_from links images from ≡ nowhere) ⊎ (disjoint (path_from links images from) used ≡ false)
  pub marked_stop : mark_in (length links) marks r ≡ 1 → stops images r ≡ true
  pub stop_marked : stops images r ≡ true → mark_in (length links) marks r ≡ 1

-- The paths of a member's links may be followed in the shape in an array: the links are the bytes from a place on, and no path has used a cell.
pub record Linking (member covered : Shape) (cert : List ℕ) (first count : ℕ) (codes marks s : List ℕ) : Type 0 where
  pub inside : first + count ≤ length cert
  pub cells : size member ≡ count
  pub same : (i : ℕ) → i < count → get_or cert (first + i) 0 ≡ get_or member.links i 0
  pub covered_cells : size covered ≡ cells_in s
  pub images : ImageCodes count (size covered) codes
  pub linked : LinksIn covered.links s
  pub marked : Marks (images_in count codes) [] marks
