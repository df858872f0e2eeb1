-- Images, as an array from the code of a place to the code of its image.
use Rattle.std.specs.Prelude.{List, ◌∷◌, map, ◌≡◌, ℕ, ◌+◌, ◌-◌, ◌≤◌, ◌<◌, length, get_or, take, drop, replicate}
use Rattle.heap.specs.Place.{nowhere, null, dangling, cell}

-- the images of so many cells, as numbers of cells
abbrev pub images_in : ℕ → List ℕ → List ℕ
images_in count codes = map (λ p. p - 3) (take count (drop 3 codes))

-- the array maps so many cells to cells below n, of which an array holds at most 25: "# to # and * to *". What it has no image of it maps to cell 0, as `image_map` does.
pub record ImageCodes (count n : ℕ) (codes : List ℕ) : Type 0 where
  pub room : length codes ≡ 15
  pub few : count ≤ 12
  pub most : n ≤ 25
  pub nowhere_fixed : get_or codes 0 0 ≡ nowhere
  pub null_fixed : get_or codes 1 0 ≡ null
  pub dangling_fixed : get_or codes 2 0 ≡ dangling
  pub low : (i : ℕ) → i < count → cell 0 ≤ get_or codes (i + 3) 0
  pub high : (i : ℕ) → i < count → get_or codes (i + 3) 0 < cell n
  pub rest : (i : ℕ) → count ≤ i → i < 12 → get_or codes (i + 3) 0 ≡ cell 0

-- no image is read: nowhere, # and * are their own images, and every cell's is cell 0
abbrev pub no_images : List ℕ
no_images = 0 ∷ 1 ∷ 2 ∷ replicate 12 3
