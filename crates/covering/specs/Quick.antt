-- What the quick test of a cover says where it accepts.
use Rattle.std.specs.Prelude.{Bool, true, List, [], ◌≡◌, ℕ, ◌+◌, Ok}
use Rattle.shape.specs.Shape.{size}
use Rattle.run.specs.Run.{Located}
use Rattle.cover.specs.Test.{Answer, answer_by, links_followed}
use Rattle.layout.specs.Entries.{located_at}
use Rattle.layout.specs.ShapeArray.{shape_in}
use Rattle.coverreader.specs.Images.{images_in}
use Rattle.covering.specs.Images.{once}
use Rattle.covering.specs.Marks.{Marks}
use Rattle.coverreader.specs.Reading.{ImagesRead}

-- so many images of one byte are read from a place on into an array; they differ, and are marked
pub record ImagesMarked (cert : List ℕ) (first n count : ℕ) (codes marks : List ℕ) : Type 0 where
  pub read : ImagesRead cert first n count (Ok (first + count)) codes
  pub apart : once (images_in count codes) ≡ true
  pub marked : Marks (images_in count codes) [] marks

-- What reading and marking left, whatever was marked before: the images read are marked and nothing else, and where it did not end early they are so many
-- and differ.
pub record ReadAndMarked (cert : List ℕ) (first n count : ℕ) (r : Bool) (codes marks : List ℕ) : Type 0 where
  pub taken : ℕ
  pub marked : Marks (images_in taken codes) [] marks
  pub whole : r ≡ true → ImagesMarked cert first n count codes marks

-- so many images are read from a place on, and embed the member that starts at a place in the shape in an array, by paths of so many links in all
pub record ImagesEmbed (cert : List ℕ) (start variables first count : ℕ) (s : List ℕ) (links : ℕ) : Type 0 where
  pub codes : List ℕ
  pub read : ImagesRead cert first (size (shape_in variables s)) count (Ok (first + count)) codes
  pub holds : (among : ℕ → ℕ → ℕ → Bool) (covered : Located) → covered.shape ≡ shape_in variables s
      → covered.state ≡ (located_at cert variables start).state
      → answer_by among (located_at cert variables start) (images_in count codes) covered ≡ Answer.holds
  pub counted : links ≡ links_followed (located_at cert variables start).shape (shape_in variables s) (images_in count codes)
