-- A certificate as a list of numbers. Document 01, "Bytes": "Certificate: version 1; N 1..512; N members (state, shape); then covers. A cover
-- is a member number below N and one image for each of its cells".
use Rattle.std.specs.Prelude.{List, ◌∷◌, ◌++◌, ℕ, length}
use Rattle.lists.specs.List.{concat_map}
use Rattle.run.specs.Run.{Located}
use Rattle.cover.specs.Cover.{Cover}
use Rattle.format.specs.JobNumbers.{located_numbers}

abbrev pub member_numbers : ℕ → List Located → List ℕ
member_numbers version ms = version ∷ length ms ∷ concat_map (located_numbers version) ms

abbrev pub cover_numbers : Cover → List ℕ
cover_numbers c = c.member ∷ c.images

abbrev pub certificate_numbers : ℕ → List Located → List Cover → List ℕ
certificate_numbers version ms cs = member_numbers version ms ++ concat_map cover_numbers cs
