-- Links followed. Document 02, Wish 8: "For an accepted cover this is the sum of the lengths of its member's paths, by the definition of
-- embedding; it must be at most the number of cells of the covered shape that have a link, so at most 14."
use Rattle.std.specs.Prelude.{List, [], ◌∷◌, ℕ, ◌+◌}
use Rattle.heap.specs.Place.{cell}
use Rattle.graph.specs.Graph.{Graph, Embeds}
use Rattle.run.specs.Run.{Located}
use Rattle.cover.specs.Cover.{Cover, Holds, AllHold}
use Rattle.cover.specs.Lengths.{path_lengths}

-- what is strictly between for the link of each cell, by its number, in an embedding
abbrev pub mids : {g h : Graph} {f : ℕ → ℕ} → Embeds g h f → ℕ → List ℕ
mids e i = e.paths.between (cell i)

-- "by the definition of embedding": of a cover that holds
abbrev pub cover_links : {ms : List Located} {c : Cover} {o : Located} → Holds ms c o → ℕ
cover_links k = path_lengths k.member.shape (mids k.embeds)

-- "The verdict carries the sum over all covers as a fourth count"
abbrev pub links_of : (ms : List Located) (cs : List Cover) (os : List Located) → AllHold ms cs os → ℕ
links_of ms [] [] hold = 0
links_of ms [] (o ∷ os) hold = absurd hold
links_of ms (c ∷ cs) [] hold = absurd hold
links_of ms (c ∷ cs) (o ∷ os) (k, ks) = cover_links k + links_of ms cs os ks
