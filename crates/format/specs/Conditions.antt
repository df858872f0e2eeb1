-- The conditions of document 01 under which a certificate is accepted: the bytes are the numbers of a job and of a certificate in range
-- whose covers hold.
use Rattle.std.specs.Prelude.{List, [], ◌∷◌, ◌≡◌, ℕ, length}
use Rattle.std.proofs.Math.Option.{some}
use Rattle.std.proofs.Math.ListN.{get_elem?}
use Rattle.lists.specs.List.{Every}
use Rattle.number.specs.NumberList.{numbers, decode}
use Rattle.shape.specs.Shape.{size, AllBelow}
use Rattle.run.specs.Run.{Located, Job}
use Rattle.cover.specs.Cover.{Cover, owed, Avoids, AllHold}
use Rattle.cover.specs.Links.{links_of}
use Rattle.format.specs.JobBytes.{Between, LocatedInRange, IsJob}
use Rattle.format.specs.JobNumbers.{JobFile}
use Rattle.format.specs.Numbers.{certificate_numbers}
use Rattle.format.specs.Verdict.{start_of, Counts}

-- "N 1..512; N members (state, shape)"
pub record MembersInRange (f : JobFile) (ms : List Located) : Type 0 where
  pub number : Between 1 512 (length ms)
  pub members : Every (LocatedInRange f.version f.job.variables f.states) ms

-- "one image for each of its cells"
abbrev pub ImageForEach : List Located → Cover → Type 0
ImageForEach ms c = (m : Located) → get_elem? ms c.member ≡ some m → length c.images ≡ size m.shape

-- "A cover is a member number below N and one image for each of its cells, below the number of cells of the covered shape."
pub record CoverFits (ms : List Located) (c : Cover) (o : Located) : Type 0 where
  pub member : Located
  pub numbered : get_elem? ms c.member ≡ some member
  pub long : length c.images ≡ size member.shape
  pub below : AllBelow (size o.shape) c.images

-- there is such a cover for each shape, whether it holds or not
abbrev pub AllFit : List Located → List Cover → List Located → Type 0
AllFit ms [] [] = Unit {0}
AllFit ms [] (o ∷ os) = ⊥
AllFit ms (c ∷ cs) [] = ⊥
AllFit ms (c ∷ cs) (o ∷ os) = CoverFits ms c o × AllFit ms cs os

-- the counts that are due, with the links followed
abbrev pub counts_of : Job → List Located → ℕ → Counts
counts_of j ms links = record { bads = length j.forbidden; members = length ms; covers = length (owed j ms); links = links }

-- The conditions of acceptance, with the counts that are then told. 8 is judged at the state `tested`.
pub record ConditionsAt (tested : JobFile → ℕ) (job certificate : List ℕ) (counts : Counts) : Type 0 where
  pub job_length : Between 1 65536 (length job)
  pub certificate_length : Between 1 65536 (length certificate)
  pub file : JobFile
  pub job_is : IsJob job file
  pub members : List Located
  pub members_range : MembersInRange file members
  pub covers : List Cover
  pub images : Every (ImageForEach members) covers
  pub certificate_reads : decode certificate ≡ numbers (certificate_numbers file.version members covers)
  pub start : Every (Avoids (tested file)) members
  pub hold : AllHold members covers (owed file.job members)
  -- the links: over all covers, the lengths of the paths of its embedding
  pub counts_due : counts ≡ counts_of file.job members (links_of members covers (owed file.job members) hold)

abbrev pub Conditions : List ℕ → List ℕ → Counts → Type 0
Conditions = ConditionsAt start_of

-- the certificate is to be accepted, with some counts
abbrev pub Acceptable : List ℕ → List ℕ → Type 0
Acceptable job certificate = (counts : Counts) × Conditions job certificate counts
