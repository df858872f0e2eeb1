-- What a translation promises: its marks are reached as the listing says, its bytes begin jobs with its transitions, and what a job that begins
-- so and is accepted forbids at a mark's state, no run over the listing's statements meets at the mark.
use Rattle.std.specs.Prelude.{true, List, [], ◌∷◌, ◌++◌, ◌↔◌, ◌≡◌, ℕ, length, get_or, drop}
use Rattle.lists.specs.List.{◌∈◌, Every, concat_map}
use Rattle.number.specs.CallResult.{CallResult, lent}
use Rattle.number.specs.NumberList.{encode}
use Rattle.heap.specs.Heap.{Heap, IsCell}
use Rattle.heap.specs.Operation.{Op}
use Rattle.heap.specs.Place.{null}
use Rattle.shape.specs.Shape.{Satisfies}
use Rattle.run.specs.Run.{Located}
use Rattle.format.specs.Conditions.{Acceptable}
use Rattle.format.specs.JobBytes.{Between, LocatedInRange, IsJob}
use Rattle.format.specs.JobNumbers.{JobFile, located_numbers}
use Rattle.forbidden.specs.MetFrom.{MetFrom}
use Rattle.forbidden.specs.Sets.{steps_through, Forbids}
use Rattle.forbidden.specs.Written.{ReadySet, not_list, lost_block, bad_steps, shapes_of, is_inside, written, rewrite}
use Rattle.listing.specs.Listing.{perform, Block, ◌⨾◌, Remains, Reaches}
use Rattle.listing.specs.Names.{variables_for}
use Rattle.listing.specs.Reading.{Listing, listed, read, write}
use Rattle.listing.specs.Translation.{transitions_of, states_of, ReachesState}
use Rattle.listing.specs.Written.{file_of, translate, translate_result, bytes_after, marks_after}

-- B and the forbidden shapes, as bytes
abbrev pub forbidden_bytes : List Located → List ℕ
forbidden_bytes bads = encode (length bads ∷ concat_map (located_numbers 1) bads)

-- shapes that a job with the listing's variables and states may forbid
abbrev pub InRangeFor : Listing → List Located → Type 0
InRangeFor l bads =
    Between 1 64 (length bads) × Every (LocatedInRange 1 (variables_for l.names) (states_of l.statements)) bads

-- the shapes of a ready set, for the listing's variables and transitions
abbrev pub set_for : Listing → ReadySet → List Located
set_for l set = shapes_of set (variables_for l.names) (transitions_of l.statements)

-- The heaps with which mark k is reached, where its state is among `marks`, satisfy none of these shapes.
abbrev pub NeverAtMark : Listing → List ℕ → List Located → Type 0
NeverAtMark l marks bads =
    (k : ℕ) (h : Heap) → Reaches l.statements k h → (bad : Located) → bad ∈ bads → bad.state ≡ get_or marks k 64 → ¬ Satisfies h bad.shape

-- What a ready set says of runs over statements. Asked for at the state of mark k: whenever a run reaches mark k, # is met from x; every cell is met
-- from x. Without variable or state: before every step through a variable it stands at a cell.
abbrev pub OnStatements : ReadySet → Listing → List ℕ → Type 0
OnStatements (not_list x q) l marks = (k : ℕ) (h : Heap) → get_or marks k 64 ≡ q → Reaches l.statements k h → MetFrom h x null
OnStatements (lost_block x q) l marks =
    (k : ℕ) (h : Heap) → get_or marks k 64 ≡ q → Reaches l.statements k h → (p : ℕ) → IsCell h p → MetFrom h x p
OnStatements bad_steps l marks =
    (o : Op) (r : Block) (h : Heap) → Remains l.statements (perform o ⨾ r) h → (v : ℕ) → v ∈ steps_through o → IsCell h (h.var v)

-- the job forbids all shapes of the set, and the set is asked for with one of its variables and states
pub record ForbidsSet (l : Listing) (bads : List Located) (set : ReadySet) : Type 0 where
  pub inside : is_inside set (variables_for l.names) (states_of l.statements) ≡ true
  pub all : Forbids (file_of l bads).job (set_for l set)

-- of a text, the bytes written and the marks' states
pub record Promises (text bytes marks : List ℕ) : Type 0 where
  pub listing : Listing
  pub reads : read text ≡ listed listing
  pub writes : write listing ≡ text
  -- "a run reaches a mark with a heap exactly if the transitions reach the mark's state with that heap"; 64 is no state
  pub exact : (k : ℕ) (h : Heap) → Reaches listing.statements k h ↔ ReachesState (file_of listing []).job (get_or marks k 64) h
  -- with B and forbidden shapes behind them the bytes are the listing's job; and whatever stands behind them, if it is a job, it is the listing's
  pub job_is : (bads : List Located) → InRangeFor listing bads → IsJob (bytes ++ forbidden_bytes bads) (file_of listing bads)
  pub no_other : (rest : List ℕ) (f : JobFile) → IsJob (bytes ++ rest) f → f ≡ file_of listing f.job.forbidden
  -- the calls that write ready shapes into the listing's job leave it the listing's job
  pub rewritten : (job : List ℕ) (bads : List Located) → IsJob job (file_of listing bads) → (set : ReadySet) (room : ℕ) (with-set : List ℕ)
      → rewrite job set room ≡ written with-set
      → IsJob with-set (file_of listing (bads ++ set_for listing set)) × ForbidsSet listing (bads ++ set_for listing set) set
  -- if the listing's job is accepted with some certificate, what it forbids at a mark's state is never met at the mark
  pub never : (job : List ℕ) (bads : List Located) → IsJob job (file_of listing bads) → (certificate : List ℕ) → Acceptable job certificate
      → NeverAtMark listing marks bads
  -- and the ready sets that it forbids say of runs over statements what they are for
  pub ready : (job : List ℕ) (bads : List Located) → IsJob job (file_of listing bads) → (certificate : List ℕ) → Acceptable job certificate
      → (set : ReadySet) → ForbidsSet listing bads set → OnStatements set listing marks

-- the output begins with such bytes, the rest of it is as before, and the marks come back beside it
pub record PromisedIn (text bytes_before marks_before bytes_then marks_then : List ℕ) : Type 0 where
  pub bytes : List ℕ
  pub marks : List ℕ
  pub bytes_are : bytes_then ≡ bytes ++ drop (length bytes) bytes_before
  pub marks_are : marks_then ≡ lent marks marks_before
  pub promises : Promises text bytes marks

-- what is promised of the result and of every lent byte
pub record Translates (text bytes_before marks_before : List ℕ) (told : CallResult) (bytes_then marks_then : List ℕ) : Type 0 where
  pub result : told ≡ translate_result (translate text (length bytes_before))
  pub bytes : bytes_then ≡ bytes_after (translate text (length bytes_before)) bytes_before
  pub marks : marks_then ≡ marks_after (translate text (length bytes_before)) marks_before
  pub promise : told.code ≡ 0 → PromisedIn text bytes_before marks_before bytes_then marks_then
