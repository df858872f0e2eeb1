-- What the call that translates a listing gives, for every text and every room. Document 01, "Listings": "Out come the bytes of a version 1 job
-- ahead of B, and for each mark its state, 64 for none." Document 02, Wish 4: "then 12 for the job's bytes, beside which the 64 mark states come
-- back".
use Rattle.std.specs.Prelude.{cond, List, [], ◌∷◌, ◌++◌, map, ℕ, ltb, length, drop}
use Rattle.std.proofs.Math.Option.{Option, none, some}
use Rattle.lists.specs.List.{concat_map}
use Rattle.lists.specs.Range.{range}
use Rattle.number.specs.CallResult.{CallResult, lent}
use Rattle.number.specs.NumberList.{encode}
use Rattle.run.specs.Run.{Located}
use Rattle.format.specs.JobNumbers.{JobFile, transition_numbers}
use Rattle.listing.specs.Names.{variables_for}
use Rattle.listing.specs.Reading.{Listing, Reading, listed, refused, read}
use Rattle.listing.specs.Translation.{transitions_of, states_of, marks_of, state_of}

-- the job of a listing with these shapes forbidden
abbrev pub file_of : Listing → List Located → JobFile
file_of l bads =
    record {
      version = 1;
      states = states_of l.statements;
      job = record { variables = variables_for l.names; start = 0; transitions = transitions_of l.statements; forbidden = bads };
    }

-- the numbers of a job ahead of B
abbrev pub numbers_ahead : JobFile → List ℕ
numbers_ahead f =
    f.version ∷ f.job.variables ∷ f.states ∷ f.job.start ∷ length f.job.transitions ∷ concat_map transition_numbers f.job.transitions

-- "for each mark its state, 64 for none"
abbrev pub or_none : Option ℕ → ℕ
or_none none = 64
or_none (some q) = q

abbrev pub mark_states : Listing → List ℕ
mark_states l = map (λ k. or_none (state_of (marks_of l.statements) k)) (range 0 64)

-- the bytes and the marks' states, or the number of a refusal and the value told with it
pub data Translated : Type 0 where
  translated : (bytes marks : List ℕ) → Translated
  untranslated : (number value : ℕ) → Translated

-- "then 12"
abbrev pub in_room : ℕ → List ℕ → List ℕ → Translated
in_room room bytes marks = cond (ltb room (length bytes)) (untranslated 12 (length bytes)) (translated bytes marks)

abbrev pub translate_read : ℕ → Reading → Translated
translate_read room (listed l) = in_room room (encode (numbers_ahead (file_of l []))) (mark_states l)
translate_read room (refused f) = untranslated f.number f.line

-- what comes out for every text and room
unfoldable pub translate : List ℕ → ℕ → Translated
translate text room = translate_read room (read text)

-- 0 with the bytes filled; 17, 18 or 19 with the line; 12 with the length needed
abbrev pub translate_result : Translated → CallResult
translate_result (translated bytes marks) = record { code = 0; values = length bytes ∷ [] }
translate_result (untranslated number value) = record { code = number; values = value ∷ [] }

-- the output then: its first bytes are filled and none beyond; the 64 bytes lent for the marks, none if they are fewer; a refusal leaves both
abbrev pub bytes_after : Translated → List ℕ → List ℕ
bytes_after (translated bytes marks) out = bytes ++ drop (length bytes) out
bytes_after (untranslated number value) out = out

abbrev pub marks_after : Translated → List ℕ → List ℕ
marks_after (translated bytes marks) out = lent marks out
marks_after (untranslated number value) out = out
