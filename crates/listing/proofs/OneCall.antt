-- The call, by the one pass: the bytes ahead of B and the marks' states are those of the listing that is read.
use mathlib.Core.List.Memᴰ
use mathlib.Core.List.{List, [], ◌∷◌, map, append-nil}
use mathlib.Core.Logic.{ite}
use mathlib.Core.Option.{Option, none, some}
use mathlib.Core.Path.{◌≡◌, refl, sym, ap, ap₂, subst, ◌∙◌}
use Prim.Native.Nat.{ℕ, ◌+◌, ◌≤◌, ◌<◌}
use native.Mathlib.Decide.{ℕ_discrete}
use native.Mathlib.Omega.{arith}
use lib.Dec.{eqb}
use lib.ListN.{length, length-set, length-replicate, get_or, get_or-replicate, set, replicate}
use lib.Seq.{get_or-set_same, get_or-set_other}
use Rattle.lists.specs.List.{◌∈◌, Every, Distinct, concat_map}
use Rattle.lists.proofs.Range.{tabled}
use Rattle.number.specs.NumberList.{encode}
use Rattle.number.specs.Range.{AtMost}
use Rattle.number.proofs.Encoding.{encode_bytes}
use Rattle.run.specs.Run.{Transition, Located}
use Rattle.format.specs.JobBytes.{Between, TransitionInRange, LocatedInRange, JobInRange}
use Rattle.format.specs.JobNumbers.{transition_numbers}
use Rattle.format.proofs.Written.{at_most_all, transition_at_most}
use Rattle.lines.specs.declared.Line.{Line}
use Rattle.listing.specs.LineByLine.{reached, begin, go_on, translate_by}
use Rattle.listing.specs.Limits.{WithinLimits}
use Rattle.listing.specs.Listing.{marks_in}
use Rattle.listing.specs.Names.{variables_for}
use Rattle.listing.specs.Reading.{nothing_seen, Fault, first_fault, meet_lines, Listing, listing_of, listed, unless}
use Rattle.listing.specs.Text.{lines_of, lines_in}
use Rattle.listing.specs.Translation.{end, MarkState, transitions_of, states_of, marks_of, state_of}
use Rattle.listing.specs.Written.{file_of, numbers_ahead, or_none, mark_states, in_room, translate_read, translate}
use Rattle.listing.proofs.Emitted.{Emitted, emit_all, set_all, adding, end_next, emit_block}
use Rattle.listing.proofs.Faultless.{Faultless, faultless}
use Rattle.listing.proofs.Fits.{fine_in}
use Rattle.listing.proofs.Lines.{Proper, proper_lines}
use Rattle.listing.proofs.Names.{numbered_all_lem, number_block, variables_range}
use Rattle.listing.proofs.Numbers.{states_below, few_transitions}
use Rattle.listing.proofs.OnePass.{numbered_line, numbered_all, position, told, agrees}
use Rattle.listing.proofs.Operations.{named}
use Rattle.listing.proofs.Read.{next_lines, fits_variables, lettered, lines_are, within_limits}
use Rattle.listing.proofs.Theorem.{numbers, numbers_in}

-- ---- the job of a listing is in range, apart from what it forbids

module _ (l : Listing) (ok : WithinLimits l) where
  pub some_states : 1 ≤ states_of l.statements
  some_states = omega (arith, next_lines l.statements 1)

  abbrev variables : ℕ
  variables = variables_for l.names

  transitions_in_range : (t : Transition) → t ∈ transitions_of l.statements → TransitionInRange 1 variables (states_of l.statements) t
  transitions_in_range t m =
      let (a, b) = states_below l.statements t m in
      record { from = a; op = named variables t.op (fine_in l.statements variables 0 1 (fits_variables l ok) t m); to = b }

  pub in_range : (bads : List Located) → Between 1 64 (length bads)
      → Every (LocatedInRange 1 variables (states_of l.statements)) bads → JobInRange (file_of l bads)
  in_range bads n each =
      record {
        version = (omega arith, omega arith);
        variables = variables_range l.names ok.names;
        states = (some_states, ok.states);
        start = some_states;
        transitions_number = let few = few_transitions l.statements ok.states in omega arith;
        transitions = transitions_in_range;
        forbidden_number = n;
        forbidden = each;
      }

  pub ahead_small : (most : ℕ) → 94 ≤ most → AtMost most (numbers_ahead (file_of l []))
  ahead_small most enough =
      let (v, w) = variables_range l.names ok.names in
      let few = few_transitions l.statements ok.states in
      let s = ok.states in (
        omega arith,
        (
          omega arith,
          (
            omega arith,
            (
              omega arith,
              (
                omega arith,
                at_most_all most transition_numbers (transitions_of l.statements)
                    (λ t i. transition_at_most most (omega arith) 1 variables (states_of l.statements) t w s (transitions_in_range t i)),
              ),
            ),
          ),
        ),
      )

  -- every number ahead of B is one byte
  pub ahead_bytes : encode (numbers_ahead (file_of l [])) ≡ numbers_ahead (file_of l [])
  ahead_bytes = encode_bytes (numbers_ahead (file_of l [])) (ahead_small 127 (omega arith))

-- ---- the marks' states

-- what stands at i once marks are set: the state of mark i, or what stood there
abbrev or_else : Option ℕ → ℕ → ℕ
or_else none d = d
or_else (some q) d = q

set_length : (ms : List MarkState) (l : List ℕ) → length (set_all ms l) ≡ length l
set_length [] l = refl
set_length (m ∷ ms) l = set_length ms (set l m.number m.state) ∙ length-set l m.number m.state

-- a mark that isn't there has no state
pub no_state : (ms : List MarkState) (k : ℕ) → ¬ (k ∈ numbers ms) → state_of ms k ≡ none
no_state [] k n = refl
no_state (m ∷ ms) k n = go (ℕ_discrete m.number k) (no_state ms k (λ i. n (Memᴰ.tail i)))
  where
    go : (d : Dec (m.number ≡ k)) → state_of ms k ≡ none → ite d (some m.state) (state_of ms k) ≡ none
    go (yes e) w = absurd (n (Memᴰ.head (sym e)))
    go (no u) w = w

set_at : (ms : List MarkState) (l : List ℕ) (i : ℕ) → Distinct (numbers ms) → ((k : ℕ) → k ∈ numbers ms → k < length l)
    → get_or (set_all ms l) i 64 ≡ or_else (state_of ms i) (get_or l i 64)
set_at [] l i d b = refl
set_at (m ∷ ms) l i d b =
    set_at ms (set l m.number m.state) i d.1
    (λ k j. subst (λ (n : ℕ). k < n) (sym (length-set l m.number m.state)) (b k (Memᴰ.tail j)))
    ∙ go (ℕ_discrete m.number i)
  where
    go : (e : Dec (m.number ≡ i))
        → or_else (state_of ms i) (get_or (set l m.number m.state) i 64) ≡ or_else (ite e (some m.state) (state_of ms i)) (get_or l i 64)
    go (yes e) =
        ap (λ s. or_else s (get_or (set l m.number m.state) i 64)) (no_state ms i (subst (λ (k : ℕ). ¬ (k ∈ numbers ms)) e d.0))
        ∙ ap (λ (k : ℕ). get_or (set l m.number m.state) k 64) (sym e)
        ∙ get_or-set_same l m.number m.state 64 (b m.number (Memᴰ.head refl))
    go (no n) = ap (or_else (state_of ms i)) (get_or-set_other l m.number i m.state 64 (λ e. n (sym e)))

marks_set : (l : Listing) → WithinLimits l → set_all (marks_of l.statements) (replicate 64 64) ≡ mark_states l
marks_set l ok =
    let ms = marks_of l.statements in
    let which : numbers ms ≡ marks_in l.statements = numbers_in l.statements 0 1 in
    let none_yet : List ℕ = replicate 64 64 in
    let sized : length none_yet ≡ 64 = length-replicate {A = ℕ} 64 64 in
    tabled (λ k. or_none (state_of ms k)) 64 64 (set_all ms none_yet) (set_length ms none_yet ∙ sized)
    (λ i b.
    set_at ms none_yet i (subst Distinct (sym which) ok.once) (λ k j. let w = ok.marks k (subst (λ s. k ∈ s) which j) in omega (arith, sized))
    ∙ ap (or_else (state_of ms i)) (get_or-replicate {A = ℕ} 64 i 64 64 b)
    ∙ alike (state_of ms i))
  where
    alike : (s : Option ℕ) → or_else s 64 ≡ or_none s
    alike none = refl
    alike (some q) = refl

-- ---- the call

abbrev begun : Emitted
begun = record { passed = 0; opens = []; count = 0; transitions = []; marks = replicate 64 64 }

module _ (ls : List Line) (p : Every Proper ls) (f : Faultless ls nothing_seen) where
  abbrev l : Listing
  l = listing_of ls

  -- what all lines add
  all_added : emit_all (numbered_all [] ls) begun
      ≡ adding [] (end l.statements 0 1) (transitions_of l.statements) (marks_of l.statements) begun
  all_added =
      ap (λ x. emit_all x begun)
      (numbered_all_lem [] ls
      ∙ ap (map (numbered_line l.names)) (lines_are ls p f)
      ∙ number_block l.names (lettered ls p f)
      ∙ sym (append-nil (lines_in l.statements)))
      ∙ emit_block l.statements [] begun

  room_same : (room : ℕ) → translate_read room (listed l) ≡ translate_by room (reached (position l.names (emit_all (numbered_all [] ls) begun)))
  room_same room =
      let ok = within_limits ls p f in
      ap₂ (in_room room)
      (ahead_bytes l ok
      ∙ (λ i.
      1
      ∷ variables_for l.names
      ∷ sym (end_next l.statements 0) i
      ∷ 0
      ∷ sym (count_same (length (transitions_of l.statements))) i
      ∷ concat_map transition_numbers (transitions_of l.statements)))
      (sym (marks_set l ok))
      ∙ ap (λ e. translate_by room (reached (position l.names e))) (sym all_added)
    where
      count_same : (n : ℕ) → n + 0 ≡ n
      count_same n = omega arith

-- WHAT THE CALL GIVES is what the one pass over the lines gives
pub one_pass : (text : List ℕ) (room : ℕ) → translate text room ≡ translate_by room (go_on (lines_of text) begin)
unfolding translate
one_pass text room =
    go (first_fault (lines_of text) nothing_seen) refl
    ∙ ap (translate_by room)
    (sym
    (agrees (lines_of text) (proper_lines text) begun [] []
    (record {
      sized = length-replicate {A = ℕ} 64 64;
      few = omega arith;
      shallow = omega arith;
      seen = λ k h. sym (ap (λ (q : ℕ). eqb q 64) (get_or-replicate {A = ℕ} 64 k 64 64 (omega arith)));
    })))
  where
    go : (f : Option Fault) → first_fault (lines_of text) nothing_seen ≡ f
        → translate_read room (unless f (listing_of (lines_of text)))
        ≡ translate_by room (told f (position (meet_lines [] (lines_of text)) (emit_all (numbered_all [] (lines_of text)) begun)))
    go none w = room_same (lines_of text) (proper_lines text) (faultless (lines_of text) nothing_seen w) room
    go (some f) w = refl
