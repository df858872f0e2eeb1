-- The theorem over what is read: a run over statements reaches mark k with a heap exactly if the transitions reach the state told for mark k with
-- that heap. Where 64 is told, neither does.
use mathlib.Core.List.{List, []}
use mathlib.Core.Logic.{◌↔◌}
use mathlib.Core.Option.{Option, none, some}
use mathlib.Core.Path.{◌≡◌, refl, sym, ap, subst, ◌∙◌}
use Prim.Native.Nat.{ℕ, ◌<◌}
use native.Mathlib.Decide.{dec_lt}
use native.Mathlib.Nat.{zero-add}
use native.Mathlib.Omega.{arith}
use lib.ListN.{length, get_or, get_or-eq_default}
use Rattle.lists.specs.List.{◌∈◌, Distinct}
use Rattle.lists.proofs.Range.{length_from, get_or_from}
use Rattle.heap.specs.Heap.{Heap, empty}
use Rattle.run.proofs.Runs.{all_kept}
use Rattle.listing.specs.Limits.{WithinLimits}
use Rattle.listing.specs.Listing.{Reaches, marks_in}
use Rattle.listing.specs.Names.{variables_for}
use Rattle.listing.specs.Reading.{Listing, listed, read}
use Rattle.listing.specs.Translation.{transitions_of, states_of, marks_of, state_of, ReachesState}
use Rattle.listing.specs.Written.{file_of, or_none, mark_states}
use Rattle.listing.proofs.Backward.{backward}
use Rattle.listing.proofs.Forward.{forward}
use Rattle.listing.proofs.Numbers.{states_below}
use Rattle.listing.proofs.OneCall.{some_states, no_state}
use Rattle.listing.proofs.Read.{fits_variables, read_within}
use Rattle.listing.proofs.Theorem.{numbers, numbers_in, state_mem, mem_state}

module _ (l : Listing) (ok : WithinLimits l) where
  -- a run is at states of the listing only
  no_state_past : (q : ℕ) (h : Heap) → ReachesState (file_of l []).job q h → q < states_of l.statements
  no_state_past q h (es, i) =
      all_kept (transitions_of l.statements) (λ c. c.state < states_of l.statements) (λ t x c m e en p. (states_below l.statements t m).1) es
      (record { state = 0; heap = empty }) (some_states l ok) (record { state = q; heap = h }) i

  which : numbers (marks_of l.statements) ≡ marks_in l.statements
  which = numbers_in l.statements 0 1

  -- what is told for mark k, also where k is above 63
  told_state : (k : ℕ) → get_or (mark_states l) k 64 ≡ or_none (state_of (marks_of l.statements) k)
  told_state k = go (dec_lt k 64)
    where
      go : Dec (k < 64) → get_or (mark_states l) k 64 ≡ or_none (state_of (marks_of l.statements) k)
      go (yes b) =
          get_or_from (λ j. or_none (state_of (marks_of l.statements) j)) 64 0 64 k b
          ∙ ap (λ j. or_none (state_of (marks_of l.statements) j)) (zero-add k)
      go (no n) =
          let sized : length (mark_states l) ≡ 64 = length_from (λ j. or_none (state_of (marks_of l.statements) j)) 0 64 in
          get_or-eq_default (mark_states l) 64 {n = k} (omega arith)
          ∙ sym (ap or_none (no_state (marks_of l.statements) k (λ i. let w = ok.marks k (subst (λ s. k ∈ s) which i) in omega arith)))

  pub exact_mark : (k : ℕ) (h : Heap) → Reaches l.statements k h ↔ ReachesState (file_of l []).job (get_or (mark_states l) k 64) h
  exact_mark k h = (to, λ r. from (state_of (marks_of l.statements) k) refl (subst (λ q. ReachesState (file_of l []).job q h) (told_state k) r))
    where
      to : Reaches l.statements k h → ReachesState (file_of l []).job (get_or (mark_states l) k 64) h
      to m =
          let (q, i, r) = forward (variables_for l.names) l.statements (fits_variables l ok) k h m in
          let e = mem_state (marks_of l.statements) (subst Distinct (sym which) ok.once) k q i in
          subst (λ p. ReachesState (file_of l []).job p h) (sym (told_state k ∙ ap or_none e)) r

      from : (s : Option ℕ) → state_of (marks_of l.statements) k ≡ s → ReachesState (file_of l []).job (or_none s) h → Reaches l.statements k h
      from none e r = absurd (let w = no_state_past 64 h r in let v = ok.states in omega arith)
      from (some q) e r =
          backward (variables_for l.names) l.statements (record { number = k; state = q }) (state_mem (marks_of l.statements) k q e) h r

-- THE THEOREM over a text that is a listing
pub exact : (text : List ℕ) (l : Listing) → read text ≡ listed l → (k : ℕ) (h : Heap)
    → Reaches l.statements k h ↔ ReachesState (file_of l []).job (get_or (mark_states l) k 64) h
exact text l e = exact_mark l (read_within text l e)
