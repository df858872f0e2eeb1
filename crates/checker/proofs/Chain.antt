-- Following the index from one transition into a state to the next.
use mathlib.Core.List.{List, ◌++◌, map-append}
use mathlib.Core.Path.{◌≡◌, sym, ◌∙◌}
use Prim.Native.Nat.{ℕ, zero, suc, ◌+◌, ◌-◌, ◌≤◌, ◌<◌}
use native.Mathlib.Omega.{arith}
use lib.ListN.{get_or}
use Rattle.run.specs.Run.{Located}
use Rattle.format.specs.Certificate.{read_cover}
use Rattle.format.specs.Parser.{certificate_buffer}
use Rattle.transitions.specs.Index.{next_into, Chained}
use Rattle.checker.proofs.Into.{before, owed_from, FirstInto, none_into, some_into}
use Rattle.reader.specs.declared.Header.{Header}
use Rattle.std.specs.Prelude.{Ok, Err}
use Rattle.verdict.specs.declared.Refused.{Refused}
use Rattle.checker.specs.Jobs.{transition_in, to_state, owed_by}
use Rattle.checker.specs.Checking.{Within, Checked, covers_of, ChecksAll}
use Rattle.checker.specs.declared.checked.Position.{Position}
use Rattle.checker.proofs.Checking.{Progress, begin, advance, halt, finish}

-- how many transitions there are from the one that k names on
abbrev pub left_from : ℕ → ℕ → ℕ
left_from count zero = 0
left_from count (suc i) = count - i

left_from_lem : (count k : ℕ) → 0 < k → left_from count k ≡ count - (k - 1)
left_from_lem count zero h = absurd (omega arith)
left_from_lem count (suc i) h = omega arith

-- covers are taken for the transitions below `passed`; k names the first into the member's state among the others
pub record Chain (job : List ℕ) (h : Header) (cert : List ℕ) (ms : List Located) (m : Located) (from : Position) (k : ℕ) (t : Position) : Type 0 where
  pub passed : ℕ
  pub inside : passed ≤ h.transitions
  pub named : k ≡ next_into (to_state job h) m.state (h.transitions - passed) passed
  pub progress : Progress cert (covers_of cert ms (owed_by job h m)) from (covers_of cert ms (owed_from (transition_in job h) m (h.transitions - passed) passed)) t

module _ {job : List ℕ} {h : Header} {cert : List ℕ} {ms : List Located} {m : Located} {from : Position} where
  pub chain_begin : {k : ℕ} → k ≡ next_into (to_state job h) m.state h.transitions 0 → Within cert from → Chain job h cert ms m from k from
  chain_begin e w =
      let all : h.transitions - 0 ≡ h.transitions = omega arith in
      record { passed = 0; inside = omega arith; named = rw all e; progress = rw all (begin w) }

  pub chain_end : {k : ℕ} {t : Position} → Chain job h cert ms m from k t → k ≤ 0 → ChecksAll cert ms (owed_by job h m) from (Ok t)
  chain_end c e =
      let none = none_into (transition_in job h) m (h.transitions - c.passed) c.passed (sym c.named ∙ omega arith) in
      finish (rw none at c.progress)

  module _ {k : ℕ} {t : Position} (c : Chain job h cert ms m from k t) (some : 0 < k) where
    abbrev here : List Located
    here = before m (transition_in job h (k - 1))

    abbrev rest : List Located
    rest = owed_from (transition_in job h) m (h.transitions - suc (k - 1)) (suc (k - 1))

    first : FirstInto (transition_in job h) m (h.transitions - c.passed) c.passed (k - 1)
    first = some_into (transition_in job h) m (h.transitions - c.passed) c.passed (k - 1) (sym c.named ∙ omega arith)

    -- the slot of the index that names the next
    slot : 64 + (k - 1) ≡ 63 + k
    slot = omega arith

    pub chain_below : k - 1 < h.transitions
    chain_below = omega (arith, first.below, c.inside)

    left : Progress cert (covers_of cert ms (owed_by job h m)) from (covers_of cert ms here ++ covers_of cert ms rest) t
    left =
        let same : c.passed + (h.transitions - c.passed) - suc (k - 1) ≡ h.transitions - suc (k - 1) = omega (arith, c.inside) in
        rw (map-append (read_cover (certificate_buffer cert) ms) here rest) at (rw same at (rw first.owes at c.progress))

    module _ {g : Checked} (taken : ChecksAll cert ms here t g) where
      pub chain_halt : {r : Refused} → g ≡ Err r → ChecksAll cert ms (owed_by job h m) from (Err r)
      chain_halt e = halt (covers_of cert ms here) (covers_of cert ms rest) left taken e

      pub chain_more : (index : List ℕ) → Chained (to_state job h) h.transitions 0 index → {u : Position} → g ≡ Ok u
          → Chain job h cert ms m from (get_or index (63 + k) 0) u
      chain_more index follows e =
          rw (← slot)
          record {
            passed = suc (k - 1);
            inside = chain_below;
            named = rw (← first.into) (follows (k - 1) (omega arith) chain_below);
            progress = advance (covers_of cert ms here) (covers_of cert ms rest) left taken e;
          }

    pub chain_less : (index : List ℕ) → Chained (to_state job h) h.transitions 0 index → left_from h.transitions (get_or index (63 + k) 0) < left_from h.transitions k
    chain_less index follows =
        rw (left_from_lem h.transitions k some, ← slot) (by_next (get_or index (64 + (k - 1)) 0) (follows (k - 1) (omega arith) chain_below))
      where
        by_next : (next : ℕ) → next ≡ next_into (to_state job h) (to_state job h (k - 1)) (h.transitions - suc (k - 1)) (suc (k - 1))
            → left_from h.transitions next < h.transitions - (k - 1)
        by_next zero e = omega (arith, chain_below)
        by_next (suc j) e =
            let f = some_into (transition_in job h) m (h.transitions - suc (k - 1)) (suc (k - 1)) j (rw (← first.into) (sym e)) in
            omega (arith, chain_below, f.from, f.below)
