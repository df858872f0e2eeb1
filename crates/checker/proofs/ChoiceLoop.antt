-- Checking the covers of what choices give, one choice after the other.
use mathlib.Core.List.{List, [], ◌++◌, map, map-append}
use mathlib.Core.Logic.{◌⊎◌, inl, inr}
use mathlib.Core.Path.{◌≡◌, refl, ◌∙◌}
use Prim.Native.Nat.{ℕ, zero, suc, ◌+◌, ◌-◌, ◌≤◌, ◌<◌}
use native.Mathlib.Decide.{ℕ_discrete, dec_lt}
use native.Mathlib.Omega.{arith}
use Rattle.lists.specs.List.{concat_map}
use Rattle.lists.specs.Range.{range}
use Rattle.run.specs.Run.{Located}
use Rattle.undoing.specs.Rowed.{Rowed}
use Rattle.format.specs.Parser.{Parser}
use Rattle.std.specs.Prelude.{Ok, Err}
use Rattle.verdict.specs.declared.Refused.{Refused}
use Rattle.placing.specs.declared.Choices.{Choices}
use Rattle.placing.proofs.Ranges.{stretch, Covers}
use Rattle.checker.specs.Checking.{Within, cover_rowed, covers_rowed, Checked, Checks}
use Rattle.checker.specs.declared.checked.Position.{Position}
use Rattle.checker.proofs.Lists.{range_next, range_end}
use Rattle.checker.proofs.Checking.{Progress, begin, advance, halt, finish}

-- what the choices from k to before `past` give
abbrev rest : (Rowed → Parser ℕ) → (ℕ → List Rowed) → ℕ → ℕ → List (Parser ℕ)
rest cover f past k = map cover (stretch f k past)

rest_on : (cover : Rowed → Parser ℕ) (f : ℕ → List Rowed) (past k : ℕ) → f k ≡ [] → rest cover f past k ≡ rest cover f past (k + 1)
rest_on cover f past k none = go (dec_lt k past)
  where
    go : Dec (k < past) → rest cover f past k ≡ rest cover f past (k + 1)
    go (yes h) = rw (range_next past k h, none) refl
    go (no h) = rw (range_end past k (omega arith), range_end past (k + 1) (omega arith)) refl

rest_end : (cover : Rowed → Parser ℕ) (f : ℕ → List Rowed) (past k m : ℕ) → past ≤ k → past ≤ m → rest cover f past k ≡ rest cover f past m
rest_end cover f past k m h l = rw (range_end past k h, range_end past m l) refl

-- choices that give nothing are passed over
rest_skip : (cover : Rowed → Parser ℕ) (f : ℕ → List Rowed) (past d k : ℕ) → ((i : ℕ) → k ≤ i → i < k + d → i < past → f i ≡ [])
    → rest cover f past k ≡ rest cover f past (k + d)
rest_skip cover f past zero k none = let e : k + 0 ≡ k = omega arith in rw e refl
rest_skip cover f past (suc d) k none =
    go (dec_lt k past) (rest_skip cover f past d (k + 1) (λ i l h b. none i (omega arith) (omega arith) b))
  where
    go : Dec (k < past) → rest cover f past (k + 1) ≡ rest cover f past (k + 1 + d) → rest cover f past k ≡ rest cover f past (k + suc d)
    go (yes h) later = let e : k + suc d ≡ k + 1 + d = omega arith in rw e (rest_on cover f past k (none k (omega arith) (omega arith) h) ∙ later)
    go (no h) later = rest_end cover f past k (k + suc d) (omega arith) (omega arith)

-- k is one of the choices, or after them
abbrev Among : Choices → ℕ → Type 0
Among c k = (c.step ≡ 1) ⊎ ((k ≡ c.from) ⊎ (c.to ≤ suc k))

-- covers are taken for the choices before k, which is one of those to try
pub record ChoiceLoop (cert : List ℕ) (ms : List Located) (state : ℕ) (f : ℕ → List Rowed) (c : Choices) (start past : ℕ) (t₀ : Position) (k : ℕ) (t : Position) : Type 0 where
  pub progress : Progress cert (rest (cover_rowed cert ms state) f past start) t₀ (rest (cover_rowed cert ms state) f past k) t
  pub among : Among c k

-- what lies within a step gives nothing
module _ {f : ℕ → List Rowed} {c : Choices} {start past : ℕ} (h : Covers c (λ j. f j ≡ []) start past) (k : ℕ) (inside : k < c.to) where
  passed : Among c k → Dec (c.step ≡ 1) → (i : ℕ) → k + 1 ≤ i → i < k + c.step → i < past → f i ≡ []
  passed a (yes e) i l b m = absurd (omega arith)
  passed (inl e) (no s) i l b m = absurd (s e)
  passed (inr (inl e)) (no s) i l b m = h.between s i (omega arith) (omega (arith, h.two s))
  passed (inr (inr e)) (no s) i l b m = h.after i (omega arith) m

  still : Among c k → Dec (c.step ≡ 1) → Among c (k + c.step)
  still a (yes e) = inl e
  still (inl e) (no s) = inl e
  still (inr (inl e)) (no s) = inr (inr (omega (arith, h.two s)))
  still (inr (inr e)) (no s) = inr (inr (omega arith))

  skipped : (cover : Rowed → Parser ℕ) → Among c k → rest cover f past (k + 1) ≡ rest cover f past (k + c.step)
  skipped cover a =
      let e : k + 1 + (c.step - 1) ≡ k + c.step = omega (arith, h.forward) in
      rest_skip cover f past (c.step - 1) (k + 1) (λ i l b m. passed a (ℕ_discrete c.step 1) i l (omega arith) m) ∙ rw e refl

module _ {cert : List ℕ} {ms : List Located} {state : ℕ} {f : ℕ → List Rowed} {c : Choices} {start past : ℕ} (h : Covers c (λ j. f j ≡ []) start past) where
  pub loop_none : {t : Position} → Within cert t → ChoiceLoop cert ms state f c start past t c.from t
  loop_none w =
      let e : start + (c.from - start) ≡ c.from = omega (arith, h.least) in
      let skip : rest (cover_rowed cert ms state) f past start ≡ rest (cover_rowed cert ms state) f past c.from =
      rw e at (rest_skip (cover_rowed cert ms state) f past (c.from - start) start (λ i l b m. h.before i l (omega (arith, h.least)))) in
      record { progress = rw skip (begin w); among = inr (inl refl) }

  module _ {t₀ : Position} {k : ℕ} {t : Position} (now : ChoiceLoop cert ms state f c start past t₀ k t) where
    abbrev here : List (Parser ℕ)
    here = covers_rowed cert ms state (f k)

    next : k < c.to → Progress cert (rest (cover_rowed cert ms state) f past start) t₀ (here ++ rest (cover_rowed cert ms state) f past (k + 1)) t
    next inside =
        rw (range_next past k (omega (arith, h.most)), map-append (cover_rowed cert ms state) (f k) (concat_map f (range (k + 1) (past - (k + 1))))) at now.progress

    -- a choice that gives nothing is passed
    pub loop_past : k < c.to → f k ≡ [] → ChoiceLoop cert ms state f c start past t₀ (k + c.step) t
    loop_past inside none =
        record {
          progress = rw (rest_on (cover_rowed cert ms state) f past k none ∙ skipped h k inside (cover_rowed cert ms state) now.among) at now.progress;
          among = still h k inside now.among (ℕ_discrete c.step 1);
        }

    module _ (inside : k < c.to) {g : Checked} (taken : Checks cert ms state (f k) t g) where
      pub loop_more : {u : Position} → g ≡ Ok u → ChoiceLoop cert ms state f c start past t₀ (k + c.step) u
      loop_more e =
          record {
            progress = rw (skipped h k inside (cover_rowed cert ms state) now.among) at (advance here (rest (cover_rowed cert ms state) f past (k + 1)) (next inside) taken e);
            among = still h k inside now.among (ℕ_discrete c.step 1);
          }

      pub loop_stop : {r : Refused} → g ≡ Err r → {all : List Rowed} → stretch f start past ≡ all → Checks cert ms state all t₀ (Err r)
      loop_stop e all-is = rw (← all-is) (halt here (rest (cover_rowed cert ms state) f past (k + 1)) (next inside) taken e)

    pub loop_all : c.to ≤ k → {all : List Rowed} → stretch f start past ≡ all → Checks cert ms state all t₀ (Ok t)
    loop_all b all-is = rw (← all-is) (finish (rw (over ∙ end) at now.progress))
      where
        over : rest (cover_rowed cert ms state) f past k ≡ rest (cover_rowed cert ms state) f past (k + past)
        over = rest_skip (cover_rowed cert ms state) f past past k (λ i l _ m. h.after i (omega arith) m)

        end : rest (cover_rowed cert ms state) f past (k + past) ≡ []
        end = rw (range_end past (k + past) (omega arith)) refl
