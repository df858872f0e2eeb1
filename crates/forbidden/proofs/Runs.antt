-- What a safe job that forbids the ready shapes guarantees on its runs.
use mathlib.Core.List.Memᴰ
use mathlib.Core.List.{List}
use mathlib.Core.Logic.{◌≢◌, ◌↔◌, ◌⊎◌, inl, inr}
use mathlib.Core.Path.{◌≡◌, refl, sym, subst}
use Prim.Native.Nat.{ℕ, ◌≤◌, ◌<◌}
use native.Mathlib.Omega.{arith}
use Rattle.lists.specs.List.{◌∈◌}
use Rattle.lists.proofs.List.{mem_concat_map}
use Rattle.heap.specs.Heap.{Heap}
use Rattle.heap.specs.Operation.{Op, equal, different, assign, load, store, new, delete, equal_value, below_value, copy, larger, smaller, read, Allowed}
use Rattle.heap.specs.Place.{nowhere, null, dangling, cell}
use Rattle.shape.specs.Shape.{Shape, SatisfiesOne, Satisfies}
use Rattle.run.specs.Run.{Transition, Located, Job, Entry, Config, run, Safe}
use Rattle.run.proofs.Runs.{run_formed}
use Rattle.run.specs.WellFormed.{WellFormed}
use Rattle.run.proofs.WellFormed.{not_dangling}
use Rattle.forbidden.specs.Guarantees.{Means, ListAt, NoneLostAt, StepsAtCells}
use Rattle.forbidden.specs.MetFrom.{MetFrom}
use Rattle.forbidden.specs.Sets.{standing_at, not_list_shapes, lost_block_shapes, at_state, steps_through, bad_step_shapes, bad_steps_of, bad_steps_shapes, also_forbid, Forbids}
use Rattle.forbidden.proofs.Standing.{stands}
use Rattle.forbidden.proofs.Theorems.{four_or_met, six_or_met, not_list, lost_block}

-- THE SETS mean what document 02 says, in every heap that is well formed, of any size
pub means : (h : Heap) (n : ℕ) → WellFormed n h → (x : ℕ) → x ≢ 0 → x ≤ n → Means h n x
means h n w x x≢0 x≤n =
    record {
      not_list = not_list h n w x x≢0 x≤n;
      lost_block = lost_block h n w x x≢0 x≤n;
      bad_step = (λ (s, m, z). out s m z, into);
    }
  where
    at : (p : ℕ) → nowhere < p → p < cell 0 → Satisfies h (standing_at n x p) ↔ (h.var x ≡ p)
    at p a b = stands h n w x p x≢0 x≤n a b

    out : (s : Shape) → s ∈ bad_step_shapes n x → Satisfies h s → (h.var x ≡ null) ⊎ (h.var x ≡ dangling)
    out s (Memᴰ.head e) z = inl ((at null (omega arith) (omega arith)).0 (subst (Satisfies h) e z))
    out s (Memᴰ.tail m) z =
        inr ((at dangling (omega arith) (omega arith)).0 (subst (Satisfies h) (Memᴰ.eq_of_singleton m) z))

    into : (h.var x ≡ null) ⊎ (h.var x ≡ dangling) → SatisfiesOne h (bad_step_shapes n x)
    into (inl e) = (standing_at n x null, Memᴰ.head refl, (at null (omega arith) (omega arith)).1 e)
    into (inr e) = (standing_at n x dangling, Memᴰ.tail (Memᴰ.head refl), (at dangling (omega arith) (omega arith)).1 e)

-- the variables that an operation steps through are variables of the job
pub through_range : (n : ℕ) (o : Op) → Allowed n o → (v : ℕ) → v ∈ steps_through o → (v ≢ 0) × (v ≤ n)
through_range n (equal_value _ _) k v m = elim m [ ]
through_range n (below_value _ _) k v m = elim m [ ]
through_range n (copy _ _) k v m = elim m [ ]
through_range n (larger _ _) k v m = elim m [ ]
through_range n (smaller _ _) k v m = elim m [ ]
through_range n (read _) k v m = elim m [ ]
through_range n (equal a b) k v m = absurd (Memᴰ.not-nil m)
through_range n (different a b) k v m = absurd (Memᴰ.not-nil m)
through_range n (assign a b) k v m = absurd (Memᴰ.not-nil m)
through_range n (load a b) k v m = let e = Memᴰ.eq_of_singleton m in (omega arith, omega arith)
through_range n (store a b) k v m = let e = Memᴰ.eq_of_singleton m in (omega arith, omega arith)
through_range n (new a) k v m = absurd (Memᴰ.not-nil m)
through_range n (delete a) k v m = absurd (Memᴰ.not-nil m)

module _ (j : Job) (allowed : (t : Transition) → t ∈ j.transitions → Allowed j.variables t.op) where
  -- so on every run
  pub means_on_runs : (x : ℕ) → x ≢ 0 → x ≤ j.variables → (es : List Entry) (c : Config) → c ∈ run j es → Means c.heap j.variables x
  means_on_runs x x≢0 x≤n es c m = means c.heap j.variables (run_formed j allowed es c m) x x≢0 x≤n

  module _ (safe : Safe j) where
    none : (q : ℕ) (list : List Shape) → Forbids j (at_state q list) → (es : List Entry) (c : Config) → c ∈ run j es → c.state ≡ q
        → SatisfiesOne c.heap list → ⊥
    none q list f es c m there (s, k, z) =
        let bad : Located = record { state = q; shape = s } in
        safe es c m bad (f bad (Memᴰ.map (λ (s : Shape). record { state = q; shape = s }) k)) (sym there) z

    module _ (x q : ℕ) (x≢0 : x ≢ 0) (x≤n : x ≤ j.variables) where
      -- where "not a proper list" is forbidden, # is met from x
      pub list_at : Forbids j (at_state q (not_list_shapes j.variables x)) → ListAt j x q
      list_at f es c m there = go (four_or_met c.heap j.variables (run_formed j allowed es c m) x x≢0 x≤n)
        where
          go : SatisfiesOne c.heap (not_list_shapes j.variables x) ⊎ MetFrom c.heap x null → MetFrom c.heap x null
          go (inl z) = absurd (none q (not_list_shapes j.variables x) f es c m there z)
          go (inr z) = z

      -- where "lost block" is forbidden, every cell is met from x
      pub none_lost_at : Forbids j (at_state q (lost_block_shapes j.variables x)) → NoneLostAt j x q
      none_lost_at f es c m there p k = go (six_or_met c.heap j.variables (run_formed j allowed es c m) x x≢0 x≤n p k)
        where
          go : SatisfiesOne c.heap (lost_block_shapes j.variables x) ⊎ MetFrom c.heap x p → MetFrom c.heap x p
          go (inl z) = absurd (none q (lost_block_shapes j.variables x) f es c m there z)
          go (inr z) = z

    -- where "step through null" and "step through dangling" are forbidden, a step finds a cell
    pub steps_at_cells : Forbids j (bad_steps_shapes j.variables j.transitions) → StepsAtCells j
    steps_at_cells f es c m t k from v i =
        not_dangling c.heap (run_formed j allowed es c m) v (through_range j.variables t.op (allowed t k) v i).1 (λ e. off (inr e)) (λ e. off (inl e))
      where
        here : Forbids j (at_state t.from (bad_step_shapes j.variables v))
        here bad l =
            f bad
            (mem_concat_map (bad_steps_of j.variables) bad k (mem_concat_map (λ v. at_state t.from (bad_step_shapes j.variables v)) bad i l))

        off : (c.heap.var v ≡ null) ⊎ (c.heap.var v ≡ dangling) → ⊥
        off e =
            let (v≢0, v≤n) = through_range j.variables t.op (allowed t k) v i in
            none t.from (bad_step_shapes j.variables v) here es c m (sym from) ((means_on_runs v v≢0 v≤n es c m).bad_step.1 e)

-- ---- the job written again

pub also_forbids : (list : List Located) (j : Job) → Forbids (also_forbid list j) list
also_forbids list j bad m = Memᴰ.append_right j.forbidden m

-- it forbids what it did before
pub still_safe : (list : List Located) (j : Job) → Safe (also_forbid list j) → Safe j
still_safe list j safe es c m bad k = safe es c m bad (Memᴰ.append_left list k)
