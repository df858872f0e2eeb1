-- What is written is a job, with the set after its own, and what its acceptance guarantees.
use mathlib.Core.Bool.{Bool, true, false, cond, not}
use mathlib.Core.List.Memᴰ
use mathlib.Core.List.{List, [], ◌∷◌, ◌++◌}
use mathlib.Core.Logic.{◌≢◌, ◌⊎◌, inl, inr}
use mathlib.Core.Path.{◌≡◌, refl, sym, ap, ◌∙◌, subst}
use Prim.Native.Nat.{ℕ, suc, ◌≤◌, ◌<◌}
use native.Mathlib.Omega.{arith}
use lib.Dec.{ltb, T}
use lib.ListN.{length, drop, length-append}
use Rattle.lists.specs.List.{◌∈◌, Every}
use Rattle.lists.proofs.List.{concat_map_mem}
use Rattle.lists.proofs.Reflect.{Reflect, r_le, r_lt, r_and}
use Rattle.number.specs.NumberList.{encode}
use Rattle.heap.specs.Place.{null, dangling}
use Rattle.shape.specs.Shape.{Shape}
use Rattle.run.specs.Run.{Transition, Located, Safe}
use Rattle.heap.specs.Operation.{Allowed}
use Rattle.heap.proofs.Operands.{named_allowed}
use Rattle.format.specs.Conditions.{Acceptable}
use Rattle.format.specs.Job.{read_whole_job}
use Rattle.format.specs.JobBytes.{FactsInRange, LocatedInRange, JobInRange, IsJob}
use Rattle.format.specs.JobNumbers.{JobFile, job_numbers}
use Rattle.format.specs.Parser.{Parsed, parsed, fault, job_buffer}
use Rattle.format.specs.Verdict.{fits}
use Rattle.format.proofs.Exact.{exact}
use Rattle.format.proofs.Files.{job_exact, whole_sound}
use Rattle.format.proofs.Guarantee.{safe_bytes, one_job}
use Rattle.format.proofs.Sequence.{reads_decode}
use Rattle.format.proofs.Written.{written_job}
use Rattle.forbidden.specs.Sets.{not_list_shapes, lost_block_shapes, at_state, bad_step_shapes, bad_steps_of, steps_through, also_forbid}
use Rattle.forbidden.specs.Written.{ReadySet, not_list, lost_block, bad_steps, shapes_of, Guarantees, is_inside, Inside, with_set, written, refused, rewrite_file, rewrite_read, rewrite, rewrite_result, output_after, Ready, Rewrites}
use Rattle.forbidden.proofs.InRange.{Plain, not_list_in_range, lost_in_range, standing_in_range}
use Rattle.forbidden.proofs.Runs.{through_range, list_at, none_lost_at, steps_at_cells, also_forbids, still_safe}

-- what was read is the job that the bytes are
pub read_is : (job : List ℕ) (f : JobFile) (next : ℕ) → read_whole_job (job_buffer job) 0 ≡ parsed f next → IsJob job f
read_is job f next e =
    let (h, whole) = whole_sound (job_buffer job) 0 f next e in
    let (g, ok) = (job_exact (job_buffer job)).sound 0 f next h in
    record { in_range = ok; reads = reads_decode job (job_numbers f) next g whole }

-- ---- the set in a job

pub r_inside : (set : ReadySet) (n states : ℕ) → Reflect (Inside set n states) (is_inside set n states)
r_inside (not_list x q) n states = r_and (r_and (r_le 1 x) (r_lt x (suc n))) (r_lt q states)
r_inside (lost_block x q) n states = r_and (r_and (r_le 1 x) (r_lt x (suc n))) (r_lt q states)
r_inside bad_steps n states = record { holds = λ t. t; tests = λ t. t }

module _ (f : JobFile) (ok : JobInRange f) where
  abbrev shapes : ReadySet → List Located
  shapes set = shapes_of set f.job.variables f.job.transitions

  operands : (t : Transition) → t ∈ f.job.transitions → Allowed f.job.variables t.op
  operands t i = let (kind, a, b, (_, e)) = (ok.transitions t i).op in named_allowed f.job.variables kind a b t.op e

  -- shapes in range at a state in range
  at_in_range : (q : ℕ) → q < f.states → (list : List Shape) → Every (Plain f.job.variables 12) list
      → (m : Located) → m ∈ at_state q list → LocatedInRange f.version f.job.variables f.states m
  at_in_range q b list h m i =
      let (s, k, e) = Memᴰ.of_map (λ s. record { state = q; shape = s }) list i in
      subst (LocatedInRange f.version f.job.variables f.states) e (record {
        state = b;
        shape = (h s k).0;
        facts = subst (FactsInRange f.version) (sym (h s k).1) (record { number = omega arith; rising = tt; none = λ _. refl });
      })

  step_in_range : (v : ℕ) → v ≢ 0 → v ≤ f.job.variables → (s : Shape) → s ∈ bad_step_shapes f.job.variables v → Plain f.job.variables 12 s
  step_in_range v v≢0 v≤n s (Memᴰ.head e) =
      subst (Plain f.job.variables 12) (sym e) (standing_in_range f.job.variables v 12 v≢0 v≤n (omega arith) null (omega arith) (omega arith))
  step_in_range v v≢0 v≤n s (Memᴰ.tail i) =
      subst (Plain f.job.variables 12) (sym (Memᴰ.eq_of_singleton i))
      (standing_in_range f.job.variables v 12 v≢0 v≤n (omega arith) dangling (omega arith) (omega arith))

  pub set_in_range : (set : ReadySet) → Inside set f.job.variables f.states → (m : Located) → m ∈ shapes set → LocatedInRange f.version f.job.variables f.states m
  set_in_range (not_list x q) ((a, b), c) m i =
      at_in_range q c (not_list_shapes f.job.variables x) (not_list_in_range f.job.variables x 12 (omega arith) (omega arith) (omega arith)) m i
  set_in_range (lost_block x q) ((a, b), c) m i =
      at_in_range q c (lost_block_shapes f.job.variables x) (lost_in_range f.job.variables x 12 (omega arith) (omega arith) (omega arith)) m i
  set_in_range bad_steps _ m i =
      let (t, k, l) = concat_map_mem (bad_steps_of f.job.variables) f.job.transitions m i in
      let (v, n, o) = concat_map_mem (λ v. at_state t.from (bad_step_shapes f.job.variables v)) (steps_through t.op) m l in
      let (v≢0, v≤n) = through_range f.job.variables t.op (operands t k) v n in
      at_in_range t.from (ok.transitions t k).from (bad_step_shapes f.job.variables v) (step_in_range v v≢0 v≤n) m o

  module _ (set : ReadySet) (inside : Inside set f.job.variables f.states) where
    -- with the set it is a job still, if it does not forbid too many shapes
    pub with_in_range : length (with_set set f).job.forbidden ≤ 64 → JobInRange (with_set set f)
    with_in_range few =
        record {
          version = ok.version;
          variables = ok.variables;
          states = ok.states;
          start = ok.start;
          transitions_number = ok.transitions_number;
          transitions = ok.transitions;
          forbidden_number = (omega (arith, ok.forbidden_number.0, length-append f.job.forbidden (shapes set)), few);
          forbidden = λ m i. either m (Memᴰ.append_cases f.job.forbidden i);
        }
      where
        either : (m : Located) → (m ∈ f.job.forbidden) ⊎ (m ∈ shapes set) → LocatedInRange f.version f.job.variables f.states m
        either m (inl i) = ok.forbidden m i
        either m (inr i) = set_in_range set inside m i

    -- if it is safe, it guarantees what the set is for
    pub guaranteed : Safe (with_set set f).job → Guarantees set f.job
    guaranteed safe = by_set set inside safe
      where
        by_set : (set : ReadySet) → Inside set f.job.variables f.states → Safe (with_set set f).job → Guarantees set f.job
        by_set (not_list x q) ((a, b), c) safe =
            let list = shapes (not_list x q) in
            list_at (also_forbid list f.job) operands safe x q (omega arith) (omega arith) (also_forbids list f.job)
        by_set (lost_block x q) ((a, b), c) safe =
            let list = shapes (lost_block x q) in
            none_lost_at (also_forbid list f.job) operands safe x q (omega arith) (omega arith) (also_forbids list f.job)
        by_set bad_steps _ safe =
            let list = shapes bad_steps in
            steps_at_cells (also_forbid list f.job) operands safe (also_forbids list f.job)

-- ---- over bytes

-- the job f was read, and what is written is its bytes with the set
pub record Wrote (job : List ℕ) (set : ReadySet) (bytes : List ℕ) : Type 0 where
  pub file : JobFile
  pub job_is : IsJob job file
  pub inside : Inside set file.job.variables file.states
  pub few : length (with_set set file).job.forbidden ≤ 64
  pub bytes_are : bytes ≡ encode (job_numbers (with_set set file))

module _ (job : List ℕ) (set : ReadySet) (room : ℕ) (bytes : List ℕ) where
  wrote_file : (f : JobFile) (next : ℕ) → read_whole_job (job_buffer job) 0 ≡ parsed f next → rewrite_file set room f ≡ written bytes → Wrote job set bytes
  unfolding rewrite_file
  wrote_file f next e =
      by_tests (is_inside set f.job.variables f.states) (ltb 64 (length (with_set set f).job.forbidden)) (ltb room (length (encode (job_numbers (with_set set f)))))
      (r_inside set f.job.variables f.states).holds (r_lt 64 (length (with_set set f).job.forbidden)).tests
    where
      by_tests : (a b c : Bool) → (T a → Inside set f.job.variables f.states) → (64 < length (with_set set f).job.forbidden → T b)
          → cond (not a) (refused 16 0)
          (cond b (refused 31 0) (cond c (refused 12 (length (encode (job_numbers (with_set set f))))) (written (encode (job_numbers (with_set set f))))))
          ≡ written bytes
          → Wrote job set bytes
      by_tests false b c i n z = let q : ◌≡◌ {A = ℕ} 0 1 = cc in absurd (omega arith)
      by_tests true true c i n z = let q : ◌≡◌ {A = ℕ} 0 1 = cc in absurd (omega arith)
      by_tests true false true i n z = let q : ◌≡◌ {A = ℕ} 0 1 = cc in absurd (omega arith)
      by_tests true false false i n z =
          let more : ¬ (64 < length (with_set set f).job.forbidden) = n in
          record { file = f; job_is = read_is job f next e; inside = i tt; few = omega arith; bytes_are = cc }

  wrote : rewrite job set room ≡ written bytes → Wrote job set bytes
  unfolding rewrite
  wrote = by_fits (fits job)
    where
      by_read : (r : Parsed JobFile) → read_whole_job (job_buffer job) 0 ≡ r → rewrite_read set room r ≡ written bytes → Wrote job set bytes
      by_read (parsed f next) e z = wrote_file f next e z
      by_read (fault why place) e z = let q : ◌≡◌ {A = ℕ} 0 1 = cc in absurd (omega arith)

      by_fits : (b : Bool) → cond b (rewrite_read set room (read_whole_job (job_buffer job) 0)) (refused 1 0) ≡ written bytes → Wrote job set bytes
      by_fits true z = by_read (read_whole_job (job_buffer job) 0) refl z
      by_fits false z = let q : ◌≡◌ {A = ℕ} 0 1 = cc in absurd (omega arith)

  ready_of : Wrote job set bytes → Ready job set bytes
  ready_of w =
      let f = w.file in
      let ok = w.job_is.in_range in
      let written_is : IsJob bytes (with_set set f) =
      subst (λ (l : List ℕ). IsJob l (with_set set f)) (sym w.bytes_are) (written_job (with_set set f) (with_in_range f ok set w.inside w.few)) in
      let safe_with : (certificate : List ℕ) → Acceptable bytes certificate → Safe (with_set set f).job =
      λ certificate (counts, c).
      let s = safe_bytes bytes certificate counts ((exact bytes certificate counts).1 c) in
      subst (λ (g : JobFile). Safe g.job) (one_job bytes s.file (with_set set f) s.job_is written_is) s.safe in
      record {
        file = f;
        job_is = w.job_is;
        written_is = written_is;
        safe = λ certificate c. still_safe (shapes f ok set) f.job (safe_with certificate c);
        guarantees = λ certificate c. guaranteed f ok set w.inside (safe_with certificate c);
      }

  -- WHAT IS WRITTEN reads as the job with the set after its own, and its acceptance guarantees what the set is for
  pub ready : rewrite job set room ≡ written bytes → Ready job set bytes
  ready e = ready_of (wrote e)

-- ---- what is promised, by what was to be written

module _ (job : List ℕ) (set : ReadySet) (before : List ℕ) where
  pub rewrites_none : (number value : ℕ) → 1 ≤ number → rewrite job set (length before) ≡ refused number value
      → Rewrites job set before (record { code = number; values = value ∷ [] }) before
  rewrites_none number value some e =
      record {
        result = sym (ap rewrite_result e);
        output = sym (ap (λ w. output_after w before) e);
        ready = λ z. absurd (omega arith);
      }

  pub rewrites_all : (bytes after : List ℕ) (n : ℕ) → rewrite job set (length before) ≡ written bytes → n ≡ length bytes
      → after ≡ bytes ++ drop (length bytes) before → Rewrites job set before (record { code = 0; values = n ∷ [] }) after
  rewrites_all bytes after n e l o =
      record {
        result = ap (λ (k : ℕ). record { code = 0; values = k ∷ [] }) l ∙ sym (ap rewrite_result e);
        output = o ∙ sym (ap (λ w. output_after w before) e);
        ready = λ z. record { bytes = bytes; after_is = o; ready = ready job set (length before) bytes e };
      }
