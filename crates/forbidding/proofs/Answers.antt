-- What is answered, test by test.
use mathlib.Core.Bool.{true, false, cond}
use mathlib.Core.List.Memᴰ
use mathlib.Core.List.{List, ◌++◌}
use mathlib.Core.Path.{◌≡◌, sym, ap, ap₂, ◌∙◌, subst}
use Prim.Native.Nat.{ℕ, suc, ◌+◌, ◌*◌, ◌≤◌, ◌<◌}
use native.Mathlib.Nat.{mul-le-mul}
use native.Mathlib.Omega.{arith}
use borrow.Author.Tests.{le-leb, lt-leb, lt-ltb, le-ltb}
use lib.Dec.{ltb}
use lib.ListN.{length, set, length-append, length-set}
use Rattle.lists.specs.List.{◌∈◌, concat_map}
use Rattle.lists.proofs.List.{mem_below}
use Rattle.lists.proofs.Range.{length_from}
use Rattle.lists.proofs.Reflect.{passes}
use Rattle.number.specs.NumberList.{encode}
use Rattle.number.specs.Range.{AtMost}
use Rattle.run.specs.Run.{Transition, Located}
use Rattle.heap.proofs.Operands.{named_allowed}
use Rattle.format.specs.Job.{read_whole_job}
use Rattle.format.specs.JobBytes.{IsJob}
use Rattle.format.specs.JobNumbers.{located_numbers, job_numbers}
use Rattle.format.specs.Parser.{job_buffer}
use Rattle.format.proofs.Guarantee.{job_bytes}
use Rattle.forbidden.specs.Written.{ReadySet, shapes_of, is_inside, Inside, with_set, Rewritten, written, refused, rewrite_file, rewrite_read, rewrite}
use Rattle.forbidden.proofs.Runs.{through_range}
use Rattle.forbidden.proofs.Written.{read_is, r_inside}
use Rattle.layout.specs.Entries.{version_of}
use Rattle.layout.specs.Transitions.{transition_at}
use Rattle.reader.specs.Job.{JobRead}
use Rattle.reader.specs.declared.Header.{Header}
use Rattle.forbidding.specs.Answers.{set_of, cells_of, count_bytes, set_bytes, count_place, with_count, PointIn}
use Rattle.putting.specs.Put.{Put}
use Rattle.forbidding.specs.Steps.{StepsIn}
use Rattle.layout.proofs.Entries.{entries_number}
use Rattle.reader.specs.Transitions.{transitions_in}
use Rattle.forbidding.specs.declared.Asked.{Asked}
use Rattle.forbidding.specs.declared.Asked.TheVariants.{NotList, LostBlock, BadSteps}
use Rattle.forbidding.proofs.JobBytes.{place_inside, with_bytes}
use Rattle.putting.proofs.Putting.{put_more, put_set}
use Rattle.forbidding.proofs.Shapes.{set_length}

-- ---- one of n variables, and a state below S

module _ (x q n states : ℕ) where
  pub point_in : (version : ℕ) → n ≤ 8 → states ≤ 64 → ((1 ≤ x) × (x < suc n)) × (q < states) → PointIn (record { version = version; variables = n; variable = x; state = q })
  point_in version a b ((c, d), e) = record { most = a; some = c; variable = omega arith; state = omega arith }

-- ---- what is asked for, in one of its cases

module _ (job : List ℕ) (h : Header) (asked a : Asked) (e : asked ≡ a) where
  pub asked_inside : Inside (set_of asked) h.variables h.states → Inside (set_of a) h.variables h.states
  asked_inside = subst (λ (x : Asked). Inside (set_of x) h.variables h.states) e

  pub asked_room : (at room : ℕ) → at + length (set_bytes job h (set_of asked)) ≤ room
      → at + (length (shapes_of (set_of a) h.variables (transitions_in job h)) * (2 + h.variables + count_bytes (version_of job)) + cells_of (set_of a)) ≤ room
  asked_room at room b =
      let size = ap (λ (x : Asked). length (set_bytes job h (set_of x))) e in
      omega (arith, set_length (version_of job) (set_of a) h.variables (transitions_in job h))

  pub asked_whole : (at room : ℕ) → at + length (set_bytes job h (set_of asked)) ≤ room → at + length (set_bytes job h (set_of a)) ≤ room
  asked_whole at room = subst (λ (x : Asked). at + length (set_bytes job h (set_of x)) ≤ room) e

  pub asked_put : {at next : ℕ} {before after : List ℕ} → Put at before (set_bytes job h (set_of a)) next after
      → Put at before (set_bytes job h (set_of asked)) next after
  asked_put {at} {next} {before} {after} = subst (λ (x : Asked). Put at before (set_bytes job h (set_of x)) next after) (sym e)

-- few shapes with few variables have few bytes
pub product_small : (n entry : ℕ) → n ≤ 64 → entry ≤ 11 → n * entry ≤ 704
product_small n entry a b = mul-le-mul a b

pub cells_few : (a : Asked) → cells_of (set_of a) ≤ 11
cells_few (NotList x q) = omega arith
cells_few (LostBlock x q) = omega arith
cells_few BadSteps = omega arith

-- ---- a job that was read

module _ (job : List ℕ) (h : Header) (r : JobRead job h) where
  job_is : IsJob job r.file
  job_is = read_is job r.file (length job) r.read

  bytes_are : AtMost 255 job → job ≡ encode (job_numbers r.file)
  bytes_are limit = job_bytes job r.file limit job_is

  place_is : count_place h.transitions ≡ count_place (length r.file.job.transitions)
  place_is = ap count_place (sym (ap length r.transitions_are ∙ length_from (λ k. transition_at job (h.transitions_at + 5 * k)) 0 h.transitions))

  pub count_inside : AtMost 255 job → count_place h.transitions < length job
  count_inside limit = place_inside r.file job_is.in_range job (bytes_are limit) (count_place h.transitions) place_is

  -- the job copied, its number of forbidden shapes changed, and more bytes put after it
  pub put_job : {end next : ℕ} {before copied after : List ℕ} (place count : ℕ) (xs : List ℕ) → AtMost 255 job → place ≡ count_place h.transitions
      → Put 0 before job end copied → Put end (set copied place count) xs next after → Put 0 before (with_count job h count ++ xs) next after
  put_job {next = next} {before = before} {after = after} place count xs limit e p q =
      let b = count_inside limit in
      subst (λ (k : ℕ). Put 0 before (set job k count ++ xs) next after) e (put_more (put_set p place count (omega arith)) q)

  -- each of its transitions is whole and steps through its variables
  pub steps_in : StepsIn job h.variables h.transitions_at h.transitions
  steps_in i b =
      record {
        whole = (r.transitions i b).inside;
        from = let s = (r.transitions i b).from in omega (arith, r.states.1);
        through = λ v m.
            let t = transition_at job (h.transitions_at + 5 * i) in
            let k : t ∈ r.file.job.transitions =
            subst (λ (l : List Transition). t ∈ l) (sym r.transitions_are)
            (Memᴰ.map (λ (i : ℕ). transition_at job (h.transitions_at + 5 * i)) (mem_below h.transitions i b)) in
            let (kind, x, y, (_, e)) = (job_is.in_range.transitions t k).op in
            let (v≢0, v≤n) = through_range r.file.job.variables t.op (named_allowed r.file.job.variables kind x y t.op e) v m in
            (omega arith, omega (arith, r.variables_are));
      }

  module _ (ready : ReadySet) (room : ℕ) where
    abbrev shapes : List Located
    shapes = shapes_of ready h.variables (transitions_in job h)

    abbrev answer : Rewritten
    answer = rewrite_read ready room (read_whole_job (job_buffer job) 0)

    same_shapes : shapes_of ready r.file.job.variables r.file.job.transitions ≡ shapes
    same_shapes = ap₂ (shapes_of ready) r.variables_are r.transitions_are

    by_file : answer ≡ rewrite_file ready room r.file
    by_file = ap (rewrite_read ready room) r.read

    inside_is : is_inside ready r.file.job.variables r.file.states ≡ is_inside ready h.variables h.states
    inside_is = ap₂ (is_inside ready) r.variables_are r.states_are

    count_is : length (with_set ready r.file).job.forbidden ≡ h.bads + length shapes
    count_is =
        length-append r.file.job.forbidden (shapes_of ready r.file.job.variables r.file.job.transitions)
        ∙ ap₂ ◌+◌ (ap length r.forbidden_are ∙ entries_number job h.variables h.bads_at h.bads) (ap length same_shapes)

    pub outside : is_inside ready h.variables h.states ≡ false → answer ≡ refused 16 0
    unfolding rewrite_file
    outside e = by_file ∙ simp (inside_is ∙ e)

    module _ (inside : is_inside ready h.variables h.states ≡ true) where
      pub too_many : 64 < h.bads + length shapes → answer ≡ refused 31 0
      unfolding rewrite_file
      too_many b =
          let c = count_is in
          by_file ∙ simp (inside_is ∙ inside, lt-ltb 64 (length (with_set ready r.file).job.forbidden) (omega arith))

      module _ (limit : AtMost 255 job) (n : ℕ) (n_is : n ≡ length shapes) (few : h.bads + n ≤ 64) where
        few_in : length (with_set ready r.file).job.forbidden ≤ 64
        few_in = omega (arith, count_is)

        -- the bytes to be written
        abbrev whole : List ℕ
        whole = with_count job h (h.bads + n) ++ set_bytes job h ready

        whole_is : whole ≡ encode (job_numbers (with_set ready r.file))
        whole_is =
            ap (λ (version : ℕ). with_count job h (h.bads + n) ++ concat_map (located_numbers version) shapes) (sym r.version_is)
            ∙ ap₂ (λ (k : ℕ) (ms : List Located). with_count job h k ++ concat_map (located_numbers r.file.version) ms)
            (ap (λ (k : ℕ). h.bads + k) n_is ∙ sym count_is) (sym same_shapes)
            ∙ with_bytes r.file job_is.in_range job (bytes_are limit) (count_place h.transitions) place_is ready
            ((r_inside ready r.file.job.variables r.file.states).holds (passes _ (inside_is ∙ inside))) few_in

        module _ (entry : ℕ) (entry_is : entry ≡ 2 + h.variables + count_bytes (version_of job)) (cells : ℕ) (cells_is : cells ≡ cells_of ready) where
          -- and their number
          pub needed_is : length job + n * entry + cells ≡ length whole
          needed_is =
              ap₂ (λ (a b : ℕ). length job + a * entry + b) n_is cells_is ∙ ap (λ (k : ℕ). length job + length shapes * k + cells_of ready) entry_is
              ∙ omega (
                arith,
                length-append (with_count job h (h.bads + n)) (set_bytes job h ready),
                length-set job (count_place h.transitions) (h.bads + n),
                set_length (version_of job) ready h.variables (transitions_in job h),
              )

          tests : answer ≡ cond (ltb room (length whole)) (refused 12 (length whole)) (written whole)
          unfolding rewrite_file
          tests =
              by_file
              ∙ simp (inside_is ∙ inside, le-ltb 64 (length (with_set ready r.file).job.forbidden) few_in)
              (ap (λ (l : List ℕ). cond (ltb room (length l)) (refused 12 (length l)) (written l)) (sym whole_is))

          pub too_short : room < length job + n * entry + cells → answer ≡ refused 12 (length job + n * entry + cells)
          too_short b = let l = needed_is in tests ∙ simp (lt-ltb room (length whole) (omega arith)) (ap (refused 12) (sym l))

          module _ (b : length job + n * entry + cells ≤ room) where
            pub filled : answer ≡ written whole
            filled = let l = needed_is in tests ∙ simp (le-ltb room (length whole) (omega arith))

            -- so there is room
            pub room_for : length job + length (set_bytes job h ready) ≤ room
            room_for =
                omega (
                  arith,
                  needed_is,
                  length-append (with_count job h (h.bads + n)) (set_bytes job h ready),
                  length-set job (count_place h.transitions) (h.bads + n),
                )

-- ---- a job that was not

module _ (job : List ℕ) (ready : ReadySet) (room : ℕ) where
  pub empty_job : length job ≡ 0 → rewrite job ready room ≡ refused 1 0
  unfolding rewrite
  empty_job e = simp (lt-leb 1 (length job) (omega arith))

  pub long_job : 65536 < length job → rewrite job ready room ≡ refused 1 0
  unfolding rewrite
  long_job b = simp (le-leb 1 (length job) (omega arith), le-ltb (length job) 65537 (omega arith))

  pub fitting_job : 1 ≤ length job → length job ≤ 65536 → rewrite job ready room ≡ rewrite_read ready room (read_whole_job (job_buffer job) 0)
  unfolding rewrite
  fitting_job a b = simp (le-leb 1 (length job) a, lt-ltb (length job) 65537 (omega arith))
