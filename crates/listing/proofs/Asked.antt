-- A ready set that is written into a job was asked for with a variable and a state of the job.
use mathlib.Core.Bool.{Bool, true, false, cond, not}
use mathlib.Core.List.{List}
use mathlib.Core.Path.{◌≡◌, refl, subst}
use Prim.Native.Nat.{ℕ}
use native.Mathlib.Omega.{arith}
use lib.Dec.{ltb}
use lib.ListN.{length}
use Rattle.number.specs.NumberList.{encode}
use Rattle.format.specs.Job.{read_whole_job}
use Rattle.format.specs.JobBytes.{IsJob}
use Rattle.format.specs.JobNumbers.{JobFile, job_numbers}
use Rattle.format.specs.Parser.{Parsed, parsed, fault, job_buffer}
use Rattle.format.specs.Verdict.{fits}
use Rattle.format.proofs.Guarantee.{one_job}
use Rattle.forbidden.specs.Written.{ReadySet, is_inside, with_set, written, refused, rewrite_file, rewrite_read, rewrite}
use Rattle.forbidden.proofs.Written.{read_is}

pub asked_inside : (job : List ℕ) (f : JobFile) (set : ReadySet) (room : ℕ) (with-set : List ℕ) → IsJob job f → rewrite job set room ≡ written with-set
    → is_inside set f.job.variables f.states ≡ true
unfolding rewrite rewrite_file
asked_inside job f set room with-set i e = by_fits (fits job) e
  where
    by_tests : (a b c : Bool) (n : ℕ) (bytes : List ℕ)
        → cond (not a) (refused 16 0) (cond b (refused 31 0) (cond c (refused 12 n) (written bytes))) ≡ written with-set → a ≡ true
    by_tests true b c n bytes w = refl
    by_tests false b c n bytes w = absurd (let q : ◌≡◌ {A = ℕ} 0 1 = cc in omega arith)

    by_read : (r : Parsed JobFile) → read_whole_job (job_buffer job) 0 ≡ r → rewrite_read set room r ≡ written with-set
        → is_inside set f.job.variables f.states ≡ true
    by_read (parsed g next) d w =
        let same = one_job job g f (read_is job g next d) i in
        let bytes = encode (job_numbers (with_set set g)) in
        let many = ltb 64 (length (with_set set g).job.forbidden) in
        let t = by_tests (is_inside set g.job.variables g.states) many (ltb room (length bytes)) (length bytes) bytes w in
        subst (λ (k : JobFile). is_inside set k.job.variables k.states ≡ true) same t
    by_read (fault number place) d w = absurd (let q : ◌≡◌ {A = ℕ} 0 1 = cc in omega arith)

    by_fits : (b : Bool) → cond b (rewrite_read set room (read_whole_job (job_buffer job) 0)) (refused 1 0) ≡ written with-set
        → is_inside set f.job.variables f.states ≡ true
    by_fits true w = by_read (read_whole_job (job_buffer job) 0) refl w
    by_fits false w = absurd (let q : ◌≡◌ {A = ℕ} 0 1 = cc in omega arith)
