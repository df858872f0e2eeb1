-- What 24 to 27 look at, once both jobs and the members of the second are read.
use mathlib.Core.List.{List}
use mathlib.Core.Option.{Option}
use mathlib.Core.Path.{◌≡◌, refl, ap, ◌∙◌}
use Prim.Native.Nat.{ℕ, ◌≤◌}
use native.Mathlib.Omega.{arith}
use lib.ListN.{length, take}
use Rattle.run.specs.Run.{Located}
use Rattle.checker.specs.Jobs.{file_in}
use Rattle.checker.specs.Pairs.{MembersKept}
use Rattle.checker.proofs.Verdicts.{bounds, file_is}
use Rattle.format.specs.Certificate.{Member, without_places, read_members, test_start}
use Rattle.format.specs.Job.{read_whole_job}
use Rattle.format.specs.JobNumbers.{JobFile}
use Rattle.format.specs.Parser.{Parsed, parsed, fault, onward, each, job_buffer, certificate_buffer}
use Rattle.joining.specs.Join.{joint_of, joint_refusal, read_joint}
use Rattle.layout.specs.Entries.{version_of, members_at}
use Rattle.reader.specs.Job.{JobRead}
use Rattle.reader.specs.Members.{tested, read_tested}
use Rattle.reader.specs.declared.Header.{Header}

-- a job that is read
read_is : (job : List ℕ) (h : Header) (d : JobRead job h) → read_whole_job (job_buffer job) 0 ≡ parsed (file_in job h) (length job)
read_is job h d = d.read ∙ ap (λ (f : JobFile). parsed f (length job)) (file_is job h d)

-- that members are tested at a state changes nothing of them
read_first : (start : ℕ) (r : Parsed (List Member)) (ms : List Member) (next : ℕ) → onward r (tested start) ≡ parsed ms next → (at : ℕ) × (r ≡ parsed ms at)
read_first start (fault why place) ms next e = absurd (let z : ◌≡◌ {A = ℕ} 0 1 = cc in omega arith)
read_first start (parsed ns at) ms next e = go (each (test_start start) ns at) e
  where
    go : (r : Parsed (List (Unit {0}))) → onward r (λ us next. parsed ns next) ≡ parsed ms next → (n : ℕ) × (◌≡◌ {A = Parsed (List Member)} (parsed ns at) (parsed ms n))
    go (parsed us n) e = (at, cc)
    go (fault why place) e = absurd (let z : ◌≡◌ {A = ℕ} 0 1 = cc in omega arith)

module _ (job₁ job₂ cert₂ : List ℕ) (state : ℕ) (first : Header) (d₁ : JobRead job₁ first) (second : Header) (d₂ : JobRead job₂ second) where
  -- what falls, of these members
  abbrev falls : List Located → ℕ → Parsed (Option ℕ)
  falls ms = parsed (joint_refusal (joint_of (file_in job₁ first) (file_in job₂ second) state) ms)

  read : (ms : List Member) (at : ℕ) → read_members (certificate_buffer cert₂) (version_of job₂) second.variables second.states 0 ≡ parsed ms at
      → read_joint job₁ job₂ cert₂ state ≡ falls (without_places ms) at
  unfolding read_joint
  read ms at r = rw (read_is job₁ first d₁, read_is job₂ second d₂, r) refl

  -- the members are those that the table has the places of
  pub joint_read : (count : ℕ) (table : List ℕ) → length cert₂ ≤ 65536 → MembersKept job₂ cert₂ second second.states count table
      → (at : ℕ) × (read_joint job₁ job₂ cert₂ state ≡ falls (members_at cert₂ second.variables (take count table)) at)
  unfolding read_tested
  joint_read count table fits (next, m) =
      let (at, r) =
      read_first second.states (read_members (certificate_buffer cert₂) (version_of job₂) second.variables second.states 0) m.members next m.read in
      (at, read m.members at r ∙ ap (λ (ms : List Located). falls ms at) (m.members_are (bounds job₂ cert₂ second d₂ fits)))
