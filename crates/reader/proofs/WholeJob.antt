-- A job is read by its parts.
use mathlib.Core.List.{List}
use mathlib.Core.Path.{◌≡◌, refl, sym, ap, ◌∙◌}
use Prim.Native.Nat.{ℕ, ◌+◌, ◌*◌, ◌≤◌}
use native.Mathlib.Omega.{arith}
use lib.ListN.{length}
use Rattle.std.specs.Prelude.{Result, Ok, Err}
use Rattle.run.specs.Run.{Transition, Located}
use Rattle.format.specs.Job.{read_located, read_transition, read_job, read_whole_job}
use Rattle.format.specs.JobNumbers.{JobFile}
use Rattle.format.specs.Parser.{Reason, Parsed, parsed, fault, Parser, onward, ◌>>=◌, ◌>>◌, return, many, job_buffer, ranged, end}
use Rattle.format.proofs.Files.{located_exact, transition_exact, job_exact, whole_sound, end_sound, end_complete}
use Rattle.format.proofs.Parsing.{then, many_exact, ranged_exact}
use Rattle.format.proofs.Sequence.{reads_one, reads_inside}
use Rattle.layout.specs.Entries.{version_of}
use Rattle.jobreader.specs.Reader.{preamble_read}
use Rattle.jobreader.specs.declared.Preamble.{Preamble}
use Rattle.verdict.specs.declared.Refused.{Refused}
use Rattle.reader.specs.Job.{read_rest, RestAnswered, JobRead, JobAnswered}
use Rattle.reader.specs.Number.{without_value}
use Rattle.reader.specs.declared.Header.{Header}
use Rattle.number.proofs.Reading.{number_inside}
use Rattle.reader.proofs.Jobs.{preamble_place}
use Rattle.reader.proofs.Many.{remembered, without_value_fault, without_value_onward, bind_assoc}
use Rattle.reader.proofs.Standing.{version_read, entries_read, transitions_read}

module _ (job : List ℕ) where
  file_rest : Preamble → List Transition → Parser JobFile
  file_rest f transitions = do
    bads ← ranged (job_buffer job) 1 65
    forbidden ← many bads (read_located (version_of job) (job_buffer job) f.variables f.states)
    end (job_buffer job)
    return
        (record {
          version = version_of job;
          states = f.states;
          job = record { variables = f.variables; start = f.start; transitions = transitions; forbidden = forbidden };
        })

  parts : read_whole_job (job_buffer job) 0
      ≡ onward (preamble_read (job_buffer job) 0)
      (λ f p. onward (many f.transitions (read_transition (version_of job) (job_buffer job) f.variables f.states) p) (file_rest f))
  unfolding read_whole_job read_job preamble_read file_rest
  parts = by_version (ranged (job_buffer job) 1 3 0) refl
    where
      -- the version is the first byte
      by_version : (x : Parsed ℕ) → ranged (job_buffer job) 1 3 0 ≡ x → read_whole_job (job_buffer job) 0 ≡ onward (preamble_read (job_buffer job) 0)
          (λ f p. onward (many f.transitions (read_transition (version_of job) (job_buffer job) f.variables f.states) p) (file_rest f))
      by_version (fault why place) e = rw e refl
      by_version (parsed version a) e = let same = version_read (job_buffer job) version a e in rw (e, same) (simp bind_assoc)

  -- the rest is read alike, whatever is made of it
  same_rest : (f : Preamble) (transitions : List Transition) (at : ℕ) → without_value (read_rest job f at) ≡ without_value (file_rest f transitions at)
  unfolding read_rest file_rest
  same_rest f transitions at =
      without_value_onward (ranged (job_buffer job) 1 65 at) _ _
      (λ bads p. without_value_onward (many bads (read_located (version_of job) (job_buffer job) f.variables f.states) p) _ _
      (λ ms q. without_value_onward (end (job_buffer job) q) _ _ (λ u last. refl)))

  -- ---- refusals

  pub preamble_lost : {why : Reason} {place : ℕ} → preamble_read (job_buffer job) 0 ≡ fault why place → read_whole_job (job_buffer job) 0 ≡ fault why place
  preamble_lost e = rw (parts, e) refl

  module _ (f : Preamble) (e₁ : preamble_read (job_buffer job) 0 ≡ parsed f f.at) where
    abbrev steps : Parsed (List Transition)
    steps = many f.transitions (read_transition (version_of job) (job_buffer job) f.variables f.states) f.at

    pub transitions_lost : {why : Reason} {place : ℕ} → without_value steps ≡ fault why place → read_whole_job (job_buffer job) 0 ≡ fault why place
    transitions_lost {why} {place} e = rw (parts, e₁, without_value_fault steps why place e) refl

    module _ (at : ℕ) (e₂ : without_value steps ≡ parsed tt at) where
      pub rest_lost : {why : Reason} {place : ℕ} → read_rest job f at ≡ fault why place → read_whole_job (job_buffer job) 0 ≡ fault why place
      rest_lost {why} {place} e =
          let (ts, g) = remembered steps at e₂ in
          rw (parts, e₁, g) (without_value_fault (file_rest f ts at) why place (sym (same_rest f ts at) ∙ ap without_value e))

      -- ---- a job that was read

      abbrev header : ℕ → ℕ → Header
      header bads p =
          record {
            variables = f.variables;
            states = f.states;
            start = f.start;
            transitions = f.transitions;
            transitions_at = f.at;
            bads = bads;
            bads_at = p;
          }

      made : (ts : List Transition) (bads p : ℕ) (ms : List Located) (last : ℕ) → steps ≡ parsed ts at → ranged (job_buffer job) 1 65 at ≡ parsed bads p
          → many bads (read_located (version_of job) (job_buffer job) f.variables f.states) p ≡ parsed ms last → length job ≤ last → JobRead job (header bads p)
      unfolding file_rest
      made ts bads p ms last g h₁ h₂ whole =
          let s = job_buffer job in
          let file : JobFile =
          record { version = version_of job; states = f.states; job = record { variables = f.variables; start = f.start; transitions = ts; forbidden = ms } } in
          let read : read_whole_job s 0 ≡ parsed file last = rw (parts, e₁, g, h₁, h₂, end_complete s last whole) refl in
          let (reads, ok) = (job_exact s).sound 0 file last (whole_sound s 0 file last read).0 in
          let last_is : last ≡ length job = omega (arith, reads_inside reads (omega arith)) in
          let (_, (count_is, _)) = (many_exact s (transition_exact (version_of job) s f.variables f.states) f.transitions).sound f.at ts at g in
          let (_, (bads-are, _)) = (many_exact s (located_exact (version_of job) s f.variables f.states) bads).sound p ms last h₂ in
          let (ts_are, each, ts-end) =
          transitions_read s f.variables f.states ok.states.1 ok.variables.1 f.at f.transitions 0 f.at ts at (omega arith) g in
          let at_is : at ≡ f.at + 5 * f.transitions = omega arith in
          let bads-read = reads_one ((ranged_exact s 1 65).sound at bads p h₁).0 in
          let p_inside : p ≤ length job = number_inside job at bads p bads-read in
          let es = entries_read s f.variables f.states ok.states.1 bads p ms last p_inside h₂ in
          record {
            file = file;
            read = rw last_is at read;
            version_is = refl;
            variables_are = refl;
            states_are = refl;
            start_is = refl;
            transitions_are = ts_are;
            forbidden_are = es.same;
            version = ok.version;
            variables = ok.variables;
            states = ok.states;
            start = ok.start;
            transitions_number = omega (arith, ok.transitions_number);
            transitions_place = preamble_place s 0 f f.at e₁;
            transitions = λ i b. each i (omega arith) (omega arith);
            bads_number = rw bads-are at ok.forbidden_number;
            bads_place = rw at_is at bads-read;
            bads = es.entries;
          }

      pub job_read : (h : Header) (next : ℕ) → read_rest job f at ≡ parsed h next → JobRead job h
      unfolding read_rest
      job_read h next e =
          let (ts, g) = remembered steps at e₂ in
          then (ranged (job_buffer job) 1 65 at) _
          (λ bads p h₁. then (many bads (read_located (version_of job) (job_buffer job) f.variables f.states) p) _
          (λ ms last h₂. then (end (job_buffer job) last) _
          (λ u stop h₃ r.
          let header_is : header bads p ≡ h = cc in
          rw (← header_is) (made ts bads p ms last g h₁ h₂ (end_sound (job_buffer job) last h₃).0))))
          e

      pub answered : (r : Result Header Refused) → RestAnswered job f at r → JobAnswered job r
      answered (Ok h) (next, e) = job_read h next e
      answered (Err r) e = rest_lost e
