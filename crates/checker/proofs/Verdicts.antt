-- From what the code answers to the verdict.
use mathlib.Core.Bool.{true, false}
use mathlib.Core.List.{List}
use mathlib.Core.Logic.{◌↔◌}
use mathlib.Core.Path.{◌≡◌, refl, sym, ap, ap₂, ◌∙◌}
use Prim.Native.Nat.{ℕ, ◌≤◌, ◌<◌}
use native.Mathlib.Omega.{arith}
use borrow.Author.Tests.{lt-leb, le-leb, ltb-true}
use lib.Dec.{leb, ltb}
use lib.ListN.{length}
use Rattle.lists.proofs.Test.{and_right}
use Rattle.lists.specs.List.{sum}
use Rattle.run.specs.Run.{Located, Job}
use Rattle.cover.specs.Cover.{owed}
use Rattle.format.specs.Certificate.{Member, without_places, read_members, test_start, read_cover}
use Rattle.format.specs.Conditions.{Conditions, ConditionsAt, counts_of}
use Rattle.format.specs.JobBytes.{SafeBytes}
use Rattle.format.specs.Job.{read_whole_job}
use Rattle.format.specs.JobNumbers.{JobFile}
use Rattle.format.specs.Parser.{Reason, refusal, Parsed, parsed, fault, Parser, onward, each, certificate_buffer, job_buffer, end}
use Rattle.format.specs.Verdict.{Counts, Verdict, accepted, refused, conclude, read_certificate, fits, verdict_at, verdict, read_both}
use Rattle.format.proofs.Exact.{exact, exact_at}
use Rattle.format.proofs.Guarantee.{safe_bytes}
use Rattle.reader.specs.Job.{JobRead}
use Rattle.reader.specs.Members.{Bounds, tested, read_tested}
use Rattle.reader.specs.declared.Header.{Header}
use Rattle.verdict.specs.Verdict.{reason_of, counts_told, verdict_of}
use Rattle.std.specs.Prelude.{Result, Ok, Err}
use Rattle.verdict.specs.declared.Refused.{Refused}
use Rattle.verdict.specs.declared.Counts.{Counts as CountsAnswer}
use Rattle.checker.specs.Jobs.{file_in, read_covers}
use Rattle.checker.specs.Checking.{Tally, no_covers, take_all, tally_of, Checked, checked_of, covers_of}
use Rattle.checker.specs.declared.checked.Position.{Position}
use Rattle.checker.proofs.Checking.{more, take_each}

-- ---- lengths

pub fits_most : (s : List ℕ) → fits s ≡ true → length s ≤ 65536
fits_most s e = let h = ltb-true (length s) 65537 (and_right (leb 1 (length s)) (ltb (length s) 65537) e) in omega arith

-- ---- the covers

module _ (cert : List ℕ) (j : Job) (ms : List Located) (at : ℕ) (g : Checked) (taken : checked_of g ≡ take_all (covers_of cert ms (owed j ms)) no_covers at) where
  -- what is read after the covers, given their links
  abbrev after : ℕ → Parser Counts
  after links place = onward (end (certificate_buffer cert) place) (λ u next. parsed (counts_of j ms links) next)

  by_each : (r : Parsed (List ℕ)) → checked_of g ≡ onward r (λ ls next. parsed (more (owed j ms) no_covers ls) next)
      → ((why : Refused) → g ≡ Err why → onward r (λ ls. after (sum ls)) ≡ fault (reason_of why.refusal) why.place)
      × ((t : Position) → g ≡ Ok t → ((tally_of t).covers ≡ length (owed j ms)) × (onward r (λ ls. after (sum ls)) ≡ after (tally_of t).links t.at))
  by_each (parsed ls next) e = (
    (λ why g_is. let z : ◌≡◌ {A = ℕ} 0 1 = cc (ap checked_of g_is) in absurd (omega arith)),
    (λ t g_is.
        let f : ◌≡◌ {A = Parsed Tally} (parsed (tally_of t) t.at) (parsed (more (owed j ms) no_covers ls) next) = sym (ap checked_of g_is) ∙ e in
        let tally_is : tally_of t ≡ more (owed j ms) no_covers ls = cc in
        let at_is : t.at ≡ next = cc in
        let covers-is = ap (λ (n : Tally). n.covers) tally_is in
        let links_is : (tally_of t).links ≡ sum ls = ap (λ (n : Tally). n.links) tally_is ∙ omega arith in
        (covers-is ∙ omega arith, ap₂ after (sym links_is) (sym at_is))),
  )
  by_each (fault reason place) e = (
    (λ why g_is.
        let f : ◌≡◌ {A = Parsed Tally} (fault (reason_of why.refusal) why.place) (fault reason place) = sym (ap checked_of g_is) ∙ e in
        let reason_is : reason ≡ reason_of why.refusal = cc in
        let place_is : place ≡ why.place = cc in
        ap₂ fault reason_is place_is),
    (λ t g_is. let z : ◌≡◌ {A = ℕ} 0 1 = cc (ap checked_of g_is) in absurd (omega arith)),
  )

  pub covers_refused : (why : Refused) → g ≡ Err why → refused (reason_of why.refusal) why.place ≡ conclude (read_covers cert j ms at)
  unfolding read_covers
  covers_refused why g_is =
      let r = each (read_cover (certificate_buffer cert) ms) (owed j ms) at in
      sym (ap conclude ((by_each r (taken ∙ take_each (read_cover (certificate_buffer cert) ms) (owed j ms) no_covers at)).0 why g_is))

  module _ (t : Position) (g_is : g ≡ Ok t) where
    -- all covers were taken
    reached : ((tally_of t).covers ≡ length (owed j ms)) × (read_covers cert j ms at ≡ after (tally_of t).links t.at)
    unfolding read_covers
    reached = (by_each (each (read_cover (certificate_buffer cert) ms) (owed j ms) at) (taken ∙ take_each (read_cover (certificate_buffer cert) ms) (owed j ms) no_covers at)).1 t g_is

    pub covers_left : t.at < length cert → refused (refusal 10) t.at ≡ conclude (read_covers cert j ms at)
    unfolding end
    covers_left h = rw (reached.1, lt-leb (length cert) t.at h) refl

    pub covers_taken : (bads members : ℕ) → length cert ≤ t.at → bads ≡ length j.forbidden → members ≡ length ms
        → accepted (record { bads = bads; members = members; covers = (tally_of t).covers; links = (tally_of t).links }) ≡ conclude (read_covers cert j ms at)
    unfolding end
    covers_taken bads members h bads-is members-is = rw (reached.1, le-leb (length cert) t.at h, bads-is, members-is, reached.0) refl

-- ---- the certificate

-- the members that are counted are all of them
pub members_counted : (cert : List ℕ) (j : Job) (ms : List Located) (at : ℕ) (c : Counts) → accepted c ≡ conclude (read_covers cert j ms at) → c.members ≡ length ms
unfolding read_covers
members_counted cert j ms at c = by_links (each (read_cover (certificate_buffer cert) ms) (owed j ms) at)
  where
    by_end : (links : ℕ) (r : Parsed (Unit {0})) → accepted c ≡ conclude (onward r (λ u next. parsed (counts_of j ms links) next)) → c.members ≡ length ms
    by_end links (parsed u next) e = let same : c ≡ counts_of j ms links = cc in ap (λ (k : Counts). k.members) same
    by_end links (fault why place) e = let z : ◌≡◌ {A = ℕ} 0 1 = cc in absurd (omega arith)

    by_links : (r : Parsed (List ℕ)) → accepted c ≡ conclude (onward r (λ ls place. onward (end (certificate_buffer cert) place) (λ u next. parsed (counts_of j ms (sum ls)) next)))
        → c.members ≡ length ms
    by_links (parsed ls next) e = by_end (sum ls) (end (certificate_buffer cert) next) e
    by_links (fault why place) e = let z : ◌≡◌ {A = ℕ} 0 1 = cc in absurd (omega arith)

pub bounds : (job cert : List ℕ) (h : Header) → JobRead job h → length cert ≤ 65536 → Bounds cert h.variables h.states
bounds job cert h d fits = record { variables_range = d.variables; states_most = d.states.1; fits = fits }

module _ (cert : List ℕ) (f : JobFile) (start : ℕ) where
  -- what is read after the members
  abbrev covers : List Member → Parser Counts
  covers ms = read_covers cert f.job (without_places ms)

  -- the members are read and tested, then the covers are
  in_turn : read_certificate start (certificate_buffer cert) f 0
      ≡ onward (read_tested (certificate_buffer cert) f.version f.job.variables f.states start 0) covers
  unfolding read_certificate read_tested read_covers
  in_turn = go (read_members (certificate_buffer cert) f.version f.job.variables f.states 0)
    where
      go : (r : Parsed (List Member)) → onward r (λ ms at. onward (each (test_start start) ms at) (λ us. covers ms))
          ≡ onward (onward r (tested start)) covers
      go (parsed ms next) = tests (each (test_start start) ms next)
        where
          tests : (r : Parsed (List (Unit {0}))) → onward r (λ us. covers ms) ≡ onward (onward r (λ us at. parsed ms at)) covers
          tests (parsed us at) = refl
          tests (fault why place) = refl
      go (fault why place) = refl

  pub certificate_refused : (why : Reason) (place : ℕ)
      → read_tested (certificate_buffer cert) f.version f.job.variables f.states start 0 ≡ fault why place
      → refused why place ≡ conclude (read_certificate start (certificate_buffer cert) f 0)
  certificate_refused why place e = rw (in_turn, e) refl

  pub certificate_members : (ms : List Member) (next : ℕ)
      → read_tested (certificate_buffer cert) f.version f.job.variables f.states start 0 ≡ parsed ms next
      → covers ms next ≡ read_certificate start (certificate_buffer cert) f 0
  certificate_members ms next e = rw (in_turn, e) refl

-- ---- the job

pub file_is : (job : List ℕ) (h : Header) (d : JobRead job h) → d.file ≡ file_in job h
file_is job h d =
    λ k. record {
      version = d.version_is k;
      states = d.states_are k;
      job =
          record {
            variables = d.variables_are k;
            start = d.start_is k;
            transitions = d.transitions_are k;
            forbidden = d.forbidden_are k;
          };
    }

module _ (tested : JobFile → ℕ) (job cert : List ℕ) where
  pub job_length : fits job ≡ false → refused (refusal 1) 0 ≡ verdict_at tested job cert
  unfolding verdict_at
  job_length e = rw e refl

  module _ (job_fits : fits job ≡ true) where
    pub certificate_length : fits cert ≡ false → refused (refusal 2) 0 ≡ verdict_at tested job cert
    unfolding verdict_at
    certificate_length e = rw (job_fits, e) refl

    module _ (cert_fits : fits cert ≡ true) where
      pub job_refused : (why : Reason) (place : ℕ) → read_whole_job (job_buffer job) 0 ≡ fault why place → refused why place ≡ verdict_at tested job cert
      unfolding verdict_at read_both
      job_refused why place e = rw (job_fits, cert_fits, e) refl

      pub job_read : (h : Header) → JobRead job h → conclude (read_certificate (tested (file_in job h)) (certificate_buffer cert) (file_in job h) 0) ≡ verdict_at tested job cert
      unfolding verdict_at read_both
      job_read h d = rw (job_fits, cert_fits, d.read, file_is job h d) refl

-- what `check` promises of the verdict: which it is, when it accepts, and that an accepted job is safe
module _ (job cert : List ℕ) where
  pub promised : (r : Result CountsAnswer Refused) → verdict_of r ≡ verdict job cert
      → (verdict_of r ≡ verdict job cert)
      × (((c : Counts) → (verdict_of r ≡ accepted c) ↔ Conditions job cert c) × ((c : CountsAnswer) → r ≡ Ok c → SafeBytes job))
  promised r e = (
    e,
    (
      λ c. (λ is. (exact job cert c).0 (sym e ∙ is), λ d. e ∙ (exact job cert c).1 d),
      λ c r-is. safe_bytes job cert (counts_told c) (sym e ∙ ap verdict_of r-is),
    ),
  )

  -- and `check_pair`, wherever 8 is judged
  pub promised_pair : (tested : JobFile → ℕ) (v : Verdict) → v ≡ verdict_at tested job cert
      → (v ≡ verdict_at tested job cert) × ((c : Counts) → (v ≡ accepted c) ↔ ConditionsAt tested job cert c)
  promised_pair tested v e = (e, λ c. (λ is. (exact_at tested job cert c).0 (sym e ∙ is), λ d. e ∙ (exact_at tested job cert c).1 d))
