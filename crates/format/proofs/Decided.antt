-- Where what document 01 says of a refusal's number holds at a place, the verdict is that refusal.
use mathlib.Core.Bool.{not}
use mathlib.Core.List.Memᴰ
use mathlib.Core.List.{List, [], ◌∷◌, ◌++◌, append-nil}
use mathlib.Core.Logic.{◌≢◌, ◌⊎◌, inl, inr}
use mathlib.Core.Option.{none, some}
use mathlib.Core.Path.{◌≡◌, refl, sym, ap, ap₂, subst, subst₂, ◌∙◌}
use Prim.Native.Nat.{ℕ, zero, suc, ◌≤◌, ◌<◌}
use native.Mathlib.Omega.{arith}
use lib.Dec.{T, eqb}
use lib.ListN.{length, get_elem?}
use Rattle.lists.specs.List.{◌∈◌, Every, concat_map, sum}
use Rattle.lists.proofs.List.{concat_map_append}
use Rattle.lists.proofs.Reflect.{r_eq, r_le, r_lt, r_and, cond_true, cond_false}
use Rattle.number.specs.Number.{number_at, numeral}
use Rattle.shape.specs.Shape.{size, InRange}
use Rattle.run.specs.Run.{Located}
use Rattle.lists.proofs.List.{element_mem}
use Rattle.cover.specs.Cover.{owed, Avoids}
use Rattle.cover.specs.Rules.{Breaks, First}
use Rattle.format.specs.Parser.{broken_rule, Reason, refusal, parsed, fault, Parser, onward, return, each, Buffer, within, such, read_as, ranged, job_buffer, certificate_buffer, end}
use Rattle.format.specs.Job.{read_whole_job}
use Rattle.format.specs.JobNumbers.{JobFile, located_numbers}
use Rattle.format.specs.Certificate.{Member, without_places, read_members, at_start, test_start, read_cover, read_cover_by}
use Rattle.format.specs.Verdict.{Counts, refused, read_certificate, read_both, fits, verdict_at}
use Rattle.format.specs.Conditions.{MembersInRange, counts_of}
use Rattle.format.specs.JobBytes.{Between, LocatedInRange, JobInRange}
use Rattle.format.specs.Numbers.{member_numbers, cover_numbers}
use Rattle.format.specs.Meaning.{InJob, job_number, job_range, job_left, OfMembers, StartSatisfied, Covered, CoverBegun, CoverDue, member_due, image_due}
use Rattle.format.specs.Meaning.{InCertificate, member_unread, cover_unread, version_range, member_range, versions_differ, cover_range, member_satisfied, cover_fails, certificate_left}
use Rattle.format.specs.Meaning.{MeaningAt, job_length, certificate_length, in_job, in_certificate}
use Rattle.format.proofs.Sequence.{Reads, one, reads_first, reads_append, reads_split, reads_place}
use Rattle.format.proofs.Parsing.{then, require_refuses, Faulty, faulty_map, read_outside, read_complete, read_refuses, ranged_exact, codes_exact, codes_refuses}
use Rattle.format.proofs.Files.{end_refuses, job_exact}
use Rattle.format.proofs.Covers.{members_complete, r_avoids, tests_complete, judged_broken, covers_complete}
use Rattle.format.proofs.Owed.{owed_range}
use Rattle.format.proofs.Exact.{r_fits, job_read}
use Rattle.format.proofs.Local.{before_reads}
use Rattle.format.proofs.FirstFault.{FirstFault}
use Rattle.format.proofs.Completing.{job_faults}
use Rattle.format.proofs.MemberFaults.{own_fault, members_faults}
use Rattle.format.proofs.Refusals.{FactsFit, member_first}

-- after those that are read, the next is refused
pub each_refuses : {A B : Type 0} (p : A → Parser B) (xs : List A) (y : A) (ys : List A) (at : ℕ) {vs : List B} {mid : ℕ} {why : Reason} {place : ℕ}
    → each p xs at ≡ parsed vs mid → p y mid ≡ fault why place → each p (xs ++ (y ∷ ys)) at ≡ fault why place
unfolding each
each_refuses p [] y ys at {vs} {mid} {why} {place} h f =
    let mid_is : mid ≡ at = cc in
    let e : p y at ≡ fault why place = ap (p y) (sym mid_is) ∙ f in
    rw e
each_refuses p (x ∷ xs) y ys at {vs} {mid} {why} {place} h f =
    then (p x at) _
    (λ v a h₁. then (each p xs a) _
    (λ ws b h₂ r.
    let b_is : mid ≡ b = cc in
    let e : each p (xs ++ (y ∷ ys)) a ≡ fault why place = each_refuses p xs y ys a h₂ (ap (p y) (sym b_is) ∙ f) in
    rw (h₁, e))) h

-- ---- the job

pub job_refused : (job : List ℕ) (why : Reason) (place : ℕ) → InJob job why place → read_whole_job (job_buffer job) 0 ≡ fault why place
unfolding read_whole_job
job_refused job why place (job_number at f) = rw ((job_faults job (refusal 3) at).1 (inl (refl, f)))
job_refused job why place (job_range at f) = rw ((job_faults job (refusal 4) at).1 (inr (refl, f)))
job_refused job why place (job_left f at i more) =
    let inside : at ≤ length job = omega arith in
    let r = before_reads job (inside, i.reads) in
    rw ((job_exact (job_buffer job)).complete 0 f at r i.in_range, end_refuses (job_buffer job) at more)

-- ---- the certificate

-- members with their places, split as those without
split_places : (l : List Member) (xs : List Located) (y : Located) (ys : List Located) → without_places l ≡ xs ++ (y ∷ ys)
    → (a : List Member) × (b : Member) × (c : List Member) × (l ≡ a ++ (b ∷ c)) × (without_places a ≡ xs) × (b.located ≡ y)
split_places [] [] y ys e = let z : ◌≡◌ {A = ℕ} 0 1 = cc in absurd (omega arith)
split_places [] (x ∷ xs) y ys e = let z : ◌≡◌ {A = ℕ} 0 1 = cc in absurd (omega arith)
split_places (m ∷ l) [] y ys e = ([], m, l, refl, refl, cc)
split_places (m ∷ l) (x ∷ xs) y ys e =
    let e₁ : m.located ≡ x = cc in
    let e₂ : without_places l ≡ xs ++ (y ∷ ys) = cc in
    let (a, b, c, i, j, k) = split_places l xs y ys e₂ in
    (m ∷ a, b, c, ap (λ t. m ∷ t) {y = a ++ (b ∷ c)} i, ap₂ {A = Located} {B = List Located} {C = List Located} (λ h t. h ∷ t) e₁ j, k)

-- past the last member there is none
past_last : (l : List Located) (n : ℕ) → length l ≤ n → get_elem? l n ≡ none
past_last [] n h = refl
past_last (x ∷ l) zero h = absurd (omega arith)
past_last (x ∷ l) (suc n) h = past_last l n (omega arith)

module _ (tested : ℕ) (certificate : List ℕ) (f : JobFile) (ok : JobInRange f) where
  abbrev s : Buffer
  s = certificate_buffer certificate

  -- what comes after the members
  abbrev after_members : List Located → Parser Counts
  after_members ms at = onward (each (read_cover s ms) (owed f.job ms) at) (λ ls at. onward (end s at) (λ u. return (counts_of f.job ms (sum ls))))

  -- members in range that the empty heap does not satisfy at the start state are read, and what comes after them decides
  to_covers : (ms : List Located) → MembersInRange f ms → Every (Avoids tested) ms → (next : ℕ)
      → Reads certificate 0 (member_numbers f.version ms) next → read_certificate tested s f 0 ≡ after_members ms next
  unfolding read_certificate
  to_covers ms oks start next r =
      let (members, same, h₂) = members_complete s f.version f.job.variables f.states 0 ms next r ok.version oks.number oks.members in
      let ranges : Every (LocatedInRange f.version f.job.variables f.states) (without_places members) = rw same oks.members in
      let avoid : Every (Avoids tested) (without_places members) = rw same start in
      let (us, h₃) = tests_complete f.version f.job.variables f.states tested members ranges next avoid in
      rw (h₂, h₃) (ap (λ l. after_members l next) same)

  -- ---- covers

  -- what has been covered is read, up to a place
  module _ {place : ℕ} {left : List Located} (c : Covered tested f certificate place left) where
    shapes : (m : Located) → m ∈ c.members → InRange f.job.variables 12 m.shape
    shapes m i = (c.members_range.members m i).shape

    fits_cells : Every FactsFit (owed f.job c.members)
    fits_cells o i = (owed_range f c.members ok c.members_range o i).facts

    fits_done : Every FactsFit c.done
    fits_done o i = fits_cells o (subst (λ (l : List Located). o ∈ l) (sym c.owed_is) (Memᴰ.append_left left i))

    covered_read : (next : ℕ) × (ls : List ℕ) × (read_certificate tested s f 0 ≡ after_members c.members next)
        × (each (read_cover s c.members) c.done next ≡ parsed ls place)
    covered_read =
        let (next, r₁, r₂) = reads_split (member_numbers f.version c.members) (before_reads certificate c.before) in
        let (ls, h, _) = covers_complete s f.job.variables c.members shapes c.done fits_done c.covers next place r₂ c.images c.hold in
        (next, ls, to_covers c.members c.members_range c.start next r₁, h)

  -- the next cover is refused
  cover_refused : {first : ℕ} {shape : Located} {later : List Located} (c : Covered tested f certificate first (shape ∷ later)) (why : Reason) (place : ℕ)
      → read_cover s c.members shape first ≡ fault why place → read_certificate tested s f 0 ≡ fault why place
  cover_refused {shape = shape} {later = later} c why place h =
      let (next, vs, e, g) = covered_read c in
      let stops : each (read_cover s c.members) (owed f.job c.members) next ≡ fault why place =
      rw c.owed_is (each_refuses (read_cover s c.members) c.done shape later next g h) in
      e ∙ rw stops

  -- its member number is refused
  member_refused : (members : List Located) (shape : Located) (first : ℕ) (why : Reason) → read_as s (get_elem? members) first ≡ fault why first
      → read_cover s members shape first ≡ fault why first
  unfolding read_cover_by
  member_refused members shape first why h = rw h

  -- a cover that is read up to a place
  module _ {first next : ℕ} (c : CoverBegun tested f certificate first next) where
    abbrev ms : List Located
    ms = c.so_far.members

    cover_numbers_lem : Reads certificate first (cover_numbers c.cover) next
    cover_numbers_lem =
        let r = before_reads certificate c.reads in
        let (p₂, r₁, r₂) = reads_split (member_numbers f.version ms) r in
        let one_more_lem : concat_map cover_numbers (c.so_far.covers ++ (c.cover ∷ [])) ≡ concat_map cover_numbers c.so_far.covers ++ cover_numbers c.cover =
        concat_map_append cover_numbers c.so_far.covers (c.cover ∷ [])
        ∙ ap (λ (l : List ℕ). concat_map cover_numbers c.so_far.covers ++ l) (append-nil (cover_numbers c.cover)) in
        let (p₃, r₃, r₄) = reads_split (concat_map cover_numbers c.so_far.covers) (subst (λ (l : List ℕ). Reads certificate p₂ l next) one_more_lem r₂) in
        let first_is : p₃ ≡ first = reads_place (reads_append r₁ r₃) (before_reads certificate c.so_far.before) in
        subst (λ (k : ℕ). Reads certificate k (cover_numbers c.cover) next) first_is r₄

    -- the next image is refused
    image_refused : (why : Reason) → length c.cover.images < size c.member.shape → ranged s 0 (size c.shape.shape) next ≡ fault why next
        → read_cover s ms c.shape first ≡ fault why next
    unfolding read_cover_by
    image_refused why fewer h =
        let (a, g₁, g₂) = reads_first cover_numbers_lem in
        rw (
          read_complete s (get_elem? ms) first c.cover.member a c.member g₁ c.numbered,
          codes_refuses s (size c.member.shape) (size c.shape.shape) a c.cover.images next why next g₂ fewer c.below h,
        )

    fit : FactsFit c.shape
    fit =
        fits_cells c.so_far c.shape
        (subst (λ (l : List Located). c.shape ∈ l) (sym c.so_far.owed_is) (Memᴰ.append_right c.so_far.done (Memᴰ.head refl)))

    -- the cover breaks a rule first
    rule_refused : (rule name : ℕ) → length c.cover.images ≡ size c.member.shape → First (Breaks c.member c.cover.images c.shape) rule name
        → read_cover s ms c.shape first ≡ fault (broken_rule rule name) first
    unfolding read_cover_by
    rule_refused rule name long breaks =
        let (a, g₁, g₂) = reads_first cover_numbers_lem in
        let i = element_mem ms c.cover.member c.member c.numbered in
        let answer = (judged_broken s f.job.variables ms (shapes c.so_far) c.member c.shape c.cover.images i long c.below fit rule name).1 breaks in
        rw (
          read_complete s (get_elem? ms) first c.cover.member a c.member g₁ c.numbered,
          (codes_exact s (size c.member.shape) (size c.shape.shape)).complete a c.cover.images next g₂ (long, c.below),
          answer,
        )

  -- the number that is due is refused
  number_refused : (why : Reason) (place limit : ℕ) → CoverDue tested f certificate place limit → Faulty s (λ n. limit ≤ n) why place
      → read_certificate tested s f 0 ≡ fault why place
  number_refused why place limit (member_due shape later c e) w =
      cover_refused c why place
      (member_refused c.members shape place why
      (read_refuses s (get_elem? c.members) place why (faulty_map s (λ n h. past_last c.members n (omega arith)) w)))
  number_refused why place limit (image_due first c fewer e) w =
      cover_refused c.so_far why place
      (image_refused c why fewer
      (read_refuses s (such (within 0 (size c.shape.shape))) place why (faulty_map s (λ n h. outside n (omega arith)) w)))
    where
      outside : (n : ℕ) → size c.shape.shape ≤ n → such (within 0 (size c.shape.shape)) n ≡ none
      outside n h =
          cond_false (within 0 (size c.shape.shape) n) (some n) none
          (λ t. let (_, b) = (r_and (r_le 0 n) (r_lt n (size c.shape.shape))).holds t in omega arith)

  -- ---- members

  -- a faulty number is refused, unless it is the version number, which may be the other
  members_refused : (why : Reason) (place : ℕ) → FirstFault (OfMembers f) certificate (refusal 6) (refusal 7) why place → ¬ ((why ≡ refusal 7) × (0 ≡ place))
      → read_members s f.version f.job.variables f.states 0 ≡ fault why place
  members_refused why place w past = by_parser (own_fault f ok s 0 why place ((members_faults f ok certificate why place).1 w))
    where
      by_parser : (read_members s f.version f.job.variables f.states 0 ≡ fault why place) ⊎ ((why ≡ refusal 7) × (0 ≡ place))
          → read_members s f.version f.job.variables f.states 0 ≡ fault why place
      by_parser (inl h) = h
      by_parser (inr e) = absurd (past e)

  -- the version number is refused, or not the job's
  version_refused : (n next : ℕ) → number_at certificate 0 ≡ numeral n next → ¬ Between 1 2 n
      → read_members s f.version f.job.variables f.states 0 ≡ fault (refusal 7) 0
  unfolding read_members
  version_refused n next g out =
      let none_is : such (within 1 3) n ≡ none =
      cond_false (within 1 3 n) (some n) none (λ t. let (low, high) = (r_and (r_le 1 n) (r_lt n 3)).holds t in out (low, omega arith)) in
      rw (read_outside s (such (within 1 3)) 0 n next g none_is)

  versions_refused : (n next : ℕ) → number_at certificate 0 ≡ numeral n next → Between 1 2 n → n ≢ f.version
      → read_members s f.version f.job.variables f.states 0 ≡ fault (refusal 20) 0
  unfolding read_members
  versions_refused n next g (low, high) other =
      rw (
        (ranged_exact s 1 3).complete 0 n next (one g) (low, omega arith),
        require_refuses (eqb n f.version) (refusal 20) 0 next (λ t. other ((r_eq n f.version).holds t)),
      )

  module _ {place : ℕ} (w : StartSatisfied tested f certificate place) where
    -- the members as they are read: the one at the place, with those before and after it
    module _ (earlier : List Member) (member : Member) (later : List Member) (earlier-is : without_places earlier ≡ w.earlier)
        (member_is : member.located ≡ w.member) (all-is : without_places (earlier ++ (member ∷ later)) ≡ w.earlier ++ (w.member ∷ w.later))
        (h : read_members s f.version f.job.variables f.states 0 ≡ parsed (earlier ++ (member ∷ later)) w.next) where
      place_is : member.first ≡ place
      place_is =
          reads_place
          (subst₂ (λ (a b : List Located). Reads certificate 0 (f.version ∷ length a ∷ concat_map (located_numbers f.version) b) member.first) all-is earlier-is
          (member_first s f.version f.job.variables f.states 0 earlier member later w.next h))
          (before_reads certificate w.before)

      range_earlier : Every (LocatedInRange f.version f.job.variables f.states) (without_places earlier)
      range_earlier m i = w.members_range.members m (Memᴰ.append_left (w.member ∷ w.later) (subst (λ (l : List Located). m ∈ l) earlier-is i))

      avoid_earlier : Every (Avoids tested) (without_places earlier)
      avoid_earlier = rw earlier-is w.unsatisfied

      test_fails : ¬ T (not (at_start tested member.located))
      test_fails t =
          let ok = w.members_range.members w.member (Memᴰ.append_right w.earlier (Memᴰ.head refl)) in
          (r_avoids f.version f.job.variables f.states tested w.member ok).holds (rw member_is at t) w.state w.satisfied

      member_fails : read_certificate tested s f 0 ≡ fault (refusal 8) place
      unfolding read_certificate
      member_fails =
          let (us, h₃) = tests_complete f.version f.job.variables f.states tested earlier range_earlier w.next avoid_earlier in
          let stops : each (test_start tested) (earlier ++ (member ∷ later)) w.next ≡ fault (refusal 8) member.first =
          each_refuses (test_start tested) earlier member later w.next h₃
          (require_refuses (not (at_start tested member.located)) (refusal 8) member.first w.next test_fails) in
          rw (h, stops) (ap (fault (refusal 8)) place_is)

    start_refused : read_certificate tested s f 0 ≡ fault (refusal 8) place
    start_refused =
        let (members, same, h) =
        members_complete s f.version f.job.variables f.states 0 (w.earlier ++ (w.member ∷ w.later)) w.next (before_reads certificate w.members_read)
        ok.version w.members_range.number w.members_range.members in
        let (earlier, member, later, all, earlier-is, member_is) = split_places members w.earlier w.member w.later same in
        member_fails earlier member later earlier-is member_is (ap without_places (sym all) ∙ same) (h ∙ ap (λ l. parsed l w.next) all)

  -- ---- the end

  left_refused : (place : ℕ) → Covered tested f certificate place [] → place < length certificate → read_certificate tested s f 0 ≡ fault (refusal 10) place
  left_refused place c more =
      let (next, vs, e, g) = covered_read c in
      let all : each (read_cover s c.members) (owed f.job c.members) next ≡ parsed vs place =
      ap (λ l. each (read_cover s c.members) l next) (c.owed_is ∙ append-nil c.done) ∙ g in
      e ∙ rw (all, end_refuses s place more)

  certificate_refused : (why : Reason) (place : ℕ) → InCertificate tested f certificate why place → read_certificate tested s f 0 ≡ fault why place
  unfolding read_certificate
  certificate_refused why place (member_unread at w) =
      rw (members_refused (refusal 6) at (inl (refl, w)) (λ (k, _). let z : ◌≡◌ {A = ℕ} 6 7 = cc in omega arith))
  certificate_refused why place (version_range n next g out) = rw (version_refused n next g out)
  certificate_refused why place (member_range at later w) = rw (members_refused (refusal 7) at (inr (refl, w)) (λ (_, q). omega arith))
  certificate_refused why place (versions_differ n next g range other) = rw (versions_refused n next g range other)
  certificate_refused why place (cover_unread at limit d g) = number_refused (refusal 6) at limit d (inl (refl, g))
  certificate_refused why place (cover_range at limit d n next g h) = number_refused (refusal 7) at limit d (inr (refl, (n, next, g, h)))
  certificate_refused why place (member_satisfied at w) = start_refused w
  certificate_refused why place (cover_fails rule name at w) =
      cover_refused w.cover.so_far (broken_rule rule name) at (rule_refused w.cover rule name w.images w.first)
  certificate_refused why place (certificate_left at c more) = left_refused at c more

-- ---- the verdict

pub decided : (tested : JobFile → ℕ) (job certificate : List ℕ) (why : Reason) (place : ℕ) → MeaningAt tested job certificate why place → verdict_at tested job certificate ≡ refused why place
unfolding verdict_at read_both
decided tested job certificate why place (job_length n) = cond_false (fits job) _ (refused (refusal 1) 0) (λ t. n ((r_fits job).holds t))
decided tested job certificate why place (certificate_length i n) =
    cond_true (fits job) _ (refused (refusal 1) 0) ((r_fits job).tests i) ∙ cond_false (fits certificate) _ (refused (refusal 2) 0) (λ t. n ((r_fits certificate).holds t))
decided tested job certificate why place (in_job k q i j m) =
    cond_true (fits job) _ (refused (refusal 1) 0) ((r_fits job).tests i) ∙ cond_true (fits certificate) _ (refused (refusal 2) 0) ((r_fits certificate).tests j)
    ∙ rw (job_refused job k q m)
decided tested job certificate why place (in_certificate k q i j f is m) =
    let (next, h) = job_read job f is in
    cond_true (fits job) _ (refused (refusal 1) 0) ((r_fits job).tests i) ∙ cond_true (fits certificate) _ (refused (refusal 2) 0) ((r_fits certificate).tests j)
    ∙ rw (h, certificate_refused (tested f) certificate f is.in_range k q m)
