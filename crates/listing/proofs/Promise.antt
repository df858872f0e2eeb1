-- What a translation promises. Jobs that begin with its bytes have the listing's transitions, so that what they forbid at a mark's state, if they
-- are accepted, no run over statements meets at the mark.
use mathlib.Core.Bool.{Bool, true, false, cond}
use mathlib.Core.List.{List, [], ◌∷◌, ◌++◌}
use mathlib.Core.Option.{Option, none, some}
use mathlib.Core.Path.{◌≡◌, refl, sym, ap, subst, ◌∙◌}
use Prim.Native.Nat.{ℕ, suc, ◌≤◌}
use native.Mathlib.Omega.{arith}
use lib.Dec.{eqb, ltb}
use lib.ListN.{length, get_or}
use Rattle.lists.specs.List.{◌∈◌, concat_map}
use Rattle.lists.proofs.Reflect.{passes}
use Rattle.number.specs.CallResult.{CallResult}
use Rattle.number.specs.NumberList.{encode, refused}
use Rattle.number.proofs.Encoding.{encode_append}
use Rattle.run.specs.Run.{Transition, Located, Safe}
use Rattle.heap.specs.Operation.{Allowed}
use Rattle.format.specs.Conditions.{Acceptable}
use Rattle.format.specs.JobBytes.{IsJob}
use Rattle.format.specs.JobNumbers.{JobFile, transition_numbers, located_numbers, job_numbers}
use Rattle.format.proofs.Exact.{exact}
use Rattle.format.proofs.Guarantee.{safe_bytes, one_job}
use Rattle.format.proofs.Written.{written_job}
use Rattle.forbidden.specs.Written.{ReadySet, not_list, lost_block, bad_steps, Guarantees, with_set, written, refused, rewrite}
use Rattle.forbidden.proofs.Runs.{list_at, none_lost_at, steps_at_cells, also_forbids}
use Rattle.forbidden.proofs.Written.{r_inside, ready}
use Rattle.lines.specs.declared.Line.{Line}
use Rattle.listing.specs.LineByLine.{begin, go_on, translate_by}
use Rattle.listing.specs.Limits.{WithinLimits}
use Rattle.listing.specs.Names.{variables_for}
use Rattle.listing.specs.Promise.{forbidden_bytes, InRangeFor, set_for, NeverAtMark, OnStatements, ForbidsSet, Promises, PromisedIn, Translates}
use Rattle.listing.specs.Reading.{Seen, nothing_seen, see, is_misplaced, is_too_deep, is_too_much, Fault, fault, first_fault, Listing, listing_of, Reading, listed, refused, unless, read}
use Rattle.listing.specs.Text.{lines_of}
use Rattle.listing.specs.Translation.{arrow, transitions_of, states_of}
use Rattle.listing.specs.Written.{file_of, numbers_ahead, mark_states, Translated, translated, untranslated, translate_read, translate, translate_result, bytes_after, marks_after}
use Rattle.listing.proofs.Exact.{exact_mark}
use Rattle.listing.proofs.Fits.{fine_in}
use Rattle.listing.proofs.Forward.{forward_step}
use Rattle.listing.proofs.OneCall.{in_range, ahead_small, ahead_bytes, one_pass}
use Rattle.listing.proofs.Read.{fits_variables, read_within}
use Rattle.listing.proofs.RoundTrip.{written_text}
use Rattle.listing.proofs.Beginning.{begins_at, same_transitions}
use Rattle.listing.proofs.Asked.{asked_inside}

-- ---- jobs that begin with the bytes of a translation

module _ (l : Listing) (ok : WithinLimits l) where
  abbrev bytes : List ℕ
  bytes = encode (numbers_ahead (file_of l []))

  abbrev states : List ℕ
  states = mark_states l

  listing_job : (bads : List Located) → InRangeFor l bads → IsJob (bytes ++ forbidden_bytes bads) (file_of l bads)
  listing_job bads (n, each) =
      subst (λ (s : List ℕ). IsJob s (file_of l bads)) (encode_append (numbers_ahead (file_of l [])) (length bads ∷ concat_map (located_numbers 1) bads))
      (written_job (file_of l bads) (in_range l ok bads n each))

  no_other_job : (rest : List ℕ) (f : JobFile) → IsJob (bytes ++ rest) f → f ≡ file_of l f.job.forbidden
  no_other_job rest f i =
      let ns = numbers_ahead (file_of l []) in
      let job = bytes ++ rest in
      let (more, w) = begins_at ns (length job) 0 job rest (job_numbers f) (ahead_small l ok 127 (omega arith)) (ap (λ s. s ++ rest) (ahead_bytes l ok)) i.reads in
      let first : f.version ≡ 1 = cc in
      let v : f.job.variables ≡ variables_for l.names = cc in
      let s : f.states ≡ states_of l.statements = cc in
      let z : f.job.start ≡ 0 = cc in
      let n : length f.job.transitions ≡ length (transitions_of l.statements) = cc in
      let after = length f.job.forbidden ∷ concat_map (located_numbers f.version) f.job.forbidden in
      let u : concat_map transition_numbers f.job.transitions ++ after ≡ concat_map transition_numbers (transitions_of l.statements) ++ more = cc in
      let t = same_transitions f.job.transitions (transitions_of l.statements) after more n u in
      λ i. record { version = first i; states = s i; job = record { variables = v i; start = z i; transitions = t i; forbidden = f.job.forbidden } }

  -- where a run over statements comes to mark k, a run of such a job is at its state
  never_at_mark : (bads : List Located) → Safe (file_of l bads).job → NeverAtMark l states bads
  never_at_mark bads safe k h m bad i e =
      let (es, r) = (exact_mark l ok k h).0 m in
      safe es (record { state = get_or states k 64; heap = h }) r bad i e

  safe_accepted : (job certificate : List ℕ) (f : JobFile) → IsJob job f → Acceptable job certificate → Safe f.job
  safe_accepted job certificate f i (counts, c) =
      let s = safe_bytes job certificate counts ((exact job certificate counts).1 c) in
      subst (λ (g : JobFile). Safe g.job) (one_job job s.file f s.job_is i) s.safe

  on_statements : (set : ReadySet) (bads : List Located) → Guarantees set (file_of l bads).job → OnStatements set l states
  on_statements (not_list x q) bads g = λ k h e m. let (es, r) = (exact_mark l ok k h).0 m in g es (record { state = get_or states k 64; heap = h }) r e
  on_statements (lost_block x q) bads g = λ k h e m. let (es, r) = (exact_mark l ok k h).0 m in g es (record { state = get_or states k 64; heap = h }) r e
  on_statements bad_steps bads g =
      λ o c h m v i.
      let (p, n, t, (es, r)) = forward_step (variables_for l.names) l.statements (fits_variables l ok) o c h m in
      g es (record { state = p; heap = h }) r (arrow p o n) t refl v i

  allowed : (t : Transition) → t ∈ transitions_of l.statements → Allowed (variables_for l.names) t.op
  allowed t m = (fine_in l.statements (variables_for l.names) 0 1 (fits_variables l ok) t m).0

  -- a safe job that forbids a ready set guarantees what the set is for
  guaranteed : (set : ReadySet) (bads : List Located) → Safe (file_of l bads).job → ForbidsSet l bads set → Guarantees set (file_of l bads).job
  guaranteed (not_list x q) bads safe f =
      let ((a, b), c) = (r_inside (not_list x q) (variables_for l.names) (states_of l.statements)).holds (passes _ f.inside) in
      list_at (file_of l bads).job allowed safe x q (omega arith) (omega arith) f.all
  guaranteed (lost_block x q) bads safe f =
      let ((a, b), c) = (r_inside (lost_block x q) (variables_for l.names) (states_of l.statements)).holds (passes _ f.inside) in
      none_lost_at (file_of l bads).job allowed safe x q (omega arith) (omega arith) f.all
  guaranteed bad_steps bads safe f = steps_at_cells (file_of l bads).job allowed safe f.all

  -- a ready set written into the listing's job
  with_ready : (job : List ℕ) (bads : List Located) → IsJob job (file_of l bads) → (set : ReadySet) (room : ℕ) (with-set : List ℕ)
      → rewrite job set room ≡ written with-set → IsJob with-set (file_of l (bads ++ set_for l set)) × ForbidsSet l (bads ++ set_for l set) set
  with_ready job bads i set room with-set e =
      let r = ready job set room with-set e in
      let same = one_job job r.file (file_of l bads) r.job_is i in (
        subst (λ (g : JobFile). IsJob with-set (with_set set g)) same r.written_is,
        record { inside = asked_inside job (file_of l bads) set room with-set i e; all = also_forbids (set_for l set) (file_of l bads).job },
      )

-- what was read, and what is written of it
record From (text bytes marks : List ℕ) : Type 0 where
  listing : Listing
  reads : read text ≡ listed listing
  bytes_are : bytes ≡ encode (numbers_ahead (file_of listing []))
  marks_are : marks ≡ mark_states listing

from_translation : (text : List ℕ) (room : ℕ) (bytes marks : List ℕ) → translate text room ≡ translated bytes marks → From text bytes marks
unfolding translate
from_translation text room bytes marks e = go (read text) refl e
  where
    in_room : (b : Bool) (n : ℕ) (xs ys : List ℕ) → cond b (untranslated 12 n) (translated xs ys) ≡ translated bytes marks
        → (bytes ≡ xs) × (marks ≡ ys)
    in_room true n xs ys w = absurd (let q : ◌≡◌ {A = ℕ} 0 1 = cc in omega arith)
    in_room false n xs ys w = (let q : bytes ≡ xs = cc in q, let q : marks ≡ ys = cc in q)

    go : (r : Reading) → read text ≡ r → translate_read room r ≡ translated bytes marks → From text bytes marks
    go (listed l) w v =
        let (a, b) = in_room (ltb room (length (encode (numbers_ahead (file_of l []))))) _ (encode (numbers_ahead (file_of l []))) (mark_states l) v in
        record { listing = l; reads = w; bytes_are = a; marks_are = b }
    go (refused f) w v = absurd (let q : ◌≡◌ {A = ℕ} 0 1 = cc in omega arith)

-- WHAT IS TRANSLATED keeps these promises, whatever is put behind it
pub promise : (text : List ℕ) (room : ℕ) (bytes marks : List ℕ) → translate text room ≡ translated bytes marks → Promises text bytes marks
promise text room bytes marks e =
    let f = from_translation text room bytes marks e in
    subst (λ b. Promises text b marks) (sym f.bytes_are) (subst (Promises text _) (sym f.marks_are) (by f.listing f.reads))
  where
    by : (l : Listing) → read text ≡ listed l → Promises text (encode (numbers_ahead (file_of l []))) (mark_states l)
    by l w =
        let ok = read_within text l w in
        record {
          listing = l;
          reads = w;
          writes = written_text text l w;
          exact = exact_mark l ok;
          job_is = listing_job l ok;
          no_other = no_other_job l ok;
          rewritten = with_ready l ok;
          never = λ job bads i certificate a. never_at_mark l ok bads (safe_accepted l ok job certificate (file_of l bads) i a);
          ready = λ job bads i certificate a set f.
              on_statements l ok set bads (guaranteed l ok set bads (safe_accepted l ok job certificate (file_of l bads) i a) f);
        }

-- THE COROLLARY to cite: where a ready set was asked for at the state of a mark and the job written so is accepted with some certificate, runs over
-- statements keep what the set is for, at every heap with which they reach the mark
pub ready_at_marks : (text : List ℕ) (room : ℕ) (bytes marks : List ℕ) → translate text room ≡ translated bytes marks
    → (rest : List ℕ) (set : ReadySet) (room-then : ℕ) (with-set : List ℕ) → rewrite (bytes ++ rest) set room-then ≡ written with-set
    → (certificate : List ℕ) → Acceptable with-set certificate → (l : Listing) → read text ≡ listed l → OnStatements set l marks
ready_at_marks text room bytes marks e rest set room-then with-set w certificate a l r =
    let p = promise text room bytes marks e in
    let g = ready (bytes ++ rest) set room-then with-set w in
    let bads = g.file.job.forbidden in
    let i : IsJob (bytes ++ rest) (file_of p.listing bads) = subst (IsJob (bytes ++ rest)) (p.no_other rest g.file g.job_is) g.job_is in
    let (j, f) = p.rewritten (bytes ++ rest) bads i set room-then with-set w in
    let same : p.listing ≡ l = let q : listed p.listing ≡ listed l = sym p.reads ∙ r in cc in
    subst (λ k. OnStatements set k marks) same (p.ready with-set (bads ++ set_for p.listing set) j certificate a set f)

-- a refusal has a number other than 0
fault_number : (ls : List Line) (s : Seen) (f : Fault) → first_fault ls s ≡ some f → 17 ≤ f.number
unfolding first_fault
fault_number [] s f e = go (eqb s.depth 0) e
  where
    go : (b : Bool) → cond b none (some (fault 17 (suc s.passed))) ≡ some f → 17 ≤ f.number
    go true w = absurd (let q : ◌≡◌ {A = ℕ} 0 1 = cc in omega arith)
    go false w = let q : f.number ≡ 17 = cc in omega arith
fault_number (l ∷ ls) s f e = go (is_misplaced l s) (is_too_deep (see l s)) (is_too_much (see l s)) (fault_number ls (see l s) f) e
  where
    go : (a b c : Bool) → (first_fault ls (see l s) ≡ some f → 17 ≤ f.number)
        → cond a (some (fault 17 (suc s.passed)))
        (cond b (some (fault 18 (suc s.passed))) (cond c (some (fault 19 (suc s.passed))) (first_fault ls (see l s))))
        ≡ some f
        → 17 ≤ f.number
    go true b c h w = let q : f.number ≡ 17 = cc in omega arith
    go false true c h w = let q : f.number ≡ 18 = cc in omega arith
    go false false true h w = let q : f.number ≡ 19 = cc in omega arith
    go false false false h w = h w

refusal_number : (text : List ℕ) (room number value : ℕ) → translate text room ≡ untranslated number value → 12 ≤ number
unfolding translate
refusal_number text room number value e = go (first_fault (lines_of text) nothing_seen) refl e
  where
    in_room : (b : Bool) (n : ℕ) (xs ys : List ℕ) → cond b (untranslated 12 n) (translated xs ys) ≡ untranslated number value → 12 ≤ number
    in_room true n xs ys w = let q : number ≡ 12 = cc in omega arith
    in_room false n xs ys w = absurd (let q : ◌≡◌ {A = ℕ} 0 1 = cc in omega arith)

    go : (f : Option Fault) → first_fault (lines_of text) nothing_seen ≡ f
        → translate_read room (unless f (listing_of (lines_of text))) ≡ untranslated number value
        → 12 ≤ number
    go none w v =
        let bytes = encode (numbers_ahead (file_of (listing_of (lines_of text)) [])) in
        in_room (ltb room (length bytes)) (length bytes) bytes (mark_states (listing_of (lines_of text))) v
    go (some f) w v = let q : number ≡ f.number = cc in let h = fault_number (lines_of text) nothing_seen f w in omega arith

-- so a program that does what the one pass does keeps the promise of the call
module _ (text before marks_before after marks_then : List ℕ) (told : CallResult) where
  abbrev passed : Translated
  passed = translate_by (length before) (go_on (lines_of text) begin)

  promised_in : (t : Translated) → translate text (length before) ≡ t → told ≡ translate_result t → after ≡ bytes_after t before
      → marks_then ≡ marks_after t marks_before
      → told.code ≡ 0 → PromisedIn text before marks_before after marks_then
  promised_in (translated bytes marks) e r b m z =
      record { bytes = bytes; marks = marks; bytes_are = b; marks_are = m; promises = promise text (length before) bytes marks e }
  promised_in (untranslated number value) e r b m z =
      let v : number ≡ 0 = ap (λ (c : CallResult). c.code) (sym r) ∙ z in
      absurd (let w = refusal_number text (length before) number value e in omega arith)

  pub translates : told ≡ translate_result passed → after ≡ bytes_after passed before → marks_then ≡ marks_after passed marks_before
      → Translates text before marks_before told after marks_then
  translates r b m =
      let e = sym (one_pass text (length before)) in
      let r' = r ∙ ap translate_result e in
      let b' = b ∙ ap (λ t. bytes_after t before) e in
      let m' = m ∙ ap (λ t. marks_after t marks_before) e in
      record { result = r'; bytes = b'; marks = m'; promise = promised_in (translate text (length before)) refl r' b' m' }
