-- A job in range and a certificate whose covers hold, written as bytes, are accepted.
use mathlib.Core.Bool.{Bool, true, false, cond}
use mathlib.Core.List.Memᴰ
use mathlib.Core.List.{List, [], ◌∷◌, ◌++◌}
use mathlib.Core.Path.{◌≡◌, refl}
use Prim.Native.Nat.{ℕ, ◌≤◌}
use native.Mathlib.Omega.{arith}
use borrow.Author.Tests.{eqb-true}
use lib.Dec.{eqb}
use lib.ListN.{length, length-append}
use Rattle.lists.specs.List.{◌∈◌, concat_map}
use Rattle.lists.proofs.List.{element_below}
use Rattle.number.specs.Number.{largest, bytes_of}
use Rattle.number.specs.NumberList.{encode}
use Rattle.number.specs.Range.{AtMost}
use Rattle.number.proofs.RoundTrip.{decode_encode}
use Rattle.number.proofs.Writing.{some_bytes}
use Rattle.heap.specs.Heap.{empty}
use Rattle.heap.specs.Operation.{Op, equal, different, assign, load, store, new, delete, equal_value, below_value, copy, larger, smaller, read, Allowed}
use Rattle.heap.specs.Place.{cell}
use Rattle.facts.specs.Facts.{Fact, FactsOf}
use Rattle.shape.specs.Shape.{size, Satisfies, AllBelow}
use Rattle.run.specs.Run.{Transition, Located}
use Rattle.heap.proofs.Operands.{named_allowed}
use Rattle.cover.specs.Cover.{owed, Cover, AllHold}
use Rattle.cover.specs.Links.{links_of}
use Rattle.format.specs.JobNumbers.{JobFile, op_numbers, transition_numbers, fact_numbers, facts_numbers, located_numbers, job_numbers}
use Rattle.format.specs.Numbers.{member_numbers, cover_numbers, certificate_numbers}
use Rattle.format.specs.Verdict.{accepted, verdict}
use Rattle.format.specs.Conditions.{MembersInRange, ImageForEach, AllFit, counts_of}
use Rattle.format.specs.JobBytes.{LocatedInRange, TransitionInRange, JobInRange, IsJob}
use Rattle.format.proofs.Covers.{hold_fit}
use Rattle.format.proofs.Exact.{exact}
use Rattle.format.proofs.Owed.{owed_range}

-- ---- numbers with a bound

pub at_most_append : (most : ℕ) (a b : List ℕ) → AtMost most a → AtMost most b → AtMost most (a ++ b)
at_most_append most [] b s t = t
at_most_append most (x ∷ a) b (h, s) t = (h, at_most_append most a b s t)

pub at_most_all : (most : ℕ) {A : Type 0} (g : A → List ℕ) (l : List A) → ((x : A) → x ∈ l → AtMost most (g x)) → AtMost most (concat_map g l)
at_most_all most g [] h = tt
at_most_all most g (x ∷ xs) h =
    at_most_append most (g x) (concat_map g xs) (h x (Memᴰ.head refl)) (at_most_all most g xs (λ y i. h y (Memᴰ.tail i)))

below_at_most : (most k : ℕ) (l : List ℕ) → k ≤ most → AllBelow k l → AtMost most l
below_at_most most k [] h b = tt
below_at_most most k (x ∷ xs) h b = (let q = b x (Memᴰ.head refl) in omega arith, below_at_most most k xs h (λ y i. b y (Memᴰ.tail i)))

-- numbers have bytes
pub encode_some : (ns : List ℕ) → 1 ≤ length ns → 1 ≤ length (encode ns)
unfolding encode
encode_some [] h = absurd (omega arith)
encode_some (n ∷ ns) h = omega (arith, length-append (bytes_of n) (encode ns), some_bytes n)

-- every number of a state with a shape and of a transition is at most 64
module _ (most : ℕ) (enough : 64 ≤ most) where
  -- so are those of a fact
  facts_at_most : (n : ℕ) (l : List Fact) → n ≤ 12 → FactsOf n l → AtMost most (concat_map fact_numbers l)
  facts_at_most n l h ofs = at_most_all most fact_numbers l (λ t i. let (k, (_, a), (_, b)) = ofs t i in (omega arith, (omega arith, (omega arith, tt))))

  -- the count of facts, which version 1 does not have, may be 288
  pub located_at_most : (version : ℕ) → (version ≡ 2 → 288 ≤ most) → (variables states : ℕ) (m : Located) → states ≤ 64 → LocatedInRange version variables states m
      → AtMost most (located_numbers version m)
  located_at_most version counts variables states m h ok =
      let r = ok.shape in
      let c = r.cells in (
        let q = ok.state in omega arith,
        (
          omega arith,
          at_most_append most m.shape.vars (m.shape.links ++ facts_numbers version m.shape.facts) (below_at_most most (cell (size m.shape)) m.shape.vars (omega arith) r.vars)
              (at_most_append most m.shape.links (facts_numbers version m.shape.facts)
              (below_at_most most (cell (size m.shape)) m.shape.links (omega arith) r.links) (facts (eqb version 2) refl)),
        ),
      )
    where
      facts : (b : Bool) → eqb version 2 ≡ b → AtMost most (cond b (length m.shape.facts ∷ concat_map fact_numbers m.shape.facts) [])
      facts true v =
          let few = ok.facts.number in
          let enough = counts (eqb-true version 2 v) in
          (omega arith, facts_at_most (size m.shape) m.shape.facts ok.shape.cells ok.shape.facts)
      facts false v = tt

  op_at_most : (n : ℕ) (o : Op) → n ≤ 8 → Allowed n o → AtMost most (op_numbers o)
  op_at_most n (equal a b) h (p, q) = (omega arith, (omega arith, (omega arith, tt)))
  op_at_most n (different a b) h (p, q) = (omega arith, (omega arith, (omega arith, tt)))
  op_at_most n (assign a b) h (z, p, q) = (omega arith, (omega arith, (omega arith, tt)))
  op_at_most n (load a b) h (z, _, p, q) = (omega arith, (omega arith, (omega arith, tt)))
  op_at_most n (store a b) h (z, p, q) = (omega arith, (omega arith, (omega arith, tt)))
  op_at_most n (new a) h (z, p) = (omega arith, (omega arith, (omega arith, tt)))
  op_at_most n (delete a) h (z, p) = (omega arith, (omega arith, (omega arith, tt)))
  op_at_most n (equal_value a b) h (z, _, p, q) = (omega arith, (omega arith, (omega arith, tt)))
  op_at_most n (below_value a b) h (z, _, p, q) = (omega arith, (omega arith, (omega arith, tt)))
  op_at_most n (copy a b) h (z, _, p, q) = (omega arith, (omega arith, (omega arith, tt)))
  op_at_most n (larger a b) h (z, _, p, q) = (omega arith, (omega arith, (omega arith, tt)))
  op_at_most n (smaller a b) h (z, _, p, q) = (omega arith, (omega arith, (omega arith, tt)))
  op_at_most n (read a) h (z, p) = (omega arith, (omega arith, (omega arith, tt)))

  pub transition_at_most : (version variables states : ℕ) (t : Transition) → variables ≤ 8 → states ≤ 64 → TransitionInRange version variables states t
      → AtMost most (transition_numbers t)
  transition_at_most version variables states t v h ok =
      let (kind, a, b, (_, e)) = ok.op in
      let s = op_at_most variables t.op v (named_allowed variables kind a b t.op e) in
      (let q = ok.from in omega arith, at_most_append most (op_numbers t.op) (t.to ∷ []) s (let q = ok.to in omega arith, tt))

-- every number of a job and of a certificate is at most 65,535

abbrev Small : List ℕ → Type 0
Small = AtMost largest

pub small_job : (f : JobFile) → JobInRange f → Small (job_numbers f)
small_job f ok =
    let v = ok.variables.1 in
    let s = ok.states.1 in (
      let q = ok.version.1 in omega arith,
      (
        omega arith,
        (
          omega arith,
          (
            let q = ok.start in omega arith,
            (
              let q = ok.transitions_number in omega arith,
              at_most_append largest (concat_map transition_numbers f.job.transitions) _
                  (at_most_all largest transition_numbers f.job.transitions (λ t i. transition_at_most largest (omega arith) f.version f.job.variables f.states t v s (ok.transitions t i))) (
                    let q = ok.forbidden_number.1 in omega arith,
                    at_most_all largest (located_numbers f.version) f.job.forbidden (λ m i. located_at_most largest (omega arith) f.version (λ _. omega arith) f.job.variables f.states m s (ok.forbidden m i)),
                  ),
            ),
          ),
        ),
      ),
    )

-- the bytes of a job in range are those of that job
pub written_job : (f : JobFile) → JobInRange f → IsJob (encode (job_numbers f)) f
written_job f ok = record { in_range = ok; reads = decode_encode (job_numbers f) (small_job f ok) }

pub small_members : (f : JobFile) (ms : List Located) → JobInRange f → MembersInRange f ms → Small (member_numbers f.version ms)
small_members f ms ok oks = (
  let q = ok.version.1 in omega arith,
  (
    let n = oks.number.1 in omega arith,
    at_most_all largest (located_numbers f.version) ms (λ m i. located_at_most largest (omega arith) f.version (λ _. omega arith) f.job.variables f.states m ok.states.1 (oks.members m i)),
  ),
)

small_covers : (ms : List Located) → length ms ≤ 512 → (cs : List Cover) (os : List Located) → AllFit ms cs os
    → ((o : Located) → o ∈ os → size o.shape ≤ 14) → Small (concat_map cover_numbers cs)
small_covers ms h [] [] fit sizes = tt
small_covers ms h [] (o ∷ os) fit sizes = absurd fit
small_covers ms h (c ∷ cs) [] fit sizes = absurd fit
small_covers ms h (c ∷ cs) (o ∷ os) (k, ks) sizes = (
  let q = element_below ms c.member k.member k.numbered in omega arith,
  at_most_append largest c.images (concat_map cover_numbers cs)
      (below_at_most largest (size o.shape) c.images (let q = sizes o (Memᴰ.head refl) in omega arith) k.below)
      (small_covers ms h cs os ks (λ p i. sizes p (Memᴰ.tail i))),
)

-- members in range and covers that fit
pub small_fitting : (f : JobFile) (ms : List Located) (cs : List Cover) → JobInRange f → MembersInRange f ms → AllFit ms cs (owed f.job ms)
    → Small (certificate_numbers f.version ms cs)
small_fitting f ms cs ok oks fit =
    at_most_append largest (member_numbers f.version ms) (concat_map cover_numbers cs) (small_members f ms ok oks)
    (small_covers ms oks.number.1 cs (owed f.job ms) fit (λ o i. (owed_range f ms ok oks o i).cells))

module _ (f : JobFile) (ms : List Located) (cs : List Cover) (ok : JobInRange f) (oks : MembersInRange f ms)
    (images : (c : Cover) → c ∈ cs → ImageForEach ms c) (hold : AllHold ms cs (owed f.job ms)) where
  -- WRITTEN: they are accepted, if they are not too long
  pub written_accepted : ((m : Located) → m ∈ ms → m.state ≡ f.job.start → ¬ Satisfies empty m.shape) → length (encode (job_numbers f)) ≤ 65536
      → length (encode (certificate_numbers f.version ms cs)) ≤ 65536 → verdict (encode (job_numbers f)) (encode (certificate_numbers f.version ms cs)) ≡ accepted (counts_of f.job ms (links_of ms cs (owed f.job ms) hold))
  unfolding encode bytes_of
  written_accepted start j c =
      (exact (encode (job_numbers f)) (encode (certificate_numbers f.version ms cs)) (counts_of f.job ms (links_of ms cs (owed f.job ms) hold))).1
      (record {
        job_length = (encode_some (job_numbers f) (omega arith), j);
        certificate_length = (encode_some (certificate_numbers f.version ms cs) (omega arith), c);
        file = f;
        job_is = written_job f ok;
        members = ms;
        members_range = oks;
        covers = cs;
        images = images;
        certificate_reads = decode_encode (certificate_numbers f.version ms cs) (small_fitting f ms cs ok oks (hold_fit ms cs (owed f.job ms) images hold));
        start = start;
        hold = hold;
        counts_due = refl;
      })
