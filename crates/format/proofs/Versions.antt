-- Version 1's conditions are those of version 2 with no facts and no operation on values: version 1 has none (`first_version`), and a pair that has none and is
-- accepted in one version is accepted, with the same counts, as one of the other (`either_version`).
use mathlib.Core.Bool.{Bool, true, false, cond}
use mathlib.Core.List.Memᴰ
use mathlib.Core.List.{List, [], map}
use mathlib.Core.Option.{some}
use mathlib.Core.Logic.{◌≢◌}
use mathlib.Core.Path.{◌≡◌, refl, sym, ap, subst, ◌∙◌}
use Prim.Native.Nat.{ℕ, ◌≤◌}
use native.Mathlib.Omega.{arith}
use borrow.Author.Tests.{ne_eqb}
use lib.Dec.{T, eqb, leb}
use lib.ListN.{length}
use Rattle.lists.specs.List.{Every, concat_map}
use Rattle.lists.proofs.List.{every_append, concat_map_mem}
use Rattle.lists.proofs.Reflect.{r_le}
use Rattle.number.specs.NumberList.{numbers, decode}
use Rattle.heap.specs.Operation.{Op, operation}
use Rattle.heap.proofs.Rows.{column, in_table}
use Rattle.graph.specs.Graph.{Graph, Images, Vars, Paths, Embeds}
use Rattle.facts.proofs.Closing.{none_follows}
use Rattle.shape.specs.Shape.{Shape, shape_graph}
use Rattle.run.specs.Run.{Transition, Located, Job}
use Rattle.backward.specs.Predecessors.{predecessors}
use Rattle.backward.proofs.OnLinks.{on_links, OnLinks, NoFacts, predecessors_none}
use Rattle.cover.specs.Cover.{predecessors_by, owed}
use Rattle.format.specs.Conditions.{MembersInRange, Conditions}
use Rattle.format.specs.JobBytes.{Between, LocatedInRange, TransitionInRange, JobInRange}
use Rattle.format.specs.JobNumbers.{JobFile, in_version, job_numbers}
use Rattle.format.specs.Numbers.{certificate_numbers}
use Rattle.format.specs.Verdict.{Counts}

-- an embedding of a shape without facts is one of its cells, variables and links
pub embeds_none : (m : Shape) → NoFacts m → (h : Graph) (f : ℕ → ℕ) → let g = shape_graph m in Images g.Cell h.Cell f → Vars g.var h.var f
    → Paths g.Cell g.link h.link f → Embeds g h f
embeds_none m e h f i v p = record { images = i; vars = v; paths = p; facts = λ k a b t. absurd (none_follows (rw e at t)) }

-- kinds 1 to 7, and no others, look at no value
on_links_lem : (n kind a b : ℕ) (o : Op) → operation n kind a b ≡ some o → leb kind 7 ≡ on_links o
on_links_lem n kind a b o e =
    let t = in_table n kind a b o e in
    column (λ kind row. leb kind 7) (λ kind row. on_links (row.op a b)) refl kind t.row t.found ∙ ap on_links t.named

abbrev pub Without : Located → Type 0
Without m = NoFacts m.shape

-- what is owed of members without facts
owed_none : (j : Job) (ms : List Located) → Every (λ t. OnLinks t.op) j.transitions → Every Without j.forbidden → Every Without ms
    → Every Without (owed j ms)
owed_none j ms links forbidden members = every_append Without j.forbidden forbidden of_members
  where
    by_one : (m : Located) (t : Transition) → Without m → OnLinks t.op → (b : Bool)
        → Every Without (cond b (map (λ s. record { state = t.from; shape = s }) (predecessors t.op m.shape)) [])
    by_one m t e k true o i =
        let (s, here, is) = Memᴰ.of_map (λ s. record { state = t.from; shape = s }) (predecessors t.op m.shape) i in
        ap (λ (l : Located). l.shape.facts) (sym is) ∙ predecessors_none t.op m.shape k e s here
    by_one m t e k false o i = absurd (Memᴰ.not-nil i)

    of_members : Every Without (concat_map (λ m. concat_map (predecessors_by m) j.transitions) ms)
    of_members o i =
        let (m, here, k) = concat_map_mem (λ m. concat_map (predecessors_by m) j.transitions) ms o i in
        let (t, there, z) = concat_map_mem (predecessors_by m) j.transitions o k in
        by_one m t (members m here) (links t there) (eqb t.to m.state) o z

-- ---- version 1 has no facts

-- job and members have nothing that version 1 lacks
pub record Plain (j : Job) (ms : List Located) : Type 0 where
  pub transitions : Every (λ t. OnLinks t.op) j.transitions
  pub forbidden : Every Without j.forbidden
  pub members : Every Without ms

pub plain_owed : (j : Job) (ms : List Located) → Plain j ms → Every Without (owed j ms)
plain_owed j ms k = owed_none j ms k.transitions k.forbidden k.members

pub plain_first : (f : JobFile) (ms : List Located) → f.version ≢ 2 → JobInRange f → MembersInRange f ms → Plain f.job ms
plain_first f ms first r k =
    record {
      transitions =
          λ t i. let (kind, a, b, (few, e)) = (r.transitions t i).op in
          subst T (on_links_lem f.job.variables kind a b t.op e) ((r_le kind 7).tests (rw (ne_eqb f.version 2 first) at few));
      forbidden = λ m i. (r.forbidden m i).facts.none first;
      members = λ m i. (k.members m i).facts.none first;
    }

-- of an accepted pair of version 1
pub first_version : (job certificate : List ℕ) (counts : Counts) (c : Conditions job certificate counts) → c.file.version ≢ 2
    → Plain c.file.job c.members × Every Without (owed c.file.job c.members)
first_version job certificate counts c first =
    let plain = plain_first c.file c.members first c.job_is.in_range c.members_range in
    (plain, plain_owed c.file.job c.members plain)

-- ---- and where there are no facts both versions have the same conditions

module _ (v : ℕ) (f : JobFile) where
  located_either : (m : Located) → Without m → LocatedInRange f.version f.job.variables f.states m
      → LocatedInRange v f.job.variables f.states m
  located_either m e r =
      record { state = r.state; shape = r.shape; facts = record { number = r.facts.number; rising = r.facts.rising; none = λ _. e } }

  transition_either : (t : Transition) → OnLinks t.op → TransitionInRange f.version f.job.variables f.states t
      → TransitionInRange v f.job.variables f.states t
  transition_either t k r =
      let (kind, a, b, (_, e)) = r.op in
      let few = (r_le kind 7).holds (subst T (sym (on_links_lem f.job.variables kind a b t.op e)) k) in
      record { from = r.from; op = (kind, a, b, (enough kind few (eqb v 2), e)); to = r.to }
    where
      enough : (kind : ℕ) → kind ≤ 7 → (b : Bool) → kind ≤ cond b 13 7
      enough kind few true = omega arith
      enough kind few false = few

  pub job_either : Between 1 2 v → (ms : List Located) → Plain f.job ms → JobInRange f → JobInRange (in_version v f)
  job_either ok ms k r =
      record {
        version = ok;
        variables = r.variables;
        states = r.states;
        start = r.start;
        transitions_number = r.transitions_number;
        transitions = λ t i. transition_either t (k.transitions t i) (r.transitions t i);
        forbidden_number = r.forbidden_number;
        forbidden = λ m i. located_either m (k.forbidden m i) (r.forbidden m i);
      }

  pub members_either : (ms : List Located) → Plain f.job ms → MembersInRange f ms → MembersInRange (in_version v f) ms
  members_either ms k r = record { number = r.number; members = λ m i. located_either m (k.members m i) (r.members m i) }

-- bytes of the same job, members and covers in version v
pub record InVersion (v : ℕ) {job certificate : List ℕ} {counts : Counts} (c : Conditions job certificate counts) (job' certificate' : List ℕ) : Type 0 where
  pub job_length : Between 1 65536 (length job')
  pub certificate_length : Between 1 65536 (length certificate')
  pub job_reads : decode job' ≡ numbers (job_numbers (in_version v c.file))
  pub certificate_reads : decode certificate' ≡ numbers (certificate_numbers v c.members c.covers)

-- VERSIONS: the conditions of a job and a certificate without facts are those of the same in version v
pub either_version : (v : ℕ) → Between 1 2 v → (job certificate : List ℕ) (counts : Counts) (c : Conditions job certificate counts)
    → Plain c.file.job c.members → (job' certificate' : List ℕ) → InVersion v c job' certificate' → Conditions job' certificate' counts
either_version v ok job certificate counts c k job' certificate' w =
    record {
      job_length = w.job_length;
      certificate_length = w.certificate_length;
      file = in_version v c.file;
      job_is = record { in_range = job_either v c.file ok c.members k c.job_is.in_range; reads = w.job_reads };
      members = c.members;
      members_range = members_either v c.file c.members k c.members_range;
      covers = c.covers;
      images = c.images;
      certificate_reads = w.certificate_reads;
      start = c.start;
      hold = c.hold;
      counts_due = c.counts_due;
    }
