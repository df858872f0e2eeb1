-- The loop: the covers of the members before the m-th are checked.
use Prim.Native.Nat.{ℕ, ◌+◌, ◌<◌}
use mathlib.Core.Path.{◌≡◌}
use native.Mathlib.Omega.{arith}
use native.Mathlib.Numerals.{add-one}
use lib.ListN.{length, get_or, drop, drop_of_length-le}
use lib.Seq.{drop-cons}
use mathlib.Core.List.{List, ◌∷◌, ◌++◌, map-append}
use Rattle.std.proofs.lemmas.Result.{err_from_is_err_and}
use Rattle.lists.specs.List.{concat_map}
use Rattle.format.specs.Certificate.{read_cover}
use Rattle.format.specs.Parser.{Parser, certificate_buffer}
use Rattle.layout.specs.Entries.{located_at, members_at}
use Rattle.layout.specs.Members.{members_from}
use Rattle.reader.specs.declared.Header.{Header}
use Rattle.checker.specs.Checking.{covers_of}
use Rattle.checker.specs.Jobs.{owed_by}
use Rattle.checker.specs.declared.checked.Position.{Position}
use Rattle.checker.proofs.Checking.{Progress, begin, advance, halt, finish}
use Rattle.checker.proofs.owed.check_members.Goals as goal

-- the covers of what is owed for the members at these places
abbrev covers : List ℕ → List ℕ → Header → List ℕ → List ℕ → List (Parser ℕ)
covers job cert h starts rest = covers_of cert (members_from cert h.variables starts) (concat_map (owed_by job h) (members_at cert h.variables rest))

-- the m-th member is the next
next : (starts : List ℕ) (m : ℕ) → m < length starts → drop m starts ≡ get_or starts m 0 ∷ drop (m + 1) starts
next starts m b = rw (add-one m) (drop-cons starts m 0 b)

-- what is owed for it, and then for the others
owing : (job cert : List ℕ) (h : Header) (starts : List ℕ) (m : ℕ) → m < length starts → (from t : Position)
    → Progress cert (covers job cert h starts starts) from (covers job cert h starts (drop m starts)) t
    → Progress cert (covers job cert h starts starts) from
    (covers_of cert (members_from cert h.variables starts) (owed_by job h (located_at cert h.variables (get_or starts m 0))) ++ covers job cert h starts (drop (m + 1) starts)) t
owing job cert h starts m b from t p =
    rw (map-append (read_cover (certificate_buffer cert) (members_from cert h.variables starts)) (owed_by job h (located_at cert h.variables (get_or starts m 0)))
    (concat_map (owed_by job h) (members_at cert h.variables (drop (m + 1) starts)))) at
    (rw (next starts m b) at p)

pub loop-m-init : goal.loop-m-init
loop-m-init c = begin c.requires.3

pub check_member-requires : goal.check_member-requires
check_member-requires c = (c.requires.0, c.requires.1, c.requires.2, omega arith, c.loop-m.invariant.within)

pub returns-in_err-t : goal.returns-in_err-t
returns-in_err-t c =
    let a = c.args in
    let p = err_from_is_err_and c.from_residual.result c.from_residual.ensures.1 in
    rw (p.1, p.2) (halt _ _ (owing a.job.now a.cert.now a.h a.starts.now c.loop-m.m (omega arith) a.from c.loop-m.t c.loop-m.invariant) c.check_member.ensures c.in_err-t.was)

pub loop-m-preserved : goal.loop-m-preserved
loop-m-preserved c =
    let a = c.args in
    advance _ _ (owing a.job.now a.cert.now a.h a.starts.now c.loop-m.m (omega arith) a.from c.loop-m.t c.loop-m.invariant) c.check_member.ensures c.in_ok-t.was

pub returns : goal.returns
returns c = finish (rw (drop_of_length-le c.args.starts.now {i = c.loop-m.m} (omega arith)) at c.loop-m.invariant)
