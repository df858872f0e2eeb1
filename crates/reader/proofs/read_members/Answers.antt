-- A return for each number that is refused, for another version, for a member that is refused as it is read or by the test, and for success; with
-- each, what the table holds.
use Rattle.std.proofs.Common.{◌∙◌, sym, ap, refl, arith}
use Rattle.std.proofs.lemmas.Result.{err_from_is_err_and}
use Rattle.format.specs.Parser.{certificate_buffer}
use Rattle.reader.specs.Members.{with_places}
use Rattle.reader.proofs.Answers.{in_range}
use Rattle.reader.proofs.MemberPlaces.{lost_version, versions_differ, lost_number, places_are, lost_test, members_made}
use Rattle.reader.proofs.read_members.Goals as goal

pub returns-in_err-own : goal.returns-in_err-own
returns-in_err-own c =
    let own = rw c.certificate-source.ensures.buffer at c.in_err-own.ensures in
    let p = err_from_is_err_and c.from_residual.result c.from_residual.ensures.1 in
    let (e, none) = lost_version c.args.cert.now c.args.variables c.args.states c.args.version c.args.start (sym own) in
    record { answer = rw (p.1, p.2) e; starts = rw none refl }

pub returns-then-version_of-version : goal.returns-then-version_of-version
returns-then-version_of-version c =
    let own = rw c.certificate-source.ensures.buffer at c.in_ok-own.ensures in
    let (e, none) = versions_differ c.args.cert.now c.args.variables c.args.states c.args.version c.args.start (sym own) (λ z. c.if-version_of-version.true (c.version_of.ensures ∙ z)) in
    record { answer = e; starts = rw none refl }

pub returns-in_err-number : goal.returns-in_err-number
returns-in_err-number c =
    let own = rw c.certificate-source.ensures.buffer at c.in_ok-own.ensures in
    let number = rw c.certificate-source.ensures.buffer at c.in_err-number.ensures in
    let p = err_from_is_err_and c.from_residual-in_err-number.result c.from_residual-in_err-number.ensures.1 in
    let (e, none) = lost_number c.args.cert.now c.args.variables c.args.states c.args.version c.args.start (sym own) (sym c.version_of.ensures ∙ c.if-version_of-version.false) (sym number) in
    record { answer = rw (p.1, p.2) e; starts = rw none refl }

pub read_entries-requires : goal.read_entries-requires
read_entries-requires c =
    let number = rw c.certificate-source.ensures.buffer at c.in_ok-number.ensures in
    let (l, h) = in_range (certificate_buffer c.args.cert.now) 1 513 _ _ _ (sym number) in
    omega (arith, c.told-starts)

pub returns-in_err-end : goal.returns-in_err-end
returns-in_err-end c =
    let own = rw c.certificate-source.ensures.buffer at c.in_ok-own.ensures in
    let number = rw c.certificate-source.ensures.buffer at c.in_ok-number.ensures in
    let p = err_from_is_err_and c.from_residual-in_err-end.result c.from_residual-in_err-end.ensures.1 in
    record {
      answer = rw (p.1, p.2) (lost_test c.args.cert.now c.args.variables c.args.states c.args.version c.args.start (sym own) (sym c.version_of.ensures ∙ c.if-version_of-version.false) (sym number) (sym c.in_err-end.ensures.answer));
      starts = c.read_entries.ensures.starts ∙ ap (λ ps. with_places ps c.args.starts.now) (sym (places_are c.args.cert.now c.args.variables c.args.states c.args.version c.args.start (sym own) (sym c.version_of.ensures ∙ c.if-version_of-version.false) (sym number)));
    }

pub returns : goal.returns
returns c =
    let own = rw c.certificate-source.ensures.buffer at c.in_ok-own.ensures in
    let number = rw c.certificate-source.ensures.buffer at c.in_ok-number.ensures in
    record {
      answer = members_made c.args.cert.now c.args.variables c.args.states c.args.version c.args.start (sym own) (sym c.version_of.ensures ∙ c.if-version_of-version.false) (sym number) c.args.starts.now _ _ c.read_entries.ensures.starts (sym c.in_ok-end.ensures.answer) c.told-starts;
      starts = c.read_entries.ensures.starts ∙ ap (λ ps. with_places ps c.args.starts.now) (sym (places_are c.args.cert.now c.args.variables c.args.states c.args.version c.args.start (sym own) (sym c.version_of.ensures ∙ c.if-version_of-version.false) (sym number)));
    }
