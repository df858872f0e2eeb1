-- The loop reads the members one after the other, and has put down the place of each before it reads it. Where none was seen that may be refused,
-- all that were read pass the test (`Passing`).
use Rattle.std.proofs.Common.{◌≡◌, false}
use Rattle.format.specs.Certificate.{read_member}
use Rattle.format.specs.Parser.{certificate_buffer}
use Rattle.layout.specs.Entries.{version_of}
use Rattle.reader.proofs.MemberPlaces.{Noting}
use Rattle.reader.proofs.Testing.{Passing}
use Rattle.reader.proofs.read_entries.Given as goal

abbrev pub invariant-loop-i : goal.invariant-loop-i
invariant-loop-i l =
    Noting (read_member (certificate_buffer l.cert) (version_of l.cert) l.variables l.states) l.count l.first l.initial.starts l.starts l.at l.i
    × (l.seen ≡ false → Passing l.cert l.variables l.states l.start l.first l.count l.at l.i)
