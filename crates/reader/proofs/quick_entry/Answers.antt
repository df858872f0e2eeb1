-- Where all tests pass, the parser of an entry goes on with its facts.
use Rattle.std.proofs.Common.{◌≡◌, ◌+◌, ◌-◌, get_or, refl, arith}
use Rattle.format.specs.Parser.{certificate_buffer}
use Rattle.layout.specs.Entries.{version_of}
use Rattle.reader.proofs.Quick.{each_from, entry_quick}
use Rattle.reader.proofs.quick_entry.Goals as goal

pub returns : goal.returns
returns c =
    let a = c.args in
    let n = get_or a.cert.now (a.at + 1) 0 in
    let long : a.at + 2 + a.variables + n - (a.at + 2) ≡ a.variables + n = omega arith in
    let below = rw long at (c.if-not-all_below.ensures.0 refl) in (
      omega arith,
      omega arith,
      entry_quick (certificate_buffer a.cert.now) (version_of a.cert.now) a.variables a.states a.at (omega arith) (omega arith) (omega arith) (omega arith)
          (each_from a.cert.now (a.at + 2) (a.variables + n) (3 + n) (omega arith) below),
    )
