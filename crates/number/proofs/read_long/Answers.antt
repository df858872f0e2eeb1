-- Byte after byte, by the cases of the definition: unreadable, two bytes, three bytes.
use native.Mathlib.Omega.{arith}
use Rattle.number.proofs.Reading.{cut_at_one, zero_second, two_bytes, cut_at_two, zero_third, three_bytes, too_large}
use Rattle.number.proofs.read_long.Goals as goal

pub returns-then-bytes-at-le1 : goal.returns-then-bytes-at-le1
returns-then-bytes-at-le1 c =
    let a = c.args in
    cut_at_one a.bytes.now a.at a.a (omega arith) (omega arith) (omega arith) (omega arith)

pub returns-then-b-eq0 : goal.returns-then-b-eq0
returns-then-b-eq0 c =
    let a = c.args in
    zero_second a.bytes.now a.at a.a (omega arith) (omega arith) c.wide-b.result (omega arith) (omega arith)
    (omega arith)

pub returns-then-b-lt128 : goal.returns-then-b-lt128
returns-then-b-lt128 c =
    let a = c.args in
    two_bytes a.bytes.now a.at a.a (omega arith) (omega arith) c.wide-b.result (omega arith) (omega arith)
    (omega arith) (omega arith)

pub returns-then-bytes-at-le2 : goal.returns-then-bytes-at-le2
returns-then-bytes-at-le2 c =
    let a = c.args in
    cut_at_two a.bytes.now a.at a.a (omega arith) (omega arith) c.wide-b.result (omega arith)
    (omega arith) (omega arith) (omega arith) (omega arith)

pub returns-then-c-eq0 : goal.returns-then-c-eq0
returns-then-c-eq0 c =
    let a = c.args in
    zero_third a.bytes.now a.at a.a (omega arith) (omega arith) c.wide-b.result
    (omega arith) (omega arith) (omega arith) (omega arith) c.wide-c.result (omega arith) (omega arith) (omega arith)

pub returns-then-c-lt4 : goal.returns-then-c-lt4
returns-then-c-lt4 c =
    let a = c.args in
    three_bytes a.bytes.now a.at a.a (omega arith) (omega arith)
    c.wide-b.result (omega arith) (omega arith) (omega arith) (omega arith)
    c.wide-c.result (omega arith) (omega arith) (omega arith) (omega arith)

pub returns : goal.returns
returns c =
    let a = c.args in
    too_large a.bytes.now a.at a.a (omega arith) (omega arith)
    c.wide-b.result (omega arith) (omega arith) (omega arith) (omega arith)
    c.wide-c.result (omega arith) (omega arith) (omega arith) (omega arith)
