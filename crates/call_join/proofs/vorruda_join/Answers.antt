-- The answer's number and the values lent are what `join` promises.
use Rattle.call_join.proofs.Joining.{promised}
use Rattle.call_join.proofs.vorruda_join.Goals as goal

pub returns : goal.returns
returns c =
    let a = c.args in
    let j = c.join in
    let p =
    promised a.job1.now a.cert1.now a.job2.now a.cert2.now a.state j.result j.ensures.exact j.ensures.means j.ensures.safe c.tell.result a.out.now _ c.tell.ensures.0
    c.tell.ensures.1 in
    record { number = p.0; values = p.1.0; means = p.1.1.0; accepted = p.1.1.1.0; safe = p.1.1.1.1 }
