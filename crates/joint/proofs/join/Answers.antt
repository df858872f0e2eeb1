-- The first pair's verdict, and what follows; and what the answer says.
use Rattle.std.specs.Prelude.{Err}
use Rattle.joint.specs.declared.JoinRefusal.TheVariants.{First}
use Rattle.joint.proofs.Answers.{first_refused, first_accepted, promised}
use Rattle.joint.proofs.join.Goals as goal

pub join_second-requires : goal.join_second-requires
join_second-requires c = c.in-Ok.ensures.kept.0

pub returns-in-Err : goal.returns-in-Err
returns-in-Err c =
    let a = c.args in
    let p = promised a.job1.now a.cert1.now a.job2.now a.cert2.now a.state (Err (First c.in-Err.refused))
    (first_refused a.job1.now a.cert1.now a.job2.now a.cert2.now a.state _ c.check_pair.ensures.exact _ c.in-Err.is) in
    record { exact = p.0; means = p.1.0; safe = p.1.1 }

pub returns-in-Ok : goal.returns-in-Ok
returns-in-Ok c =
    let a = c.args in
    let p = promised a.job1.now a.cert1.now a.job2.now a.cert2.now a.state _
    (first_accepted a.job1.now a.cert1.now a.job2.now a.cert2.now a.state _ c.check_pair.ensures.exact c.in-Ok.pair c.in-Ok.is c.join_second.result c.join_second.ensures) in
    record { exact = p.0; means = p.1.0; safe = p.1.1 }
