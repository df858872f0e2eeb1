-- The four parts one after the other, and then too little room, or a copy of them.
use native.Mathlib.Omega.{arith}
use borrow.Author.Rules.{rules}
use Rattle.sheet.proofs.Text.{put_sheet, told_short, told_written, left, copied}
use Rattle.sheet.proofs.report.Goals as goal

pub returns-then-text-length : goal.returns-then-text-length
returns-then-text-length c =
    let share = c.put_all-share.ensures.room (omega arith) in
    let covers = c.put_all-mean.ensures.room (omega arith) in
    let p = put_sheet _ _ _ share c.put_fraction-shared.ensures.put covers c.put_fraction-length.ensures.put in
    record { result = told_short p _ (omega arith); text = left p _ (omega arith); length = omega arith; room = search rules }

pub returns : goal.returns
returns c =
    let share = c.put_all-share.ensures.room (omega arith) in
    let covers = c.put_all-mean.ensures.room (omega arith) in
    let p = put_sheet _ _ _ share c.put_fraction-shared.ensures.put covers c.put_fraction-length.ensures.put in
    record { result = told_written p _ (omega arith); text = copied p _ (omega arith) c.put_all.ensures; length = omega arith; room = search rules }
