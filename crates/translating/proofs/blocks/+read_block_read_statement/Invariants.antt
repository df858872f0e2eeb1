-- A block is its statements, a statement may hold a block: the place in the text moves on at each call, and the position with it.
use Rattle.std.proofs.Common.{length, ◌-◌, ◌+◌, ◌*◌}
use Rattle.translating.proofs.Nesting.{Passed}
use Rattle.translating.proofs.blocks.+read_block_read_statement.Given as goal

abbrev pub decreases-read_block : goal.decreases-read_block
decreases-read_block l = 2 * (length l.text.now - l.p.at)

abbrev pub decreases-read_statement : goal.decreases-read_statement
decreases-read_statement l = 2 * (length l.text.now - l.p.at) + 1

abbrev pub invariant-read_block-loop-reached : goal.invariant-read_block-loop-reached
invariant-read_block-loop-reached l = Passed l.text l.depth l.fn.p l.fn.work l.reached l.work

abbrev pub decreases-read_block-loop-reached : goal.decreases-read_block-loop-reached
decreases-read_block-loop-reached l = length l.text - l.reached.at
