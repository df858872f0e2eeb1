-- Number after number as the parser of an entry reads them; each refusal is the parser's.
use Rattle.std.proofs.Common.{◌∙◌, sym, arith}
use Rattle.layout.specs.Entries.{version_of}
use Rattle.reader.specs.Number.{buffer_in}
use Rattle.reader.proofs.Answers.{handed, in_range}
use Rattle.reader.proofs.Entries.{lost_state, lost_size, lost_vars, lost_links, facts_last}
use Rattle.reader.proofs.Source.entry.Goals as goal

pub returns-in_err-state : goal.returns-in_err-state
returns-in_err-state c =
    let s = buffer_in c.args.self.now in
    handed _ _ c.from_residual.ensures.1 (lost_state (version_of c.args.self.now.bytes.now) s c.args.variables c.args.states c.args.first (sym c.in_err-state.ensures))

pub returns-in_err-size : goal.returns-in_err-size
returns-in_err-size c =
    let s = buffer_in c.args.self.now in
    handed _ _ c.from_residual-in_err-size.ensures.1
    (lost_size (version_of c.args.self.now.bytes.now) s c.args.variables c.args.states c.args.first (sym c.in_ok-state.ensures) (sym c.in_err-size.ensures))

pub overflow_add-n : goal.overflow_add-n
overflow_add-n c = let (l, h) = in_range (buffer_in c.args.self.now) 0 13 _ _ _ (sym c.in_ok-size.ensures) in omega arith

pub returns-in_err-links_at : goal.returns-in_err-links_at
returns-in_err-links_at c =
    let s = buffer_in c.args.self.now in
    handed _ _ c.from_residual-in_err-links_at.ensures.1
    (lost_vars (version_of c.args.self.now.bytes.now) s c.args.variables c.args.states c.args.first (sym c.in_ok-state.ensures) (sym c.in_ok-size.ensures) (sym c.in_err-links_at.ensures))

pub overflow_add-n-2 : goal.overflow_add-n-2
overflow_add-n-2 c = let (l, h) = in_range (buffer_in c.args.self.now) 0 13 _ _ _ (sym c.in_ok-size.ensures) in omega arith

pub returns-in_err-facts_at : goal.returns-in_err-facts_at
returns-in_err-facts_at c =
    let s = buffer_in c.args.self.now in
    handed _ _ c.from_residual-in_err-facts_at.ensures.1
    (lost_links (version_of c.args.self.now.bytes.now) s c.args.variables c.args.states c.args.first (sym c.in_ok-state.ensures) (sym c.in_ok-size.ensures) (sym c.in_ok-links_at.ensures)
    (sym c.in_err-facts_at.ensures))

pub facts-requires : goal.facts-requires
facts-requires c = let (l, h) = in_range (buffer_in c.args.self.now) 0 13 _ _ _ (sym c.in_ok-size.ensures) in omega arith

pub returns : goal.returns
returns c =
    let s = buffer_in c.args.self.now in
    c.facts.ensures
    ∙ facts_last (version_of c.args.self.now.bytes.now) s c.args.variables c.args.states c.args.first (sym c.in_ok-state.ensures) (sym c.in_ok-size.ensures) (sym c.in_ok-links_at.ensures)
    (sym c.in_ok-facts_at.ensures)
