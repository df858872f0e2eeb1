-- Each arm of the match does what the row of its kind names, and its callee gets operands that the row allows.
use mathlib.Core.Path.{refl, ap}
use Rattle.kinds.specs.Kinds.{number_of}
use Rattle.stepper.proofs.InPlace.{kept, done}
use Rattle.stepper.proofs.Heap64.perform.Goals as goal

pub compare-requires-clause-a_in : goal.compare-requires-clause-a_in
compare-requires-clause-a_in c = (kept c.args.self.now c.args.kind c.args.a c.args.b c.requires.is_allowed 1 _ refl (ap number_of c.in-Equal.is)).most_a

pub compare-requires-clause-b_in : goal.compare-requires-clause-b_in
compare-requires-clause-b_in c = (kept c.args.self.now c.args.kind c.args.a c.args.b c.requires.is_allowed 1 _ refl (ap number_of c.in-Equal.is)).most_b

pub compare-requires-in-Different-clause-a_in : goal.compare-requires-in-Different-clause-a_in
compare-requires-in-Different-clause-a_in c = (kept c.args.self.now c.args.kind c.args.a c.args.b c.requires.is_allowed 2 _ refl (ap number_of c.in-Different.is)).most_a

pub compare-requires-in-Different-clause-b_in : goal.compare-requires-in-Different-clause-b_in
compare-requires-in-Different-clause-b_in c = (kept c.args.self.now c.args.kind c.args.a c.args.b c.requires.is_allowed 2 _ refl (ap number_of c.in-Different.is)).most_b

pub assign-requires-clause-a_in : goal.assign-requires-clause-a_in
assign-requires-clause-a_in c = let k = kept c.args.self.now c.args.kind c.args.a c.args.b c.requires.is_allowed 3 _ refl (ap number_of c.in-Assign.is) in (k.least_a, k.most_a)

pub assign-requires-clause-b_in : goal.assign-requires-clause-b_in
assign-requires-clause-b_in c = (kept c.args.self.now c.args.kind c.args.a c.args.b c.requires.is_allowed 3 _ refl (ap number_of c.in-Assign.is)).most_b

pub load-requires-clause-a_in : goal.load-requires-clause-a_in
load-requires-clause-a_in c = let k = kept c.args.self.now c.args.kind c.args.a c.args.b c.requires.is_allowed 4 _ refl (ap number_of c.in-Load.is) in (k.least_a, k.most_a)

pub load-requires-clause-b_in : goal.load-requires-clause-b_in
load-requires-clause-b_in c = (kept c.args.self.now c.args.kind c.args.a c.args.b c.requires.is_allowed 4 _ refl (ap number_of c.in-Load.is)).most_b

pub store-requires-clause-a_in : goal.store-requires-clause-a_in
store-requires-clause-a_in c = (kept c.args.self.now c.args.kind c.args.a c.args.b c.requires.is_allowed 5 _ refl (ap number_of c.in-Store.is)).most_a

pub store-requires-clause-b_in : goal.store-requires-clause-b_in
store-requires-clause-b_in c = (kept c.args.self.now c.args.kind c.args.a c.args.b c.requires.is_allowed 5 _ refl (ap number_of c.in-Store.is)).most_b

pub take_cell-requires-clause-a_in : goal.take_cell-requires-clause-a_in
take_cell-requires-clause-a_in c = let k = kept c.args.self.now c.args.kind c.args.a c.args.b c.requires.is_allowed 6 _ refl (ap number_of c.in-New.is) in (k.least_a, k.most_a)

pub free_cell-requires-clause-a_in : goal.free_cell-requires-clause-a_in
free_cell-requires-clause-a_in c = (kept c.args.self.now c.args.kind c.args.a c.args.b c.requires.is_allowed 7 _ refl (ap number_of c.in-Delete.is)).most_a

pub compare_values-requires-clause-a_in : goal.compare_values-requires-clause-a_in
compare_values-requires-clause-a_in c = (kept c.args.self.now c.args.kind c.args.a c.args.b c.requires.is_allowed 8 _ refl (ap number_of c.in-EqualValue.is)).most_a

pub compare_values-requires-clause-b_in : goal.compare_values-requires-clause-b_in
compare_values-requires-clause-b_in c = (kept c.args.self.now c.args.kind c.args.a c.args.b c.requires.is_allowed 8 _ refl (ap number_of c.in-EqualValue.is)).most_b

pub compare_values-requires-in-BelowValue-clause-a_in : goal.compare_values-requires-in-BelowValue-clause-a_in
compare_values-requires-in-BelowValue-clause-a_in c = (kept c.args.self.now c.args.kind c.args.a c.args.b c.requires.is_allowed 9 _ refl (ap number_of c.in-BelowValue.is)).most_a

pub compare_values-requires-in-BelowValue-clause-b_in : goal.compare_values-requires-in-BelowValue-clause-b_in
compare_values-requires-in-BelowValue-clause-b_in c = (kept c.args.self.now c.args.kind c.args.a c.args.b c.requires.is_allowed 9 _ refl (ap number_of c.in-BelowValue.is)).most_b

pub copy_value-requires-clause-a_in : goal.copy_value-requires-clause-a_in
copy_value-requires-clause-a_in c = (kept c.args.self.now c.args.kind c.args.a c.args.b c.requires.is_allowed 10 _ refl (ap number_of c.in-Copy.is)).most_a

pub copy_value-requires-clause-b_in : goal.copy_value-requires-clause-b_in
copy_value-requires-clause-b_in c = (kept c.args.self.now c.args.kind c.args.a c.args.b c.requires.is_allowed 10 _ refl (ap number_of c.in-Copy.is)).most_b

pub read_other-requires-clause-a_in : goal.read_other-requires-clause-a_in
read_other-requires-clause-a_in c = (kept c.args.self.now c.args.kind c.args.a c.args.b c.requires.is_allowed 11 _ refl (ap number_of c.in-Larger.is)).most_a

pub read_other-requires-clause-b_in : goal.read_other-requires-clause-b_in
read_other-requires-clause-b_in c = (kept c.args.self.now c.args.kind c.args.a c.args.b c.requires.is_allowed 11 _ refl (ap number_of c.in-Larger.is)).most_b

pub read_other-requires-in-Smaller-clause-a_in : goal.read_other-requires-in-Smaller-clause-a_in
read_other-requires-in-Smaller-clause-a_in c = (kept c.args.self.now c.args.kind c.args.a c.args.b c.requires.is_allowed 12 _ refl (ap number_of c.in-Smaller.is)).most_a

pub read_other-requires-in-Smaller-clause-b_in : goal.read_other-requires-in-Smaller-clause-b_in
read_other-requires-in-Smaller-clause-b_in c = (kept c.args.self.now c.args.kind c.args.a c.args.b c.requires.is_allowed 12 _ refl (ap number_of c.in-Smaller.is)).most_b

pub read_value-requires-clause-a_in : goal.read_value-requires-clause-a_in
read_value-requires-clause-a_in c = (kept c.args.self.now c.args.kind c.args.a c.args.b c.requires.is_allowed 13 _ refl (ap number_of c.in-Read.is)).most_a

pub returns-in-Equal : goal.returns-in-Equal
returns-in-Equal c = done c.args.self.now c.args.kind c.args.a c.args.b c.requires.is_allowed 1 _ refl (ap number_of c.in-Equal.is) c.args.value _ (c.compare.ensures c.args.value)

pub returns-in-Different : goal.returns-in-Different
returns-in-Different c = done c.args.self.now c.args.kind c.args.a c.args.b c.requires.is_allowed 2 _ refl (ap number_of c.in-Different.is) c.args.value _ (c.compare-in-Different.ensures c.args.value)

pub returns-in-Assign : goal.returns-in-Assign
returns-in-Assign c = done c.args.self.now c.args.kind c.args.a c.args.b c.requires.is_allowed 3 _ refl (ap number_of c.in-Assign.is) c.args.value _ (c.assign.ensures c.args.value)

pub returns-in-Load : goal.returns-in-Load
returns-in-Load c = done c.args.self.now c.args.kind c.args.a c.args.b c.requires.is_allowed 4 _ refl (ap number_of c.in-Load.is) c.args.value _ (c.load.ensures c.args.value)

pub returns-in-Store : goal.returns-in-Store
returns-in-Store c = done c.args.self.now c.args.kind c.args.a c.args.b c.requires.is_allowed 5 _ refl (ap number_of c.in-Store.is) c.args.value _ (c.store.ensures c.args.value)

pub returns-in-New : goal.returns-in-New
returns-in-New c = done c.args.self.now c.args.kind c.args.a c.args.b c.requires.is_allowed 6 _ refl (ap number_of c.in-New.is) c.args.value _ (c.take_cell.ensures c.args.value)

pub returns-in-Delete : goal.returns-in-Delete
returns-in-Delete c = done c.args.self.now c.args.kind c.args.a c.args.b c.requires.is_allowed 7 _ refl (ap number_of c.in-Delete.is) c.args.value _ (c.free_cell.ensures c.args.value)

pub returns-in-EqualValue : goal.returns-in-EqualValue
returns-in-EqualValue c = done c.args.self.now c.args.kind c.args.a c.args.b c.requires.is_allowed 8 _ refl (ap number_of c.in-EqualValue.is) c.args.value _ (c.compare_values.ensures c.args.value)

pub returns-in-BelowValue : goal.returns-in-BelowValue
returns-in-BelowValue c = done c.args.self.now c.args.kind c.args.a c.args.b c.requires.is_allowed 9 _ refl (ap number_of c.in-BelowValue.is) c.args.value _ (c.compare_values-in-BelowValue.ensures c.args.value)

pub returns-in-Copy : goal.returns-in-Copy
returns-in-Copy c = done c.args.self.now c.args.kind c.args.a c.args.b c.requires.is_allowed 10 _ refl (ap number_of c.in-Copy.is) c.args.value _ (c.copy_value.ensures c.args.value)

pub returns-in-Larger : goal.returns-in-Larger
returns-in-Larger c = done c.args.self.now c.args.kind c.args.a c.args.b c.requires.is_allowed 11 _ refl (ap number_of c.in-Larger.is) c.args.value _ c.read_other.ensures

pub returns-in-Smaller : goal.returns-in-Smaller
returns-in-Smaller c = done c.args.self.now c.args.kind c.args.a c.args.b c.requires.is_allowed 12 _ refl (ap number_of c.in-Smaller.is) c.args.value _ c.read_other-in-Smaller.ensures

pub returns-in-Read : goal.returns-in-Read
returns-in-Read c = done c.args.self.now c.args.kind c.args.a c.args.b c.requires.is_allowed 13 _ refl (ap number_of c.in-Read.is) c.args.value _ c.read_value.ensures
