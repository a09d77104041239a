use Rattle.std.specs.Prelude.{slice_index}
use Rattle.tree_core.specs.Trees.{read_set}
use Rattle.row_making.proofs.ItemLemmas.{typed_at}
use Rattle.eval_using.proofs.ItemCutLemmas.{item_in, more_cut, all_cut}
use Rattle.eval_using.proofs.items.all_cuts.Goals as goal

pub cuts-requires-clause-typed : goal.cuts-requires-clause-typed
cuts-requires-clause-typed c = typed_at c.args.row.now c.args.sets.now c.loop-set.set-index c.set-item.result c.requires.typed c.loop-set-test.true c.set-item.is

pub cuts-requires-clause-sweepable : goal.cuts-requires-clause-sweepable
cuts-requires-clause-sweepable c = c.requires.sweepable (read_set c.set-item.result) (item_in c.args.sets.now c.loop-set.set-index c.set-item.result c.loop-set-test.true c.set-item.is)

pub loop-set-preserved : goal.loop-set-preserved
loop-set-preserved c =
    more_cut c.args.commalist.now (slice_index c.args.commalist.now c.args.side) c.args.row.now c.args.sets.now c.loop-set.set-index c.set-item.result c.loop-set.all.items c.in_ok-own.own.items
    c.append.new.self.items c.loop-set-test.true c.set-item.is c.in_ok-own.ensures.cuts c.in_ok-own.ensures.points c.in_ok-append.ensures.items c.loop-set.invariant

pub returns-clause-cuts : goal.returns-clause-cuts
returns-clause-cuts c =
    all_cut c.args.commalist.now (slice_index c.args.commalist.now c.args.side) c.args.row.now c.args.sets.now c.loop-set.set-index c.loop-set.all.items c.loop-set.invariant c.loop-set-test.false
