use Rattle.std.specs.Prelude.{slice_index}
use Rattle.eval_using.proofs.ItemCutLemmas.{AreCutsOf}
use Rattle.eval_using.proofs.items.all_cuts.Given as goal

abbrev pub invariant-loop-set : goal.invariant-loop-set
invariant-loop-set l = AreCutsOf l.commalist (slice_index l.commalist l.side) l.row l.sets l.set-index l.all.items
