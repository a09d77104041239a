use Rattle.std.proofs.lemmas.List.{map-set}
use Rattle.value_core.specs.Plain.{plain}
use Rattle.u_join.proofs.row_pairs.put.Goals as goal

pub returns : goal.returns
returns c = map-set plain c.args.values.now.items c.args.at c.args.value
