use Rattle.cell_boxes.proofs.OperatorLemmas.{paired, keys_ascend, keys_sides}
use Rattle.cell_boxes.proofs.keyed.keys_sorted.Goals as goal

pub returns-clause-paired : goal.returns-clause-paired
returns-clause-paired g c = paired g.K.Label.order g.met.K.Label.total c.args.rows.items c.sort.new.self.items c.in_ok-sort.ensures.permutation c.in_ok-keys.keys.items c.in_ok-keys.labels.items c.in_ok-keys.ensures.keys c.in_ok-keys.ensures.labels

pub returns-clause-order : goal.returns-clause-order
returns-clause-order g c = keys_ascend g.K.Label.order g.met.K.Label.total c.args.rows.items c.sort.new.self.items c.in_ok-sort.ensures.permutation c.in_ok-keys.keys.items c.in_ok-keys.labels.items c.in_ok-keys.ensures.keys c.in_ok-keys.ensures.labels c.in_ok-sort.ensures.sorted

pub returns-clause-sides : goal.returns-clause-sides
returns-clause-sides g c = keys_sides g.K.Label.order g.met.K.Label.total c.args.rows.items c.sort.new.self.items c.in_ok-sort.ensures.permutation c.in_ok-keys.keys.items c.in_ok-keys.labels.items c.in_ok-keys.ensures.keys c.in_ok-keys.ensures.labels
