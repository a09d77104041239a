use Rattle.eval_using.proofs.ItemCutLemmas.{points_from_sort}
use Rattle.eval_using.proofs.items.in_order.Goals as goal

pub returns : goal.returns
returns c = points_from_sort c.args.points.items c.sort.new.self.items c.dedup.new.self.items c.sort.ensures.permutation c.in_ok-sort.ensures.sorted c.dedup.ensures.filtered
