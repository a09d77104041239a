use Rattle.std.proofs.Common.{◌<◌}
use Rattle.std.proofs.lemmas.List.Sorted.{All-permutation}
use Rattle.cell_packing.specs.declared.Piece.{Piece}
use Rattle.cell_packing.proofs.Order.{order_from_sorted, covers_permuted}
use Rattle.cell_packing.proofs.join.Goals as goal

pub merge-requires-clause-order : goal.merge-requires-clause-order
merge-requires-clause-order g c = order_from_sorted g.K.Ord.cmp g.met.K.Ord.total c.sort.new.self.items c.in_ok-sort.ensures.sorted

pub merge-requires-clause-some : goal.merge-requires-clause-some
merge-requires-clause-some g c = All-permutation (λ (x : Piece _). x.begin < x.end) c.args.pieces.items c.sort.new.self.items c.in_ok-sort.ensures.permutation c.requires

pub returns-clause-covers : goal.returns-clause-covers
returns-clause-covers g c = λ k i.
    let a = c.in_ok-out.ensures.covers k i in
    let b = covers_permuted g.K.Ord.cmp g.met.K.Ord.total c.args.pieces.items c.sort.new.self.items c.in_ok-sort.ensures.permutation k i in
    (λ h. b.0 (a.0 h), λ h. a.1 (b.1 h))
