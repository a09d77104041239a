use Rattle.std.specs.Prelude.{eqb}
use Rattle.std.proofs.Common.{rules, subst}
use Rattle.std.specs.Ordering.{nat_cmp}
use Rattle.std.specs.List.Sorted.{IsStrictlySortedBy}
use Rattle.std.proofs.lemmas.Fn.{filter_same}
use Rattle.std.proofs.lemmas.List.Filters.{dedup_is}
use Rattle.cell_packing.specs.Live.{side_has}
use Rattle.cell_sweep.specs.Rows.{sides_of}
use Rattle.cell_sweep.proofs.Sweeping.{settled, settled_rising}
use Rattle.cell_sweep.proofs.live.in_order_at.Goals as goal

pub returns : goal.returns
returns c =
    let b = sides_of c.args.boxes.now in
    let kept = filter_same _ (side_has b c.args.side c.args.cell) _ (λ x a f' k. search rules) _ _ c.retain.ensures.filtered in
    settled (side_has b c.args.side c.args.cell) c.args.rows.items c.retain.new.self.items c.sort.new.self.items c.dedup.new.self.items
    kept c.in_ok-sort.ensures.permutation c.in_ok-sort.ensures.sorted (dedup_is eqb c.sort.new.self.items c.dedup.new.self.items c.dedup.ensures.filtered)

pub returns-then-rise : goal.returns-then-rise
returns-then-rise c =
    let b = sides_of c.args.boxes.now in
    let kept = filter_same _ (side_has b c.args.side c.args.cell) _ (λ x a f' k. search rules) _ _ c.retain.ensures.filtered in
    settled_rising (side_has b c.args.side c.args.cell) c.args.rows.items c.retain.new.self.items kept (subst (IsStrictlySortedBy nat_cmp) c.as_slice.ensures.value (c.rise.ensures c.if-rise.true))
