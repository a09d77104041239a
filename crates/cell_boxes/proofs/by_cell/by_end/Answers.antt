use Rattle.std.proofs.Common.{◌≡◌, ℕ, arith, sym, subst}
use Rattle.cell_boxes.specs.Tallies.{span_at}
use Rattle.cell_boxes.proofs.CellLemmas.{ArePairs, pairs_none, pairs_more, by_from}
use Rattle.cell_boxes.proofs.by_cell.by_end.Goals as goal

pub loop-r-init : goal.loop-r-init
loop-r-init c =
    let number : ℕ → ℕ = λ r. (span_at c.args.spans.now r).1 in
    subst (ArePairs number c.args.rows.0 c.args.rows.0) (sym c.in_ok-out.ensures.items) (pairs_none number c.args.rows.0)

pub loop-r-preserved : goal.loop-r-preserved
loop-r-preserved c = pairs_more (λ r. (span_at c.args.spans.now r).1) c.args.rows.0 c.loop-r.r c.loop-r.out.items c.push.new.self.items (omega arith) c.in_ok-push.ensures.items c.loop-r.invariant

pub returns : goal.returns
returns c =
    let number : ℕ → ℕ = λ r. (span_at c.args.spans.now r).1 in
    let end : c.loop-r.r ≡ c.args.rows.1 = omega arith in
    by_from number c.args.rows c.loop-r.out.items c.sort.new.self.items (subst (λ n. ArePairs number c.args.rows.0 n c.loop-r.out.items) end c.loop-r.invariant) c.in_ok-sort.ensures.permutation c.in_ok-sort.ensures.sorted
