use Rattle.std.proofs.Common.{ℕ, arith, sym}
use Rattle.cell_boxes.specs.Rows.{IsRow}
use Rattle.cell_boxes.proofs.SideLemmas.{side_turn}
use Rattle.cell_boxes.proofs.by_side.rows_on_side.Goals as goal

pub loop-i-preserved : goal.loop-i-preserved
loop-i-preserved g c =
    let rows = c.args.rows.now in
    let i : ℕ = c.loop-i.i in
    let x = c.index-rows-i.result in
    let at : IsRow rows i x = (omega arith, sym c.index-rows-i.is) in
    let made = c.in_ok-row.ensures in
    side_turn c.args.side rows i x at c.in_ok-row.row made.key made.number made.sides c.loop-i.out.items c.push.new.self.items c.in_ok-push.ensures.items c.loop-i.invariant

pub returns : goal.returns
returns g c = λ z.
    let v = c.loop-i.invariant z in (
      λ h. (v.0 h).1,
      λ h. let l = h.1.0 in v.1 (omega arith, h),
    )
