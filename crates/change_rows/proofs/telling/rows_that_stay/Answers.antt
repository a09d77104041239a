use Rattle.std.proofs.Common.{◌<◌, length, arith, sym, subst}
use Rattle.value_core.specs.Values.{Row}
use Rattle.scalar_core.specs.Expressions.{read}
use Rattle.meaning_core.specs.Scalars.{IsConditionOver}
use Rattle.change_rows.proofs.PartLemmas.{stays_more}
use Rattle.change_rows.proofs.telling.rows_that_stay.Goals as goal

pub keep_staying-requires : goal.keep_staying-requires
keep_staying-requires c =
    let lt : c.loop-row.row-index < length c.args.rows.now = omega arith in
    subst (λ (x : Row). IsConditionOver x (read c.args.g.now)) (sym c.row-item.is) (c.requires c.loop-row.row-index c.row-item.result lt)

pub loop-row-preserved : goal.loop-row-preserved
loop-row-preserved c =
    let lt : c.loop-row.row-index < length c.args.rows.now = omega arith in
    stays_more (read c.args.g.now) c.args.rows.now c.loop-row.row-index c.row-item.result _ _ lt c.row-item.is c.loop-row.invariant c.in_ok-keep_staying.ensures
