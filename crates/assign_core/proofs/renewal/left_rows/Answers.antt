use Rattle.std.proofs.Common.{◌≡◌, ◌≤◌, ◌<◌, List, length, ap, arith}
use Rattle.std.proofs.lemmas.Result.{err_from_is_err_and}
use Rattle.value_core.specs.Values.{Row, most_rows}
use Rattle.relation_core.specs.Operators.{subtracted, united}
use Rattle.u_constraints.specs.Growth.{exchanged}
use Rattle.assign_core.proofs.DeletionLemmas.{part_for}
use Rattle.assign_core.proofs.RenewalLemmas.{part_within, left_headed, left_told, left_over, left_stop, left_paid}
use Rattle.assign_core.proofs.renewal.left_rows.Goals as goal

pub portion_rows-requires : goal.portion_rows-requires
portion_rows-requires g c =
    let r = c.args.renewal in
    let k = c.requires in
    part_for r.value.now.heading r.part.now.heading r.revision.kept k.gone.closed.heading k.revision.kept

pub returns-in_err-left-clause-refused : goal.returns-in_err-left-clause-refused
returns-in_err-left-clause-refused g c =
    let p = err_from_is_err_and c.from_residual.result c.from_residual.ensures.1 in
    rw (p.1, p.2) (left_stop c.args.renewal c.requires c.in_err-left.field-0.0 c.in_err-left.ensures.value)

pub returns-in_err-left-clause-cost : goal.returns-in_err-left-clause-cost
returns-in_err-left-clause-cost g c = left_paid c.args.renewal c.requires c.args.steps.now c.portion_rows.new.steps c.portion_rows.ensures.cost

pub replaced-requires-clause-heading : goal.replaced-requires-clause-heading
replaced-requires-clause-heading g c = (c.requires.gone.closed.heading, left_headed c.args.renewal c.requires c.in_ok-left.left c.in_ok-left.ensures.value)

pub replaced-requires-clause-within : goal.replaced-requires-clause-within
replaced-requires-clause-within g c = part_within c.args.renewal c.requires

pub returns-in_err-rows-clause-cost : goal.returns-in_err-rows-clause-cost
returns-in_err-rows-clause-cost g c = left_paid c.args.renewal c.requires c.args.steps.now c.portion_rows.new.steps c.portion_rows.ensures.cost

pub returns-clause-cost : goal.returns-clause-cost
returns-clause-cost g c = left_paid c.args.renewal c.requires c.args.steps.now c.portion_rows.new.steps c.portion_rows.ensures.cost

pub returns-then-all-gt-MOST_ROWS-clause-refused : goal.returns-then-all-gt-MOST_ROWS-clause-refused
returns-then-all-gt-MOST_ROWS-clause-refused g c =
    let r = c.args.renewal in
    let left = c.in_ok-left.left in
    let x = c.in_ok-rows.rows in
    let here : length c.rows.result.now ≡ length r.value.now.rows = ap (λ (rows : List Row). length rows) c.rows.ensures.rows in
    let come : length c.rows-2.result.now ≡ length x.come.rows = ap (λ (rows : List Row). length rows) c.rows-2.ensures.rows in
    let gone : length c.rows-3.result.now ≡ length x.gone.rows = ap (λ (rows : List Row). length rows) c.rows-3.ensures.rows in
    let counted = c.in_ok-rows.ensures.exchange.counted in
    let long : length (exchanged r.value.now.rows x.gone.rows x.come.rows) ≡ length (united (subtracted r.value.now.rows r.part.now.rows) left.rows) =
    ap (λ (rows : List Row). length rows) c.in_ok-rows.ensures.rows in
    let all = c.if-all-gt-MOST_ROWS.true in
    let over : most_rows < length (united (subtracted r.value.now.rows r.part.now.rows) left.rows) = omega (arith, here, come, gone, counted, long, all) in
    left_over r c.requires left c.in_ok-left.ensures.value over

pub returns-then-all-gt-MOST_ROWS-clause-cost : goal.returns-then-all-gt-MOST_ROWS-clause-cost
returns-then-all-gt-MOST_ROWS-clause-cost g c = left_paid c.args.renewal c.requires c.args.steps.now c.portion_rows.new.steps c.portion_rows.ensures.cost

pub returns-clause-left : goal.returns-clause-left
returns-clause-left g c =
    let r = c.args.renewal in
    let left = c.in_ok-left.left in
    let x = c.in_ok-rows.rows in
    let here : length c.rows.result.now ≡ length r.value.now.rows = ap (λ (rows : List Row). length rows) c.rows.ensures.rows in
    let come : length c.rows-2.result.now ≡ length x.come.rows = ap (λ (rows : List Row). length rows) c.rows-2.ensures.rows in
    let gone : length c.rows-3.result.now ≡ length x.gone.rows = ap (λ (rows : List Row). length rows) c.rows-3.ensures.rows in
    let counted = c.in_ok-rows.ensures.exchange.counted in
    let long : length (exchanged r.value.now.rows x.gone.rows x.come.rows) ≡ length (united (subtracted r.value.now.rows r.part.now.rows) left.rows) =
    ap (λ (rows : List Row). length rows) c.in_ok-rows.ensures.rows in
    let all = c.if-all-gt-MOST_ROWS.false in
    let few : length (united (subtracted r.value.now.rows r.part.now.rows) left.rows) ≤ most_rows = omega (arith, here, come, gone, counted, long, all) in
    left_told r c.requires left c.in_ok-left.ensures.value few
