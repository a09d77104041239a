use Rattle.std.proofs.Common.{◌≡◌, ◌≤◌, ◌+◌, List, length, ap, arith}
use Rattle.std.proofs.lemmas.Bool.Decides.{nat_tests}
use Rattle.value_core.specs.Values.{Row, most_rows}
use Rattle.assign_core.proofs.TurnoverLemmas.{few_together}
use Rattle.assign_core.proofs.turnover.have_room.Goals as goal

pub returns : goal.returns
returns c told =
    let value = c.args.value.now.rows in
    let come = c.args.rows.now.come.rows in
    let here : length c.rows.result.now ≡ length value = ap (λ (r : List Row). length r) c.rows.ensures.rows in
    let there : length c.rows-2.result.now ≡ length come = ap (λ (r : List Row). length r) c.rows-2.ensures.rows in
    let both : length c.rows.result.now + length c.rows-2.result.now ≤ most_rows = grind (arith, nat_tests, told) in
    few_together value come most_rows (omega (arith, here, there, both))
