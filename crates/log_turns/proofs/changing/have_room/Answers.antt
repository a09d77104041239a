use Rattle.std.proofs.Common.{◌≡◌, ◌≤◌, ◌+◌, List, length, ap, arith}
use Rattle.std.proofs.lemmas.Bool.Decides.{nat_tests}
use Rattle.value_core.specs.Values.{Row, most_rows}
use Rattle.log_turns.proofs.ChangingLemmas.{few_together}
use Rattle.log_turns.proofs.changing.have_room.Goals as goal

pub returns-clause-few : goal.returns-clause-few
returns-clause-few c told =
    let stored = c.args.stored.now.rows in
    let come = c.args.come.now.rows in
    let here : length c.rows.result.now ≡ length stored = ap (λ (r : List Row). length r) c.rows.ensures.rows in
    let there : length c.rows-2.result.now ≡ length come = ap (λ (r : List Row). length r) c.rows-2.ensures.rows in
    let both : length c.rows.result.now + length c.rows-2.result.now ≤ most_rows = grind (arith, nat_tests, told) in
    few_together stored come (omega (arith, here, there, both))
