use Rattle.std.proofs.Common.{◌≡◌, length, subst, true, rules}
use Rattle.std.specs.Prelude.{IfOk}
use Rattle.u_row.proofs.BeneathLemmas.{in_all}
use Rattle.value_core.specs.Values.{Row}
use Rattle.u_constraints.specs.Prefixes.{counts_from}
use Rattle.u_constraints.proofs.SearchLemmas.{front_keys}
use Rattle.u_constraints.proofs.near.rows_with_keys.Goals as goal

pub returns-then-are_first-clause-rows : goal.returns-then-are_first-clause-rows
returns-then-are_first-clause-rows c =
    let keys = c.args.keys.now in
    let positions = c.args.positions.now in
    let first : counts_from 0 positions ≡ true = search rules in
    let same = front_keys positions c.args.many.now keys c.rows.ensures.relation first c.requires.within (in_all (λ (k : Row). length k ≡ length positions) keys c.requires.long) in
    subst (λ rows. IfOk c.rows_in_front.result (λ r. (r.heading ≡ c.args.many.now.heading) × (r.rows ≡ rows))) same c.rows_in_front.ensures
