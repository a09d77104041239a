use Rattle.std.proofs.Common.{arith}
use Rattle.std.proofs.lemmas.Result.{err_from_is_err_and}
use Rattle.assign_core.proofs.RenewalLemmas.{changed_part, no_left, no_added, added_told, added_taken, first_paid, all_paid}
use Rattle.assign_core.proofs.renewal.revised.Goals as goal

pub returns-in_err-left-clause-refused : goal.returns-in_err-left-clause-refused
returns-in_err-left-clause-refused g c =
    let p = err_from_is_err_and c.from_residual.result c.from_residual.ensures.1 in
    rw (p.1, p.2) (no_left c.args.renewal c.requires c.in_err-left.field-0.0 c.in_err-left.ensures.refused)

pub returns-in_err-left-clause-cost : goal.returns-in_err-left-clause-cost
returns-in_err-left-clause-cost g c =
    let first = c.left_rows.ensures.cost in
    let steps = c.requires.revision.steps in
    omega (arith, first, steps)

pub added_rows-requires : goal.added_rows-requires
added_rows-requires g c = changed_part c.args.renewal c.requires

pub returns-in_err-added-clause-refused : goal.returns-in_err-added-clause-refused
returns-in_err-added-clause-refused g c =
    let p = err_from_is_err_and c.from_residual-in_err-added.result c.from_residual-in_err-added.ensures.1 in
    rw (p.1, p.2) (no_added c.args.renewal c.requires c.in_ok-left.left c.in_ok-left.ensures.left c.in_err-added.field-0.0 c.in_err-added.ensures.value)

pub returns-in_err-added-clause-cost : goal.returns-in_err-added-clause-cost
returns-in_err-added-clause-cost g c =
    let first = c.left_rows.ensures.cost in
    let second = added_taken c.args.renewal c.requires c.left_rows.new.steps c.added_rows.new.steps c.added_rows.ensures.cost in
    let all = first_paid c.args.renewal c.requires c.in_ok-left.left c.in_ok-left.ensures.left in
    omega (arith, first, second, all)

pub exchange_with-requires-clause-added : goal.exchange_with-requires-clause-added
exchange_with-requires-clause-added g c = added_told c.args.renewal c.requires c.in_ok-added.added c.in_ok-added.ensures.value

pub returns-clause-cost : goal.returns-clause-cost
returns-clause-cost g c =
    let first = c.left_rows.ensures.cost in
    let second = added_taken c.args.renewal c.requires c.left_rows.new.steps c.added_rows.new.steps c.added_rows.ensures.cost in
    let third = c.exchange_with.ensures.cost in
    let all = all_paid c.args.renewal c.requires c.in_ok-left.left c.in_ok-left.ensures.left c.in_ok-added.added (added_told c.args.renewal c.requires c.in_ok-added.added c.in_ok-added.ensures.value) in
    omega (arith, first, second, third, all)
