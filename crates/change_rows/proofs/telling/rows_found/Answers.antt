use Rattle.value_core.specs.Plain.{plain}
use Rattle.scalar_core.specs.Expressions.{read}
use Rattle.u_constraints.proofs.SearchLemmas.{in_order_too}
use Rattle.change_rows.proofs.RequirementLemmas.{found_stay, found_over}
use Rattle.change_rows.proofs.telling.rows_found.Goals as goal

pub with_prefix-found-requires : goal.with_prefix-found-requires
with_prefix-found-requires c = in_order_too c.args.value.now c.rows-given.result.now c.rows-given.ensures.rows c.rows-given.ensures.relation

pub rows_that_stay-requires : goal.rows_that_stay-requires
rows_that_stay-requires c =
    found_over c.args.value.now c.rows-given.ensures.relation (read c.args.g.now) c.requires.typed c.in_ok-values.values c.rows-given.result.now c.with_prefix-found.result.now c.rows-given.ensures.rows c.with_prefix-found.ensures

pub returns : goal.returns
returns c =
    found_stay c.args.value.now c.rows-given.ensures.relation (read c.args.g.now) c.requires.typed (plain c.args.first) c.requires.required c.in_ok-values.values c.rows-given.result.now c.with_prefix-found.result.now
    c.in_ok-kept.kept.items c.in_ok-values.ensures c.rows-given.ensures.rows c.with_prefix-found.ensures c.in_ok-kept.ensures
