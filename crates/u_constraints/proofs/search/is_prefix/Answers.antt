use Rattle.u_constraints.specs.Prefixes.{begins_with}
use Rattle.u_constraints.proofs.SearchLemmas.{any_found}
use Rattle.u_constraints.proofs.search.is_prefix.Goals as goal

pub returns : goal.returns
returns c = any_found (begins_with c.args.values.now) c.args.rows.now c.with_prefix.result.now c.is_empty.result c.with_prefix.ensures c.is_empty.ensures
