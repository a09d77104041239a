use Rattle.std.proofs.Common.{rules}
use Rattle.relation_core.specs.Parts.{IsRenamed}
use Rattle.meaning_core.proofs.LimitLemmas.{renamed_answer}
use Rattle.algebra_core.proofs.operators.renamed.Goals as goal

pub returns : goal.returns
returns c = λ place heading to.
    let is : IsRenamed c.args.names.now c.args.r.now c.in_ok-relation.relation = search rules in
    renamed_answer c.args.names.now c.args.r.now c.in_ok-relation.relation place heading c.rows.ensures.relation.few is to
