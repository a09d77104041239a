use Rattle.plain_rows.proofs.ReadLemmas.{has-rows-of}
use Rattle.plain_rows.proofs.arranged.relation_of.Goals as goal

pub returns : goal.returns
returns c types parts h = has-rows-of _ _ _ _ _ c.in_ok-heading.ensures c.in_ok-relation.ensures.heading c.in_ok-relation.ensures.rows (c.in_ok-rows.ensures types parts h)
