use Rattle.std.proofs.Common.{List, sym, ap, ap₂, subst, ◌∙◌}
use Rattle.value_core.specs.Values.{Heading, Row, Relation, IsRelation}
use Rattle.relation_core.specs.Operators.{subtracted}
use Rattle.row_removal.proofs.RemovalLemmas.{fewer_relation}
use Rattle.row_removal.proofs.removal.remove.Goals as goal

pub set_rows-requires : goal.set_rows-requires
set_rows-requires c =
    let gone = c.args.gone.now.rows in
    let headed = ap (λ (r : Relation). r.heading) c.take_rows-rows.ensures.left in
    let left = c.take_out.ensures ∙ ap₂ (λ (rs gs : List Row). subtracted rs gs) c.take_rows-rows.ensures.rows c.rows.ensures.rows in
    subst IsRelation (sym (ap₂ (λ (h : Heading) (rs : List Row). record { heading = h; rows = rs }) headed left)) (fewer_relation c.args.value.now gone c.take_rows-rows.ensures.relation)
