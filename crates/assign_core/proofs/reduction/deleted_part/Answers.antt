use Rattle.std.proofs.Common.{◌≡◌, ℕ, List, IfSome, sym, subst, ◌∙◌}
use Rattle.std.proofs.lemmas.Option.{IfSome_then}
use Rattle.scalar_core.specs.Expressions.{read}
use Rattle.relation_core.specs.Operators.{subtracted}
use Rattle.meaning_core.specs.Typing.{IsList}
use Rattle.change_rows.specs.Affected.{AreFalse, IsClosedPart}
use Rattle.meaning_core.proofs.IntervalLemmas.{intervals_of_list}
use Rattle.assign_core.proofs.DeletionLemmas.{affected_told}
use Rattle.assign_core.proofs.PortionLemmas.{negated_typed}
use Rattle.assign_core.proofs.reduction.deleted_part.Goals as goal

pub affected-requires-clause-intervals : goal.affected-requires-clause-intervals
affected-requires-clause-intervals c =
    let k = c.requires.deletion in
    let h = c.args.value.now.heading in
    intervals_of_list h c.as_slice-list.result.now (subst (λ (l : List ℕ). IsList h l) (sym (c.as_slice-list.ensures.value ∙ c.commalist.view_is)) k.kept.list)

pub affected-requires-clause-typed : goal.affected-requires-clause-typed
affected-requires-clause-typed c =
    let k = c.requires.deletion in
    negated_typed c.args.value.now.heading (read c.args.deletion.kept.condition.now) (read c.args.deletion.gone.now) k.negates k.kept.condition.typed

pub returns-in-Some : goal.returns-in-Some
returns-in-Some c =
    let k = c.requires.deletion in
    let d = c.args.deletion in
    let value = c.args.value.now in
    let list = c.as_slice-list.result.now in
    let same : list ≡ d.kept.commalist.now = c.as_slice-list.ensures.value ∙ c.commalist.view_is in
    let are = c.is_packed_at.ensures d.assignment.now.target value k.constraints k.first k.relation c.if-not-is_packed_at.false in
    let closed = subst (λ o. IfSome o (IsClosedPart list value)) c.in-Some.is c.in_ok-part.ensures.part in
    let others = subst (λ o. IfSome o (λ p. AreFalse list (read d.gone.now) (subtracted value.rows p.rows))) c.in-Some.is c.in_ok-part.ensures.others in
    IfSome_then c.if_few.result c.if_few.ensures (λ some is.
    affected_told d.kept.commalist.now list (read d.gone.now) value c.in-Some.part some same are closed others is)
