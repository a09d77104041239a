use Rattle.std.proofs.Common.{◌≡◌, ℕ, List, IfSome, sym, subst, ◌∙◌}
use Rattle.std.proofs.lemmas.Option.{IfSome_then}
use Rattle.scalar_core.specs.Expressions.{read}
use Rattle.relation_core.specs.Operators.{subtracted}
use Rattle.meaning_core.specs.Typing.{IsList}
use Rattle.change_rows.specs.Affected.{AreFalse, IsClosedPart}
use Rattle.meaning_core.proofs.IntervalLemmas.{intervals_of_list}
use Rattle.assign_core.proofs.DeletionLemmas.{affected_told}
use Rattle.assign_core.proofs.PortionLemmas.{negated_typed}
use Rattle.assign_core.proofs.renewal.revised_part.Goals as goal

pub affected_by_both-requires-clause-intervals : goal.affected_by_both-requires-clause-intervals
affected_by_both-requires-clause-intervals c =
    let k = c.requires.revision in
    let h = c.args.value.now.heading in
    let same = k.alike.kept ∙ sym (c.as_slice-list.ensures.value ∙ c.commalist.view_is) in
    intervals_of_list h c.as_slice-list.result.now (subst (λ (l : List ℕ). IsList h l) same k.kept.list)

pub affected_by_both-requires-clause-first : goal.affected_by_both-requires-clause-first
affected_by_both-requires-clause-first c =
    let k = c.requires.revision in
    negated_typed c.args.value.now.heading (read c.args.revision.kept.condition.now) (read c.args.revision.gone.now) k.negates k.kept.condition.typed

pub affected_by_both-requires-clause-second : goal.affected_by_both-requires-clause-second
affected_by_both-requires-clause-second c = c.requires.revision.changed.portion.condition.typed

pub returns-in-Some-clause-gone : goal.returns-in-Some-clause-gone
returns-in-Some-clause-gone c =
    let k = c.requires.revision in
    let r = c.args.revision in
    let value = c.args.value.now in
    let list = c.as_slice-list.result.now in
    let same : list ≡ r.commalist.now = c.as_slice-list.ensures.value ∙ c.commalist.view_is in
    let are = c.is_packed_at.ensures r.assignment.now.target value k.constraints k.first k.relation c.if-not-is_packed_at.false in
    let closed = subst (λ o. IfSome o (IsClosedPart list value)) c.in-Some.is c.in_ok-part.ensures.part in
    let others = subst (λ o. IfSome o (λ p. AreFalse list (read r.gone.now) (subtracted value.rows p.rows) × AreFalse list (read r.changed.portion.condition.now) (subtracted value.rows p.rows))) c.in-Some.is c.in_ok-part.ensures.others in
    IfSome_then c.if_few.result c.if_few.ensures (λ some is.
    affected_told r.commalist.now list (read r.gone.now) value c.in-Some.part some same are closed others.0 is)

pub returns-in-Some-clause-changed : goal.returns-in-Some-clause-changed
returns-in-Some-clause-changed c =
    let k = c.requires.revision in
    let r = c.args.revision in
    let value = c.args.value.now in
    let list = c.as_slice-list.result.now in
    let same : list ≡ r.commalist.now = c.as_slice-list.ensures.value ∙ c.commalist.view_is in
    let are = c.is_packed_at.ensures r.assignment.now.target value k.constraints k.first k.relation c.if-not-is_packed_at.false in
    let closed = subst (λ o. IfSome o (IsClosedPart list value)) c.in-Some.is c.in_ok-part.ensures.part in
    let others = subst (λ o. IfSome o (λ p. AreFalse list (read r.gone.now) (subtracted value.rows p.rows) × AreFalse list (read r.changed.portion.condition.now) (subtracted value.rows p.rows))) c.in-Some.is c.in_ok-part.ensures.others in
    IfSome_then c.if_few.result c.if_few.ensures (λ some is.
    affected_told r.commalist.now list (read r.changed.portion.condition.now) value c.in-Some.part some same are closed others.1 is)
