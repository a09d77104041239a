use Rattle.std.proofs.Common.{◌≡◌, ◌≤◌, ◌+◌, ℕ, List, ◌∷◌, [], length, map, refl, sym, ap, ◌∙◌, subst, arith, rules, IsTrue, Some, None, Ok}
use Rattle.std.specs.List.{All}
use Rattle.std.specs.Str.{bytes_eq}
use Rattle.base_core.specs.Outcomes.{then_give}
use Rattle.value_core.specs.RowPacking.{packed as packed_rows, unpacked as unpacked_rows}
use Rattle.value_core.specs.Values.{Heading, Relation, Name}
use Rattle.scalar_core.specs.Expressions.{read}
use Rattle.relation_core.specs.Answers.{Answers, under}
use Rattle.relation_core.specs.Groups.{rows_at, summarized}
use Rattle.relation_core.specs.Operators.{restricted, extended}
use Rattle.relation_core.specs.Parts.{projected}
use Rattle.scalar_core.specs.declared.tree.Scalar.{Scalar}
use Rattle.cell_core.specs.Costs.{bound}
use Rattle.tree_core.specs.Relvars.{read_kind, read_relvar, relvar_heading}
use Rattle.tree_core.specs.Trees.{read_tree, read_form, read_sets, read_aggregate, heading_of}
use Rattle.tree_core.specs.declared.relvar.Relvar.{Relvar}
use Rattle.tree_core.specs.declared.tree.RelForm.{RelForm}
use Rattle.point_core.specs.Faults.{OrFault}
use Rattle.meaning_core.specs.Meanings.{meaning, plainly, limited, condition, infix_rows, renamed_rows, names_at, opened, closed}
use Rattle.meaning_core.specs.Rows.{extended_row, group_row}
use Rattle.meaning_core.specs.Names.{IsFirstAt}
use Rattle.meaning_core.specs.Typing.{is_part, IsTuple, IsInfix, IsProjection, IsRenaming, IsRestriction, IsExtension, IsSummary, IsList}
use Rattle.meaning_core.specs.WellMade.{sizes_of}
use Rattle.eval_using.specs.Cells.{scalars_of}
use Rattle.eval_using.specs.Using.{around}
use Rattle.algebra_core.specs.Costs.{known_of, operator_cost, rule_cost, tree_cost, paid}
use Rattle.algebra_core.specs.Operands.{held}
use Rattle.algebra_core.specs.Scopes.{CanEvaluate, CanLookUp, known_at, prices_at, state_of, all_of, work, entry_work, entry_meaning, entry_cost, stored_rows}
use Rattle.algebra_core.specs.Surroundings.{around_of, KeepsList, IsSwept, AreSwept, AreSummed}
use Rattle.algebra_core.specs.declared.scope.Scope.{Scope}
use Rattle.meaning_core.proofs.LookupLemmas.{found_at, none_passes, heading_read}
use Rattle.algebra_core.proofs.CostLemmas.{price_first}
use Rattle.algebra_core.proofs.EvalLemmas.{stands_before, can_look_up, work_falls, named_meant, view_can, base_meant, none_named}
use Rattle.algebra_core.proofs.NodeLemmas.{failed_cost, headed_at, value_at, cost_at}
use Rattle.algebra_core.proofs.StoredLemmas.{stored_meant, evaluated_cost}
use Rattle.algebra_core.proofs.SurroundingLemmas.{infix_part, project_part, restrict_part, extend_part, summarize_part}
use Rattle.algebra_core.proofs.evaluation.+answer.Goals as goal

pub answer-literal-requires : goal.answer-literal-requires
answer-literal-requires g t c =
    let sizes = sizes_of (state_of c.args.scope.now).ordinals in
    let e : c.as_slice.result.now ≡ c.in-Literal.tuples = c.as_slice.ensures.value ∙ c.tuples.view_is in
    let can = subst (λ (f : RelForm). CanEvaluate c.args.scope.now (read_form c.args.tree.now.place c.args.tree.now.heading f)) c.in-Literal.is c.requires.can in
    (sizes, subst (λ (l : List (List (Name × Scalar))). All (IsTuple (sizes_of (state_of c.args.scope.now).ordinals) c.args.tree.now.heading) (map read_sets l)) (sym e) can.typed.1)

pub project-projection-requires-clause-projection : goal.project-projection-requires-clause-projection
project-projection-requires-clause-projection g t c =
    let headed = headed_at c.args.scope.now c.args.t.now c.in_ok-part.part c.relation.result.now c.in_ok-part.ensures.value c.relation.ensures in
    subst (λ (h : Heading). IsProjection h c.args.tree.now.heading c.args.kept.now) (sym headed) (c.requires.can.typed.1)

pub project-projection-requires-clause-listed : goal.project-projection-requires-clause-listed
project-projection-requires-clause-listed g t c =
    let headed = headed_at c.args.scope.now c.args.t.now c.in_ok-part.part c.relation.result.now c.in_ok-part.ensures.value c.relation.ensures in
    subst (λ (h : Heading). KeepsList c.args.around c.args.tree.now.heading h) (sym headed) (project_part c.args.around c.args.tree.now.place c.args.tree.now.heading c.args.kept.now (read_tree c.args.t.now) c.requires.stands.part)

pub project-returns-clause-value : goal.project-returns-clause-value
project-returns-clause-value g t c =
    let surrounding = around_of c.args.around c.args.tree.now.heading in
    value_at c.args.scope.now c.args.t.now c.in_ok-part.part c.relation.result.now c.in_ok-part.ensures.value c.relation.ensures c.projection.result c.args.tree.now.heading (λ h a. closed surrounding c.args.tree.now.place c.args.tree.now.heading (projected c.args.kept.now (opened surrounding h a))) (c.projection.ensures.value c.args.tree.now.place)

pub project-returns-clause-cost : goal.project-returns-clause-cost
project-returns-clause-cost g t c =
    let surrounding = around_of c.args.around c.args.tree.now.heading in
    cost_at c.args.scope.now c.args.t.now c.in_ok-part.part c.relation.result.now c.in_ok-part.ensures.value c.relation.ensures c.args.steps.now c.operand.new.steps c.projection.new.steps (λ h a. operator_cost surrounding (length a)) c.operand.ensures.cost c.projection.ensures.cost

pub restrict-restriction-requires-clause-restriction : goal.restrict-restriction-requires-clause-restriction
restrict-restriction-requires-clause-restriction g t c =
    let headed = headed_at c.args.scope.now c.args.t.now c.in_ok-part.part c.relation.result.now c.in_ok-part.ensures.value c.relation.ensures in
    let sizes = sizes_of (state_of c.args.scope.now).ordinals in
    (sizes, subst (λ (h : Heading). IsRestriction sizes h c.args.tree.now.heading (read c.args.c.now)) (sym headed) (c.requires.can.typed.1))

pub restrict-restriction-requires-clause-swept : goal.restrict-restriction-requires-clause-swept
restrict-restriction-requires-clause-swept g t c =
    let headed = headed_at c.args.scope.now c.args.t.now c.in_ok-part.part c.relation.result.now c.in_ok-part.ensures.value c.relation.ensures in
    subst (λ (h : Heading). IsSwept c.args.around c.args.tree.now.heading h (read c.args.c.now)) (sym headed) (restrict_part c.args.around c.args.tree.now.place c.args.tree.now.heading (read c.args.c.now) (read_tree c.args.t.now) c.requires.stands.part)

pub restrict-returns-clause-value : goal.restrict-returns-clause-value
restrict-returns-clause-value g t c =
    let surrounding = around_of c.args.around c.args.tree.now.heading in
    value_at c.args.scope.now c.args.t.now c.in_ok-part.part c.relation.result.now c.in_ok-part.ensures.value c.relation.ensures c.restriction.result c.args.tree.now.heading (λ h a. then_give (restricted (condition (read c.args.c.now)) (opened surrounding h a)) (closed surrounding c.args.tree.now.place c.args.tree.now.heading)) (c.restriction.ensures.value c.args.tree.now.place)

pub restrict-returns-clause-cost : goal.restrict-returns-clause-cost
restrict-returns-clause-cost g t c =
    let surrounding = around_of c.args.around c.args.tree.now.heading in
    cost_at c.args.scope.now c.args.t.now c.in_ok-part.part c.relation.result.now c.in_ok-part.ensures.value c.relation.ensures c.args.steps.now c.operand.new.steps c.restriction.new.steps (λ h a. rule_cost surrounding h (read c.args.c.now ∷ []) a) c.operand.ensures.cost c.restriction.ensures.cost

pub extend-extension-requires-clause-extension : goal.extend-extension-requires-clause-extension
extend-extension-requires-clause-extension g t c =
    let headed = headed_at c.args.scope.now c.args.t.now c.in_ok-part.part c.relation.result.now c.in_ok-part.ensures.value c.relation.ensures in
    let sizes = sizes_of (state_of c.args.scope.now).ordinals in
    (sizes, subst (λ (h : Heading). IsExtension sizes h c.args.tree.now.heading (read_sets c.args.sets.now)) (sym headed) (c.requires.can.typed.1))

pub extend-extension-requires-clause-listed : goal.extend-extension-requires-clause-listed
extend-extension-requires-clause-listed g t c =
    let headed = headed_at c.args.scope.now c.args.t.now c.in_ok-part.part c.relation.result.now c.in_ok-part.ensures.value c.relation.ensures in
    subst (λ (h : Heading). KeepsList c.args.around c.args.tree.now.heading h) (sym headed) ((extend_part c.args.around c.args.tree.now.place c.args.tree.now.heading (read_sets c.args.sets.now) (read_tree c.args.t.now) c.requires.stands.part).0)

pub extend-extension-requires-clause-swept : goal.extend-extension-requires-clause-swept
extend-extension-requires-clause-swept g t c =
    let headed = headed_at c.args.scope.now c.args.t.now c.in_ok-part.part c.relation.result.now c.in_ok-part.ensures.value c.relation.ensures in
    subst (λ (h : Heading). AreSwept c.args.around c.args.tree.now.heading h (read_sets c.args.sets.now)) (sym headed) ((extend_part c.args.around c.args.tree.now.place c.args.tree.now.heading (read_sets c.args.sets.now) (read_tree c.args.t.now) c.requires.stands.part).1)

pub extend-returns-clause-value : goal.extend-returns-clause-value
extend-returns-clause-value g t c =
    let surrounding = around_of c.args.around c.args.tree.now.heading in
    value_at c.args.scope.now c.args.t.now c.in_ok-part.part c.relation.result.now c.in_ok-part.ensures.value c.relation.ensures c.extension.result c.args.tree.now.heading (λ h a. then_give (extended (extended_row h c.args.tree.now.heading (read_sets c.args.sets.now)) (opened surrounding h a)) (closed surrounding c.args.tree.now.place c.args.tree.now.heading)) (c.extension.ensures.value c.args.tree.now.place)

pub extend-returns-clause-cost : goal.extend-returns-clause-cost
extend-returns-clause-cost g t c =
    let surrounding = around_of c.args.around c.args.tree.now.heading in
    cost_at c.args.scope.now c.args.t.now c.in_ok-part.part c.relation.result.now c.in_ok-part.ensures.value c.relation.ensures c.args.steps.now c.operand.new.steps c.extension.new.steps (λ h a. rule_cost surrounding h (scalars_of (read_sets c.args.sets.now)) a) c.operand.ensures.cost c.extension.ensures.cost

pub summarize-grouping-requires-clause-summary : goal.summarize-grouping-requires-clause-summary
summarize-grouping-requires-clause-summary g t c =
    let headed = headed_at c.args.scope.now c.args.t.now c.in_ok-part.part c.relation.result.now c.in_ok-part.ensures.value c.relation.ensures in
    let sizes = sizes_of (state_of c.args.scope.now).ordinals in
    (sizes, subst (λ (h : Heading). IsSummary sizes h c.args.tree.now.heading c.args.by.now (map read_aggregate c.args.aggregates.now)) (sym headed) (c.requires.can.typed.1))

pub summarize-grouping-requires-clause-listed : goal.summarize-grouping-requires-clause-listed
summarize-grouping-requires-clause-listed g t c =
    let headed = headed_at c.args.scope.now c.args.t.now c.in_ok-part.part c.relation.result.now c.in_ok-part.ensures.value c.relation.ensures in
    subst (λ (h : Heading). KeepsList c.args.around c.args.tree.now.heading h) (sym headed) ((summarize_part c.args.around c.args.tree.now.place c.args.tree.now.heading c.args.by.now (map read_aggregate c.args.aggregates.now) (read_tree c.args.t.now) c.requires.stands.part).0)

pub summarize-grouping-requires-clause-summed : goal.summarize-grouping-requires-clause-summed
summarize-grouping-requires-clause-summed g t c =
    let headed = headed_at c.args.scope.now c.args.t.now c.in_ok-part.part c.relation.result.now c.in_ok-part.ensures.value c.relation.ensures in
    subst (λ (h : Heading). AreSummed c.args.around c.args.tree.now.heading h c.args.by.now (map read_aggregate c.args.aggregates.now)) (sym headed) ((summarize_part c.args.around c.args.tree.now.place c.args.tree.now.heading c.args.by.now (map read_aggregate c.args.aggregates.now) (read_tree c.args.t.now) c.requires.stands.part).1)

pub summarize-returns-clause-value : goal.summarize-returns-clause-value
summarize-returns-clause-value g t c =
    let surrounding = around_of c.args.around c.args.tree.now.heading in
    value_at c.args.scope.now c.args.t.now c.in_ok-part.part c.relation.result.now c.in_ok-part.ensures.value c.relation.ensures c.grouping.result c.args.tree.now.heading (λ h a. then_give (summarized c.args.by.now (λ numbers. group_row h c.args.tree.now.heading (map read_aggregate c.args.aggregates.now) (rows_at (opened surrounding h a) numbers)) (opened surrounding h a)) (closed surrounding c.args.tree.now.place c.args.tree.now.heading)) (c.grouping.ensures.value c.args.tree.now.place)

pub summarize-returns-clause-cost : goal.summarize-returns-clause-cost
summarize-returns-clause-cost g t c =
    let surrounding = around_of c.args.around c.args.tree.now.heading in
    cost_at c.args.scope.now c.args.t.now c.in_ok-part.part c.relation.result.now c.in_ok-part.ensures.value c.relation.ensures c.args.steps.now c.operand.new.steps c.grouping.new.steps (λ h a. operator_cost surrounding (length a)) c.operand.ensures.cost c.grouping.ensures.cost

pub rename-renamed-requires : goal.rename-renamed-requires
rename-renamed-requires g t c =
    let headed = headed_at c.args.scope.now c.args.t.now c.in_ok-part.part c.relation.result.now c.in_ok-part.ensures.value c.relation.ensures in
    (c.args.tree.now.heading, subst (λ (h : Heading). IsRenaming h c.args.tree.now.heading c.args.names.now) (sym headed) c.requires.typed.1)

pub rename-returns-clause-value : goal.rename-returns-clause-value
rename-returns-clause-value g t c =
    let headed = headed_at c.args.scope.now c.args.t.now c.in_ok-part.part c.relation.result.now c.in_ok-part.ensures.value c.relation.ensures in
    let typed = subst (λ (h : Heading). IsRenaming h c.args.tree.now.heading c.args.names.now) (sym headed) c.requires.typed.1 in
    value_at c.args.scope.now c.args.t.now c.in_ok-part.part c.relation.result.now c.in_ok-part.ensures.value c.relation.ensures c.renamed.result c.args.tree.now.heading (λ h a. limited c.args.tree.now.place (renamed_rows h c.args.tree.now.heading c.args.names.now a)) (c.renamed.ensures c.args.tree.now.place c.args.tree.now.heading typed)

pub pack-packed-requires : goal.pack-packed-requires
pack-packed-requires g t c =
    let headed = headed_at c.args.scope.now c.args.t.now c.in_ok-part.part c.relation.result.now c.in_ok-part.ensures.value c.relation.ensures in
    let commalist : c.as_slice.result.now ≡ c.args.commalist.now = search rules in
    subst (λ (l : List ℕ). IsList c.relation.result.now.heading l) (sym commalist) (subst (λ (h : Heading). IsList h c.args.commalist.now) (c.requires.typed.2 ∙ sym headed) c.requires.typed.1)

pub pack-returns-clause-value : goal.pack-returns-clause-value
pack-returns-clause-value g t c =
    let headed = headed_at c.args.scope.now c.args.t.now c.in_ok-part.part c.relation.result.now c.in_ok-part.ensures.value c.relation.ensures in
    let commalist : c.as_slice.result.now ≡ c.args.commalist.now = search rules in
    value_at c.args.scope.now c.args.t.now c.in_ok-part.part c.relation.result.now c.in_ok-part.ensures.value c.relation.ensures c.packed.result c.args.tree.now.heading (λ h a. limited c.args.tree.now.place (packed_rows c.args.commalist.now a))
    (subst (λ (l : List ℕ). Answers c.packed.result (under c.args.tree.now.heading (limited c.args.tree.now.place (packed_rows l c.relation.result.now.rows)))) commalist
    (subst (λ (h : Heading). Answers c.packed.result (under h (limited c.args.tree.now.place (packed_rows c.as_slice.result.now c.relation.result.now.rows)))) (headed ∙ sym c.requires.typed.2) c.packed.ensures.value))

pub pack-returns-clause-cost : goal.pack-returns-clause-cost
pack-returns-clause-cost g t c =
    let commalist : c.as_slice.result.now ≡ c.args.commalist.now = search rules in
    cost_at c.args.scope.now c.args.t.now c.in_ok-part.part c.relation.result.now c.in_ok-part.ensures.value c.relation.ensures c.args.steps.now c.operand.new.steps c.packed.new.steps (λ h a. bound (length a) (length c.args.commalist.now)) c.operand.ensures.cost
    (subst (λ (l : List ℕ). c.packed.new.steps ≤ c.operand.new.steps + bound (length c.relation.result.now.rows) (length l)) commalist c.packed.ensures.cost)

pub unpack-unpacked-requires : goal.unpack-unpacked-requires
unpack-unpacked-requires g t c =
    let headed = headed_at c.args.scope.now c.args.t.now c.in_ok-part.part c.relation.result.now c.in_ok-part.ensures.value c.relation.ensures in
    let commalist : c.as_slice.result.now ≡ c.args.commalist.now = search rules in
    subst (λ (l : List ℕ). IsList c.relation.result.now.heading l) (sym commalist) (subst (λ (h : Heading). IsList h c.args.commalist.now) (c.requires.typed.2 ∙ sym headed) c.requires.typed.1)

pub unpack-returns-clause-value : goal.unpack-returns-clause-value
unpack-returns-clause-value g t c =
    let headed = headed_at c.args.scope.now c.args.t.now c.in_ok-part.part c.relation.result.now c.in_ok-part.ensures.value c.relation.ensures in
    let commalist : c.as_slice.result.now ≡ c.args.commalist.now = search rules in
    value_at c.args.scope.now c.args.t.now c.in_ok-part.part c.relation.result.now c.in_ok-part.ensures.value c.relation.ensures c.unpacked.result c.args.tree.now.heading (λ h a. limited c.args.tree.now.place (unpacked_rows c.args.commalist.now a))
    (subst (λ (l : List ℕ). Answers c.unpacked.result (under c.args.tree.now.heading (limited c.args.tree.now.place (unpacked_rows l c.relation.result.now.rows)))) commalist
    (subst (λ (h : Heading). Answers c.unpacked.result (under h (limited c.args.tree.now.place (unpacked_rows c.as_slice.result.now c.relation.result.now.rows)))) (headed ∙ sym c.requires.typed.2) c.unpacked.ensures.value))

pub unpack-returns-clause-cost : goal.unpack-returns-clause-cost
unpack-returns-clause-cost g t c =
    let commalist : c.as_slice.result.now ≡ c.args.commalist.now = search rules in
    cost_at c.args.scope.now c.args.t.now c.in_ok-part.part c.relation.result.now c.in_ok-part.ensures.value c.relation.ensures c.args.steps.now c.operand.new.steps c.unpacked.new.steps (λ h a. bound (length a) (length c.args.commalist.now)) c.operand.ensures.cost
    (subst (λ (l : List ℕ). c.unpacked.new.steps ≤ c.operand.new.steps + bound (length c.relation.result.now.rows) (length l)) commalist c.unpacked.ensures.cost)

pub infix-infix-requires-clause-infix : goal.infix-infix-requires-clause-infix
infix-infix-requires-clause-infix g t c =
    let left = headed_at c.args.scope.now c.args.l.now c.in_ok-left.left c.relation.result.now c.in_ok-left.ensures.value c.relation.ensures in
    let right = headed_at c.args.scope.now c.args.r.now c.in_ok-right.right c.relation-2.result.now c.in_ok-right.ensures.value c.relation-2.ensures in
    subst (λ (h : Heading). IsInfix c.args.word h c.relation-2.result.now.heading c.args.tree.now.heading) (sym left)
    (subst (λ (h : Heading). IsInfix c.args.word (heading_of (read_tree c.args.l.now)) h c.args.tree.now.heading) (sym right) c.requires.can.typed.2)

pub infix-infix-requires-clause-left : goal.infix-infix-requires-clause-left
infix-infix-requires-clause-left g t c =
    let left = headed_at c.args.scope.now c.args.l.now c.in_ok-left.left c.relation.result.now c.in_ok-left.ensures.value c.relation.ensures in
    subst (λ (h : Heading). KeepsList c.args.around c.args.tree.now.heading h) (sym left) (infix_part c.args.around c.args.tree.now.place c.args.tree.now.heading c.args.word (read_tree c.args.l.now) (read_tree c.args.r.now) c.requires.stands.part).0

pub infix-infix-requires-clause-right : goal.infix-infix-requires-clause-right
infix-infix-requires-clause-right g t c =
    let right = headed_at c.args.scope.now c.args.r.now c.in_ok-right.right c.relation-2.result.now c.in_ok-right.ensures.value c.relation-2.ensures in
    subst (λ (h : Heading). KeepsList c.args.around c.args.tree.now.heading h) (sym right) (infix_part c.args.around c.args.tree.now.place c.args.tree.now.heading c.args.word (read_tree c.args.l.now) (read_tree c.args.r.now) c.requires.stands.part).1

pub infix-returns-clause-value : goal.infix-returns-clause-value
infix-returns-clause-value g t c =
    let surrounding = around_of c.args.around c.args.tree.now.heading in
    value_at c.args.scope.now c.args.l.now c.in_ok-left.left c.relation.result.now c.in_ok-left.ensures.value c.relation.ensures c.infix.result c.args.tree.now.heading
    (λ h a. then_give (meaning (known_at c.args.scope.now) plainly (read_tree c.args.r.now)) (λ b. closed surrounding c.args.tree.now.place c.args.tree.now.heading (infix_rows c.args.word h (heading_of (read_tree c.args.r.now)) (opened surrounding h a) (opened surrounding (heading_of (read_tree c.args.r.now)) b))))
    (value_at c.args.scope.now c.args.r.now c.in_ok-right.right c.relation-2.result.now c.in_ok-right.ensures.value c.relation-2.ensures c.infix.result c.args.tree.now.heading
    (λ h b. closed surrounding c.args.tree.now.place c.args.tree.now.heading (infix_rows c.args.word c.relation.result.now.heading h (opened surrounding c.relation.result.now.heading c.relation.result.now.rows) (opened surrounding h b)))
    c.infix.ensures.value)

pub infix-returns-clause-cost : goal.infix-returns-clause-cost
infix-returns-clause-cost g t c =
    let surrounding = around_of c.args.around c.args.tree.now.heading in
    cost_at c.args.scope.now c.args.l.now c.in_ok-left.left c.relation.result.now c.in_ok-left.ensures.value c.relation.ensures c.args.steps.now c.operand.new.steps c.infix.new.steps
    (λ h a. tree_cost (prices_at c.args.scope.now) plainly (read_tree c.args.r.now) + paid (meaning (known_of (prices_at c.args.scope.now)) plainly (read_tree c.args.r.now)) (λ b. operator_cost surrounding (length a + length b)))
    c.operand.ensures.cost
    (cost_at c.args.scope.now c.args.r.now c.in_ok-right.right c.relation-2.result.now c.in_ok-right.ensures.value c.relation-2.ensures c.operand.new.steps c.operand-2.new.steps c.infix.new.steps (λ h b. operator_cost surrounding (length c.relation.result.now.rows + length b)) c.operand-2.ensures.cost c.infix.ensures.cost)

pub infix-returns-in_err-right-clause-cost : goal.infix-returns-in_err-right-clause-cost
infix-returns-in_err-right-clause-cost g t c =
    let surrounding = around_of c.args.around c.args.tree.now.heading in
    cost_at c.args.scope.now c.args.l.now c.in_ok-left.left (held c.in_ok-left.left) c.in_ok-left.ensures.value refl c.args.steps.now c.operand.new.steps c.operand-2.new.steps
    (λ h a. tree_cost (prices_at c.args.scope.now) plainly (read_tree c.args.r.now) + paid (meaning (known_of (prices_at c.args.scope.now)) plainly (read_tree c.args.r.now)) (λ b. operator_cost surrounding (length a + length b)))
    c.operand.ensures.cost
    (failed_cost c.operand.new.steps c.operand-2.new.steps (tree_cost (prices_at c.args.scope.now) plainly (read_tree c.args.r.now))
    (paid (meaning (known_of (prices_at c.args.scope.now)) plainly (read_tree c.args.r.now)) (λ b. operator_cost surrounding (length (held c.in_ok-left.left).rows + length b))) c.operand-2.ensures.cost)

pub named-looked_up-requires : goal.named-looked_up-requires
named-looked_up-requires g t c =
    let x = read_relvar c.in-Some.relvar.now in
    let first : IsFirstAt (all_of c.args.scope.now) c.args.name.now c.in-Some.at (read_relvar c.in-Some.relvar.now) =
    found_at c.args.scope.now.relvars.now.list.entries c.args.name.now c.in-Some.field-0-1.now c.in-Some.at c.in-Some.relvar.now (sym c.in-Some.ensures.index) c.in-Some.ensures.entry in
    let falls = work_falls c.args.scope.now c.args.place c.args.heading.now c.args.name.now c.in-Some.at x c.requires first in
    λ κs within. (omega (arith, falls), (within, can_look_up c.args.scope.now c.args.place c.args.heading.now c.args.name.now c.in-Some.at (read_relvar c.in-Some.relvar.now) c.requires first))

pub named-unreachable-requires : goal.named-unreachable-requires
named-unreachable-requires g t c =
    none_named c.args.scope.now.relvars.now.list.entries c.args.name.now c.args.scope.now.before c.args.heading.now
    (none_passes (bytes_eq c.args.name.now) (map (λ (e : Name × Relvar). e.0) c.args.scope.now.relvars.now.list.entries) (sym c.in-None.ensures.index)) c.requires.typed

pub named-returns-clause-value : goal.named-returns-clause-value
named-returns-clause-value g t c =
    let x = read_relvar c.in-Some.relvar.now in
    let first : IsFirstAt (all_of c.args.scope.now) c.args.name.now c.in-Some.at (read_relvar c.in-Some.relvar.now) =
    found_at c.args.scope.now.relvars.now.list.entries c.args.name.now c.in-Some.field-0-1.now c.in-Some.at c.in-Some.relvar.now (sym c.in-Some.ensures.index) c.in-Some.ensures.entry in
    named_meant c.args.scope.now c.args.place c.args.heading.now c.args.name.now c.in-Some.at x c.requires first c.or_fault_at_name.result
    (c.or_fault_at_name.ensures (relvar_heading x) (entry_meaning c.args.scope.now c.args.name.now c.in-Some.at x) c.looked_up.ensures.value)

pub named-returns-clause-cost : goal.named-returns-clause-cost
named-returns-clause-cost g t c =
    let x = read_relvar c.in-Some.relvar.now in
    let first : IsFirstAt (all_of c.args.scope.now) c.args.name.now c.in-Some.at (read_relvar c.in-Some.relvar.now) =
    found_at c.args.scope.now.relvars.now.list.entries c.args.name.now c.in-Some.field-0-1.now c.in-Some.at c.in-Some.relvar.now (sym c.in-Some.ensures.index) c.in-Some.ensures.entry in
    let before = (stands_before c.args.scope.now c.args.place c.args.heading.now c.args.name.now c.in-Some.at x c.requires first).0 in
    subst (λ (n : ℕ). c.looked_up.new.steps ≤ c.args.steps.now + n) (sym (price_first c.args.scope.now c.args.name.now c.in-Some.at x first before)) c.looked_up.ensures.cost

pub looked_up-answer-requires : goal.looked_up-answer-requires
looked_up-answer-requires g t c = λ κs within.
    let can = subst (λ (r : Relvar). CanLookUp c.args.scope.now c.args.name.now c.args.at (read_relvar r)) c.in-View.is c.requires in
    let here = ap (λ (s : Scope). work s (read_tree c.in-View.tree)) c.earlier-before.ensures in
    let there = ap (λ (r : Relvar). entry_work c.args.scope.now c.args.at (read_relvar r)) c.in-View.is in
    let before = subst (λ (s : Scope). CanEvaluate s (read_tree c.in-View.tree)) (sym c.earlier-before.ensures)
    (view_can c.args.scope.now c.args.name.now c.args.at (read_tree c.in-View.tree) (read_kind c.in-View.kind) can) in
    (omega (arith, here, there), (within, (before, record { list = tt; part = tt })))

pub looked_up-returns-in-Base-clause-value : goal.looked_up-returns-in-Base-clause-value
looked_up-returns-in-Base-clause-value g t c =
    let can = subst (λ (r : Relvar). CanLookUp c.args.scope.now c.args.name.now c.args.at (read_relvar r)) c.in-Base.is c.requires in
    let same = base_meant c.args.scope.now c.args.name.now c.args.at c.in-Base.value c.in-Base.constraints can in
    subst (λ (r : Relvar). Answers c.base_value.result (under (relvar_heading (read_relvar r)) (entry_meaning c.args.scope.now c.args.name.now c.args.at (read_relvar r)))) (sym c.in-Base.is)
    (subst (λ (m : OrFault Relation). Answers c.base_value.result m) (sym same) c.base_value.ensures)

pub looked_up-returns-in_ok-relation-in-Some-clause-value : goal.looked_up-returns-in_ok-relation-in-Some-clause-value
looked_up-returns-in_ok-relation-in-Some-clause-value g t c =
    let s = c.args.scope.now in
    let v = c.in_ok-relation-in-Some.relation in
    let can = subst (λ (r : Relvar). CanLookUp s c.args.name.now c.args.at (read_relvar r)) c.in-View.is c.requires in
    let rows : stored_rows s c.args.at (read_tree c.in-View.tree) (read_kind c.in-View.kind) ≡ Some v = search rules in
    subst (λ (r : Relvar). under (relvar_heading (read_relvar r)) (entry_meaning s c.args.name.now c.args.at (read_relvar r)) ≡ Ok v) (sym c.in-View.is)
    (stored_meant s c.args.name.now c.args.at (read_tree c.in-View.tree) (read_kind c.in-View.kind) v can rows)

pub looked_up-returns-in-None-clause-cost : goal.looked_up-returns-in-None-clause-cost
looked_up-returns-in-None-clause-cost g t c =
    let s = c.args.scope.now in
    let can = subst (λ (r : Relvar). CanLookUp s c.args.name.now c.args.at (read_relvar r)) c.in-View.is c.requires in
    let none : stored_rows s c.args.at (read_tree c.in-View.tree) (read_kind c.in-View.kind) ≡ None = search rules in
    let told = evaluated_cost s c.earlier-before.result c.args.name.now c.args.at (read_tree c.in-View.tree) (read_kind c.in-View.kind) c.args.steps.now c.answer.new.steps can none c.earlier-before.ensures c.answer.ensures.cost in
    subst (λ (r : Relvar). c.answer.new.steps ≤ c.args.steps.now + entry_cost s c.args.at (read_relvar r)) (sym c.in-View.is) told

pub using-answer-requires : goal.using-answer-requires
using-answer-requires g t c = λ κs within.
    let part = read_tree c.args.t.now in
    let list : c.as_slice.result.now ≡ c.args.commalist.now = search rules in
    let listed : IsList (heading_of part) c.as_slice.result.now =
    subst (λ (l : List ℕ). IsList (heading_of part) l) (sym list) (subst (λ (h : Heading). IsList h c.args.commalist.now) c.requires.typed.2 c.requires.typed.1) in
    let is : IsTrue (is_part (names_at (heading_of part) c.as_slice.result.now) part) =
    subst (λ (l : List ℕ). IsTrue (is_part (names_at (heading_of part) l) part)) (sym list)
    (subst (λ (h : Heading). IsTrue (is_part (names_at h c.args.commalist.now) part)) c.requires.typed.2 c.requires.typed.3) in
    (omega arith, (within, (record { relvars = c.requires.relvars; given = c.requires.given; stored = c.requires.stored; typed = c.requires.typed.0 }, record { list = listed; part = is })))

pub using-returns-clause-value : goal.using-returns-clause-value
using-returns-clause-value g t c =
    let place = c.args.tree.now.place in
    let part = read_tree c.args.t.now in
    let known = known_at c.args.scope.now in
    let list : c.as_slice.result.now ≡ c.args.commalist.now = search rules in
    let told = subst (λ (l : List ℕ). Answers c.answer.result (under c.args.t.now.heading (meaning known (around place c.args.t.now.heading l) part))) list c.answer.ensures.value in
    let own = subst (λ (h : Heading). Answers c.answer.result (under h (meaning known (around place h c.args.commalist.now) part))) (heading_read c.args.t.now) told in
    subst (λ (h : Heading). Answers c.answer.result (under h (meaning known (around place (heading_of part) c.args.commalist.now) part))) (sym c.requires.typed.2) own

pub using-returns-clause-cost : goal.using-returns-clause-cost
using-returns-clause-cost g t c =
    let place = c.args.tree.now.place in
    let part = read_tree c.args.t.now in
    let list : c.as_slice.result.now ≡ c.args.commalist.now = search rules in
    let told = subst (λ (l : List ℕ). c.answer.new.steps ≤ c.args.steps.now + tree_cost (prices_at c.args.scope.now) (around place c.args.t.now.heading l) part) list c.answer.ensures.cost in
    subst (λ (h : Heading). c.answer.new.steps ≤ c.args.steps.now + tree_cost (prices_at c.args.scope.now) (around place h c.args.commalist.now) part) (heading_read c.args.t.now) told
