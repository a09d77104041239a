use Rattle.std.proofs.Common.{◌≡◌, List, sym, ap, ◌∙◌, subst, MatchResult}
use Rattle.std.proofs.lemmas.Result.{err_from_is_err_and}
use Rattle.value_core.specs.RowPacking.{packed, unpacked}
use Rattle.value_core.specs.Values.{Row, Heading, Relation}
use Rattle.relation_core.specs.Answers.{IsRefusal}
use Rattle.relation_core.specs.Operators.{subtracted, united}
use Rattle.u_set.specs.Apart.{outside}
use Rattle.u_constraints.specs.Growth.{exchanged}
use Rattle.u_constraints.proofs.GrowthLemmas.{outside_within}
use Rattle.change_rows.proofs.ReplacementLemmas.{refused_before, refused_after, refused_united, replacement_cost, joint_counted, joint_rows}
use Rattle.change_rows.proofs.replacement.replaced_and_inserted.Goals as goal

pub touched_with-requires-clause-within : goal.touched_with-requires-clause-within
touched_with-requires-clause-within g c k d l =
    let commalist = c.args.commalist.now in
    let heading = c.args.value.now.heading in
    let label : c.as_slice.result.now ≡ outside commalist heading =
    c.as_slice.ensures.value ∙ c.in_ok-label.ensures ∙ ap (λ (h : Heading). outside commalist h) (c.attributes.ensures.list ∙ c.heading.ensures.heading ∙ c.requires.heading.1) in
    (outside_within commalist heading c.as_slice.result.now label) k d l

pub returns-in_err-before-clause-rows : goal.returns-in_err-before-clause-rows
returns-in_err-before-clause-rows g c =
    let commalist = c.args.commalist.now in
    let value = c.args.value.now in
    let part = c.args.replacement.part.now.rows in
    let left = c.args.replacement.left.now in
    let added = c.args.added.now in
    let label : c.as_slice.result.now ≡ outside commalist value.heading =
    c.as_slice.ensures.value ∙ c.in_ok-label.ensures ∙ ap (λ (h : Heading). outside commalist h) (c.attributes.ensures.list ∙ c.heading.ensures.heading ∙ c.requires.heading.1) in
    let whole : List Row = packed commalist (united (unpacked commalist (united (subtracted value.rows part) left.rows)) (unpacked commalist added.rows)) in
    let p = err_from_is_err_and c.from_residual-in_err-before.result c.from_residual-in_err-before.ensures.1 in
    let refused = refused_before value left added c.touched_with.ensures.relations.1 c.heading.ensures.relation c.touched_with.ensures.relations.0 c.requires.heading.1 c.requires.heading.2
    part commalist c.requires.intervals c.requires.closed c.requires.labels c.as_slice.result.now label c.in_ok-touched.touched.rows c.in_ok-aside.aside.rows c.in_ok-touched.ensures.rows.1 c.in_ok-aside.ensures.rows.1
    p.0 (subst (IsRefusal _) (sym p.2) c.in_err-before.ensures) in
    subst (λ z. MatchResult z (λ x. exchanged value.rows x.gone.rows x.come.rows ≡ whole) (IsRefusal whole)) (sym p.1) refused

pub returns-in_err-after-clause-rows : goal.returns-in_err-after-clause-rows
returns-in_err-after-clause-rows g c =
    let commalist = c.args.commalist.now in
    let value = c.args.value.now in
    let part = c.args.replacement.part.now.rows in
    let left = c.args.replacement.left.now in
    let added = c.args.added.now in
    let label : c.as_slice.result.now ≡ outside commalist value.heading =
    c.as_slice.ensures.value ∙ c.in_ok-label.ensures ∙ ap (λ (h : Heading). outside commalist h) (c.attributes.ensures.list ∙ c.heading.ensures.heading ∙ c.requires.heading.1) in
    let whole : List Row = packed commalist (united (unpacked commalist (united (subtracted value.rows part) left.rows)) (unpacked commalist added.rows)) in
    let p = err_from_is_err_and c.from_residual-in_err-after.result c.from_residual-in_err-after.ensures.1 in
    let refused = refused_after value left added c.touched_with.ensures.relations.1 c.heading.ensures.relation c.touched_with.ensures.relations.0 c.requires.heading.1 c.requires.heading.2
    part commalist c.requires.intervals c.requires.closed c.requires.labels c.as_slice.result.now label c.in_ok-touched.touched.rows c.in_ok-aside.aside.rows c.in_ok-touched.ensures.rows.1 c.in_ok-aside.ensures.rows.1
    c.requires.few p.0 (subst (IsRefusal _) (sym p.2) c.in_err-after.ensures) in
    subst (λ z. MatchResult z (λ x. exchanged value.rows x.gone.rows x.come.rows ≡ whole) (IsRefusal whole)) (sym p.1) refused

pub returns-in_err-new-clause-rows : goal.returns-in_err-new-clause-rows
returns-in_err-new-clause-rows g c =
    let commalist = c.args.commalist.now in
    let value = c.args.value.now in
    let part = c.args.replacement.part.now.rows in
    let left = c.args.replacement.left.now in
    let added = c.args.added.now in
    let label : c.as_slice.result.now ≡ outside commalist value.heading =
    c.as_slice.ensures.value ∙ c.in_ok-label.ensures ∙ ap (λ (h : Heading). outside commalist h) (c.attributes.ensures.list ∙ c.heading.ensures.heading ∙ c.requires.heading.1) in
    let after = ap (λ (r : Relation). r.rows) c.in_ok-after.ensures.is in
    let whole : List Row = packed commalist (united (unpacked commalist (united (subtracted value.rows part) left.rows)) (unpacked commalist added.rows)) in
    let p = err_from_is_err_and c.from_residual-in_err-new.result c.from_residual-in_err-new.ensures.1 in
    let refused = refused_united value left added c.touched_with.ensures.relations.1 c.heading.ensures.relation c.touched_with.ensures.relations.0 c.requires.heading.1 c.requires.heading.2
    part commalist c.requires.intervals c.requires.closed c.requires.labels c.as_slice.result.now label c.in_ok-touched.touched.rows c.in_ok-aside.aside.rows c.in_ok-touched.ensures.rows.1 c.in_ok-aside.ensures.rows.1
    c.in_ok-after.after.rows after p.0 (subst (IsRefusal _) (sym p.2) c.in_err-new.ensures.rows) in
    subst (λ z. MatchResult z (λ x. exchanged value.rows x.gone.rows x.come.rows ≡ whole) (IsRefusal whole)) (sym p.1) refused

pub returns-in_err-new-clause-cost : goal.returns-in_err-new-clause-cost
returns-in_err-new-clause-cost g c =
    let commalist = c.args.commalist.now in
    let value = c.args.value.now in
    let part = c.args.replacement.part.now.rows in
    let left = c.args.replacement.left.now in
    let added = c.args.added.now in
    let label : c.as_slice.result.now ≡ outside commalist value.heading =
    c.as_slice.ensures.value ∙ c.in_ok-label.ensures ∙ ap (λ (h : Heading). outside commalist h) (c.attributes.ensures.list ∙ c.heading.ensures.heading ∙ c.requires.heading.1) in
    let after = ap (λ (r : Relation). r.rows) c.in_ok-after.ensures.is in
    replacement_cost value left added c.touched_with.ensures.relations.1 c.heading.ensures.relation c.touched_with.ensures.relations.0 c.requires.heading.1 c.requires.heading.2
    part commalist c.requires.intervals c.requires.closed c.requires.labels c.as_slice.result.now label c.in_ok-touched.touched.rows c.in_ok-aside.aside.rows c.in_ok-touched.ensures.rows.1 c.in_ok-aside.ensures.rows.1
    c.in_ok-after.after.rows after _ _ c.united.ensures.cost

pub returns-in_err-come-clause-cost : goal.returns-in_err-come-clause-cost
returns-in_err-come-clause-cost g c =
    let commalist = c.args.commalist.now in
    let value = c.args.value.now in
    let part = c.args.replacement.part.now.rows in
    let left = c.args.replacement.left.now in
    let added = c.args.added.now in
    let label : c.as_slice.result.now ≡ outside commalist value.heading =
    c.as_slice.ensures.value ∙ c.in_ok-label.ensures ∙ ap (λ (h : Heading). outside commalist h) (c.attributes.ensures.list ∙ c.heading.ensures.heading ∙ c.requires.heading.1) in
    let after = ap (λ (r : Relation). r.rows) c.in_ok-after.ensures.is in
    replacement_cost value left added c.touched_with.ensures.relations.1 c.heading.ensures.relation c.touched_with.ensures.relations.0 c.requires.heading.1 c.requires.heading.2
    part commalist c.requires.intervals c.requires.closed c.requires.labels c.as_slice.result.now label c.in_ok-touched.touched.rows c.in_ok-aside.aside.rows c.in_ok-touched.ensures.rows.1 c.in_ok-aside.ensures.rows.1
    c.in_ok-after.after.rows after _ _ c.united.ensures.cost

pub returns-in_err-gone-clause-cost : goal.returns-in_err-gone-clause-cost
returns-in_err-gone-clause-cost g c =
    let commalist = c.args.commalist.now in
    let value = c.args.value.now in
    let part = c.args.replacement.part.now.rows in
    let left = c.args.replacement.left.now in
    let added = c.args.added.now in
    let label : c.as_slice.result.now ≡ outside commalist value.heading =
    c.as_slice.ensures.value ∙ c.in_ok-label.ensures ∙ ap (λ (h : Heading). outside commalist h) (c.attributes.ensures.list ∙ c.heading.ensures.heading ∙ c.requires.heading.1) in
    let after = ap (λ (r : Relation). r.rows) c.in_ok-after.ensures.is in
    replacement_cost value left added c.touched_with.ensures.relations.1 c.heading.ensures.relation c.touched_with.ensures.relations.0 c.requires.heading.1 c.requires.heading.2
    part commalist c.requires.intervals c.requires.closed c.requires.labels c.as_slice.result.now label c.in_ok-touched.touched.rows c.in_ok-aside.aside.rows c.in_ok-touched.ensures.rows.1 c.in_ok-aside.ensures.rows.1
    c.in_ok-after.after.rows after _ _ c.united.ensures.cost

pub returns-clause-cost : goal.returns-clause-cost
returns-clause-cost g c =
    let commalist = c.args.commalist.now in
    let value = c.args.value.now in
    let part = c.args.replacement.part.now.rows in
    let left = c.args.replacement.left.now in
    let added = c.args.added.now in
    let label : c.as_slice.result.now ≡ outside commalist value.heading =
    c.as_slice.ensures.value ∙ c.in_ok-label.ensures ∙ ap (λ (h : Heading). outside commalist h) (c.attributes.ensures.list ∙ c.heading.ensures.heading ∙ c.requires.heading.1) in
    let after = ap (λ (r : Relation). r.rows) c.in_ok-after.ensures.is in
    replacement_cost value left added c.touched_with.ensures.relations.1 c.heading.ensures.relation c.touched_with.ensures.relations.0 c.requires.heading.1 c.requires.heading.2
    part commalist c.requires.intervals c.requires.closed c.requires.labels c.as_slice.result.now label c.in_ok-touched.touched.rows c.in_ok-aside.aside.rows c.in_ok-touched.ensures.rows.1 c.in_ok-aside.ensures.rows.1
    c.in_ok-after.after.rows after _ _ c.united.ensures.cost

pub returns-clause-rows : goal.returns-clause-rows
returns-clause-rows g c =
    let commalist = c.args.commalist.now in
    let value = c.args.value.now in
    let part = c.args.replacement.part.now.rows in
    let left = c.args.replacement.left.now in
    let added = c.args.added.now in
    let label : c.as_slice.result.now ≡ outside commalist value.heading =
    c.as_slice.ensures.value ∙ c.in_ok-label.ensures ∙ ap (λ (h : Heading). outside commalist h) (c.attributes.ensures.list ∙ c.heading.ensures.heading ∙ c.requires.heading.1) in
    let after = ap (λ (r : Relation). r.rows) c.in_ok-after.ensures.is in
    let before = ap (λ (r : Relation). r.rows) c.in_ok-before.ensures.is in
    let new = ap (λ (r : Relation). r.rows) c.in_ok-new.ensures.rows.is in
    joint_rows value left added c.touched_with.ensures.relations.1 c.heading.ensures.relation c.touched_with.ensures.relations.0 c.requires.heading.1 c.requires.heading.2
    part commalist c.requires.intervals c.requires.closed c.requires.labels c.as_slice.result.now label c.in_ok-touched.touched.rows c.in_ok-aside.aside.rows c.in_ok-touched.ensures.rows.1 c.in_ok-aside.ensures.rows.1
    c.in_ok-after.after.rows after c.in_ok-before.before.rows c.in_ok-new.new.rows c.in_ok-come.come.rows c.in_ok-gone.gone.rows before new c.in_ok-come.ensures.rows.1 c.in_ok-gone.ensures.rows.1 c.requires.packed

pub returns-clause-exchange : goal.returns-clause-exchange
returns-clause-exchange g c =
    let commalist = c.args.commalist.now in
    let value = c.args.value.now in
    let part = c.args.replacement.part.now.rows in
    let left = c.args.replacement.left.now in
    let added = c.args.added.now in
    let label : c.as_slice.result.now ≡ outside commalist value.heading =
    c.as_slice.ensures.value ∙ c.in_ok-label.ensures ∙ ap (λ (h : Heading). outside commalist h) (c.attributes.ensures.list ∙ c.heading.ensures.heading ∙ c.requires.heading.1) in
    let after = ap (λ (r : Relation). r.rows) c.in_ok-after.ensures.is in
    let before = ap (λ (r : Relation). r.rows) c.in_ok-before.ensures.is in
    let new = ap (λ (r : Relation). r.rows) c.in_ok-new.ensures.rows.is in
    let beside : c.in_ok-aside.aside.heading ≡ value.heading = c.in_ok-aside.ensures.rows.0 ∙ c.in_ok-touched.ensures.rows.0 in
    record {
      come = c.in_ok-come.ensures.rows.0 ∙ ap (λ (r : Relation). r.heading) c.in_ok-new.ensures.rows.is ∙ ap (λ (r : Relation). r.heading) c.in_ok-after.ensures.is ∙ beside;
      gone = c.in_ok-gone.ensures.rows.0 ∙ ap (λ (r : Relation). r.heading) c.in_ok-before.ensures.is ∙ beside;
      counted = joint_counted value left added c.touched_with.ensures.relations.1 c.heading.ensures.relation c.touched_with.ensures.relations.0 c.requires.heading.1 c.requires.heading.2
          part commalist c.requires.intervals c.requires.closed c.requires.labels c.as_slice.result.now label c.in_ok-touched.touched.rows c.in_ok-aside.aside.rows c.in_ok-touched.ensures.rows.1 c.in_ok-aside.ensures.rows.1
          c.in_ok-after.after.rows after c.in_ok-before.before.rows c.in_ok-new.new.rows c.in_ok-come.come.rows c.in_ok-gone.gone.rows before new c.in_ok-come.ensures.rows.1 c.in_ok-gone.ensures.rows.1;
    }
