use Rattle.std.proofs.Common.{◌≡◌, List, sym, ap, ◌∙◌, subst, MatchResult}
use Rattle.std.proofs.lemmas.Result.{err_from_is_err_and}
use Rattle.value_core.specs.RowPacking.{packed, unpacked}
use Rattle.value_core.specs.Values.{Row, Heading, Relation}
use Rattle.relation_core.specs.Answers.{IsRefusal}
use Rattle.relation_core.specs.Operators.{united}
use Rattle.u_set.specs.Apart.{outside}
use Rattle.u_constraints.specs.Growth.{exchanged}
use Rattle.u_constraints.proofs.GrowthLemmas.{outside_within}
use Rattle.change_rows.proofs.InsertionLemmas.{refused_new, refused_come, refused_gone, insertion_cost, insertion_counted, insertion_rows}
use Rattle.change_rows.proofs.insertion.inserted.Goals as goal

pub touched_with-requires-clause-within : goal.touched_with-requires-clause-within
touched_with-requires-clause-within g c k d l =
    let commalist = c.args.commalist.now in
    let label : c.as_slice.result.now ≡ outside commalist c.args.value.now.heading =
    c.as_slice.ensures.value ∙ c.in_ok-label.ensures ∙ ap (λ (h : Heading). outside commalist h) (c.attributes.ensures.list ∙ c.heading.ensures.heading) in
    (outside_within commalist c.args.value.now.heading c.as_slice.result.now label) k d l

pub returns-in_err-new-clause-rows : goal.returns-in_err-new-clause-rows
returns-in_err-new-clause-rows g c =
    let commalist = c.args.commalist.now in
    let value = c.args.value.now in
    let operand = c.args.operand.now in
    let label : c.as_slice.result.now ≡ outside commalist value.heading =
    c.as_slice.ensures.value ∙ c.in_ok-label.ensures ∙ ap (λ (h : Heading). outside commalist h) (c.attributes.ensures.list ∙ c.heading.ensures.heading) in
    let whole : List Row = packed commalist (united (unpacked commalist value.rows) (unpacked commalist operand.rows)) in
    let p = err_from_is_err_and c.from_residual-in_err-new.result c.from_residual-in_err-new.ensures.1 in
    let refused = refused_new value operand c.heading.ensures.relation c.touched_with.ensures.relations.0 c.requires.heading commalist c.requires.intervals c.as_slice.result.now label
    c.in_ok-part.part.rows c.in_ok-part.ensures.rows.1 p.0 (subst (IsRefusal _) (sym p.2) c.in_err-new.ensures.rows) in
    subst (λ z. MatchResult z (λ x. exchanged value.rows x.gone.rows x.come.rows ≡ whole) (IsRefusal whole)) (sym p.1) refused

pub returns-in_err-new-clause-cost : goal.returns-in_err-new-clause-cost
returns-in_err-new-clause-cost g c =
    let commalist = c.args.commalist.now in
    let value = c.args.value.now in
    let operand = c.args.operand.now in
    let label : c.as_slice.result.now ≡ outside commalist value.heading =
    c.as_slice.ensures.value ∙ c.in_ok-label.ensures ∙ ap (λ (h : Heading). outside commalist h) (c.attributes.ensures.list ∙ c.heading.ensures.heading) in
    insertion_cost value operand c.heading.ensures.relation c.touched_with.ensures.relations.0 c.requires.heading commalist c.requires.intervals c.as_slice.result.now label
    c.in_ok-part.part.rows c.in_ok-part.ensures.rows.1 _ _ c.united.ensures.cost

pub returns-in_err-come-clause-rows : goal.returns-in_err-come-clause-rows
returns-in_err-come-clause-rows g c =
    let commalist = c.args.commalist.now in
    let value = c.args.value.now in
    let operand = c.args.operand.now in
    let label : c.as_slice.result.now ≡ outside commalist value.heading =
    c.as_slice.ensures.value ∙ c.in_ok-label.ensures ∙ ap (λ (h : Heading). outside commalist h) (c.attributes.ensures.list ∙ c.heading.ensures.heading) in
    let new = ap (λ (r : Relation). r.rows) c.in_ok-new.ensures.rows.is in
    let whole : List Row = packed commalist (united (unpacked commalist value.rows) (unpacked commalist operand.rows)) in
    let p = err_from_is_err_and c.from_residual-in_err-come.result c.from_residual-in_err-come.ensures.1 in
    let refused = refused_come value operand c.heading.ensures.relation c.touched_with.ensures.relations.0 c.requires.heading commalist c.requires.intervals c.as_slice.result.now label
    c.in_ok-part.part.rows c.in_ok-part.ensures.rows.1 c.in_ok-new.new.rows new p.0 (subst (IsRefusal _) (sym p.2) c.in_err-come.ensures) in
    subst (λ z. MatchResult z (λ x. exchanged value.rows x.gone.rows x.come.rows ≡ whole) (IsRefusal whole)) (sym p.1) refused

pub returns-in_err-come-clause-cost : goal.returns-in_err-come-clause-cost
returns-in_err-come-clause-cost g c =
    let commalist = c.args.commalist.now in
    let value = c.args.value.now in
    let operand = c.args.operand.now in
    let label : c.as_slice.result.now ≡ outside commalist value.heading =
    c.as_slice.ensures.value ∙ c.in_ok-label.ensures ∙ ap (λ (h : Heading). outside commalist h) (c.attributes.ensures.list ∙ c.heading.ensures.heading) in
    insertion_cost value operand c.heading.ensures.relation c.touched_with.ensures.relations.0 c.requires.heading commalist c.requires.intervals c.as_slice.result.now label
    c.in_ok-part.part.rows c.in_ok-part.ensures.rows.1 _ _ c.united.ensures.cost

pub returns-in_err-gone-clause-rows : goal.returns-in_err-gone-clause-rows
returns-in_err-gone-clause-rows g c =
    let commalist = c.args.commalist.now in
    let value = c.args.value.now in
    let operand = c.args.operand.now in
    let label : c.as_slice.result.now ≡ outside commalist value.heading =
    c.as_slice.ensures.value ∙ c.in_ok-label.ensures ∙ ap (λ (h : Heading). outside commalist h) (c.attributes.ensures.list ∙ c.heading.ensures.heading) in
    let new = ap (λ (r : Relation). r.rows) c.in_ok-new.ensures.rows.is in
    let whole : List Row = packed commalist (united (unpacked commalist value.rows) (unpacked commalist operand.rows)) in
    let p = err_from_is_err_and c.from_residual-in_err-gone.result c.from_residual-in_err-gone.ensures.1 in
    let refused = refused_gone value operand c.heading.ensures.relation c.touched_with.ensures.relations.0 c.requires.heading commalist c.requires.intervals c.as_slice.result.now label
    c.in_ok-part.part.rows c.in_ok-part.ensures.rows.1 c.in_ok-new.new.rows new p.0 (subst (IsRefusal _) (sym p.2) c.in_err-gone.ensures) in
    subst (λ z. MatchResult z (λ x. exchanged value.rows x.gone.rows x.come.rows ≡ whole) (IsRefusal whole)) (sym p.1) refused

pub returns-in_err-gone-clause-cost : goal.returns-in_err-gone-clause-cost
returns-in_err-gone-clause-cost g c =
    let commalist = c.args.commalist.now in
    let value = c.args.value.now in
    let operand = c.args.operand.now in
    let label : c.as_slice.result.now ≡ outside commalist value.heading =
    c.as_slice.ensures.value ∙ c.in_ok-label.ensures ∙ ap (λ (h : Heading). outside commalist h) (c.attributes.ensures.list ∙ c.heading.ensures.heading) in
    insertion_cost value operand c.heading.ensures.relation c.touched_with.ensures.relations.0 c.requires.heading commalist c.requires.intervals c.as_slice.result.now label
    c.in_ok-part.part.rows c.in_ok-part.ensures.rows.1 _ _ c.united.ensures.cost

pub returns-clause-cost : goal.returns-clause-cost
returns-clause-cost g c =
    let commalist = c.args.commalist.now in
    let value = c.args.value.now in
    let operand = c.args.operand.now in
    let label : c.as_slice.result.now ≡ outside commalist value.heading =
    c.as_slice.ensures.value ∙ c.in_ok-label.ensures ∙ ap (λ (h : Heading). outside commalist h) (c.attributes.ensures.list ∙ c.heading.ensures.heading) in
    insertion_cost value operand c.heading.ensures.relation c.touched_with.ensures.relations.0 c.requires.heading commalist c.requires.intervals c.as_slice.result.now label
    c.in_ok-part.part.rows c.in_ok-part.ensures.rows.1 _ _ c.united.ensures.cost

pub returns-clause-rows : goal.returns-clause-rows
returns-clause-rows g c =
    let commalist = c.args.commalist.now in
    let value = c.args.value.now in
    let operand = c.args.operand.now in
    let label : c.as_slice.result.now ≡ outside commalist value.heading =
    c.as_slice.ensures.value ∙ c.in_ok-label.ensures ∙ ap (λ (h : Heading). outside commalist h) (c.attributes.ensures.list ∙ c.heading.ensures.heading) in
    let new = ap (λ (r : Relation). r.rows) c.in_ok-new.ensures.rows.is in
    let come = ap (λ (r : Relation). r.rows) c.in_ok-come.ensures.is in
    let gone = ap (λ (r : Relation). r.rows) c.in_ok-gone.ensures.is in
    insertion_rows value operand c.heading.ensures.relation c.touched_with.ensures.relations.0 c.requires.heading commalist c.requires.intervals c.as_slice.result.now label
    c.in_ok-part.part.rows c.in_ok-part.ensures.rows.1 c.in_ok-new.new.rows new c.in_ok-come.come.rows c.in_ok-gone.gone.rows come gone c.requires.packed

pub returns-clause-exchange : goal.returns-clause-exchange
returns-clause-exchange g c =
    let commalist = c.args.commalist.now in
    let value = c.args.value.now in
    let operand = c.args.operand.now in
    let label : c.as_slice.result.now ≡ outside commalist value.heading =
    c.as_slice.ensures.value ∙ c.in_ok-label.ensures ∙ ap (λ (h : Heading). outside commalist h) (c.attributes.ensures.list ∙ c.heading.ensures.heading) in
    let new = ap (λ (r : Relation). r.rows) c.in_ok-new.ensures.rows.is in
    let come = ap (λ (r : Relation). r.rows) c.in_ok-come.ensures.is in
    let gone = ap (λ (r : Relation). r.rows) c.in_ok-gone.ensures.is in
    let heading : c.in_ok-part.part.heading ≡ value.heading = c.in_ok-part.ensures.rows.0 in
    let new_heading : c.in_ok-new.new.heading ≡ value.heading = ap (λ (r : Relation). r.heading) c.in_ok-new.ensures.rows.is ∙ heading in
    record {
      come = ap (λ (r : Relation). r.heading) c.in_ok-come.ensures.is ∙ new_heading;
      gone = ap (λ (r : Relation). r.heading) c.in_ok-gone.ensures.is ∙ heading;
      counted = insertion_counted value operand c.heading.ensures.relation c.touched_with.ensures.relations.0 c.requires.heading commalist c.requires.intervals c.as_slice.result.now label
          c.in_ok-part.part.rows c.in_ok-part.ensures.rows.1 c.in_ok-new.new.rows new c.in_ok-come.come.rows c.in_ok-gone.gone.rows come gone;
    }
