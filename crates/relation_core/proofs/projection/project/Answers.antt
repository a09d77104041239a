use Rattle.std.proofs.Common.{◌≡◌, ◌<◌, ◌≤◌, List, length, get_or, map, None, ap, ap₂, sym, subst, ◌∙◌, IsTrue}
use Rattle.std.specs.List.Sorted.{IsPermutation}
use Rattle.base_core.proofs.SetOperatorLemmas.{in_order-in_order}
use Rattle.value_core.specs.Headings.{first_repeat, most_attributes}
use Rattle.value_core.specs.Order.{row_total, row_separates}
use Rattle.value_core.specs.Relations.{all_fit}
use Rattle.value_core.specs.Values.{Row, Heading, Relation, row_cmp, rows_of, most_rows}
use Rattle.relation_core.specs.Agreement.{part_of}
use Rattle.relation_core.specs.Parts.{attributes_at, projected}
use Rattle.relation_core.proofs.HeadingLemmas.{heading_in_order, no_repeat, part_ascends, part_is_few, projected_fits, projected_few}
use Rattle.relation_core.proofs.projection.project.Goals as goal

abbrev relation_with : Heading → List Row → Relation
relation_with heading rows = record { heading = heading; rows = rows }

pub attributes_at-requires : goal.attributes_at-requires
attributes_at-requires c k d l =
    let head : c.attributes.result.now ≡ c.args.r.now.heading = c.attributes.ensures.list ∙ c.heading.ensures.heading in
    subst (λ (h : Heading). get_or c.args.kept.now k d < length h) (sym head) (c.requires.within k d l)

pub heading_of-requires : goal.heading_of-requires
heading_of-requires c =
    let r = c.args.r.now in
    let list : c.in_ok-list.list.items ≡ attributes_at c.args.kept.now c.args.r.now.heading =
    c.in_ok-list.ensures ∙ ap (λ (h : Heading). attributes_at c.args.kept.now h) (c.attributes.ensures.list ∙ c.heading.ensures.heading) in
    record {
      different = subst (λ (h : Heading). first_repeat h ≡ None) (sym list) (no_repeat (attributes_at c.args.kept.now r.heading) (part_ascends r.heading c.args.kept.now c.in_ok-rows.ensures.relation.headed c.requires.ascending c.requires.within));
      few = subst (λ (h : Heading). length h ≤ most_attributes) (sym list) (part_is_few r.heading c.args.kept.now c.in_ok-rows.ensures.relation.headed c.requires.ascending c.requires.within);
    }

pub of_few-requires : goal.of_few-requires
of_few-requires c =
    let r = c.args.r.now in
    let kept = c.args.kept.now in
    let list : c.in_ok-list.list.items ≡ attributes_at c.args.kept.now c.args.r.now.heading =
    c.in_ok-list.ensures ∙ ap (λ (h : Heading). attributes_at c.args.kept.now h) (c.attributes.ensures.list ∙ c.heading.ensures.heading) in
    let moved : IsPermutation (attributes_at c.args.kept.now c.args.r.now.heading) c.in_ok-heading.heading = subst (λ (l : Heading). IsPermutation l c.in_ok-heading.heading) list c.in_ok-heading.ensures.same in
    let head : c.in_ok-heading.heading ≡ attributes_at c.args.kept.now c.args.r.now.heading =
    heading_in_order (attributes_at kept r.heading) c.in_ok-heading.heading (part_ascends r.heading kept c.in_ok-rows.ensures.relation.headed c.requires.ascending c.requires.within) moved c.in_ok-heading.ensures.ordered in
    record {
      fitting = subst (λ (h : Heading). IsTrue (all_fit h c.in_ok-rows.rows.items)) (sym head)
          (subst (λ (l : List Row). IsTrue (all_fit (attributes_at c.args.kept.now c.args.r.now.heading) l)) (sym c.in_ok-rows.ensures.parts)
          (projected_fits r.heading kept c.in_ok-rows.ensures.relation.headed c.requires.ascending c.requires.within r.rows c.in_ok-rows.ensures.relation.fitting));
      few = subst (λ (l : List Row). length l ≤ most_rows) (sym c.in_ok-rows.ensures.parts) (projected_few kept r.rows c.in_ok-rows.ensures.relation.few);
    }

pub returns : goal.returns
returns c =
    let r = c.args.r.now in
    let kept = c.args.kept.now in
    let list : c.in_ok-list.list.items ≡ attributes_at c.args.kept.now c.args.r.now.heading =
    c.in_ok-list.ensures ∙ ap (λ (h : Heading). attributes_at c.args.kept.now h) (c.attributes.ensures.list ∙ c.heading.ensures.heading) in
    let moved : IsPermutation (attributes_at c.args.kept.now c.args.r.now.heading) c.in_ok-heading.heading = subst (λ (l : Heading). IsPermutation l c.in_ok-heading.heading) list c.in_ok-heading.ensures.same in
    let head : c.in_ok-heading.heading ≡ attributes_at c.args.kept.now c.args.r.now.heading =
    heading_in_order (attributes_at kept r.heading) c.in_ok-heading.heading (part_ascends r.heading kept c.in_ok-rows.ensures.relation.headed c.requires.ascending c.requires.within) moved c.in_ok-heading.ensures.ordered in
    let set : rows_of c.in_ok-rows.rows.items ≡ projected c.args.kept.now c.args.r.now.rows =
    ap (λ (l : List Row). rows_of l) c.in_ok-rows.ensures.parts ∙ in_order-in_order row_cmp row_total row_separates (map (part_of kept) r.rows) in
    record {
      few = projected_few kept r.rows c.in_ok-rows.ensures.relation.few;
      is = c.in_ok-relation.ensures ∙ ap₂ relation_with head set;
    }
