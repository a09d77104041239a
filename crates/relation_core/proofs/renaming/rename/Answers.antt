use Rattle.std.proofs.Common.{◌≡◌, ◌<◌, ◌≤◌, ℕ, List, length, map, None, ap, ap₂, sym, subst, ◌∙◌, IsTrue}
use Rattle.std.specs.List.{All}
use Rattle.base_core.proofs.SetOperatorLemmas.{in_order-in_order}
use Rattle.value_core.specs.Headings.{first_repeat, IsHeadingOf, most_attributes}
use Rattle.value_core.specs.Order.{row_total, row_separates}
use Rattle.value_core.specs.Relations.{all_fit}
use Rattle.value_core.specs.Values.{Row, Heading, Relation, row_cmp, rows_of, most_rows}
use Rattle.relation_core.specs.Agreement.{part_of}
use Rattle.relation_core.specs.Parts.{renamed, positions_in, projected}
use Rattle.relation_core.proofs.HeadingLemmas.{few_attributes, projected_few}
use Rattle.relation_core.proofs.RenamingLemmas.{length-renamed, renamed_differ, rows_fit, positions_fit}
use Rattle.relation_core.proofs.renaming.rename.Goals as goal

abbrev relation_with : Heading → List Row → Relation
relation_with heading rows = record { heading = heading; rows = rows }

pub renamed-requires : goal.renamed-requires
renamed-requires c = c.requires.one_each ∙ ap (λ (h : Heading). length h) (sym (c.attributes.ensures.list ∙ c.heading.ensures.heading))

pub heading_of-requires : goal.heading_of-requires
heading_of-requires c =
    let r = c.args.r.now in
    let names = c.args.names.now in
    let made : c.in_ok-attributes.attributes.items ≡ renamed c.args.names.now c.args.r.now.heading =
    c.in_ok-attributes.ensures ∙ ap (λ (h : Heading). renamed c.args.names.now h) (c.attributes-2.ensures.list ∙ c.heading-2.ensures.heading) in
    record {
      different = subst (λ (h : Heading). first_repeat h ≡ None) (sym made) (renamed_differ names r.heading c.requires.different);
      few = subst (λ (h : Heading). length h ≤ most_attributes) (sym made) (subst (λ n. n ≤ most_attributes) (sym (length-renamed names r.heading c.requires.one_each)) (few_attributes r.heading c.heading.ensures.relation.headed));
    }

pub sorted_parts-requires : goal.sorted_parts-requires
sorted_parts-requires c k d l =
    let list : c.as_slice.result.now ≡ renamed c.args.names.now c.args.r.now.heading =
    c.as_slice.ensures.value ∙ (c.in_ok-list.ensures ∙ ap (λ (h : Heading). renamed c.args.names.now h) (c.attributes.ensures.list ∙ c.heading.ensures.heading)) in
    let positions : c.as_slice-2.result.now ≡ positions_in (renamed c.args.names.now c.args.r.now.heading) c.in_ok-heading.heading =
    c.as_slice-2.ensures.value ∙ (c.in_ok-positions.ensures ∙ ap₂ (λ (u v : Heading). positions_in u v) list c.attributes-3.ensures.list) in
    let made : c.in_ok-attributes.attributes.items ≡ renamed c.args.names.now c.args.r.now.heading =
    c.in_ok-attributes.ensures ∙ ap (λ (h : Heading). renamed c.args.names.now h) (c.attributes-2.ensures.list ∙ c.heading-2.ensures.heading) in
    let head : IsHeadingOf (renamed c.args.names.now c.args.r.now.heading) c.in_ok-heading.heading = subst (λ (l : Heading). IsHeadingOf l c.in_ok-heading.heading) made c.in_ok-heading.ensures in
    (subst (λ (ps : List ℕ). All (λ (i : ℕ). i < length c.args.r.now.heading) ps) (sym positions)
    (positions_fit c.args.names.now c.args.r.now.heading c.in_ok-heading.heading c.requires.different head.same c.requires.one_each)) k d l

pub of_few-requires : goal.of_few-requires
of_few-requires c =
    let list : c.as_slice.result.now ≡ renamed c.args.names.now c.args.r.now.heading =
    c.as_slice.ensures.value ∙ (c.in_ok-list.ensures ∙ ap (λ (h : Heading). renamed c.args.names.now h) (c.attributes.ensures.list ∙ c.heading.ensures.heading)) in
    let positions : c.as_slice-2.result.now ≡ positions_in (renamed c.args.names.now c.args.r.now.heading) c.in_ok-heading.heading =
    c.as_slice-2.ensures.value ∙ (c.in_ok-positions.ensures ∙ ap₂ (λ (u v : Heading). positions_in u v) list c.attributes-3.ensures.list) in
    let made : c.in_ok-attributes.attributes.items ≡ renamed c.args.names.now c.args.r.now.heading =
    c.in_ok-attributes.ensures ∙ ap (λ (h : Heading). renamed c.args.names.now h) (c.attributes-2.ensures.list ∙ c.heading-2.ensures.heading) in
    let head : IsHeadingOf (renamed c.args.names.now c.args.r.now.heading) c.in_ok-heading.heading = subst (λ (l : Heading). IsHeadingOf l c.in_ok-heading.heading) made c.in_ok-heading.ensures in
    let r = c.args.r.now in
    let rows : c.in_ok-rows.rows.items ≡ projected (positions_in (renamed c.args.names.now c.args.r.now.heading) c.in_ok-heading.heading) c.args.r.now.rows =
    c.in_ok-rows.ensures.parts ∙ ap (λ (ps : List ℕ). projected ps c.args.r.now.rows) positions in
    record {
      fitting = subst (λ (l : List Row). IsTrue (all_fit c.in_ok-heading.heading l)) (sym rows)
          (rows_fit c.args.names.now r.heading c.in_ok-heading.heading c.requires.different head.same r.rows c.in_ok-rows.ensures.relation.fitting);
      few = subst (λ (l : List Row). length l ≤ most_rows) (sym rows) (projected_few (positions_in (renamed c.args.names.now r.heading) c.in_ok-heading.heading) r.rows c.in_ok-rows.ensures.relation.few);
    }

pub returns : goal.returns
returns c =
    let list : c.as_slice.result.now ≡ renamed c.args.names.now c.args.r.now.heading =
    c.as_slice.ensures.value ∙ (c.in_ok-list.ensures ∙ ap (λ (h : Heading). renamed c.args.names.now h) (c.attributes.ensures.list ∙ c.heading.ensures.heading)) in
    let positions : c.as_slice-2.result.now ≡ positions_in (renamed c.args.names.now c.args.r.now.heading) c.in_ok-heading.heading =
    c.as_slice-2.ensures.value ∙ (c.in_ok-positions.ensures ∙ ap₂ (λ (u v : Heading). positions_in u v) list c.attributes-3.ensures.list) in
    let made : c.in_ok-attributes.attributes.items ≡ renamed c.args.names.now c.args.r.now.heading =
    c.in_ok-attributes.ensures ∙ ap (λ (h : Heading). renamed c.args.names.now h) (c.attributes-2.ensures.list ∙ c.heading-2.ensures.heading) in
    let head : IsHeadingOf (renamed c.args.names.now c.args.r.now.heading) c.in_ok-heading.heading = subst (λ (l : Heading). IsHeadingOf l c.in_ok-heading.heading) made c.in_ok-heading.ensures in
    let r = c.args.r.now in
    let rows : c.in_ok-rows.rows.items ≡ projected (positions_in (renamed c.args.names.now c.args.r.now.heading) c.in_ok-heading.heading) c.args.r.now.rows =
    c.in_ok-rows.ensures.parts ∙ ap (λ (ps : List ℕ). projected ps c.args.r.now.rows) positions in
    let set : rows_of c.in_ok-rows.rows.items ≡ projected (positions_in (renamed c.args.names.now c.args.r.now.heading) c.in_ok-heading.heading) c.args.r.now.rows =
    ap (λ (l : List Row). rows_of l) rows
    ∙ in_order-in_order row_cmp row_total row_separates (map (part_of (positions_in (renamed c.args.names.now r.heading) c.in_ok-heading.heading)) r.rows) in
    record {
      heading = subst (λ (z : Relation). IsHeadingOf (renamed c.args.names.now c.args.r.now.heading) z.heading) (sym c.in_ok-relation.ensures) head;
      rows = subst (λ (z : Relation). z.rows ≡ projected (positions_in (renamed c.args.names.now c.args.r.now.heading) z.heading) c.args.r.now.rows) (sym c.in_ok-relation.ensures) set;
    }
