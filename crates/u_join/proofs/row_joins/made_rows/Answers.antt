use Rattle.std.proofs.Common.{◌≡◌, ◌<◌, ◌++◌, [], ◌∷◌, length, arith, sym, ap, ◌∙◌, subst}
use Rattle.std.proofs.lemmas.List.{length-map}
use Rattle.relation_core.specs.Agreement.{common_positions, names_of, position_of}
use Rattle.relation_core.specs.Parts.{kind_at, positions_in}
use Rattle.u_set.specs.Boxes.{type_of}
use Rattle.u_row.specs.Kept.{unlisted}
use Rattle.u_join.specs.RowPairs.{AreMade, made_row}
use Rattle.u_join.proofs.MadeLemmas.{if_made, made_fit, made_set}
use Rattle.u_join.proofs.row_joins.made_rows.Goals as goal

pub rows_of_pairs-requires-clause-at : goal.rows_of_pairs-requires-clause-at
rows_of_pairs-requires-clause-at c =
    let list = c.attributes-ours.result.now ++ c.attributes-theirs.result.now in
    let h = c.attributes.result.now in
    let many : length (positions_in list h) ≡ length h = length-map (names_of h) (position_of list) ∙ length-map h (λ a. a.0) in
    let places = c.as_slice.ensures.value ∙ c.in_ok-places.ensures in
    subst (λ n. c.args.listed.at < n) (sym (ap length places ∙ many ∙ ap length c.attributes.ensures.list)) (c.requires.intervals.within 0 0 (omega arith))

pub returns-clause-fit : goal.returns-clause-fit
returns-clause-fit c =
    let left = c.args.left.now in
    let right = c.args.right.now in
    let ours = c.attributes-ours.ensures.list ∙ c.heading.ensures.heading in
    let theirs = c.attributes-theirs.ensures.list ∙ c.heading-2.ensures.heading in
    let places = c.as_slice.ensures.value ∙ c.in_ok-places.ensures ∙ (λ t. positions_in (ours t ++ theirs t) (c.attributes.ensures.list t)) in
    let point_type = c.type_at.ensures ∙ (λ t. type_of (kind_at (ours t) c.args.listed.here)) in
    if_made _ _ (λ rows made.
    let are = subst (λ T. T) (λ t. AreMade (unlisted (c.args.listed.here ∷ []) (common_positions left.heading left.heading right.heading)) (unlisted (c.args.listed.there ∷ []) (common_positions right.heading left.heading right.heading)) c.args.listed.here c.args.listed.there
    (made_row (places t) (point_type t) c.args.listed.at c.args.listed.here c.args.listed.there) left.rows right.rows rows.items) made in
    made_fit left right c.heading.ensures.relation c.heading-2.ensures.relation c.args.listed.at c.args.listed.here c.args.listed.there c.requires.same c.requires.kinds c.requires.left c.requires.right
    c.args.heading.now c.requires.heading c.requires.intervals c.requires.listed rows.items are) c.rows_of_pairs.result c.rows_of_pairs.ensures.rows

pub returns-clause-rows : goal.returns-clause-rows
returns-clause-rows c =
    let left = c.args.left.now in
    let right = c.args.right.now in
    let ours = c.attributes-ours.ensures.list ∙ c.heading.ensures.heading in
    let theirs = c.attributes-theirs.ensures.list ∙ c.heading-2.ensures.heading in
    let places = c.as_slice.ensures.value ∙ c.in_ok-places.ensures ∙ (λ t. positions_in (ours t ++ theirs t) (c.attributes.ensures.list t)) in
    let point_type = c.type_at.ensures ∙ (λ t. type_of (kind_at (ours t) c.args.listed.here)) in
    if_made _ _ (λ rows made.
    let are = subst (λ T. T) (λ t. AreMade (unlisted (c.args.listed.here ∷ []) (common_positions left.heading left.heading right.heading)) (unlisted (c.args.listed.there ∷ []) (common_positions right.heading left.heading right.heading)) c.args.listed.here c.args.listed.there
    (made_row (places t) (point_type t) c.args.listed.at c.args.listed.here c.args.listed.there) left.rows right.rows rows.items) made in
    made_set left right c.heading.ensures.relation c.heading-2.ensures.relation c.args.listed.at c.args.listed.here c.args.listed.there c.requires.same c.requires.kinds c.requires.left c.requires.right
    c.args.heading.now c.requires.heading c.requires.intervals c.requires.listed rows.items are) c.rows_of_pairs.result c.rows_of_pairs.ensures.rows
