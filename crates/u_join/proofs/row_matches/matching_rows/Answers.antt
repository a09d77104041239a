use Rattle.std.proofs.Common.{◌<◌, [], ◌∷◌, length, arith, sym, ap, ◌∙◌, subst}
use Rattle.relation_core.specs.Agreement.{common_positions}
use Rattle.relation_core.specs.Parts.{kind_at}
use Rattle.u_set.specs.Apart.{outside}
use Rattle.u_set.specs.Boxes.{type_of}
use Rattle.u_row.specs.Kept.{unlisted}
use Rattle.u_join.specs.RowPairs.{AreMade, made_row}
use Rattle.u_join.proofs.MadeLemmas.{if_made}
use Rattle.u_join.proofs.MatchedRowLemmas.{all_places, matched_fit, made_matched}
use Rattle.u_join.proofs.row_matches.matching_rows.Goals as goal

pub rows_of_pairs-requires-clause-at : goal.rows_of_pairs-requires-clause-at
rows_of_pairs-requires-clause-at c =
    let ours = c.attributes-ours.ensures.list ∙ c.heading.ensures.heading in
    let places = c.as_slice.ensures.value ∙ c.in_ok-places.ensures ∙ (λ t. outside [] (ours t)) in
    subst (λ n. c.args.here < n) (sym (ap length places ∙ all_places c.args.left.now.heading)) (c.requires.left.within 0 0 (omega arith))

pub returns-clause-fit : goal.returns-clause-fit
returns-clause-fit c =
    let left = c.args.left.now in
    let right = c.args.right.now in
    let ours = c.attributes-ours.ensures.list ∙ c.heading.ensures.heading in
    let places = c.as_slice.ensures.value ∙ c.in_ok-places.ensures ∙ (λ t. outside [] (ours t)) in
    let point_type = c.type_at.ensures ∙ (λ t. type_of (kind_at (ours t) c.args.here)) in
    if_made _ _ (λ rows made.
    let are = subst (λ T. T) (λ t. AreMade (unlisted (c.args.here ∷ []) (common_positions left.heading left.heading right.heading)) (unlisted (c.args.there ∷ []) (common_positions right.heading left.heading right.heading)) c.args.here c.args.there
    (made_row (places t) (point_type t) c.args.here c.args.here c.args.there) left.rows right.rows rows.items) made in
    matched_fit left right c.heading.ensures.relation c.rows_of_pairs.ensures.relation c.args.here c.args.there c.requires.same c.requires.kinds c.requires.left c.requires.right rows.items are) c.rows_of_pairs.result c.rows_of_pairs.ensures.rows

pub returns-clause-rows : goal.returns-clause-rows
returns-clause-rows c =
    let left = c.args.left.now in
    let right = c.args.right.now in
    let ours = c.attributes-ours.ensures.list ∙ c.heading.ensures.heading in
    let places = c.as_slice.ensures.value ∙ c.in_ok-places.ensures ∙ (λ t. outside [] (ours t)) in
    let point_type = c.type_at.ensures ∙ (λ t. type_of (kind_at (ours t) c.args.here)) in
    if_made _ _ (λ rows made.
    let are = subst (λ T. T) (λ t. AreMade (unlisted (c.args.here ∷ []) (common_positions left.heading left.heading right.heading)) (unlisted (c.args.there ∷ []) (common_positions right.heading left.heading right.heading)) c.args.here c.args.there
    (made_row (places t) (point_type t) c.args.here c.args.here c.args.there) left.rows right.rows rows.items) made in
    made_matched left right c.heading.ensures.relation c.rows_of_pairs.ensures.relation c.args.here c.args.there c.requires.same c.requires.kinds c.requires.left c.requires.right rows.items are) c.rows_of_pairs.result c.rows_of_pairs.ensures.rows
