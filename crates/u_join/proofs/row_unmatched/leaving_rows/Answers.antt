use Rattle.std.proofs.Common.{[], ◌∷◌, ◌∙◌, subst}
use Rattle.relation_core.specs.Agreement.{common_positions}
use Rattle.relation_core.specs.Parts.{kind_at}
use Rattle.u_set.specs.Boxes.{type_of}
use Rattle.u_row.specs.Kept.{unlisted}
use Rattle.u_join.specs.Rests.{AreLeft, rest_at}
use Rattle.u_join.proofs.PairRowLemmas.{sliced, have_order}
use Rattle.u_join.proofs.LeftRowLemmas.{of_one_type, all_left}
use Rattle.u_join.proofs.MadeLemmas.{relation_fits}
use Rattle.u_join.proofs.row_unmatched.leaving_rows.Goals as goal

pub rows_left-requires-clause-lefts : goal.rows_left-requires-clause-lefts
rows_left-requires-clause-lefts c =
    let left = c.args.left.now in
    let here = c.args.here in
    have_order c.as_slice.result.now here left.rows c.as_slice-ls.result.now
    (sliced c.as_slice.result.now here left.rows c.in_ok-lefts.lefts.items c.as_slice-ls.result.now c.as_slice-ls.ensures.value c.in_ok-lefts.ensures.rows)
    left.heading c.requires.left (relation_fits left c.heading.ensures.relation)

pub rows_left-requires-clause-rights : goal.rows_left-requires-clause-rights
rows_left-requires-clause-rights c =
    let right = c.args.right.now in
    let there = c.args.there in
    have_order c.as_slice-2.result.now there right.rows c.as_slice-rs.result.now
    (sliced c.as_slice-2.result.now there right.rows c.in_ok-rights.rights.items c.as_slice-rs.result.now c.as_slice-rs.ensures.value c.in_ok-rights.ensures.rows)
    right.heading c.requires.right (relation_fits right c.heading-2.ensures.relation)

pub rows_left-requires-clause-of_type : goal.rows_left-requires-clause-of_type
rows_left-requires-clause-of_type c =
    let left = c.args.left.now in
    let right = c.args.right.now in
    let here = c.args.here in
    let there = c.args.there in
    let ours = c.attributes-ours.ensures.list ∙ c.heading.ensures.heading in
    of_one_type c.as_slice.result.now c.as_slice-2.result.now c.type_at.result here there left.rows right.rows c.as_slice-ls.result.now c.as_slice-rs.result.now
    (sliced c.as_slice.result.now here left.rows c.in_ok-lefts.lefts.items c.as_slice-ls.result.now c.as_slice-ls.ensures.value c.in_ok-lefts.ensures.rows)
    (sliced c.as_slice-2.result.now there right.rows c.in_ok-rights.rights.items c.as_slice-rs.result.now c.as_slice-rs.ensures.value c.in_ok-rights.ensures.rows)
    left.heading c.requires.left (relation_fits left c.heading.ensures.relation) (c.type_at.ensures ∙ (λ t. type_of (kind_at (ours t) here)))

pub returns-clause-rows : goal.returns-clause-rows
returns-clause-rows c =
    let left = c.args.left.now in
    let right = c.args.right.now in
    let here = c.args.here in
    let there = c.args.there in
    let ours = c.attributes-ours.ensures.list ∙ c.heading.ensures.heading in
    let theirs = c.attributes-theirs.ensures.list ∙ c.heading-2.ensures.heading in
    let key = c.as_slice.ensures.value ∙ c.in_ok-key.ensures ∙ (λ t. unlisted (here ∷ []) (common_positions (ours t) (ours t) (theirs t))) in
    let other_key = c.as_slice-2.ensures.value ∙ c.in_ok-other_key.ensures ∙ (λ t. unlisted (there ∷ []) (common_positions (theirs t) (ours t) (theirs t))) in
    let point_type = c.type_at.ensures ∙ (λ t. type_of (kind_at (ours t) here)) in
    let rows = c.in_ok-rows.ensures in
    let made = all_left c.as_slice.result.now c.as_slice-2.result.now c.type_at.result here there left.rows right.rows c.as_slice-ls.result.now c.as_slice-rs.result.now
    (sliced c.as_slice.result.now here left.rows c.in_ok-lefts.lefts.items c.as_slice-ls.result.now c.as_slice-ls.ensures.value c.in_ok-lefts.ensures.rows)
    (sliced c.as_slice-2.result.now there right.rows c.in_ok-rights.rights.items c.as_slice-rs.result.now c.as_slice-rs.ensures.value c.in_ok-rights.ensures.rows)
    rows.0 rows.1 c.in_ok-rows.rows.items rows.2 in
    subst (λ T. T) (λ t. AreLeft (key t) (other_key t) here there (rest_at (point_type t) here) left.rows right.rows c.in_ok-rows.rows.items) made
