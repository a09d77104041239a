use Rattle.std.proofs.Common.{◌↔◌, ℕ, [], ◌∷◌, get_or, sym, ap, ◌∙◌, subst}
use Rattle.cell_packing.specs.Covering.{Among}
use Rattle.value_core.specs.Values.{Heading}
use Rattle.relation_core.specs.Agreement.{common_positions}
use Rattle.relation_core.specs.Parts.{no_attribute}
use Rattle.u_set.specs.Boxes.{type_of}
use Rattle.u_row.specs.Kept.{unlisted}
use Rattle.u_join.specs.RowPairs.{seen, IsMeeting, AreMade, made_row}
use Rattle.u_join.proofs.PairRowLemmas.{sliced, have_order, of_type, all_made}
use Rattle.u_join.proofs.MadeLemmas.{relation_fits}
use Rattle.u_join.proofs.pairing.rows_of_pairs.Goals as goal

pub meeting_pairs-requires-clause-lefts : goal.meeting_pairs-requires-clause-lefts
meeting_pairs-requires-clause-lefts c =
    let left = c.args.left.now in
    have_order c.as_slice.result.now c.args.sources.now.here left.rows c.as_slice-ls.result.now
    (sliced c.as_slice.result.now c.args.sources.now.here left.rows c.in_ok-lefts.lefts.items c.as_slice-ls.result.now c.as_slice-ls.ensures.value c.in_ok-lefts.ensures.rows)
    left.heading c.requires.left (relation_fits left c.heading.ensures.relation)

pub meeting_pairs-requires-clause-rights : goal.meeting_pairs-requires-clause-rights
meeting_pairs-requires-clause-rights c =
    let right = c.args.right.now in
    have_order c.as_slice-2.result.now c.args.sources.now.there right.rows c.as_slice-rs.result.now
    (sliced c.as_slice-2.result.now c.args.sources.now.there right.rows c.in_ok-rights.rights.items c.as_slice-rs.result.now c.as_slice-rs.ensures.value c.in_ok-rights.ensures.rows)
    right.heading c.requires.right (relation_fits right c.heading-2.ensures.relation)

pub of_pairs-requires-clause-left : goal.of_pairs-requires-clause-left
of_pairs-requires-clause-left c =
    let left = c.args.left.now in
    of_type c.as_slice.result.now c.args.sources.now.here left.rows c.as_slice-ls.result.now
    (sliced c.as_slice.result.now c.args.sources.now.here left.rows c.in_ok-lefts.lefts.items c.as_slice-ls.result.now c.as_slice-ls.ensures.value c.in_ok-lefts.ensures.rows)
    left.heading c.requires.left (relation_fits left c.heading.ensures.relation) c.args.sources.now.point_type c.requires.point_type

pub of_pairs-requires-clause-right : goal.of_pairs-requires-clause-right
of_pairs-requires-clause-right c =
    let right = c.args.right.now in
    let same = ap (λ (h : Heading). type_of (get_or h 0 no_attribute).1) c.requires.same in
    of_type c.as_slice-2.result.now c.args.sources.now.there right.rows c.as_slice-rs.result.now
    (sliced c.as_slice-2.result.now c.args.sources.now.there right.rows c.in_ok-rights.rights.items c.as_slice-rs.result.now c.as_slice-rs.ensures.value c.in_ok-rights.ensures.rows)
    right.heading c.requires.right (relation_fits right c.heading-2.ensures.relation) c.args.sources.now.point_type (c.requires.point_type ∙ same)

pub of_pairs-requires-clause-pairs : goal.of_pairs-requires-clause-pairs
of_pairs-requires-clause-pairs c =
    let pairs = sym c.as_slice-3.ensures.value in
    let met = subst (λ T. T) (λ t. (p : ℕ × ℕ) → Among p (pairs t) ↔ IsMeeting seen c.as_slice-ls.result.now c.as_slice-rs.result.now p) c.in_ok-pairs.ensures in
    λ p m. (met p).0 m

pub returns-clause-rows : goal.returns-clause-rows
returns-clause-rows c =
    let left = c.args.left.now in
    let right = c.args.right.now in
    let here = c.args.sources.now.here in
    let there = c.args.sources.now.there in
    let places = c.args.sources.now.places.now in
    let point_type = c.args.sources.now.point_type in
    let at = c.args.sources.now.at in
    let ours = c.attributes-ours.ensures.list ∙ c.heading.ensures.heading in
    let theirs = c.attributes-theirs.ensures.list ∙ c.heading-2.ensures.heading in
    let key = c.as_slice.ensures.value ∙ c.in_ok-key.ensures ∙ (λ t. unlisted (here ∷ []) (common_positions (ours t) (ours t) (theirs t))) in
    let other_key = c.as_slice-2.ensures.value ∙ c.in_ok-other_key.ensures ∙ (λ t. unlisted (there ∷ []) (common_positions (theirs t) (ours t) (theirs t))) in
    let pairs = sym c.as_slice-3.ensures.value in
    let met = subst (λ T. T) (λ t. (p : ℕ × ℕ) → Among p (pairs t) ↔ IsMeeting seen c.as_slice-ls.result.now c.as_slice-rs.result.now p) c.in_ok-pairs.ensures in
    let made = all_made c.as_slice.result.now c.as_slice-2.result.now places point_type at here there left.rows right.rows
    c.as_slice-ls.result.now c.as_slice-rs.result.now
    (sliced c.as_slice.result.now here left.rows c.in_ok-lefts.lefts.items c.as_slice-ls.result.now c.as_slice-ls.ensures.value c.in_ok-lefts.ensures.rows)
    (sliced c.as_slice-2.result.now there right.rows c.in_ok-rights.rights.items c.as_slice-rs.result.now c.as_slice-rs.ensures.value c.in_ok-rights.ensures.rows)
    c.as_slice-3.result.now met c.in_ok-rows.rows.items c.in_ok-rows.ensures in
    subst (λ T. T) (λ t. AreMade (key t) (other_key t) here there (made_row places point_type at here there) left.rows right.rows c.in_ok-rows.rows.items) made
