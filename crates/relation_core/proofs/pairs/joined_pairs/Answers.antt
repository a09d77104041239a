use Rattle.std.proofs.Common.{◌≡◌, ◌<◌, ℕ, ◌++◌, List, length, arith, sym, ap, ap₂, ◌∙◌, subst, MatchResult}
use Rattle.std.specs.List.{All}
use Rattle.std.proofs.lemmas.List.{length-append}
use Rattle.value_core.specs.Values.{Row, Heading}
use Rattle.relation_core.specs.Agreement.{common_positions}
use Rattle.relation_core.specs.Answers.{IsRefusal}
use Rattle.relation_core.specs.Joins.{joined_heading, joined_pairs, paired}
use Rattle.relation_core.specs.Parts.{positions_in}
use Rattle.relation_core.proofs.AgreementLemmas.{left_within, right_within}
use Rattle.relation_core.proofs.AttributeLemmas.{places_within}
use Rattle.relation_core.proofs.pairs.joined_pairs.Goals as goal

common_here : (left right o t : Heading) (found slice : List ℕ) → o ≡ left → t ≡ right → found ≡ common_positions o o t → slice ≡ found → slice ≡ common_positions left left right
common_here left right o t found slice ours theirs e is = is ∙ (e ∙ ap₂ (λ (u v : Heading). common_positions u u v) ours theirs)

common_there : (left right o t : Heading) (found slice : List ℕ) → o ≡ left → t ≡ right → found ≡ common_positions t o t → slice ≡ found → slice ≡ common_positions right left right
common_there left right o t found slice ours theirs e is = is ∙ (e ∙ ap₂ (λ (u v : Heading). common_positions v u v) ours theirs)

all_places : (left right o t heading : Heading) (found slice : List ℕ) → o ≡ left → t ≡ right → heading ≡ joined_heading left right → found ≡ positions_in (o ++ t) heading → slice ≡ found
    → slice ≡ positions_in (left ++ right) (joined_heading left right)
all_places left right o t heading found slice ours theirs head e is = is ∙ (e ∙ ap₂ (λ (u v : Heading). positions_in u v) (ap₂ (λ (u v : Heading). u ++ v) ours theirs) head)

pub pairs-requires-clause-here : goal.pairs-requires-clause-here
pairs-requires-clause-here c k d l =
    let here = common_here c.args.left.now.heading c.args.right.now.heading _ _ _ _ (c.attributes-ours.ensures.list ∙ c.heading.ensures.heading) (c.attributes-theirs.ensures.list ∙ c.heading-2.ensures.heading) c.in_ok-here.ensures c.as_slice.ensures.value in
    (subst (λ (ps : List ℕ). All (λ (i : ℕ). i < length c.args.left.now.heading) ps) (sym here) (left_within c.args.left.now.heading c.args.right.now.heading)) k d l

pub pairs-requires-clause-there : goal.pairs-requires-clause-there
pairs-requires-clause-there c k d l =
    let there = common_there c.args.left.now.heading c.args.right.now.heading _ _ _ _ (c.attributes-ours.ensures.list ∙ c.heading.ensures.heading) (c.attributes-theirs.ensures.list ∙ c.heading-2.ensures.heading) c.in_ok-there.ensures c.as_slice-2.ensures.value in
    (subst (λ (ps : List ℕ). All (λ (i : ℕ). i < length c.args.right.now.heading) ps) (sym there) (right_within c.args.left.now.heading c.args.right.now.heading)) k d l

pub pairs-requires-clause-places : goal.pairs-requires-clause-places
pairs-requires-clause-places c k d l =
    let places = all_places c.args.left.now.heading c.args.right.now.heading _ _ _ _ _ (c.attributes-ours.ensures.list ∙ c.heading.ensures.heading) (c.attributes-theirs.ensures.list ∙ c.heading-2.ensures.heading) c.requires c.in_ok-places.ensures c.as_slice-3.ensures.value in
    let size = length-append c.args.left.now.heading c.args.right.now.heading in
    let below = (subst (λ (ps : List ℕ). All (λ (i : ℕ). i < length (c.args.left.now.heading ++ c.args.right.now.heading)) ps) (sym places) (places_within c.args.left.now.heading c.args.right.now.heading)) k d l in
    omega (arith, size, below)

pub returns-clause-pairs : goal.returns-clause-pairs
returns-clause-pairs c =
    let here = common_here c.args.left.now.heading c.args.right.now.heading _ _ _ _ (c.attributes-ours.ensures.list ∙ c.heading.ensures.heading) (c.attributes-theirs.ensures.list ∙ c.heading-2.ensures.heading) c.in_ok-here.ensures c.as_slice.ensures.value in
    let there = common_there c.args.left.now.heading c.args.right.now.heading _ _ _ _ (c.attributes-ours.ensures.list ∙ c.heading.ensures.heading) (c.attributes-theirs.ensures.list ∙ c.heading-2.ensures.heading) c.in_ok-there.ensures c.as_slice-2.ensures.value in
    let places = all_places c.args.left.now.heading c.args.right.now.heading _ _ _ _ _ (c.attributes-ours.ensures.list ∙ c.heading.ensures.heading) (c.attributes-theirs.ensures.list ∙ c.heading-2.ensures.heading) c.requires c.in_ok-places.ensures c.as_slice-3.ensures.value in
    let same : paired c.as_slice.result.now c.as_slice-2.result.now c.as_slice-3.result.now c.args.left.now.rows c.args.right.now.rows ≡ joined_pairs c.args.left.now.heading c.args.right.now.heading c.args.left.now.rows c.args.right.now.rows =
    ap (λ (h : List ℕ). paired h c.as_slice-2.result.now c.as_slice-3.result.now c.args.left.now.rows c.args.right.now.rows) here
    ∙ (ap (λ (t : List ℕ). paired (common_positions c.args.left.now.heading c.args.left.now.heading c.args.right.now.heading) t c.as_slice-3.result.now c.args.left.now.rows c.args.right.now.rows) there
    ∙ ap (λ (p : List ℕ). paired (common_positions c.args.left.now.heading c.args.left.now.heading c.args.right.now.heading) (common_positions c.args.right.now.heading c.args.left.now.heading c.args.right.now.heading) p c.args.left.now.rows c.args.right.now.rows) places) in
    subst (λ (z : List Row). MatchResult c.pairs.result (λ rows. rows.items ≡ z) (IsRefusal z)) same c.pairs.ensures.pairs
