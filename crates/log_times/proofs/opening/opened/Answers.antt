use Rattle.std.proofs.Common.{rules, ◌≡◌, ◌≤◌, ◌≤ℤ◌, ℕ, List, [], ◌∷◌, ◌++◌, length, ap, sym, subst, ◌∙◌, IsTrue, w64, to_z, of_z}
use Rattle.std.specs.List.{All}
use Rattle.std.proofs.lemmas.Int.{to_z-of_z}
use Rattle.point_core.specs.Whole.{least_whole}
use Rattle.value_core.specs.Headings.{position_of, IsHeadingOf}
use Rattle.value_core.specs.Relations.{all_fit}
use Rattle.value_core.specs.Values.{Row, Heading, Relation, rows_of}
use Rattle.log_times.specs.Turns.{kind_of_statements, log_heading, side_of, begun}
use Rattle.log_times.proofs.AnswerLemmas.{open_long, open_fit, open_is, begun_same}
use Rattle.log_times.proofs.opening.opened.Goals as goal

pub add_begun-requires : goal.add_begun-requires
add_begun-requires c =
    let now = c.args.now.now in
    let low : least_whole ≤ℤ c.args.number = search rules in
    let head : c.in_ok-heading.heading ≡ log_heading c.args.now.now.heading c.args.attribute.now =
    c.in_ok-heading.ensures.heading ∙ ap (λ (h : Heading). log_heading h c.args.attribute.now) c.heading.ensures.heading in
    let place : c.position-side.result ≡ side_of c.args.now.now.heading c.args.attribute.now =
    c.position-side.ensures.value ∙ ap (λ (h : Heading). position_of h c.args.attribute.now) (c.attributes.ensures.list ∙ head) in
    subst (λ (s : ℕ). All (λ (x : Row). s ≤ length x) c.rows-rows.result.now) (sym place)
    (subst (λ (l : List Row). All (λ (x : Row). side_of c.args.now.now.heading c.args.attribute.now ≤ length x) l) (sym c.rows-rows.ensures.rows)
    (open_long now c.args.attribute.now c.args.number c.rows-rows.ensures.relation c.requires.new low c.requires.number))

pub of_few-requires-clause-fitting : goal.of_few-requires-clause-fitting
of_few-requires-clause-fitting c =
    let now = c.args.now.now in
    let low : least_whole ≤ℤ c.args.number = search rules in
    let n : to_z w64 (of_z w64 c.args.number) ≡ c.args.number = to_z-of_z w64 c.args.number c.ranges.number in
    let head : c.in_ok-heading.heading ≡ log_heading c.args.now.now.heading c.args.attribute.now =
    c.in_ok-heading.ensures.heading ∙ ap (λ (h : Heading). log_heading h c.args.attribute.now) c.heading.ensures.heading in
    let place : c.position-side.result ≡ side_of c.args.now.now.heading c.args.attribute.now =
    c.position-side.ensures.value ∙ ap (λ (h : Heading). position_of h c.args.attribute.now) (c.attributes.ensures.list ∙ head) in
    let items : c.add_begun.new.list.items ≡ begun (side_of c.args.now.now.heading c.args.attribute.now) c.args.number c.args.now.now.rows =
    begun_same c.add_begun.new.list.items c.new-list.result.items c.rows-rows.result.now now.rows c.position-side.result (side_of c.args.now.now.heading c.args.attribute.now) (to_z w64 (of_z w64 c.args.number)) c.args.number
    c.in_ok-add_begun.ensures c.new-list.ensures.items place n c.rows-rows.ensures.rows in
    subst (λ (h : Heading). IsTrue (all_fit h c.add_begun.new.list.items)) (sym head)
    (subst (λ (l : List Row). IsTrue (all_fit (log_heading c.args.now.now.heading c.args.attribute.now) l)) (sym items)
    (open_fit now c.args.attribute.now c.args.number c.rows-rows.ensures.relation c.requires.new low c.requires.number))

pub returns : goal.returns
returns c =
    let now = c.args.now.now in
    let low : least_whole ≤ℤ c.args.number = search rules in
    let n : to_z w64 (of_z w64 c.args.number) ≡ c.args.number = to_z-of_z w64 c.args.number c.ranges.number in
    let head : c.in_ok-heading.heading ≡ log_heading c.args.now.now.heading c.args.attribute.now =
    c.in_ok-heading.ensures.heading ∙ ap (λ (h : Heading). log_heading h c.args.attribute.now) c.heading.ensures.heading in
    let place : c.position-side.result ≡ side_of c.args.now.now.heading c.args.attribute.now =
    c.position-side.ensures.value ∙ ap (λ (h : Heading). position_of h c.args.attribute.now) (c.attributes.ensures.list ∙ head) in
    let items : c.add_begun.new.list.items ≡ begun (side_of c.args.now.now.heading c.args.attribute.now) c.args.number c.args.now.now.rows =
    begun_same c.add_begun.new.list.items c.new-list.result.items c.rows-rows.result.now now.rows c.position-side.result (side_of c.args.now.now.heading c.args.attribute.now) (to_z w64 (of_z w64 c.args.number)) c.args.number
    c.in_ok-add_begun.ensures c.new-list.ensures.items place n c.rows-rows.ensures.rows in
    let same : c.in_ok-relation.relation.heading ≡ c.in_ok-heading.heading = ap (λ (r : Relation). r.heading) c.in_ok-relation.ensures in
    let attributes : IsHeadingOf (c.args.now.now.heading ++ (c.args.attribute.now, kind_of_statements) ∷ []) c.in_ok-relation.relation.heading =
    subst (λ (h : Heading). IsHeadingOf (c.args.now.now.heading ++ (c.args.attribute.now, kind_of_statements) ∷ []) h) (sym same)
    (subst (λ (h : Heading). IsHeadingOf (h ++ (c.args.attribute.now, kind_of_statements) ∷ []) c.in_ok-heading.heading) c.heading.ensures.heading c.in_ok-heading.ensures.attributes) in
    open_is now c.args.attribute.now c.args.number c.rows-rows.ensures.relation c.requires.new low c.requires.number c.in_ok-relation.relation attributes (same ∙ head)
    (ap (λ (r : Relation). r.rows) c.in_ok-relation.ensures ∙ ap (λ (l : List Row). rows_of l) items)
