use Rattle.std.proofs.Common.{◌≡◌, ◌≤◌, ◌<◌, ℕ, List, Option, Some, option_map, length, sym, ap, ◌∙◌, subst}
use Rattle.std.specs.List.{All}
use Rattle.std.proofs.lemmas.List.{length-map}
use Rattle.value_core.specs.Headings.{position_of}
use Rattle.value_core.specs.Values.{Row, Relation, most_rows}
use Rattle.u_constraints.specs.Near.{with_keys}
use Rattle.kept_views.specs.Kept.{heading_or_none, rows_or_none, key_names, right_key}
use Rattle.kept_views.specs.Parting.{HasHeadingIf, rows_after}
use Rattle.kept_views.specs.Touched.{left_of}
use Rattle.kept_views.proofs.parting.right_part.Goals as goal

pub part_after-requires-clause-heading : goal.part_after-requires-clause-heading
part_after-requires-clause-heading c =
    let is : option_map (λ r. r.now) c.args.before.right ≡ Some c.in-Some.other.now = ap (option_map (λ r. r.now)) c.in-Some.is in
    subst (λ (o : Option Relation). HasHeadingIf o (option_map (λ m. m.now) c.args.difference)) is c.requires.heading

pub part_after-requires-clause-few : goal.part_after-requires-clause-few
part_after-requires-clause-few c =
    let rule = c.args.rule.now in
    let left = left_of c.args.before in
    let is : option_map (λ r. r.now) c.args.before.right ≡ Some c.in-Some.other.now = ap (option_map (λ r. r.now)) c.in-Some.is in
    let few = subst (λ (o : Option Relation). length (rows_after (with_keys (right_key rule.op rule.left left.heading (heading_or_none o)) c.args.keys.now (rows_or_none o)) (option_map (λ m. m.now) c.args.difference)) ≤ most_rows) is c.requires.few in
    subst (λ (ps : List ℕ). length (rows_after (with_keys ps c.args.keys.now c.in-Some.other.now.rows) (option_map (λ m. m.now) c.args.difference)) ≤ most_rows)
    (sym (c.as_slice.ensures.value ∙ c.in_ok-places-in-Some.ensures.places)) few

pub part_after-requires-clause-within : goal.part_after-requires-clause-within
part_after-requires-clause-within c =
    subst (λ (ps : List ℕ). All (λ (i : ℕ). i < length c.in-Some.other.now.heading) ps) (sym c.as_slice.ensures.value) c.in_ok-places-in-Some.ensures.within

pub part_after-requires-clause-long : goal.part_after-requires-clause-long
part_after-requires-clause-long c =
    let rule = c.args.rule.now in
    let left = left_of c.args.before in
    let is : option_map (λ r. r.now) c.args.before.right ≡ Some c.in-Some.other.now = ap (option_map (λ r. r.now)) c.in-Some.is in
    let names = λ (o : Option Relation). key_names rule.op rule.left left.heading (heading_or_none o) in
    let long = subst (λ (o : Option Relation). All (λ (k : Row). length k ≡ length (names o)) c.args.keys.now) is c.requires.long in
    let many : length c.as_slice.result.now ≡ length (names (Some c.in-Some.other.now)) =
    ap (λ (ps : List ℕ). length ps) (c.as_slice.ensures.value ∙ c.in_ok-places-in-Some.ensures.places) ∙ length-map (names (Some c.in-Some.other.now)) (position_of c.in-Some.other.now.heading) in
    subst (λ (n : ℕ). All (λ (k : Row). length k ≡ n) c.args.keys.now) (sym many) long
