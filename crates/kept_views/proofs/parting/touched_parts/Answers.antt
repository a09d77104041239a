use Rattle.std.proofs.Common.{◌≡◌, ◌≤◌, ◌<◌, ℕ, List, option_map, length, sym, ap, ◌∙◌, subst}
use Rattle.std.specs.List.{All}
use Rattle.std.proofs.lemmas.List.{length-map}
use Rattle.value_core.specs.Headings.{position_of}
use Rattle.value_core.specs.Values.{Row, most_rows}
use Rattle.u_constraints.specs.Near.{with_keys}
use Rattle.kept_views.specs.Kept.{heading_or_none, view_heading, key_names}
use Rattle.kept_views.specs.Parting.{part_after, rows_after}
use Rattle.kept_views.specs.Touched.{left_of, right_of}
use Rattle.kept_views.proofs.parting.touched_parts.Goals as goal

pub rows_with_keys-requires-clause-within : goal.rows_with_keys-requires-clause-within
rows_with_keys-requires-clause-within c =
    subst (λ (ps : List ℕ). All (λ (i : ℕ). i < length c.args.view.now.heading) ps) (sym c.as_slice.ensures.value) c.in_ok-places.ensures.within

pub rows_with_keys-requires-clause-long : goal.rows_with_keys-requires-clause-long
rows_with_keys-requires-clause-long c =
    let rule = c.args.rule.now in
    let left = left_of c.args.before in
    let other = heading_or_none (right_of c.args.before) in
    let many : length c.as_slice.result.now ≡ length (key_names rule.op rule.left left.heading other) =
    ap (λ (ps : List ℕ). length ps) (c.as_slice.ensures.value ∙ c.in_ok-places.ensures.places) ∙ length-map (key_names rule.op rule.left left.heading other) (position_of (view_heading rule.op left.heading other)) in
    subst (λ (n : ℕ). All (λ (k : Row). length k ≡ n) c.args.keys.now) (sym many) c.requires.long

pub part_after-requires-clause-few : goal.part_after-requires-clause-few
part_after-requires-clause-few c =
    subst (λ (ps : List ℕ). length (rows_after (with_keys ps c.args.keys.now (left_of c.args.before).rows) (option_map (λ m. m.now) c.args.differences.left)) ≤ most_rows)
    (sym (c.as_slice-2.ensures.value ∙ c.in_ok-here.ensures.places)) c.requires.few_left

pub part_after-requires-clause-within : goal.part_after-requires-clause-within
part_after-requires-clause-within c =
    subst (λ (ps : List ℕ). All (λ (i : ℕ). i < length (left_of c.args.before).heading) ps) (sym c.as_slice-2.ensures.value) c.in_ok-here.ensures.within

pub part_after-requires-clause-long : goal.part_after-requires-clause-long
part_after-requires-clause-long c =
    let rule = c.args.rule.now in
    let left = left_of c.args.before in
    let other = heading_or_none (right_of c.args.before) in
    let many : length c.as_slice-2.result.now ≡ length (key_names rule.op rule.left left.heading other) =
    ap (λ (ps : List ℕ). length ps) (c.as_slice-2.ensures.value ∙ c.in_ok-here.ensures.places) ∙ length-map (key_names rule.op rule.left left.heading other) (position_of left.heading) in
    subst (λ (n : ℕ). All (λ (k : Row). length k ≡ n) c.args.keys.now) (sym many) c.requires.long

pub returns : goal.returns
returns c =
    let view = c.args.view.now in
    let left = left_of c.args.before in
    let keys = c.args.keys.now in
    record {
      view_heading = c.in_ok-view.ensures.rows.0;
      view_rows = c.in_ok-view.ensures.rows.1 ∙ ap (λ (ps : List ℕ). with_keys ps keys view.rows) (c.as_slice.ensures.value ∙ c.in_ok-places.ensures.places);
      of_left = c.in_ok-left.ensures ∙ ap (λ (ps : List ℕ). part_after ps keys left (option_map (λ m. m.now) c.args.differences.left)) (c.as_slice-2.ensures.value ∙ c.in_ok-here.ensures.places);
      of_right = c.in_ok-right.ensures;
    }
