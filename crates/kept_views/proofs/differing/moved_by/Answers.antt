use Rattle.std.proofs.Common.{◌≤◌, ◌+◌, ℕ, option_map, ◌∙◌, subst}
use Rattle.std.proofs.lemmas.Result.{err_from_is_err_and}
use Rattle.kept_views.specs.Touched.{left_of, right_of}
use Rattle.kept_views.proofs.DifferingLemmas.{heading_same, heading_if, has_heading, has_heading_if, all_is, left_few, right_few, long_all, fits_parts, heading_parts, sorted_whole, moves_whole, refused_whole, cost_whole}
use Rattle.kept_views.proofs.MovedLemmas.{less, whole}
use Rattle.kept_views.proofs.differing.moved_by.Goals as goal

pub told-requires-clause-left : goal.told-requires-clause-left
told-requires-clause-left g c =
    has_heading (left_of c.args.before) g.after.0 (option_map (λ m. m.now) c.args.differences.left) c.requires.1.1.1.1.0

pub told-requires-clause-right : goal.told-requires-clause-right
told-requires-clause-right g c =
    has_heading_if (right_of c.args.before) g.after.1 (option_map (λ m. m.now) c.args.differences.right) c.requires.1.1.1.1.1.0

pub touched_parts-requires-clause-left : goal.touched_parts-requires-clause-left
touched_parts-requires-clause-left g c =
    has_heading (left_of c.args.before) g.after.0 (option_map (λ m. m.now) c.args.differences.left) c.requires.1.1.1.1.0

pub touched_parts-requires-clause-right : goal.touched_parts-requires-clause-right
touched_parts-requires-clause-right g c =
    has_heading_if (right_of c.args.before) g.after.1 (option_map (λ m. m.now) c.args.differences.right) c.requires.1.1.1.1.1.0

pub touched_parts-requires-clause-few_left : goal.touched_parts-requires-clause-few_left
touched_parts-requires-clause-few_left g c =
    left_few c.args.rule.now (left_of c.args.before) g.after.0 (right_of c.args.before) g.after.1 c.requires.1.1.1.0 (option_map (λ m. m.now) c.args.differences.left) (option_map (λ m. m.now) c.args.differences.right) c.requires.1.1.1.1.0 c.requires.1.1.1.1.1.0 c.as_slice-keys.result.now (c.as_slice-keys.ensures.value ∙ c.in_ok-list.ensures.keys)

pub touched_parts-requires-clause-few_right : goal.touched_parts-requires-clause-few_right
touched_parts-requires-clause-few_right g c =
    right_few c.args.rule.now (left_of c.args.before) g.after.0 (right_of c.args.before) g.after.1 c.requires.1.1.1.0 (option_map (λ m. m.now) c.args.differences.left) (option_map (λ m. m.now) c.args.differences.right) c.requires.1.1.1.1.0 c.requires.1.1.1.1.1.0 c.as_slice-keys.result.now (c.as_slice-keys.ensures.value ∙ c.in_ok-list.ensures.keys)

pub touched_parts-requires-clause-long : goal.touched_parts-requires-clause-long
touched_parts-requires-clause-long g c =
    long_all c.args.rule.now (left_of c.args.before) g.after.0 (right_of c.args.before) g.after.1 c.requires.1.1.1.0 (option_map (λ m. m.now) c.args.differences.left) (option_map (λ m. m.now) c.args.differences.right) c.requires.1.1.1.1.0 c.requires.1.1.1.1.1.0 c.as_slice-keys.result.now (c.as_slice-keys.ensures.value ∙ c.in_ok-list.ensures.keys)

pub sorted_all-requires-clause-fits : goal.sorted_all-requires-clause-fits
sorted_all-requires-clause-fits g c =
    fits_parts c.args.rule.now (left_of c.args.before) g.after.0 (right_of c.args.before) g.after.1 c.requires.1.1.1.0 (option_map (λ m. m.now) c.args.differences.left) (option_map (λ m. m.now) c.args.differences.right) c.requires.1.1.1.1.0 c.requires.1.1.1.1.1.0 c.as_slice-keys.result.now (c.as_slice-keys.ensures.value ∙ c.in_ok-list.ensures.keys) c.requires.1.1.0 c.args.view.now c.in_ok-parts.parts c.in_ok-parts.ensures (option_map (λ r. r.now) c.as_ref-right.result) c.as_ref-right.ensures.value

pub sorted_all-requires-clause-heading : goal.sorted_all-requires-clause-heading
sorted_all-requires-clause-heading g c =
    c.in_ok-parts.ensures.view_heading ∙ c.requires.1.1.1.1.1.1.0 ∙ heading_parts c.args.rule.now (left_of c.args.before) g.after.0 (right_of c.args.before) g.after.1 c.requires.1.1.1.0 (option_map (λ m. m.now) c.args.differences.left) (option_map (λ m. m.now) c.args.differences.right) c.requires.1.1.1.1.0 c.requires.1.1.1.1.1.0 c.as_slice-keys.result.now (c.as_slice-keys.ensures.value ∙ c.in_ok-list.ensures.keys) c.requires.1.1.0 c.args.view.now c.in_ok-parts.parts c.in_ok-parts.ensures (option_map (λ r. r.now) c.as_ref-right.result) c.as_ref-right.ensures.value

pub view_moved-requires-clause-fits : goal.view_moved-requires-clause-fits
view_moved-requires-clause-fits g c =
    fits_parts c.args.rule.now (left_of c.args.before) g.after.0 (right_of c.args.before) g.after.1 c.requires.1.1.1.0 (option_map (λ m. m.now) c.args.differences.left) (option_map (λ m. m.now) c.args.differences.right) c.requires.1.1.1.1.0 c.requires.1.1.1.1.1.0 c.as_slice-keys.result.now (c.as_slice-keys.ensures.value ∙ c.in_ok-list.ensures.keys) c.requires.1.1.0 c.args.view.now c.in_ok-parts.parts c.in_ok-parts.ensures (option_map (λ r. r.now) c.as_ref-right.result) c.as_ref-right.ensures.value

pub view_moved-requires-clause-heading : goal.view_moved-requires-clause-heading
view_moved-requires-clause-heading g c =
    c.requires.1.1.1.1.1.1.0 ∙ heading_parts c.args.rule.now (left_of c.args.before) g.after.0 (right_of c.args.before) g.after.1 c.requires.1.1.1.0 (option_map (λ m. m.now) c.args.differences.left) (option_map (λ m. m.now) c.args.differences.right) c.requires.1.1.1.1.0 c.requires.1.1.1.1.1.0 c.as_slice-keys.result.now (c.as_slice-keys.ensures.value ∙ c.in_ok-list.ensures.keys) c.requires.1.1.0 c.args.view.now c.in_ok-parts.parts c.in_ok-parts.ensures (option_map (λ r. r.now) c.as_ref-right.result) c.as_ref-right.ensures.value

pub view_moved-requires-clause-sorted : goal.view_moved-requires-clause-sorted
view_moved-requires-clause-sorted g c =
    sorted_whole c.args.rule.now (left_of c.args.before) g.after.0 (right_of c.args.before) g.after.1 c.requires.1.1.1.0 (option_map (λ m. m.now) c.args.differences.left) (option_map (λ m. m.now) c.args.differences.right) c.requires.1.1.1.1.0 c.requires.1.1.1.1.1.0 c.as_slice-keys.result.now (c.as_slice-keys.ensures.value ∙ c.in_ok-list.ensures.keys) c.requires.1.1.0 c.args.view.now c.in_ok-parts.parts c.in_ok-parts.ensures (option_map (λ r. r.now) c.as_ref-right.result) c.as_ref-right.ensures.value c.in_ok-all.all c.in_ok-all.ensures

pub summed-requires-clause-less : goal.summed-requires-clause-less
summed-requires-clause-less g c =
    less c.args.rule.now (left_of c.args.before) g.after.0 (right_of c.args.before) g.after.1 c.read.ensures c.requires.1.1.1.0 c.requires.1.0 c.requires.1.1.0
    (heading_same (left_of c.args.before) g.after.0 (option_map (λ m. m.now) c.args.differences.left) c.requires.1.1.1.1.0) (heading_if (right_of c.args.before) g.after.1 (option_map (λ m. m.now) c.args.differences.right) c.requires.1.1.1.1.1.0)
    c.args.view.now.rows c.requires.1.1.1.1.1.1.1 c.as_slice-keys.result.now (c.as_slice-keys.ensures.value ∙ c.in_ok-list.ensures.keys ∙ all_is c.args.rule.now (left_of c.args.before) g.after.0 (right_of c.args.before) g.after.1 c.requires.1.1.1.0 (option_map (λ m. m.now) c.args.differences.left) (option_map (λ m. m.now) c.args.differences.right) c.requires.1.1.1.1.0 c.requires.1.1.1.1.1.0)
    c.args.view.now.heading c.in_ok-moves.moves (moves_whole c.args.rule.now (left_of c.args.before) g.after.0 (right_of c.args.before) g.after.1 c.requires.1.1.1.0 (option_map (λ m. m.now) c.args.differences.left) (option_map (λ m. m.now) c.args.differences.right) c.requires.1.1.1.1.0 c.requires.1.1.1.1.1.0 c.as_slice-keys.result.now (c.as_slice-keys.ensures.value ∙ c.in_ok-list.ensures.keys) c.requires.1.1.0 c.args.view.now c.in_ok-parts.parts c.in_ok-parts.ensures (option_map (λ r. r.now) c.as_ref-right.result) c.as_ref-right.ensures.value c.args.view.now.heading c.args.view.now.rows c.in_ok-moves.moves c.in_ok-moves.ensures.moves)

pub returns-in_err-moves-clause-moved : goal.returns-in_err-moves-clause-moved
returns-in_err-moves-clause-moved g c =
    let p = err_from_is_err_and c.from_residual-in_err-moves.result c.from_residual-in_err-moves.ensures.1 in
    rw (p.1, p.2) (refused_whole c.args.rule.now (left_of c.args.before) g.after.0 (right_of c.args.before) g.after.1 c.requires.1.1.1.0 (option_map (λ m. m.now) c.args.differences.left) (option_map (λ m. m.now) c.args.differences.right) c.requires.1.1.1.1.0 c.requires.1.1.1.1.1.0 c.as_slice-keys.result.now (c.as_slice-keys.ensures.value ∙ c.in_ok-list.ensures.keys) c.requires.1.1.0 c.args.view.now c.in_ok-parts.parts c.in_ok-parts.ensures (option_map (λ r. r.now) c.as_ref-right.result) c.as_ref-right.ensures.value _ c.in_err-moves.ensures.moves)

pub returns-in_err-moves-clause-cost : goal.returns-in_err-moves-clause-cost
returns-in_err-moves-clause-cost g c =
    subst (λ (n : ℕ). c.view_moved.new.steps ≤ c.args.steps.now + n) (cost_whole c.args.rule.now (left_of c.args.before) g.after.0 (right_of c.args.before) g.after.1 c.requires.1.1.1.0 (option_map (λ m. m.now) c.args.differences.left) (option_map (λ m. m.now) c.args.differences.right) c.requires.1.1.1.1.0 c.requires.1.1.1.1.1.0 c.as_slice-keys.result.now (c.as_slice-keys.ensures.value ∙ c.in_ok-list.ensures.keys) c.requires.1.1.0 c.args.view.now c.in_ok-parts.parts c.in_ok-parts.ensures (option_map (λ r. r.now) c.as_ref-right.result) c.as_ref-right.ensures.value) c.view_moved.ensures.cost

pub returns-clause-moved : goal.returns-clause-moved
returns-clause-moved g c =
    whole c.args.rule.now (left_of c.args.before) g.after.0 (right_of c.args.before) g.after.1 c.read.ensures c.requires.1.1.1.0 c.requires.1.0 c.requires.1.1.0
    (heading_same (left_of c.args.before) g.after.0 (option_map (λ m. m.now) c.args.differences.left) c.requires.1.1.1.1.0) (heading_if (right_of c.args.before) g.after.1 (option_map (λ m. m.now) c.args.differences.right) c.requires.1.1.1.1.1.0)
    c.args.view.now.rows c.requires.1.1.1.1.1.1.1 c.as_slice-keys.result.now (c.as_slice-keys.ensures.value ∙ c.in_ok-list.ensures.keys ∙ all_is c.args.rule.now (left_of c.args.before) g.after.0 (right_of c.args.before) g.after.1 c.requires.1.1.1.0 (option_map (λ m. m.now) c.args.differences.left) (option_map (λ m. m.now) c.args.differences.right) c.requires.1.1.1.1.0 c.requires.1.1.1.1.1.0)
    c.args.view.now.heading c.in_ok-moves.moves (moves_whole c.args.rule.now (left_of c.args.before) g.after.0 (right_of c.args.before) g.after.1 c.requires.1.1.1.0 (option_map (λ m. m.now) c.args.differences.left) (option_map (λ m. m.now) c.args.differences.right) c.requires.1.1.1.1.0 c.requires.1.1.1.1.1.0 c.as_slice-keys.result.now (c.as_slice-keys.ensures.value ∙ c.in_ok-list.ensures.keys) c.requires.1.1.0 c.args.view.now c.in_ok-parts.parts c.in_ok-parts.ensures (option_map (λ r. r.now) c.as_ref-right.result) c.as_ref-right.ensures.value c.args.view.now.heading c.args.view.now.rows c.in_ok-moves.moves c.in_ok-moves.ensures.moves) c.summed.result c.summed.ensures

pub returns-clause-cost : goal.returns-clause-cost
returns-clause-cost g c =
    subst (λ (n : ℕ). c.view_moved.new.steps ≤ c.args.steps.now + n) (cost_whole c.args.rule.now (left_of c.args.before) g.after.0 (right_of c.args.before) g.after.1 c.requires.1.1.1.0 (option_map (λ m. m.now) c.args.differences.left) (option_map (λ m. m.now) c.args.differences.right) c.requires.1.1.1.1.0 c.requires.1.1.1.1.1.0 c.as_slice-keys.result.now (c.as_slice-keys.ensures.value ∙ c.in_ok-list.ensures.keys) c.requires.1.1.0 c.args.view.now c.in_ok-parts.parts c.in_ok-parts.ensures (option_map (λ r. r.now) c.as_ref-right.result) c.as_ref-right.ensures.value) c.view_moved.ensures.cost
