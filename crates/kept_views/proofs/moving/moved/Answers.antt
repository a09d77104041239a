use Rattle.std.proofs.Common.{◌≡◌, ◌≤◌, ◌+◌, List, ◌∙◌, subst}
use Rattle.std.proofs.lemmas.Result.{err_from_is_err_and}
use Rattle.value_core.specs.Values.{Row}
use Rattle.kept_views.specs.Kept.{heading_or_none, kept_rows, view_heading, view_key}
use Rattle.kept_views.specs.Touched.{groups_cost, left_of, right_of}
use Rattle.kept_views.proofs.MovedLemmas.{group_refused, less, whole}
use Rattle.kept_views.proofs.TouchedLemmas.{one_heading}
use Rattle.kept_views.proofs.moving.moved.Goals as goal

pub groups_moved-requires-clause-heading : goal.groups_moved-requires-clause-heading
groups_moved-requires-clause-heading g c =
    let rule = c.args.rule.now in
    let other : heading_or_none (right_of c.args.before) ≡ heading_or_none (right_of c.args.after) = one_heading (right_of c.args.before) (right_of c.args.after) c.requires.right in
    c.requires.heading ∙ (λ t. view_heading rule.op (c.requires.left t) (other t))

pub summed-requires-clause-less : goal.summed-requires-clause-less
summed-requires-clause-less g c =
    less c.args.rule.now (left_of c.args.before) (left_of c.args.after) (right_of c.args.before) (right_of c.args.after) c.read.ensures c.read-2.ensures c.requires.before c.requires.after
    c.requires.left c.requires.right c.args.view.now.rows c.requires.rows c.as_slice-2.result.now (c.as_slice-2.ensures.value ∙ c.in_ok-keys.ensures.keys) c.args.view.now.heading c.in_ok-moves.moves c.in_ok-moves.ensures.moves

pub returns-in_err-moves-clause-moved : goal.returns-in_err-moves-clause-moved
returns-in_err-moves-clause-moved g c =
    let rule = c.args.rule.now in
    let left = left_of c.args.after in
    let right = right_of c.args.after in
    let p = err_from_is_err_and c.from_residual-in_err-moves.result c.from_residual-in_err-moves.ensures.1 in
    rw (p.1, p.2) (group_refused (view_key rule.op rule.left left.heading (heading_or_none right)) c.as_slice-2.result.now (kept_rows rule left right) _ c.in_err-moves.ensures.moves)

pub returns-in_err-moves-clause-cost : goal.returns-in_err-moves-clause-cost
returns-in_err-moves-clause-cost g c =
    subst (λ (ks : List Row). c.groups_moved.new.steps ≤ c.args.steps.now + groups_cost c.args.rule.now (left_of c.args.after) (right_of c.args.after) ks) (c.as_slice-2.ensures.value ∙ c.in_ok-keys.ensures.keys) c.groups_moved.ensures.cost

pub returns-clause-moved : goal.returns-clause-moved
returns-clause-moved g c =
    whole c.args.rule.now (left_of c.args.before) (left_of c.args.after) (right_of c.args.before) (right_of c.args.after) c.read.ensures c.read-2.ensures c.requires.before c.requires.after
    c.requires.left c.requires.right c.args.view.now.rows c.requires.rows c.as_slice-2.result.now (c.as_slice-2.ensures.value ∙ c.in_ok-keys.ensures.keys) c.args.view.now.heading c.in_ok-moves.moves c.in_ok-moves.ensures.moves c.summed.result c.summed.ensures

pub returns-clause-cost : goal.returns-clause-cost
returns-clause-cost g c =
    subst (λ (ks : List Row). c.groups_moved.new.steps ≤ c.args.steps.now + groups_cost c.args.rule.now (left_of c.args.after) (right_of c.args.after) ks) (c.as_slice-2.ensures.value ∙ c.in_ok-keys.ensures.keys) c.groups_moved.ensures.cost
