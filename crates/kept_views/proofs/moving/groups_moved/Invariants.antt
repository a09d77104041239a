use Rattle.std.proofs.Common.{◌≤◌, ◌+◌, take}
use Rattle.kept_views.specs.Kept.{heading_or_none, kept_rows, view_key}
use Rattle.kept_views.specs.Touched.{AreMoves, groups_cost, left_of, right_of}
use Rattle.kept_views.proofs.moving.groups_moved.Given as goal

abbrev pub invariant-loop-key : goal.invariant-loop-key
invariant-loop-key g l = record {
  moves : AreMoves l.groups.view.now.heading (view_key l.rule.op l.rule.left (left_of l.groups.after).heading (heading_or_none (right_of l.groups.after))) (take l.key-index l.keys) l.groups.view.now.rows (kept_rows l.rule (left_of l.groups.after) (right_of l.groups.after)) l.moves;
  cost : l.steps ≤ l.initial.steps + groups_cost l.rule (left_of l.groups.after) (right_of l.groups.after) (take l.key-index l.keys);
}
