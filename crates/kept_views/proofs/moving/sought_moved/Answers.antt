use Rattle.std.proofs.Common.{◌≡◌, ◌≤◌, ◌+◌, ℕ, List, option_map, sym, ◌∙◌, subst}
use Rattle.value_core.specs.Values.{Row}
use Rattle.kept_views.specs.Kept.{heading_or_none, rows_or_none, left_key, right_key, view_key}
use Rattle.kept_views.specs.Sorted.{AreBehind}
use Rattle.kept_views.specs.Touched.{left_of, right_of}
use Rattle.kept_views.proofs.NarrowLemmas.{narrow_right, narrowed, narrowed_right, narrowed_moved, narrowed_cost}
use Rattle.kept_views.proofs.moving.sought_moved.Goals as goal

pub returns-clause-moved : goal.returns-clause-moved
returns-clause-moved g c =
    let rule = c.args.rule.now in
    let left = left_of c.args.groups.after in
    let right = right_of c.args.groups.after in
    let key = c.args.key.now in
    let view = c.args.groups.view.now in
    let places = view_key rule.op rule.left left.heading (heading_or_none right) in
    let here = left_key rule.op rule.left left.heading (heading_or_none right) in
    let there = right_key rule.op rule.left left.heading (heading_or_none right) in
    let of_view = subst (λ (l : List (Row × Row)). AreBehind places key view.rows l) (sym c.as_slice.ensures.value) c.requires.group.of_view in
    let of_left = subst (λ (l : List (Row × Row)). AreBehind here key left.rows l) (sym c.as_slice-2.ensures.value) c.requires.group.of_left in
    let of_right = subst (λ (l : List (Row × Row)). AreBehind there key (rows_or_none right) l) (sym c.as_slice-3.ensures.value) c.requires.group.of_right in
    let ev = narrowed places key view c.in_ok-view.view c.as_slice.result.now of_view c.in_ok-view.ensures.heading c.in_ok-view.ensures.rows in
    let el = narrowed here key left c.in_ok-left.left c.as_slice-2.result.now of_left c.in_ok-left.ensures.heading c.in_ok-left.ensures.rows in
    let er : option_map (λ r. r.now) c.as_ref.result ≡ narrow_right rule left right key = c.as_ref.ensures.value ∙ c.in_ok-right.ensures ∙ narrowed_right rule left right key c.as_slice-3.result.now of_right in
    narrowed_moved rule left right key c.read.ensures c.requires.fits view c.in_ok-view.view c.in_ok-left.left (option_map (λ r. r.now) c.as_ref.result) ev el er c.group_moved.result c.group_moved.ensures.moved

pub returns-clause-cost : goal.returns-clause-cost
returns-clause-cost g c =
    let rule = c.args.rule.now in
    let left = left_of c.args.groups.after in
    let right = right_of c.args.groups.after in
    let key = c.args.key.now in
    let here = left_key rule.op rule.left left.heading (heading_or_none right) in
    let there = right_key rule.op rule.left left.heading (heading_or_none right) in
    let of_left = subst (λ (l : List (Row × Row)). AreBehind here key left.rows l) (sym c.as_slice-2.ensures.value) c.requires.group.of_left in
    let of_right = subst (λ (l : List (Row × Row)). AreBehind there key (rows_or_none right) l) (sym c.as_slice-3.ensures.value) c.requires.group.of_right in
    let el = narrowed here key left c.in_ok-left.left c.as_slice-2.result.now of_left c.in_ok-left.ensures.heading c.in_ok-left.ensures.rows in
    let er : option_map (λ r. r.now) c.as_ref.result ≡ narrow_right rule left right key = c.as_ref.ensures.value ∙ c.in_ok-right.ensures ∙ narrowed_right rule left right key c.as_slice-3.result.now of_right in
    let same = narrowed_cost rule left right key c.in_ok-left.left (option_map (λ r. r.now) c.as_ref.result) el er in
    subst (λ (n : ℕ). c.group_moved.new.steps ≤ c.args.steps.now + n) same c.group_moved.ensures.cost
