use Rattle.std.proofs.Common.{◌≡◌, ◌∙◌, [], map, option_map, subst}
use Rattle.tree_core.specs.Relvars.{read_entry}
use Rattle.tree_core.specs.Trees.{read_tree}
use Rattle.meaning_core.specs.WellMade.{sizes_of, headings_of}
use Rattle.relvar_logs.specs.Changes.{Changes, changed}
use Rattle.stored_views.specs.Operands.{AreValues}
use Rattle.stored_views.proofs.MoveLemmas.{moved_fits, moved_heads, moved_view, moved_told, moved_cost, view_up}
use Rattle.stored_views.proofs.OperandLemmas.{stored_operands}
use Rattle.stored_views.proofs.TouchLemmas.{first_changes}
use Rattle.stored_views.proofs.next.moved_rows.Goals as goal

pub operands-requires-clause-operands : goal.operands-requires-clause-operands
operands-requires-clause-operands g c =
    stored_operands (sizes_of c.args.relvars.now.ordinals) (map read_entry c.args.relvars.now.list.entries) (read_tree c.args.tree.now) c.requires.stored.0 c.requires.stored.1

pub operands-requires-2-clause-operands : goal.operands-requires-2-clause-operands
operands-requires-2-clause-operands g c =
    stored_operands (sizes_of c.args.relvars.now.ordinals) (map read_entry c.args.relvars.now.list.entries) (read_tree c.args.tree.now) c.requires.stored.0 c.requires.stored.1

pub operands-requires-2-clause-changes : goal.operands-requires-2-clause-changes
operands-requires-2-clause-changes g c = first_changes c.args.changes.now (map read_entry c.args.relvars.now.list.entries) c.requires.changes

pub moved-requires-clause-before : goal.moved-requires-clause-before
moved-requires-clause-before g c =
    let es = map read_entry c.args.relvars.now.list.entries in
    let t = read_tree c.args.tree.now in
    let left = c.operands.result.0.now in
    let right = option_map (λ r. r.now) c.operands.result.1 in
    let none : c.as_slice.result.now ≡ [] = c.as_slice.ensures.value ∙ c.new-none.ensures.items in
    let values = subst (λ (cs : Changes). AreValues (changed cs es) t left right) none c.operands.ensures.values in
    moved_fits (sizes_of c.args.relvars.now.ordinals) (headings_of es) t c.requires.stored.0 c.in_ok-rule.rule c.in_ok-rule.ensures es left right c.operands.ensures.left c.operands.ensures.right values

pub moved-requires-clause-after : goal.moved-requires-clause-after
moved-requires-clause-after g c =
    let es = map read_entry c.args.relvars.now.list.entries in
    let left = c.operands-2.result.0.now in
    let right = option_map (λ r. r.now) c.operands-2.result.1 in
    moved_fits (sizes_of c.args.relvars.now.ordinals) (headings_of es) (read_tree c.args.tree.now) c.requires.stored.0 c.in_ok-rule.rule c.in_ok-rule.ensures (changed c.args.changes.now es) left right
    c.operands-2.ensures.left c.operands-2.ensures.right c.operands-2.ensures.values

pub moved-requires-clause-left : goal.moved-requires-clause-left
moved-requires-clause-left g c =
    let es = map read_entry c.args.relvars.now.list.entries in
    (moved_heads (changed c.as_slice.result.now es) (changed c.args.changes.now es) (read_tree c.args.tree.now) c.operands.result.0.now c.operands-2.result.0.now
    (option_map (λ r. r.now) c.operands.result.1) (option_map (λ r. r.now) c.operands-2.result.1) c.operands.ensures.values c.operands-2.ensures.values).0

pub moved-requires-clause-right : goal.moved-requires-clause-right
moved-requires-clause-right g c =
    let es = map read_entry c.args.relvars.now.list.entries in
    (moved_heads (changed c.as_slice.result.now es) (changed c.args.changes.now es) (read_tree c.args.tree.now) c.operands.result.0.now c.operands-2.result.0.now
    (option_map (λ r. r.now) c.operands.result.1) (option_map (λ r. r.now) c.operands-2.result.1) c.operands.ensures.values c.operands-2.ensures.values).1

pub moved-requires-clause-heading : goal.moved-requires-clause-heading
moved-requires-clause-heading g c =
    let es = map read_entry c.args.relvars.now.list.entries in
    let t = read_tree c.args.tree.now in
    let left = c.operands.result.0.now in
    let right = option_map (λ r. r.now) c.operands.result.1 in
    let none : c.as_slice.result.now ≡ [] = c.as_slice.ensures.value ∙ c.new-none.ensures.items in
    let values = subst (λ (cs : Changes). AreValues (changed cs es) t left right) none c.operands.ensures.values in
    (moved_view (sizes_of c.args.relvars.now.ordinals) (headings_of es) t c.requires.stored.0 c.in_ok-rule.rule c.in_ok-rule.ensures es left right c.operands.ensures.left c.operands.ensures.right values
    c.args.view.now c.requires.view).0

pub moved-requires-clause-rows : goal.moved-requires-clause-rows
moved-requires-clause-rows g c =
    let es = map read_entry c.args.relvars.now.list.entries in
    let t = read_tree c.args.tree.now in
    let left = c.operands.result.0.now in
    let right = option_map (λ r. r.now) c.operands.result.1 in
    let none : c.as_slice.result.now ≡ [] = c.as_slice.ensures.value ∙ c.new-none.ensures.items in
    let values = subst (λ (cs : Changes). AreValues (changed cs es) t left right) none c.operands.ensures.values in
    (moved_view (sizes_of c.args.relvars.now.ordinals) (headings_of es) t c.requires.stored.0 c.in_ok-rule.rule c.in_ok-rule.ensures es left right c.operands.ensures.left c.operands.ensures.right values
    c.args.view.now c.requires.view).1

pub returns-clause-moved : goal.returns-clause-moved
returns-clause-moved g c =
    let es = map read_entry c.args.relvars.now.list.entries in
    let t = read_tree c.args.tree.now in
    let sizes = sizes_of c.args.relvars.now.ordinals in
    let left = c.operands.result.0.now in
    let right = option_map (λ r. r.now) c.operands.result.1 in
    let none : c.as_slice.result.now ≡ [] = c.as_slice.ensures.value ∙ c.new-none.ensures.items in
    let values = subst (λ (cs : Changes). AreValues (changed cs es) t left right) none c.operands.ensures.values in
    let up = view_up sizes (headings_of es) t c.requires.stored.0 c.in_ok-rule.rule c.in_ok-rule.ensures es left right c.operands.ensures.left c.operands.ensures.right values c.args.view.now c.requires.view in
    moved_told sizes (headings_of es) t c.requires.stored.0 c.in_ok-rule.rule c.in_ok-rule.ensures (changed c.args.changes.now es) c.operands-2.result.0.now (option_map (λ r. r.now) c.operands-2.result.1)
    c.operands-2.ensures.left c.operands-2.ensures.right c.operands-2.ensures.values c.args.view.now up c.moved.result c.moved.ensures.moved

pub returns-clause-cost : goal.returns-clause-cost
returns-clause-cost g c =
    let es = map read_entry c.args.relvars.now.list.entries in
    let t = read_tree c.args.tree.now in
    let left = c.operands.result.0.now in
    let right = option_map (λ r. r.now) c.operands.result.1 in
    let none : c.as_slice.result.now ≡ [] = c.as_slice.ensures.value ∙ c.new-none.ensures.items in
    let values = subst (λ (cs : Changes). AreValues (changed cs es) t left right) none c.operands.ensures.values in
    moved_cost (sizes_of c.args.relvars.now.ordinals) (headings_of es) t c.requires.stored.0 c.in_ok-rule.rule c.in_ok-rule.ensures es (changed c.args.changes.now es) left c.operands-2.result.0.now right
    (option_map (λ r. r.now) c.operands-2.result.1) c.args.steps.now c.moved.new.steps values c.operands-2.ensures.values c.moved.ensures.cost
