use Rattle.std.proofs.Common.{◌≡◌, ◌∙◌, [], map, option_map, subst}
use Rattle.tree_core.specs.Relvars.{read_entry}
use Rattle.tree_core.specs.Trees.{read_tree}
use Rattle.meaning_core.specs.WellMade.{sizes_of, headings_of}
use Rattle.relvar_logs.specs.Changes.{Changes, changed}
use Rattle.stored_views.specs.Operands.{AreValues}
use Rattle.stored_views.proofs.MoveLemmas.{moved_fits, moved_view, moved_cost, view_up}
use Rattle.stored_views.proofs.OperandLemmas.{stored_operands}
use Rattle.stored_views.proofs.ViewMoveLemmas.{placed_told, relations_if, right_if}
use Rattle.stored_views.proofs.moving.told_move.Goals as goal

pub operands-requires-clause-operands : goal.operands-requires-clause-operands
operands-requires-clause-operands g c =
    stored_operands (sizes_of c.args.relvars.now.ordinals) (map read_entry c.args.relvars.now.list.entries) (read_tree c.args.tree.now) c.requires.1.0.0 c.requires.1.0.1

pub moved_by-requires : goal.moved_by-requires
moved_by-requires g c κs within =
    let es = map read_entry c.args.relvars.now.list.entries in
    let all = changed g.after.0 es in
    let t = read_tree c.args.tree.now in
    let sizes = sizes_of c.args.relvars.now.ordinals in
    let left = c.operands.result.0.now in
    let right = option_map (λ r. r.now) c.operands.result.1 in
    let none : c.as_slice.result.now ≡ [] = c.as_slice.ensures.value ∙ c.new-none.ensures.items in
    let values = subst (λ (cs : Changes). AreValues (changed cs es) t left right) none c.operands.ensures.values in
    let after = c.requires.1.1.1.0 in
    let told = c.requires.1.1.1.1.told left g.after.1.0 right g.after.1.1 (relations_if left right c.operands.ensures.left c.operands.ensures.right) values after in
    let both = right_if g.after.1.0 g.after.1.1 told.relations in
    let view = moved_view sizes (headings_of es) t c.requires.1.0.0 c.in_ok-rule.rule c.in_ok-rule.ensures es left right c.operands.ensures.left c.operands.ensures.right values
    c.args.view.now c.requires.1.1.0 in
    let fits = moved_fits sizes (headings_of es) t c.requires.1.0.0 c.in_ok-rule.rule c.in_ok-rule.ensures es left right c.operands.ensures.left c.operands.ensures.right values in
    let fits-after = moved_fits sizes (headings_of es) t c.requires.1.0.0 c.in_ok-rule.rule c.in_ok-rule.ensures all g.after.1.0 g.after.1.1 both.0 both.1 after in
    (within, (fits, (fits-after, (told.relations, (told.left, (told.right, view))))))

pub returns-clause-moved : goal.returns-clause-moved
returns-clause-moved g c =
    let es = map read_entry c.args.relvars.now.list.entries in
    let all = changed g.after.0 es in
    let t = read_tree c.args.tree.now in
    let sizes = sizes_of c.args.relvars.now.ordinals in
    let left = c.operands.result.0.now in
    let right = option_map (λ r. r.now) c.operands.result.1 in
    let none : c.as_slice.result.now ≡ [] = c.as_slice.ensures.value ∙ c.new-none.ensures.items in
    let values = subst (λ (cs : Changes). AreValues (changed cs es) t left right) none c.operands.ensures.values in
    let after = c.requires.1.1.1.0 in
    let told = c.requires.1.1.1.1.told left g.after.1.0 right g.after.1.1 (relations_if left right c.operands.ensures.left c.operands.ensures.right) values after in
    let up = view_up sizes (headings_of es) t c.requires.1.0.0 c.in_ok-rule.rule c.in_ok-rule.ensures es left right c.operands.ensures.left c.operands.ensures.right values c.args.view.now c.requires.1.1.0 in
    placed_told sizes (headings_of es) t c.requires.1.0.0 c.in_ok-rule.rule c.in_ok-rule.ensures all g.after.1.0 g.after.1.1 told.relations after es c.args.view.now c.requires.1.1.0 up
    c.moved_by.result c.moved_by.ensures.moved

pub returns-clause-cost : goal.returns-clause-cost
returns-clause-cost g c =
    let es = map read_entry c.args.relvars.now.list.entries in
    let all = changed g.after.0 es in
    let t = read_tree c.args.tree.now in
    let sizes = sizes_of c.args.relvars.now.ordinals in
    let left = c.operands.result.0.now in
    let right = option_map (λ r. r.now) c.operands.result.1 in
    let none : c.as_slice.result.now ≡ [] = c.as_slice.ensures.value ∙ c.new-none.ensures.items in
    let values = subst (λ (cs : Changes). AreValues (changed cs es) t left right) none c.operands.ensures.values in
    let after = c.requires.1.1.1.0 in
    moved_cost sizes (headings_of es) t c.requires.1.0.0 c.in_ok-rule.rule c.in_ok-rule.ensures es all left g.after.1.0 right g.after.1.1
    c.args.steps.now c.moved_by.new.steps values after c.moved_by.ensures.cost
