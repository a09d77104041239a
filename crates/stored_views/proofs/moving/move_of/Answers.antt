use Rattle.std.proofs.Common.{map, option_map, sym, ◌∙◌}
use Rattle.tree_core.specs.Relvars.{read_entry, read_relvars}
use Rattle.tree_core.specs.Trees.{read_tree}
use Rattle.meaning_core.specs.WellMade.{sizes_of}
use Rattle.relvar_logs.specs.Changes.{changed}
use Rattle.relvar_logs.proofs.EntryLemmas.{entries_length}
use Rattle.stored_views.proofs.DifferenceLemmas.{any_told, as_many, operands_told, values_after}
use Rattle.stored_views.proofs.OperandLemmas.{stored_operands}
use Rattle.stored_views.proofs.TouchLemmas.{value-untouched}
use Rattle.stored_views.proofs.ViewMoveLemmas.{still_view}
use Rattle.stored_views.proofs.moving.move_of.Goals as goal

pub differences_of-told-requires-clause-length : goal.differences_of-told-requires-clause-length
differences_of-told-requires-clause-length g c =
    let raw = c.args.relvars.now.list.entries in
    as_many g.after c.args.differences.now (map read_entry raw) c.requires.1.1.1.1 ∙ entries_length raw

pub told_move-requires : goal.told_move-requires
told_move-requires g c κs within =
    let es = map read_entry c.args.relvars.now.list.entries in
    let told = c.differences_of-told.result in
    let operands = operands_told g.after es c.args.differences.now c.requires.1.1.1.1 (read_tree c.args.tree.now) (option_map (λ m. m.now) told.left) (option_map (λ m. m.now) told.right)
    c.differences_of-told.ensures.left c.differences_of-told.ensures.right in
    let t = read_tree c.args.tree.now in
    let values = values_after g.after es t c.requires.1.1.1.0 (stored_operands (sizes_of c.args.relvars.now.ordinals) es t c.requires.1.0.0 c.requires.1.0.1) in
    (within, (c.requires.1.0, (c.requires.1.1.0, (values, operands))))

pub returns-then-not-is_any-clause-moved : goal.returns-then-not-is_any-clause-moved
returns-then-not-is_any-clause-moved g c =
    let s = read_relvars c.args.relvars.now in
    let t = read_tree c.args.tree.now in
    let told = c.differences_of-told.result in
    let any = any_told g.after s.relvars c.args.differences.now c.requires.1.1.1.1 t (option_map (λ m. m.now) told.left) (option_map (λ m. m.now) told.right) c.requires.1.0.1.0
    c.differences_of-told.ensures.left c.differences_of-told.ensures.right in
    still_view (changed g.after s.relvars) t c.args.view.now
    (value-untouched s g.after t c.args.view.now c.requires.1.0 c.requires.1.1.1.0 (sym any ∙ (sym c.is_any.ensures ∙ c.if-not-is_any.true)) c.requires.1.1.0)
