use Rattle.std.proofs.Common.{[], map, get_or, sym, subst, arith, None, Option}
use Rattle.std.specs.Prelude.{IfSome}
use Rattle.tree_core.specs.Relvars.{read_entry, read_relvar, stored}
use Rattle.tree_core.specs.Trees.{Tree, read_tree}
use Rattle.meaning_core.specs.StoredRows.{HasItsRows, IsValueThere}
use Rattle.meaning_core.specs.Typing.{IsTypedTree}
use Rattle.meaning_core.specs.WellMade.{sizes_of, headings_of, IsOfKind}
use Rattle.relvar_logs.specs.Changes.{changed}
use Rattle.relvar_logs.proofs.EntryLemmas.{entries_length, so_there}
use Rattle.stored_views.proofs.CountLemmas.{rows_there, view_there}
use Rattle.stored_views.proofs.MoveLemmas.{takes_put, idle_takes}
use Rattle.stored_views.proofs.NextLemmas.{few_put}
use Rattle.stored_views.proofs.OperandLemmas.{IsStoredEntry, stored_there}
use Rattle.stored_views.proofs.ViewMoveLemmas.{move_put, idle_move, told_unmade}
use Rattle.stored_views.proofs.moving.move_at.Goals as goal

pub move_of-requires : goal.move_of-requires
move_of-requires g c κs within =
    let raw = c.args.relvars.now.list.entries in
    let es = map read_entry raw in
    let sizes = sizes_of c.args.relvars.now.ordinals in
    let t = read_tree c.in-Some-stored_tree.tree.now in
    let r = read_relvar c.in-Some.relvar.now in
    let read = entries_length raw in
    let at = c.requires.1.1.1.1.1 in
    let entry = so_there raw c.args.at (IsStoredEntry sizes es) c.in-Some.field-0-0.now c.in-Some.relvar.now
    (stored_there sizes es c.args.at c.requires.1.0.relvars (omega (arith, read, at))) (sym c.in-Some.ensures.entry) in
    let here = so_there raw c.args.at (λ q. HasItsRows es q (get_or c.args.stored.now c.args.at None)) c.in-Some.field-0-0.now c.in-Some.relvar.now
    (rows_there es es [] c.args.stored.now c.args.at c.requires.1.1.0 (omega (arith, read, at))) (sym c.in-Some.ensures.entry) in
    let typed = subst (λ (o : Option Tree). IfSome o (λ t. IsTypedTree sizes (headings_of es) t × IsOfKind es t stored)) (sym c.in-Some-stored_tree.ensures) entry in
    let value = subst (IsValueThere es t) (sym c.in-Some-there.ensures) (view_there es r t (get_or c.args.stored.now c.args.at None) c.in-Some-stored_tree.ensures here) in
    (within, (typed, (value, (c.requires.1.1.1.0, c.requires.1.1.1.1.0))))

pub returns-in-Some-there-clause-moved : goal.returns-in-Some-there-clause-moved
returns-in-Some-there-clause-moved g c =
    let raw = c.args.relvars.now.list.entries in
    move_put (changed g.after (map read_entry raw)) raw c.args.at c.in-Some.field-0-0.now c.in-Some.relvar.now (sym c.in-Some.ensures.entry) (read_tree c.in-Some-stored_tree.tree.now) c.in-Some-there.view.now
    (get_or c.args.stored.now c.args.at None) c.move_of.result c.in-Some-stored_tree.ensures c.in-Some-there.ensures c.move_of.ensures.moved

pub returns-in-Some-there-clause-few : goal.returns-in-Some-there-clause-few
returns-in-Some-there-clause-few g c =
    let raw = c.args.relvars.now.list.entries in
    let t = read_tree c.in-Some-stored_tree.tree.now in
    let all = changed g.after (map read_entry raw) in
    few_put g.after raw c.args.at c.in-Some.field-0-0.now c.in-Some.relvar.now t c.move_of.result (sym c.in-Some.ensures.entry)
    c.in-Some-stored_tree.ensures (told_unmade all t c.in-Some-there.view.now c.move_of.result c.move_of.ensures.moved)

pub returns-in-Some-there-clause-cost : goal.returns-in-Some-there-clause-cost
returns-in-Some-there-clause-cost g c =
    let raw = c.args.relvars.now.list.entries in
    let es = map read_entry raw in
    takes_put es (changed g.after es) raw c.args.at c.in-Some.field-0-0.now c.in-Some.relvar.now (sym c.in-Some.ensures.entry) (read_tree c.in-Some-stored_tree.tree.now) c.args.steps.now c.move_of.new.steps
    c.in-Some-stored_tree.ensures c.move_of.ensures.cost

pub returns-in-None-stored_tree-clause-moved : goal.returns-in-None-stored_tree-clause-moved
returns-in-None-stored_tree-clause-moved g c =
    let raw = c.args.relvars.now.list.entries in
    idle_move (changed g.after (map read_entry raw)) raw c.args.at c.in-Some.field-0-0.now c.in-Some.relvar.now (sym c.in-Some.ensures.entry) (get_or c.args.stored.now c.args.at None)
    c.in-None-stored_tree.ensures

pub returns-in-None-stored_tree-clause-cost : goal.returns-in-None-stored_tree-clause-cost
returns-in-None-stored_tree-clause-cost g c =
    let raw = c.args.relvars.now.list.entries in
    let es = map read_entry raw in
    idle_takes es (changed g.after es) raw c.args.at c.in-Some.field-0-0.now c.in-Some.relvar.now (sym c.in-Some.ensures.entry) c.args.steps.now

pub unreachable-requires : goal.unreachable-requires
unreachable-requires g c =
    let raw = c.args.relvars.now.list.entries in
    let es = map read_entry raw in
    let t = read_tree c.in-Some-stored_tree.tree.now in
    let r = read_relvar c.in-Some.relvar.now in
    let read = entries_length raw in
    let at = c.requires.1.1.1.1.1 in
    let here = so_there raw c.args.at (λ q. HasItsRows es q (get_or c.args.stored.now c.args.at None)) c.in-Some.field-0-0.now c.in-Some.relvar.now
    (rows_there es es [] c.args.stored.now c.args.at c.requires.1.1.0 (omega (arith, read, at))) (sym c.in-Some.ensures.entry) in
    subst (IsValueThere es t) (sym c.in-None-there.ensures) (view_there es r t (get_or c.args.stored.now c.args.at None) c.in-Some-stored_tree.ensures here)
