use Rattle.std.proofs.Common.{◌≡◌, ℕ, List, sym, ap, ◌∙◌, length, subst}
use Rattle.value_core.specs.Values.{Row}
use Rattle.tree_core.specs.Relvars.{read_relvars}
use Rattle.tree_core.specs.Trees.{read_tree}
use Rattle.meaning_core.specs.Meanings.{meaning_in}
use Rattle.meaning_core.specs.StoredRows.{IsValueOf}
use Rattle.stored_views.specs.Rules.{IsUnmade}
use Rattle.assign_core.specs.Keeping.{has_room_beside}
use Rattle.assign_core.proofs.KeepingLemmas.{room_then, stored_fault, stored_full}
use Rattle.assign_core.proofs.keeping.fitting_rows.Goals as goal

pub returns-then-has_room_for-clause-room : goal.returns-then-has_room_for-clause-room
returns-then-has_room_for-clause-room g c =
    let s = read_relvars c.args.relvars.now in
    let t = read_tree c.args.tree.now in
    let rows = c.in-Ok.rows in
    let is : IsValueOf s.relvars t rows = record { means = c.in-Ok.ensures.rows.is; headed = c.in-Ok.ensures.rows.headed } in
    let count = ap (λ (rs : List Row). has_room_beside (length rs) s.relvars) c.rows.ensures.rows in
    room_then s c.args.name.now t rows c.requires.made c.requires.typed is c.requires.beside ∙ (sym count ∙ (sym c.has_room_for.ensures ∙ c.if-has_room_for.true))

pub returns-else-has_room_for-clause-refused : goal.returns-else-has_room_for-clause-refused
returns-else-has_room_for-clause-refused g c =
    let s = read_relvars c.args.relvars.now in
    let t = read_tree c.args.tree.now in
    let rows = c.in-Ok.rows in
    let is : IsValueOf s.relvars t rows = record { means = c.in-Ok.ensures.rows.is; headed = c.in-Ok.ensures.rows.headed } in
    let count = ap (λ (rs : List Row). has_room_beside (length rs) s.relvars) c.rows.ensures.rows in
    stored_full s c.args.name.now t rows c.requires.made c.requires.typed is c.requires.beside
    (room_then s c.args.name.now t rows c.requires.made c.requires.typed is c.requires.beside ∙ (sym count ∙ (sym c.has_room_for.ensures ∙ c.if-has_room_for.false)))

pub returns-in-Err-TooMany-clause-refused : goal.returns-in-Err-TooMany-clause-refused
returns-in-Err-TooMany-clause-refused g c =
    let s = read_relvars c.args.relvars.now in
    let t = read_tree c.args.tree.now in
    stored_fault s c.args.name.now c.args.tree.now (subst (IsUnmade t (meaning_in s.relvars t)) c.in-Err-TooMany.field-0-is c.in-Err-TooMany.ensures.rows)
