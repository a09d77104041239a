-- The typing of the items of an assignment: the typed item, or the first refusal. All items are typed for the same state.
--     item_typed state x, items_typed state before items
use Rattle.std.specs.Prelude.{List, [], ◌∷◌, ◌++◌, Ok, Some, None}
use Rattle.point_core.specs.declared.fault.Place.{Place}
use Rattle.point_core.specs.Faults.{OrFault}
use Rattle.utd_syntax.specs.Plain as syntax
use Rattle.utd_syntax.specs.Plain.{Word, NameListP, RelP, ConditionP, MaybePortionP, SomeElementsP, SetsP, DeletionP, UsedDeletionP, UsedItemP, ItemP, AssignP}
use Rattle.value_core.specs.Values.{Heading}
use Rattle.scalar_typing.specs.Typings.{◌>>=◌}
use Rattle.tree_core.specs.Items.{PlainItemForm, set_to, insert, delete, delete_rows, update, PlainItem}
use Rattle.tree_core.specs.Relvars.{State}
use Rattle.tree_core.specs.Trees.{heading_of}
use Rattle.meaning_core.specs.Meanings.{positions_of}
use Rattle.node_typing.specs.Lists.{list_checked}
use Rattle.node_typing.specs.Rows.{item_list, condition_typed}
use Rattle.item_typing.specs.Changes.{change, condition_if, portion_typed, portion_if, portion_names, names_if, works_at_points}
use Rattle.item_typing.specs.Endings.{ending_typed}
use Rattle.item_typing.specs.Sets.{sets_made}
use Rattle.item_typing.specs.Targets.{item_of, target_typed, rows_typed}

-- ---- over the target's heading

-- the portion, the condition; then E18
abbrev pub portion_deleted : State → Heading → SomeElementsP → ConditionP → OrFault PlainItemForm
portion_deleted state heading elements condition = do
  portion ← portion_typed state.ordinals heading elements
  c ← condition_if state.ordinals heading condition
  sweepable ← works_at_points heading (Some (portion_names elements)) c [] []
  Ok (delete_rows (change None (Some portion) c))

abbrev pub deletion_typed : State → Word → Heading → DeletionP → OrFault PlainItemForm
deletion_typed state w heading (syntax.DeleteWhere at s) = do
  c ← condition_typed state.ordinals at heading s
  Ok (delete_rows (change None None (Some c)))
deletion_typed state w heading (syntax.DeletePortion (syntax.Portion at elements) condition) = portion_deleted state heading elements condition
deletion_typed state w heading (syntax.DeleteRows rel) = do
  t ← rows_typed state w heading rel
  Ok (delete None t)

-- the portion, the condition, the items; then E19 and E18
abbrev pub update_typed : State → Heading → MaybePortionP → ConditionP → SetsP → OrFault PlainItemForm
update_typed state heading portion condition sets = do
  p ← portion_if state.ordinals heading portion
  c ← condition_if state.ordinals heading condition
  made ← sets_made state.ordinals heading sets
  sweepable ← works_at_points heading (names_if portion) c (item_list sets) made
  Ok (update (change None p c) made)

-- under USING: the list behind the operand, or before the condition
abbrev pub used_rows_typed : State → Word → Heading → NameListP → RelP → OrFault PlainItemForm
used_rows_typed state w heading list rel = do
  t ← rows_typed state w heading rel
  names ← list_checked heading (heading_of t) list
  Ok (delete (Some (positions_of heading names)) t)

abbrev pub used_deletion_typed : State → Word → Heading → NameListP → UsedDeletionP → OrFault PlainItemForm
used_deletion_typed state w heading list (syntax.UsedDeleteWhere at s) = do
  names ← list_checked heading heading list
  c ← condition_typed state.ordinals at heading s
  sweepable ← works_at_points heading (Some names) (Some c) [] []
  Ok (delete_rows (change (Some (positions_of heading names)) None (Some c)))
used_deletion_typed state w heading list (syntax.UsedDeleteRows rel) = used_rows_typed state w heading list rel

abbrev pub used_update_typed : State → Heading → NameListP → ConditionP → SetsP → OrFault PlainItemForm
used_update_typed state heading list condition sets = do
  names ← list_checked heading heading list
  c ← condition_if state.ordinals heading condition
  made ← sets_made state.ordinals heading sets
  sweepable ← works_at_points heading (Some names) c (item_list sets) made
  Ok (update (change (Some (positions_of heading names)) None c) made)

-- ---- items

abbrev pub used_item_typed : State → Place → NameListP → UsedItemP → OrFault PlainItem
used_item_typed state place list (syntax.UsedInsert at w rel) = do
  target ← target_typed state w
  t ← rows_typed state w target.1 rel
  names ← list_checked target.1 (heading_of t) list
  Ok (item_of place target (insert (Some (positions_of target.1 names)) t))
used_item_typed state place list (syntax.UsedDelete at w deletion) = do
  target ← target_typed state w
  form ← used_deletion_typed state w target.1 list deletion
  Ok (item_of place target form)
used_item_typed state place list (syntax.UsedUpdate at w condition sets) = do
  target ← target_typed state w
  form ← used_update_typed state target.1 list condition sets
  Ok (item_of place target form)

abbrev pub setting_typed : State → Word → RelP → OrFault PlainItem
setting_typed state w rel = do
  target ← target_typed state w
  t ← rows_typed state w target.1 rel
  Ok (item_of w.place target (set_to t))

abbrev pub insertion_typed : State → Place → Word → RelP → OrFault PlainItem
insertion_typed state place w rel = do
  target ← target_typed state w
  t ← rows_typed state w target.1 rel
  Ok (item_of place target (insert None t))

abbrev pub deletion_item_typed : State → Place → Word → DeletionP → OrFault PlainItem
deletion_item_typed state place w deletion = do
  target ← target_typed state w
  form ← deletion_typed state w target.1 deletion
  Ok (item_of place target form)

abbrev pub update_item_typed : State → Place → Word → MaybePortionP → ConditionP → SetsP → OrFault PlainItem
update_item_typed state place w portion condition sets = do
  target ← target_typed state w
  form ← update_typed state target.1 portion condition sets
  Ok (item_of place target form)

abbrev pub item_typed : State → ItemP → OrFault PlainItem
item_typed state (syntax.SetRelvar w rel) = setting_typed state w rel
item_typed state (syntax.Insert at w rel) = insertion_typed state at w rel
item_typed state (syntax.Delete at w deletion) = deletion_item_typed state at w deletion
item_typed state (syntax.Update at w p c sets) = update_item_typed state at w p c sets
item_typed state (syntax.Terminate place w at s c) = ending_typed state place w at s c
item_typed state (syntax.UsingItem at list item) = used_item_typed state at list item

-- the items behind those so far, in the order of the text
abbrev pub items_typed : State → List PlainItem → List ItemP → OrFault (List PlainItem)
items_typed state before [] = Ok before
items_typed state before (x ∷ rest) = do
  item ← item_typed state x
  items_typed state (before ++ item ∷ []) rest

-- the items of an assignment
abbrev pub listed_items : AssignP → List ItemP
listed_items (syntax.Assign first more) = first ∷ more

abbrev pub assignment_typed : State → AssignP → OrFault (List PlainItem)
assignment_typed state assignment = items_typed state [] (listed_items assignment)
