-- What type checking gives of a statement: what it does, typed, or the first refusal.
--     Plain, read_checked      what is given, as plain data
--     checked      the typing of a statement in a state
--     IsTypedPlain      what is given can be performed
use Rattle.std.specs.Prelude.{◌≡◌, List, map, Result, Ok, Err}
use Rattle.std.specs.List.{All}
use Rattle.point_core.specs.Faults.{OrFault}
use Rattle.utd_syntax.specs.Plain as syntax
use Rattle.utd_syntax.specs.Plain.{Word, VarFormP, StatementP}
use Rattle.value_core.specs.declared.refuse.Refuse.{Refuse}
use Rattle.value_core.specs.declared.refuse.Refuse.TheVariants as refuses
use Rattle.value_core.specs.Values.{Name}
use Rattle.scalar_typing.specs.Typings.{◌>>=◌}
use Rattle.tree_core.specs.declared.declaration.HistoryData.{HistoryData}
use Rattle.tree_core.specs.declared.declaration.LogData.{LogData}
use Rattle.tree_core.specs.Items.{PlainItem, read_item}
use Rattle.tree_core.specs.Relvars.{State, stored, view}
use Rattle.tree_core.specs.Trees.{Tree, Test, read_tree, read_test}
use Rattle.meaning_core.specs.Declarations.{PlainDeclaration, read_declaration, with_declaration, with_relvar, without_group, with_rule, without_rule}
use Rattle.meaning_core.specs.Updates.{IsTypedItem, IsTypedLog}
use Rattle.meaning_core.specs.WellMade.{IsOfKind, IsWellMade, IsTypedFor, IsTypedTestFor}
use Rattle.since_during.specs.Histories.{IsTypedHistory}
use Rattle.tree_typing.specs.Trees.{tree_typed, test_typed}
use Rattle.declaration_typing.specs.Drops.{dropped}
use Rattle.declaration_typing.specs.Histories.{history_declared}
use Rattle.declaration_typing.specs.KeptViews.{kept_declared}
use Rattle.declaration_typing.specs.Logs.{log_declared}
use Rattle.declaration_typing.specs.Ordinals.{ordinal_declared}
use Rattle.declaration_typing.specs.Relvars.{relvar_declared}
use Rattle.declaration_typing.specs.Rules.{rule_declared, rule_dropped}
use Rattle.declaration_typing.specs.Views.{view_declared}
use Rattle.item_typing.specs.Items.{assignment_typed}
use Rattle.type_check.specs.declared.checked.Checked.{Checked}
use Rattle.type_check.specs.declared.checked.Checked.TheVariants as variants

-- nothing; an ordinal type, a base relvar, a view, a stored view, a history or a log that is declared; a relvar, view or log that goes;
-- a database constraint that is declared, or goes; items of an assignment; a relation to be printed; a test whose truth is asked for
pub data Plain : Type 0 where
  nothing : Plain
  declare_ordinal : PlainDeclaration → Plain
  declare_base : PlainDeclaration → Plain
  declare_view : PlainDeclaration → Plain
  declare_kept : Name → Tree → Plain
  declare_history : HistoryData → Plain
  declare_log : LogData → Plain
  remove : Name → Plain
  declare_rule : Name → Test → Plain
  remove_rule : Name → Plain
  assign : List PlainItem → Plain
  print : Tree → Plain
  ask : Test → Plain

abbrev pub read_checked : Checked → Plain
read_checked variants.Nothing = nothing
read_checked (variants.Ordinal d) = declare_ordinal (read_declaration d)
read_checked (variants.Base d) = declare_base (read_declaration d)
read_checked (variants.View d) = declare_view (read_declaration d)
read_checked (variants.Kept name t) = declare_kept name (read_tree t)
read_checked (variants.History h) = declare_history h
read_checked (variants.Log d) = declare_log d
read_checked (variants.Remove name) = remove name
read_checked (variants.Rule name t) = declare_rule name (read_test t)
read_checked (variants.Unrule name) = remove_rule name
read_checked (variants.Assign items) = assign (map read_item items)
read_checked (variants.Print t) = print (read_tree t)
read_checked (variants.Ask t) = ask (read_test t)

-- ---- their typing

-- what is typed, as what the statement does
abbrev pub giving : {A : Type 0} → (A → Plain) → OrFault A → OrFault Plain
giving f typed = do
  x ← typed
  Ok (f x)

abbrev pub checked_var : State → Word → VarFormP → OrFault Plain
checked_var state w (syntax.BaseRelvar at heading constraints) = giving declare_base (relvar_declared state w heading constraints)
checked_var state w (syntax.View at rel) = giving declare_view (view_declared state w rel)
checked_var state w (syntax.Kept at kept) = giving (λ v. declare_kept v.0 v.1) (kept_declared state w kept)

abbrev pub checked : State → StatementP → OrFault Plain
checked state syntax.Nothing = Ok nothing
checked state (syntax.DeclareOrdinal at w values) = giving declare_ordinal (ordinal_declared state w values)
checked state (syntax.DeclareRelvar at w form) = checked_var state w form
checked state (syntax.DeclareLog at log source attribute) = giving declare_log (log_declared state log source attribute)
checked state (syntax.Drop at w) = giving remove (dropped state w)
checked state (syntax.DeclareRule at w test) = giving (λ r. declare_rule r.0 r.1) (rule_declared state w test)
checked state (syntax.DropRule at con w) = giving remove_rule (rule_dropped state w)
checked state (syntax.Assignment assignment) = giving assign (assignment_typed state assignment)
checked state (syntax.Print at rel) = giving print (tree_typed state rel)
checked state (syntax.Ask at test) = giving ask (test_typed state test)
checked state (syntax.DeclareHistory at w h key since began during lasted point) = giving declare_history (history_declared state at w h key since began during lasted point)

-- the answer is what is meant, or want of memory; a refusal has its place
abbrev pub Checks : Result Checked Refuse → OrFault Plain → Type 0
Checks (Ok c) meant = meant ≡ Ok (read_checked c)
Checks (Err (refuses.At f)) meant = meant ≡ Err f
Checks (Err refuses.Memory) meant = Unit {0}
Checks (Err (refuses.Plain code)) meant = ⊥
Checks (Err (refuses.Broken code relvar number)) meant = ⊥

-- ---- what is given can be performed

-- what is given is typed for the state, and what it makes of the state is well made; so is what a typed history or log makes of it;
-- the expression of a stored view has the form of one, over base relvars
abbrev pub IsTypedPlain : State → Plain → Type 0
IsTypedPlain state nothing = Unit {0}
IsTypedPlain state (declare_ordinal d) = IsWellMade (with_declaration state d)
IsTypedPlain state (declare_base d) = IsWellMade (with_declaration state d)
IsTypedPlain state (declare_view d) = IsWellMade (with_declaration state d)
IsTypedPlain state (declare_kept name t) =
    IsWellMade (with_relvar state name (view t stored)) × (IsTypedFor state t × IsOfKind state.relvars t stored)
IsTypedPlain state (declare_history h) = IsTypedHistory state h
IsTypedPlain state (declare_log d) = IsTypedLog state d
IsTypedPlain state (remove name) = IsWellMade (without_group name state)
IsTypedPlain state (declare_rule name t) = IsWellMade (with_rule name t state) × IsTypedTestFor state t
IsTypedPlain state (remove_rule name) = IsWellMade (without_rule name state)
IsTypedPlain state (assign items) = All (IsTypedItem state) items
IsTypedPlain state (print t) = IsTypedFor state t
IsTypedPlain state (ask t) = IsTypedTestFor state t
