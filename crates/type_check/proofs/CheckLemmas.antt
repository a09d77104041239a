-- What is typed of a statement can be performed on a well made state.
use Rattle.std.specs.Prelude.{Result, Ok, Err, IfOk}
use Rattle.std.proofs.Common.{subst}
use Rattle.point_core.specs.Faults.{OrFault}
use Rattle.utd_syntax.specs.Plain as syntax
use Rattle.utd_syntax.specs.Plain.{Word, VarFormP, StatementP}
use Rattle.value_core.specs.declared.refuse.Refuse.{Refuse}
use Rattle.tree_core.specs.Relvars.{State}
use Rattle.meaning_core.specs.WellMade.{IsWellMade}
use Rattle.tree_typing.specs.Trees.{tree_typed, test_typed}
use Rattle.declaration_typing.specs.Drops.{dropped}
use Rattle.declaration_typing.specs.Histories.{history_declared}
use Rattle.declaration_typing.specs.KeptViews.{kept_declared}
use Rattle.declaration_typing.specs.Logs.{log_declared}
use Rattle.declaration_typing.specs.Ordinals.{ordinal_declared}
use Rattle.declaration_typing.specs.Relvars.{relvar_declared}
use Rattle.declaration_typing.specs.Rules.{rule_declared, rule_dropped}
use Rattle.declaration_typing.specs.Views.{view_declared}
use Rattle.item_typing.specs.Items.{assignment_typed}
use Rattle.type_check.specs.declared.checked.Checked.{Checked}
use Rattle.type_check.specs.Checks.{Plain, declare_ordinal, declare_base, declare_view, declare_kept, declare_history, declare_log, remove, declare_rule, remove_rule, assign, print, ask, read_checked, giving, checked_var, checked, Checks, IsTypedPlain}
use Rattle.type_check.proofs.DeclarationLemmas.{ordinal-made, relvar-made, view-made, kept-made, history-made, log-made, drop-made, rule-made, rule-gone}
use Rattle.type_check.proofs.ItemTypedLemmas.{assignment-sound}
use Rattle.type_check.proofs.TreeLemmas.{tree-sound, test-sound}

-- ---- what is given

-- what holds of what is typed holds of what the statement does
given : {X : Type 0} (f : X → Plain) (P : Plain → Type 0) (typed : OrFault X) → IfOk typed (λ x. P (f x)) → IfOk (giving f typed) P
given f P (Ok x) h = h
given f P (Err e) h = tt

module _ (state : State) (made : IsWellMade state) where
  var-typed : (w : Word) (form : VarFormP) → IfOk (checked_var state w form) (IsTypedPlain state)
  var-typed w (syntax.BaseRelvar at heading constraints) =
      given declare_base (IsTypedPlain state) (relvar_declared state w heading constraints) (relvar-made state made w heading constraints)
  var-typed w (syntax.View at rel) = given declare_view (IsTypedPlain state) (view_declared state w rel) (view-made state made w rel)
  var-typed w (syntax.Kept at kept) = given (λ v. declare_kept v.0 v.1) (IsTypedPlain state) (kept_declared state w kept) (kept-made state made w kept)

  pub checked-typed : (s : StatementP) → IfOk (checked state s) (IsTypedPlain state)
  checked-typed syntax.Nothing = tt
  checked-typed (syntax.DeclareOrdinal at w values) = given declare_ordinal (IsTypedPlain state) (ordinal_declared state w values) (ordinal-made state made w values)
  checked-typed (syntax.DeclareRelvar at w form) = var-typed w form
  checked-typed (syntax.DeclareLog at log source attribute) =
      given declare_log (IsTypedPlain state) (log_declared state log source attribute) (log-made state made log source attribute)
  checked-typed (syntax.DeclareHistory at w h key since began during lasted point) =
      given declare_history (IsTypedPlain state) (history_declared state at w h key since began during lasted point)
      (history-made state made at w h key since began during lasted point)
  checked-typed (syntax.Drop at w) = given remove (IsTypedPlain state) (dropped state w) (drop-made state made w)
  checked-typed (syntax.DeclareRule at w test) = given (λ r. declare_rule r.0 r.1) (IsTypedPlain state) (rule_declared state w test) (rule-made state made w test)
  checked-typed (syntax.DropRule at con w) = given remove_rule (IsTypedPlain state) (rule_dropped state w) (rule-gone state made w)
  checked-typed (syntax.Print at rel) = given print (IsTypedPlain state) (tree_typed state rel) (tree-sound state made rel)
  checked-typed (syntax.Ask at test) = given ask (IsTypedPlain state) (test_typed state test) (test-sound state made test)
  checked-typed (syntax.Assignment a) = given assign (IsTypedPlain state) (assignment_typed state a) (assignment-sound state made a)

-- ---- what is answered

-- what holds of what is meant holds of the answer
answered : (P : Plain → Type 0) (answer : Result Checked Refuse) (meant : OrFault Plain) → Checks answer meant → IfOk meant P → IfOk answer (λ (c : Checked). P (read_checked c))
answered P (Ok c) meant e h = subst (λ (r : OrFault Plain). IfOk r P) e h
answered P (Err refusal) meant e h = tt

pub answer-typed : (state : State) (s : StatementP) (answer : Result Checked Refuse) → IsWellMade state → Checks answer (checked state s)
    → IfOk answer (λ (c : Checked). IsTypedPlain state (read_checked c))
answer-typed state s answer made is = answered (IsTypedPlain state) answer (checked state s) is (checked-typed state made s)
