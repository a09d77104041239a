-- The same of statements, and of the statement that is written as tokens which the grammar accepts.
use Rattle.std.proofs.Common.{◌≡◌, List, []}
use Rattle.point_core.specs.Faults.{OrFault}
use Rattle.utd_syntax.specs.Pieces.{Piece}
use Rattle.utd_syntax.specs.Plain as syntax
use Rattle.utd_syntax.specs.Plain.{Word, VarFormP, StatementP}
use Rattle.utd_syntax.specs.Verdict.{Whole}
use Rattle.utd_syntax.specs.Written.{Spells, of_statement}
use Rattle.utd_ranges.specs.Limits.{verdict_on}
use Rattle.utd_ranges.specs.Ranges.{NameIn, VarFormIn, AreWritten, has_no_value, HasValues}
use Rattle.utd_ranges.proofs.RangeLaws.{has-values}
use Rattle.tree_core.specs.Relvars.{State}
use Rattle.tree_typing.specs.Trees.{tree_typed, test_typed}
use Rattle.declaration_typing.specs.Ordinals.{ordinal_declared}
use Rattle.declaration_typing.specs.Relvars.{relvar_declared}
use Rattle.declaration_typing.specs.Rules.{rule_declared, rule_dropped}
use Rattle.declaration_typing.specs.Views.{view_declared}
use Rattle.declaration_typing.specs.Histories.{history_declared}
use Rattle.declaration_typing.specs.KeptViews.{kept_declared}
use Rattle.declaration_typing.specs.Logs.{log_declared}
use Rattle.declaration_typing.specs.Drops.{dropped}
use Rattle.item_typing.specs.Items.{assignment_typed}
use Rattle.type_check.specs.Checks.{Plain, giving, checked_var, checked}
use Rattle.type_check.specs.Refusals.{IsNotE06}
use Rattle.type_check.proofs.Refused.{then-fine}
use Rattle.type_check.proofs.TreeLaws.{tree-fine, test-fine}
use Rattle.type_check.proofs.DeclarationLaws.{ordinal-fine, base-relvar-fine, view-fine, kept-fine, history-fine, log-fine, dropped-fine, rule-fine, rule-dropped-fine}
use Rattle.type_check.proofs.ItemLaws.{assignment-fine}

giving-fine : {A : Type 0} (f : A → Plain) (typed : OrFault A) → IsNotE06 typed → IsNotE06 (giving f typed)
giving-fine f typed h = then-fine typed _ h (λ x. tt)

var-fine : (state : State) (w : Word) (form : VarFormP) → NameIn has_no_value w → VarFormIn has_no_value form → IsNotE06 (checked_var state w form)
var-fine state w (syntax.BaseRelvar at heading constraints) h g = giving-fine _ (relvar_declared state w heading constraints) (base-relvar-fine state w heading constraints h g.0 g.1)
var-fine state w (syntax.View at rel) h g = giving-fine _ (view_declared state w rel) (view-fine state w rel h g)
var-fine state w (syntax.Kept at kept) h g = giving-fine _ (kept_declared state w kept) (kept-fine state w kept h g)

-- the typing of a statement whose names and literals each stand for a name or a value
pub statement-fine : (state : State) (s : StatementP) → HasValues s → IsNotE06 (checked state s)
statement-fine state syntax.Nothing h = tt
statement-fine state (syntax.DeclareOrdinal at w values) h = giving-fine _ (ordinal_declared state w values) (ordinal-fine state w values h.0 h.1)
statement-fine state (syntax.DeclareRelvar at w form) h = var-fine state w form h.0 h.1
statement-fine state (syntax.DeclareLog at log source attribute) h = giving-fine _ (log_declared state log source attribute) (log-fine state log source attribute h.0 h.1 h.2)
statement-fine state (syntax.DeclareHistory at w heading key since began during lasted point) h =
    giving-fine _ (history_declared state at w heading key since began during lasted point)
    (history-fine state at w heading key since began during lasted point h.0 h.1 h.3 h.4 h.5 h.6)
statement-fine state (syntax.Drop at w) h = giving-fine _ (dropped state w) (dropped-fine state w h)
statement-fine state (syntax.DeclareRule at w test) h = giving-fine _ (rule_declared state w test) (rule-fine state w test h.0 h.1)
statement-fine state (syntax.DropRule at con w) h = giving-fine _ (rule_dropped state w) (rule-dropped-fine state w h)
statement-fine state (syntax.Print at rel) h = giving-fine _ (tree_typed state rel) (tree-fine state rel h)
statement-fine state (syntax.Ask at test) h = giving-fine _ (test_typed state test) (test-fine state test h)
statement-fine state (syntax.Assignment a) h = giving-fine _ (assignment_typed state a) (assignment-fine state a h)

-- the typing of the statement that is written as tokens of a text which no limit refuses
pub written-fine : (state : State) (tokens : List Piece) (s : StatementP) → AreWritten tokens → verdict_on tokens ≡ Whole → Spells (of_statement s) tokens [] → IsNotE06 (checked state s)
written-fine state tokens s written whole spelled = statement-fine state s (has-values tokens s written spelled whole)
