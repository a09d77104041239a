-- What declarations and drops make of a well made state is well made, and a history or a log that is declared is typed for it.
use Rattle.std.specs.Prelude.{ℕ, List, [], ◌∷◌, ◌++◌, Ok, Err, IfOk}
use Rattle.std.proofs.Common.{sym, subst, append_assoc}
use Rattle.std.proofs.lemmas.List.{append-nil}
use Rattle.point_core.specs.Faults.{OrFault}
use Rattle.point_core.specs.declared.fault.Place.{Place}
use Rattle.utd_syntax.specs.Plain.{Word, PointP, NameListP, SomeNamesP, HeadingP, KeyP, ConstraintP, KeptP, RelP, TestP}
use Rattle.value_core.specs.Values.{Name, Heading}
use Rattle.tree_core.specs.declared.declaration.HistoryData.{HistoryData}
use Rattle.tree_core.specs.Relvars.{State, PlainRelvar, Entries, stored, view}
use Rattle.tree_core.specs.Trees.{Tree}
use Rattle.meaning_core.specs.Declarations.{with_declaration, with_relvar, without_group, with_rule, without_rule}
use Rattle.meaning_core.specs.Meanings.{positions_of}
use Rattle.meaning_core.specs.Typing.{IsList}
use Rattle.meaning_core.specs.Updates.{IsTypedLog}
use Rattle.meaning_core.specs.WellMade.{sizes_of, IsOfKind, IsRelvar, AreRelvars, IsTypedFor, IsTypedTestFor, IsWellMade}
use Rattle.since_during.specs.Histories.{IsTypedHistory}
use Rattle.node_typing.specs.Lists.{list_checked}
use Rattle.tree_typing.specs.Kept.{kept_rel}
use Rattle.declaration_typing.specs.Drops.{dropped}
use Rattle.declaration_typing.specs.Histories.{history_declared}
use Rattle.declaration_typing.specs.KeptViews.{kept_declared}
use Rattle.declaration_typing.specs.Logs.{log_declared}
use Rattle.declaration_typing.specs.Ordinals.{ordinal_declared}
use Rattle.declaration_typing.specs.Relvars.{relvar_declared}
use Rattle.declaration_typing.specs.Rules.{rule_scope, rule_declared, rule_dropped}
use Rattle.declaration_typing.specs.Views.{view_declared}
use Rattle.declaration_typing.proofs.DropLaws.{dropped-kept}
use Rattle.declaration_typing.proofs.HistoryLaws.{IsHistoryOf, history-kept}
use Rattle.declaration_typing.proofs.KeptLaws.{kept-kept}
use Rattle.declaration_typing.proofs.LogLaws.{log-kept}
use Rattle.declaration_typing.proofs.OrdinalLaws.{ordinal-kept}
use Rattle.declaration_typing.proofs.RelvarLaws.{relvar-kept}
use Rattle.declaration_typing.proofs.RuleLaws.{rule-kept, rule-dropped}
use Rattle.declaration_typing.proofs.ViewLaws.{view-kept}
use Rattle.type_check.proofs.ListLemmas.{AreListed, list-sound, left-list}
use Rattle.type_check.proofs.LiteralLemmas.{heading-declared}
use Rattle.type_check.proofs.ScalarLemmas.{point-declared}
use Rattle.type_check.proofs.SetTypedLemmas.{onward}
use Rattle.type_check.proofs.TreeLemmas.{tree-sound, test-sound-in}

-- a list over one heading
list-made : (to : Heading) (list : NameListP) → IfOk (list_checked to to list) (λ (names : List Name). IsList to (positions_of to names))
list-made to list = listed (list_checked to to list) (list-sound to to list)
  where
    listed : (r : OrFault (List Name)) → IfOk r (AreListed to to list) → IfOk r (λ (names : List Name). IsList to (positions_of to names))
    listed (Ok names) h = left-list to to list names h
    listed (Err e) h = tt

-- the last of some entries is typed where those before it stand
last-relvar : (sizes : List ℕ) (before es : Entries) (name : Name) (r : PlainRelvar) → AreRelvars sizes before (es ++ (name, r) ∷ []) → IsRelvar sizes (before ++ es) name r
last-relvar sizes before [] name r h = subst (λ (all : Entries). IsRelvar sizes all name r) (sym (append-nil before)) h.0
last-relvar sizes before (e ∷ es) name r h = subst (λ (all : Entries). IsRelvar sizes all name r) (append_assoc before (e ∷ []) es) (last-relvar sizes (before ++ e ∷ []) es name r h.1)

module _ (state : State) (made : IsWellMade state) where
  pub ordinal-made : (w : Word) (list : SomeNamesP) → IfOk (ordinal_declared state w list) (λ d. IsWellMade (with_declaration state d))
  ordinal-made w list = ordinal-kept state w list made

  pub relvar-made : (w : Word) (h : HeadingP) (list : List ConstraintP) → IfOk (relvar_declared state w h list) (λ d. IsWellMade (with_declaration state d))
  relvar-made w h list = relvar-kept state w h list made (heading-declared state.ordinals made.ordinals h) (λ to declared l. list-made to l)

  pub view-made : (w : Word) (rel : RelP) → IfOk (view_declared state w rel) (λ d. IsWellMade (with_declaration state d))
  view-made w rel = view-kept state w rel made (tree-sound state made rel)

  -- the state with the stored view, and its expression
  abbrev IsStoredIn : Name → Tree → Type 0
  IsStoredIn name t = IsWellMade (with_relvar state name (view t stored)) × (IsTypedFor state t × IsOfKind state.relvars t stored)

  stored-in : (name : Name) (t : Tree) → IsWellMade (with_relvar state name (view t stored)) → IsStoredIn name t
  stored-in name t more =
      let last : IsRelvar (sizes_of state.ordinals) state.relvars name (view t stored) = last-relvar (sizes_of state.ordinals) [] state.relvars name (view t stored) more.relvars in
      (more, last)

  pub kept-made : (w : Word) (kept : KeptP) → IfOk (kept_declared state w kept) (λ v. IsStoredIn v.0 v.1)
  kept-made w kept =
      onward (λ v. IsWellMade (with_relvar state v.0 (view v.1 stored))) (λ v. IsStoredIn v.0 v.1) (kept_declared state w kept)
      (kept-kept state w kept made (tree-sound state made (kept_rel kept))) (λ v more. stored-in v.0 v.1 more)

  pub history-made : (place : Place) (v : Word) (h : HeadingP) (key : KeyP) (b p d i : Word) (t : PointP) → IfOk (history_declared state place v h key b p d i t) (IsTypedHistory state)
  history-made place v h key b p d i t =
      onward (IsHistoryOf state) (IsTypedHistory state) (history_declared state place v h key b p d i t)
      (history-kept state place v h key b p d i t (heading-declared state.ordinals made.ordinals h) (point-declared state.ordinals t made.ordinals)) (λ h is. as-typed h is)
    where
      as-typed : (h : HistoryData) → IsHistoryOf state h → IsTypedHistory state h
      as-typed h is = record {
        given = record { few = is.few; point = is.point; span = is.span; apart = is.apart; key = is.key; since = is.since; during = is.during; both = is.both };
        declared = is.declared;
        over = is.over;
        view = is.free_view;
        since = is.free_since;
        during = is.free_during;
      }

  pub log-made : (l r t : Word) → IfOk (log_declared state l r t) (IsTypedLog state)
  log-made l r t = log-kept state l r t made

  pub drop-made : (w : Word) → IfOk (dropped state w) (λ name. IsWellMade (without_group name state))
  drop-made w = dropped-kept state w made

  pub rule-made : (w : Word) (test : TestP) → IfOk (rule_declared state w test) (λ r. IsWellMade (with_rule r.0 r.1 state) × IsTypedTestFor state r.1)
  rule-made w test = rule-kept state w test made (test-sound-in (rule_scope state) made test)

  pub rule-gone : (w : Word) → IfOk (rule_dropped state w) (λ name. IsWellMade (without_rule name state))
  rule-gone w = rule-dropped state w made
