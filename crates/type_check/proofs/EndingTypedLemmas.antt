-- A typed TERMINATE is of the view of a history, and its point and its condition are typed for the facts.
use Rattle.std.specs.Prelude.{◌≡◌, [], Option, Some, None, IfOk, IsTrue, refl}
use Rattle.std.proofs.Common.{sym, ◌∙◌, ap, subst}
use Rattle.point_core.specs.declared.fault.Place.{Place}
use Rattle.point_core.specs.declared.fault.Code.{Code}
use Rattle.point_core.specs.declared.fault.Code.TheVariants.{E10, E12, E20}
use Rattle.utd_syntax.specs.Plain as syntax
use Rattle.utd_syntax.specs.Plain.{Word, ScalarP, ConditionP}
use Rattle.value_core.specs.declared.constraint.HistoryRule.{HistoryRule}
use Rattle.value_core.specs.declared.kind.Kind.{Kind}
use Rattle.value_core.specs.declared.kind.Kind.TheVariants.{Truth}
use Rattle.value_core.specs.Values.{Name, Heading}
use Rattle.scalar_core.specs.Expressions.{Expr}
use Rattle.scalar_core.specs.KindOf.{same_kind}
use Rattle.relation_core.specs.Parts.{kind_at}
use Rattle.scalar_typing.specs.Scalars.{typed_scalar}
use Rattle.scalar_typing.specs.Typings.{value_or}
use Rattle.scalar_typing.proofs.SoundLemmas.{then-sound, any-given}
use Rattle.scalar_core.proofs.KindOfLemmas.{same_kind-same}
use Rattle.relation_typing.specs.Attributes.{name_typed}
use Rattle.tree_core.specs.Relvars.{PlainRelvar, State, relvar_named, relvar_heading, heading_if, history_if}
use Rattle.meaning_core.specs.Endings.{rule_if, history_of, rule_of}
use Rattle.meaning_core.specs.Typing.{IsScalar}
use Rattle.meaning_core.specs.Updates.{IsConditionIf, IsEnding, IsTypedForm, IsTypedItem}
use Rattle.meaning_core.specs.WellMade.{sizes_of, IsWellMade}
use Rattle.node_typing.specs.Positions.{check}
use Rattle.node_typing.specs.Rows.{condition_typed}
use Rattle.item_typing.specs.Changes.{condition_if}
use Rattle.item_typing.specs.Endings.{Facts, since_typed, facts_of, point_typed, end_typed, ending_typed}
use Rattle.type_check.proofs.InfixLemmas.{condition-sound}
use Rattle.declaration_typing.proofs.PositionLemmas.{held}
use Rattle.type_check.proofs.ScalarLemmas.{typed-is_scalar}

some-found : {X : Type 0} (place : Place) (code : Code) (o : Option X) → IfOk (value_or place code o) (λ x. o ≡ Some x)
some-found place code None = tt
some-found place code (Some x) = refl

-- ---- the history of a view

-- what is told of the facts is what the history's relvars and rule tell
record AreFacts (state : State) (found : PlainRelvar) (facts : Facts) : Type 0 where
  pub names : Name × Name
  pub rule : HistoryRule
  pub history : history_if (Some found) ≡ Some names
  pub ruled : rule_if state.relvars (Some names) ≡ Some rule
  pub heading : heading_if (relvar_named state.relvars names.0) ≡ facts.0
  pub point : kind_at facts.0 rule.point_there ≡ facts.1

module _ (state : State) where
  since-is : (place : Place) (name : Name) → IfOk (since_typed state place name) (λ h. heading_if (relvar_named state.relvars name) ≡ h)
  since-is place name =
      then-sound (λ since. relvar_named state.relvars name ≡ Some since) (λ h. heading_if (relvar_named state.relvars name) ≡ h) (value_or place E20 (relvar_named state.relvars name)) _
      (some-found place E20 (relvar_named state.relvars name)) (λ since e. ap heading_if e)

  facts-are : (place : Place) (found : PlainRelvar) → IfOk (facts_of state place found) (AreFacts state found)
  facts-are place found =
      then-sound (λ names. history_if (Some found) ≡ Some names) (AreFacts state found) (value_or place E20 (history_if (Some found))) _ (some-found place E20 (history_if (Some found))) (λ names history.
      then-sound (λ rule. rule_if state.relvars (Some names) ≡ Some rule) (AreFacts state found) (value_or place E20 (rule_if state.relvars (Some names))) _
      (some-found place E20 (rule_if state.relvars (Some names))) (λ rule ruled.
      then-sound (λ h. heading_if (relvar_named state.relvars names.0) ≡ h) (AreFacts state found) (since_typed state place names.0) _ (since-is place names.0)
      (λ h heading. record { names = names; rule = rule; history = history; ruled = ruled; heading = heading; point = refl })))

  is-ending : (name : Name) (found : PlainRelvar) (facts : Facts) (e : Expr) (c : Option Expr) → relvar_named state.relvars name ≡ Some found → AreFacts state found facts
      → IsScalar (sizes_of state.ordinals) [] e facts.1 → IsConditionIf (sizes_of state.ordinals) facts.0 c
      → IsEnding state (rule_of state.relvars name) (history_of state.relvars name) e c
  is-ending name found facts e c there are point condition =
      let history : history_of state.relvars name ≡ Some are.names = ap history_if there ∙ are.history in
      let rule : rule_of state.relvars name ≡ Some are.rule = ap (rule_if state.relvars) history ∙ are.ruled in
      let ended : IsEnding state (Some are.rule) (Some are.names) e c = (
        subst (λ (h : Heading). IsScalar (sizes_of state.ordinals) [] e (kind_at h are.rule.point_there)) (sym are.heading) (subst (IsScalar (sizes_of state.ordinals) [] e) (sym are.point) point),
        subst (λ (h : Heading). IsConditionIf (sizes_of state.ordinals) h c) (sym are.heading) condition,
      ) in
      subst (λ (r : Option HistoryRule). IsEnding state r (history_of state.relvars name) e c) (sym rule)
      (subst (λ (n : Option (Name × Name)). IsEnding state (Some are.rule) n e c) (sym history) ended)

-- ---- what ends

module _ (state : State) (made : IsWellMade state) where
  pub condition-if-sound : (heading : Heading) (c : ConditionP) → IfOk (condition_if state.ordinals heading c) (IsConditionIf (sizes_of state.ordinals) heading)
  condition-if-sound heading syntax.NoCondition = tt
  condition-if-sound heading (syntax.Where at s) =
      then-sound (λ (c : Expr). IsScalar (sizes_of state.ordinals) heading c Truth) (IsConditionIf (sizes_of state.ordinals) heading) (condition_typed state.ordinals at heading s) _
      (condition-sound state.ordinals made.ordinals at heading s) (λ c is. is)

  point-sound : (point : Kind) (at : Place) (s : ScalarP) → IfOk (point_typed state.ordinals point at s) (λ e. IsScalar (sizes_of state.ordinals) [] e point)
  point-sound point at s =
      then-sound (λ (e : Expr × Kind). IsScalar (sizes_of state.ordinals) [] e.0 e.1) (λ e. IsScalar (sizes_of state.ordinals) [] e point) (typed_scalar state.ordinals [] s) _
      (typed-is_scalar state.ordinals made.ordinals [] s) (λ e is.
      then-sound (λ _. IsTrue (same_kind e.1 point)) (λ e. IsScalar (sizes_of state.ordinals) [] e point) (check at E12 (same_kind e.1 point)) _
      (held at E12 (same_kind e.1 point)) (λ _ same. subst (IsScalar (sizes_of state.ordinals) [] e.0) (same_kind-same e.1 point same) is))

  end-sound : (name : Name) (found : PlainRelvar) (heading : Heading) (facts : Facts) (at : Place) (s : ScalarP) (c : ConditionP) → relvar_named state.relvars name ≡ Some found
      → AreFacts state found facts → IfOk (end_typed state facts at s c) (IsTypedForm state name heading)
  end-sound name found heading facts at s c there are =
      then-sound (λ e. IsScalar (sizes_of state.ordinals) [] e facts.1) (IsTypedForm state name heading) (point_typed state.ordinals facts.1 at s) _ (point-sound facts.1 at s) (λ e point.
      then-sound (IsConditionIf (sizes_of state.ordinals) facts.0) (IsTypedForm state name heading) (condition_if state.ordinals facts.0 c) _ (condition-if-sound facts.0 c)
      (λ c condition. is-ending state name found facts e c there are point condition))

  pub ending-sound : (place : Place) (w : Word) (at : Place) (s : ScalarP) (c : ConditionP) → IfOk (ending_typed state place w at s c) (IsTypedItem state)
  ending-sound place w at s c =
      then-sound (λ _. Unit {0}) (IsTypedItem state) (name_typed w) _ (any-given (name_typed w)) (λ name _.
      then-sound (λ found. relvar_named state.relvars name ≡ Some found) (IsTypedItem state) (value_or w.place E10 (relvar_named state.relvars name)) _
      (some-found w.place E10 (relvar_named state.relvars name)) (λ found there.
      then-sound (AreFacts state found) (IsTypedItem state) (facts_of state w.place found) _ (facts-are state w.place found) (λ facts are.
      then-sound (IsTypedForm state name (relvar_heading found)) (IsTypedItem state) (end_typed state facts at s c) _
      (end-sound name found (relvar_heading found) facts at s c there are) (λ form is. is))))
