-- The assignments of a TERMINATE that is typed for a well made state are typed for it.
use Rattle.std.specs.Prelude.{◌≡◌, ℕ, ◌∷◌, [], List, Option, Some, None, refl}
use Rattle.std.proofs.Common.{sym, ap, ◌∙◌, subst}
use Rattle.std.specs.List.{list_all, All}
use Rattle.std.proofs.lemmas.Bool.{and_parts}
use Rattle.std.proofs.lemmas.List.Elements.{All-cons, All-nil}
use Rattle.std.proofs.lemmas.Option.{get_or_from_slice_get}
use Rattle.base_core.proofs.SetLemmas.{Ascends}
use Rattle.point_core.specs.declared.any_type.AnyType.{AnyType}
use Rattle.point_core.specs.declared.fault.Place.{Place}
use Rattle.value_core.specs.declared.constraint.HistoryRule.{HistoryRule}
use Rattle.value_core.specs.declared.kind.Kind.{Kind}
use Rattle.value_core.specs.declared.kind.Kind.TheVariants.{Truth, Point}
use Rattle.value_core.specs.Values.{Name, Heading, attribute_cmp, is_heading}
use Rattle.scalar_core.specs.Expressions.{Expr}
use Rattle.scalar_core.specs.Kinds.{IsTyped}
use Rattle.relation_core.specs.Agreement.{position_of}
use Rattle.relation_core.specs.Parts.{no_attribute, kind_at}
use Rattle.relation_core.proofs.HeadingLemmas.{heading_ascends}
use Rattle.tree_core.specs.Items.{PlainItemForm, set_to, insert, delete, delete_rows, update, terminate, PlainItem, PlainAssignment}
use Rattle.tree_core.specs.Relvars.{derived, of_history, stored, PlainRelvar, base, view, State, relvar_named, heading_if, constraints_if, rule_among, history_if, log}
use Rattle.tree_core.specs.Trees.{Tree, named, restrict}
use Rattle.meaning_core.specs.Endings.{rule_if}
use Rattle.meaning_core.specs.Histories.{joined_history, last_point, type_at, name_at}
use Rattle.meaning_core.specs.Typing.{IsScalar, IsTypedTree, is_kind}
use Rattle.meaning_core.specs.Updates.{IsEnding, IsTypedForm, IsTypedItem, IsTypedAssignment}
use Rattle.meaning_core.specs.WellMade.{sizes_of, headings_of, IsOfRule, IsTypedFor, IsWellMade}
use Rattle.meaning_core.proofs.PositionLemmas.{position-back}
use Rattle.update_core.specs.Endings.{ended, ended_in, meant_by, meant_by_form}
use Rattle.update_core.specs.Updates.{condition_of, negated}
use Rattle.update_core.proofs.ConditionLemmas.{any-heading, condition-typed, negated-typed}
use Rattle.update_core.proofs.NameLemmas.{base-heading, base-declared}
use Rattle.since_during.specs.Joinable.{IsEndingForm, IsJoinable, IsJoinableIf}
use Rattle.since_during.proofs.JoinableLemmas.{IsMadeIn, made-in, whole-since, whole-during, of-view}
use Rattle.since_during.proofs.JoinedLemmas.{AreJoined, joined-typed, joined-from}

-- the headings of the two relvars belong together, by the rule
abbrev JoinsBy : Option PlainRelvar → Option PlainRelvar → Option HistoryRule → Type 0
JoinsBy since during None = Unit {0}
JoinsBy since during (Some rule) =
    AreJoined (type_at (heading_if during) rule.span_here) (name_at (heading_if since) rule.point_there) (name_at (heading_if during) rule.span_here) (heading_if since) (heading_if during)

module _ (s : State) (made : IsWellMade s) where
  abbrev sizes : List ℕ
  sizes = sizes_of s.ordinals

  -- ---- the two assignments

  module _ (place at : Place) (e : Expr) (c : Option Expr) (names : Name × Name) (rule : HistoryRule) (j : IsJoinable s.relvars names rule) (joined : JoinsBy (relvar_named s.relvars names.0) (relvar_named s.relvars names.1) (Some rule)) where
    abbrev since : Heading
    since = heading_if (relvar_named s.relvars names.0)

    abbrev during : Heading
    during = heading_if (relvar_named s.relvars names.1)

    abbrev over : AnyType
    over = type_at during rule.span_here

    abbrev own : Tree
    own = named place since names.0

    own-typed : IsTypedFor s own
    own-typed = base-heading s.relvars names.0 since j.since refl

    since-up : Ascends attribute_cmp since
    since-up =
        let declared = base-declared sizes [] s.relvars names.0 made.relvars j.since in
        heading_ascends since ((and_parts (is_heading since) (list_all (λ a. is_kind sizes a.1) since) declared).0)

    -- the point of the rule is one of the type
    point-kind : kind_at since rule.point_there ≡ Point over
    point-kind =
        let back : position_of since (name_at since rule.point_there) ≡ rule.point_there = position-back since rule.point_there no_attribute since-up j.point in
        let found = get_or_from_slice_get since (position_of since (name_at since rule.point_there)) (joined.point.0, Point over) no_attribute joined.point.1 in
        ap (λ (i : ℕ). kind_at since i) (sym back) ∙ ap (λ (a : Name × Kind). a.1) found

    module _ (is : IsEnding s (Some rule) (Some names) e c) where
      end-typed : IsScalar sizes since e (Point over)
      end-typed = record { declared = is.0.declared; typed = subst (IsTyped since e) point-kind (any-heading since e (kind_at since rule.point_there) is.0.typed) }

      condition-is : IsScalar sizes since (condition_of place c) Truth
      condition-is = condition-typed sizes since place c is.1

      facts-typed : IsTypedFor s (restrict place since (condition_of place c) own)
      facts-typed = (own-typed, record { condition = condition-is; headed = refl })

      more-typed : IsTypedFor s (joined_history place at over (name_at since rule.point_there) (name_at during rule.span_here) names.1 since during e (restrict place since (condition_of place c) own))
      more-typed =
          joined-typed sizes (headings_of s.relvars) over (name_at since rule.point_there) (name_at during rule.span_here) names.1 since during joined (base-heading s.relvars names.1 during j.during refl)
          place at e (restrict place since (condition_of place c) own) end-typed facts-typed refl

      rest-typed : IsTypedFor s (restrict place since (negated place (condition_of place c)) own)
      rest-typed = (own-typed, record { condition = negated-typed sizes since place (condition_of place c) condition-is; headed = refl })

      both-typed : All (IsTypedAssignment s) (ended place at rule names since during e c)
      both-typed =
          let facts = restrict place since (condition_of place c) own in
          let more : PlainAssignment = record { target = names.1; tree = joined_history place at over (name_at since rule.point_there) (name_at during rule.span_here) names.1 since during e facts } in
          let rest : PlainAssignment = record { target = names.0; tree = restrict place since (negated place (condition_of place c)) own } in
          All-cons (IsTypedAssignment s) more (rest ∷ []) (record { base = j.during; headed = refl; typed = more-typed })
          (All-cons (IsTypedAssignment s) rest [] (record { base = j.since; headed = refl; typed = rest-typed }) (All-nil (IsTypedAssignment s)))

  ended-by : (place at : Place) (e : Expr) (c : Option Expr) (names : Name × Name) (q : Option HistoryRule) → IsJoinableIf s.relvars names q
      → JoinsBy (relvar_named s.relvars names.0) (relvar_named s.relvars names.1) q → IsEnding s q (Some names) e c → All (IsTypedAssignment s) (ended_in s.relvars place at q (Some names) e c)
  ended-by place at e c names None j joined is = absurd is
  ended-by place at e c names (Some rule) j joined is = both-typed place at e c names rule j joined is

  -- ---- the view of a history

  module _ (names : Name × Name) (t : Tree) (m : IsMadeIn sizes s.relvars (view t (of_history names))) where
    by-rule : (q : Option HistoryRule) → IsOfRule m.prefix names.0 names.1 t q → JoinsBy (relvar_named m.prefix names.0) (relvar_named m.prefix names.1) q
    by-rule None of = absurd of
    by-rule (Some rule) of =
        let since = heading_if (relvar_named m.prefix names.0) in
        let during = heading_if (relvar_named m.prefix names.1) in
        let over = type_at during rule.span_here in
        let typed = subst (λ (x : Tree). IsTypedTree sizes (headings_of m.prefix) x) of.2 m.made.0 in
        joined-from sizes (headings_of m.prefix) over (name_at since rule.point_there) (name_at during rule.span_here) names.1 since during
        of.0 of.0 (last_point of.0 over) (named of.0 since names.0) refl typed

    of-history : JoinsBy (relvar_named s.relvars names.0) (relvar_named s.relvars names.1) (rule_if s.relvars (Some names))
    of-history =
        let prefix = by-rule (rule_among (constraints_if (relvar_named m.prefix names.1))) m.made.1.2 in
        let since = subst (λ (o : Option PlainRelvar). JoinsBy o (relvar_named m.prefix names.1) (rule_among (constraints_if (relvar_named m.prefix names.1)))) (sym (whole-since s made names t m)) prefix in
        subst (λ (o : Option PlainRelvar). JoinsBy (relvar_named s.relvars names.0) o (rule_among (constraints_if o))) (sym (whole-during s made names t m)) since

  of-target : (place at : Place) (e : Expr) (c : Option Expr) (name : Name) (o : Option PlainRelvar) → relvar_named s.relvars name ≡ o → IsEnding s (rule_if s.relvars (history_if o)) (history_if o) e c
      → All (IsTypedAssignment s) (ended_in s.relvars place at (rule_if s.relvars (history_if o)) (history_if o) e c)
  of-target place at e c name None f is = absurd is
  of-target place at e c name (Some (base value list)) f is = absurd is
  of-target place at e c name (Some (log of side last value)) f is = absurd is
  of-target place at e c name (Some (view t derived)) f is = absurd is
  of-target place at e c name (Some (view t stored)) f is = absurd is
  of-target place at e c name (Some (view t (of_history names))) f is =
      let m = made-in sizes [] s.relvars name (view t (of_history names)) made.relvars f in
      ended-by place at e c names (rule_if s.relvars (Some names)) (of-view s made names t m) (of-history names t m) is

  of-form : (item : PlainItem) (form : PlainItemForm) → IsEndingForm form → IsTypedForm s item.target item.heading form → All (IsTypedAssignment s) (meant_by_form s.relvars item form)
  of-form item (set_to t) ending is = absurd ending
  of-form item (insert commalist t) ending is = absurd ending
  of-form item (delete commalist t) ending is = absurd ending
  of-form item (delete_rows change) ending is = absurd ending
  of-form item (update change sets) ending is = absurd ending
  of-form item (terminate e at c) ending is = of-target item.place at e c item.target (relvar_named s.relvars item.target) refl is

pub ended-typed : (s : State) (item : PlainItem) → IsWellMade s → IsEndingForm item.form → IsTypedItem s item → All (IsTypedAssignment s) (meant_by s.relvars item)
ended-typed s item made ending is = of-form s made item item.form ending is
