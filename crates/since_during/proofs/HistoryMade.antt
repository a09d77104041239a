-- What a typed HISTORY declares keeps a well made state well made.
use Rattle.std.specs.Prelude.{◌≡◌, ℕ, List, [], ◌∷◌, ◌++◌, Some, IsTrue, refl}
use Rattle.std.proofs.Common.{sym, ap, ◌∙◌, subst}
use Rattle.std.specs.List.{list_all}
use Rattle.std.proofs.lemmas.Bool.{and_parts, and_from}
use Rattle.std.proofs.lemmas.List.Elements.{All-cons, All-nil}
use Rattle.base_core.proofs.ListLemmas.{bytes_eq-sym}
use Rattle.point_core.specs.Points.{is_number, line_of, last_of}
use Rattle.value_core.specs.declared.constraint.Constraint.TheVariants.{Key, UKey, History}
use Rattle.value_core.specs.declared.kind.Kind.TheVariants.{Point}
use Rattle.value_core.specs.Values.{Heading, Relation, is_heading, same_line}
use Rattle.scalar_core.proofs.PointLemmas.{same_line-self, number-is_number, last-number}
use Rattle.tree_core.specs.declared.declaration.HistoryData.{HistoryData}
use Rattle.tree_core.specs.Relvars.{State, of_history, PlainRelvar, base, view, relvar_named, heading_if}
use Rattle.tree_core.specs.Trees.{named}
use Rattle.meaning_core.specs.Declarations.{with_relvar}
use Rattle.meaning_core.specs.Histories.{last_point}
use Rattle.meaning_core.specs.Typing.{IsScalar, IsTypedTree, is_kind}
use Rattle.meaning_core.specs.WellMade.{sizes_of, headings_of, FitsHeadings, FitsNamed, IsBase, IsConstraint, IsWellMade}
use Rattle.meaning_core.proofs.MadeLemmas.{own_name}
use Rattle.meaning_core.proofs.RelvarLemmas.{named_before}
use Rattle.update_core.proofs.NameLemmas.{base-heading}
use Rattle.since_during.specs.Histories.{declared_in, declared_history, during_constraints, during_heading, key_in, rule_between, since_constraints, since_heading, span_of, view_of, IsFreeIn, IsTypedHistory}
use Rattle.since_during.proofs.HistoryLaws.{view-fits}
use Rattle.since_during.proofs.HistoryTypes.{since-declared, during-declared, since-fits, during-fits, rule-fits, history-joined}
use Rattle.since_during.proofs.JoinedLemmas.{joined-typed}
use Rattle.since_during.proofs.StateLemmas.{free-more, none-named, own-named, with-relvar}

-- the relation without rows
abbrev empty : Heading → Relation
empty heading = record { heading = heading; rows = [] }

module _ (s : State) (h : HistoryData) (made : IsWellMade s) (is : IsTypedHistory s h) where
  abbrev sizes : List ℕ
  sizes = sizes_of s.ordinals

  headed : IsTrue (is_heading h.heading)
  headed = (and_parts (is_heading h.heading) (list_all (λ a. is_kind sizes a.1) h.heading) is.declared).0

  kinds : IsTrue (list_all (λ a. is_kind sizes a.1) h.heading)
  kinds = (and_parts (is_heading h.heading) (list_all (λ a. is_kind sizes a.1) h.heading) is.declared).1

  -- ---- the since relvar

  abbrev since : PlainRelvar
  since = base (empty (since_heading h)) (since_constraints h)

  abbrev first : State
  first = with_relvar s h.since since

  first-made : IsWellMade first
  first-made =
      let one : IsConstraint s.relvars h.since since (Key (key_in h (since_heading h))) = since-fits h headed is.given in
      with-relvar s h.since since made is.since
      (since-declared h headed is.given sizes kinds is.over, All-cons (IsConstraint s.relvars h.since since) (Key (key_in h (since_heading h))) [] one (All-nil (IsConstraint s.relvars h.since since)))

  since-first : relvar_named first.relvars h.since ≡ Some since
  since-first = own-named s.relvars h.since since (own_name h.since) (none-named s h.since is.since)

  -- ---- the during relvar

  abbrev during : PlainRelvar
  during = base (empty (during_heading h)) (during_constraints h)

  abbrev second : State
  second = with_relvar first h.during during

  during-free : IsFreeIn first h.during
  during-free = free-more s h.since since h.during is.during is.given.both

  rule-named : FitsNamed first.relvars (during_heading h) h.since (History (rule_between h (since_heading h) (during_heading h)))
  rule-named = (
    subst IsBase (sym since-first) tt,
    subst (λ (g : Heading). FitsHeadings (during_heading h) g (History (rule_between h (since_heading h) (during_heading h)))) (sym (ap heading_if since-first)) (rule-fits h headed is.given),
  )

  second-made : IsWellMade second
  second-made =
      let own = IsConstraint first.relvars h.during during in
      let key = UKey (span_of h ∷ []) (key_in h (during_heading h) ++ span_of h ∷ []) in
      let rule = History (rule_between h (since_heading h) (during_heading h)) in
      with-relvar first h.during during first-made during-free
      (during-declared h headed is.given sizes kinds is.over, All-cons own key (rule ∷ []) (during-fits h headed is.given) (All-cons own rule [] rule-named (All-nil own)))

  during-second : relvar_named second.relvars h.during ≡ Some during
  during-second = own-named first.relvars h.during during (own_name h.during) (none-named first h.during during-free)

  since-second : relvar_named second.relvars h.since ≡ Some since
  since-second = named_before first.relvars ((h.during, during) ∷ []) h.since since since-first

  -- ---- the view

  view-free : IsFreeIn second h.view
  view-free =
      free-more first h.during during h.view (free-more s h.since since h.view is.view (bytes_eq-sym h.since h.view ∙ is.given.since)) (bytes_eq-sym h.during h.view ∙ is.given.during)

  last-typed : IsScalar sizes (since_heading h) (last_point h.place h.over) (Point h.over)
  last-typed = record {
    declared = is.over;
    typed = (refl, and_from (same_line (line_of h.over) (line_of h.over)) (is_number h.over (last_of h.over)) (same_line-self (line_of h.over)) (number-is_number h.over (last_of h.over) (last-number h.over)));
  }

  view-typed : IsTypedTree sizes (headings_of second.relvars) (view_of h)
  view-typed =
      let base-since = base-heading second.relvars h.since (since_heading h) (subst IsBase (sym since-second) tt) (sym (ap heading_if since-second)) in
      let base-during = base-heading second.relvars h.during (during_heading h) (subst IsBase (sym during-second) tt) (sym (ap heading_if during-second)) in
      joined-typed sizes (headings_of second.relvars) h.over h.point h.span h.during (since_heading h) (during_heading h) (history-joined h headed is.given) base-during
      h.place h.place (last_point h.place h.over) (named h.place (since_heading h) h.since) last-typed base-since refl

pub history-made : (s : State) (h : HistoryData) → IsWellMade s → IsTypedHistory s h → IsWellMade (declared_in s (declared_history h))
history-made s h made is =
    with-relvar (second s h made is) h.view (view (view_of h) (of_history (h.since, h.during))) (second-made s h made is) (view-free s h made is) (
      view-typed s h made is,
      view-fits h (headed s h made is) is.given (second s h made is).relvars (empty (since_heading h)) (empty (during_heading h)) (since_constraints h) (since-second s h made is) refl (during-second s h made is) refl,
    )
