-- The view that HISTORY declares is the one that a well made state asks for, over its two relvars and the rule between them.
use Rattle.std.specs.Prelude.{◌≡◌, ℕ, suc, false, cond, List, [], ◌∷◌, Option, Some, IsTrue, refl, slice_index_or}
use Rattle.std.proofs.Common.{sym, ap, ◌∙◌, subst, Less, Equal, Greater}
use Rattle.std.specs.Cmp.Lexicographic.{texts_ties, nat_list_eq_equiv}
use Rattle.std.specs.Ordering.{is_eq}
use Rattle.std.specs.Str.{bytes_eq}
use Rattle.std.proofs.lemmas.Bool.{or_parts, true≢false}
use Rattle.base_core.specs.Sets.{placed, put}
use Rattle.base_core.proofs.ListLemmas.{bytes_eq-sym}
use Rattle.point_core.specs.declared.any_type.AnyType.{AnyType}
use Rattle.value_core.specs.declared.constraint.Constraint.{Constraint}
use Rattle.value_core.specs.declared.constraint.HistoryRule.{HistoryRule}
use Rattle.value_core.specs.declared.kind.Kind.{Kind}
use Rattle.value_core.specs.declared.kind.Kind.TheVariants.{Point, Span}
use Rattle.value_core.specs.Headings.{has_name}
use Rattle.value_core.specs.Values.{Name, Heading, Relation, attribute_cmp, is_heading}
use Rattle.relation_core.specs.Agreement.{position_of}
use Rattle.relation_core.specs.Parts.{no_attribute}
use Rattle.tree_core.specs.declared.declaration.HistoryData.{HistoryData}
use Rattle.tree_core.specs.Relvars.{of_history, PlainRelvar, base, Entries, relvar_named, heading_if, constraints_if, rule_among}
use Rattle.tree_core.specs.Trees.{Tree, named}
use Rattle.meaning_core.specs.Histories.{joined_history, last_point, with_attribute, type_of_kind, type_at, name_at}
use Rattle.meaning_core.specs.WellMade.{IsBase, IsOfRule, IsOfKind}
use Rattle.since_during.specs.Histories.{IsHistoryData, since_heading, during_heading, during_constraints, span_of, rule_between, view_of}
use Rattle.since_during.proofs.HeadingLemmas.{put-in-order}

-- ---- where the attribute more stands

abbrev attribute_at : Heading → ℕ → Name × Kind
attribute_at h i = slice_index_or h i no_attribute

module _ (n : Name) (k : Kind) where
  first-at : (h : Heading) → attribute_at ((n, k) ∷ h) (position_of ((n, k) ∷ h) n) ≡ (n, k)
  first-at h = ap (λ b. attribute_at ((n, k) ∷ h) (cond b 0 (suc (position_of h n)))) (nat_list_eq_equiv.refl n)

  put-at : (h : Heading) → has_name h n ≡ false → attribute_at (put attribute_cmp (n, k) h) (position_of (put attribute_cmp (n, k) h) n) ≡ (n, k)
  put-at [] new = first-at []
  put-at (a ∷ rest) new =
      let parts = or_parts (bytes_eq a.0 n) (has_name rest n) new in
      let other : bytes_eq n a.0 ≡ false = bytes_eq-sym n a.0 ∙ parts.0 in
      let more = put attribute_cmp (n, k) rest in
      (elim (attribute_cmp (n, k) a) as (λ r. attribute_cmp (n, k) a ≡ r → attribute_at (placed r (n, k) a rest more) (position_of (placed r (n, k) a rest more) n) ≡ (n, k)) [
        | Less ↦ λ e. first-at (a ∷ rest)
        | Equal ↦ λ e. absurd (true≢false (sym (texts_ties n a.0 ∙ ap is_eq e) ∙ other))
        | Greater ↦ λ e. ap (λ b. attribute_at (a ∷ more) (cond b 0 (suc (position_of more n)))) parts.0 ∙ put-at rest parts.1
      ]) refl

  more-at : (h : Heading) → IsTrue (is_heading h) → has_name h n ≡ false → attribute_at (with_attribute h n k) (position_of (with_attribute h n k) n) ≡ (n, k)
  more-at h headed new = subst (λ (g : Heading). attribute_at g (position_of g n) ≡ (n, k)) (put-in-order h n k headed) (put-at h new)

-- ---- the view

module _ (h : HistoryData) (headed : IsTrue (is_heading h.heading)) (given : IsHistoryData h) where
  point-named : name_at (since_heading h) (position_of (since_heading h) h.point) ≡ h.point
  point-named = ap (λ (a : Name × Kind). a.0) (more-at h.point (Point h.over) h.heading headed given.point)

  span-named : name_at (during_heading h) (span_of h) ≡ h.span
  span-named = ap (λ (a : Name × Kind). a.0) (more-at h.span (Span h.over) h.heading headed given.span)

  span-over : type_at (during_heading h) (span_of h) ≡ h.over
  span-over = ap (λ (a : Name × Kind). type_of_kind a.1) (more-at h.span (Span h.over) h.heading headed given.span)

  -- the view over such headings, with these of their attributes
  abbrev view-over : Heading → Heading → AnyType → Name → Name → Tree
  view-over since during over p i = joined_history h.place h.place over p i h.during since during (last_point h.place over) (named h.place since h.since)

  -- and with those that the rule names
  abbrev view-by : Heading → Heading → Tree
  view-by since during =
      view-over since during (type_at during (span_of h)) (name_at since (position_of (since_heading h) h.point)) (name_at during (span_of h))

  view-own : view_of h ≡ view-by (since_heading h) (during_heading h)
  view-own =
      let since = since_heading h in
      let during = during_heading h in
      let over = subst (λ (t : AnyType). view_of h ≡ view-over since during t h.point h.span) (sym span-over) refl in
      let point = subst (λ (n : Name). view_of h ≡ view-over since during (type_at during (span_of h)) n h.span) (sym point-named) over in
      subst (λ (n : Name). view_of h ≡ view-over since during (type_at during (span_of h)) (name_at since (position_of since h.point)) n) (sym span-named) point

  -- where the two relvars stand before it, whatever rows they have
  pub view-fits : (before : Entries) (now past : Relation) (list : List Constraint) → relvar_named before h.since ≡ Some (base now list) → now.heading ≡ since_heading h
      → relvar_named before h.during ≡ Some (base past (during_constraints h)) → past.heading ≡ during_heading h → IsOfKind before (view_of h) (of_history (h.since, h.during))
  view-fits before now past list since at during there =
      let here : heading_if (relvar_named before h.since) ≡ since_heading h = ap heading_if since ∙ at in
      let ended : heading_if (relvar_named before h.during) ≡ during_heading h = ap heading_if during ∙ there in
      let rule : rule_among (constraints_if (relvar_named before h.during)) ≡ Some (rule_between h (since_heading h) (during_heading h)) = ap (λ (o : Option PlainRelvar). rule_among (constraints_if o)) during in
      let one = subst (λ (g : Heading). view_of h ≡ view-by g (during_heading h)) (sym here) view-own in
      let two = subst (λ (g : Heading). view_of h ≡ view-by (heading_if (relvar_named before h.since)) g) (sym ended) one in (
        subst IsBase (sym since) tt,
        subst IsBase (sym during) tt,
        subst (λ (q : Option HistoryRule). IsOfRule before h.since h.during (view_of h) q) (sym rule) (h.place, refl, two),
      )
