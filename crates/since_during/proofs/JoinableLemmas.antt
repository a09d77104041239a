-- In a well made state the relvars of each history can be joined.
use Rattle.std.specs.Prelude.{◌≡◌, ℕ, ◌<◌, ◌≤◌, Bool, true, false, List, [], ◌∷◌, ◌++◌, length, Option, Some, None, refl, if◌then◌else◌}
use Rattle.std.specs.List.{All}
use Rattle.std.specs.Str.{bytes_eq}
use Rattle.std.proofs.Common.{sym, ap, ◌∙◌, subst, append_assoc}
use Rattle.std.proofs.lemmas.List.Elements.{All-head, All-tail}
use Rattle.value_core.specs.declared.constraint.Constraint.{Constraint}
use Rattle.value_core.specs.declared.constraint.Constraint.TheVariants.{Key, Packed, WhenUnpacked, UKey, Foreign, History}
use Rattle.value_core.specs.declared.constraint.HistoryRule.{HistoryRule}
use Rattle.value_core.specs.declared.kind.Kind.TheVariants.{Span}
use Rattle.value_core.specs.Limits.{most_attributes}
use Rattle.value_core.specs.Values.{Name}
use Rattle.relation_core.proofs.HeadingLemmas.{few_attributes}
use Rattle.tree_core.specs.Relvars.{derived, of_history, stored, PlainRelvar, base, view, Entries, State, relvar_named, heading_if, constraints_if, rule_among, history_if, log}
use Rattle.tree_core.specs.Trees.{Tree}
use Rattle.meaning_core.specs.Endings.{history_of, rule_if}
use Rattle.meaning_core.specs.Histories.{with_attribute, type_at, name_at}
use Rattle.meaning_core.specs.Typing.{IsTypedTree}
use Rattle.meaning_core.specs.WellMade.{sizes_of, headings_of, IsBase, IsConstraint, IsOfRule, IsRelvar, AreRelvars, IsWellMade}
use Rattle.meaning_core.proofs.RelvarLemmas.{named_before}
use Rattle.since_during.specs.Joinable.{IsJoinableIf, AreJoinable}

-- ---- names

pub some-base : (o : Option PlainRelvar) → IsBase o → (r : PlainRelvar) × (o ≡ Some r)
some-base None is = absurd is
some-base (Some r) is = (r, refl)

some-relvar : (r q : PlainRelvar) → Some r ≡ Some q → r ≡ q
some-relvar r q e = cc

some-rule : (r q : HistoryRule) → Some r ≡ Some q → r ≡ q
some-rule r q e = cc

-- ---- where a relvar stands

-- it is well made behind the entries before it
pub record IsMadeIn (sizes : List ℕ) (whole : Entries) (r : PlainRelvar) : Type 0 where
  pub prefix : Entries
  pub own : Name
  pub back : Entries
  pub split : whole ≡ prefix ++ (own, r) ∷ back
  pub made : IsRelvar sizes prefix own r

pub made-in : (sizes : List ℕ) (before es : Entries) (name : Name) (r : PlainRelvar) → AreRelvars sizes before es → relvar_named es name ≡ Some r → IsMadeIn sizes (before ++ es) r
made-in sizes before [] name r are e = absurd (cc)
made-in sizes before (k ∷ rest) name r are e = by-test (bytes_eq k.0 name) e (made-in sizes (before ++ k ∷ []) rest name r are.1)
  where
    by-test : (b : Bool) → (if b then Some k.1 else relvar_named rest name) ≡ Some r → (relvar_named rest name ≡ Some r → IsMadeIn sizes ((before ++ k ∷ []) ++ rest) r)
        → IsMadeIn sizes (before ++ k ∷ rest) r
    by-test true f more =
        subst (λ (x : PlainRelvar). IsMadeIn sizes (before ++ k ∷ rest) x) (some-relvar k.1 r f) (record { prefix = before; own = k.0; back = rest; split = refl; made = are.0 })
    by-test false f more = subst (λ (es : Entries). IsMadeIn sizes es r) (append_assoc before (k ∷ []) rest) (more f)

-- a base relvar before it is the one of its name
named-whole : (whole prefix : Entries) (own : Name) (r : PlainRelvar) (back : Entries) → whole ≡ prefix ++ (own, r) ∷ back → (name : Name) → IsBase (relvar_named prefix name)
    → relvar_named whole name ≡ relvar_named prefix name
named-whole whole prefix own r back split name is =
    let found = some-base (relvar_named prefix name) is in
    ap (λ (es : Entries). relvar_named es name) split ∙ (named_before prefix ((own, r) ∷ back) name found.0 found.1 ∙ sym found.1)

-- ---- the rule

rule-in : (P : Constraint → Type 0) (list : List Constraint) (rule : HistoryRule) → All P list → rule_among list ≡ Some rule → P (History rule)
rule-in P [] rule all e = absurd (cc)
rule-in P (Key k ∷ list) rule all e = rule-in P list rule (All-tail P (Key k) list all) e
rule-in P (Packed commalist ∷ list) rule all e = rule-in P list rule (All-tail P (Packed commalist) list all) e
rule-in P (WhenUnpacked commalist k ∷ list) rule all e = rule-in P list rule (All-tail P (WhenUnpacked commalist k) list all) e
rule-in P (UKey commalist k ∷ list) rule all e = rule-in P list rule (All-tail P (UKey commalist k) list all) e
rule-in P (Foreign commalist k name there ∷ list) rule all e = rule-in P list rule (All-tail P (Foreign commalist k name there) list all) e
rule-in P (History r ∷ list) rule all e = subst (λ (x : HistoryRule). P (History x)) (some-rule r rule e) (All-head P (History r) list all)

-- its interval and its point are attributes
abbrev Points : Option PlainRelvar → Option PlainRelvar → HistoryRule → Type 0
Points since during rule = (rule.span_here < length (heading_if during)) × (rule.point_there < length (heading_if since))

abbrev Joins : Option PlainRelvar → Option PlainRelvar → Option HistoryRule → Type 0
Joins since during None = Unit {0}
Joins since during (Some rule) =
    IsBase since × IsBase during × Points since during rule
    × (length (with_attribute (heading_if since) (name_at (heading_if during) rule.span_here) (Span (type_at (heading_if during) rule.span_here))) ≤ most_attributes)

joined : (entries : Entries) (names : Name × Name) (rule : Option HistoryRule) → Joins (relvar_named entries names.0) (relvar_named entries names.1) rule → IsJoinableIf entries names rule
joined entries names None h = tt
joined entries names (Some rule) h = record { since = h.0; during = h.1; point = h.2.1; span = h.2.0; narrow = h.3 }

module _ (s : State) (made : IsWellMade s) where
  points : (name : Name) (rule : HistoryRule) (o : Option PlainRelvar) → relvar_named s.relvars name ≡ o → IsBase o → rule_among (constraints_if o) ≡ Some rule
      → Points (relvar_named s.relvars rule.since) o rule
  points name rule None e is r = absurd is
  points name rule (Some (view t kind)) e is r = absurd is
  points name rule (Some (log of side last value)) e is r = absurd is
  points name rule (Some (base value list)) e is r =
      let m = made-in (sizes_of s.ordinals) [] s.relvars name (base value list) made.relvars e in
      let fits = rule-in (IsConstraint m.prefix m.own (base value list)) list rule m.made.1 r in
      let whole = named-whole s.relvars m.prefix m.own (base value list) m.back m.split rule.since fits.0 in
      (fits.1.6, subst (λ (o : Option PlainRelvar). rule.point_there < length (heading_if o)) (sym whole) fits.1.7)

  module _ (names : Name × Name) (t : Tree) (m : IsMadeIn (sizes_of s.ordinals) s.relvars (view t (of_history names))) where
    pub whole-since : relvar_named s.relvars names.0 ≡ relvar_named m.prefix names.0
    whole-since = named-whole s.relvars m.prefix m.own (view t (of_history names)) m.back m.split names.0 m.made.1.0

    pub whole-during : relvar_named s.relvars names.1 ≡ relvar_named m.prefix names.1
    whole-during = named-whole s.relvars m.prefix m.own (view t (of_history names)) m.back m.split names.1 m.made.1.1

    by-rule : (q : Option HistoryRule) → rule_among (constraints_if (relvar_named m.prefix names.1)) ≡ q → IsOfRule m.prefix names.0 names.1 t q
        → Joins (relvar_named m.prefix names.0) (relvar_named m.prefix names.1) q
    by-rule None e of = absurd of
    by-rule (Some rule) e of =
        let typed = subst (λ (x : Tree). IsTypedTree (sizes_of s.ordinals) (headings_of m.prefix) x) of.2 m.made.0 in
        let during = relvar_named m.prefix names.1 in
        let here = points names.1 rule during whole-during m.made.1.1 e in
        let there = subst (λ (n : Name). Points (relvar_named s.relvars n) during rule) of.1 here in
        let both = subst (λ (o : Option PlainRelvar). Points o during rule) whole-since there in
        (m.made.1.0, m.made.1.1, both, few_attributes _ typed.0.1.0.1.headed.ordered)

    pub of-view : AreJoinable s.relvars (Some names)
    of-view =
        let prefix = by-rule (rule_among (constraints_if (relvar_named m.prefix names.1))) refl m.made.1.2 in
        let since = subst (λ (o : Option PlainRelvar). Joins o (relvar_named m.prefix names.1) (rule_among (constraints_if (relvar_named m.prefix names.1)))) (sym whole-since) prefix in
        let during = subst (λ (o : Option PlainRelvar). Joins (relvar_named s.relvars names.0) o (rule_among (constraints_if o))) (sym whole-during) since in
        joined s.relvars names (rule_if s.relvars (Some names)) during

  of-relvar : (name : Name) (o : Option PlainRelvar) → relvar_named s.relvars name ≡ o → AreJoinable s.relvars (history_if o)
  of-relvar name None e = tt
  of-relvar name (Some (base value list)) e = tt
  of-relvar name (Some (view t derived)) e = tt
  of-relvar name (Some (view t stored)) e = tt
  of-relvar name (Some (log of side last value)) e = tt
  of-relvar name (Some (view t (of_history names))) e = of-view names t (made-in (sizes_of s.ordinals) [] s.relvars name (view t (of_history names)) made.relvars e)

  pub joinable : (name : Name) → AreJoinable s.relvars (history_of s.relvars name)
  joinable name = of-relvar name (relvar_named s.relvars name) refl
