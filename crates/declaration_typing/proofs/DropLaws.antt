-- What DROP VAR drops leaves a state well made.
use Rattle.std.specs.Prelude.{◌≡◌, ℕ, zero, suc, Bool, true, false, not, ◌&&◌, List, [], ◌∷◌, ◌++◌, map, Option, Some, None, is_some, IfOk, IsTrue, refl}
use Rattle.std.proofs.Common.{arith, get_or, sym, ◌∙◌, ap, subst}
use Rattle.std.specs.List.{All, list_any}
use Rattle.std.proofs.lemmas.Bool.{or_parts, not-true}
use Rattle.std.proofs.lemmas.List.{append-nil}
use Rattle.point_core.specs.declared.fault.Code.TheVariants.{E10, E21}
use Rattle.point_core.specs.declared.fault.Place.{Place}
use Rattle.utd_syntax.specs.Plain.{Word}
use Rattle.value_core.specs.declared.constraint.Constraint.{Constraint}
use Rattle.value_core.specs.declared.constraint.Constraint.TheVariants.{Key, Packed, WhenUnpacked, UKey, Foreign, History}
use Rattle.value_core.specs.declared.constraint.HistoryRule.{HistoryRule}
use Rattle.value_core.specs.Values.{Name, Heading}
use Rattle.scalar_typing.proofs.SoundLemmas.{then-sound, any-given}
use Rattle.relation_typing.specs.Attributes.{name_typed}
use Rattle.tree_core.specs.Relvars.{State, PlainKind, derived, of_history, stored, PlainRelvar, base, view, Entries, Rules, relvar_named, relvar_heading, heading_if, constraints_if, rule_among, log}
use Rattle.tree_core.specs.Trees.{Tree, named}
use Rattle.tree_core.specs.Uses.{is_one_of, names_any, test_names_any, references_any, relvar_names_any}
use Rattle.log_times.specs.Turns.{IsLogHeading, without}
use Rattle.meaning_core.specs.Declarations.{group, without_group}
use Rattle.meaning_core.specs.Histories.{joined_history, last_point, type_at, name_at}
use Rattle.meaning_core.specs.Typing.{IsTypedTest}
use Rattle.meaning_core.specs.WellMade.{sizes_of, headings_of, FitsHeadings, IsBase, IsConstraint, IsOfRule, is_base, is_base_in, IsOfKind, IsRelvar, AreRelvars, IsWellMade, IsLogOf}
use Rattle.meaning_core.proofs.ElsewhereLemmas.{names-alike, left, left-kept, left-gone, left-append, named-left}
use Rattle.meaning_core.proofs.LogLemmas.{apart-dropped}
use Rattle.meaning_core.proofs.StaysTyped.{tree-left, test-left}
use Rattle.node_typing.specs.Positions.{check}
use Rattle.declaration_typing.specs.Drops.{is_of_history, relvars_use, rules_use, is_used, dropped}
use Rattle.declaration_typing.proofs.DistinctLemmas.{distinct-behind}
use Rattle.declaration_typing.proofs.PositionLemmas.{held}

-- without the relvars and views of some names, which no other names
module _ (some : Name → Bool) where
  -- ---- expressions and constraints that do not name them

  -- the constraint fits what its name stands for
  abbrev Fits : Heading → Constraint → Option PlainRelvar → Type 0
  Fits h c o = IsBase o × FitsHeadings h (heading_if o) c

  with-own : (before : Entries) (own : Name) (r : PlainRelvar) → some own ≡ false → left some (before ++ (own, r) ∷ []) ≡ left some before ++ (own, r) ∷ []
  with-own before own r apart = left-append some before ((own, r) ∷ []) ∙ ap (λ (es : Entries). left some before ++ es) (left-kept some (own, r) [] apart)

  constraint-dropped : (before : Entries) (own : Name) (r : PlainRelvar) (c : Constraint) → some own ≡ false → references_any some c ≡ false → IsConstraint before own r c
      → IsConstraint (left some before) own r c
  constraint-dropped before own r (Key k) other apart is = is
  constraint-dropped before own r (Packed commalist) other apart is = is
  constraint-dropped before own r (WhenUnpacked commalist k) other apart is = is
  constraint-dropped before own r (UKey commalist k) other apart is = is
  constraint-dropped before own r (Foreign commalist k there positions) other apart is =
      let same = sym (named-left some (before ++ (own, r) ∷ []) there apart) ∙ ap (λ (es : Entries). relvar_named es there) (with-own before own r other) in
      subst (Fits (relvar_heading r) (Foreign commalist k there positions)) same is
  constraint-dropped before own r (History rule) other apart is =
      subst (Fits (relvar_heading r) (History rule)) (sym (named-left some before rule.since apart)) is

  all-dropped : (before : Entries) (own : Name) (r : PlainRelvar) (cs : List Constraint) → some own ≡ false → list_any (references_any some) cs ≡ false
      → All (IsConstraint before own r) cs → All (IsConstraint (left some before) own r) cs
  all-dropped before own r [] other apart all k d l = absurd (omega (arith, l))
  all-dropped before own r (c ∷ cs) other apart all zero d l =
      constraint-dropped before own r c other (or_parts (references_any some c) (list_any (references_any some) cs) apart).0 (all zero d l)
  all-dropped before own r (c ∷ cs) other apart all (suc k) d l =
      all-dropped before own r cs other (or_parts (references_any some c) (list_any (references_any some) cs) apart).1 (λ i e m. all (suc i) e (omega (arith, m))) k d (omega (arith, l))

  -- ---- views

  -- the view is of the rule, where its relvars are these
  abbrev OfRule : Name → Name → Tree → Option HistoryRule → Option PlainRelvar → Option PlainRelvar → Type 0
  OfRule s d t None o p = ⊥
  OfRule s d t (Some rule) o p =
      let since = heading_if o in
      let during = heading_if p in
      let over = type_at during rule.span_here in
      (place : Place) × (rule.since ≡ s)
      × (t ≡ joined_history place place over (name_at since rule.point_there) (name_at during rule.span_here) d since during (last_point place over) (named place since s))

  of-rule : (before : Entries) (s d : Name) (t : Tree) (rule : Option HistoryRule) → IsOfRule before s d t rule → OfRule s d t rule (relvar_named before s) (relvar_named before d)
  of-rule before s d t None is = is
  of-rule before s d t (Some rule) is = is

  is-of-rule : (before : Entries) (s d : Name) (t : Tree) (rule : Option HistoryRule) → OfRule s d t rule (relvar_named before s) (relvar_named before d) → IsOfRule before s d t rule
  is-of-rule before s d t None is = is
  is-of-rule before s d t (Some rule) is = is

  -- its expression names both
  others-named : (before : Entries) (s d : Name) (t : Tree) (rule : Option HistoryRule) → IsOfRule before s d t rule → names_any some t ≡ false → (some d ≡ false) × (some s ≡ false)
  others-named before s d t None is apart = absurd is
  others-named before s d t (Some rule) is apart = or_parts (some d) (some s) (sym (ap (names_any some) is.2) ∙ apart)

  abbrev HistoryOf : Name → Name → Tree → Option PlainRelvar → Option PlainRelvar → Type 0
  HistoryOf s d t o p = IsBase o × IsBase p × OfRule s d t (rule_among (constraints_if p)) o p

  kind-dropped : (before : Entries) (t : Tree) (kind : PlainKind) → names_any some t ≡ false → IsOfKind before t kind → IsOfKind (left some before) t kind
  kind-dropped before t derived apart is = tt
  kind-dropped before t stored apart is =
      let same = names-alike some (λ name. not (is_base_in (left some before) name)) (λ name. not (is_base_in before name))
      (λ name none. ap (λ (o : Option PlainRelvar). not (is_base o)) (named-left some before name none)) t apart in
      (is.0, same ∙ is.1)
  kind-dropped before t (of_history names) apart is =
      let others = others-named before names.0 names.1 t (rule_among (constraints_if (relvar_named before names.1))) is.2 apart in
      let here : HistoryOf names.0 names.1 t (relvar_named before names.0) (relvar_named before names.1) =
      (is.0, is.1, of-rule before names.0 names.1 t (rule_among (constraints_if (relvar_named before names.1))) is.2) in
      let since : HistoryOf names.0 names.1 t (relvar_named (left some before) names.0) (relvar_named before names.1) =
      subst (λ (o : Option PlainRelvar). HistoryOf names.0 names.1 t o (relvar_named before names.1)) (sym (named-left some before names.0 others.1)) here in
      let both : HistoryOf names.0 names.1 t (relvar_named (left some before) names.0) (relvar_named (left some before) names.1) =
      subst (λ (p : Option PlainRelvar). HistoryOf names.0 names.1 t (relvar_named (left some before) names.0) p) (sym (named-left some before names.1 others.0)) since in
      (both.0, both.1, is-of-rule (left some before) names.0 names.1 t (rule_among (constraints_if (relvar_named (left some before) names.1))) both.2)

  -- ---- logs

  abbrev LogOf : ℕ → Heading → Option PlainRelvar → Type 0
  LogOf side heading o = IsBase o × IsLogHeading side heading × (without side heading ≡ heading_if o)

  log-dropped : (before : Entries) (of : Name) (side : ℕ) (heading : Heading) → some of ≡ false → IsLogOf before of side heading → IsLogOf (left some before) of side heading
  log-dropped before of side heading apart is = subst (LogOf side heading) (sym (named-left some before of apart)) is

  -- ---- relvars, views and logs

  relvar-dropped : (sizes : List ℕ) (before : Entries) (own : Name) (r : PlainRelvar) → some own ≡ false → relvar_names_any some r ≡ false → IsRelvar sizes before own r
      → IsRelvar sizes (left some before) own r
  relvar-dropped sizes before own (base value constraints) other apart is = (is.0, all-dropped before own (base value constraints) constraints other apart is.1)
  relvar-dropped sizes before own (view t kind) other apart is = (tree-left sizes some before t apart is.0, kind-dropped before t kind apart is.1)
  relvar-dropped sizes before own (log of side last value) other apart is = (is.0, log-dropped before of side value.heading apart is.1)

  named-not : (own : Name) (r : PlainRelvar) → some own ≡ false → (not (some own) && relvar_names_any some r) ≡ false → relvar_names_any some r ≡ false
  named-not own r other e = sym (ap (λ (b : Bool). not b && relvar_names_any some r) other) ∙ e

  relvars-dropped : (sizes : List ℕ) (before entries : Entries) → relvars_use entries some ≡ false → AreRelvars sizes before entries → AreRelvars sizes (left some before) (left some entries)
  relvars-dropped sizes before [] unused all = tt
  relvars-dropped sizes before (r ∷ rest) unused all =
      let parts = or_parts (not (some r.0) && relvar_names_any some r.1) (relvars_use rest some) unused in
      by-test (some r.0) refl parts.0 (relvars-dropped sizes (before ++ r ∷ []) rest parts.1 all.1)
    where
      by-test : (b : Bool) → some r.0 ≡ b → (not (some r.0) && relvar_names_any some r.1) ≡ false → AreRelvars sizes (left some (before ++ r ∷ [])) (left some rest)
          → AreRelvars sizes (left some before) (left some (r ∷ rest))
      by-test true e unnamed more =
          let same : left some (before ++ r ∷ []) ≡ left some before ++ [] = left-append some before (r ∷ []) ∙ ap (λ (es : Entries). left some before ++ es) (left-gone some r [] e) in
          subst (AreRelvars sizes (left some before)) (sym (left-gone some r rest e)) (subst (λ (es : Entries). AreRelvars sizes es (left some rest)) (same ∙ append-nil (left some before)) more)
      by-test false e unnamed more =
          subst (AreRelvars sizes (left some before)) (sym (left-kept some r rest e))
          (relvar-dropped sizes before r.0 r.1 e (named-not r.0 r.1 e unnamed) all.0, subst (λ (es : Entries). AreRelvars sizes es (left some rest)) (with-own before r.0 r.1 e) more)

  rules-dropped : (sizes : List ℕ) (es : Entries) (rules : Rules) → rules_use rules some ≡ false → All (λ k. IsTypedTest sizes (headings_of es) k.1) rules
      → All (λ k. IsTypedTest sizes (headings_of (left some es)) k.1) rules
  rules-dropped sizes es [] unused all k d l = absurd (omega (arith, l))
  rules-dropped sizes es (r ∷ rules) unused all zero d l =
      test-left sizes some es r.1 (or_parts (test_names_any some r.1) (rules_use rules some) unused).0 (all zero d l)
  rules-dropped sizes es (r ∷ rules) unused all (suc k) d l =
      rules-dropped sizes es rules (or_parts (test_names_any some r.1) (rules_use rules some) unused).1 (λ i e m. all (suc i) e (omega (arith, m))) k d (omega (arith, l))

  pub without-kept : (s : State) → IsWellMade s → is_used s some ≡ false → IsWellMade (record s { relvars = left some s.relvars })
  without-kept s made unused =
      let parts = or_parts (relvars_use s.relvars some) (rules_use s.rules some) unused in
      let before : List Name = map (λ k. k.0) s.rules ++ map (λ o. o.name) s.ordinals in
      let sizes : List ℕ = sizes_of s.ordinals in
      let relvars : AreRelvars sizes [] (left some s.relvars) = relvars-dropped sizes [] s.relvars parts.0 made.relvars in
      let rules : All (λ k. IsTypedTest sizes (headings_of (left some s.relvars)) k.1) s.rules = rules-dropped sizes s.relvars s.rules parts.1 made.rules in
      record {
        few = made.few;
        ordinals = made.ordinals;
        different = distinct-behind some before s.relvars made.different;
        relvars = relvars;
        few_rules = made.few_rules;
        rules = rules;
        apart = λ k d l. apart-dropped some sizes s.relvars (get_or s.rules k d).1 relvars (rules k d l) (made.apart k d l);
      }

module _ (s : State) (w : Word) where
  abbrev IsKept : Name → Type 0
  IsKept name = IsWellMade (without_group name s)

  -- the names that go
  abbrev these : Name → Name → Bool
  these name = is_one_of (group s.relvars name)

  pub dropped-kept : IsWellMade s → IfOk (dropped s w) IsKept
  unfolding dropped
  dropped-kept made =
      then-sound (λ (_ : Name). Unit {0}) IsKept (name_typed w) _ (any-given (name_typed w)) (λ name _.
      then-sound (λ (_ : Unit {0}). Unit {0}) IsKept (check w.place E10 (is_some (relvar_named s.relvars name))) _ (any-given (check w.place E10 (is_some (relvar_named s.relvars name)))) (λ _ _.
      then-sound (λ (_ : Unit {0}). Unit {0}) IsKept (check w.place E21 (not (is_of_history s.relvars name))) _ (any-given (check w.place E21 (not (is_of_history s.relvars name)))) (λ _ _.
      then-sound (λ (_ : Unit {0}). IsTrue (not (is_used s (these name)))) IsKept (check w.place E21 (not (is_used s (these name)))) _ (held w.place E21 (not (is_used s (these name)))) (λ _ free.
      without-kept (these name) s made (not-true (is_used s (these name)) free)))))
