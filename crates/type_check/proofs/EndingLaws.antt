-- In a well made state a TERMINATE of a history's view finds its facts: E20 stands at what is no history's view alone.
use Rattle.std.specs.Prelude.{◌≡◌, ℕ, Bool, true, false, List, [], ◌∷◌, ◌++◌, Option, Some, None, Ok, IfErr, refl, if◌then◌else◌}
use Rattle.std.specs.Str.{bytes_eq}
use Rattle.std.proofs.Common.{sym, ap, ◌∙◌, subst, append_assoc}
use Rattle.point_core.specs.declared.fault.Place.{Place}
use Rattle.point_core.specs.declared.fault.Code.TheVariants.{E20}
use Rattle.value_core.specs.declared.constraint.HistoryRule.{HistoryRule}
use Rattle.value_core.specs.Values.{Name}
use Rattle.relation_core.specs.Parts.{kind_at}
use Rattle.scalar_typing.specs.Typings.{◌>>=◌, value_or}
use Rattle.tree_core.specs.Relvars.{of_history, PlainRelvar, view, Entries, State, relvar_named, relvar_heading, constraints_if, rule_among}
use Rattle.tree_core.specs.Trees.{Tree}
use Rattle.meaning_core.specs.Endings.{rule_if}
use Rattle.meaning_core.specs.WellMade.{sizes_of, IsBase, IsOfRule, IsRelvar, AreRelvars, IsWellMade}
use Rattle.meaning_core.proofs.RelvarLemmas.{named_before}
use Rattle.item_typing.specs.Endings.{Facts, facts_of}
use Rattle.since_during.proofs.JoinableLemmas.{some-base}

-- ---- where a relvar or view stands

-- it is well made behind the entries before it
record IsMadeIn (sizes : List ℕ) (whole : Entries) (r : PlainRelvar) : Type 0 where
  pub prefix : Entries
  pub own : Name
  pub back : Entries
  pub split : whole ≡ prefix ++ (own, r) ∷ back
  pub made : IsRelvar sizes prefix own r

made-in : (sizes : List ℕ) (before es : Entries) (name : Name) (r : PlainRelvar) → AreRelvars sizes before es → relvar_named es name ≡ Some r → IsMadeIn sizes (before ++ es) r
made-in sizes before [] name r are e = absurd (cc)
made-in sizes before (k ∷ rest) name r are e = by-test (bytes_eq k.0 name) e (made-in sizes (before ++ k ∷ []) rest name r are.1)
  where
    by-test : (b : Bool) → (if b then Some k.1 else relvar_named rest name) ≡ Some r → (relvar_named rest name ≡ Some r → IsMadeIn sizes ((before ++ k ∷ []) ++ rest) r)
        → IsMadeIn sizes (before ++ k ∷ rest) r
    by-test true f more =
        subst (λ (x : PlainRelvar). IsMadeIn sizes (before ++ k ∷ rest) x) (let same : k.1 ≡ r = cc in same) (record { prefix = before; own = k.0; back = rest; split = refl; made = are.0 })
    by-test false f more = subst (λ (es : Entries). IsMadeIn sizes es r) (append_assoc before (k ∷ []) rest) (more f)

-- a base relvar before it is the one of its name
named-whole : (sizes : List ℕ) (whole : Entries) (r : PlainRelvar) (m : IsMadeIn sizes whole r) (name : Name) → IsBase (relvar_named m.prefix name) → relvar_named whole name ≡ relvar_named m.prefix name
named-whole sizes whole r m name is =
    let found = some-base (relvar_named m.prefix name) is in
    ap (λ (es : Entries). relvar_named es name) m.split ∙ (named_before m.prefix ((m.own, r) ∷ m.back) name found.0 found.1 ∙ sym found.1)

-- ---- the facts

abbrev IsThere : Option HistoryRule → Type 0
IsThere None = ⊥
IsThere (Some rule) = Unit {0}

rule-there : (before : Entries) (since during : Name) (t : Tree) (o : Option HistoryRule) → IsOfRule before since during t o → IsThere o
rule-there before since during t None is = absurd is
rule-there before since during t (Some rule) is = tt

told : (place : Place) (o : Option HistoryRule) (p : Option PlainRelvar) → IsThere o → IsBase p
    → IfErr {T = Facts} (value_or place E20 o >>= (λ rule. (value_or place E20 p >>= (λ since. Ok (relvar_heading since))) >>= (λ heading. Ok (heading, kind_at heading rule.point_there)))) (λ _. ⊥)
told place None p rule since = absurd rule
told place (Some rule) None h since = absurd since
told place (Some rule) (Some since) h is = tt

pub facts-told : (s : State) (place : Place) (name : Name) (t : Tree) (names : Name × Name) → IsWellMade s → relvar_named s.relvars name ≡ Some (view t (of_history names))
    → IfErr (facts_of s place (view t (of_history names))) (λ _. ⊥)
facts-told s place name t names made e =
    let m = made-in (sizes_of s.ordinals) [] s.relvars name (view t (of_history names)) made.relvars e in
    let since = named-whole (sizes_of s.ordinals) s.relvars (view t (of_history names)) m names.0 m.made.1.0 in
    let during = named-whole (sizes_of s.ordinals) s.relvars (view t (of_history names)) m names.1 m.made.1.1 in
    let rule = rule-there m.prefix names.0 names.1 t (rule_among (constraints_if (relvar_named m.prefix names.1))) m.made.1.2 in
    told place (rule_if s.relvars (Some names)) (relvar_named s.relvars names.0) (subst (λ (o : Option PlainRelvar). IsThere (rule_among (constraints_if o))) (sym during) rule)
    (subst IsBase (sym since) m.made.1.0)
