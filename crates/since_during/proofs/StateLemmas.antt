-- A well made state with one relvar or view more.
--     free-more      names that are free stay so, but for the new one
--     none-named, own-named      what free names and the new one stand for
--     with-relvar      what is well made behind the others keeps the state well made
use Rattle.std.specs.Prelude.{◌≡◌, Bool, true, false, List, [], ◌∷◌, ◌++◌, map, Some, None, refl, if◌then◌else◌}
use Rattle.std.proofs.Common.{get_or, ap, ◌∙◌, subst}
use Rattle.std.specs.List.{AllByRecursion, IsDistinct}
use Rattle.std.specs.Str.{bytes_eq}
use Rattle.base_core.proofs.ListLemmas.{AllByRecursion-push, IsDistinct-push}
use Rattle.value_core.specs.declared.list.OrdinalNames.{OrdinalNames}
use Rattle.value_core.specs.Values.{Name}
use Rattle.tree_core.specs.Relvars.{State, PlainRelvar, Entries, relvar_named}
use Rattle.meaning_core.specs.Declarations.{with_relvar}
use Rattle.meaning_core.specs.WellMade.{sizes_of, all_names, IsRelvar, IsWellMade}
use Rattle.meaning_core.proofs.LogLemmas.{apart-appended}
use Rattle.meaning_core.proofs.RelvarLemmas.{more_relvars, more_names}
use Rattle.meaning_core.proofs.StaysTyped.{rules-behind}
use Rattle.since_during.specs.Histories.{IsFreeIn}

-- ---- names

abbrev AreOther : Name → List Name → Type 0
AreOther name names = AllByRecursion (λ (n : Name). bytes_eq n name ≡ false) names

pub free-more : (s : State) (own : Name) (r : PlainRelvar) (name : Name) → IsFreeIn s name → bytes_eq own name ≡ false → IsFreeIn (with_relvar s own r) name
free-more s own r name free other = subst (AreOther name) (more_names s own r) (AllByRecursion-push (λ (n : Name). bytes_eq n name ≡ false) (all_names s) own free other)

behind : (name : Name) (before names : List Name) → AreOther name (before ++ names) → AreOther name names
behind name [] names h = h
behind name (n ∷ before) names h = behind name before names h.1

none-of : (entries : Entries) (name : Name) → AreOther name (map (λ r. r.0) entries) → relvar_named entries name ≡ None
none-of [] name h = refl
none-of (r ∷ entries) name h = ap (λ (b : Bool). if b then Some r.1 else relvar_named entries name) h.0 ∙ none-of entries name h.1

-- nothing has a free name
pub none-named : (s : State) (name : Name) → IsFreeIn s name → relvar_named s.relvars name ≡ None
none-named s name free =
    let before : List Name = map (λ k. k.0) s.rules ++ map (λ (o : OrdinalNames). o.name) s.ordinals in
    none-of s.relvars name (behind name before (map (λ r. r.0) s.relvars) free)

-- the new relvar is what its name stands for
pub own-named : (entries : Entries) (own : Name) (r : PlainRelvar) → bytes_eq own own ≡ true → relvar_named entries own ≡ None → relvar_named (entries ++ (own, r) ∷ []) own ≡ Some r
own-named [] own r same none = ap (λ (b : Bool). if b then Some r else None) same
own-named (e ∷ entries) own r same none = by-test (bytes_eq e.0 own) none (own-named entries own r same)
  where
    by-test : (b : Bool) → (if b then Some e.1 else relvar_named entries own) ≡ None → (relvar_named entries own ≡ None → relvar_named (entries ++ (own, r) ∷ []) own ≡ Some r)
        → (if b then Some e.1 else relvar_named (entries ++ (own, r) ∷ []) own) ≡ Some r
    by-test true f more = absurd (cc)
    by-test false f more = more f

-- ---- one relvar or view more

pub with-relvar : (s : State) (own : Name) (r : PlainRelvar) → IsWellMade s → IsFreeIn s own → IsRelvar (sizes_of s.ordinals) s.relvars own r → IsWellMade (with_relvar s own r)
with-relvar s own r made free is = record {
  few = made.few;
  ordinals = made.ordinals;
  different = subst (IsDistinct bytes_eq) (more_names s own r) (IsDistinct-push bytes_eq (all_names s) own made.different free);
  relvars = more_relvars (sizes_of s.ordinals) [] s.relvars own r made.relvars is;
  few_rules = made.few_rules;
  rules = rules-behind s own r made.rules;
  apart = λ k d l. apart-appended (sizes_of s.ordinals) s.relvars ((own, r) ∷ []) (get_or s.rules k d).1 (made.rules k d l) (made.apart k d l);
}
