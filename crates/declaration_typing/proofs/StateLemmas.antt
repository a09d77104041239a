-- A well made state with one relvar or view more.
use Rattle.std.specs.Prelude.{◌≡◌, Bool, true, false, not, ◌||◌, List, [], ◌∷◌, ◌++◌, map, Option, Some, None, is_some, IfOk, IsTrue, refl, if◌then◌else◌}
use Rattle.std.proofs.Common.{get_or, ◌∙◌, subst}
use Rattle.std.specs.List.{AllByRecursion, IsDistinct, list_any}
use Rattle.std.specs.Str.{bytes_eq}
use Rattle.std.proofs.lemmas.Bool.{or_parts, not-true}
use Rattle.base_core.proofs.ListLemmas.{IsDistinct-push, bytes_eq-sym}
use Rattle.point_core.specs.declared.fault.Code.TheVariants.{E11}
use Rattle.utd_syntax.specs.Plain.{Word}
use Rattle.value_core.specs.declared.list.OrdinalNames.{OrdinalNames}
use Rattle.value_core.specs.Values.{Name}
use Rattle.scalar_typing.proofs.SoundLemmas.{then-sound, any-given}
use Rattle.relation_typing.specs.Attributes.{name_typed}
use Rattle.tree_core.specs.Relvars.{State, PlainRelvar, Entries, Rules, relvar_named}
use Rattle.meaning_core.specs.Declarations.{with_relvar}
use Rattle.meaning_core.specs.WellMade.{sizes_of, all_names, IsRelvar, IsWellMade}
use Rattle.meaning_core.proofs.LogLemmas.{apart-appended}
use Rattle.meaning_core.proofs.RelvarLemmas.{more_relvars, more_names}
use Rattle.meaning_core.proofs.StaysTyped.{rules-behind}
use Rattle.node_typing.specs.Positions.{check}
use Rattle.declaration_typing.specs.Names.{is_rule, is_taken, new_name}
use Rattle.declaration_typing.proofs.PositionLemmas.{held}

-- ---- names that are free

abbrev pub AreOther : Name → List Name → Type 0
AreOther name names = AllByRecursion (λ (n : Name). bytes_eq n name ≡ false) names

pub other-both : (name : Name) (xs ys : List Name) → AreOther name xs → AreOther name ys → AreOther name (xs ++ ys)
other-both name [] ys h k = k
other-both name (x ∷ xs) ys h k = (h.0, other-both name xs ys h.1 k)

none-some : (o : Option PlainRelvar) → is_some o ≡ false → o ≡ None
none-some None e = refl
none-some (Some x) e = absurd (cc)

other-ordinals : (name : Name) (types : List OrdinalNames) → list_any (λ o. bytes_eq name o.name) types ≡ false → AreOther name (map (λ o. o.name) types)
other-ordinals name [] e = tt
other-ordinals name (o ∷ types) e =
    let parts = or_parts (bytes_eq name o.name) (list_any (λ t. bytes_eq name t.name) types) e in
    (bytes_eq-sym o.name name ∙ parts.0, other-ordinals name types parts.1)

other-relvars : (name : Name) (entries : Entries) → relvar_named entries name ≡ None → AreOther name (map (λ r. r.0) entries)
other-relvars name [] e = tt
other-relvars name (r ∷ entries) e = by-test (bytes_eq r.0 name) refl (other-relvars name entries) e
  where
    by-test : (b : Bool) → bytes_eq r.0 name ≡ b → (relvar_named entries name ≡ None → AreOther name (map (λ k. k.0) entries)) → (if b then Some r.1 else relvar_named entries name) ≡ None
        → AreOther name (map (λ k. k.0) (r ∷ entries))
    by-test true f rest g = absurd (cc)
    by-test false f rest g = (f, rest g)

other-rules : (name : Name) (rules : Rules) → list_any (λ k. bytes_eq name k.0) rules ≡ false → AreOther name (map (λ k. k.0) rules)
other-rules name [] e = tt
other-rules name (k ∷ rules) e =
    let parts = or_parts (bytes_eq name k.0) (list_any (λ j. bytes_eq name j.0) rules) e in
    (bytes_eq-sym k.0 name ∙ parts.0, other-rules name rules parts.1)

-- nothing has the name
pub record IsFree (s : State) (name : Name) : Type 0 where
  pub none : relvar_named s.relvars name ≡ None
  pub rules : AreOther name (map (λ k. k.0) s.rules)
  pub ordinals : AreOther name (map (λ o. o.name) s.ordinals)
  pub relvars : AreOther name (map (λ r. r.0) s.relvars)

free-from : (s : State) (name : Name) → is_taken s name ≡ false → IsFree s name
free-from s name e =
    let most = or_parts (list_any (λ o. bytes_eq name o.name) s.ordinals || is_some (relvar_named s.relvars name)) (is_rule s name) e in
    let parts = or_parts (list_any (λ o. bytes_eq name o.name) s.ordinals) (is_some (relvar_named s.relvars name)) most.0 in
    let none : relvar_named s.relvars name ≡ None = none-some (relvar_named s.relvars name) parts.1 in
    record { none = none; rules = other-rules name s.rules most.1; ordinals = other-ordinals name s.ordinals parts.0; relvars = other-relvars name s.relvars none }

-- none of all names is this one
pub free-in : (s : State) (name : Name) → IsFree s name → AreOther name (all_names s)
free-in s name free =
    let rules : List Name = map (λ k. k.0) s.rules in
    let ordinals : List Name = map (λ o. o.name) s.ordinals in
    other-both name (rules ++ ordinals) (map (λ r. r.0) s.relvars) (other-both name rules ordinals free.rules free.ordinals) free.relvars

-- from the other side
pub others-from : (name : Name) (names : List Name) → AreOther name names → AllByRecursion (λ n. bytes_eq name n ≡ false) names
others-from name [] h = tt
others-from name (n ∷ names) h = (bytes_eq-sym name n ∙ h.0, others-from name names h.1)

pub free-name : (s : State) (w : Word) → IfOk (new_name s w) (IsFree s)
free-name s w =
    then-sound (λ (_ : Name). Unit {0}) (IsFree s) (name_typed w) _ (any-given (name_typed w)) (λ name _.
    then-sound (λ (_ : Unit {0}). IsTrue (not (is_taken s name))) (IsFree s) (check w.place E11 (not (is_taken s name))) _ (held w.place E11 (not (is_taken s name))) (λ _ free.
    free-from s name (not-true (is_taken s name) free)))

-- ---- one relvar or view more

pub with-relvar : (s : State) (own : Name) (r : PlainRelvar) → IsWellMade s → IsFree s own → IsRelvar (sizes_of s.ordinals) s.relvars own r → IsWellMade (with_relvar s own r)
with-relvar s own r made free is = record {
  few = made.few;
  ordinals = made.ordinals;
  different = subst (IsDistinct bytes_eq) (more_names s own r)
      (IsDistinct-push bytes_eq (all_names s) own made.different (free-in s own free));
  relvars = more_relvars (sizes_of s.ordinals) [] s.relvars own r made.relvars is;
  few_rules = made.few_rules;
  rules = rules-behind s own r made.rules;
  apart = λ k d l. apart-appended (sizes_of s.ordinals) s.relvars ((own, r) ∷ []) (get_or s.rules k d).1 (made.rules k d l) (made.apart k d l);
}
