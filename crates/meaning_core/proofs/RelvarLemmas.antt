-- What a state has under a name, and a state with one relvar more.
use Rattle.std.specs.Prelude.{◌≡◌, true, false, cond, [], ◌∷◌, Some, refl, option_map, Bool, ◌++◌, if◌then◌else◌, ℕ, List, map}
use Rattle.std.specs.Str.{bytes_eq}
use Rattle.std.proofs.Common.{sym, subst, append_assoc, ◌∙◌, ap}
use Rattle.std.proofs.lemmas.List.{append-nil, map-append}
use Rattle.value_core.specs.Values.{Name}
use Rattle.tree_core.specs.Relvars.{Entries, relvar_named, relvar_heading, PlainRelvar, State}
use Rattle.meaning_core.specs.Typing.{heading_named}
use Rattle.meaning_core.specs.WellMade.{headings_of, IsRelvar, AreRelvars, all_names}
use Rattle.meaning_core.specs.Declarations.{with_relvar}

pub heading_of_named : (es : Entries) (name : Name) → heading_named (headings_of es) name ≡ option_map relvar_heading (relvar_named es name)
heading_of_named [] name = refl
heading_of_named (r ∷ rest) name =
    elim (bytes_eq r.0 name) as (λ b. cond b (Some (relvar_heading r.1)) (heading_named (headings_of rest) name) ≡ option_map relvar_heading (cond b (Some r.1) (relvar_named rest name))) [
      | true ↦ refl
      | false ↦ heading_of_named rest name
    ]

pub named_before : (before more : Entries) (name : Name) (x : PlainRelvar) → relvar_named before name ≡ Some x → relvar_named (before ++ more) name ≡ Some x
named_before [] more name x e = absurd (cc)
named_before (k ∷ before) more name x e = by-test (bytes_eq k.0 name) e (named_before before more name x)
  where
    by-test : (b : Bool) → (if b then Some k.1 else relvar_named before name) ≡ Some x → (relvar_named before name ≡ Some x → relvar_named (before ++ more) name ≡ Some x)
        → (if b then Some k.1 else relvar_named (before ++ more) name) ≡ Some x
    by-test true f h = f
    by-test false f h = h f

pub more_relvars : (sizes : List ℕ) (before entries : Entries) (own : Name) (r : PlainRelvar) → AreRelvars sizes before entries → IsRelvar sizes (before ++ entries) own r
    → AreRelvars sizes before (entries ++ (own, r) ∷ [])
more_relvars sizes before [] own r all is = (subst (λ (es : Entries). IsRelvar sizes es own r) (append-nil before) is, tt)
more_relvars sizes before (e ∷ entries) own r all is =
    (all.0, more_relvars sizes (before ++ e ∷ []) entries own r all.1 (subst (λ (es : Entries). IsRelvar sizes es own r) (sym (append_assoc before (e ∷ []) entries)) is))

pub more_names : (s : State) (own : Name) (r : PlainRelvar) → all_names s ++ own ∷ [] ≡ all_names (with_relvar s own r)
more_names s own r =
    let before : List Name = map (λ k. k.0) s.rules ++ map (λ o. o.name) s.ordinals in
    append_assoc before (map (λ (e : Name × PlainRelvar). e.0) s.relvars) (own ∷ [])
    ∙ ap (λ (names : List Name). before ++ names) (sym (map-append (λ (e : Name × PlainRelvar). e.0) s.relvars ((own, r) ∷ [])))
