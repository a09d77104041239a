-- What TYPE declares keeps a state well made.
use Rattle.std.specs.Prelude.{◌≡◌, ◌≤◌, ℕ, suc, not, List, [], ◌∷◌, ◌++◌, map, length, nat_le, nat_lt, IfOk, IsTrue}
use Rattle.std.proofs.Common.{arith, get_or, sym, ◌∙◌, ap, subst, append_assoc}
use Rattle.std.specs.List.{All, IsDistinct}
use Rattle.std.specs.Str.{bytes_eq}
use Rattle.std.proofs.lemmas.Bool.{leb-true, ltb-true, not-true}
use Rattle.std.proofs.lemmas.List.{map-append, length-append}
use Rattle.base_core.proofs.ListLemmas.{IsDistinct-push}
use Rattle.point_core.specs.declared.fault.Code.TheVariants.{E15, E22}
use Rattle.utd_syntax.specs.Plain as syntax
use Rattle.utd_syntax.specs.Plain.{Word, SomeNamesP}
use Rattle.value_core.specs.declared.list.OrdinalNames.{OrdinalNames}
use Rattle.value_core.specs.Limits.{most_ordinal_types, most_ordinal_values}
use Rattle.value_core.specs.Values.{Name}
use Rattle.scalar_typing.proofs.SoundLemmas.{then-sound, any-given}
use Rattle.relation_typing.specs.Attributes.{name_typed}
use Rattle.tree_core.specs.Relvars.{State}
use Rattle.meaning_core.specs.Declarations.{PlainDeclaration, with_declaration}
use Rattle.meaning_core.specs.Typing.{IsTypedTest}
use Rattle.meaning_core.specs.WellMade.{sizes_of, headings_of, all_names, IsOrdinalType, AreRelvars, IsWellMade}
use Rattle.node_typing.specs.Lists.{named_in}
use Rattle.node_typing.specs.Positions.{check}
use Rattle.declaration_typing.specs.Names.{new_name}
use Rattle.declaration_typing.specs.Ordinals.{with_value, values_typed, few_values, ordinal_declared}
use Rattle.declaration_typing.proofs.DistinctLemmas.{distinct-between, no-distinct, none-named, all-push}
use Rattle.declaration_typing.proofs.MoreTypes.{relvars-more, test-more}
use Rattle.declaration_typing.proofs.PositionLemmas.{held}
use Rattle.declaration_typing.proofs.StateLemmas.{other-both, others-from, IsFree, free-name}

-- ---- values

-- so many different values, and more
abbrev AreValues : ℕ → List Name → Type 0
AreValues least values = (least ≤ length values) × IsDistinct bytes_eq values

one-more : (before : List Name) (w : Word) (least : ℕ) → AreValues least before → IfOk (with_value before w) (AreValues (suc least))
one-more before w least are =
    then-sound (λ (_ : Name). Unit {0}) (AreValues (suc least)) (name_typed w) _ (any-given (name_typed w)) (λ name _.
    then-sound (λ (_ : Unit {0}). IsTrue (not (named_in before name))) (AreValues (suc least)) (check w.place E15 (not (named_in before name))) _ (held w.place E15 (not (named_in before name))) (λ _ new.
    let long = length-append before (name ∷ []) in
    (omega (arith, long, are.0), IsDistinct-push bytes_eq before name are.1 (none-named before name (not-true (named_in before name) new)))))

values-from : (words : List Word) (before : List Name) (least : ℕ) → AreValues least before → IfOk (values_typed before words) (AreValues least)
values-from [] before least are = are
values-from (w ∷ words) before least are =
    then-sound (AreValues (suc least)) (AreValues least) (with_value before w) _ (one-more before w least are) (λ next more.
    values-from words next least (omega (arith, more.0), more.1))

some-values : (first : Word) (more : List Word) → IfOk (values_typed [] (first ∷ more)) (AreValues 1)
some-values first more =
    then-sound (AreValues 1) (AreValues 1) (with_value [] first) _ (one-more [] first 0 (omega arith, no-distinct bytes_eq)) (λ next are. values-from more next 1 are)

-- few enough for an ordinal type
abbrev MakeType : List Name → Type 0
MakeType values = (name : Name) → IsOrdinalType (record { name = name; values = values })

few-make : (list : SomeNamesP) → IfOk (few_values list) MakeType
few-make (syntax.SomeNames at first more) =
    then-sound (AreValues 1) MakeType (values_typed [] (first ∷ more)) _ (some-values first more) (λ values are.
    then-sound (λ (_ : Unit {0}). IsTrue (nat_le (length values) most_ordinal_values)) MakeType (check at E22 (nat_le (length values) most_ordinal_values)) _ (held at E22 (nat_le (length values) most_ordinal_values)) (λ _ few name.
    record { some = are.0; few = leb-true (length values) most_ordinal_values few; different = are.1 }))

-- ---- states

abbrev with_type : State → OrdinalNames → State
with_type s o = record s { ordinals = s.ordinals ++ o ∷ [] }

names-with : (s : State) (o : OrdinalNames) → (map (λ k. k.0) s.rules ++ map (λ (t : OrdinalNames). t.name) s.ordinals) ++ o.name ∷ map (λ r. r.0) s.relvars ≡ all_names (with_type s o)
names-with s o =
    let rules : List Name = map (λ k. k.0) s.rules in
    let types : List Name = map (λ (t : OrdinalNames). t.name) s.ordinals in
    let relvars : List Name = map (λ r. r.0) s.relvars in
    sym (append_assoc (rules ++ types) (o.name ∷ []) relvars)
    ∙ (ap (λ (names : List Name). names ++ relvars) (append_assoc rules types (o.name ∷ []))
    ∙ ap (λ (names : List Name). (rules ++ names) ++ relvars) (sym (map-append (λ (t : OrdinalNames). t.name) s.ordinals (o ∷ []))))

sizes-with : (s : State) (o : OrdinalNames) → sizes_of s.ordinals ++ length o.values ∷ [] ≡ sizes_of (with_type s o).ordinals
sizes-with s o = sym (map-append (λ (t : OrdinalNames). length t.values) s.ordinals (o ∷ []))

types-more : (s : State) (o : OrdinalNames) → IsWellMade s → IsFree s o.name → IsOrdinalType o → suc (length s.ordinals) ≤ most_ordinal_types → IsWellMade (with_type s o)
types-more s o made free is room =
    let rules : List Name = map (λ k. k.0) s.rules in
    let types : List Name = map (λ (t : OrdinalNames). t.name) s.ordinals in
    let relvars : List Name = map (λ r. r.0) s.relvars in
    record {
      few = let long = length-append s.ordinals (o ∷ []) in omega (arith, long, room);
      ordinals = all-push IsOrdinalType s.ordinals o made.ordinals is;
      different = subst (IsDistinct bytes_eq) (names-with s o)
          (distinct-between bytes_eq (rules ++ types) o.name relvars made.different (other-both o.name rules types free.rules free.ordinals) (others-from o.name relvars free.relvars));
      relvars = subst (λ (sizes : List ℕ). AreRelvars sizes [] s.relvars) (sizes-with s o) (relvars-more (sizes_of s.ordinals) (length o.values ∷ []) [] s.relvars made.relvars);
      few_rules = made.few_rules;
      rules = subst (λ (sizes : List ℕ). All (λ k. IsTypedTest sizes (headings_of s.relvars) k.1) s.rules) (sizes-with s o)
          (λ k d l. test-more (sizes_of s.ordinals) (length o.values ∷ []) (headings_of s.relvars) (get_or s.rules k d).1 (made.rules k d l));
      apart = made.apart;
    }

module _ (s : State) (w : Word) (list : SomeNamesP) where
  abbrev IsKept : PlainDeclaration → Type 0
  IsKept d = IsWellMade (with_declaration s d)

  pub ordinal-kept : IsWellMade s → IfOk (ordinal_declared s w list) IsKept
  unfolding ordinal_declared
  ordinal-kept made =
      then-sound (IsFree s) IsKept (new_name s w) _ (free-name s w) (λ name free.
      then-sound MakeType IsKept (few_values list) _ (few-make list) (λ values make.
      then-sound (λ (_ : Unit {0}). IsTrue (nat_lt (length s.ordinals) most_ordinal_types)) IsKept (check w.place E22 (nat_lt (length s.ordinals) most_ordinal_types)) _ (held w.place E22 (nat_lt (length s.ordinals) most_ordinal_types)) (λ _ room.
      types-more s (record { name = name; values = values }) made free (make name) (ltb-true (length s.ordinals) most_ordinal_types room))))
