-- What items make: attributes in order, of scalars over a heading.
use Rattle.std.specs.Prelude.{◌≡◌, ◌≤◌, ℕ, Bool, true, false, List, [], ◌∷◌, ◌++◌, length, nat_le, Ok, IfOk, IsTrue, refl, if◌then◌else◌}
use Rattle.std.proofs.Common.{sym, subst}
use Rattle.std.specs.List.{list_all, All}
use Rattle.std.specs.List.Sorted.{IsPermutation}
use Rattle.std.proofs.lemmas.Bool.{and_from, leb-true}
use Rattle.std.proofs.lemmas.List.{append-nil, append_assoc}
use Rattle.std.proofs.lemmas.List.Sorted.{IsPermutation-refl, IsPermutation-trans, IsPermutation-cons, IsPermutation-middle}
use Rattle.base_core.proofs.SetLemmas.{Ascends}
use Rattle.point_core.specs.declared.fault.Place.{Place}
use Rattle.point_core.specs.declared.fault.Code.TheVariants.{E17}
use Rattle.utd_syntax.specs.Plain.{Word, ScalarP, ElementP, Element}
use Rattle.value_core.specs.declared.kind.Kind.{Kind}
use Rattle.value_core.specs.declared.list.OrdinalNames.{OrdinalNames}
use Rattle.value_core.specs.Headings.{has_name, IsHeadingOf, most_attributes}
use Rattle.value_core.specs.Values.{Name, Heading, attribute_cmp, is_heading}
use Rattle.scalar_core.specs.Expressions.{Expr}
use Rattle.scalar_typing.specs.Typings.{refused}
use Rattle.scalar_typing.specs.Scalars.{typed_scalar}
use Rattle.scalar_typing.proofs.SoundLemmas.{then-sound}
use Rattle.relation_typing.specs.Attributes.{with_attribute, new_name, few_attributes}
use Rattle.relation_typing.specs.Items.{Made, item_typed, elements_typed}
use Rattle.tree_core.specs.Trees.{PlainSets}
use Rattle.meaning_core.specs.Typing.{is_kind, is_declared, IsScalar, Makes}
use Rattle.meaning_core.specs.WellMade.{sizes_of, IsOrdinalType}
use Rattle.since_during.proofs.HistoryTypes.{is-heading}
use Rattle.declaration_typing.proofs.HistoryLaws.{new-attribute}
use Rattle.type_check.proofs.PutLemmas.{insert-permutes, insert-ascends, heading-of, all-moved}
use Rattle.type_check.proofs.ScalarLemmas.{scalar-kind, typed-is_scalar}

-- ---- attributes so far

-- the attributes are in order, and those that were made beside the old ones
pub record IsListed (made old attributes : Heading) : Type 0 where
  pub same : IsPermutation (made ++ old) attributes
  pub ascends : Ascends attribute_cmp attributes

pub listed-none : (old : Heading) → Ascends attribute_cmp old → IsListed [] old old
listed-none old up = record { same = IsPermutation-refl old; ascends = up }

pub listed-more : (made old attributes : Heading) (name : Name) (kind : Kind) → IsListed made old attributes → has_name attributes name ≡ false
    → IsListed (made ++ (name, kind) ∷ []) old (with_attribute attributes name kind)
listed-more made old attributes name kind h new = record {
  same =
      let a : Name × Kind = (name, kind) in
      let split : (made ++ (name, kind) ∷ []) ++ old ≡ made ++ (name, kind) ∷ old = append_assoc made ((name, kind) ∷ []) old in
      let prefix : IsPermutation (made ++ (name, kind) ∷ old) ((name, kind) ∷ (made ++ old)) = IsPermutation-middle made (name, kind) old in
      let more : IsPermutation ((name, kind) ∷ (made ++ old)) ((name, kind) ∷ attributes) = IsPermutation-cons (name, kind) (made ++ old) attributes h.same in
      let put : IsPermutation ((name, kind) ∷ attributes) (with_attribute attributes name kind) = insert-permutes attributes name kind new in
      subst (λ (l : Heading). IsPermutation l (with_attribute attributes name kind)) (sym split)
      (IsPermutation-trans (made ++ (name, kind) ∷ old) ((name, kind) ∷ (made ++ old)) (with_attribute attributes name kind) prefix
      (IsPermutation-trans ((name, kind) ∷ (made ++ old)) ((name, kind) ∷ attributes) (with_attribute attributes name kind) more put));
  ascends = insert-ascends attributes name kind new h.ascends;
}

-- few of them are a heading
pub listed-heading : (made old attributes : Heading) → IsListed made old attributes → length attributes ≤ most_attributes → IsHeadingOf (made ++ old) attributes
listed-heading made old attributes h few = heading-of (made ++ old) attributes h.same (is-heading attributes h.ascends few)

-- ---- names and counts

pub few-is_few : (place : Place) (h : Heading) → IfOk (few_attributes place h) (λ to. (to ≡ h) × (length h ≤ most_attributes))
few-is_few place h = by-count (nat_le (length h) most_attributes) refl
  where
    by-count : (b : Bool) → nat_le (length h) most_attributes ≡ b → IfOk (if b then Ok h else refused place E17) (λ (to : Heading). (to ≡ h) × (length h ≤ most_attributes))
    by-count true e = (refl, leb-true (length h) most_attributes e)
    by-count false e = tt

-- ---- items

-- the items are of scalars over the heading, and make the attributes
pub record IsMade (sizes : List ℕ) (from : Heading) (sets : PlainSets) (attributes : Heading) : Type 0 where
  pub made : Heading
  pub makes : Makes sizes from sets made
  pub listed : IsListed made [] attributes

pub made-none : (sizes : List ℕ) (from : Heading) → IsMade sizes from [] []
made-none sizes from = record { made = []; makes = tt; listed = listed-none [] tt }

makes-more : (sizes : List ℕ) (from : Heading) (sets : PlainSets) (made : Heading) (name : Name) (e : Expr) (kind : Kind) → Makes sizes from sets made → IsScalar sizes from e kind
    → Makes sizes from (sets ++ (name, e) ∷ []) (made ++ (name, kind) ∷ [])
makes-more sizes from [] [] name e kind h is = (refl, is, tt)
makes-more sizes from [] (a ∷ made) name e kind h is = absurd h
makes-more sizes from (s ∷ sets) [] name e kind h is = absurd h
makes-more sizes from (s ∷ sets) (a ∷ made) name e kind h is = (h.0, h.1, makes-more sizes from sets made name e kind h.2 is)

pub made-more : (sizes : List ℕ) (from : Heading) (sets : PlainSets) (attributes : Heading) (name : Name) (e : Expr) (kind : Kind) → IsMade sizes from sets attributes
    → has_name attributes name ≡ false → IsScalar sizes from e kind → IsMade sizes from (sets ++ (name, e) ∷ []) (with_attribute attributes name kind)
made-more sizes from sets attributes name e kind h new is = record {
  made = h.made ++ (name, kind) ∷ [];
  makes = makes-more sizes from sets h.made name e kind h.makes is;
  listed = listed-more h.made [] attributes name kind h.listed new;
}

-- their kinds are there where those of the heading are
pub makes-kinds : (sizes : List ℕ) (from : Heading) (sets : PlainSets) (made : Heading) → IsTrue (list_all (λ a. is_kind sizes a.1) from) → Makes sizes from sets made
    → IsTrue (list_all (λ a. is_kind sizes a.1) made)
makes-kinds sizes from [] [] kinds h = refl
makes-kinds sizes from [] (a ∷ made) kinds h = absurd h
makes-kinds sizes from (s ∷ sets) [] kinds h = absurd h
makes-kinds sizes from (s ∷ sets) (a ∷ made) kinds h =
    and_from (is_kind sizes a.1) (list_all (λ b. is_kind sizes b.1) made) (scalar-kind sizes from s.1 a.1 kinds h.1) (makes-kinds sizes from sets made kinds h.2)

pub made-heading : (sizes : List ℕ) (from : Heading) (sets : PlainSets) (attributes : Heading) (h : IsMade sizes from sets attributes) → length attributes ≤ most_attributes → IsHeadingOf h.made attributes
made-heading sizes from sets attributes h few =
    subst (λ (l : Heading). IsHeadingOf l attributes) (append-nil h.made) (listed-heading h.made [] attributes h.listed few)

-- the heading has few enough attributes, of kinds there are
pub declared-of : (sizes : List ℕ) (list heading : Heading) → IsHeadingOf list heading → IsTrue (list_all (λ a. is_kind sizes a.1) list) → IsTrue (is_declared sizes heading)
declared-of sizes list heading h kinds =
    and_from (is_heading heading) (list_all (λ a. is_kind sizes a.1) heading) h.ordered (all-moved (λ a. is_kind sizes a.1) list heading h.same kinds)

module _ (types : List OrdinalNames) (ordinals : All IsOrdinalType types) (from : Heading) where
  pub item-made : (before : Made) (w : Word) (s : ScalarP) → IsMade (sizes_of types) from before.0 before.1
      → IfOk (item_typed types from before w s) (λ (m : Made). IsMade (sizes_of types) from m.0 m.1)
  item-made before w s h =
      then-sound (λ (name : Name). has_name before.1 name ≡ false) (λ (m : Made). IsMade (sizes_of types) from m.0 m.1) (new_name before.1 w) _ (new-attribute before.1 w) (λ name new.
      then-sound (λ (e : Expr × Kind). IsScalar (sizes_of types) from e.0 e.1) (λ (m : Made). IsMade (sizes_of types) from m.0 m.1) (typed_scalar types from s) _
      (typed-is_scalar types ordinals from s) (λ e is. made-more (sizes_of types) from before.0 before.1 name e.0 e.1 h new is))

  pub elements-made : (before : Made) (list : List ElementP) → IsMade (sizes_of types) from before.0 before.1
      → IfOk (elements_typed types from before list) (λ (m : Made). IsMade (sizes_of types) from m.0 m.1)
  elements-made before [] h = h
  elements-made before (Element w s ∷ rest) h =
      then-sound (λ (m : Made). IsMade (sizes_of types) from m.0 m.1) (λ (m : Made). IsMade (sizes_of types) from m.0 m.1) (item_typed types from before w s) _
      (item-made before w s h) (λ next is. elements-made next rest is)
