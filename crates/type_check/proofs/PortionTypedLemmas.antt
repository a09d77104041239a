-- A typed portion names interval attributes of the target, each with an interval of its kind.
use Rattle.std.specs.Prelude.{◌≡◌, ◌<◌, ◌≤◌, ℕ, zero, suc, not, List, [], ◌∷◌, ◌++◌, length, get_or, map, nat_eq, nat_le, Some, None, IfOk, IsTrue}
use Rattle.std.proofs.Common.{arith, sym, ◌∙◌, ap, subst, inl, inr}
use Rattle.std.specs.Cmp.{nat_eq_equiv}
use Rattle.std.specs.List.{slice_get, All, IsDistinct}
use Rattle.std.specs.Str.{bytes_eq}
use Rattle.std.proofs.lemmas.Bool.{not-true, leb-true}
use Rattle.std.proofs.lemmas.List.{append-nil, append_assoc, length-map, map-append}
use Rattle.std.proofs.lemmas.Map.Keys.{IsDistinct-push}
use Rattle.base_core.proofs.SetLemmas.{In, Ascends}
use Rattle.base_core.proofs.MemberLemmas.{In-append, In-map, list_all-In}
use Rattle.base_core.proofs.ListLemmas.{All-In}
use Rattle.point_core.specs.declared.fault.Code.TheVariants.{E12, E14, E15, E16, E17}
use Rattle.value_core.specs.Attributes.{among}
use Rattle.utd_syntax.specs.Plain.{Word, ScalarP, ElementP, Element, SomeElementsP, SomeElements}
use Rattle.value_core.specs.declared.kind.Kind.{Kind}
use Rattle.value_core.specs.declared.list.OrdinalNames.{OrdinalNames}
use Rattle.value_core.specs.Headings.{has_name}
use Rattle.value_core.specs.Limits.{most_listed}
use Rattle.value_core.specs.Values.{Name, Heading, attribute_cmp}
use Rattle.scalar_core.specs.Expressions.{Expr}
use Rattle.scalar_core.specs.KindOf.{same_kind}
use Rattle.relation_core.specs.Agreement.{position_of}
use Rattle.relation_core.specs.Parts.{no_attribute, kind_at}
use Rattle.meaning_core.proofs.PositionLemmas.{position-back}
use Rattle.scalar_typing.specs.Names.{first_from, attribute_of}
use Rattle.scalar_typing.specs.Scalars.{typed_scalar}
use Rattle.scalar_typing.specs.Typings.{value_or}
use Rattle.scalar_typing.proofs.SoundLemmas.{then-sound, found-at}
use Rattle.scalar_typing.proofs.TypedLemmas.{mapped, or-refused}
use Rattle.scalar_core.proofs.KindOfLemmas.{same_kind-same}
use Rattle.tree_core.specs.Items.{PlainPortion}
use Rattle.meaning_core.specs.Meanings.{positions_of}
use Rattle.meaning_core.specs.Typing.{IsScalar, is_span}
use Rattle.meaning_core.specs.Updates.{attributes_of_portion, IsPart, IsPortionIf}
use Rattle.meaning_core.specs.WellMade.{sizes_of, IsOrdinalType}
use Rattle.node_typing.specs.Positions.{check}
use Rattle.item_typing.specs.Changes.{part_typed, parts_typed, portion_typed, element_name, portion_names}
use Rattle.type_check.proofs.PositionLemmas.{named-in}
use Rattle.declaration_typing.proofs.PositionLemmas.{held}
use Rattle.meaning_core.proofs.MadeLemmas.{same_name}
use Rattle.type_check.proofs.ScalarLemmas.{typed-is_scalar}
use Rattle.type_check.proofs.SetTypedLemmas.{first-in, onward}

get-of : {X : Type 0} (xs : List X) (i : ℕ) (x d : X) → slice_get xs i ≡ Some x → get_or xs i d ≡ x
get-of [] i x d e = absurd cc
get-of (y ∷ ys) zero x d e = cc
get-of (y ∷ ys) (suc i) x d e = get-of ys i x d e

-- the attribute of a word stands at its position
pub record IsFound (heading : Heading) (w : Word) (found : ℕ × Kind) : Type 0 where
  pub within : found.0 < length heading
  pub kind : kind_at heading found.0 ≡ found.1
  pub position : position_of heading w.bytes ≡ found.0
  pub known : IsTrue (has_name heading w.bytes)

found-position : (heading : Heading) (w : Word) → Ascends attribute_cmp heading → IfOk (value_or w.place E14 (attribute_of heading w.bytes)) (IsFound heading w)
found-position heading w up =
    or-refused (IsFound heading w) w.place E14 (attribute_of heading w.bytes)
    (mapped (IsFound heading w) (first_from (λ a. bytes_eq a.0 w.bytes) 0 heading) _ (λ found e.
    let at = found-at (λ (a : Name × Kind). bytes_eq a.0 w.bytes) heading found.0 found.1 e in
    let h = first-in (λ (a : Name × Kind). bytes_eq a.0 w.bytes) 0 heading found.0 found.1 e in
    let same : found.1.0 ≡ w.bytes = same_name found.1.0 w.bytes h.1 in
    let stands : get_or heading found.0 no_attribute ≡ found.1 = get-of heading found.0 found.1 no_attribute at.1 in
    let named : (get_or heading found.0 no_attribute).0 ≡ w.bytes = ap (λ (a : Name × Kind). a.0) stands ∙ same in
    record {
      within = at.0;
      kind = ap (λ (a : Name × Kind). a.1) stands;
      position = ap (position_of heading) (sym named) ∙ position-back heading found.0 no_attribute up at.0;
      known = named-in heading w.bytes found.1.1 (subst (λ (n : Name). In (n, found.1.1) heading) same h.0);
    }))

-- different interval attributes of the heading, each with an interval of its kind
pub record AreParts (sizes : List ℕ) (heading : Heading) (portion : PlainPortion) : Type 0 where
  pub parts : (p : ℕ × Expr) → In p portion → (p.0 < length heading) × IsPart sizes heading p
  pub different : IsDistinct nat_eq (attributes_of_portion portion)

none-read : (sizes : List ℕ) (heading : Heading) → AreParts sizes heading []
unfolding IsDistinct
none-read sizes heading = record { parts = λ p i. absurd i; different = tt }

-- the attributes of a portion are those of the names, which are names of attributes
pub record AreNamed (heading : Heading) (names : List Name) (attributes : List ℕ) : Type 0 where
  pub positions : attributes ≡ positions_of heading names
  pub known : (name : Name) → In name names → IsTrue (has_name heading name)

part-more : (sizes : List ℕ) (heading : Heading) (before : PlainPortion) (i : ℕ) (e : Expr) → AreParts sizes heading before → i < length heading → IsPart sizes heading (i, e)
    → IsTrue (not (among (attributes_of_portion before) i)) → AreParts sizes heading (before ++ (i, e) ∷ [])
part-more sizes heading before i e h within is new = record {
  parts = λ p m.
      elim ((In-append p before ((i, e) ∷ [])).0 m) [
        | inl j ↦ h.parts p j
        | inr j ↦ elim j [ inl k ↦ subst (λ (q : ℕ × Expr). (q.0 < length heading) × IsPart sizes heading q) (sym k) (within, is) | inr k ↦ absurd k ]
      ];
  different =
      subst (IsDistinct nat_eq) (sym (map-append (λ (p : ℕ × Expr). p.0) before ((i, e) ∷ [])))
      (IsDistinct-push nat_eq_equiv (attributes_of_portion before) i h.different (not-true (among (attributes_of_portion before) i) new));
}

-- few of them are a portion
as-portion : (sizes : List ℕ) (heading : Heading) (name : Name) (names : List Name) (m : PlainPortion) → AreParts sizes heading m → AreNamed heading (name ∷ names) (attributes_of_portion m) → length m ≤ most_listed
    → IsPortionIf sizes heading None (Some m)
as-portion sizes heading name names [] h is few = absurd (let e = is.positions in cc)
as-portion sizes heading name names (p ∷ m) h is few =
    let commalist : List ℕ = attributes_of_portion (p ∷ m) in (
      record {
        within = All-In (λ (i : ℕ). i < length heading) commalist (λ i j.
            let w = (In-map (λ (q : ℕ × Expr). q.0) i (p ∷ m)).0 j in
            subst (λ (k : ℕ). k < length heading) (sym w.2) (h.parts w.0 w.1).0);
        different = h.different;
        spans = (list_all-In (λ i. is_span (kind_at heading i)) commalist).1 (λ i j.
            let w = (In-map (λ (q : ℕ × Expr). q.0) i (p ∷ m)).0 j in
            subst (λ (k : ℕ). IsTrue (is_span (kind_at heading k))) (sym w.2) (h.parts w.0 w.1).1.0);
        few = let same = length-map (p ∷ m) (λ (q : ℕ × Expr). q.0) in omega (arith, same, few);
      },
      All-In (IsPart sizes heading) (p ∷ m) (λ q i. (h.parts q i).1),
    )

-- what is read behind the parts so far
abbrev pub IsRead : List ℕ → Heading → List ℕ → List Name → PlainPortion → Type 0
IsRead sizes heading before names m =
    AreParts sizes heading m × (attributes_of_portion m ≡ before ++ positions_of heading names) × ((name : Name) → In name names → IsTrue (has_name heading name))

module _ (types : List OrdinalNames) (ordinals : All IsOrdinalType types) (heading : Heading) (up : Ascends attribute_cmp heading) where
  part-sound : (before : PlainPortion) (w : Word) (s : ScalarP) → AreParts (sizes_of types) heading before
      → IfOk (part_typed types heading before (Element w s)) (IsRead (sizes_of types) heading (attributes_of_portion before) (w.bytes ∷ []))
  part-sound before w s h =
      then-sound (IsFound heading w) (IsRead (sizes_of types) heading (attributes_of_portion before) (w.bytes ∷ [])) (value_or w.place E14 (attribute_of heading w.bytes)) _ (found-position heading w up) (λ found there.
      then-sound (λ _. IsTrue (not (among (attributes_of_portion before) found.0))) (IsRead (sizes_of types) heading (attributes_of_portion before) (w.bytes ∷ []))
      (check w.place E15 (not (among (attributes_of_portion before) found.0))) _ (held w.place E15 (not (among (attributes_of_portion before) found.0))) (λ _ new.
      then-sound (λ _. IsTrue (is_span found.1)) (IsRead (sizes_of types) heading (attributes_of_portion before) (w.bytes ∷ [])) (check w.place E16 (is_span found.1)) _
      (held w.place E16 (is_span found.1)) (λ _ span.
      then-sound (λ (e : Expr × Kind). IsScalar (sizes_of types) [] e.0 e.1) (IsRead (sizes_of types) heading (attributes_of_portion before) (w.bytes ∷ [])) (typed_scalar types [] s) _
      (typed-is_scalar types ordinals [] s) (λ e is.
      then-sound (λ _. IsTrue (same_kind e.1 found.1)) (IsRead (sizes_of types) heading (attributes_of_portion before) (w.bytes ∷ [])) (check w.place E12 (same_kind e.1 found.1)) _
      (held w.place E12 (same_kind e.1 found.1)) (λ _ same.
      let part : IsPart (sizes_of types) heading (found.0, e.0) = (
        subst (λ (k : Kind). IsTrue (is_span k)) (sym there.kind) span,
        subst (IsScalar (sizes_of types) [] e.0) (same_kind-same e.1 found.1 same ∙ sym there.kind) is,
      ) in (
        part-more (sizes_of types) heading before found.0 e.0 h there.within part new,
        map-append (λ (p : ℕ × Expr). p.0) before ((found.0, e.0) ∷ []) ∙ ap (λ (i : ℕ). attributes_of_portion before ++ i ∷ []) (sym there.position),
        λ name i. elim i [ inl k ↦ subst (λ (n : Name). IsTrue (has_name heading n)) (sym k) there.known | inr k ↦ absurd k ],
      ))))))

  parts-sound : (before : PlainPortion) (rest : List ElementP) → AreParts (sizes_of types) heading before
      → IfOk (parts_typed types heading before rest) (IsRead (sizes_of types) heading (attributes_of_portion before) (map element_name rest))
  parts-sound before [] h = (h, sym (append-nil (attributes_of_portion before)), λ name i. absurd i)
  parts-sound before (Element w s ∷ rest) h =
      then-sound (IsRead (sizes_of types) heading (attributes_of_portion before) (w.bytes ∷ [])) (IsRead (sizes_of types) heading (attributes_of_portion before) (w.bytes ∷ map element_name rest))
      (part_typed types heading before (Element w s)) _ (part-sound before w s h) (λ next is.
      onward (IsRead (sizes_of types) heading (attributes_of_portion next) (map element_name rest))
      (IsRead (sizes_of types) heading (attributes_of_portion before) (w.bytes ∷ map element_name rest)) (parts_typed types heading next rest) (parts-sound next rest is.0) (λ m k. (
        k.0,
        k.1 ∙ (ap (λ (l : List ℕ). l ++ positions_of heading (map element_name rest)) is.1
            ∙ append_assoc (attributes_of_portion before) (position_of heading w.bytes ∷ []) (positions_of heading (map element_name rest))),
        λ name i. elim i [ inl e ↦ is.2 name (inl e) | inr j ↦ k.2 name j ],
      )))

  pub portion-sound : (elements : SomeElementsP)
      → IfOk (portion_typed types heading elements) (λ (m : PlainPortion). IsPortionIf (sizes_of types) heading None (Some m) × AreNamed heading (portion_names elements) (attributes_of_portion m))
  portion-sound (SomeElements at first more) =
      then-sound (IsRead (sizes_of types) heading [] (map element_name (first ∷ more)))
      (λ (m : PlainPortion). IsPortionIf (sizes_of types) heading None (Some m) × AreNamed heading (map element_name (first ∷ more)) (attributes_of_portion m))
      (parts_typed types heading [] (first ∷ more)) _ (parts-sound [] (first ∷ more) (none-read (sizes_of types) heading)) (λ m is.
      then-sound (λ _. IsTrue (nat_le (length m) most_listed)) (λ (n : PlainPortion). IsPortionIf (sizes_of types) heading None (Some n) × AreNamed heading (map element_name (first ∷ more)) (attributes_of_portion n))
      (check at E17 (nat_le (length m) most_listed)) _ (held at E17 (nat_le (length m) most_listed)) (λ _ few.
      let named : AreNamed heading (map element_name (first ∷ more)) (attributes_of_portion m) = record { positions = is.1; known = is.2 } in
      (as-portion (sizes_of types) heading (element_name first) (map element_name more) m is.0 named (leb-true (length m) most_listed few), named)))
