-- Rows are the same unpacked where they are packed to one list, and within others where both together are packed to the list of these.
use Rattle.std.proofs.Common.{◌≡◌, ◌↔◌, inl, inr, ℕ, Bool, true, false, ◌&&◌, not, ℤ, List, [], ◌∷◌, ◌++◌, length, get_or, map, Option, Result, refl, sym, ap, ◌∙◌, subst, arith}
use Rattle.std.specs.Bool.{IsTrue}
use Rattle.std.specs.Option.{IfSome}
use Rattle.std.specs.Result.{IfOk}
use Rattle.std.proofs.lemmas.Bool.{true≢false}
use Rattle.std.proofs.lemmas.Cmp.{tied_itself}
use Rattle.std.proofs.lemmas.Int.{ints}
use Rattle.base_core.specs.Sets.{is_within, are_same}
use Rattle.base_core.proofs.SetLemmas.{In, Ascends, In-in_order, in_order_of_ascending}
use Rattle.base_core.proofs.SetOperatorLemmas.{same_tests, is_within-In, are_same-In}
use Rattle.cell_packing.specs.Boxed.{Boxed, packed_boxes, unpacked_boxes, InBoxes}
use Rattle.cell_core.proofs.PackedGridPoints.{AllHave, packed_from_same}
use Rattle.cell_core.proofs.UnpackedLemmas.{same_iff, within_iff}
use Rattle.value_core.specs.Order.{row_total, row_separates}
use Rattle.value_core.specs.Relations.{all_fit}
use Rattle.value_core.specs.RowPacking.{unpacked}
use Rattle.value_core.specs.Values.{Row, Heading, Relation, IsRelation, row_cmp, rows_of}
use Rattle.relation_core.specs.Agreement.{part_of}
use Rattle.relation_core.proofs.FilterLemmas.{rows_ascend}
use Rattle.u_set.specs.declared.apart.Gap.TheVariants.{One}
use Rattle.u_set.specs.Apart.{HasInterval, IsBeyond, IsChain, outside}
use Rattle.u_set.specs.Boxes.{AreIntervals, IsShaped, boxed, unboxed}
use Rattle.u_set.specs.Coalescing.{IsFormByLabel}
use Rattle.u_set.proofs.ApartLemmas.{span_ordered, AllBeyond, beyond_trans, all_beyond, from_all}
use Rattle.u_set.proofs.BridgeLemmas.{box_cmp, boxes_have}
use Rattle.u_set.proofs.CoalescingLemmas.{places_append, form_packed, chain_packed}
use Rattle.u_set.proofs.ComparisonLemmas.{within_rows, same_rows}
use Rattle.u_set.proofs.KeptLemmas.{one_listed}
use Rattle.u_set.proofs.RelationLemmas.{relation_shaped, shaped_under}

-- ---- equal rows

pub same_itself : (commalist : List ℕ) (a b : List Row) → a ≡ b → true ≡ are_same row_cmp (unpacked commalist a) (unpacked commalist b)
same_itself commalist a b e =
    sym ((are_same-In row_cmp row_total row_separates (unpacked commalist a) (unpacked commalist b)).1 (λ x. (λ i. subst (λ (rows : List Row). In x (unpacked commalist rows)) e i, λ i. subst (λ (rows : List Row). In x (unpacked commalist rows)) (sym e) i)))

pub within_itself : (commalist : List ℕ) (a b : List Row) → a ≡ b → true ≡ is_within row_cmp (unpacked commalist a) (unpacked commalist b)
within_itself commalist a b e =
    sym ((is_within-In row_cmp row_total row_separates (unpacked commalist a) (unpacked commalist b)).1 (λ x i. subst (λ (rows : List Row). In x (unpacked commalist rows)) e i))

-- ---- rows that are each beyond the one before it stand in one order

module _ (label : List ℕ) (at : ℕ) where
  abbrev Beyond : Row → Row → Type 0
  Beyond = IsBeyond label at One

  not_beyond_itself : (x : Row) → HasInterval at x → Beyond x x → ⊥
  not_beyond_itself x h b =
      let t = tied_itself row_total (part_of label x) in
      let s = span_ordered at x h in
      elim b [ inl l ↦ absurd cc | inr w ↦ let u = w.1 in omega (arith, ints) ]

  one_order : (xs ys : List Row) → AllBeyond label at One xs → AllBeyond label at One ys → ((x : Row) → In x xs ↔ In x ys) → xs ≡ ys
  one_order [] [] h k e = refl
  one_order [] (y ∷ ys) h k e = absurd ((e y).1 (inl refl))
  one_order (x ∷ xs) [] h k e = absurd ((e x).0 (inl refl))
  one_order (x ∷ xs) (y ∷ ys) h k e =
      let same : x ≡ y = elim ((e x).0 (inl refl)) [
        | inl q ↦ q
        | inr m ↦ elim ((e y).1 (inl refl)) [
          | inl q ↦ sym q
          | inr n ↦ absurd (not_beyond_itself x h.0 (beyond_trans label at One x y x k.0 (from_all label at One x y xs h.1 n) (from_all label at One y x ys k.1 m)))
        ]
      ] in
      let tails : (z : Row) → In z xs ↔ In z ys = λ z. (
        λ i. elim ((e z).0 (inr i)) [
          | inl q ↦ absurd (not_beyond_itself x h.0 (subst (λ (w : Row). Beyond x w) (q ∙ sym same) (from_all label at One x z xs h.1 i)))
          | inr j ↦ j
        ],
        λ j. elim ((e z).1 (inr j)) [
          | inl q ↦ absurd (not_beyond_itself y k.0 (subst (λ (w : Row). Beyond y w) (q ∙ same) (from_all label at One y z ys k.1 j)))
          | inr i ↦ i
        ],
      ) in
      λ t. same t ∷ one_order xs ys h.2 k.2 tails t

-- ---- forms

module _ (heading : Heading) (at : ℕ) (intervals : AreIntervals heading (at ∷ [])) where
  abbrev box : Row → Boxed Row
  box = boxed (at ∷ [])

  abbrev Places : List Row → Row → List ℤ → Type 0
  Places rows l place = InBoxes (map box rows) l place

  abbrev points : List Row → List (Boxed Row)
  points rows = unpacked_boxes row_cmp 1 (map box rows)

  have : (rows : List Row) → AllHave 1 (map box rows)
  have rows = boxes_have heading (at ∷ []) intervals rows

  module _ (r s v w : List Row) (f : IsFormByLabel heading at r v) (g : IsFormByLabel heading at s w) where
    -- rows with the same places have one form
    one_form : ((l : Row) (place : List ℤ) → Places r l place ↔ Places s l place) → v ≡ w
    one_form h =
        let label = outside (at ∷ []) heading in
        let boxes : packed_boxes row_cmp 1 (map box r) ≡ packed_boxes row_cmp 1 (map box s) = packed_from_same row_cmp row_total row_separates 1 (map box r) (map box s) (have r) (have s) h in
        let rows : rows_of v ≡ rows_of w = sym (form_packed heading at intervals r v f) ∙ ap (λ bs. rows_of (map (unboxed heading (at ∷ [])) bs)) boxes ∙ form_packed heading at intervals s w g in
        one_order label at v w (all_beyond label at One v f.beyond) (all_beyond label at One w g.beyond) (λ x.
        let a = In-in_order row_cmp row_total row_separates x v in
        let b = In-in_order row_cmp row_total row_separates x w in
        (λ i. b.0 (subst (λ (list : List Row). In x list) rows (a.1 i)), λ i. a.0 (subst (λ (list : List Row). In x list) (sym rows) (b.1 i))))

    -- and others have not
    form_places : v ≡ w → (l : Row) (place : List ℤ) → Places r l place ↔ Places s l place
    form_places e l place =
        let a = f.joined.places l place in
        let b = g.joined.places l place in
        (λ h. b.1 (subst (λ (list : List Row). Places list l place) e (a.0 h)), λ h. a.1 (subst (λ (list : List Row). Places list l place) (sym e) (b.0 h)))

  module _ (r s : List Row) (up : Ascends row_cmp r) (up' : Ascends row_cmp s) (shaped : (x : Row) → In x r → IsShaped heading (at ∷ []) x) (shaped' : (x : Row) → In x s → IsShaped heading (at ∷ []) x) where
    -- rows that packing leaves as they are
    same_chains : IsTrue (all_fit heading r) → IsTrue (all_fit heading s) → IsChain (outside (at ∷ []) heading) at One r → IsChain (outside (at ∷ []) heading) at One s
        → IsTrue (are_same row_cmp (unpacked (at ∷ []) r) (unpacked (at ∷ []) s)) → r ≡ s
    same_chains f f' c c' t =
        let q = same_iff row_cmp row_total row_separates 1 (map box r) (map box s) (have r) (have s) in
        let boxes : packed_boxes row_cmp 1 (map box r) ≡ packed_boxes row_cmp 1 (map box s) =
        packed_from_same row_cmp row_total row_separates 1 (map box r) (map box s) (have r) (have s) (q.0 (same_rows heading (at ∷ []) intervals r s up up' shaped shaped' ∙ t)) in
        let rows : rows_of r ≡ rows_of s = sym (chain_packed heading at intervals r f c) ∙ ap (λ bs. rows_of (map (unboxed heading (at ∷ [])) bs)) boxes ∙ chain_packed heading at intervals s f' c' in
        sym (in_order_of_ascending row_cmp row_total row_separates r up) ∙ rows ∙ in_order_of_ascending row_cmp row_total row_separates s up'

    module _ (w : List Row) (g : IsFormByLabel heading at s w) where
      same_by_forms : (v : List Row) → IsFormByLabel heading at r v → (b : Bool) → IsTrue b ↔ (v ≡ w) → b ≡ are_same row_cmp (unpacked (at ∷ []) r) (unpacked (at ∷ []) s)
      same_by_forms v f b i =
          let q = same_iff row_cmp row_total row_separates 1 (map box r) (map box s) (have r) (have s) in
          same_tests b (are_same box_cmp (points r) (points s)) (λ t. q.1 (form_places r s v w f g (i.0 t)), λ t. i.1 (one_form r s v w f g (q.0 t))) ∙ same_rows heading (at ∷ []) intervals r s up up' shaped shaped'

      within_by_forms : (u : List Row) → IsFormByLabel heading at (r ++ s) u → (b : Bool) → IsTrue b ↔ (u ≡ w) → b ≡ is_within row_cmp (unpacked (at ∷ []) r) (unpacked (at ∷ []) s)
      within_by_forms u f b i =
          let q = within_iff row_cmp row_total row_separates 1 (map box r) (map box s) (have r) (have s) in
          let all = places_append heading at intervals r s in
          same_tests b (is_within box_cmp (points r) (points s)) (
            λ t. q.1 (λ l place h. (form_places (r ++ s) s u w f g (i.0 t) l place).0 ((all l place).1 (inl h))),
            λ t. i.1 (one_form (r ++ s) s u w f g (λ l place. (λ h. elim ((all l place).0 h) [ inl a ↦ q.0 t l place a | inr a ↦ a ], λ h. (all l place).1 (inr h)))),
          )
          ∙ within_rows heading (at ∷ []) intervals r s up up' shaped shaped'

-- ---- relations

module _ (left right : Relation) (l : IsRelation left) (r : IsRelation right) (heading : left.heading ≡ right.heading) (at : ℕ) (intervals : AreIntervals left.heading (at ∷ [])) (w : List Row) (g : IsFormByLabel right.heading at right.rows w) where
  own : IsFormByLabel left.heading at right.rows w
  own = subst (λ (h : Heading). IsFormByLabel h at right.rows w) (sym heading) g

  -- the answer by the packed rows of both
  pub same_told : (v : List Row) → IsFormByLabel left.heading at left.rows v → (b : Bool) → IsTrue b ↔ (v ≡ w) → b ≡ are_same row_cmp (unpacked (at ∷ []) left.rows) (unpacked (at ∷ []) right.rows)
  same_told =
      same_by_forms left.heading at intervals left.rows right.rows (rows_ascend left l) (rows_ascend right r) (relation_shaped left l (at ∷ []) intervals) (shaped_under left.heading right heading r (at ∷ []) intervals) w own

  -- and by those of both together
  pub within_told : (u : List Row) → IsFormByLabel left.heading at (left.rows ++ right.rows) u → (b : Bool) → IsTrue b ↔ (u ≡ w) → b ≡ is_within row_cmp (unpacked (at ∷ []) left.rows) (unpacked (at ∷ []) right.rows)
  within_told =
      within_by_forms left.heading at intervals left.rows right.rows (rows_ascend left l) (rows_ascend right r) (relation_shaped left l (at ∷ []) intervals) (shaped_under left.heading right heading r (at ∷ []) intervals) w own

-- rows in order of time that are not the same are not the same unpacked
pub not_same : (left right : Relation) → IsRelation left → IsRelation right → left.heading ≡ right.heading → (at : ℕ) → AreIntervals left.heading (at ∷ [])
    → IsChain (outside (at ∷ []) left.heading) at One left.rows → IsChain (outside (at ∷ []) left.heading) at One right.rows → (left.rows ≡ right.rows → ⊥) → false ≡ are_same row_cmp (unpacked (at ∷ []) left.rows) (unpacked (at ∷ []) right.rows)
not_same left right l r heading at intervals c c' differ =
    let fits : IsTrue (all_fit left.heading right.rows) = subst (λ (h : Heading). IsTrue (all_fit h right.rows)) (sym heading) r.fitting in
    same_tests false (are_same row_cmp (unpacked (at ∷ []) left.rows) (unpacked (at ∷ []) right.rows)) (
      λ t. absurd (true≢false (sym t)),
      λ t. absurd (differ (same_chains left.heading at intervals left.rows right.rows (rows_ascend left l) (rows_ascend right r) (relation_shaped left l (at ∷ []) intervals) (shaped_under left.heading right heading r (at ∷ []) intervals) l.fitting fits c c' t)),
    )

-- ---- answers

-- what is told of the only position is told of the list
pub told_of_list : {E : Type 0} (answer : List ℕ → Bool) (commalist : List ℕ) → length commalist ≡ 1 → (o : Result (Option Bool) E) → IfOk o (λ q. IfSome q (λ b. b ≡ answer (get_or commalist 0 0 ∷ []))) → IfOk o (λ q. IfSome q (λ b. b ≡ answer commalist))
told_of_list answer commalist one o h = subst (λ (ps : List ℕ). IfOk o (λ q. IfSome q (λ b. b ≡ answer ps))) (one_listed commalist (get_or commalist 0 0) one refl) h

-- within and not the same
pub not_properly : (w s : Bool) → true ≡ s → false ≡ (w && not s)
not_properly true s e = ap not e
not_properly false s e = refl

pub properly : (b w s : Bool) → b ≡ w → false ≡ s → b ≡ (w && not s)
properly b true s e h = e ∙ ap not h
properly b false s e h = e
