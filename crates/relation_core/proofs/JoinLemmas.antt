-- The rows of a join are the rows over both headings whose parts are rows of both relations.
use Rattle.std.proofs.Common.{◌≡◌, inl, inr, ℕ, suc, List, [], ◌∷◌, ◌++◌, length, get_or, drop, map, refl, sym, ap, ap₂, ◌∙◌, subst, arith, Bool, true, false, cond, ◌&&◌, ◌||◌, if◌then◌else◌}
use Rattle.std.specs.declared.cmp.Ordering.TheVariants.{Equal}
use Rattle.std.specs.Bool.{IsTrue}
use Rattle.std.specs.Cmp.Lexicographic.{nat_list_eq_equiv}
use Rattle.std.specs.List.{filter}
use Rattle.std.specs.Str.{bytes_eq}
use Rattle.std.proofs.lemmas.Bool.{true≢false, and_parts, and_from}
use Rattle.std.proofs.lemmas.Cmp.{tied_itself}
use Rattle.base_core.specs.Sets.{has}
use Rattle.base_core.proofs.SetLemmas.{In, Ascends, In-in_order}
use Rattle.base_core.proofs.MemberLemmas.{In-append, In-map, In-flat_map, In-filter, list_any-In, list_all-In, eq_by_cmp-≡, has-In}
use Rattle.base_core.proofs.SetOperatorLemmas.{same_tests}
use Rattle.base_core.proofs.ListLemmas.{map-In}
use Rattle.value_core.specs.Headings.{has_name}
use Rattle.value_core.specs.Order.{row_total, row_separates}
use Rattle.value_core.specs.Relations.{all_fit}
use Rattle.value_core.specs.Values.{Name, Value, Row, Heading, Relation, IsRelation, truth, fits, fits_heading, attribute_cmp, row_cmp}
use Rattle.value_core.specs.declared.kind.Kind.{Kind}
use Rattle.relation_core.specs.Agreement.{names_of, position_of, common_names, common_positions, part_of, agree}
use Rattle.relation_core.specs.Joins.{joined_heading, HaveEqualKinds, joined_row, joined_pairs, joined, is_joined}
use Rattle.relation_core.specs.Parts.{positions_in}
use Rattle.relation_core.proofs.AgreementLemmas.{length_of_fit}
use Rattle.relation_core.proofs.ApartLemmas.{Apart, Tells, Apart-map, Apart-flat_map, Apart-filter, apart_ascending, length_apart}
use Rattle.relation_core.proofs.AttributeLemmas.{name_is, ties_by_name, named_In, both_tell, In-joined, joined_ascends, to_name, of_name}
use Rattle.relation_core.proofs.FilterLemmas.{rows_ascend}
use Rattle.relation_core.proofs.HeadingLemmas.{heading_ascends}

-- ---- values by name

-- the value beside a name
abbrev pub value_of : Heading → Row → Name → Value
value_of heading row name = get_or row (position_of heading name) (truth false)

by_names : (heading : Heading) (row : Row) (names : List Name) → part_of (map (position_of heading) names) row ≡ map (value_of heading row) names
by_names heading row [] = refl
by_names heading row (n ∷ names) = ap (λ vs. value_of heading row n ∷ vs) (by_names heading row names)

maps_agree : {X : Type 0} (f g : X → Value) (xs : List X) → map f xs ≡ map g xs → (x : X) → In x xs → f x ≡ g x
maps_agree f g [] e x i = absurd i
maps_agree f g (y ∷ ys) e x i =
    let first : f y ≡ g y = ap (λ (vs : List Value). get_or vs 0 (truth false)) e in
    let rest : map f ys ≡ map g ys = ap (λ (vs : List Value). drop 1 vs) e in
    elim i [ inl k ↦ ap f k ∙ (first ∙ ap g (sym k)) | inr j ↦ maps_agree f g ys rest x j ]

-- the value beside a name in a row that is made name by name
made_by_name : (f : Name → Value) (some : Heading) (name : Name) → IsTrue (has_name some name) → get_or (map f (names_of some)) (position_of some name) (truth false) ≡ f name
made_by_name f [] name e = absurd (true≢false (sym e))
made_by_name f (a ∷ rest) name e =
    (elim (bytes_eq a.0 name) as (λ b. bytes_eq a.0 name ≡ b → IsTrue (b || has_name rest name) → get_or (f a.0 ∷ map f (names_of rest)) (if b then 0 else suc (position_of rest name)) (truth false) ≡ f name) [
      | true ↦ λ h k. ap f (name_is a.0 name h)
      | false ↦ λ h k. made_by_name f rest name k
    ]) refl e

pub value_of_part : (heading some : Heading) (row : Row) (name : Name) → IsTrue (has_name some name) → value_of some (part_of (positions_in heading some) row) name ≡ value_of heading row name
value_of_part heading some row name e =
    ap (λ (r : Row). get_or r (position_of some name) (truth false)) (by_names heading row (names_of some)) ∙ made_by_name (value_of heading row) some name e

-- a row is its values beside the names
whole_row : (heading : Heading) (row : Row) → Apart attribute_cmp heading → length row ≡ length heading → map (value_of heading row) (names_of heading) ≡ row
whole_row [] [] apart e = refl
whole_row [] (v ∷ vs) apart e = absurd (omega (arith, e))
whole_row (a ∷ rest) [] apart e = absurd (omega (arith, e))
whole_row (a ∷ rest) (v ∷ vs) apart e =
    let first : value_of (a ∷ rest) (v ∷ vs) a.0 ≡ v = ap (λ b. get_or (v ∷ vs) (if b then 0 else suc (position_of rest a.0)) (truth false)) (nat_list_eq_equiv.refl a.0) in
    let others : map (value_of (a ∷ rest) (v ∷ vs)) (names_of rest) ≡ map (value_of rest vs) (names_of rest) =
    map-In (value_of (a ∷ rest) (v ∷ vs)) (value_of rest vs) (names_of rest) (λ n i.
    let b = (In-map (λ c. c.0) n rest).0 i in
    behind (bytes_eq a.0 n) v vs (position_of rest n) refl' (λ k. apart.0 b.0 b.1 (ties_by_name a b.0 (name_is a.0 n k ∙ b.2)))) in
    ap₂ (λ u us. u ∷ us) first (others ∙ whole_row rest vs apart.1 (omega (arith, e)))
  where
    behind : (b : Bool) (v : Value) (vs : Row) (p : ℕ) → Unit {0} → (IsTrue b → ⊥) → get_or (v ∷ vs) (if b then 0 else suc p) (truth false) ≡ get_or vs p (truth false)
    behind true v vs p u n = absurd (n refl)
    behind false v vs p u n = refl

    refl' : Unit {0}
    refl' = tt

-- the value beside a name in a row of one heading, followed by a row of another
value_of_both : (left right : Heading) (x y : Row) (name : Name) → length x ≡ length left → value_of (left ++ right) (x ++ y) name ≡ cond (has_name left name) (value_of left x name) (value_of right y name)
value_of_both [] right [] y name e = refl
value_of_both [] right (v ∷ vs) y name e = absurd (omega (arith, e))
value_of_both (a ∷ rest) right [] y name e = absurd (omega (arith, e))
value_of_both (a ∷ rest) right (v ∷ vs) y name e =
    let more = value_of_both rest right vs y name (omega (arith, e)) in
    elim (bytes_eq a.0 name) as (λ b. get_or (v ∷ (vs ++ y)) (if b then 0 else suc (position_of (rest ++ right) name)) (truth false)
    ≡ cond (b || has_name rest name) (get_or (v ∷ vs) (if b then 0 else suc (position_of rest name)) (truth false)) (value_of right y name)) [
      | true ↦ refl
      | false ↦ more
    ]

-- ---- what fits

pub fits_both : (left right : Heading) (x y : Row) → IsTrue (fits_heading left x) → IsTrue (fits_heading right y) → IsTrue (fits_heading (left ++ right) (x ++ y))
fits_both [] right [] y e f = f
fits_both [] right (v ∷ vs) y e f = absurd (true≢false (sym e))
fits_both (a ∷ rest) right [] y e f = absurd (true≢false (sym e))
fits_both (a ∷ rest) right (v ∷ vs) y e f =
    let both = and_parts (fits a.1 v) (fits_heading rest vs) e in
    and_from (fits a.1 v) (fits_heading (rest ++ right) (vs ++ y)) both.0 (fits_both rest right vs y both.1 f)

fits_by_name : (heading : Heading) (row : Row) (a : Name × Kind) → Tells attribute_cmp heading → IsTrue (fits_heading heading row) → In a heading → IsTrue (fits a.1 (value_of heading row a.0))
fits_by_name [] row a tells e i = absurd i
fits_by_name (b ∷ rest) [] a tells e i = absurd (true≢false (sym e))
fits_by_name (b ∷ rest) (v ∷ vs) a tells e i =
    let both = and_parts (fits b.1 v) (fits_heading rest vs) e in
    (elim (bytes_eq b.0 a.0) as (λ t. bytes_eq b.0 a.0 ≡ t → IsTrue (fits a.1 (get_or (v ∷ vs) (if t then 0 else suc (position_of rest a.0)) (truth false)))) [
      | true ↦ λ h. subst (λ (z : Name × Kind). IsTrue (fits z.1 v)) (tells b a (inl refl) i (ties_by_name b a (name_is b.0 a.0 h))) both.0
      | false ↦ λ h. elim i [
        | inl k ↦ absurd (true≢false (sym (nat_list_eq_equiv.refl b.0) ∙ (ap (λ (z : Name × Kind). bytes_eq b.0 z.0) (sym k) ∙ h)))
        | inr j ↦ fits_by_name rest vs a (λ p q k l m. tells p q (inr k) (inr l) m) both.1 j
      ]
    ]) refl

fits_made : (heading some : Heading) (row : Row) → Tells attribute_cmp heading → IsTrue (fits_heading heading row) → ((a : Name × Kind) → In a some → In a heading) → IsTrue (fits_heading some (part_of (positions_in heading some) row))
fits_made heading [] row tells e h = refl
fits_made heading (a ∷ some) row tells e h =
    and_from (fits a.1 (value_of heading row a.0)) (fits_heading some (part_of (positions_in heading some) row)) (fits_by_name heading row a tells e (h a (inl refl))) (fits_made heading some row tells e (λ b i. h b (inr i)))

-- ---- one join

module _ (left right : Heading) (first : Ascends attribute_cmp left) (second : Ascends attribute_cmp right) (kinds : HaveEqualKinds left right) where
  named_left : (name : Name) → IsTrue (has_name left name) → IsTrue (has_name (joined_heading left right) name)
  named_left name e =
      let w = (list_any-In (λ b. bytes_eq b.0 name) left).0 e in
      (list_any-In (λ b. bytes_eq b.0 name) (joined_heading left right)).1 (w.0, (In-joined left right first second kinds w.0).1 ((In-append w.0 left right).1 (inl w.1)), w.2)

  named_right : (name : Name) → IsTrue (has_name right name) → IsTrue (has_name (joined_heading left right) name)
  named_right name e =
      let w = (list_any-In (λ b. bytes_eq b.0 name) right).0 e in
      (list_any-In (λ b. bytes_eq b.0 name) (joined_heading left right)).1 (w.0, (In-joined left right first second kinds w.0).1 ((In-append w.0 left right).1 (inr w.1)), w.2)

  -- rows that agree have one value beside a name that is in both
  one_value : (x y : Row) → IsTrue (agree left right x y) → (name : Name) → IsTrue (has_name left name) → IsTrue (has_name right name) → value_of left x name ≡ value_of right y name
  one_value x y e name here there =
      let same = (eq_by_cmp-≡ row_cmp row_total row_separates (part_of (common_positions left left right) x) (part_of (common_positions right left right) y)).0 e in
      maps_agree (value_of left x) (value_of right y) (common_names left right) (sym (by_names left x (common_names left right)) ∙ (same ∙ by_names right y (common_names left right))) name
      ((In-filter (has_name right) name (names_of left)).1 (to_name left name here, there))

  agree_by_name : (x y : Row) → ((name : Name) → IsTrue (has_name left name) → IsTrue (has_name right name) → value_of left x name ≡ value_of right y name) → IsTrue (agree left right x y)
  agree_by_name x y h =
      (eq_by_cmp-≡ row_cmp row_total row_separates (part_of (common_positions left left right) x) (part_of (common_positions right left right) y)).1 (by_names left x (common_names left right)
      ∙ (map-In (value_of left x) (value_of right y) (common_names left right) (λ n i. let w = (In-filter (has_name right) n (names_of left)).0 i in h n (of_name left n w.0) w.1)
      ∙ sym (by_names right y (common_names left right))))

  -- ---- a row made of two

  module _ (x y : Row) (mine : IsTrue (fits_heading left x)) (yours : IsTrue (fits_heading right y)) where
    pub joined_fits : IsTrue (fits_heading (joined_heading left right) (joined_row left right x y))
    joined_fits = fits_made (left ++ right) (joined_heading left right) (x ++ y) (both_tell left right first second kinds) (fits_both left right x y mine yours) (λ a i. (In-joined left right first second kinds a).0 i)

    pub left_part : part_of (positions_in (joined_heading left right) left) (joined_row left right x y) ≡ x
    left_part =
        by_names (joined_heading left right) (joined_row left right x y) (names_of left)
        ∙ (map-In (value_of (joined_heading left right) (joined_row left right x y)) (value_of left x) (names_of left) (λ n i.
        let here = of_name left n i in
        value_of_part (left ++ right) (joined_heading left right) (x ++ y) n (named_left n here)
        ∙ (value_of_both left right x y n (length_of_fit left x mine) ∙ ap (λ b. cond b (value_of left x n) (value_of right y n)) here))
        ∙ whole_row left x (apart_ascending attribute_cmp left first) (length_of_fit left x mine))

    of_either : (b : Bool) (u v : Value) → (IsTrue b → u ≡ v) → cond b u v ≡ v
    of_either true u v h = h refl
    of_either false u v h = refl

    pub right_part : IsTrue (agree left right x y) → part_of (positions_in (joined_heading left right) right) (joined_row left right x y) ≡ y
    right_part e =
        by_names (joined_heading left right) (joined_row left right x y) (names_of right)
        ∙ (map-In (value_of (joined_heading left right) (joined_row left right x y)) (value_of right y) (names_of right) (λ n i.
        let there = of_name right n i in
        value_of_part (left ++ right) (joined_heading left right) (x ++ y) n (named_right n there)
        ∙ (value_of_both left right x y n (length_of_fit left x mine) ∙ of_either (has_name left n) (value_of left x n) (value_of right y n) (λ here. one_value x y e n here there)))
        ∙ whole_row right y (apart_ascending attribute_cmp right second) (length_of_fit right y yours))

  -- ---- a row cut into two

  abbrev part_left : Row → Row
  part_left z = part_of (positions_in (joined_heading left right) left) z

  abbrev part_right : Row → Row
  part_right z = part_of (positions_in (joined_heading left right) right) z

  pub parts_agree : (z : Row) → IsTrue (agree left right (part_of (positions_in (joined_heading left right) left) z) (part_of (positions_in (joined_heading left right) right) z))
  parts_agree z = agree_by_name _ _ (λ n here there. value_of_part (joined_heading left right) left z n here ∙ sym (value_of_part (joined_heading left right) right z n there))

  either_value : (b : Bool) (u v w : Value) → (IsTrue b → u ≡ w) → (b ≡ false → v ≡ w) → cond b u v ≡ w
  either_value true u v w h k = h refl
  either_value false u v w h k = k refl

  not_left : (n : Name) → In n (names_of (joined_heading left right)) → has_name left n ≡ false → IsTrue (has_name right n)
  not_left n i e =
      let a = (In-map (λ b. b.0) n (joined_heading left right)).0 i in
      elim ((In-append a.0 left right).0 ((In-joined left right first second kinds a.0).0 a.1)) [
        | inl p ↦ absurd (true≢false (sym (subst (λ m. IsTrue (has_name left m)) (sym a.2) (named_In left a.0 p)) ∙ e))
        | inr p ↦ subst (λ m. IsTrue (has_name right m)) (sym a.2) (named_In right a.0 p)
      ]

  pub parts_joined : (z : Row) → IsTrue (fits_heading (joined_heading left right) z)
      → joined_row left right (part_of (positions_in (joined_heading left right) left) z) (part_of (positions_in (joined_heading left right) right) z) ≡ z
  parts_joined z e =
      let x = part_of (positions_in (joined_heading left right) left) z in
      let y = part_of (positions_in (joined_heading left right) right) z in
      let long : length (part_of (positions_in (joined_heading left right) left) z) ≡ length left = size_of_part left z in
      by_names (left ++ right) (x ++ y) (names_of (joined_heading left right))
      ∙ (map-In (value_of (left ++ right) (x ++ y)) (value_of (joined_heading left right) z) (names_of (joined_heading left right)) (λ n i.
      value_of_both left right x y n long
      ∙ either_value (has_name left n) (value_of left x n) (value_of right y n) (value_of (joined_heading left right) z n) (λ here. value_of_part (joined_heading left right) left z n here)
      (λ other. value_of_part (joined_heading left right) right z n (not_left n i other)))
      ∙ whole_row (joined_heading left right) z (apart_ascending attribute_cmp (joined_heading left right) (joined_ascends left right first second kinds)) (length_of_fit (joined_heading left right) z e))
    where
      size_of_part : (some : Heading) (z : Row) → length (part_of (positions_in (joined_heading left right) some) z) ≡ length some
      size_of_part [] z = refl
      size_of_part (a ∷ some) z = ap suc (size_of_part some z)

  -- ---- all rows

  module _ (r s : List Row) (rows : Ascends row_cmp r) (others : Ascends row_cmp s) (mine : IsTrue (all_fit left r)) (yours : IsTrue (all_fit right s)) where
    fit_mine : (x : Row) → In x r → IsTrue (fits_heading left x)
    fit_mine x i = (list_all-In (fits_heading left) r).0 mine x i

    fit_yours : (y : Row) → In y s → IsTrue (fits_heading right y)
    fit_yours y i = (list_all-In (fits_heading right) s).0 yours y i

    abbrev row_pairs : Row → List Row
    row_pairs x = map (joined_row left right x) (filter (agree left right x) s)

    -- a row of the join is made of two that agree
    pair_of : (z : Row) → In z (joined_pairs left right r s) → ((x : Row) × In x r × (y : Row) × In y s × IsTrue (agree left right x y) × (z ≡ joined_row left right x y))
    pair_of z i =
        let a = (In-flat_map (λ x. map (joined_row left right x) (filter (agree left right x) s)) z r).0 i in
        let b = (In-map (joined_row left right a.0) z (filter (agree left right a.0) s)).0 a.2 in
        let c = (In-filter (agree left right a.0) b.0 s).0 b.1 in
        (a.0, a.1, b.0, c.0, c.1, b.2)

    a_pair : (x y : Row) → In x r → In y s → IsTrue (agree left right x y) → In (joined_row left right x y) (joined_pairs left right r s)
    a_pair x y i j e =
        (In-flat_map (λ x. map (joined_row left right x) (filter (agree left right x) s)) (joined_row left right x y) r).1
        (x, i, (In-map (joined_row left right x) (joined_row left right x y) (filter (agree left right x) s)).1 (y, (In-filter (agree left right x) y s).1 (j, e), refl))

    pub pairs_fit : IsTrue (all_fit (joined_heading left right) (joined_pairs left right r s))
    pairs_fit = (list_all-In (fits_heading (joined_heading left right)) (joined_pairs left right r s)).1 (λ z i.
        let p = pair_of z i in
        subst (λ w. IsTrue (fits_heading (joined_heading left right) w)) (sym p.5) (joined_fits p.0 p.2 (fit_mine p.0 p.1) (fit_yours p.2 p.3)))

    pub pairs_apart : Apart row_cmp (joined_pairs left right r s)
    pairs_apart =
        Apart-flat_map row_cmp row_cmp row_pairs r (apart_ascending row_cmp r rows) (λ x i.
        Apart-map row_cmp row_cmp (joined_row left right x) (filter (agree left right x) s) (Apart-filter row_cmp (agree left right x) s (apart_ascending row_cmp s others)) (λ y z j k e.
        let a = (In-filter (agree left right x) y s).0 j in
        let b = (In-filter (agree left right x) z s).0 k in
        let same = row_separates (joined_row left right x y) (joined_row left right x z) e in
        let one : y ≡ z = sym (right_part x y (fit_mine x i) (fit_yours y a.0) a.1) ∙ (ap part_right same ∙ right_part x z (fit_mine x i) (fit_yours z b.0) b.1) in
        subst (λ w. row_cmp y w ≡ Equal) one (tied_itself row_total y))) (λ x y u v i j p q e.
        let a = (In-map (joined_row left right x) u (filter (agree left right x) s)).0 p in
        let b = (In-map (joined_row left right y) v (filter (agree left right y) s)).0 q in
        let c = ((In-filter (agree left right x) a.0 s).0 a.1).0 in
        let d = ((In-filter (agree left right y) b.0 s).0 b.1).0 in
        let same : joined_row left right x a.0 ≡ joined_row left right y b.0 = sym a.2 ∙ (row_separates u v e ∙ b.2) in
        let one : x ≡ y = sym (left_part x a.0 (fit_mine x i) (fit_yours a.0 c)) ∙ (ap part_left same ∙ left_part y b.0 (fit_mine y j) (fit_yours b.0 d)) in
        subst (λ w. row_cmp x w ≡ Equal) one (tied_itself row_total x))

    pub length_joined : length (joined left right r s) ≡ length (joined_pairs left right r s)
    length_joined = length_apart row_cmp (joined_pairs left right r s) pairs_apart

    pub joined_has : (z : Row) → has row_cmp (joined left right r s) z ≡ is_joined left right r s z
    unfolding pair_of
    joined_has z = same_tests _ _ (
      λ e.
          let i = (In-in_order row_cmp row_total row_separates z (joined_pairs left right r s)).0 ((has-In row_cmp row_total row_separates (joined left right r s) z).0 e) in
          let p = pair_of z i in
          let x = p.0 in
          let y = p.2 in
          let one : part_left z ≡ p.0 = ap part_left p.5 ∙ left_part x y (fit_mine x p.1) (fit_yours y p.3) in
          let two : part_right z ≡ p.2 = ap part_right p.5 ∙ right_part x y (fit_mine x p.1) (fit_yours y p.3) p.4 in
          let here = (has-In row_cmp row_total row_separates r (part_left z)).1 (subst (λ w. In w r) (sym one) p.1) in
          let there = (has-In row_cmp row_total row_separates s (part_right z)).1 (subst (λ w. In w s) (sym two) p.3) in
          and_from (fits_heading (joined_heading left right) z) (has row_cmp r (part_left z) && has row_cmp s (part_right z))
          (subst (λ w. IsTrue (fits_heading (joined_heading left right) w)) (sym p.5) (joined_fits x y (fit_mine x p.1) (fit_yours y p.3))) (and_from (has row_cmp r (part_left z)) (has row_cmp s (part_right z)) here there),
      λ e.
          let a = and_parts (fits_heading (joined_heading left right) z) (has row_cmp r (part_left z) && has row_cmp s (part_right z)) e in
          let b = and_parts (has row_cmp r (part_left z)) (has row_cmp s (part_right z)) a.1 in
          let here = (has-In row_cmp row_total row_separates r (part_left z)).0 b.0 in
          let there = (has-In row_cmp row_total row_separates s (part_right z)).0 b.1 in
          let i = subst (λ w. In w (joined_pairs left right r s)) (parts_joined z a.0) (a_pair (part_left z) (part_right z) here there (parts_agree z)) in
          (has-In row_cmp row_total row_separates (joined left right r s) z).1 ((In-in_order row_cmp row_total row_separates z (joined_pairs left right r s)).1 i),
    )

-- ---- two relations

module _ (l r : Relation) (mine : IsRelation l) (yours : IsRelation r) (kinds : HaveEqualKinds l.heading r.heading) where
  pub all_joined : (z : Row) → has row_cmp (joined l.heading r.heading l.rows r.rows) z ≡ is_joined l.heading r.heading l.rows r.rows z
  all_joined z = joined_has l.heading r.heading (heading_ascends l.heading mine.headed) (heading_ascends r.heading yours.headed) kinds l.rows r.rows (rows_ascend l mine) (rows_ascend r yours) mine.fitting yours.fitting z

  pub all_fit_joined : IsTrue (all_fit (joined_heading l.heading r.heading) (joined_pairs l.heading r.heading l.rows r.rows))
  all_fit_joined = pairs_fit l.heading r.heading (heading_ascends l.heading mine.headed) (heading_ascends r.heading yours.headed) kinds l.rows r.rows (rows_ascend l mine) (rows_ascend r yours) mine.fitting yours.fitting

  pub count_joined : length (joined l.heading r.heading l.rows r.rows) ≡ length (joined_pairs l.heading r.heading l.rows r.rows)
  count_joined = length_joined l.heading r.heading (heading_ascends l.heading mine.headed) (heading_ascends r.heading yours.headed) kinds l.rows r.rows (rows_ascend l mine) (rows_ascend r yours) mine.fitting yours.fitting
