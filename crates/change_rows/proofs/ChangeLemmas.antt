-- Some rows of a packed relation, all that have their labels, and what a condition tells that the others pass or fail at all their points.
--     apart_law      rows with labels apart are packed apart
--     kept_law, dropped_law      a restriction looks at the unpacked rows of the part alone
--     packed_law      and only what it gives of them is packed anew
--     labels_law, count_law      which has their labels, beside the others
--     closed_within      the rows are some of all
use Rattle.std.proofs.Common.{◌≡◌, ◌↔◌, ◌⊎◌, inl, inr, ◌+◌, ℕ, ℤ, Bool, true, false, List, [], ◌∷◌, length, map, None, Ok, Err, refl, sym, ap, ◌∙◌, subst, if◌then◌else◌}
use Rattle.std.specs.Bool.{IsTrue}
use Rattle.std.specs.List.{All, filter}
use Rattle.std.proofs.lemmas.Bool.{true≢false}
use Rattle.base_core.specs.Outcomes.{then_give, with_lesser, least_of_all}
use Rattle.base_core.specs.Sets.{has, is_within}
use Rattle.base_core.proofs.OutcomeLemmas.{then_give-then_give}
use Rattle.base_core.proofs.SetLemmas.{In, Ascends, same_by_members}
use Rattle.base_core.proofs.MemberLemmas.{In-filter, has-In}
use Rattle.base_core.proofs.SetOperatorLemmas.{In-union_of, Ascends-union_of, Ascends-filter, Ascends-difference_of, is_within-In, are_same-≡}
use Rattle.point_core.specs.Faults.{OrFault}
use Rattle.value_core.specs.Order.{row_total, row_separates}
use Rattle.value_core.specs.RowPacking.{packed, unpacked}
use Rattle.value_core.specs.Values.{Row, Heading, row_cmp}
use Rattle.point_core.specs.LeastFault.{lesser_of}
use Rattle.relation_core.specs.Faults.{fault_of}
use Rattle.relation_core.specs.Growth.{touched}
use Rattle.relation_core.specs.Operators.{is_true, restricted, subtracted, united}
use Rattle.point_core.specs.Orders.{fault_order}
use Rattle.cell_packing.specs.Packed.{firsts}
use Rattle.u_set.specs.Apart.{outside}
use Rattle.u_set.specs.Boxes.{AreIntervals, others, spans_at}
use Rattle.u_set.proofs.BridgeLemmas.{opened_places, unpacked_ascends}
use Rattle.u_set.proofs.PlaceLemmas.{opened_at, opened_shaped}
use Rattle.u_row.proofs.BeneathLemmas.{in_all}
use Rattle.u_constraints.proofs.GrownPackedLemmas.{prepacked}
use Rattle.u_constraints.proofs.PackedLemmas.{packed_already}
use Rattle.u_constraints.proofs.GrowthLemmas.{In-subtracted}
use Rattle.change_rows.proofs.LabelLemmas.{IsSet, HasPlace, box_among, knows, packed_set, none_packed, same_packed, part_known, place_known}
use Rattle.change_rows.proofs.ExchangeLemmas.{either, joined}

-- ---- the least fault, where some tests have none

fault_of-with_lesser : {X : Type 0} (x : OrFault X) (a : OrFault (List X)) → fault_of (with_lesser fault_order x a) ≡ lesser_of (fault_of x) (fault_of a)
fault_of-with_lesser (Ok v) (Ok vs) = refl
fault_of-with_lesser (Ok v) (Err e) = refl
fault_of-with_lesser (Err d) (Ok vs) = refl
fault_of-with_lesser (Err d) (Err e) = refl

least_fewer : {X Y : Type 0} (test : X → OrFault Y) (p : X → Bool) (xs : List X) → ((x : X) → In x xs → p x ≡ false → fault_of (test x) ≡ None)
    → fault_of (least_of_all fault_order (map test xs)) ≡ fault_of (least_of_all fault_order (map test (filter p xs)))
least_fewer test p [] h = refl
least_fewer {X} {Y} test p (x ∷ xs) h =
    let least : List X → OrFault (List Y) = λ ys. least_of_all fault_order (map test ys) in
    let more : fault_of (least xs) ≡ fault_of (least (filter p xs)) = least_fewer test p xs (λ y i. h y (inr i)) in
    elim (p x) as (λ b. p x ≡ b → fault_of (with_lesser fault_order (test x) (least xs)) ≡ fault_of (least (if b then x ∷ filter p xs else filter p xs))) [
      | true ↦ λ e. fault_of-with_lesser (test x) (least xs) ∙ ap (lesser_of (fault_of (test x))) more ∙ sym (fault_of-with_lesser (test x) (least (filter p xs)))
      | false ↦ λ e. fault_of-with_lesser (test x) (least xs) ∙ ap (λ o. lesser_of o (fault_of (least xs))) (h x (inl refl) e) ∙ more
    ] refl

-- what comes in place of the values
same_fault : {X Z : Type 0} (r s : OrFault X) (z : OrFault Z) → fault_of r ≡ fault_of s → then_give r (λ _. z) ≡ then_give s (λ _. z)
same_fault (Ok v) (Ok w) z e = refl
same_fault (Ok v) (Err d) z e = absurd (cc)
same_fault (Err c) (Ok w) z e = absurd (cc)
same_fault (Err c) (Err d) z e = let same : c ≡ d = cc in ap (λ f. Err f) same

no_fault : {X : Type 0} (r : OrFault X) (v : X) → r ≡ Ok v → fault_of r ≡ None
no_fault r v e = ap (λ s. fault_of s) e

-- ---- rows with labels apart

module _ (heading : Heading) (commalist : List ℕ) (intervals : AreIntervals heading commalist) (a b whole : List Row) (sa : IsSet heading commalist intervals a) (sb : IsSet heading commalist intervals b)
    (sw : IsSet heading commalist intervals whole)
    (places : (l : Row) (place : List ℤ) → HasPlace heading commalist intervals whole l place ↔ (HasPlace heading commalist intervals a l place ⊎ HasPlace heading commalist intervals b l place)) (known : Row → Bool)
    (not_known : (l : Row) (place : List ℤ) → HasPlace heading commalist intervals a l place → known l ≡ false) (is_known : (l : Row) (place : List ℤ) → HasPlace heading commalist intervals b l place → known l ≡ true) where
  as_b : (x : Row) → known (others commalist x) ≡ true → In x (packed commalist whole) ↔ In x (packed commalist b)
  as_b x e =
      let l : Row = others commalist x in
      same_packed heading commalist intervals whole b sw sb x (λ place. (
        λ h. elim ((places l place).0 h) [ inl g ↦ absurd (true≢false (sym e ∙ not_known l place g)) | inr g ↦ g ],
        λ h. (places l place).1 (inr h),
      ))

  as_a : (x : Row) → known (others commalist x) ≡ false → In x (packed commalist whole) ↔ In x (packed commalist a)
  as_a x e =
      let l : Row = others commalist x in
      same_packed heading commalist intervals whole a sw sa x (λ place. (
        λ h. elim ((places l place).0 h) [ inl g ↦ g | inr g ↦ absurd (true≢false (sym (is_known l place g) ∙ e)) ],
        λ h. (places l place).1 (inl h),
      ))

  pub no_a : (x : Row) → known (others commalist x) ≡ true → In x (packed commalist a) → ⊥
  no_a x e = none_packed heading commalist intervals a sa x (λ place g. true≢false (sym e ∙ not_known (others commalist x) place g))

  pub no_b : (x : Row) → known (others commalist x) ≡ false → In x (packed commalist b) → ⊥
  no_b x e = none_packed heading commalist intervals b sb x (λ place g. true≢false (sym (is_known (others commalist x) place g) ∙ e))

  pub apart_law : packed commalist whole ≡ united (packed commalist a) (packed commalist b)
  apart_law =
      same_by_members row_cmp row_total row_separates (packed commalist whole) (united (packed commalist a) (packed commalist b))
      (packed_set heading commalist intervals whole sw).0 (Ascends-union_of row_cmp row_total row_separates (packed commalist a) (packed commalist b)) (λ x.
      let u = In-union_of row_cmp row_total row_separates x (packed commalist a) (packed commalist b) in
      elim (either (known (others commalist x))) [
        | inl t ↦ (
          λ i. u.1 (inr ((as_b x t).0 i)),
          λ i. elim (u.0 i) [ inl j ↦ absurd (no_a x t j) | inr j ↦ (as_b x t).1 j ],
        )
        | inr e ↦ (
          λ i. u.1 (inl ((as_a x e).0 i)),
          λ i. elim (u.0 i) [ inl j ↦ (as_a x e).1 j | inr j ↦ absurd (no_b x e j) ],
        )
      ])

-- ---- a part with all rows that have its labels

module _ (heading : Heading) (commalist : List ℕ) (intervals : AreIntervals heading commalist) (value part : List Row) (sv : IsSet heading commalist intervals value)
    (closed : part ≡ touched (outside commalist heading) part value) where
  abbrev pub rest : List Row
  rest = subtracted value part

  abbrev Place : List Row → Row → List ℤ → Type 0
  Place = HasPlace heading commalist intervals

  in_value : (x : Row) → In x part → In x value
  in_value x i = ((In-filter _ x value).0 (subst (λ (rows : List Row). In x rows) closed i)).0

  pub closed_within : IsTrue (is_within row_cmp part value)
  closed_within = (is_within-In row_cmp row_total row_separates part value).1 in_value

  pub part_set : IsSet heading commalist intervals part
  part_set = (subst (Ascends row_cmp) (sym closed) (Ascends-filter row_cmp _ value sv.0), λ x i. sv.1 x (in_value x i))

  in_rest : (x : Row) → In x rest ↔ (In x value × (In x part → ⊥))
  in_rest = In-subtracted value part

  pub rest_set : IsSet heading commalist intervals rest
  rest_set = (Ascends-difference_of row_cmp row_total row_separates value part sv.0, λ x i. sv.1 x ((in_rest x).0 i).0)

  -- ---- labels

  abbrev pub known : Row → Bool
  known = knows heading commalist intervals value part sv part_set

  pub known_part : (x : Row) → In x part ↔ (In x value × IsTrue (known (others commalist x)))
  known_part x =
      let w = part_known heading commalist intervals value part sv part_set x in
      (λ i. w.0 (subst (λ (rows : List Row). In x rows) closed i), λ v. subst (λ (rows : List Row). In x rows) (sym closed) (w.1 v))

  pub rest_unknown : (x : Row) → In x rest → known (others commalist x) ≡ false
  rest_unknown x i =
      let w = (in_rest x).0 i in
      elim (either (known (others commalist x))) [ inl t ↦ absurd (w.1 ((known_part x).1 (w.0, t))) | inr e ↦ e ]

  pub rest_places : (l : Row) (place : List ℤ) → Place rest l place → known l ≡ false
  rest_places l place h =
      let w = (box_among heading commalist intervals rest l h.0).0 h.1 in
      ap known (ap (λ b. b.0) w.2) ∙ rest_unknown w.0 w.1

  pub part_places : (l : Row) (place : List ℤ) → Place part l place → known l ≡ true
  part_places = place_known heading commalist intervals value part sv part_set

  in_either : (x : Row) → In x value → In x rest ⊎ In x part
  in_either x i =
      let h = has-In row_cmp row_total row_separates part x in
      elim (either (has row_cmp part x)) [ inl t ↦ inr (h.0 t) | inr e ↦ inl ((in_rest x).1 (i, λ j. true≢false (sym (h.1 j) ∙ e))) ]

  value_places : (l : Row) (place : List ℤ) → Place value l place ↔ (Place rest l place ⊎ Place part l place)
  value_places l place = (
    λ h.
        let w = (box_among heading commalist intervals value l h.0).0 h.1 in
        elim (in_either w.0 w.1) [
          | inl i ↦ inl (h.0, (box_among heading commalist intervals rest l h.0).1 (w.0, i, w.2), h.2)
          | inr i ↦ inr (h.0, (box_among heading commalist intervals part l h.0).1 (w.0, i, w.2), h.2)
        ],
    λ h. elim h [
      | inl g ↦ let w = (box_among heading commalist intervals rest l g.0).0 g.1 in (g.0, (box_among heading commalist intervals value l g.0).1 (w.0, ((in_rest w.0).0 w.1).0, w.2), g.2)
      | inr g ↦ let w = (box_among heading commalist intervals part l g.0).0 g.1 in (g.0, (box_among heading commalist intervals value l g.0).1 (w.0, in_value w.0 w.1, w.2), g.2)
    ],
  )

  -- ---- unpacked rows

  abbrev opened : List Row
  opened = unpacked commalist value

  opened_part : (x : Row) → In x (unpacked commalist part) → In x opened
  opened_part x i =
      let shaped = opened_shaped heading commalist intervals part part_set.0 part_set.1 x i in
      let w = (opened_at heading commalist intervals part part_set.0 part_set.1 x shaped).0 i in
      (opened_at heading commalist intervals value sv.0 sv.1 x shaped).1 (w.0, (value_places (others commalist x) (firsts (spans_at commalist x))).1 (inr w.1))

  opened_rest : (x : Row) → In x (unpacked commalist rest) → In x opened
  opened_rest x i =
      let shaped = opened_shaped heading commalist intervals rest rest_set.0 rest_set.1 x i in
      let w = (opened_at heading commalist intervals rest rest_set.0 rest_set.1 x shaped).0 i in
      (opened_at heading commalist intervals value sv.0 sv.1 x shaped).1 (w.0, (value_places (others commalist x) (firsts (spans_at commalist x))).1 (inl w.1))

  opened_either : (x : Row) → In x opened → In x (unpacked commalist rest) ⊎ In x (unpacked commalist part)
  opened_either x i =
      let shaped = opened_shaped heading commalist intervals value sv.0 sv.1 x i in
      let w = (opened_at heading commalist intervals value sv.0 sv.1 x shaped).0 i in
      elim ((value_places (others commalist x) (firsts (spans_at commalist x))).0 w.1) [
        | inl g ↦ inl ((opened_at heading commalist intervals rest rest_set.0 rest_set.1 x shaped).1 (w.0, g))
        | inr g ↦ inr ((opened_at heading commalist intervals part part_set.0 part_set.1 x shaped).1 (w.0, g))
      ]

  opened_up : Ascends row_cmp opened
  opened_up = unpacked_ascends heading commalist intervals value sv.0 sv.1

  part_up : Ascends row_cmp (unpacked commalist part)
  part_up = unpacked_ascends heading commalist intervals part part_set.0 part_set.1

  abbrev in_part : Row → Bool
  in_part = has row_cmp (unpacked commalist part)

  part_filtered : filter in_part opened ≡ unpacked commalist part
  part_filtered =
      same_by_members row_cmp row_total row_separates (filter in_part opened) (unpacked commalist part) (Ascends-filter row_cmp in_part opened opened_up) part_up (λ x.
      let f = In-filter in_part x opened in
      let h = has-In row_cmp row_total row_separates (unpacked commalist part) x in
      (λ i. h.0 (f.0 i).1, λ i. f.1 (opened_part x i, h.1 i)))

  -- ---- restrictions

  module _ (test : Row → OrFault Bool) where
    abbrev passing : List Row → List Row
    passing rows = filter (λ x. is_true (test x)) rows

    -- where the others have no fault, the faults are those of the part
    least_of_part : ((x : Row) → In x (unpacked commalist rest) → fault_of (test x) ≡ None) → {Z : Type 0} → (z : OrFault Z)
        → then_give (least_of_all fault_order (map test opened)) (λ _. z) ≡ then_give (least_of_all fault_order (map test (unpacked commalist part))) (λ _. z)
    least_of_part none z =
        same_fault (least_of_all fault_order (map test opened)) (least_of_all fault_order (map test (unpacked commalist part))) z
        (least_fewer test in_part opened (λ x i e. elim (opened_either x i) [
          | inl j ↦ none x j
          | inr j ↦ absurd (true≢false (sym ((has-In row_cmp row_total row_separates (unpacked commalist part) x).1 j) ∙ e))
        ]) ∙ ap (λ (rows : List Row). fault_of (least_of_all fault_order (map test rows))) part_filtered)

    passing_all : ((x : Row) → In x (unpacked commalist rest) → test x ≡ Ok true) → passing opened ≡ united (unpacked commalist rest) (passing (unpacked commalist part))
    passing_all passes =
        let p : Row → Bool = λ x. is_true (test x) in
        let some : List Row = passing (unpacked commalist part) in
        same_by_members row_cmp row_total row_separates (passing opened) (united (unpacked commalist rest) some) (Ascends-filter row_cmp p opened opened_up)
        (Ascends-union_of row_cmp row_total row_separates (unpacked commalist rest) some) (λ x.
        let f = In-filter p x opened in
        let g = In-filter p x (unpacked commalist part) in
        let u = In-union_of row_cmp row_total row_separates x (unpacked commalist rest) some in (
          λ i. let w = f.0 i in elim (opened_either x w.0) [ inl j ↦ u.1 (inl j) | inr j ↦ u.1 (inr (g.1 (j, w.1))) ],
          λ i. elim (u.0 i) [ inl j ↦ f.1 (opened_rest x j, ap (λ r. is_true r) (passes x j)) | inr j ↦ let w = g.0 j in f.1 (opened_part x w.0, w.1) ],
        ))

    passing_none : ((x : Row) → In x (unpacked commalist rest) → test x ≡ Ok false) → passing opened ≡ passing (unpacked commalist part)
    passing_none fails =
        let p : Row → Bool = λ x. is_true (test x) in
        same_by_members row_cmp row_total row_separates (passing opened) (passing (unpacked commalist part)) (Ascends-filter row_cmp p opened opened_up)
        (Ascends-filter row_cmp p (unpacked commalist part) part_up) (λ x.
        let f = In-filter p x opened in
        let g = In-filter p x (unpacked commalist part) in (
          λ i.
              let w = f.0 i in
              elim (opened_either x w.0) [ inl j ↦ absurd (true≢false (sym w.1 ∙ ap (λ r. is_true r) (fails x j))) | inr j ↦ g.1 (j, w.1) ],
          λ i. let w = g.0 i in f.1 (opened_part x w.0, w.1),
        ))

  pub kept_law : (test : Row → OrFault Bool) → All (λ y. test y ≡ Ok true) (unpacked commalist rest)
      → restricted test (unpacked commalist value) ≡ then_give (restricted test (unpacked commalist part)) (λ rows. Ok (united (unpacked commalist rest) rows))
  kept_law test passes =
      let each : (x : Row) → In x (unpacked commalist rest) → test x ≡ Ok true = in_all (λ y. test y ≡ Ok true) (unpacked commalist rest) passes in
      let least : OrFault (List Bool) = least_of_all fault_order (map test (unpacked commalist part)) in
      least_of_part test (λ x i. no_fault (test x) true (each x i)) (Ok (passing test opened))
      ∙ ap (λ (rows : List Row). then_give least (λ _. Ok rows)) (passing_all test each)
      ∙ sym (then_give-then_give least (λ _. Ok (passing test (unpacked commalist part))) (λ rows. Ok (united (unpacked commalist rest) rows)))

  pub dropped_law : (test : Row → OrFault Bool) → All (λ y. test y ≡ Ok false) (unpacked commalist rest) → restricted test (unpacked commalist value) ≡ restricted test (unpacked commalist part)
  dropped_law test fails =
      let each : (x : Row) → In x (unpacked commalist rest) → test x ≡ Ok false = in_all (λ y. test y ≡ Ok false) (unpacked commalist rest) fails in
      let least : OrFault (List Bool) = least_of_all fault_order (map test (unpacked commalist part)) in
      least_of_part test (λ x i. no_fault (test x) false (each x i)) (Ok (passing test opened)) ∙ ap (λ (rows : List Row). then_give least (λ _. Ok rows)) (passing_none test each)

  -- ---- what is packed anew

  -- some of packed rows are packed
  pub rest_packed : packed commalist value ≡ value → packed commalist rest ≡ rest
  rest_packed are =
      let told = prepacked heading commalist intervals value rest sv rest_set (λ x i. ((in_rest x).0 i).0) (sym (packed_already commalist value are)) in
      sym ((are_same-≡ row_cmp row_total row_separates rest (packed commalist rest) rest_set.0 (packed_set heading commalist intervals rest rest_set).0).0 told)

  module _ (rows : List Row) (up : Ascends row_cmp rows) (some : (x : Row) → In x rows → In x (unpacked commalist part)) where
    some_set : IsSet heading commalist intervals rows
    some_set = (up, λ x i. opened_shaped heading commalist intervals part part_set.0 part_set.1 x (some x i))

    abbrev whole : List Row
    whole = united (unpacked commalist rest) rows

    in_whole : (x : Row) → In x whole ↔ (In x (unpacked commalist rest) ⊎ In x rows)
    in_whole x = In-union_of row_cmp row_total row_separates x (unpacked commalist rest) rows

    whole_set : IsSet heading commalist intervals whole
    whole_set = (
      Ascends-union_of row_cmp row_total row_separates (unpacked commalist rest) rows,
      λ x i. elim ((in_whole x).0 i) [
        | inl j ↦ opened_shaped heading commalist intervals rest rest_set.0 rest_set.1 x j
        | inr j ↦ some_set.1 x j
      ],
    )

    whole_places : (l : Row) (place : List ℤ) → Place whole l place ↔ (Place rest l place ⊎ Place rows l place)
    whole_places l place =
        let back = opened_places heading commalist intervals rest rest_set.0 rest_set.1 l place in (
          λ h.
              let w = (box_among heading commalist intervals whole l h.0).0 h.1 in
              elim ((in_whole w.0).0 w.1) [
                | inl i ↦ inl (back.0 (h.0, (box_among heading commalist intervals (unpacked commalist rest) l h.0).1 (w.0, i, w.2), h.2))
                | inr i ↦ inr (h.0, (box_among heading commalist intervals rows l h.0).1 (w.0, i, w.2), h.2)
              ],
          λ h. elim h [
            | inl g ↦
                let v = back.1 g in
                let w = (box_among heading commalist intervals (unpacked commalist rest) l v.0).0 v.1 in
                (v.0, (box_among heading commalist intervals whole l v.0).1 (w.0, (in_whole w.0).1 (inl w.1), w.2), v.2)
            | inr g ↦
                let w = (box_among heading commalist intervals rows l g.0).0 g.1 in
                (g.0, (box_among heading commalist intervals whole l g.0).1 (w.0, (in_whole w.0).1 (inr w.1), w.2), g.2)
          ],
        )

    some_places : (l : Row) (place : List ℤ) → Place rows l place → known l ≡ true
    some_places l place h =
        let w = (box_among heading commalist intervals rows l h.0).0 h.1 in
        part_places l place ((opened_places heading commalist intervals part part_set.0 part_set.1 l place).0 (h.0, (box_among heading commalist intervals (unpacked commalist part) l h.0).1 (w.0, some w.0 w.1, w.2), h.2))

    packed_known : (x : Row) → In x (packed commalist rows) → IsTrue (known (others commalist x))
    packed_known x i = elim (either (known (others commalist x))) [
      | inl t ↦ t
      | inr e ↦ absurd (no_b heading commalist intervals rest rows whole rest_set some_set whole_set whole_places known rest_places some_places x e i)
    ]

    packed_is_set : IsSet heading commalist intervals (packed commalist rows)
    packed_is_set = packed_set heading commalist intervals rows some_set

    joined_apart : (x : Row) → In x (packed commalist rows) → In x rest → ⊥
    joined_apart x i j = true≢false (sym (packed_known x i) ∙ rest_unknown x j)

    joined_packed : packed commalist value ≡ value → packed commalist whole ≡ united rest (packed commalist rows)
    joined_packed are =
        apart_law heading commalist intervals rest rows whole rest_set some_set whole_set whole_places known rest_places some_places
        ∙ ap (λ (r : List Row). united r (packed commalist rows)) (rest_packed are)

    labels_all : touched (outside commalist heading) part (packed commalist rows) ≡ packed commalist rows
    labels_all =
        same_by_members row_cmp row_total row_separates (touched (outside commalist heading) part (packed commalist rows)) (packed commalist rows)
        (Ascends-filter row_cmp _ (packed commalist rows) packed_is_set.0) packed_is_set.0 (λ x.
        let w = part_known heading commalist intervals (packed commalist rows) part packed_is_set part_set x in
        (λ i. (w.0 i).0, λ i. w.1 (i, packed_known x i)))

    joined_count : length (united rest (packed commalist rows)) ≡ length rest + length (packed commalist rows)
    joined_count = joined rest (packed commalist rows) rest_set.0 packed_is_set.0 joined_apart

  pub packed_law : packed commalist value ≡ value → (rows : List Row) → Ascends row_cmp rows → ((x : Row) → In x rows → In x (unpacked commalist part)) → packed commalist (united (unpacked commalist rest) rows) ≡ united rest (packed commalist rows)
  packed_law are rows up some = joined_packed rows up some are

  pub labels_law : (rows : List Row) → Ascends row_cmp rows → ((x : Row) → In x rows → In x (unpacked commalist part)) → touched (outside commalist heading) part (packed commalist rows) ≡ packed commalist rows
  labels_law rows up some = labels_all rows up some

  pub count_law : (rows : List Row) → Ascends row_cmp rows → ((x : Row) → In x rows → In x (unpacked commalist part)) → length (united rest (packed commalist rows)) ≡ length rest + length (packed commalist rows)
  count_law rows up some = joined_count rows up some
