-- What the replacement of some rows comes to, from what its calls answer.
--     replaced_rows, replaced_counted      where no rows are added
--     before_few, after_few      what is united on the way is not too much
--     whole_rows, whole_counted, whole_cost      where rows are added under USING
use Rattle.std.proofs.Common.{◌≡◌, ◌↔◌, ◌⊎◌, inl, inr, ℕ, ℤ, ◌+◌, ◌≤◌, Bool, true, false, ◌||◌, List, length, sym, ap, ap₂, ◌∙◌, subst, arith}
use Rattle.std.specs.Bool.{IsTrue}
use Rattle.std.proofs.lemmas.Bool.{true≢false, or_cases, or_left, or_right}
use Rattle.base_core.specs.Sets.{has, is_within}
use Rattle.base_core.proofs.SetLemmas.{In, Ascends, Ascends-from_sorted, same_by_members}
use Rattle.base_core.proofs.MemberLemmas.{has-In}
use Rattle.base_core.proofs.SetOperatorLemmas.{Ascends-union_of, Ascends-difference_of, is_within-In}
use Rattle.value_core.specs.Order.{row_total, row_separates}
use Rattle.value_core.specs.RowPacking.{packed, unpacked}
use Rattle.value_core.specs.Values.{Row, Heading, Relation, IsRelation, most_rows, row_cmp}
use Rattle.value_core.specs.declared.refuse.RowsRefuse.{RowsRefuse}
use Rattle.relation_core.specs.Answers.{IsRefusal}
use Rattle.relation_core.specs.Growth.{touched}
use Rattle.relation_core.specs.Operators.{subtracted, united}
use Rattle.cell_core.specs.Costs.{bound}
use Rattle.u_set.specs.Apart.{outside}
use Rattle.u_set.specs.Boxes.{AreIntervals, others}
use Rattle.u_set.proofs.RelationLemmas.{relation_shaped, shaped_under}
use Rattle.u_constraints.specs.Growth.{exchanged}
use Rattle.u_constraints.proofs.BoundLemmas.{bound_grows}
use Rattle.u_constraints.proofs.GrownKeyLemmas.{In-exchanged}
use Rattle.u_constraints.proofs.TouchedLemmas.{within_length}
use Rattle.u_constraints.proofs.GrowthLemmas.{In-united, In-subtracted}
use Rattle.change_rows.proofs.LabelLemmas.{IsSet, HasPlace, box_among, knows, both, both_set, both_places, packed_set, none_packed, same_packed, part_known, place_known}
use Rattle.change_rows.proofs.ExchangeLemmas.{counted, either}
use Rattle.change_rows.proofs.InsertionLemmas.{smaller_refused, not_refused}
use Rattle.change_rows.proofs.ChangeLemmas.{part_set, known_part, rest_set, rest_unknown, rest_packed}

-- a row is in a list or not
pub in_or_not : (x : Row) (rows : List Row) → In x rows ⊎ (In x rows → ⊥)
in_or_not x rows =
    let h = has-In row_cmp row_total row_separates rows x in
    elim (either (has row_cmp rows x)) [ inl t ↦ inl (h.0 t) | inr e ↦ inr (λ i. true≢false (sym (h.1 i) ∙ e)) ]

-- ---- rows that give way to others

module _ (value part left : List Row) (within : IsTrue (is_within row_cmp part value)) where
  abbrev coming : List Row
  coming = subtracted left value

  abbrev going : List Row
  going = subtracted part left

  abbrev all : List Row
  all = united (subtracted value part) left

  in_value : (x : Row) → In x part → In x value
  in_value = (is_within-In row_cmp row_total row_separates part value).0 within

  pub replaced_rows : exchanged value going coming ≡ all
  replaced_rows =
      same_by_members row_cmp row_total row_separates (exchanged value going coming) all
      (Ascends-difference_of row_cmp row_total row_separates (united value coming) going (Ascends-union_of row_cmp row_total row_separates value coming))
      (Ascends-union_of row_cmp row_total row_separates (subtracted value part) left) (λ x.
      let e = In-exchanged value going coming x in
      let c = In-subtracted left value x in
      let g = In-subtracted part left x in
      let r = In-subtracted value part x in
      let u = In-united (subtracted value part) left x in (
        λ i.
            let w = e.0 i in
            elim (in_or_not x left) [
              | inl l ↦ u.1 (inr l)
              | inr n ↦ elim w.0 [
                | inl v ↦ u.1 (inl (r.1 (v, λ p. w.1 (g.1 (p, n)))))
                | inr k ↦ absurd (n (c.0 k).0)
              ]
            ],
        λ i. elim (u.0 i) [
          | inl j ↦ let w = r.0 j in e.1 (inl w.0, λ k. w.1 (g.0 k).0)
          | inr l ↦ elim (in_or_not x value) [
            | inl v ↦ e.1 (inl v, λ k. (g.0 k).1 l)
            | inr n ↦ e.1 (inr (c.1 (l, n)), λ k. (g.0 k).1 l)
          ]
        ],
      ))

  pub replaced_counted : Ascends row_cmp value → Ascends row_cmp part → Ascends row_cmp left → length (exchanged value going coming) + length going ≡ length value + length coming
  replaced_counted up up' up'' =
      counted value going coming up (Ascends-difference_of row_cmp row_total row_separates part left up') (Ascends-difference_of row_cmp row_total row_separates left value up'')
      (λ x i. in_value x ((In-subtracted part left x).0 i).0) (λ x i. ((In-subtracted left value x).0 i).1)

-- ---- and rows that are added under USING

module _ (heading : Heading) (commalist : List ℕ) (intervals : AreIntervals heading commalist) (value part left added : List Row) (sv : IsSet heading commalist intervals value) (sl : IsSet heading commalist intervals left)
    (sa : IsSet heading commalist intervals added) (closed : part ≡ touched (outside commalist heading) part value) (labels : touched (outside commalist heading) part left ≡ left) where
  abbrev Place : List Row → Row → List ℤ → Type 0
  Place = HasPlace heading commalist intervals

  abbrev rest : List Row
  rest = subtracted value part

  sr : IsSet heading commalist intervals rest
  sr = rest_set heading commalist intervals value part sv closed

  abbrev pub later : List Row
  later = united rest left

  later_set : IsSet heading commalist intervals later
  later_set = (
    Ascends-union_of row_cmp row_total row_separates rest left,
    λ x i. elim ((In-united rest left x).0 i) [ inl j ↦ sr.1 x j | inr j ↦ sl.1 x j ],
  )

  -- the rows with a label of one that is added, without the part
  abbrev aside : List Row
  aside = subtracted (touched (outside commalist heading) added value) part

  abbrev pub before : List Row
  before = united aside part

  abbrev pub after : List Row
  after = united aside left

  abbrev pub new : List Row
  new = packed commalist (both heading commalist intervals after added)

  abbrev pub whole : List Row
  whole = packed commalist (both heading commalist intervals later added)

  abbrev come : List Row
  come = subtracted new value

  abbrev gone : List Row
  gone = subtracted before new

  -- ---- labels

  abbrev of_added : Row → Bool
  of_added = knows heading commalist intervals value added sv sa

  abbrev of_part : Row → Bool
  of_part = knows heading commalist intervals value part sv (part_set heading commalist intervals value part sv closed)

  abbrev known : Row → Bool
  known l = of_added l || of_part l

  in_aside : (x : Row) → In x aside ↔ (In x rest × IsTrue (of_added (others commalist x)))
  in_aside x =
      let s = In-subtracted (touched (outside commalist heading) added value) part x in
      let t = part_known heading commalist intervals value added sv sa x in
      let r = In-subtracted value part x in (
        λ i. let w = s.0 i in let v = t.0 w.0 in (r.1 (v.0, w.1), v.1),
        λ h. let w = r.0 h.0 in s.1 (t.1 (w.0, h.1), w.1),
      )

  left_known : (x : Row) → In x left → IsTrue (of_part (others commalist x))
  left_known x i = ((part_known heading commalist intervals left part sl (part_set heading commalist intervals value part sv closed) x).0 (subst (λ (rows : List Row). In x rows) (sym labels) i)).1

  after_set : IsSet heading commalist intervals after
  after_set = (
    Ascends-union_of row_cmp row_total row_separates aside left,
    λ x i. elim ((In-united aside left x).0 i) [ inl j ↦ sr.1 x ((in_aside x).0 j).0 | inr j ↦ sl.1 x j ],
  )

  after_known : (x : Row) → In x after → IsTrue (known (others commalist x))
  after_known x i = elim ((In-united aside left x).0 i) [
    | inl j ↦ or_left (of_added (others commalist x)) _ ((in_aside x).0 j).1
    | inr j ↦ or_right (of_added (others commalist x)) _ (left_known x j)
  ]

  after_later : (x : Row) → In x after → In x later
  after_later x i = elim ((In-united aside left x).0 i) [
    | inl j ↦ (In-united rest left x).1 (inl ((in_aside x).0 j).0)
    | inr j ↦ (In-united rest left x).1 (inr j)
  ]

  -- a row of the rest with a known label has that of one that is added
  later_after : (x : Row) → In x later → IsTrue (known (others commalist x)) → In x after
  later_after x i t = elim ((In-united rest left x).0 i) [
    | inl j ↦ elim (or_cases (of_added (others commalist x)) _ t) [
      | inl k ↦ (In-united aside left x).1 (inl ((in_aside x).1 (j, k)))
      | inr k ↦ absurd (true≢false (sym k ∙ rest_unknown heading commalist intervals value part sv closed x j))
    ]
    | inr j ↦ (In-united aside left x).1 (inr j)
  ]

  -- ---- places

  after_place : (l : Row) (place : List ℤ) → Place after l place ↔ (Place later l place × IsTrue (known l))
  after_place l place = (
    λ h.
        let w = (box_among heading commalist intervals after l h.0).0 h.1 in (
          (h.0, (box_among heading commalist intervals later l h.0).1 (w.0, after_later w.0 w.1, w.2), h.2),
          ap known (ap (λ b. b.0) w.2) ∙ after_known w.0 w.1,
        ),
    λ h.
        let w = (box_among heading commalist intervals later l h.0.0).0 h.0.1 in
        (h.0.0, (box_among heading commalist intervals after l h.0.0).1 (w.0, later_after w.0 w.1 (ap known (sym (ap (λ b. b.0) w.2)) ∙ h.1), w.2), h.0.2),
  )

  added_place : (l : Row) (place : List ℤ) → Place added l place → IsTrue (known l)
  added_place l place h = or_left (of_added l) _ (place_known heading commalist intervals value added sv sa l place h)

  -- the places of a label of none of the part
  rest_place : (l : Row) (place : List ℤ) → known l ≡ false → Place later l place ↔ Place rest l place
  rest_place l place e = (
    λ h.
        let w = (box_among heading commalist intervals later l h.0).0 h.1 in
        elim ((In-united rest left w.0).0 w.1) [
          | inl i ↦ (h.0, (box_among heading commalist intervals rest l h.0).1 (w.0, i, w.2), h.2)
          | inr i ↦ absurd (true≢false (sym (or_right (of_added l) _ (ap of_part (ap (λ b. b.0) w.2) ∙ left_known w.0 i)) ∙ e))
        ],
    λ h.
        let w = (box_among heading commalist intervals rest l h.0).0 h.1 in
        (h.0, (box_among heading commalist intervals later l h.0).1 (w.0, (In-united rest left w.0).1 (inl w.1), w.2), h.2),
  )

  -- ---- rows

  known_whole : (x : Row) → IsTrue (known (others commalist x)) → In x whole ↔ In x new
  known_whole x t =
      let l : Row = others commalist x in
      same_packed heading commalist intervals (both heading commalist intervals later added) (both heading commalist intervals after added) (both_set heading commalist intervals later added later_set sa)
      (both_set heading commalist intervals after added after_set sa) x (λ place.
      let all = both_places heading commalist intervals later added later_set sa l place in
      let some = both_places heading commalist intervals after added after_set sa l place in (
        λ h. some.1 (elim (all.0 h) [ inl g ↦ inl ((after_place l place).1 (g, t)) | inr g ↦ inr g ]),
        λ h. all.1 (elim (some.0 h) [ inl g ↦ inl ((after_place l place).0 g).0 | inr g ↦ inr g ]),
      ))

  unknown_whole : packed commalist value ≡ value → (x : Row) → known (others commalist x) ≡ false → In x whole ↔ In x rest
  unknown_whole are x e =
      let l : Row = others commalist x in
      let same = same_packed heading commalist intervals (both heading commalist intervals later added) rest (both_set heading commalist intervals later added later_set sa) sr x (λ place.
      let all = both_places heading commalist intervals later added later_set sa l place in (
        λ h. elim (all.0 h) [ inl g ↦ (rest_place l place e).0 g | inr g ↦ absurd (true≢false (sym (added_place l place g) ∙ e)) ],
        λ h. all.1 (inl ((rest_place l place e).1 h)),
      )) in
      let own = rest_packed heading commalist intervals value part sv closed are in
      (λ i. subst (λ (rows : List Row). In x rows) own (same.0 i), λ i. same.1 (subst (λ (rows : List Row). In x rows) (sym own) i))

  new_known : (x : Row) → In x new → IsTrue (known (others commalist x))
  new_known x i =
      let l : Row = others commalist x in
      elim (either (known l)) [
        | inl t ↦ t
        | inr e ↦ absurd (none_packed heading commalist intervals (both heading commalist intervals after added) (both_set heading commalist intervals after added after_set sa) x (λ place h.
            elim ((both_places heading commalist intervals after added after_set sa l place).0 h) [
              | inl g ↦ true≢false (sym ((after_place l place).0 g).1 ∙ e)
              | inr g ↦ true≢false (sym (added_place l place g) ∙ e)
            ]) i)
      ]

  -- the rows that are looked at are all with a known label
  in_before : (x : Row) → In x before ↔ (In x value × IsTrue (known (others commalist x)))
  in_before x =
      let u = In-united aside part x in
      let p = known_part heading commalist intervals value part sv closed x in
      let r = In-subtracted value part x in (
        λ i. elim (u.0 i) [
          | inl j ↦ let w = (in_aside x).0 j in ((r.0 w.0).0, or_left (of_added (others commalist x)) _ w.1)
          | inr j ↦ let w = p.0 j in (w.0, or_right (of_added (others commalist x)) _ w.1)
        ],
        λ h. elim (in_or_not x part) [
          | inl j ↦ u.1 (inr j)
          | inr n ↦ elim (or_cases (of_added (others commalist x)) _ h.1) [
            | inl k ↦ u.1 (inl ((in_aside x).1 (r.1 (h.0, n), k)))
            | inr k ↦ absurd (n (p.1 (h.0, k)))
          ]
        ],
      )

  pub whole_rows : packed commalist value ≡ value → exchanged value gone come ≡ whole
  whole_rows are =
      same_by_members row_cmp row_total row_separates (exchanged value gone come) whole
      (Ascends-difference_of row_cmp row_total row_separates (united value come) gone (Ascends-union_of row_cmp row_total row_separates value come))
      (packed_set heading commalist intervals (both heading commalist intervals later added) (both_set heading commalist intervals later added later_set sa)).0 (λ x.
      let e = In-exchanged value gone come x in
      let c = In-subtracted new value x in
      let g = In-subtracted before new x in
      let r = In-subtracted value part x in (
        λ i.
            let w = e.0 i in
            elim (in_or_not x new) [
              | inl n ↦ (known_whole x (new_known x n)).1 n
              | inr n ↦ elim w.0 [
                | inl v ↦ elim (either (known (others commalist x))) [
                  | inl t ↦ absurd (w.1 (g.1 ((in_before x).1 (v, t), n)))
                  | inr f ↦ (unknown_whole are x f).1 (r.1 (v, λ p. true≢false (sym ((in_before x).0 ((In-united aside part x).1 (inr p))).1 ∙ f)))
                ]
                | inr k ↦ absurd (n (c.0 k).0)
              ]
            ],
        λ i. elim (either (known (others commalist x))) [
          | inl t ↦
              let n : In x new = (known_whole x t).0 i in
              let stays : In x gone → ⊥ = λ k. (g.0 k).1 n in
              elim (in_or_not x value) [ inl v ↦ e.1 (inl v, stays) | inr m ↦ e.1 (inr (c.1 (n, m)), stays) ]
          | inr f ↦ e.1 (
            inl (r.0 ((unknown_whole are x f).0 i)).0,
            λ k. true≢false (sym ((in_before x).0 (g.0 k).0).1 ∙ f),
          )
        ],
      ))

  pub whole_counted : length (exchanged value gone come) + length gone ≡ length value + length come
  whole_counted =
      let before_up : Ascends row_cmp before = Ascends-union_of row_cmp row_total row_separates aside part in
      let new_up : Ascends row_cmp new = (packed_set heading commalist intervals (both heading commalist intervals after added) (both_set heading commalist intervals after added after_set sa)).0 in
      counted value gone come sv.0 (Ascends-difference_of row_cmp row_total row_separates before new before_up) (Ascends-difference_of row_cmp row_total row_separates new value new_up)
      (λ x i. ((in_before x).0 ((In-subtracted before new x).0 i).0).0) (λ x i. ((In-subtracted new value x).0 i).1)

  -- ---- how many

  pub before_within : length before ≤ length value
  before_within =
      within_length row_cmp row_total row_separates before value (Ascends-union_of row_cmp row_total row_separates aside part) sv.0 (λ x i. ((in_before x).0 i).0)

  pub after_within : length after ≤ length later
  after_within = within_length row_cmp row_total row_separates after later after_set.0 later_set.0 after_later

  pub new_within : length new ≤ length whole
  new_within =
      within_length row_cmp row_total row_separates new whole
      (packed_set heading commalist intervals (both heading commalist intervals after added) (both_set heading commalist intervals after added after_set sa)).0
      (packed_set heading commalist intervals (both heading commalist intervals later added) (both_set heading commalist intervals later added later_set sa)).0 (λ x i. (known_whole x (new_known x i)).1 i)

-- ---- from what the calls answer

abbrev IsCounted : List Row → List Row → List Row → Type 0
IsCounted value less more = length (exchanged value less more) + length less ≡ length value + length more

is_counted : (value less less' more more' : List Row) → less ≡ less' → more ≡ more' → IsCounted value less' more' → IsCounted value less more
is_counted value less less' more more' g c h =
    subst (λ (rows : List Row). IsCounted value rows more) (sym g) (subst (λ (rows : List Row). IsCounted value less' rows) (sym c) h)

module _ (value part left : Relation) (is : IsRelation value) (is' : IsRelation part) (is'' : IsRelation left) (within : IsTrue (is_within row_cmp part.rows value.rows)) (come gone : List Row)
    (come_are : come ≡ subtracted left.rows value.rows) (gone_are : gone ≡ subtracted part.rows left.rows) where
  pub replacement_rows : exchanged value.rows gone come ≡ united (subtracted value.rows part.rows) left.rows
  replacement_rows = ap₂ (λ (g c : List Row). exchanged value.rows g c) gone_are come_are ∙ replaced_rows value.rows part.rows left.rows within

  pub replacement_counted : length (exchanged value.rows gone come) + length gone ≡ length value.rows + length come
  replacement_counted =
      is_counted value.rows gone (subtracted part.rows left.rows) come (subtracted left.rows value.rows) gone_are come_are
      (replaced_counted value.rows part.rows left.rows within (Ascends-from_sorted row_cmp value.rows is.ascending) (Ascends-from_sorted row_cmp part.rows is'.ascending)
      (Ascends-from_sorted row_cmp left.rows is''.ascending))

module _ (value left added : Relation) (is : IsRelation value) (is' : IsRelation left) (is'' : IsRelation added) (left_headed : left.heading ≡ value.heading) (added_headed : added.heading ≡ value.heading)
    (part : List Row) (commalist : List ℕ) (intervals : AreIntervals value.heading commalist) (closed : part ≡ touched (outside commalist value.heading) part value.rows)
    (labels : touched (outside commalist value.heading) part left.rows ≡ left.rows) (label : List ℕ) (at : label ≡ outside commalist value.heading)
    (given beside : List Row) (given_are : given ≡ touched label added.rows value.rows) (beside_are : beside ≡ subtracted given part) where
  value_set : IsSet value.heading commalist intervals value.rows
  value_set = (Ascends-from_sorted row_cmp value.rows is.ascending, relation_shaped value is commalist intervals)

  left_set : IsSet value.heading commalist intervals left.rows
  left_set = (Ascends-from_sorted row_cmp left.rows is'.ascending, shaped_under value.heading left (sym left_headed) is' commalist intervals)

  added_set : IsSet value.heading commalist intervals added.rows
  added_set = (Ascends-from_sorted row_cmp added.rows is''.ascending, shaped_under value.heading added (sym added_headed) is'' commalist intervals)

  abbrev aside' : List Row
  aside' = subtracted (touched (outside commalist value.heading) added.rows value.rows) part

  abbrev whole' : List Row
  whole' = packed commalist (united (unpacked commalist (united (subtracted value.rows part) left.rows)) (unpacked commalist added.rows))

  aside_is : beside ≡ aside'
  aside_is = beside_are ∙ ap (λ (rows : List Row). subtracted rows part) given_are ∙ ap (λ (positions : List ℕ). subtracted (touched positions added.rows value.rows) part) at

  pub refused_before : (e : RowsRefuse) → IsRefusal (united beside part) e → IsRefusal whole' e
  refused_before e h =
      not_refused (united aside' part) value.rows whole' (before_within value.heading commalist intervals value.rows part left.rows added.rows value_set left_set added_set closed labels) is.few e
      (subst (λ (rows : List Row). IsRefusal (united rows part) e) aside_is h)

  pub refused_after : length (united (subtracted value.rows part) left.rows) ≤ most_rows → (e : RowsRefuse) → IsRefusal (united beside left.rows) e → IsRefusal whole' e
  refused_after few e h =
      not_refused (united aside' left.rows) (united (subtracted value.rows part) left.rows) whole'
      (after_within value.heading commalist intervals value.rows part left.rows added.rows value_set left_set added_set closed labels) few e
      (subst (λ (rows : List Row). IsRefusal (united rows left.rows) e) aside_is h)

  module _ (then' : List Row) (then_are : then' ≡ united beside left.rows) where
    abbrev after' : List Row
    after' = united aside' left.rows

    after_is : then' ≡ after'
    after_is = then_are ∙ ap (λ (rows : List Row). united rows left.rows) aside_is

    abbrev packing : List Row → List Row
    packing rows = packed commalist (united (unpacked commalist rows) (unpacked commalist added.rows))

    pub refused_united : (e : RowsRefuse) → IsRefusal (packing then') e → IsRefusal whole' e
    refused_united e h =
        smaller_refused (packing after') whole' (new_within value.heading commalist intervals value.rows part left.rows added.rows value_set left_set added_set closed labels) e
        (subst (λ (rows : List Row). IsRefusal (packing rows) e) after_is h)

    pub replacement_cost : (now later : ℕ) → later ≤ now + bound (length then' + length added.rows) (length commalist)
        → later ≤ now + bound (length (united (subtracted value.rows part) left.rows) + length added.rows) (length commalist)
    replacement_cost now later h =
        let less = after_within value.heading commalist intervals value.rows part left.rows added.rows value_set left_set added_set closed labels in
        let long = ap (λ (rows : List Row). length rows) after_is in
        let grows = bound_grows (length then' + length added.rows) (length (united (subtracted value.rows part) left.rows) + length added.rows) (length commalist) (omega (arith, less, long)) in
        omega (arith, grows, h)

    module _ (first fresh come gone : List Row) (first_are : first ≡ united beside part) (fresh_are : fresh ≡ packing then') (come_are : come ≡ subtracted fresh value.rows)
        (gone_are : gone ≡ subtracted first fresh) where
      before_is : first ≡ united aside' part
      before_is = first_are ∙ ap (λ (rows : List Row). united rows part) aside_is

      fresh_is : fresh ≡ packing after'
      fresh_is = fresh_are ∙ ap packing after_is

      come_is : come ≡ subtracted (packing after') value.rows
      come_is = come_are ∙ ap (λ (rows : List Row). subtracted rows value.rows) fresh_is

      gone_is : gone ≡ subtracted (united aside' part) (packing after')
      gone_is = gone_are ∙ ap₂ (λ (a b : List Row). subtracted a b) before_is fresh_is

      pub joint_counted : length (exchanged value.rows gone come) + length gone ≡ length value.rows + length come
      joint_counted =
          is_counted value.rows gone (subtracted (united aside' part) (packing after')) come (subtracted (packing after') value.rows) gone_is come_is
          (whole_counted value.heading commalist intervals value.rows part left.rows added.rows value_set left_set added_set closed labels)

      pub joint_rows : packed commalist value.rows ≡ value.rows → exchanged value.rows gone come ≡ whole'
      joint_rows are =
          ap₂ (λ (g c : List Row). exchanged value.rows g c) gone_is come_is
          ∙ whole_rows value.heading commalist intervals value.rows part left.rows added.rows value_set left_set added_set closed labels are
