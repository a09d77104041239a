-- A constraint that holds, of other rows: some of them tell whether it holds still.
--     fewer_hold      where some rows have gone it holds
--     same_break      the rows with the parts of those that come, for constraints of a relvar alone
--     came_break      the rows that come, for constraints that name another relvar
--     beside_break, beside_holds      where rows are added to the relvar that is named
--     cost_grows      more rows cost no less
use Rattle.std.proofs.Common.{◌≡◌, ◌↔◌, ◌⊎◌, inl, inr, ℕ, ◌+◌, ◌<◌, ◌≤◌, Bool, true, false, not, ◌||◌, List, [], ◌∷◌, ◌++◌, map, length, arith, None, refl, sym, ap, ap₂, ◌∙◌, subst, suc}
use Rattle.std.specs.Bool.{IsTrue}
use Rattle.std.specs.List.{list_any, All}
use Rattle.std.specs.Prelude.{Result, IfOk, ◌==◌}
use Rattle.std.specs.Result.{result_err}
use Rattle.std.proofs.lemmas.Bool.{true≢false, both_ways, not-true}
use Rattle.std.proofs.lemmas.Bool.Decides.{nat_tests}
use Rattle.std.proofs.lemmas.List.Folds.{list_any-append}
use Rattle.base_core.specs.Sets.{has}
use Rattle.base_core.proofs.SetLemmas.{In, Ascends, In-in_order, Ascends-from_sorted}
use Rattle.base_core.proofs.MemberLemmas.{In-map, list_all-In, list_any-In}
use Rattle.base_core.proofs.SetOperatorLemmas.{same_tests, In-union_of, In-difference_of, Ascends-union_of, Ascends-difference_of, is_within-In, list_any-in_order}
use Rattle.base_core.proofs.ListLemmas.{All-In}
use Rattle.point_core.specs.declared.fault.Code.{Code}
use Rattle.point_core.specs.declared.fault.Code.TheVariants.{E40, E41, E42, E43, E44}
use Rattle.value_core.specs.Attributes.{among}
use Rattle.value_core.specs.Order.{row_total, row_separates}
use Rattle.value_core.specs.RowPacking.{attribute, unpacked}
use Rattle.value_core.specs.Values.{Row, Heading, Relation, IsRelation, row_cmp}
use Rattle.value_core.specs.declared.constraint.Constraint.{Constraint}
use Rattle.value_core.specs.declared.constraint.Constraint.TheVariants.{Key, Packed, WhenUnpacked, UKey, Foreign, History}
use Rattle.value_core.specs.declared.constraint.HistoryRule.{HistoryRule}
use Rattle.relation_core.specs.Agreement.{part_of}
use Rattle.relation_core.specs.Growth.{touched}
use Rattle.relation_core.specs.Operators.{subtracted, united}
use Rattle.relation_core.specs.Parts.{projected}
use Rattle.relation_core.proofs.FilterLemmas.{length-filter_at_most, rows_of-ascending}
use Rattle.meaning_core.specs.Typing.{IsList}
use Rattle.meaning_core.specs.WellMade.{AreAmong, FitsHeadings}
use Rattle.u_set.specs.Boxes.{AreIntervals, IsShaped, unless}
use Rattle.u_set.specs.Apart.{outside_from, outside}
use Rattle.u_set.proofs.RelationLemmas.{relation_shaped, shaped_under}
use Rattle.u_row.proofs.BeneathLemmas.{among_in, in_among}
use Rattle.u_constraints.specs.Constraints.{is_key, is_packed, is_referenced, counterpart, contradict, keeps_history, first_failed, broken}
use Rattle.u_constraints.specs.Costs.{constraint_cost}
use Rattle.u_constraints.specs.Growth.{exchanged, is_history}
use Rattle.u_constraints.proofs.BoundLemmas.{bound_grows}
use Rattle.u_constraints.proofs.GrownKeyLemmas.{In-exchanged, comes, rows_touched, opened_touched, key_of_touched}
use Rattle.u_constraints.proofs.GrownPackedLemmas.{prepacked, packed_of_touched}
use Rattle.meaning_core.proofs.IntervalLemmas.{intervals_of_list}
use Rattle.u_constraints.proofs.KeyLemmas.{is_key-AgreeOnce}
use Rattle.u_constraints.proofs.OpenedLemmas.{in_unpack, unpack_within}
use Rattle.u_constraints.proofs.TellingLemmas.{AreOutside, Relate, Names}
use Rattle.u_constraints.proofs.TouchedLemmas.{IsTouched, within_length}

-- ---- lines

-- where no line fails, the first holds, and none of the rest fails
pub lines_hold : (b : Bool) (code : Code) (rest : List (Bool × Code)) → first_failed ((b, code) ∷ rest) ≡ None → (b ≡ true) × (first_failed rest ≡ None)
lines_hold true code rest e = (refl, e)
lines_hold false code rest e = let never : ⊥ = cc in absurd never

pub one_line : (b : Bool) (code : Code) → first_failed ((b, code) ∷ []) ≡ None → b ≡ true
one_line b code e = (lines_hold b code [] e).0

-- ---- positions

pub key_positions : (key positions : List ℕ) → AreAmong key positions → (i : ℕ) → In i positions → In i key
key_positions key positions h i m = among_in key i ((list_all-In (among key) positions).0 h i m)

pub outside_false : (commalist positions : List ℕ) → AreOutside commalist positions → (i : ℕ) → In i positions → among commalist i ≡ false
outside_false commalist positions h i m = not-true (among commalist i) ((list_all-In (λ k. not (among commalist k)) positions).0 h i m)

pub outside_apart : (commalist positions : List ℕ) → AreOutside commalist positions → (i : ℕ) → In i positions → In i commalist → ⊥
outside_apart commalist positions h i m n = true≢false (sym (in_among commalist i n) ∙ outside_false commalist positions h i m)

-- ---- more rows

pub In-united : (a b : List Row) (x : Row) → In x (united a b) ↔ (In x a ⊎ In x b)
In-united a b x = In-union_of row_cmp row_total row_separates x a b

pub In-projected : (positions : List ℕ) (rows : List Row) (z : Row) → In z (projected positions rows) ↔ ((x : Row) × In x rows × (z ≡ part_of positions x))
In-projected positions rows z =
    let set = In-in_order row_cmp row_total row_separates z (map (part_of positions) rows) in
    let all = In-map (part_of positions) z rows in
    (λ i. all.0 (set.0 i), λ w. set.1 (all.1 w))

-- the parts of unpacked rows, of fewer rows
part_within : (commalist positions : List ℕ) (rows all : List Row) → ((x : Row) → In x rows → In x all) → (z : Row) → In z (projected positions (unpacked commalist rows)) → In z (projected positions (unpacked commalist all))
part_within commalist positions rows all less z i =
    let w = (In-projected positions (unpacked commalist rows) z).0 i in
    (In-projected positions (unpacked commalist all) z).1 (w.0, unpack_within row_cmp row_total row_separates (map attribute commalist) rows all less w.0 w.1, w.2)

-- the few are rows of all, and the others of all are old
record IsOldOrFew (old all few : List Row) : Type 0 where
  among : (x : Row) → In x few → In x all
  each : (x : Row) → In x all → In x old ⊎ In x few

-- ---- references

module _ (commalist here there : List ℕ) where
  abbrev back : List ℕ
  back = map (counterpart here there) commalist

  within : (rows others : List Row) → IsTrue (is_referenced commalist here there rows others) ↔ ((z : Row) → In z (projected here (unpacked commalist rows)) → In z (projected there (unpacked back others)))
  within rows others = is_within-In row_cmp row_total row_separates (projected here (unpacked commalist rows)) (projected there (unpacked back others))

  -- rows that are referenced still are, where there are fewer
  referenced_fewer : (rows all others : List Row) → ((x : Row) → In x rows → In x all) → is_referenced commalist here there all others ≡ true → is_referenced commalist here there rows others ≡ true
  referenced_fewer rows all others less held = (within rows others).1 (λ z i. (within all others).0 held z (part_within commalist here rows all less z i))

  -- the rows that come tell
  referenced_came : (of all few others : List Row) → IsOldOrFew of all few → is_referenced commalist here there of others ≡ true → is_referenced commalist here there all others ≡ is_referenced commalist here there few others
  referenced_came of all few others is held =
      let opens = in_unpack row_cmp row_total row_separates (map attribute commalist) in
      same_tests _ _ (
        λ t. referenced_fewer few all others is.among t,
        λ t. (within all others).1 (λ z i.
            let w = (In-projected here (unpacked commalist all) z).0 i in
            let v = (opens all w.0).0 w.1 in
            elim (is.each v.0 v.1) [
              | inl l ↦ (within of others).0 held z ((In-projected here (unpacked commalist of) z).1 (w.0, (opens of w.0).1 (v.0, l, v.2), w.2))
              | inr r ↦ (within few others).0 t z ((In-projected here (unpacked commalist few) z).1 (w.0, (opens few w.0).1 (v.0, r, v.2), w.2))
            ]),
      )

  -- and where there are more to be referenced
  referenced_more : (rows others come : List Row) → is_referenced commalist here there rows others ≡ true → is_referenced commalist here there rows (united others come) ≡ true
  referenced_more rows others come held =
      (within rows (united others come)).1 (λ z i. part_within back there others (united others come) (λ x j. (In-united others come x).1 (inl j)) z ((within rows others).0 held z i))

-- ---- histories

any_united : (p : Row → Bool) (a b : List Row) → list_any p (united a b) ≡ (list_any p a || list_any p b)
any_united p a b = list_any-in_order row_cmp row_total row_separates p (a ++ b) ∙ list_any-append p a b

none_before : (a b : Bool) → not a ≡ true → not (a || b) ≡ not b
none_before true b e = absurd (true≢false (sym e))
none_before false b e = refl

module _ (h : HistoryRule) where
  abbrev contradicts : List Row → List Row → Bool
  contradicts rows others = list_any (λ x. list_any (contradict h x) rows) others

  one_contradicts : (rows others : List Row) → IsTrue (contradicts rows others) ↔ ((x y : Row) × In x others × In y rows × IsTrue (contradict h x y))
  one_contradicts rows others =
      let all = list_any-In (λ x. list_any (contradict h x) rows) others in (
        λ t. let w = all.0 t in let v = (list_any-In (contradict h w.0) rows).0 w.2 in (w.0, v.0, w.1, v.1, v.2),
        λ w. all.1 (w.0, w.2, (list_any-In (contradict h w.0) rows).1 (w.1, w.3, w.4)),
      )

  never : (rows others : List Row) → keeps_history h rows others ≡ true → IsTrue (contradicts rows others) → ⊥
  never rows others held t = both_ways (contradicts rows others) (not-true (contradicts rows others) held) t

  -- rows that contradict no other do not, where there are fewer
  history_fewer : (rows all others : List Row) → ((x : Row) → In x rows → In x all) → keeps_history h all others ≡ true → keeps_history h rows others ≡ true
  history_fewer rows all others less held =
      elim (contradicts rows others) as (λ b. contradicts rows others ≡ b → not b ≡ true) [
        | true ↦ λ t. let w = (one_contradicts rows others).0 t in absurd (never all others held ((one_contradicts all others).1 (w.0, w.1, w.2, less w.1 w.3, w.4)))
        | false ↦ λ t. refl
      ] refl

  history_came : (of all few others : List Row) → IsOldOrFew of all few → keeps_history h of others ≡ true → keeps_history h all others ≡ keeps_history h few others
  history_came of all few others is held =
      ap not (same_tests (contradicts all others) (contradicts few others) (
        λ t.
            let w = (one_contradicts all others).0 t in
            elim (is.each w.1 w.3) [
              | inl l ↦ absurd (never of others held ((one_contradicts of others).1 (w.0, w.1, w.2, l, w.4)))
              | inr r ↦ (one_contradicts few others).1 (w.0, w.1, w.2, r, w.4)
            ],
        λ t. let w = (one_contradicts few others).0 t in (one_contradicts all others).1 (w.0, w.1, w.2, is.among w.1 w.3, w.4),
      ))

  -- rows that come to the others and stay tell, where rows come to them and others go
  pub history_across : (rows old gone come : List Row) → keeps_history h rows old ≡ true → keeps_history h rows (subtracted come gone) ≡ keeps_history h rows (exchanged old gone come)
  history_across rows old gone come held =
      let left : (x : Row) → In x (subtracted come gone) ↔ (In x come × (In x gone → ⊥)) = λ x. In-difference_of row_cmp row_total row_separates x come gone in
      ap not (same_tests (contradicts rows (subtracted come gone)) (contradicts rows (exchanged old gone come)) (
        λ t.
            let w = (one_contradicts rows (subtracted come gone)).0 t in
            let v = (left w.0).0 w.2 in
            (one_contradicts rows (exchanged old gone come)).1 (w.0, w.1, (In-exchanged old gone come w.0).1 (inr v.0, v.1), w.3, w.4),
        λ t.
            let w = (one_contradicts rows (exchanged old gone come)).0 t in
            let v = (In-exchanged old gone come w.0).0 w.2 in
            elim v.0 [
              | inl l ↦ absurd (never rows old held ((one_contradicts rows old).1 (w.0, w.1, l, w.3, w.4)))
              | inr r ↦ (one_contradicts rows (subtracted come gone)).1 (w.0, w.1, (left w.0).1 (r, v.1), w.3, w.4)
            ],
      ))

history_beside : (h : HistoryRule) (rows others come : List Row) → keeps_history h rows others ≡ true → keeps_history h rows (united others come) ≡ keeps_history h rows come
history_beside h rows others come held =
    ap not (any_united (λ x. list_any (contradict h x) rows) others come)
    ∙ none_before (list_any (λ x. list_any (contradict h x) rows) others) (list_any (λ x. list_any (contradict h x) rows) come) held

-- ---- fewer rows

-- where a key, fewer rows have it
pub key_fewer : (key : List ℕ) (rows all : List Row) → ((x : Row) → In x rows → In x all) → is_key key all ≡ true → is_key key rows ≡ true
key_fewer key rows all less held = (is_key-AgreeOnce key rows).1 (λ x y i j e. (is_key-AgreeOnce key all).0 held x y (less x i) (less y j) e)

pub opened_fewer : (commalist key : List ℕ) (rows all : List Row) → ((x : Row) → In x rows → In x all) → is_key key (unpacked commalist all) ≡ true → is_key key (unpacked commalist rows) ≡ true
opened_fewer commalist key rows all less held = key_fewer key (unpacked commalist rows) (unpacked commalist all) (unpack_within row_cmp row_total row_separates (map attribute commalist) rows all less) held

module _ (of : Relation) (is : IsRelation of) (rows : List Row) (up : Ascends row_cmp rows) (less : (x : Row) → In x rows → In x of.rows) where
  packed_fewer : (commalist : List ℕ) → IsList of.heading commalist → is_packed commalist of.rows ≡ true → is_packed commalist rows ≡ true
  packed_fewer commalist list held =
      let intervals = intervals_of_list of.heading commalist list in
      let shaped = relation_shaped of is commalist intervals in
      prepacked of.heading commalist intervals of.rows rows (Ascends-from_sorted row_cmp of.rows is.ascending, shaped) (up, λ x i. shaped x (less x i)) less held

  -- where some rows have gone it holds
  pub fewer_hold : (c : Constraint) (g : Heading) (others : List Row) → FitsHeadings of.heading g c → broken c of.rows others ≡ None → broken c rows others ≡ None
  fewer_hold (Key k) g others fits held = ap (λ b. first_failed ((b, E40) ∷ [])) (key_fewer k rows of.rows less (one_line (is_key k of.rows) E40 held))
  fewer_hold (Packed commalist) g others fits held = ap (λ b. first_failed ((b, E41) ∷ [])) (packed_fewer commalist fits (one_line (is_packed commalist of.rows) E41 held))
  fewer_hold (WhenUnpacked commalist k) g others fits held =
      ap (λ b. first_failed ((b, E42) ∷ [])) (opened_fewer commalist k rows of.rows less (one_line (is_key k (unpacked commalist of.rows)) E42 held))
  fewer_hold (UKey commalist k) g others fits held =
      let first = lines_hold (is_packed commalist of.rows) E41 ((is_key k (unpacked commalist of.rows), E42) ∷ (is_key k of.rows, E40) ∷ []) held in
      let second = lines_hold (is_key k (unpacked commalist of.rows)) E42 ((is_key k of.rows, E40) ∷ []) first.1 in
      let packed = packed_fewer commalist fits.0 first.0 in
      let opened = opened_fewer commalist k rows of.rows less second.0 in
      let keyed = key_fewer k rows of.rows less (one_line (is_key k of.rows) E40 second.1) in
      λ t. first_failed ((packed t, E41) ∷ (opened t, E42) ∷ (keyed t, E40) ∷ [])
  fewer_hold (Foreign commalist here name there) g others fits held =
      ap (λ b. first_failed ((b, E43) ∷ [])) (referenced_fewer commalist here there rows of.rows others less (one_line (is_referenced commalist here there of.rows others) E43 held))
  fewer_hold (History h) g others fits held = ap (λ b. first_failed ((b, E44) ∷ [])) (history_fewer h rows of.rows others less (one_line (keeps_history h of.rows others) E44 held))

-- ---- constraints of a relvar alone

pub exchanged_ascends : (of gone come : List Row) → Ascends row_cmp (exchanged of gone come)
exchanged_ascends of gone come = Ascends-difference_of row_cmp row_total row_separates (united of come) gone (Ascends-union_of row_cmp row_total row_separates of come)

module _ (of come : Relation) (gone : List Row) (is : IsRelation of) (is' : IsRelation come) (heading : come.heading ≡ of.heading) (positions : List ℕ) where
  abbrev all : List Row
  all = exchanged of.rows gone come.rows

  abbrev few : List Row
  few = exchanged (touched positions come.rows of.rows) gone come.rows

  abbrev told : IsTouched (part_of positions) (comes positions come.rows) of.rows all few
  told = rows_touched positions come.rows of.rows gone

  pub shaped : (commalist : List ℕ) → AreIntervals of.heading commalist → (x : Row) → In x all → IsShaped of.heading commalist x
  shaped commalist intervals x i = elim ((In-exchanged of.rows gone come.rows x).0 i).0 [
    | inl w ↦ relation_shaped of is commalist intervals x w
    | inr w ↦ shaped_under of.heading come (sym heading) is' commalist intervals x w
  ]

  -- the rows still are packed where the touched ones are
  packed_line : (commalist : List ℕ) → IsList of.heading commalist → AreOutside commalist positions → is_packed commalist of.rows ≡ true → is_packed commalist all ≡ is_packed commalist few
  packed_line commalist list outside held =
      let intervals = intervals_of_list of.heading commalist list in
      packed_of_touched of.heading commalist intervals positions (outside_false commalist positions outside) (comes positions come.rows) of.rows all few
      (Ascends-from_sorted row_cmp of.rows is.ascending, relation_shaped of is commalist intervals)
      (exchanged_ascends of.rows gone come.rows, shaped commalist intervals)
      (exchanged_ascends (touched positions come.rows of.rows) gone come.rows, λ x i. shaped commalist intervals x ((told.touched x).0 i).0)
      told held

  key_line : (key : List ℕ) → AreAmong key positions → is_key key of.rows ≡ true → is_key key all ≡ is_key key few
  key_line key lies held = key_of_touched positions (comes positions come.rows) of.rows all few told key (key_positions key positions lies) held

  opened_line : (commalist key : List ℕ) → AreAmong key positions → AreOutside commalist positions → is_key key (unpacked commalist of.rows) ≡ true → is_key key (unpacked commalist all) ≡ is_key key (unpacked commalist few)
  opened_line commalist key lies outside held =
      key_of_touched positions (comes positions come.rows) (unpacked commalist of.rows) (unpacked commalist all) (unpacked commalist few)
      (opened_touched positions (comes positions come.rows) of.rows all few told commalist (outside_apart commalist positions outside)) key (key_positions key positions lies) held

  -- the touched rows break what all break
  pub same_break : (c : Constraint) (g : Heading) (others : List Row) → FitsHeadings of.heading g c → Relate c positions → broken c of.rows others ≡ None → broken c few others ≡ broken c all others
  same_break (Key k) g others fits relate held = ap (λ b. first_failed ((b, E40) ∷ [])) (sym (key_line k relate (one_line (is_key k of.rows) E40 held)))
  same_break (Packed commalist) g others fits relate held = ap (λ b. first_failed ((b, E41) ∷ [])) (sym (packed_line commalist fits relate (one_line (is_packed commalist of.rows) E41 held)))
  same_break (WhenUnpacked commalist k) g others fits relate held =
      ap (λ b. first_failed ((b, E42) ∷ [])) (sym (opened_line commalist k relate.0 relate.1 (one_line (is_key k (unpacked commalist of.rows)) E42 held)))
  same_break (UKey commalist k) g others fits relate held =
      let first = lines_hold (is_packed commalist of.rows) E41 ((is_key k (unpacked commalist of.rows), E42) ∷ (is_key k of.rows, E40) ∷ []) held in
      let second = lines_hold (is_key k (unpacked commalist of.rows)) E42 ((is_key k of.rows, E40) ∷ []) first.1 in
      let packed = sym (packed_line commalist fits.0 relate.1 first.0) in
      let opened = sym (opened_line commalist k relate.0 relate.1 second.0) in
      let keyed = sym (key_line k relate.0 (one_line (is_key k of.rows) E40 second.1)) in
      λ t. first_failed ((packed t, E41) ∷ (opened t, E42) ∷ (keyed t, E40) ∷ [])
  same_break (Foreign commalist here name there) g others fits relate held = absurd relate
  same_break (History h) g others fits relate held = absurd relate

-- ---- constraints that name another relvar

-- the rows that come and do not go
came_alone : (of gone come : List Row) → IsOldOrFew of (exchanged of gone come) (subtracted come gone)
came_alone of gone come =
    let left : (x : Row) → In x (subtracted come gone) ↔ (In x come × (In x gone → ⊥)) = λ x. In-difference_of row_cmp row_total row_separates x come gone in
    record {
      among = λ x i. let w = (left x).0 i in (In-exchanged of gone come x).1 (inr w.0, w.1);
      each = λ x i. let w = (In-exchanged of gone come x).0 i in elim w.0 [ inl l ↦ inl l | inr r ↦ inr ((left x).1 (r, w.1)) ];
    }

-- the rows that come break what all break
pub came_break : (c : Constraint) (of gone come others : List Row) → Names c → broken c of others ≡ None → broken c (subtracted come gone) others ≡ broken c (exchanged of gone come) others
came_break (Key k) of gone come others names held = absurd names
came_break (Packed commalist) of gone come others names held = absurd names
came_break (WhenUnpacked commalist k) of gone come others names held = absurd names
came_break (UKey commalist k) of gone come others names held = absurd names
came_break (Foreign commalist here name there) of gone come others names held =
    let alone = came_alone of gone come in
    let same = referenced_came commalist here there of (exchanged of gone come) (subtracted come gone) others alone (one_line (is_referenced commalist here there of others) E43 held) in
    ap (λ b. first_failed ((b, E43) ∷ [])) (sym same)
came_break (History h) of gone come others names held =
    let alone = came_alone of gone come in
    let same = history_came h of (exchanged of gone come) (subtracted come gone) others alone (one_line (keeps_history h of others) E44 held) in
    ap (λ b. first_failed ((b, E44) ∷ [])) (sym same)

came_rows : (of gone come : List Row) → Ascends row_cmp come → length (subtracted come gone) ≤ length (exchanged of gone come)
came_rows of gone come up =
    within_length row_cmp row_total row_separates (subtracted come gone) (exchanged of gone come) (Ascends-difference_of row_cmp row_total row_separates come gone up)
    (exchanged_ascends of gone come) (came_alone of gone come).among

-- ---- where the named relvar grows

-- of a history the rows that come there tell
pub beside_break : (c : Constraint) (rows others come : List Row) → is_history c ≡ true → broken c rows others ≡ None → broken c rows come ≡ broken c rows (united others come)
beside_break (Key k) rows others come is held = absurd (true≢false (sym is))
beside_break (Packed commalist) rows others come is held = absurd (true≢false (sym is))
beside_break (WhenUnpacked commalist k) rows others come is held = absurd (true≢false (sym is))
beside_break (UKey commalist k) rows others come is held = absurd (true≢false (sym is))
beside_break (Foreign commalist here name there) rows others come is held = absurd (true≢false (sym is))
beside_break (History h) rows others come is held = ap (λ b. first_failed ((b, E44) ∷ [])) (sym (history_beside h rows others come (one_line (keeps_history h rows others) E44 held)))

-- and the others hold still
pub beside_holds : (c : Constraint) (rows others come : List Row) → is_history c ≡ false → broken c rows others ≡ None → broken c rows (united others come) ≡ None
beside_holds (Key k) rows others come other held = held
beside_holds (Packed commalist) rows others come other held = held
beside_holds (WhenUnpacked commalist k) rows others come other held = held
beside_holds (UKey commalist k) rows others come other held = held
beside_holds (Foreign commalist here name there) rows others come other held =
    ap (λ b. first_failed ((b, E43) ∷ [])) (referenced_more commalist here there rows others come (one_line (is_referenced commalist here there rows others) E43 held))
beside_holds (History h) rows others come other held = absurd (true≢false other)

-- ---- steps

pub cost_grows : (c : Constraint) (rows more others : List Row) → length rows ≤ length more → constraint_cost c rows others ≤ constraint_cost c more others
cost_grows (Key k) rows more others h = omega arith
cost_grows (Packed commalist) rows more others h = bound_grows (length rows) (length more) (length commalist) h
cost_grows (WhenUnpacked commalist k) rows more others h = bound_grows (length rows) (length more) (length commalist) h
cost_grows (UKey commalist k) rows more others h = let once = bound_grows (length rows) (length more) (length commalist) h in omega (arith, once)
cost_grows (Foreign [] here name there) rows more others h = omega arith
cost_grows (Foreign (i ∷ commalist) here name there) rows more others h = bound_grows (length rows + length others) (length more + length others) (length (i ∷ commalist)) (omega (arith, h))
cost_grows (History rule) rows more others h = omega arith

pub fewer_left : (most : ℕ) (rows gone : List Row) → length rows ≤ most → most < length (subtracted rows gone) → ⊥
fewer_left most rows gone few many = let less = length-filter_at_most (λ x. not (has row_cmp gone x)) rows in omega (arith, few, many, less)

-- ---- what a call answers

module _ (c : Constraint) (rows few all others : List Row) (same : rows ≡ few) where
  pub moved_answer : {X E : Type 0} (result : Result (Result X Code) E) → broken c few others ≡ broken c all others → IfOk result (λ answer. result_err answer ≡ broken c rows others)
      → IfOk result (λ answer. result_err answer ≡ broken c all others)
  moved_answer result e h = subst (λ o. IfOk result (λ answer. result_err answer ≡ o)) (ap (λ (rs : List Row). broken c rs others) same ∙ e) h

  pub moved_cost : (old new : ℕ) → length few ≤ length all → new ≤ old + constraint_cost c rows others → new ≤ old + constraint_cost c all others
  moved_cost old new less h =
      let grows = cost_grows c few all others less in
      let here : new ≤ old + constraint_cost c few others = subst (λ (rs : List Row). new ≤ old + constraint_cost c rs others) same h in
      omega (arith, grows, here)

pub all_few : (most : ℕ) (rows few all : List Row) → rows ≡ few → length few ≤ length all → length all ≤ most → length rows ≤ most
all_few most rows few all same less most_all = subst (λ (rs : List Row). length rs ≤ most) (sym same) (omega (arith, less, most_all))

pub few_enough : (most : ℕ) (part touched_rows come all : List Row) → part ≡ touched_rows → length (united touched_rows come) ≤ length all → length all ≤ most → length (united part come) ≤ most
few_enough most part rows come all same less few = all_few most (united part come) (united rows come) all (ap (λ (rs : List Row). united rs come) same) less few

pub beside_answer : {X E : Type 0} (c : Constraint) (rows come others : List Row) (result : Result (Result X Code) E) → broken c rows come ≡ broken c rows others
    → IfOk result (λ answer. result_err answer ≡ broken c rows come) → IfOk result (λ answer. result_err answer ≡ broken c rows others)
beside_answer c rows come others result e h = subst (λ o. IfOk result (λ answer. result_err answer ≡ o)) e h

zero_long : (n : ℕ) → (n == 0) ≡ true → 0 ≡ n
zero_long n e = grind (arith, nat_tests)

none_in : (come : List Row) → 0 ≡ length come → (x : Row) → In x come → ⊥
none_in [] e x i = i
none_in (y ∷ come) e x i = absurd (omega (arith, e))

-- where none come, nothing is broken
pub none_broken : (c : Constraint) (of : Relation) (gone come others rows : List Row) (g : Heading) (b : Bool) → IsRelation of → FitsHeadings of.heading g c → rows ≡ come → b ≡ (length rows == 0) → b ≡ true
    → broken c of.rows others ≡ None → None ≡ broken c (exchanged of.rows gone come) others
none_broken c of gone come others rows g b is fits same empty found held =
    let none : 0 ≡ length come = zero_long (length rows) (sym empty ∙ found) ∙ ap (λ (rs : List Row). length rs) same in
    let less : (x : Row) → In x (exchanged of.rows gone come) → In x of.rows = λ x i.
    elim ((In-exchanged of.rows gone come x).0 i).0 [ inl w ↦ w | inr w ↦ absurd (none_in come none x w) ] in
    sym (fewer_hold of is (exchanged of.rows gone come) (exchanged_ascends of.rows gone come) less c g others fits held)

-- where none goes, all are left
pub all_left : (rows : List Row) → rows ≡ subtracted rows []
all_left [] = refl
all_left (x ∷ rows) = ap (λ (rs : List Row). x ∷ rs) (all_left rows)

no_rows : (rows : List Row) → 0 ≡ length rows → [] ≡ rows
no_rows [] e = refl
no_rows (x ∷ rows) e = absurd (omega (arith, e))

pub none_gone : (all gone rows : List Row) (b : Bool) → rows ≡ gone → b ≡ (length rows == 0) → b ≡ true → all ≡ subtracted all gone
none_gone all gone rows b same empty found =
    let none : 0 ≡ length gone = zero_long (length rows) (sym empty ∙ found) ∙ ap (λ (rs : List Row). length rs) same in
    all_left all ∙ ap (subtracted all) (no_rows gone none)

-- where there were none and none goes, they are the rows that come
pub come_alone : (come part gone : List Row) → Ascends row_cmp come → part ≡ [] → gone ≡ [] → come ≡ exchanged part gone come
come_alone come part gone up none none' =
    sym (rows_of-ascending come up) ∙ (all_left (united [] come) ∙ sym (ap₂ (λ (ps gs : List Row). exchanged ps gs come) none none'))

-- what the rows that come answer, and in how many steps
module _ (c : Constraint) (of gone come others left : List Row) (same : left ≡ subtracted come gone) where
  pub came_answer : {X E : Type 0} (result : Result (Result X Code) E) → Names c → broken c of others ≡ None → IfOk result (λ answer. result_err answer ≡ broken c left others)
      → IfOk result (λ answer. result_err answer ≡ broken c (exchanged of gone come) others)
  came_answer result names held h = moved_answer c left (subtracted come gone) (exchanged of gone come) others same result (came_break c of gone come others names held) h

  pub came_cost : Ascends row_cmp come → (old new : ℕ) → new ≤ old + constraint_cost c left others → new ≤ old + constraint_cost c (exchanged of gone come) others
  came_cost up old new h = moved_cost c left (subtracted come gone) (exchanged of gone come) others same old new (came_rows of gone come up) h

pub in_outside : (n : ℕ) (commalist : List ℕ) (heading : Heading) (i : ℕ) → In i (outside_from n commalist heading) → i < n + length heading
in_outside n commalist [] i m = absurd m
in_outside n commalist (a ∷ heading) i m =
    let rest : List ℕ = outside_from (suc n) commalist heading in
    let more : In i rest → i < n + suc (length heading) = λ j. let l = in_outside (suc n) commalist heading i j in omega (arith, l) in
    elim (among commalist n) as (λ b. In i (unless b n rest) → i < n + suc (length heading)) [
      | true ↦ more
      | false ↦ λ j. elim j [ inl e ↦ omega (arith, e) | inr k ↦ more k ]
    ] m

pub outside_within : (commalist : List ℕ) (heading : Heading) (positions : List ℕ) → positions ≡ outside commalist heading → All (λ (i : ℕ). i < length heading) positions
outside_within commalist heading positions same =
    subst (All (λ (i : ℕ). i < length heading)) (sym same) (All-In (λ (i : ℕ). i < length heading) (outside commalist heading) (λ i m. let l = in_outside 0 commalist heading i m in omega (arith, l)))

pub In-subtracted : (a b : List Row) (x : Row) → In x (subtracted a b) ↔ (In x a × (In x b → ⊥))
In-subtracted a b x = In-difference_of row_cmp row_total row_separates x a b
