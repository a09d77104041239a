-- Constraints that the list alone tells on which the rows after an exchange are packed.
--     packed_told      that they are packed on it
--     key_told      a key under USING of all attributes
--     are_packed      rows that a list has packed are packed on it
use Rattle.std.proofs.Common.{◌≡◌, inl, inr, ℕ, ◌<◌, true, List, [], ◌∷◌, length, Option, Some, None, sym, ap, ◌∙◌, subst, nat_eq}
use Rattle.std.specs.Cmp.Lexicographic.{pointwise}
use Rattle.base_core.proofs.SetLemmas.{In, Ascends-from_sorted}
use Rattle.base_core.proofs.MemberLemmas.{list_all-In}
use Rattle.base_core.proofs.SetOperatorLemmas.{Ascends-union_of, Ascends-difference_of}
use Rattle.point_core.specs.declared.fault.Code.TheVariants.{E40, E41, E42}
use Rattle.value_core.specs.Attributes.{among}
use Rattle.value_core.specs.Order.{row_total, row_separates}
use Rattle.value_core.specs.RowPacking.{packed, unpacked}
use Rattle.value_core.specs.declared.constraint.Constraint.TheVariants.{Packed, UKey}
use Rattle.value_core.specs.Values.{Row, Relation, IsRelation, fits_heading, row_cmp}
use Rattle.relation_core.specs.Operators.{united}
use Rattle.relation_core.proofs.AgreementLemmas.{length_of_fit}
use Rattle.meaning_core.specs.Typing.{IsListIf}
use Rattle.meaning_core.proofs.MadeLemmas.{same_name}
use Rattle.meaning_core.proofs.IntervalLemmas.{intervals_of_list}
use Rattle.u_set.specs.Boxes.{AreIntervals}
use Rattle.u_set.proofs.RelationLemmas.{relation_shaped, shaped_under}
use Rattle.u_constraints.specs.Constraints.{broken, first_failed, is_packed}
use Rattle.u_constraints.specs.Growth.{exchanged}
use Rattle.u_constraints.proofs.GrownKeyLemmas.{In-exchanged}
use Rattle.u_constraints.proofs.KeyLemmas.{is_key-AgreeOnce}
use Rattle.u_constraints.proofs.PackedLemmas.{packed_already}
use Rattle.u_constraints.proofs.WholeKeyLemmas.{agree_once, whole_key}
use Rattle.change_rows.proofs.LabelLemmas.{IsSet, both_set}
use Rattle.change_rows.proofs.TwiceLemmas.{packed_twice}
use Rattle.assign_core.specs.Insertions.{united_in}
use Rattle.assign_core.specs.Turnovers.{ArePackedIf}

-- rows that a list has packed are packed on it
packed_again : (value operand : Relation) → IsRelation value → IsRelation operand → operand.heading ≡ value.heading → (commalist : List ℕ) → AreIntervals value.heading commalist → (rows : List Row)
    → rows ≡ united_in (Some commalist) value.rows operand.rows → packed commalist rows ≡ rows
packed_again value operand is is' heading commalist intervals rows e =
    let own : IsSet value.heading commalist intervals value.rows = (Ascends-from_sorted row_cmp value.rows is.ascending, relation_shaped value is commalist intervals) in
    let others : IsSet value.heading commalist intervals operand.rows = (Ascends-from_sorted row_cmp operand.rows is'.ascending, shaped_under value.heading operand (sym heading) is' commalist intervals) in
    ap (packed commalist) e ∙ packed_twice value.heading commalist intervals (united (unpacked commalist value.rows) (unpacked commalist operand.rows)) (both_set value.heading commalist intervals value.rows operand.rows own others) ∙ sym e

pub are_packed : (value operand : Relation) → IsRelation value → IsRelation operand → operand.heading ≡ value.heading → (l : Option (List ℕ)) → IsListIf value.heading l → (rows : List Row)
    → rows ≡ united_in l value.rows operand.rows → ArePackedIf l rows
are_packed value operand is is' heading None listed rows e = tt
are_packed value operand is is' heading (Some commalist) listed rows e = packed_again value operand is is' heading commalist (intervals_of_list value.heading commalist listed) rows e

module _ (value come : Relation) (gone : List Row) (is : IsRelation value) (is' : IsRelation come) (heading : come.heading ≡ value.heading) where
  abbrev rows : List Row
  rows = exchanged value.rows gone come.rows

  long : (x : Row) → In x rows → length x ≡ length value.heading
  long x i = elim ((In-exchanged value.rows gone come.rows x).0 i).0 [
    | inl j ↦ length_of_fit value.heading x ((list_all-In (fits_heading value.heading) value.rows).0 is.fitting x j)
    | inr j ↦ length_of_fit come.heading x ((list_all-In (fits_heading come.heading) come.rows).0 is'.fitting x j) ∙ ap length heading
  ]

  set : (commalist : List ℕ) (intervals : AreIntervals value.heading commalist) → IsSet value.heading commalist intervals rows
  set commalist intervals = (
    Ascends-difference_of row_cmp row_total row_separates (united value.rows come.rows) gone (Ascends-union_of row_cmp row_total row_separates value.rows come.rows),
    λ x i. elim ((In-exchanged value.rows gone come.rows x).0 i).0 [
      | inl j ↦ relation_shaped value is commalist intervals x j
      | inr j ↦ shaped_under value.heading come (sym heading) is' commalist intervals x j
    ],
  )

  packed_by : (own commalist : List ℕ) → pointwise nat_eq own commalist ≡ true → packed commalist rows ≡ rows → true ≡ is_packed own rows
  packed_by own commalist same are = packed_already own rows (subst (λ (l : List ℕ). packed l rows ≡ rows) (sym (same_name own commalist same)) are)

  pub packed_told : (own commalist : List ℕ) (others : List Row) → pointwise nat_eq own commalist ≡ true → packed commalist rows ≡ rows → broken (Packed own) rows others ≡ None
  packed_told own commalist others same are = let p = packed_by own commalist same are in λ t. first_failed ((sym p t, E41) ∷ [])

  pub key_told : (own commalist key : List ℕ) (others : List Row) → AreIntervals value.heading own → pointwise nat_eq own commalist ≡ true → packed commalist rows ≡ rows
      → ((i : ℕ) → i < length value.heading → among key i ≡ true) → broken (UKey own key) rows others ≡ None
  key_told own commalist key others intervals same are all =
      let p = packed_by own commalist same are in
      let s = set own intervals in
      let opened = whole_key value.heading own intervals rows s.0 s.1 key all in
      let plain = (is_key-AgreeOnce key rows).1 (agree_once (length value.heading) key all rows long) in
      λ t. first_failed ((sym p t, E41) ∷ (sym opened t, E42) ∷ (plain t, E40) ∷ [])
