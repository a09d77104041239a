-- Where one attribute is unpacked, a constraint that holds is told by the rows that come and those beside them in it: rows that break it
-- together have points that are the same or follow one another, and where both are old ones they broke nothing before.
--     ArePaired      two rows of all that are beside one another are both old ones or both of the few
--     beside_paired      those that are found beside the rows that come are so, with these
--     beside_break      the few break what all break
use Rattle.std.proofs.Common.{◌≡◌, ◌⊎◌, inl, inr, ℕ, ℤ, pos, ◌+ℤ◌, ◌-ℤ◌, ◌≤ℤ◌, true, List, [], ◌∷◌, sym, ap, ◌∙◌, subst, arith}
use Rattle.std.specs.Bool.{IsTrue}
use Rattle.std.specs.Prelude.{int_le}
use Rattle.std.proofs.lemmas.Bool.{and_from, and_parts}
use Rattle.std.proofs.lemmas.Int.{ints}
use Rattle.base_core.proofs.IntLemmas.{le-int_le, int_le-le}
use Rattle.base_core.proofs.ListLemmas.{map-In}
use Rattle.base_core.proofs.SetLemmas.{In}
use Rattle.base_core.proofs.SetOperatorLemmas.{same_tests}
use Rattle.cell_packing.proofs.PackedBoxes.{among_in}
use Rattle.interval_core.specs.Members.{Span, at_point, members}
use Rattle.interval_core.proofs.MembersLemmas.{In-members}
use Rattle.value_core.specs.Attributes.{value_at, span_of, put_span}
use Rattle.value_core.specs.Order.{row_total, row_separates}
use Rattle.value_core.specs.RowPacking.{attribute, unpacked}
use Rattle.value_core.specs.Values.{Row, Heading, row_cmp}
use Rattle.relation_core.specs.Agreement.{part_of}
use Rattle.meaning_core.specs.WellMade.{AreAmong}
use Rattle.u_set.specs.Apart.{span_in}
use Rattle.u_set.specs.Boxes.{AreIntervals, others}
use Rattle.u_set.proofs.ImageLemmas.{In-unpack1}
use Rattle.u_row.specs.Kept.{inner}
use Rattle.u_constraints.specs.Beside.{are_beside, AreBeside}
use Rattle.u_constraints.specs.Constraints.{is_key, is_packed}
use Rattle.u_constraints.specs.Growth.{exchanged}
use Rattle.u_constraints.proofs.AgreementLemmas.{at, no_value, same_of}
use Rattle.u_constraints.proofs.GrownKeyLemmas.{In-exchanged, rows_keep}
use Rattle.u_constraints.proofs.GrownPackedLemmas.{IsSet, label_part, prepacked}
use Rattle.u_constraints.proofs.GrowthLemmas.{key_positions, outside_false, outside_apart, key_fewer, opened_fewer}
use Rattle.u_constraints.proofs.KeyLemmas.{AgreeOnce, is_key-AgreeOnce}
use Rattle.u_constraints.proofs.PartedKeyLemmas.{point_there, spans_agree}
use Rattle.u_constraints.proofs.RunPairLemmas.{HasPoint, AreClear, packed_clear, clear_packed}
use Rattle.u_constraints.proofs.TellingLemmas.{AreOutside}

-- ---- intervals beside one another

pub beside_from : (i j : Span) → i.0 ≤ℤ (j.1 +ℤ pos 1) → j.0 ≤ℤ (i.1 +ℤ pos 1) → IsTrue (are_beside i j)
beside_from i j a b = and_from (int_le i.0 (j.1 +ℤ pos 1)) (int_le j.0 (i.1 +ℤ pos 1)) (le-int_le i.0 (j.1 +ℤ pos 1) a) (le-int_le j.0 (i.1 +ℤ pos 1) b)

pub beside_parts : (i j : Span) → IsTrue (are_beside i j) → (i.0 ≤ℤ (j.1 +ℤ pos 1)) × (j.0 ≤ℤ (i.1 +ℤ pos 1))
beside_parts i j t =
    let w = and_parts (int_le i.0 (j.1 +ℤ pos 1)) (int_le j.0 (i.1 +ℤ pos 1)) t in
    (int_le-le i.0 (j.1 +ℤ pos 1) w.0, int_le-le j.0 (i.1 +ℤ pos 1) w.1)

turned : (i j : Span) → IsTrue (are_beside i j) → IsTrue (are_beside j i)
turned i j t = let w = beside_parts i j t in beside_from j i w.1 w.0

before_beside : (i j : Span) → i.0 ≤ℤ i.1 → HasPoint j (i.0 -ℤ pos 1) → IsTrue (are_beside i j)
before_beside i j l h =
    let a = h.0 in
    let b = h.1 in
    beside_from i j (omega (arith, ints)) (omega (arith, ints))

after_beside : (i j : Span) → i.0 ≤ℤ i.1 → HasPoint j (i.1 +ℤ pos 1) → IsTrue (are_beside i j)
after_beside i j l h =
    let a = h.0 in
    let b = h.1 in
    beside_from i j (omega (arith, ints)) (omega (arith, ints))

point_beside : (i j : Span) (p : ℤ) → HasPoint i p → HasPoint j p → IsTrue (are_beside i j)
point_beside i j p h g =
    let a = h.0 in
    let b = h.1 in
    let c = g.0 in
    let d = g.1 in
    beside_from i j (omega (arith, ints)) (omega (arith, ints))

same_beside : (i j : Span) → i ≡ j → i.0 ≤ℤ i.1 → IsTrue (are_beside i j)
same_beside i j e l = subst (λ (z : Span). IsTrue (are_beside i z)) e (beside_from i i (omega (arith, ints)) (omega (arith, ints)))

-- ---- pairs of rows

-- two rows of all with the same values at the positions and intervals beside one another are both old ones or both of the few
pub record ArePaired (positions : List ℕ) (k : ℕ) (old all few : List Row) : Type 0 where
  pub among : (x : Row) → In x few → In x all
  pub pairs : (x y : Row) → In x all → In y all → part_of positions x ≡ part_of positions y → IsTrue (are_beside (span_in k x) (span_in k y)) → (In x old × In y old) ⊎ (In x few × In y few)

module _ (positions : List ℕ) (k : ℕ) (of come some : List Row) (found : AreBeside positions k come of some) (gone : List Row) where
  came : (x : Row) → In x come → (In x gone → ⊥) → In x (exchanged some gone come)
  came x i stays = (In-exchanged some gone come x).1 (inr i, stays)

  kept : (x y : Row) → In x of → (In x gone → ⊥) → In y come → part_of positions x ≡ part_of positions y → IsTrue (are_beside (span_in k x) (span_in k y)) → In x (exchanged some gone come)
  kept x y i stays j e near =
      (In-exchanged some gone come x).1 (inl ((among_in x some).0 (found.each x y ((among_in x of).1 i) ((among_in y come).1 j) e near)), stays)

  pub beside_paired : ArePaired positions k of (exchanged of gone come) (exchanged some gone come)
  beside_paired = record {
    among = λ x i.
        let w = (In-exchanged some gone come x).0 i in
        (In-exchanged of gone come x).1 (elim w.0 [ inl l ↦ inl ((among_in x of).0 (found.within x ((among_in x some).1 l))) | inr r ↦ inr r ], w.1);
    pairs = λ x y i j e near.
        let u = (In-exchanged of gone come x).0 i in
        let v = (In-exchanged of gone come y).0 j in
        elim u.0 [
          | inl a ↦ elim v.0 [
            | inl b ↦ inl (a, b)
            | inr b ↦ inr (kept x y a u.1 b e near, came y b v.1)
          ]
          | inr a ↦ elim v.0 [
            | inl b ↦ inr (came x a u.1, kept y x b v.1 a (sym e) (turned (span_in k x) (span_in k y) near))
            | inr b ↦ inr (came x a u.1, came y b v.1)
          ]
        ];
  }

-- ---- the lines

module _ (heading : Heading) (k : ℕ) (intervals : AreIntervals heading (k ∷ [])) (positions : List ℕ) (outside : AreOutside (k ∷ []) positions) (old all few : List Row) (paired : ArePaired positions k old all few)
    (set : IsSet heading (k ∷ []) all) (ordered : (x : Row) → In x all → (span_in k x).0 ≤ℤ (span_in k x).1) where
  abbrev commalist : List ℕ
  commalist = k ∷ []

  -- what holds of the old ones and of the few holds of any two rows
  each_pair : (P : Row → Row → Type 0) → ((x y : Row) → In x old → In y old → P x y) → ((x y : Row) → In x few → In y few → P x y)
      → (x y : Row) → In x all → In y all → part_of positions x ≡ part_of positions y → IsTrue (are_beside (span_in k x) (span_in k y)) → P x y
  each_pair P olds fews x y i j e near = elim (paired.pairs x y i j e near) [
    | inl w ↦ olds x y w.0 w.1
    | inr w ↦ fews x y w.0 w.1
  ]

  same_parts : (x y : Row) → others commalist x ≡ others commalist y → part_of positions x ≡ part_of positions y
  same_parts x y e =
      let own = label_part heading commalist intervals positions (outside_false commalist positions outside) (λ r. true) in
      sym (own x) ∙ ap (part_of (inner commalist positions)) e ∙ own y

  all_clear : AreClear k old → AreClear k few → AreClear k all
  all_clear olds fews x y i j e =
      let i' : Span = span_in k x in
      let j' : Span = span_in k y in (
        λ h. each_pair (λ a b. others commalist a ≡ others commalist b → HasPoint (span_in k b) ((span_in k a).0 -ℤ pos 1) → ⊥)
            (λ a b m n q. (olds a b m n q).0) (λ a b m n q. (fews a b m n q).0) x y i j (same_parts x y e) (before_beside i' j' (ordered x i) h) e h,
        λ h. each_pair (λ a b. others commalist a ≡ others commalist b → HasPoint (span_in k b) ((span_in k a).1 +ℤ pos 1) → ⊥)
            (λ a b m n q. (olds a b m n q).1) (λ a b m n q. (fews a b m n q).1) x y i j (same_parts x y e) (after_beside i' j' (ordered x i) h) e h,
      )

  pub packed_beside : IsSet heading commalist old → IsSet heading commalist few → is_packed commalist old ≡ true → is_packed commalist all ≡ is_packed commalist few
  packed_beside so sf held = same_tests _ _ (
    prepacked heading commalist intervals all few set sf paired.among,
    λ t. clear_packed k heading intervals all set ordered (all_clear (packed_clear k heading intervals old so held) (packed_clear k heading intervals few sf t)),
  )

  module _ (key : List ℕ) (within : AreAmong key positions) (lies : AreAmong key commalist) where
    parts_agree : (x y : Row) → part_of key x ≡ part_of key y → part_of positions x ≡ part_of positions y
    parts_agree x y e = map-In (at x) (at y) positions (λ i m. same_of (at x) (at y) no_value key e i (key_positions key positions within i m))

    pub key_beside : is_key key old ≡ true → is_key key all ≡ is_key key few
    key_beside held = same_tests _ _ (
      key_fewer key few all paired.among,
      λ t. (is_key-AgreeOnce key all).1 (λ x y i j e.
          each_pair (λ a b. part_of key a ≡ part_of key b → a ≡ b) ((is_key-AgreeOnce key old).0 held) ((is_key-AgreeOnce key few).0 t)
          x y i j (parts_agree x y e) (same_beside (span_in k x) (span_in k y) (spans_agree heading k key lies x y e) (ordered x i)) e),
    )

    stays : (x : Row) (p : ℤ) → part_of positions (put_span x k (at_point p)) ≡ part_of positions x
    stays x p = (rows_keep commalist positions (outside_apart commalist positions outside)).0 x (at_point p)

    -- a row that is opened at a point to another one
    abbrev OpenedAt : Row → ℤ → Row → Type 0
    OpenedAt u p x = In p (members (span_in k u)) × (x ≡ put_span u k (at_point p))

    opened_in : (rows : List Row) (u : Row) (p : ℤ) (x : Row) → In u rows → OpenedAt u p x → In x (unpacked commalist rows)
    opened_in rows u p x i w = (In-unpack1 row_cmp row_total row_separates (attribute k) rows x).1 (u, p, i, w.0, w.1)

    opened_once : AgreeOnce key (unpacked commalist old) → AgreeOnce key (unpacked commalist few) → AgreeOnce key (unpacked commalist all)
    opened_once olds fews x y i j e =
        let u = (In-unpack1 row_cmp row_total row_separates (attribute k) all x).0 i in
        let v = (In-unpack1 row_cmp row_total row_separates (attribute k) all y).0 j in
        let parts : part_of positions u.0 ≡ part_of positions v.0 =
        sym (stays u.0 u.1) ∙ ap (part_of positions) (sym u.4) ∙ parts_agree x y e ∙ ap (part_of positions) v.4 ∙ stays v.0 v.1 in
        let spans : at_point u.1 ≡ at_point v.1 =
        sym (point_there heading k u.0 (set.1 u.0 u.2) u.1) ∙ ap (λ (r : Row). span_of (value_at r k)) (sym u.4) ∙ spans_agree heading k key lies x y e
        ∙ ap (λ (r : Row). span_of (value_at r k)) v.4 ∙ point_there heading k v.0 (set.1 v.0 v.2) v.1 in
        let point : u.1 ≡ v.1 = ap (λ (s : Span). s.0) spans in
        let near = point_beside (span_in k u.0) (span_in k v.0) u.1 ((In-members (span_in k u.0) u.1).0 u.3) (subst (λ p. HasPoint (span_in k v.0) p) (sym point) ((In-members (span_in k v.0) v.1).0 v.3)) in
        each_pair (λ a b. OpenedAt a u.1 x → OpenedAt b v.1 y → x ≡ y)
        (λ a b m n s t. olds x y (opened_in old a u.1 x m s) (opened_in old b v.1 y n t) e)
        (λ a b m n s t. fews x y (opened_in few a u.1 x m s) (opened_in few b v.1 y n t) e)
        u.0 v.0 u.2 v.2 parts near (u.3, u.4) (v.3, v.4)

    pub opened_beside : is_key key (unpacked commalist old) ≡ true → is_key key (unpacked commalist all) ≡ is_key key (unpacked commalist few)
    opened_beside held = same_tests _ _ (
      opened_fewer commalist key few all paired.among,
      λ t. (is_key-AgreeOnce key (unpacked commalist all)).1 (opened_once ((is_key-AgreeOnce key (unpacked commalist old)).0 held) ((is_key-AgreeOnce key (unpacked commalist few)).0 t)),
    )
