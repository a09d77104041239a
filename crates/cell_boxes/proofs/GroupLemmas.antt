-- Rows key by key.
use Rattle.std.proofs.Common.{◌≡◌, ◌≢◌, ℕ, suc, ◌+◌, ◌<◌, ◌≤◌, List, [], ◌∷◌, ◌++◌, length, ◌↔◌, ◌⊎◌, inl, inr, arith, sym, ap, subst, refl, ◌∙◌, Ordering, Option, Some}
use Rattle.std.specs.declared.cmp.Ordering.TheVariants.{Less, Equal}
use Rattle.std.specs.Cmp.{IsTotalOrder}
use Rattle.std.specs.Ordering.{nat_cmp, is_lt}
use Rattle.std.specs.List.{All, filter}
use Rattle.std.proofs.lemmas.Bool.{cases_lt, true≢false}
use Rattle.std.proofs.lemmas.Cmp.{tied_itself, nat_cmp_total}
use Rattle.std.proofs.lemmas.List.Elements.{All-append, All-same}
use Rattle.std.proofs.lemmas.List.{get_or_default}
use Rattle.cell_packing.specs.Covering.{Among}
use Rattle.cell_packing.specs.Live.{has_grid_point, box}
use Rattle.cell_packing.proofs.AmongLemmas.{among_append, among_map, among_filter, all_from_members}
use Rattle.cell_packing.proofs.Same.{same_sorted}
use Rattle.point_core.specs.declared.fault.Fault.{Fault}
use Rattle.point_core.specs.LeastFault.{IsLeast}
use Rattle.cell_sweep.specs.PackedRows.{HasRow}
use Rattle.cell_sweep.specs.Rows.{sides_of, AreRows}
use Rattle.cell_sweep.specs.declared.inward.IndexBox.{IndexBox}
use Rattle.cell_sweep.proofs.Sweeping.{ascending}
use Rattle.cell_sweep.proofs.Turns.{AreRows-filter, AreRows-push, AreRows-wider, least_then, least_more}
use Rattle.cell_boxes.specs.Common.{At, EndsBy}
use Rattle.cell_boxes.specs.Groups.{IsGroup, OfGroup}
use Rattle.cell_boxes.specs.Meetings.{boxes_in}
use Rattle.cell_boxes.specs.Rows.{Ascend, IsRow, PlainCellBox}
use Rattle.cell_boxes.proofs.RowLemmas.{row_among, among_row, one_row, row_sides, row_there, map_row}
use Rattle.cell_sweep.proofs.LabelRows.{map_length, some_of}

-- no row before n is of the key of one from n on
abbrev pub Split : {P : Type 0} → List (PlainCellBox P) → ℕ → Type 0
Split {P} rows n = (i j : ℕ) (x y : PlainCellBox P) → i < n → n ≤ j → IsRow rows i x → IsRow rows j y → x.0 ≡ y.0 → ⊥

-- V holds of the rows of some key that have the place, and these are before n
abbrev pub Done : {P : Type 0} → List (PlainCellBox P) → ℕ → (List ℕ → Type 0) → List ℕ → Type 0
Done {P} rows n V grid_point = (k : P) × (a : List ℕ) × IsGroup rows k grid_point a × (a ≢ []) × ((r : ℕ) → Among r a → r < n) × V a

abbrev pub no_rows : List ℕ
no_rows = []

-- ---- numbers

pub numbers_more : (first n : ℕ) (old new : List ℕ) → first ≤ n → new ≡ old ++ n ∷ [] → ((r : ℕ) → Among r old ↔ (first ≤ r) × (r < n)) → (r : ℕ) → Among r new ↔ (first ≤ r) × (r < n + 1)
numbers_more first n old new l e is r =
    let a = among_append r old (n ∷ []) in
    let b = is r in
    subst (λ xs. Among r xs ↔ (first ≤ r) × (r < n + 1)) (sym e) (
      λ h. elim (a.0 h) [
        | inl w ↦ let v = b.0 w in let p = v.0 in let q = v.1 in (p, omega arith)
        | inr w ↦ elim w [ inl v ↦ (omega arith, omega arith) | inr v ↦ absurd v ]
      ],
      λ h. let p = h.0 in let q = h.1 in elim (cases_lt r n) [ inl w ↦ a.1 (inl (b.1 (p, w))) | inr w ↦ a.1 (inr (inl (omega arith))) ],
    )

pub order_more : (first n : ℕ) (old new : List ℕ) → first ≤ n → new ≡ old ++ n ∷ [] → AreRows first n old → AreRows first (n + 1) new
order_more first n old new l e a = subst (AreRows first (n + 1)) (sym e) (AreRows-push first n old l a)

-- ---- boxes

-- a row has its own box
pub box_is : {P : Type 0} (rows : List (PlainCellBox P)) (r : ℕ) (x : PlainCellBox P) → IsRow rows r x → box (boxes_in rows) r ≡ x.1
box_is {P} rows r x h =
    let w = map_row (λ (z : PlainCellBox P). z.1) rows r x h in
    get_or_default (boxes_in rows) r [] x.1 w.0 ∙ w.1

module _ {P : Type 0} (bs : List IndexBox) (rows : List (PlainCellBox P)) (are : sides_of bs ≡ boxes_in rows) where
  boxes_count : length bs ≡ length rows
  boxes_count = sym (map_length (λ (x : IndexBox). x.sides.items) bs) ∙ ap length are ∙ map_length (λ (x : PlainCellBox P). x.1) rows

  pub rows_of_boxes : (first end : ℕ) (live : List ℕ) → end ≤ length rows → AreRows first end live → AreRows 0 (length bs) live
  rows_of_boxes first end live within a = subst (λ n. AreRows 0 n live) (sym boxes_count) (AreRows-wider 0 first end (length rows) live (omega arith) within a)

  pub sides_of_boxes : (k : ℕ) → All (λ (x : PlainCellBox P). length x.1 ≡ k) rows → All (λ (x : IndexBox). k ≤ length x.sides.items) bs
  sides_of_boxes k a = all_from_members (λ (x : IndexBox). k ≤ length x.sides.items) bs (λ b m.
      let y : List (ℕ × ℕ) = b.sides.items in
      let w = (among_map (λ (x : PlainCellBox P). x.1) y rows).0 (subst (Among y) are ((among_map (λ (x : IndexBox). x.sides.items) y bs).1 (b, m, refl))) in
      let x : PlainCellBox P = w.0 in
      let r = among_row rows x w.1 in
      let e : length y ≡ k = sym (ap length w.2) ∙ row_sides k rows a r.0 x r.1 in
      omega (arith, e))

-- ---- one key has one group at a place

pub group_one : {P : Type 0} (rows : List (PlainCellBox P)) (k : P) (grid_point a c : List ℕ) → IsGroup rows k grid_point a → IsGroup rows k grid_point c → a ≡ c
group_one rows k grid_point a c g h =
    same_sorted nat_cmp nat_cmp_total a c (ascending 0 (length rows) a g.order) (ascending 0 (length rows) c h.order)
    (λ r. (λ m. (h.members r).1 ((g.members r).0 m), λ m. (g.members r).1 ((h.members r).0 m)))

module _ {P : Type 0} (order : P → P → Ordering) (total : IsTotalOrder order) (separates : (a b : P) → order a b ≡ Equal → a ≡ b)
    (rows : List (PlainCellBox P)) (up : Ascend order rows) (first end : ℕ) (was : Split rows first) (some : first < end) (within : end ≤ length rows)
    (x0 : PlainCellBox P) (at : IsRow rows first x0)
    (same : (q : ℕ) (y : PlainCellBox P) → IsRow rows q y → first < q → q < end → order x0.0 y.0 ≡ Equal)
    (other : (y : PlainCellBox P) → IsRow rows end y → order x0.0 y.0 ≡ Equal → ⊥) where
  pub one_key : (q : ℕ) (y : PlainCellBox P) → IsRow rows q y → first ≤ q → q < end → y.0 ≡ x0.0
  one_key q y h l m = elim (cases_lt first q) [
    | inl w ↦ sym (separates x0.0 y.0 (same q y h w m))
    | inr w ↦
        let e : q ≡ first = omega arith in
        ap (λ (z : PlainCellBox P). z.0) (one_row rows first y x0 (subst (λ i. IsRow rows i y) e h) at)
  ]

  equal_from : (a b : P) → a ≡ b → order a b ≡ Equal
  equal_from a b e = subst (λ c. order a c ≡ Equal) e (tied_itself total a)

  less_not : (a b : P) → a ≡ b → order a b ≡ Less → ⊥
  less_not a b e l = true≢false (ap is_lt (sym l ∙ equal_from a b e))

  -- no row before the end is of the key of one from the end on
  pub split_more : Split rows end
  split_more i j x y l m h g e = elim (cases_lt i first) [
    | inl w ↦ was i j x y w (omega arith) h g e
    | inr w ↦
        let kx : x.0 ≡ x0.0 = one_key i x h w l in
        let there = row_there rows end (let q = g.0 in omega arith) in
        let z : PlainCellBox P = there.0 in
        let not : z.0 ≡ x0.0 → ⊥ = λ q. other z there.1 (equal_from x0.0 z.0 (sym q)) in
        elim (up i end x z (omega arith) h there.1) [
          | inl a ↦ elim (up end j z y m there.1 g) [
            | inl c ↦ less_not x.0 y.0 e (total.trans x.0 z.0 y.0 a c)
            | inr c ↦ not (separates z.0 y.0 c.0 ∙ sym e ∙ kx)
          ]
          | inr a ↦ not (sym (separates x.0 z.0 a.0) ∙ kx)
        ]
  ]

  pub only : (q : ℕ) (y : PlainCellBox P) → IsRow rows q y → y.0 ≡ x0.0 → (first ≤ q) × (q < end)
  only q y h e = (
    elim (cases_lt q first) [ inl w ↦ absurd (was q first y x0 w (omega arith) h at e) | inr w ↦ w ],
    elim (cases_lt q end) [ inl w ↦ w | inr w ↦ absurd (split_more first q x0 y some w at h (sym e)) ],
  )

  module _ (live : List ℕ) (ordered : AreRows first end live) (members : (r : ℕ) → Among r live ↔ (first ≤ r) × (r < end)) where
    -- the rows of the key that have the place
    abbrev pub here : List ℕ → List ℕ
    here grid_point = filter (λ r. has_grid_point (box (boxes_in rows) r) grid_point) live

    group_is : (grid_point : List ℕ) → IsGroup rows x0.0 grid_point (here grid_point)
    group_is grid_point = record {
      order = AreRows-wider 0 first end (length rows) (here grid_point) (omega arith) within (AreRows-filter (λ r. has_grid_point (box (boxes_in rows) r) grid_point) first end live ordered);
      members = λ r.
          let f = among_filter (λ r. has_grid_point (box (boxes_in rows) r) grid_point) r live in (
            λ h.
                let w = f.0 h in
                let v = (members r).0 w.0 in
                let u = v.1 in
                let t = row_there rows r (omega arith) in
                (t.0, t.1, one_key r t.0 t.1 v.0 v.1, subst (λ y. At y grid_point) (box_is rows r t.0 t.1) w.1),
            λ h. f.1 ((members r).1 (only r h.0 h.1 h.2), subst (λ y. At y grid_point) (sym (box_is rows r h.0 h.1)) h.3),
          );
    }

    -- what is done with the rows of one more key
    pub done_more : (V : List ℕ → Type 0) (grid_point : List ℕ) → (Done rows first V grid_point ⊎ (((here grid_point ≢ []) ⊎ (no_rows ≢ [])) × V (here grid_point))) ↔ Done rows end V grid_point
    done_more V grid_point = (
      λ h. elim h [
        | inl w ↦ (w.0, w.1, w.2, w.3, (λ r m. let l = w.4 r m in omega arith), w.5)
        | inr w ↦ (x0.0, here grid_point, group_is grid_point, elim w.0 [ inl n ↦ n | inr n ↦ absurd (n refl) ], (λ r m. ((members r).0 ((among_filter (λ r. has_grid_point (box (boxes_in rows) r) grid_point) r live).0 m).0).1), w.1)
      ],
      λ h.
          let s = some_of h.1 h.3 in
          let w = (h.2.members s.0).0 s.1 in
          elim (cases_lt s.0 first) [
            | inl l ↦ inl (h.0, h.1, h.2, h.3, (λ r m. let v = (h.2.members r).0 m in elim (cases_lt r first) [ inl q ↦ q | inr q ↦ absurd (was s.0 r w.0 v.0 l q w.1 v.1 (w.2 ∙ sym v.2)) ]), h.5)
            | inr l ↦
                let k : h.0 ≡ x0.0 = sym w.2 ∙ one_key s.0 w.0 w.1 l (h.4 s.0 s.1) in
                let g : IsGroup rows x0.0 grid_point h.1 = subst (λ k. IsGroup rows k grid_point h.1) k h.2 in
                let e : h.1 ≡ here grid_point = group_one rows x0.0 grid_point h.1 (here grid_point) g (group_is grid_point) in
                inr (inl (subst (λ a. a ≢ []) e h.3), subst V e h.5)
          ],
    )

-- ---- no key yet, and all keys

pub split_first : {P : Type 0} (rows : List (PlainCellBox P)) → Split rows 0
split_first rows i j x y l m h g e = omega arith

pub done_none : {P : Type 0} (rows : List (PlainCellBox P)) (V : List ℕ → Type 0) (grid_point : List ℕ) → Done rows 0 V grid_point → ⊥
done_none rows V grid_point h = let s = some_of h.1 h.3 in let l = h.4 s.0 s.1 in omega arith

rows_under : (a z : ℕ) (xs : List ℕ) → AreRows a z xs → (r : ℕ) → Among r xs → r < z
rows_under a z [] h r m = absurd m
rows_under a z (x ∷ xs) h r m = elim m [ inl e ↦ (let l = h.1 in omega arith) | inr w ↦ rows_under (suc x) z xs h.2 r w ]

pub done_all : {P : Type 0} (rows : List (PlainCellBox P)) (n : ℕ) → length rows ≤ n → (V : List ℕ → Type 0) (grid_point : List ℕ) → Done rows n V grid_point ↔ OfGroup V rows grid_point
done_all rows n all V grid_point = (
  λ h. (h.0, h.1, h.2, h.3, h.5),
  λ h. (h.0, h.1, h.2, h.3, (λ r m. let l = rows_under 0 (length rows) h.1 h.2.order r m in omega arith), h.4),
)

-- ---- rows and faults of one more key

pub rows_more : {R : Type 0} (old new parts : List (PlainCellBox R)) → new ≡ old ++ parts → (l : R) (grid_point : List ℕ) (D I E : Type 0) → (HasRow old l grid_point ↔ D) → (HasRow parts l grid_point ↔ I) → ((D ⊎ I) ↔ E) → HasRow new l grid_point ↔ E
rows_more {R} old new parts made l grid_point D I E d i e =
    subst (λ zs. HasRow zs l grid_point ↔ E) (sym made) (
      λ h. elim ((among_append (l, h.0) old parts).0 h.1) [ inl w ↦ e.0 (inl (d.0 (h.0, w, h.2))) | inr w ↦ e.0 (inr (i.0 (h.0, w, h.2))) ],
      λ h. elim (e.1 h) [
        | inl w ↦ let v = d.1 w in (v.0, (among_append (l, v.0) old parts).1 (inl v.1), v.2)
        | inr w ↦ let v = i.1 w in (v.0, (among_append (l, v.0) old parts).1 (inr v.1), v.2)
      ],
    )

pub lengths_more : {R : Type 0} (k : ℕ) (old new parts : List (PlainCellBox R)) → new ≡ old ++ parts → All (λ (x : PlainCellBox R). length x.1 ≡ k) old → All (λ (x : PlainCellBox R). length x.1 ≡ k) parts → All (λ (x : PlainCellBox R). length x.1 ≡ k) new
lengths_more {R} k old new parts made a b = All-same (λ (x : PlainCellBox R). length x.1 ≡ k) new (old ++ parts) made (All-append (λ (x : PlainCellBox R). length x.1 ≡ k) old parts a b)

pub ends_more : {P R : Type 0} (rows : List (PlainCellBox P)) (live : List ℕ) (end : ℕ) → end ≤ length rows → ((r : ℕ) → Among r live → r < end) → (old new parts : List (PlainCellBox R)) → new ≡ old ++ parts
    → ((z : PlainCellBox R) → Among z old → (x : PlainCellBox P) × Among x rows × EndsBy x.1 z.1)
    → ((z : PlainCellBox R) → Among z parts → (r : ℕ) × Among r live × EndsBy (box (boxes_in rows) r) z.1)
    → (z : PlainCellBox R) → Among z new → (x : PlainCellBox P) × Among x rows × EndsBy x.1 z.1
ends_more rows live end within below old new parts made a b z h = elim ((among_append z old parts).0 (subst (Among z) made h)) [
  | inl w ↦ a z w
  | inr w ↦
      let v = b z w in
      let l = below v.0 v.1 in
      let t = row_there rows v.0 (omega arith) in
      (t.0, row_among rows v.0 t.0 t.1, subst (λ y. EndsBy y z.1) (box_is rows v.0 t.0 t.1) v.2)
]

pub least_all : (D I E : Fault → Type 0) (o b c : Option Fault) → ((e : Fault) → (D e ⊎ I e) ↔ E e) → IsLeast (λ e. (o ≡ Some e) ⊎ D e) b → IsLeast (λ e. (b ≡ Some e) ⊎ I e) c → IsLeast (λ e. (o ≡ Some e) ⊎ E e) c
least_all D I E o b c is s r = least_more (λ e. D e ⊎ I e) E o c is (least_then D I o b c s r)

-- what goes together at each place, goes together at some place of k sides
pub somewhere_all : (k : ℕ) (A B C : List ℕ → Type 0) → ((grid_point : List ℕ) → (A grid_point ⊎ B grid_point) ↔ C grid_point)
    → (((grid_point : List ℕ) × (length grid_point ≡ k) × A grid_point) ⊎ ((grid_point : List ℕ) × (length grid_point ≡ k) × B grid_point)) ↔ ((grid_point : List ℕ) × (length grid_point ≡ k) × C grid_point)
somewhere_all k A B C is = (
  λ h. elim h [ inl w ↦ (w.0, w.1, (is w.0).0 (inl w.2)) | inr w ↦ (w.0, w.1, (is w.0).0 (inr w.2)) ],
  λ h. elim ((is h.0).1 h.2) [ inl w ↦ inl (h.0, h.1, w) | inr w ↦ inr (h.0, h.1, w) ],
)
