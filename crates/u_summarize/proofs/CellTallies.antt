-- What a rule gives of the marked rows of a key is what it gives of a group.
--     picked      the marked rows stand for the labels of the group
--     tallied_places, tallied_faults      what it gives at places of cells
--     tallied_ends      where that ends
use Rattle.std.proofs.Common.{◌≡◌, ◌≢◌, ◌↔◌, ◌⊎◌, inl, inr, ℕ, zero, suc, ◌<◌, ◌≤◌, Bool, true, false, not, ◌&&◌, List, [], ◌∷◌, map, filter, length, get_or, Result, Ok, Err, Option, Some, None, arith, refl, sym, ap, ◌∙◌, subst}
use Rattle.std.specs.List.{All, list_any}
use Rattle.std.specs.Ordering.{eq_by_cmp}
use Rattle.std.proofs.lemmas.Bool.{cases_lt, and_parts, and_from, true≢false}
use Rattle.std.proofs.lemmas.List.{length-map, get_or_default}
use Rattle.base_core.proofs.MemberLemmas.{eq_by_cmp-≡}
use Rattle.value_core.specs.Order.{row_total, row_separates}
use Rattle.value_core.specs.Values.{Row, row_cmp}
use Rattle.relation_core.specs.Agreement.{part_of}
use Rattle.cell_packing.specs.Covering.{Among}
use Rattle.cell_packing.specs.Live.{has_grid_point}
use Rattle.cell_packing.proofs.AmongLemmas.{among_filter, all_from_members}
use Rattle.cell_sweep.proofs.Turns.{AreRows-filter, least_iff}
use Rattle.point_core.specs.LeastFault.{IsLeast}
use Rattle.point_core.specs.declared.fault.Fault.{Fault}
use Rattle.cell_boxes.specs.Answers.{PlainKeyedCellBox}
use Rattle.cell_boxes.specs.Common.{At, EndsBy}
use Rattle.cell_boxes.specs.Keys.{ArePaired}
use Rattle.cell_boxes.specs.Rows.{PlainCellBox}
use Rattle.cell_boxes.specs.Tallies.{IsIn, AreFlagged, OfFlagged, IsTallied, IsTallyFault}
use Rattle.cell_boxes.specs.Totals.{of_some}
use Rattle.cell_sweep.proofs.LabelRows.{some_of}
use Rattle.cell_boxes.proofs.RowLemmas.{row_all, some_row, among_row, row_among, row_there}
use Rattle.cell_core.specs.Cells.{rows_from, keys_from}
use Rattle.cell_core.proofs.Calls.{are_rows}
use Rattle.u_summarize.specs.Asked.{HasCells, InCellGroup, HasCellFault}
use Rattle.u_summarize.specs.Groups.{AreFirsts, OfFirsts, labels_in, sides_in}
use Rattle.u_summarize.proofs.AskedLemmas.{get_in}
use Rattle.u_summarize.proofs.CellGroups.{least_alone, among_from}
use Rattle.u_summarize.specs.Counts.{weigh, any, image, counted_means}
use Rattle.u_summarize.specs.Entries.{row_at, AreKeyed}
use Rattle.u_summarize.specs.Picked.{ArePicked}
use Rattle.u_summarize.proofs.CountLemmas.{weigh_some, some_weigh, in_image, length_tests}
use Rattle.u_summarize.proofs.FirstLemmas.{none_any, any_none}

-- ---- tests of lists

-- the least number that passes a test, where one does
least_below : (t : ℕ → Bool) (n : ℕ) → ((s : ℕ) → s < n → t s ≡ true → ⊥) ⊎ ((r : ℕ) × (r < n) × (t r ≡ true) × ((s : ℕ) → s < r → t s ≡ true → ⊥))
least_below t zero = inl (λ s l e. absurd (omega (arith, l)))
least_below t (suc n) = elim (least_below t n) [
  | inl none ↦ elim (t n) as (λ b. t n ≡ b → ((s : ℕ) → s < suc n → t s ≡ true → ⊥) ⊎ ((r : ℕ) × (r < suc n) × (t r ≡ true) × ((s : ℕ) → s < r → t s ≡ true → ⊥))) [
    | true ↦ λ e. inr (n, omega arith, e, none)
    | false ↦ λ e. inl (λ s l h. elim (cases_lt s n) [
      | inl k ↦ none s k h
      | inr k ↦ let q : s ≡ n = omega (arith, l, k) in true≢false (sym h ∙ ap t q ∙ e)
    ])
  ] refl
  | inr w ↦ let l = w.1 in inr (w.0, omega (arith, l), w.2, w.3)
]

pub least_one : (t : ℕ → Bool) (n : ℕ) → t n ≡ true → (r : ℕ) × (r ≤ n) × (t r ≡ true) × ((s : ℕ) → s < r → t s ≡ true → ⊥)
least_one t n e = elim (least_below t n) [
  | inl none ↦ (n, omega arith, e, none)
  | inr w ↦ let l = w.1 in (w.0, omega (arith, l), w.2, w.3)
]

-- rows over cells have the labels of the rows
pub labels_from : {X P : Type 0} (i : ℕ) (xs : List (Row × X)) (sides : List (P × P × List (ℕ × ℕ))) → labels_in (keys_from i xs sides) ≡ labels_in xs
labels_from i [] sides = refl
labels_from i (x ∷ xs) sides = ap (λ (ls : List Row). x.0 ∷ ls) (labels_from (suc i) xs sides)

-- ---- rows by their keys

module _ (by : List ℕ) (rows : List (PlainCellBox Row)) (entries : List (PlainKeyedCellBox Row ℕ)) (are : AreKeyed by rows entries)
    (keys : List (PlainCellBox Row)) (numbers : List ℕ) (paired : ArePaired entries keys numbers) where
  abbrev none : PlainCellBox Row
  none = ([], [])

  abbrev labels : List Row
  labels = labels_in rows

  abbrev n : ℕ
  n = length rows

  label_at : (r : ℕ) → (row_at rows r).0 ≡ get_or labels r []
  label_at r = sym (get_in (λ (x : PlainCellBox Row). x.0) rows r none)

  side_at : (r : ℕ) → (row_at rows r).1 ≡ get_or (sides_in rows) r []
  side_at r = sym (get_in (λ (x : PlainCellBox Row). x.1) rows r none)

  many : length labels ≡ n
  many = length-map rows (λ (x : PlainCellBox Row). x.0)

  label_same : (r s : ℕ) → get_or labels r [] ≡ get_or labels s [] → (row_at rows r).0 ≡ (row_at rows s).0
  label_same r s e = label_at r ∙ e ∙ sym (label_at s)

  pub keys_sides : (k : ℕ) → All (λ (x : PlainCellBox Row). length x.1 ≡ k) rows → All (λ (x : PlainCellBox Row). length x.1 ≡ k) keys
  keys_sides k all = all_from_members (λ (x : PlainCellBox Row). length x.1 ≡ k) keys (λ x m.
      let w = among_row keys x m in
      let c = paired.count in
      let l = w.1.0 in
      let n = row_there numbers w.0 (omega (arith, c, l)) in
      let v = are.from (x.0, n.0, x.1) (paired.from w.0 x n.0 w.1 n.1) in
      ap length v.2 ∙ row_all (λ (y : PlainCellBox Row). length y.1 ≡ k) rows all v.0 (row_at rows v.0) (some_row rows v.0 none v.1))

  pub numbers_low : All (λ (m : ℕ). m < n) numbers
  numbers_low = all_from_members (λ (m : ℕ). m < n) numbers (λ m h.
      let i = among_row numbers m h in
      let c = paired.count in
      let l = i.1.0 in
      let x = row_there keys i.0 (omega (arith, c, l)) in
      are.within ((x.0).0, m, (x.0).1) (paired.from i.0 x.0 m x.1 i.1))

  module _ (key : Row) (place : List ℕ) where
    -- whether the row has the place and the part
    abbrev own : ℕ → Bool
    own r = has_grid_point (get_or (sides_in rows) r []) place && eq_by_cmp row_cmp (part_of by (get_or labels r [])) key

    own_parts : (r : ℕ) → own r ≡ true → HasCells rows place r × (part_of by (get_or labels r []) ≡ key)
    own_parts r e =
        let w = and_parts (has_grid_point (get_or (sides_in rows) r []) place) (eq_by_cmp row_cmp (part_of by (get_or labels r [])) key) e in
        (w.0, (eq_by_cmp-≡ row_cmp row_total row_separates (part_of by (get_or labels r [])) key).0 w.1)

    own_from : (r : ℕ) → HasCells rows place r → part_of by (get_or labels r []) ≡ key → own r ≡ true
    own_from r h e =
        and_from (has_grid_point (get_or (sides_in rows) r []) place) (eq_by_cmp row_cmp (part_of by (get_or labels r [])) key) h
        ((eq_by_cmp-≡ row_cmp row_total row_separates (part_of by (get_or labels r [])) key).1 e)

    abbrev alike : ℕ → ℕ → Bool
    alike r s = own s && eq_by_cmp row_cmp (get_or labels s []) (get_or labels r [])

    alike_parts : (r s : ℕ) → alike r s ≡ true → (own s ≡ true) × (get_or labels s [] ≡ get_or labels r [])
    alike_parts r s e =
        let w = and_parts (own s) (eq_by_cmp row_cmp (get_or labels s []) (get_or labels r [])) e in
        (w.0, (eq_by_cmp-≡ row_cmp row_total row_separates (get_or labels s []) (get_or labels r [])).0 w.1)

    alike_from : (r s : ℕ) → own s ≡ true → get_or labels s [] ≡ get_or labels r [] → alike r s ≡ true
    alike_from r s o e = and_from (own s) (eq_by_cmp row_cmp (get_or labels s []) (get_or labels r [])) o ((eq_by_cmp-≡ row_cmp row_total row_separates (get_or labels s []) (get_or labels r [])).1 e)

    abbrev first : ℕ → Bool
    first r = own r && not (list_any (alike r) (rows_from 0 r))

    abbrev group : List ℕ
    group = filter first (rows_from 0 n)

    -- there is a group, which may be empty
    group_there : AreFirsts by labels (HasCells rows place) key group
    group_there =
        let c = many in
        record {
          order = AreRows-filter first 0 (length labels) (rows_from 0 n) (are_rows 0 n (length labels) (omega (arith, c)));
          members = λ r.
              let f = among_filter first r (rows_from 0 n) in
              let m = among_from n 0 r in (
                λ h.
                    let w = f.0 h in
                    let l = (m.0 w.0).1 in
                    let p = and_parts (own r) (not (list_any (alike r) (rows_from 0 r))) w.1 in
                    let o = own_parts r p.0 in
                    ((omega (arith, l, c), o.0, λ s k hs e. none_any (alike r) (rows_from 0 r) p.1 s ((among_from r 0 s).1 (omega arith, omega (arith, k))) (alike_from r s (own_from s hs (ap (part_of by) e ∙ o.1)) e)), o.1),
                λ h.
                    let l = (h.0).0 in
                    let o = own_from r (h.0).1 h.1 in
                    f.1 (
                      m.1 (omega arith, omega (arith, l, c)),
                      and_from (own r) (not (list_any (alike r) (rows_from 0 r))) o (any_none (alike r) (rows_from 0 r) (λ s k e.
                          let a = alike_parts r s e in
                          let q = ((among_from r 0 s).0 k).1 in
                          (h.0).2 s (omega (arith, q)) (own_parts s a.0).0 a.1)),
                    ),
              );
        }

    -- of the rows that have the place and the part, one of each label is in the group
    module _ (a : List ℕ) (g : AreFirsts by labels (HasCells rows place) key a) where
      first_of : (r : ℕ) → r < n → own r ≡ true → (s : ℕ) × Among s a × (get_or labels s [] ≡ get_or labels r [])
      first_of r l o =
          let w = least_one (alike r) r (alike_from r r o refl) in
          let p = alike_parts r w.0 w.2 in
          let q = own_parts w.0 p.0 in
          let b = w.1 in
          let c = many in (
            w.0,
            (g.members w.0).1 ((omega (arith, b, l, c), q.0, λ s k h e. w.3 s k (alike_from r s (own_from s h (ap (part_of by) e ∙ q.1)) (e ∙ p.1))), q.1),
            p.1,
          )

      in_group : (r : ℕ) → Among r a → (r < n) × (own r ≡ true)
      in_group r m =
          let w = (g.members r).0 m in
          let l = (w.0).0 in
          let c = many in
          (omega (arith, l, c), own_from r (w.0).1 w.1)

      once_in : (r s : ℕ) → Among r a → Among s a → get_or labels r [] ≡ get_or labels s [] → r ≡ s
      once_in r s m k e =
          let u = (g.members r).0 m in
          let v = (g.members s).0 k in
          elim (cases_lt r s) [
            | inl l ↦ absurd ((v.0).2 r l (u.0).1 e)
            | inr l ↦ elim (cases_lt s r) [
              | inl j ↦ absurd ((u.0).2 s j (v.0).1 (sym e))
              | inr j ↦ omega (arith, l, j)
            ]
          ]

      module _ (f : List Bool) (flagged : AreFlagged keys key place f) where
        abbrev flags : List Bool
        flags = image n numbers f

        -- a marked number is of the label of a row that has the place and the part
        flagged_from : (m : ℕ) → IsIn flags m → (r : ℕ) × (r < n) × (own r ≡ true) × (get_or labels r [] ≡ get_or labels m []) × ((z : PlainKeyedCellBox Row ℕ) × Among z entries × (z.1 ≡ m))
        flagged_from m h =
            let w = (in_image n numbers f m).0 h in
            let x = (flagged.flags w.0).0 w.4 in
            let z : PlainKeyedCellBox Row ℕ = ((x.0).0, m, (x.0).1) in
            let i : Among z entries = paired.from w.0 x.0 m x.1 (w.2, w.3) in
            let o = are.from z i in (
              o.0,
              o.1,
              own_from o.0 (subst (λ y. At y place) (o.2 ∙ side_at o.0) x.3) (ap (part_of by) (sym (label_at o.0)) ∙ sym o.4 ∙ x.2),
              sym (label_at o.0) ∙ sym o.3 ∙ label_at m,
              (z, i, refl),
            )

        flagged_to : (r : ℕ) → r < n → own r ≡ true → (m : ℕ) × IsIn flags m × (get_or labels m [] ≡ get_or labels r [])
        flagged_to r l h =
            let p = own_parts r h in
            let z = are.to r l in
            let o = are.from z.0 z.1 in
            let key_is : (z.0).0 ≡ key = o.4 ∙ ap (part_of by) (sym o.3 ∙ z.3 ∙ label_at r) ∙ p.1 in
            let i = paired.to z.0 z.1 in
            let there : IsIn f i.0 = (flagged.flags i.0).1 (((z.0).0, (z.0).2), i.1, key_is, subst (λ y. At y place) (sym (z.2 ∙ side_at r)) p.0) in (
              (z.0).1,
              (in_image n numbers f (z.0).1).1 (i.0, are.within z.0 z.1, i.2.0, i.2.1, there),
              sym (label_at (z.0).1) ∙ z.3 ∙ label_at r,
            )

        pub picked : ArePicked by labels key a flags
        picked = record {
          order = g.order;
          part = λ r m. ((g.members r).0 m).1;
          apart = once_in;
          count = length_tests n 0 _ ∙ sym many;
          once = λ r s hr hs e.
              let u = (flagged_from r hr).4 in
              let v = (flagged_from s hs).4 in
              sym u.2 ∙ are.one u.0 v.0 u.1 v.1 (ap (λ k. (row_at rows k).0) u.2 ∙ label_same r s e ∙ ap (λ k. (row_at rows k).0) (sym v.2)) ∙ v.2;
          to = λ r m. let w = in_group r m in flagged_to r w.0 w.1;
          from = λ s h.
              let w = flagged_from s h in
              let q = first_of w.0 w.1 w.2 in
              (q.0, q.1, q.2 ∙ w.3);
        }

        -- some row is in the group just where some is marked
        pub some_weight : a ≢ [] → 0 < weigh any numbers f
        some_weight h =
            let r = some_of a h in
            let w = in_group r.0 r.1 in
            let m = flagged_to r.0 w.0 w.1 in
            let i = (in_image n numbers f m.0).0 m.1 in
            weigh_some any numbers f i.0 m.0 i.2 i.3 i.4 refl

        pub weight_some : 0 < weigh any numbers f → a ≢ []
        weight_some l e =
            let w = some_weigh any numbers f l in
            let c = paired.count in
            let b = w.2 in
            let low : w.1 < n = let x = row_there keys w.0 (omega (arith, b, c)) in are.within ((x.0).0, w.1, (x.0).1) (paired.from w.0 x.0 w.1 x.1 (b, w.3)) in
            let m = flagged_from w.1 ((in_image n numbers f w.1).1 (w.0, low, b, w.3, w.4)) in
            let q = first_of m.0 m.1 m.2 in
            subst (Among q.0) e q.1

    -- there are flags
    flags_there : (f : List Bool) × AreFlagged keys key place f
    flags_there = (
      map t keys,
      record {
        count = length-map keys t;
        flags = λ r. (
          λ h. elim (cases_lt r (length keys)) [
            | inl l ↦
                let e : t (row_at keys r) ≡ true = sym (get_map keys r l) ∙ h in
                let p = and_parts (eq_by_cmp row_cmp (row_at keys r).0 key) (has_grid_point (row_at keys r).1 place) e in
                (row_at keys r, some_row keys r none l, (eq_by_cmp-≡ row_cmp row_total row_separates (row_at keys r).0 key).0 p.0, p.1)
            | inr l ↦ absurd (true≢false (sym h ∙ past_map keys r (omega (arith, l))))
          ],
          λ h.
              let l = h.1.0 in
              let e : row_at keys r ≡ h.0 = get_or_default keys r none h.0 l ∙ h.1.1 in
              get_map keys r l ∙ ap t e ∙ and_from (eq_by_cmp row_cmp (h.0).0 key) (has_grid_point (h.0).1 place) ((eq_by_cmp-≡ row_cmp row_total row_separates (h.0).0 key).1 h.2) h.3,
        );
      },
    )
      where
        t : PlainCellBox Row → Bool
        t x = eq_by_cmp row_cmp x.0 key && has_grid_point x.1 place

        get_map : (xs : List (PlainCellBox Row)) (r : ℕ) → r < length xs → get_or (map t xs) r false ≡ t (get_or xs r ([], []))
        get_map [] r l = absurd (omega (arith, l))
        get_map (x ∷ xs) zero l = refl
        get_map (x ∷ xs) (suc r) l = get_map xs r (omega (arith, l))

        past_map : (xs : List (PlainCellBox Row)) (r : ℕ) → length xs ≤ r → get_or (map t xs) r false ≡ false
        past_map [] r l = refl
        past_map (x ∷ xs) zero l = absurd (omega (arith, l))
        past_map (x ∷ xs) (suc r) l = past_map xs r (omega (arith, l))

  -- ---- what the rule gives

  module _ {F : Type 0} (means : List ℕ → Result Row F) (given : Row → List Bool → Result Row F)
      (agrees : (key : Row) (a : List ℕ) (f : List Bool) → a ≢ [] → ArePicked by labels key a f → means a ≡ given key f) where
    abbrev T : Row → List Bool → Result (Option Row) F
    T k f = counted_means (given k) n numbers f

    ok_some : (w : ℕ) (r : Result Row F) (l : Row) → 0 < w → r ≡ Ok l → of_some w r ≡ Ok (Some l)
    ok_some zero r l p e = absurd (omega (arith, p))
    ok_some (suc w) r l p e = ap (of_some (suc w)) e

    err_some : (w : ℕ) (r : Result Row F) (d : F) → 0 < w → r ≡ Err d → of_some w r ≡ Err d
    err_some zero r d p e = absurd (omega (arith, p))
    err_some (suc w) r d p e = ap (of_some (suc w)) e

    some_ok : (w : ℕ) (r : Result Row F) (l : Row) → of_some w r ≡ Ok (Some l) → (0 < w) × (r ≡ Ok l)
    some_ok zero r l e = absurd (let q : None ≡ Some l = cc in cc)
    some_ok (suc w) (Ok m) l e = (omega arith, let q : Some m ≡ Some l = cc in let p : m ≡ l = cc in ap Ok p)
    some_ok (suc w) (Err d) l e = absurd cc

    some_err : (w : ℕ) (r : Result Row F) (d : F) → of_some w r ≡ Err d → (0 < w) × (r ≡ Err d)
    some_err zero r d e = absurd cc
    some_err (suc w) (Ok m) d e = absurd cc
    some_err (suc w) (Err c) d e = (omega arith, let p : c ≡ d = cc in ap Err p)

    of_groups : (W : Row → List Bool → Type 0) (V : List ℕ → Type 0)
        → ((k : Row) (a : List ℕ) (f : List Bool) → a ≢ [] → 0 < weigh any numbers f → means a ≡ given k (image n numbers f) → V a → W k f)
        → ((k : Row) (f : List Bool) → W k f → 0 < weigh any numbers f)
        → ((k : Row) (a : List ℕ) (f : List Bool) → means a ≡ given k (image n numbers f) → W k f → V a)
        → (place : List ℕ) → OfFlagged W keys place ↔ OfFirsts by labels (HasCells rows place) V
    of_groups W V to some from place = (
      λ h.
          let g = group_there h.0 place in
          let a = group h.0 place in
          let s = weight_some h.0 place a g h.1 h.2 (some h.0 h.1 h.3) in
          let e = agrees h.0 a (image n numbers h.1) s (picked h.0 place a g h.1 h.2) in
          (h.0, a, g, s, from h.0 a h.1 e h.3),
      λ h.
          let f = flags_there h.0 place in
          let e = agrees h.0 h.1 (image n numbers f.0) h.3 (picked h.0 place h.1 h.2 f.0 f.1) in
          (h.0, f.0, f.1, to h.0 h.1 f.0 h.3 (some_weight h.0 place h.1 h.2 f.0 f.1 h.3) e h.4),
    )

    pub tallied_places : (l : Row) (place : List ℕ) → IsTallied T keys l place ↔ InCellGroup means by rows l place
    tallied_places l place = of_groups (λ k f. T k f ≡ Ok (Some l)) (λ a. means a ≡ Ok l)
        (λ k a f s w e v. ok_some (weigh any numbers f) (given k (image n numbers f)) l w (sym e ∙ v))
        (λ k f v. (some_ok (weigh any numbers f) (given k (image n numbers f)) l v).0)
        (λ k a f e v. e ∙ (some_ok (weigh any numbers f) (given k (image n numbers f)) l v).1) place

    faults_at : (e : F) (place : List ℕ) → OfFlagged (λ k f. T k f ≡ Err e) keys place ↔ OfFirsts by labels (HasCells rows place) (λ a. means a ≡ Err e)
    faults_at d place = of_groups (λ k f. T k f ≡ Err d) (λ a. means a ≡ Err d)
        (λ k a f s w e v. err_some (weigh any numbers f) (given k (image n numbers f)) d w (sym e ∙ v))
        (λ k f v. (some_err (weigh any numbers f) (given k (image n numbers f)) d v).0)
        (λ k a f e v. e ∙ (some_err (weigh any numbers f) (given k (image n numbers f)) d v).1) place

    one_side : (place : List ℕ) → length place ≡ 1 → (j : ℕ) × (place ≡ j ∷ [])
    one_side [] e = absurd (omega (arith, e))
    one_side (j ∷ []) e = (j, refl)
    one_side (j ∷ k ∷ ks) e = absurd (omega (arith, e))

    pub tallied_faults : (e : F) → IsTallyFault T keys e ↔ HasCellFault 1 means by rows e
    tallied_faults e = (
      λ h. (h.0 ∷ [], refl, (faults_at e (h.0 ∷ [])).0 h.1),
      λ h. let j = one_side h.0 h.1 in (j.0, (faults_at e (j.0 ∷ [])).1 (subst (λ p. OfFirsts by labels (HasCells rows p) (λ a. means a ≡ Err e)) j.1 h.2)),
    )

    pub places_on : (H : Row → List ℕ → Type 0) → ((l : Row) (j : ℕ) → H l (j ∷ []) ↔ IsTallied T keys l (j ∷ [])) → (l : Row) (place : List ℕ) → length place ≡ 1 → H l place ↔ InCellGroup means by rows l place
    places_on H is l place e =
        let j = one_side place e in
        let a = is l j.0 in
        let b = tallied_places l (j.0 ∷ []) in
        subst (λ p. H l p ↔ InCellGroup means by rows l p) (sym j.1) (λ h. b.0 (a.0 h), λ h. a.1 (b.1 h))

  -- the least fault, by keys that are the same
  pub tallied_least : (means : List ℕ → Result Row Fault) (given : Row → List Bool → Result Row Fault)
      → ((key : Row) (a : List ℕ) (f : List Bool) → a ≢ [] → ArePicked by labels key a f → means a ≡ given key f)
      → (k : ℕ) → k ≡ 1 → (ks : List (PlainCellBox Row)) → ks ≡ keys → (o : Option Fault)
      → IsLeast (λ e. (None ≡ Some e) ⊎ IsTallyFault (λ key f. counted_means (given key) n numbers f) ks e) o → IsLeast (HasCellFault k means by rows) o
  tallied_least means given agrees k one ks same o h =
      let Q : Fault → Type 0 = IsTallyFault (λ key f. counted_means (given key) n numbers f) keys in
      let w : IsLeast Q o = subst (λ (xs : List (PlainCellBox Row)). IsLeast (IsTallyFault (λ key f. counted_means (given key) n numbers f) xs) o) same (least_alone _ None o refl h) in
      subst (λ j. IsLeast (HasCellFault j means by rows) o) (sym one) (least_iff Q (HasCellFault 1 means by rows) o (tallied_faults means given agrees) w)

  pub tallied_ends : (x z : PlainCellBox Row) → Among x keys → EndsBy x.1 z.1 → (y : PlainCellBox Row) × Among y rows × EndsBy y.1 z.1
  tallied_ends x z m e =
      let w = among_row keys x m in
      let c = paired.count in
      let l = w.1.0 in
      let k = row_there numbers w.0 (omega (arith, c, l)) in
      let v = are.from (x.0, k.0, x.1) (paired.from w.0 x k.0 w.1 k.1) in
      let y = some_row rows v.0 none v.1 in
      (row_at rows v.0, row_among rows v.0 (row_at rows v.0) y, subst (λ s. EndsBy s z.1) v.2 e)
