-- What a rule is asked of rows that stand by their keys is what it is asked of the groups of the caller's rows.
--     firsts_of      the numbers that it is given at a place
--     cell_places, cell_faults      what it gives at places of cells
--     cell_ends      where that ends
--     can_ask      it can be called on them
use Rattle.std.proofs.Common.{◌≡◌, ◌≢◌, ◌↔◌, ◌⊎◌, inl, inr, ℕ, zero, suc, ◌+◌, ◌<◌, ◌≤◌, Bool, true, not, ◌&&◌, List, [], ◌∷◌, map, filter, length, get_or, Result, Ok, Err, Option, Some, None, arith, refl, sym, ap, ◌∙◌, subst}
use Rattle.std.specs.List.{All, list_any}
use Rattle.std.specs.Ordering.{nat_cmp, eq_by_cmp}
use Rattle.std.proofs.lemmas.Bool.{cases_lt, and_parts, and_from}
use Rattle.std.proofs.lemmas.Cmp.{nat_cmp_total}
use Rattle.std.proofs.lemmas.List.{length-map, get_or_default}
use Rattle.base_core.proofs.MemberLemmas.{eq_by_cmp-≡}
use Rattle.base_core.proofs.SetLemmas.{Ascends, Ascends-in_order, in_after}
use Rattle.base_core.proofs.OrderingLemmas.{nat_cmp-lt}
use Rattle.value_core.specs.Order.{row_total, row_separates}
use Rattle.value_core.specs.Values.{Row, row_cmp}
use Rattle.relation_core.specs.Agreement.{part_of}
use Rattle.point_core.specs.declared.fault.Fault.{Fault}
use Rattle.cell_packing.specs.Covering.{Among, Gives}
use Rattle.cell_packing.specs.Live.{has_grid_point}
use Rattle.cell_packing.proofs.AmongLemmas.{among_filter, all_from_members}
use Rattle.cell_packing.proofs.Same.{same_sorted}
use Rattle.point_core.specs.LeastFault.{IsLeast}
use Rattle.cell_sweep.specs.Rows.{AreRows}
use Rattle.cell_sweep.proofs.Sweeping.{ascending}
use Rattle.cell_sweep.proofs.Turns.{AreRows-filter, all_below, least_iff}
use Rattle.cell_boxes.specs.Answers.{PlainKeyedCellBox}
use Rattle.cell_boxes.specs.Common.{At, EndsBy}
use Rattle.cell_boxes.specs.Groups.{IsGroup, OfGroup, IsGrouped, IsGroupFault}
use Rattle.cell_boxes.specs.Keys.{ArePaired}
use Rattle.cell_boxes.specs.Rows.{IsRow, PlainCellBox}
use Rattle.cell_sweep.proofs.LabelRows.{some_of}
use Rattle.cell_boxes.proofs.RowLemmas.{some_row, among_row, row_among, row_there}
use Rattle.cell_core.specs.Cells.{rows_from}
use Rattle.cell_core.proofs.Calls.{are_rows}
use Rattle.cell_core.proofs.OrderLemmas.{nat_separates}
use Rattle.u_summarize.specs.Asked.{numbers_at, AreRanks, is_lower, first_ones, alone, asked, IsNumbered, HasCells, InCellGroup, HasCellFault}
use Rattle.u_summarize.specs.Groups.{AreFirsts, OfFirsts, labels_in, sides_in}
use Rattle.u_summarize.proofs.AskedLemmas.{get_in, in_among, from_places, to_places, placed}
use Rattle.u_summarize.proofs.FirstLemmas.{first_among}

-- ---- lists

order_rows : (n a : ℕ) (xs : List ℕ) → Ascends nat_cmp xs → ((x : ℕ) → Among x xs → (a ≤ x) × (x < n)) → AreRows a n xs
order_rows n a [] up h = tt
order_rows n a (x ∷ xs) up h =
    let w = h x (inl refl) in (
      w.0,
      w.1,
      order_rows n (suc x) xs up.1 (λ y m.
          let l : x < y = nat_cmp-lt x y (in_after nat_cmp nat_cmp_total nat_separates x y xs up.0 ((in_among y xs).1 m)) in
          (omega (arith, l), (h y (inr m)).1)),
    )

pub among_from : (n a r : ℕ) → Among r (rows_from a n) ↔ ((a ≤ r) × (r < a + n))
among_from zero a r = (λ h. absurd h, λ h. let k = h.0 in let l = h.1 in absurd (omega (arith, k, l)))
among_from (suc n) a r =
    let ih = among_from n (suc a) r in (
      λ h. elim h [
        | inl e ↦ (omega (arith, e), omega (arith, e))
        | inr m ↦ let v = ih.0 m in let k = v.0 in let l = v.1 in (omega (arith, k), omega (arith, l))
      ],
      λ h. let k = h.0 in let l = h.1 in elim (cases_lt a r) [ inl w ↦ inr (ih.1 (omega (arith, w), omega (arith, l))) | inr w ↦ inl (omega (arith, k, w)) ],
    )

-- ---- the first of each rank

first_some : (ranks b : List ℕ) → b ≢ [] → Ascends nat_cmp b → first_ones ranks b ≢ []
first_some ranks [] n up = absurd (n refl)
first_some ranks (x ∷ xs) n up = λ e.
    let m : Among x (first_ones ranks (x ∷ xs)) = (first_among ranks x (x ∷ xs)).1 (
      inl refl,
      λ s m l q. elim m [
        | inl i ↦ absurd (omega (arith, i, l))
        | inr w ↦ let k : x < s = nat_cmp-lt x s (in_after nat_cmp nat_cmp_total nat_separates x s xs up.0 ((in_among s xs).1 w)) in absurd (omega (arith, k, l))
      ],
    ) in
    subst (Among x) e m

-- one part has one group at a place
first_one : (by : List ℕ) (labels : List Row) (H : ℕ → Type 0) (key : Row) (a c : List ℕ) → AreFirsts by labels H key a → AreFirsts by labels H key c → a ≡ c
first_one by labels H key a c g h =
    same_sorted nat_cmp nat_cmp_total a c (ascending 0 (length labels) a g.order) (ascending 0 (length labels) c h.order)
    (λ r. (λ m. (h.members r).1 ((g.members r).0 m), λ m. (g.members r).1 ((h.members r).0 m)))

-- ---- answers of one label

abbrev ok_or : {X F : Type 0} → X → Result X F → X
ok_or d (Ok x) = x
ok_or d (Err e) = d

abbrev err_or : {X F : Type 0} → F → Result X F → F
err_or d (Ok x) = d
err_or d (Err e) = e

alone_gives : {F : Type 0} (r : Result Row F) (l : Row) → Gives (alone r) l ↔ (r ≡ Ok l)
alone_gives (Ok m) l = (λ h. elim h [ inl e ↦ ap Ok e | inr w ↦ absurd w ], λ e. inl (ap (ok_or m) e))
alone_gives (Err e) l = (λ h. absurd h, λ q. absurd cc)

alone_fault : {F : Type 0} (r : Result Row F) (e : F) → (alone r ≡ Err e) ↔ (r ≡ Err e)
alone_fault (Ok m) e = (λ q. absurd cc, λ q. absurd cc)
alone_fault (Err d) e = (λ q. ap Err (ap (err_or d) q), λ q. ap Err (ap (err_or d) q))

-- ---- rows by their keys

module _ (by : List ℕ) (rows : List (PlainCellBox Row)) (entries : List (PlainKeyedCellBox Row ℕ)) (are : (z : PlainKeyedCellBox Row ℕ) → Among z entries ↔ IsNumbered by rows z)
    (keys : List (PlainCellBox Row)) (numbers : List ℕ) (paired : ArePaired entries keys numbers) (ranks : List ℕ) (ranking : AreRanks (labels_in rows) ranks) where
  abbrev none : PlainCellBox Row
  none = ([], [])

  abbrev labels : List Row
  labels = labels_in rows

  abbrev at : ℕ → ℕ
  at i = get_or numbers i 0

  label_at : (r : ℕ) → (get_or rows r none).0 ≡ get_or labels r []
  label_at r = sym (get_in (λ (x : PlainCellBox Row). x.0) rows r none)

  side_at : (r : ℕ) → (get_or rows r none).1 ≡ get_or (sides_in rows) r []
  side_at r = sym (get_in (λ (x : PlainCellBox Row). x.1) rows r none)

  many : length labels ≡ length rows
  many = length-map rows (λ (x : PlainCellBox Row). x.0)

  -- the caller's numbers of the rows of a key that have a place
  numbered_at : (key : Row) (place a : List ℕ) → IsGroup keys key place a → (n : ℕ) → Among n (numbers_at numbers a) ↔ ((n < length rows) × (part_of by (get_or labels n []) ≡ key) × HasCells rows place n)
  numbered_at key place a g n = (
    λ h.
        let w = from_places numbers a n h in
        let x = (g.members w.0).0 w.1 in
        let c = paired.count in
        let l = x.1.0 in
        let b : w.0 < length numbers = omega (arith, c, l) in
        let here : IsRow numbers w.0 n = (b, get_or_default numbers w.0 n 0 b ∙ w.2) in
        let z = (are ((x.0).0, n, (x.0).1)).0 (paired.from w.0 x.0 n x.1 here) in
        (z.0, ap (part_of by) (sym (label_at n)) ∙ sym z.1 ∙ x.2, subst (λ y. At y place) (z.2 ∙ side_at n) x.3),
    λ h.
        let z : PlainKeyedCellBox Row ℕ = (part_of by (get_or rows n none).0, n, (get_or rows n none).1) in
        let m : Among z entries = (are z).1 (h.0, refl, refl) in
        let w = paired.to z m in
        let i : Among w.0 a = (g.members w.0).1 ((z.0, z.2), w.1, ap (part_of by) (label_at n) ∙ h.1, subst (λ y. At y place) (sym (side_at n)) h.2) in
        to_places numbers a n w.0 i (get_or_default numbers w.0 0 n w.2.0 ∙ w.2.1),
  )

  numbers_up : (a : List ℕ) → Ascends nat_cmp (numbers_at numbers a)
  numbers_up a = Ascends-in_order nat_cmp nat_cmp_total nat_separates (map at a)

  pub firsts_of : (key : Row) (place a : List ℕ) → IsGroup keys key place a → AreFirsts by labels (HasCells rows place) key (first_ones ranks (numbers_at numbers a))
  firsts_of key place a g =
      let b = numbers_at numbers a in
      let is = numbered_at key place a g in
      let count = many in
      record {
        order = AreRows-filter (λ r. not (list_any (is_lower ranks r) b)) 0 (length labels) b (order_rows (length labels) 0 b (numbers_up a) (λ n m. let l = ((is n).0 m).0 in (omega arith, omega (arith, l, count))));
        members = λ r. (
          λ h.
              let w = (first_among ranks r b).0 h in
              let v = (is r).0 w.0 in
              let l = v.0 in
              let long : r < length labels = omega (arith, l, count) in (
                (long, v.2, λ s k has e. w.1 s ((is s).1 (omega (arith, l, k), ap (part_of by) e ∙ v.1, has)) k ((ranking.alike s r (omega (arith, long, k)) long).1 e)),
                v.1,
              ),
          λ h.
              let l = (h.0).0 in
              (first_among ranks r b).1 ((is r).1 (omega (arith, l, count), h.1, (h.0).1), λ s m k e. (h.0).2 s k ((is s).0 m).2 ((ranking.alike s r (omega (arith, l, k)) l).0 e)),
        );
      }

  some_numbers : (a : List ℕ) → a ≢ [] → numbers_at numbers a ≢ []
  some_numbers a n = λ e.
      let w = some_of a n in
      subst (Among (at w.0)) e (to_places numbers a (at w.0) w.0 w.1 refl)

  some_firsts : (a : List ℕ) → a ≢ [] → first_ones ranks (numbers_at numbers a) ≢ []
  some_firsts a n = first_some ranks (numbers_at numbers a) (some_numbers a n) (numbers_up a)

  -- each key has a group at each place, which may be empty
  group_there : (key : Row) (place : List ℕ) → (a : List ℕ) × IsGroup keys key place a
  group_there key place = (
    filter t all,
    record {
      order = AreRows-filter t 0 (length keys) all (are_rows 0 (length keys) (length keys) (omega arith));
      members = λ r.
          let f = among_filter t r all in
          let m = among_from (length keys) 0 r in
          let q = eq_by_cmp-≡ row_cmp row_total row_separates (get_or keys r none).0 key in (
            λ h.
                let w = f.0 h in
                let l = (m.0 w.0).1 in
                let p = and_parts (eq_by_cmp row_cmp (get_or keys r none).0 key) (has_grid_point (get_or keys r none).1 place) w.1 in
                (get_or keys r none, some_row keys r none (omega (arith, l)), q.0 p.0, p.1),
            λ h.
                let l = h.1.0 in
                let e : get_or keys r none ≡ h.0 = get_or_default keys r none h.0 l ∙ h.1.1 in
                f.1 (
                  m.1 (omega arith, omega (arith, l)),
                  and_from (eq_by_cmp row_cmp (get_or keys r none).0 key) (has_grid_point (get_or keys r none).1 place) (q.1 (ap (λ (x : PlainCellBox Row). x.0) e ∙ h.2)) (subst (λ (x : PlainCellBox Row). has_grid_point x.1 place ≡ true) (sym e) h.3),
                ),
          );
    },
  )
    where
      all : List ℕ
      all = rows_from 0 (length keys)

      t : ℕ → Bool
      t i = eq_by_cmp row_cmp (get_or keys i none).0 key && has_grid_point (get_or keys i none).1 place

  of_groups : (W V : List ℕ → Type 0) → ((a : List ℕ) → a ≢ [] → W a ↔ V (first_ones ranks (numbers_at numbers a))) → (place : List ℕ) → OfGroup W keys place ↔ OfFirsts by labels (HasCells rows place) V
  of_groups W V same place = (
    λ h. (h.0, first_ones ranks (numbers_at numbers h.1), firsts_of h.0 place h.1 h.2, some_firsts h.1 h.3, (same h.1 h.3).0 h.4),
    λ h.
        let t = group_there h.0 place in
        let e : first_ones ranks (numbers_at numbers t.0) ≡ h.1 = first_one by labels (HasCells rows place) h.0 _ h.1 (firsts_of h.0 place t.0 t.1) h.2 in
        let n : t.0 ≢ [] = λ q. h.3 (sym e ∙ ap (λ a. first_ones ranks (numbers_at numbers a)) q) in
        (h.0, t.0, t.1, n, (same t.0 n).1 (subst V (sym e) h.4)),
  )

  asked_gives : {F : Type 0} (f : List ℕ → Result Row F) (l : Row) (a : List ℕ) → a ≢ [] → Gives (asked f ranks numbers a) l ↔ (f (first_ones ranks (numbers_at numbers a)) ≡ Ok l)
  asked_gives f l [] n = absurd (n refl)
  asked_gives f l (i ∷ is) n = alone_gives (f (first_ones ranks (numbers_at numbers (i ∷ is)))) l

  asked_fault : {F : Type 0} (f : List ℕ → Result Row F) (e : F) (a : List ℕ) → a ≢ [] → (asked f ranks numbers a ≡ Err e) ↔ (f (first_ones ranks (numbers_at numbers a)) ≡ Err e)
  asked_fault f e [] n = absurd (n refl)
  asked_fault f e (i ∷ is) n = alone_fault (f (first_ones ranks (numbers_at numbers (i ∷ is)))) e

  -- ---- what the rule gives

  pub cell_places : {F : Type 0} (f : List ℕ → Result Row F) (l : Row) (place : List ℕ) → IsGrouped (λ a b. asked f ranks numbers a) keys l place ↔ InCellGroup f by rows l place
  cell_places f l place = of_groups (λ a. Gives (asked f ranks numbers a) l) (λ a. f a ≡ Ok l) (asked_gives f l) place

  pub cell_faults : {F : Type 0} (k : ℕ) (f : List ℕ → Result Row F) (e : F) → IsGroupFault k (λ a b. asked f ranks numbers a) keys e ↔ HasCellFault k f by rows e
  cell_faults k f e = (
    λ h. (h.0, h.1, (of_groups (λ a. asked f ranks numbers a ≡ Err e) (λ a. f a ≡ Err e) (asked_fault f e) h.0).0 h.2),
    λ h. (h.0, h.1, (of_groups (λ a. asked f ranks numbers a ≡ Err e) (λ a. f a ≡ Err e) (asked_fault f e) h.0).1 h.2),
  )

  -- ---- and it can be called

  numbers_below : (i n : ℕ) → IsRow numbers i n → n < length rows
  numbers_below i n h =
      let c = paired.count in
      let l = h.0 in
      let x = row_there keys i (omega (arith, c, l)) in
      ((are ((x.0).0, n, (x.0).1)).0 (paired.from i x.0 n x.1 h)).0

  pub can_ask : (C : List ℕ → Type 0) → ((a : List ℕ) → a ≢ [] → AreRows 0 (length rows) a → C a) → (a : List ℕ) → AreRows 0 (length keys) a
      → (a ≢ [] → C (first_ones ranks (numbers_at numbers a))) × All (λ (i : ℕ). i < length numbers) a × All (λ (i : ℕ). i < length ranks) numbers
  can_ask C can a r =
      let c = paired.count in
      let inside : All (λ (i : ℕ). i < length numbers) a = subst (λ m. All (λ (i : ℕ). i < m) a) (sym c) (all_below (length keys) a r) in (
        λ n. can (first_ones ranks (numbers_at numbers a)) (some_firsts a n)
            (AreRows-filter (λ q. not (list_any (is_lower ranks q) (numbers_at numbers a))) 0 (length rows) (numbers_at numbers a) (order_rows (length rows) 0 (numbers_at numbers a) (numbers_up a) (λ m h.
            let w = from_places numbers a m h in
            (omega arith, numbers_below w.0 m (placed numbers a inside w.0 m w.1 w.2))))),
        inside,
        all_from_members (λ (i : ℕ). i < length ranks) numbers (λ n m. let w = among_row numbers n m in subst (λ k. n < k) (sym (ranking.count ∙ many)) (numbers_below w.0 n w.1)),
      )

  -- ---- what it gives ends by rows

  pub cell_ends : (x z : PlainCellBox Row) → Among x keys → EndsBy x.1 z.1 → (y : PlainCellBox Row) × Among y rows × EndsBy y.1 z.1
  cell_ends x z m e =
      let w = among_row keys x m in
      let c = paired.count in
      let l = w.1.0 in
      let n = row_there numbers w.0 (omega (arith, c, l)) in
      let v = (are (x.0, n.0, x.1)).0 (paired.from w.0 x n.0 w.1 n.1) in
      let y = some_row rows n.0 none v.0 in
      (get_or rows n.0 none, row_among rows n.0 (get_or rows n.0 none) y, subst (λ s. EndsBy s z.1) v.2 e)

-- where nothing was before
pub least_alone : (Q : Fault → Type 0) (a o : Option Fault) → a ≡ None → IsLeast (λ e. (a ≡ Some e) ⊎ Q e) o → IsLeast Q o
least_alone Q a o n h = least_iff (λ e. (a ≡ Some e) ⊎ Q e) Q o (λ e. (λ w. elim w [ inl q ↦ absurd (none_some e (sym n ∙ q)) | inr v ↦ v ], λ v. inr v)) h
  where
    none_some : (x : Fault) → None ≡ Some x → ⊥
    none_some x h = cc
