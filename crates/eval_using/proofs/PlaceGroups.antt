-- The rows of a group at a place, put at this place, are the unpacked rows with one part at the positions of the groups.
--     group      the rows at the place
--     group_same      they are the unpacked rows with the part of any of them
--     group_apart      and no row stands twice
--     group_of      each unpacked row is in a group
use Rattle.std.proofs.Common.{◌≡◌, inl, inr, ℕ, suc, ◌<◌, ◌≤◌, ℤ, List, [], ◌∷◌, map, filter, length, get_or, refl, sym, ap, ◌∙◌, subst, arith}
use Rattle.std.proofs.lemmas.List.{get_or-map, length-map}
use Rattle.base_core.proofs.MemberLemmas.{In-map, In-filter, eq_by_cmp-≡}
use Rattle.base_core.proofs.SetLemmas.{In, Ascends}
use Rattle.base_core.proofs.ListLemmas.{In-get_or}
use Rattle.interval_core.specs.Members.{Span, at_point}
use Rattle.cell_packing.specs.Boxed.{Boxed}
use Rattle.cell_packing.specs.Covering.{Among}
use Rattle.cell_packing.specs.Packed.{Has}
use Rattle.cell_packing.proofs.PackedBoxes.{among_in}
use Rattle.cell_sweep.specs.Rows.{AreRows}
use Rattle.value_core.specs.Order.{row_total, row_separates}
use Rattle.value_core.specs.RowPacking.{unpacked}
use Rattle.value_core.specs.Values.{Row, Heading, row_cmp}
use Rattle.scalar_core.specs.AtPlaces.{at_place}
use Rattle.relation_core.specs.Agreement.{part_of}
use Rattle.relation_core.specs.Groups.{rows_at, has_part}
use Rattle.u_set.specs.Boxes.{AreIntervals, IsShaped, others, spans_at, boxed, unboxed}
use Rattle.u_set.proofs.BoxLemmas.{unboxed-boxed}
use Rattle.u_set.proofs.BridgeLemmas.{unpacked_image}
use Rattle.u_row.specs.Kept.{inner}
use Rattle.u_row.proofs.LabelLemmas.{map_twice}
use Rattle.u_summarize.specs.Groups.{AreFirsts, labels_in, sides_in, HasPlace}
use Rattle.eval_using.specs.PlaceRows.{unpacked_grid_points, among_itself, at_place_spans, at_place_others, point_has}
use Rattle.eval_using.proofs.OrderLemmas.{AreApart, HaveSame}
use Rattle.eval_using.proofs.RowLemmas.{inner_part, whole_part, listed_part}
use Rattle.eval_using.proofs.FirstLemmas.{first_alike, firsts_there}
use Rattle.eval_using.proofs.SweptLemmas.{numbered, shaped_spans}

at_least : (b z : ℕ) (xs : List ℕ) (s : ℕ) → AreRows b z xs → In s xs → b ≤ s
at_least b z [] s h i = absurd i
at_least b z (x ∷ xs) s h i = elim i [
  | inl e ↦ let k = h.0 in omega (arith, e, k)
  | inr j ↦ let k = h.0 in let l = at_least (suc x) z xs s h.2 j in omega (arith, k, l)
]

module _ (from : Heading) (ls by : List ℕ) (intervals : AreIntervals from ls) (rows : List Row) (ascends : Ascends row_cmp rows) (shaped : (x : Row) → In x rows → IsShaped from ls x)
    (all_by : (p : ℕ) → In p ls → In p by) where
  abbrev pub boxes : List (Boxed Row)
  boxes = map (boxed ls) rows

  abbrev pub opened : List Row
  opened = unpacked ls rows

  abbrev pub labels : List Row
  labels = labels_in boxes

  abbrev pub keys : List ℕ
  keys = inner ls by

  abbrev row : ℕ → Row
  row r = get_or rows r []

  abbrev side : ℕ → List Span
  side r = get_or (sides_in boxes) r []

  labels_are : labels ≡ map (others ls) rows
  labels_are = map_twice (λ (x : Boxed Row). x.0) (boxed ls) rows

  count : length labels ≡ length rows
  count = ap length labels_are ∙ length-map rows (others ls)

  label_at : (r : ℕ) → r < length rows → get_or labels r [] ≡ others ls (row r)
  label_at r l = ap (λ (zs : List Row). get_or zs r []) labels_are ∙ get_or-map (others ls) rows r [] [] l

  side_at : (r : ℕ) → r < length rows → side r ≡ spans_at ls (row r)
  side_at r l = ap (λ (zs : List (List Span)). get_or zs r []) (map_twice (λ (x : Boxed Row). x.1) (boxed ls) rows) ∙ get_or-map (spans_at ls) rows r [] [] l

  opened_shaped : (x : Row) → In x opened → IsShaped from ls x
  opened_shaped x m = (unpacked_image from ls intervals rows ascends shaped).shaped x m

  -- rows of one box are one
  one_box : (x y : Row) → In x opened → In y opened → others ls x ≡ others ls y → spans_at ls x ≡ spans_at ls y → x ≡ y
  one_box x y m n labels spans =
      let e : boxed ls x ≡ boxed ls y = λ t. (labels t, spans t) in
      sym (unboxed-boxed from ls intervals x (opened_shaped x m)) ∙ ap (unboxed from ls) e ∙ unboxed-boxed from ls intervals y (opened_shaped y n)

  place_spans : (x : Row) (place : List ℤ) → In x rows → Has (spans_at ls x) place → spans_at ls (at_place ls place x) ≡ map at_point place
  place_spans x place m h = at_place_spans ls x place intervals.different (shaped_spans from ls ls x (shaped x m) (among_itself ls)) h

  there : (x : Row) (place : List ℤ) → In x rows → Has (spans_at ls x) place → In (at_place ls place x) opened
  there x place m h = (unpacked_grid_points ls intervals.different rows (at_place ls place x)).1 (x, place, m, h, refl)

  row_in : (r : ℕ) → r < length rows → In (row r) rows
  row_in r l = In-get_or rows r [] l

  one_place : (p q : List ℤ) → map at_point p ≡ map at_point q → p ≡ q
  one_place p q e = (point_has p q).0 (subst (λ (is : List Span). Has is q) (sym e) ((point_has q q).1 refl))

  module _ (place : List ℤ) where
    abbrev placed : ℕ → Row
    placed r = at_place ls place (row r)

    here : (r : ℕ) → r < length rows → HasPlace boxes place r → Has (spans_at ls (row r)) place
    here r l h = subst (λ (is : List Span). Has is place) (side_at r l) h

    placed_opened : (r : ℕ) → r < length rows → HasPlace boxes place r → In (placed r) opened
    placed_opened r l h = there (row r) place (row_in r l) (here r l h)

    placed_spans : (r : ℕ) → r < length rows → HasPlace boxes place r → spans_at ls (placed r) ≡ map at_point place
    placed_spans r l h = place_spans (row r) place (row_in r l) (here r l h)

    placed_label : (r : ℕ) → r < length rows → others ls (placed r) ≡ get_or labels r []
    placed_label r l = at_place_others ls place (row r) ∙ sym (label_at r l)

    one_placed : (r s : ℕ) → r < length rows → s < length rows → HasPlace boxes place r → HasPlace boxes place s → get_or labels r [] ≡ get_or labels s [] → placed r ≡ placed s
    one_placed r s l m h g e =
        one_box (placed r) (placed s) (placed_opened r l h) (placed_opened s m g) (placed_label r l ∙ e ∙ sym (placed_label s m)) (placed_spans r l h ∙ sym (placed_spans s m g))

    module _ (key : Row) (a : List ℕ) (f : AreFirsts keys labels (HasPlace boxes place) key a) where
      abbrev pub group : List Row
      group = map (at_place ls place) (rows_at rows a)

      in_group : (x : Row) → In x group → (r : ℕ) × Among r a × (r < length rows) × HasPlace boxes place r × (part_of keys (get_or labels r []) ≡ key) × (x ≡ placed r)
      in_group x m =
          let w = (In-map (at_place ls place) x (rows_at rows a)).0 m in
          let v = (In-map row w.0 a).0 w.1 in
          let i = (among_in v.0 a).1 v.1 in
          let g = (f.members v.0).0 i in
          let l : v.0 < length rows = subst (λ n. v.0 < n) count (g.0).0 in
          (v.0, i, l, (g.0).1, g.1, w.2 ∙ ap (at_place ls place) v.2)

      to_group : (r : ℕ) → Among r a → In (placed r) group
      to_group r i = (In-map (at_place ls place) (placed r) (rows_at rows a)).1 (row r, (In-map row (row r) a).1 (r, (among_in r a).0 i, refl), refl)

      pub group_opened : (x : Row) → In x group → In x opened
      group_opened x m = let w = in_group x m in subst (λ z. In z opened) (sym w.5) (placed_opened w.0 w.2 w.3)

      pub group_spans : (x : Row) → In x group → spans_at ls x ≡ map at_point place
      group_spans x m = let w = in_group x m in ap (spans_at ls) w.5 ∙ placed_spans w.0 w.2 w.3

      group_key : (x : Row) → In x group → part_of keys (others ls x) ≡ key
      group_key x m = let w = in_group x m in ap (λ z. part_of keys (others ls z)) w.5 ∙ ap (part_of keys) (placed_label w.0 w.2) ∙ w.4

      pub group_part : (x y : Row) → In x group → In y group → part_of by x ≡ part_of by y
      group_part x y m n =
          whole_part from ls by x y (opened_shaped x (group_opened x m)) (opened_shaped y (group_opened y n)) (group_spans x m ∙ sym (group_spans y n)) (group_key x m ∙ sym (group_key y n))

      group_all : (x y : Row) → In x group → In y opened → part_of by y ≡ part_of by x → In y group
      group_all x y m n e =
          let v = (unpacked_grid_points ls intervals.different rows y).0 n in
          let spans : map at_point v.1 ≡ map at_point place = sym (ap (spans_at ls) v.4 ∙ place_spans v.0 v.1 v.2 v.3) ∙ listed_part from ls by y x all_by e ∙ group_spans x m in
          let same : v.1 ≡ place = one_place v.1 place spans in
          let s = numbered rows v.0 [] v.2 in
          let has : HasPlace boxes place s.0 = subst (λ (is : List Span). Has is place) (sym (side_at s.0 s.1 ∙ ap (spans_at ls) s.2)) (subst (Has (spans_at ls v.0)) same v.3) in
          let is : y ≡ placed s.0 = v.4 ∙ ap (λ p. at_place ls p v.0) same ∙ ap (at_place ls place) (sym s.2) in
          let low : s.0 < length labels = subst (λ n. s.0 < n) (sym count) s.1 in
          let r = first_alike labels side place s.0 low has in
          let l : r.0 < length rows = subst (λ n. r.0 < n) count (r.1).0 in
          let part : part_of keys (get_or labels r.0 []) ≡ key =
          ap (part_of keys) (r.2 ∙ sym (placed_label s.0 s.1)) ∙ ap (λ z. part_of keys (others ls z)) (sym is) ∙ inner_part from ls by y x e ∙ group_key x m in
          let i : Among r.0 a = (f.members r.0).1 (r.1, part) in
          subst (λ z. In z group) (one_placed r.0 s.0 l s.1 (r.1).1 has r.2 ∙ sym is) (to_group r.0 i)

      -- the unpacked rows with its part are its rows
      pub group_same : (x : Row) → In x group → HaveSame group (filter (has_part by (part_of by x)) opened)
      group_same x m y =
          let all = In-filter (has_part by (part_of by x)) y opened in
          let one = eq_by_cmp-≡ row_cmp row_total row_separates (part_of by y) (part_of by x) in (
            λ n. all.1 (group_opened y n, one.1 (group_part y x n m)),
            λ n. let w = all.0 n in group_all x y m w.0 (one.0 w.1),
          )

      apart_from : (b : ℕ) (xs : List ℕ) → AreRows b (length labels) xs → ((r : ℕ) → In r xs → Among r a) → AreApart (map placed xs)
      apart_from b [] h m = tt
      apart_from b (r ∷ xs) h m = (
        λ i.
            let w = (In-map placed (placed r) xs).0 i in
            let less = at_least (suc r) (length labels) xs w.0 h.2 w.1 in
            let g = (f.members r).0 (m r (inl refl)) in
            let k = (f.members w.0).0 (m w.0 (inr w.1)) in
            let l : r < length rows = subst (λ n. r < n) count (g.0).0 in
            let n : w.0 < length rows = subst (λ n. w.0 < n) count (k.0).0 in
            (k.0).2 r less (g.0).1 (sym (placed_label r l) ∙ ap (others ls) w.2 ∙ placed_label w.0 n),
        apart_from (suc r) xs h.2 (λ s i. m s (inr i)),
      )

      pub group_apart : AreApart group
      group_apart = subst AreApart (sym (map_twice (at_place ls place) row a)) (apart_from 0 a f.order (λ r i. (among_in r a).1 i))

  -- each unpacked row is in a group at its place
  pub group_of : (x : Row) → In x opened → (place : List ℤ) × (key : Row) × (a : List ℕ) × (f : AreFirsts keys labels (HasPlace boxes place) key a) × In x (group place key a f)
  group_of x m =
      let v = (unpacked_grid_points ls intervals.different rows x).0 m in
      let place : List ℤ = v.1 in
      let s = numbered rows v.0 [] v.2 in
      let has : HasPlace boxes place s.0 = subst (λ (is : List Span). Has is place) (sym (side_at s.0 s.1 ∙ ap (spans_at ls) s.2)) v.3 in
      let is : x ≡ placed place s.0 = v.4 ∙ ap (at_place ls place) (sym s.2) in
      let low : s.0 < length labels = subst (λ n. s.0 < n) (sym count) s.1 in
      let r = first_alike labels side place s.0 low has in
      let l : r.0 < length rows = subst (λ n. r.0 < n) count (r.1).0 in
      let key : Row = part_of keys (get_or labels r.0 []) in
      let w = firsts_there labels side place keys key in
      let i : Among r.0 w.0 = (w.1.members r.0).1 (r.1, refl) in
      (place, key, w.0, w.1, subst (λ z. In z (group place key w.0 w.1)) (one_placed place r.0 s.0 l s.1 (r.1).1 has r.2 ∙ sym is) (to_group place key w.0 w.1 r.0 i))
