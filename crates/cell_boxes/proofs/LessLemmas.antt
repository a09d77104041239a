-- Holes taken out of a box, one after the other.
use Rattle.std.proofs.Common.{◌≡◌, ℕ, zero, suc, ◌+◌, ◌<◌, ◌≤◌, Bool, true, false, cond, leb, ltb, min, max, List, [], ◌∷◌, ◌++◌, set, length, get_or, map, flat_map, ◌↔◌, ◌⊎◌, inl, inr, arith, sym, ap, subst, refl, ◌∙◌, append_assoc}
use Rattle.std.specs.List.{All}
use Rattle.std.proofs.lemmas.Bool.{cases_lt, cases_Bool}
use Rattle.std.proofs.lemmas.Bool.Decides.{nat_tests}
use Rattle.std.proofs.lemmas.Int.{clamps}
use Rattle.std.proofs.Math.ListN.{length-set}
use Rattle.std.proofs.lemmas.List.{get_or_default}
use Rattle.cell_packing.specs.Covering.{Among}
use Rattle.cell_packing.specs.Packed.{no_cells}
use Rattle.cell_packing.proofs.AmongLemmas.{among_append, among_flat}
use Rattle.cell_sweep.specs.Rows.{sides_of}
use Rattle.cell_sweep.specs.declared.inward.IndexBox.{IndexBox}
use Rattle.cell_boxes.specs.Common.{At, EndsBy, both, first_of}
use Rattle.cell_boxes.specs.Meetings.{Met}
use Rattle.cell_boxes.specs.Rows.{IsRow}
use Rattle.cell_boxes.specs.Outside.{HasBox, part, beside, narrowed, outside_to, outside, is_past, past, ahead, IsClear}
use Rattle.cell_boxes.proofs.RowLemmas.{row_among, one_row, some_row, map_row}
use Rattle.cell_boxes.proofs.OutsideLemmas.{at_first, has_append, has_one, narrowed_length, outside_grid_points}

abbrev Box : Type 0
Box = List (ℕ × ℕ)

flat_of_map : {X Y Z : Type 0} (f : Y → List Z) (g : X → Y) (xs : List X) → flat_map (λ x. f (g x)) xs ≡ flat_map f (map g xs)
flat_of_map f g [] = refl
flat_of_map f g (x ∷ xs) = ap (λ z. f (g x) ++ z) (flat_of_map f g xs)

map_both : {X Y : Type 0} (f : X → Y) (xs ys : List X) → map f (xs ++ ys) ≡ map f xs ++ map f ys
map_both f [] ys = refl
map_both f (x ∷ xs) ys = ap (λ z. f x ∷ z) (map_both f xs ys)

-- ---- one side more of a hole

pub narrowed_turn : (y hole rest : Box) (s : ℕ) (a c : ℕ × ℕ) → rest ≡ narrowed s y hole → s < length rest → s < length hole → a ≡ get_or rest s a → c ≡ get_or hole s c → set rest s (both a c) ≡ narrowed (s + 1) y hole
narrowed_turn y hole rest s a c e l m f g =
    let q : suc s ≡ s + 1 = omega arith in
    let fa : a ≡ get_or (narrowed s y hole) s no_cells = f ∙ get_or_default rest s a no_cells l ∙ ap (λ zs. get_or zs s no_cells) e in
    let gc : c ≡ get_or hole s no_cells = g ∙ get_or_default hole s c no_cells m in
    subst (λ n. set rest s (both a c) ≡ narrowed n y hole) q (λ t. set (e t) s (both (fa t) (gc t)))

pub outside_turn : (y hole rest : Box) (s : ℕ) (c : ℕ × ℕ) (old out new : List Box) → rest ≡ narrowed s y hole → s < length hole → c ≡ get_or hole s c
    → out ≡ old ++ outside_to s y hole → new ≡ out ++ beside rest s c → new ≡ old ++ outside_to (s + 1) y hole
outside_turn y hole rest s c old out new e m g made more =
    let q : suc s ≡ s + 1 = omega arith in
    let gc : c ≡ get_or hole s no_cells = g ∙ get_or_default hole s c no_cells m in
    let step : new ≡ (old ++ outside_to s y hole) ++ beside (narrowed s y hole) s (get_or hole s no_cells) = more ∙ (λ t. made t ++ beside (e t) s (gc t)) in
    subst (λ n. new ≡ old ++ outside_to n y hole) q (step ∙ append_assoc old (outside_to s y hole) (beside (narrowed s y hole) s (get_or hole s no_cells)))

-- ---- how many sides the pieces have

pub all_sides : (items : List IndexBox) (n : ℕ) → ((z : Box) → Among z (sides_of items) → length z ≡ n) → All (λ (x : IndexBox). length x.sides.items ≡ n) items
all_sides items n h i d l =
    let r = map_row (λ (x : IndexBox). x.sides.items) items i (get_or items i d) (some_row items i d l) in
    h (get_or items i d).sides.items (row_among (sides_of items) i (get_or items i d).sides.items r)

part_length : (y : Box) (s : ℕ) (c : ℕ × ℕ) (z : Box) → Among z (part y s c) → length z ≡ length y
part_length y s c z h = go (ltb c.0 c.1) h
  where
    go : (t : Bool) → Among z (cond t (set y s c ∷ []) []) → length z ≡ length y
    go true h = elim h [ inl e ↦ sym (ap length e) ∙ length-set y s c | inr w ↦ absurd w ]
    go false h = absurd h

beside_length : (y : Box) (s : ℕ) (c : ℕ × ℕ) (z : Box) → Among z (beside y s c) → length z ≡ length y
beside_length y s c z h =
    let own : ℕ × ℕ = get_or y s no_cells in
    elim ((among_append z (part y s (own.0, min own.1 c.0)) (part y s (max own.0 c.1, own.1))).0 h) [
      | inl w ↦ part_length y s (own.0, min own.1 c.0) z w
      | inr w ↦ part_length y s (max own.0 c.1, own.1) z w
    ]

outside_length : (s : ℕ) (y hole : Box) (z : Box) → Among z (outside_to s y hole) → length z ≡ length y
outside_length zero y hole z h = absurd h
outside_length (suc s) y hole z h =
    let n = narrowed s y hole in
    elim ((among_append z (outside_to s y hole) (beside n s (get_or hole s no_cells))).0 h) [
      | inl w ↦ outside_length s y hole z w
      | inr w ↦ beside_length n s (get_or hole s no_cells) z w ∙ narrowed_length s y hole
    ]

-- ---- where the pieces end

set_ends : (y : Box) (s : ℕ) (v : ℕ × ℕ) → v.1 ≤ (get_or y s no_cells).1 → EndsBy y (set y s v)
set_ends [] s v h t = omega arith
set_ends (x ∷ xs) zero v h zero = h
set_ends (x ∷ xs) zero v h (suc t) = omega arith
set_ends (x ∷ xs) (suc s) v h zero = omega arith
set_ends (x ∷ xs) (suc s) v h (suc t) = set_ends xs s v h t

part_ends : (y : Box) (s : ℕ) (c : ℕ × ℕ) → c.1 ≤ (get_or y s no_cells).1 → (z : Box) → Among z (part y s c) → EndsBy y z
part_ends y s c l z h = go (ltb c.0 c.1) h
  where
    go : (t : Bool) → Among z (cond t (set y s c ∷ []) []) → EndsBy y z
    go true h = elim h [ inl e ↦ subst (EndsBy y) e (set_ends y s c l) | inr w ↦ absurd w ]
    go false h = absurd h

beside_ends : (y : Box) (s : ℕ) (c : ℕ × ℕ) (z : Box) → Among z (beside y s c) → EndsBy y z
beside_ends y s c z h =
    let own : ℕ × ℕ = get_or y s no_cells in
    let a : min own.1 c.0 ≤ own.1 = omega (arith, clamps) in
    let b : own.1 ≤ own.1 = omega arith in
    elim ((among_append z (part y s (own.0, min own.1 c.0)) (part y s (max own.0 c.1, own.1))).0 h) [
      | inl w ↦ part_ends y s (own.0, min own.1 c.0) a z w
      | inr w ↦ part_ends y s (max own.0 c.1, own.1) b z w
    ]

ends_far : (x y z : Box) → EndsBy x y → EndsBy y z → EndsBy x z
ends_far x y z a b s = let u = a s in let v = b s in omega arith

narrowed_ends : (s : ℕ) (y hole : Box) → EndsBy y (narrowed s y hole)
narrowed_ends zero y hole = λ t. omega arith
narrowed_ends (suc s) y hole =
    let n = narrowed s y hole in
    let own : ℕ × ℕ = get_or n s no_cells in
    let c : ℕ × ℕ = get_or hole s no_cells in
    let a : min own.1 c.1 ≤ own.1 = omega (arith, clamps) in
    ends_far y n (set n s (both own c)) (narrowed_ends s y hole) (set_ends n s (both own c) a)

outside_ends : (s : ℕ) (y hole : Box) (z : Box) → Among z (outside_to s y hole) → EndsBy y z
outside_ends zero y hole z h = absurd h
outside_ends (suc s) y hole z h =
    let n = narrowed s y hole in
    elim ((among_append z (outside_to s y hole) (beside n s (get_or hole s no_cells))).0 h) [
      | inl w ↦ outside_ends s y hole z w
      | inr w ↦ ends_far y n z (narrowed_ends s y hole) (beside_ends n s (get_or hole s no_cells) z w)
    ]

-- ---- one piece and a hole

-- a box that ends before one of as many sides begins has a side
past_some : (hole y : Box) → length hole ≡ length y → (first_of y).1 ≤ (first_of hole).0 → 0 < length y
past_some [] [] e l = absurd (omega arith)
past_some [] (s ∷ ys) e l = omega arith
past_some (s ∷ hole) [] e l = absurd (omega (arith, e))
past_some (s ∷ hole) (t ∷ ys) e l = omega arith

module _ (hole y : Box) where
  past_or_ahead : (is_past hole y ≡ true) × ((first_of y).1 ≤ (first_of hole).0) ⊎ (is_past hole y ≡ false)
  past_or_ahead = elim (cases_Bool (is_past hole y)) [ inl e ↦ inl (e, within (first_of y).1 (first_of hole).0 e) | inr e ↦ inr e ]
    where
      within : (a b : ℕ) → leb a b ≡ true → a ≤ b
      within a b h = grind (arith, nat_tests)

  in_past : (z : Box) → Among z (past hole y) → (y ≡ z) × ((first_of y).1 ≤ (first_of hole).0)
  in_past z h = elim past_or_ahead [
    | inl w ↦ elim (subst (λ t. Among z (cond t (y ∷ []) [])) w.0 h) [ inl e ↦ (e, w.1) | inr v ↦ absurd v ]
    | inr w ↦ absurd (subst (λ t. Among z (cond t (y ∷ []) [])) w h)
  ]

  in_ahead : (z : Box) → Among z (ahead hole y) → Among z (outside hole y)
  in_ahead z h = elim past_or_ahead [
    | inl w ↦ absurd (subst (λ t. Among z (cond t [] (outside hole y))) w.0 h)
    | inr w ↦ subst (λ t. Among z (cond t [] (outside hole y))) w h
  ]

  in_one : (grid_point : List ℕ) → length hole ≡ length y → length grid_point ≡ length y → At y grid_point → (At hole grid_point → ⊥) → HasBox (past hole y) grid_point ⊎ HasBox (ahead hole y) grid_point
  in_one grid_point e f h g = elim past_or_ahead [
    | inl w ↦ inl (y, subst (λ t. Among y (cond t (y ∷ []) [])) (sym w.0) (inl refl), h)
    | inr w ↦
        let v = (outside_grid_points y hole grid_point e f).1 (h, g) in
        inr (v.0, subst (λ t. Among v.0 (cond t [] (outside hole y))) (sym w) v.1, v.2)
  ]

-- ---- the pieces that are done and those that are not, before the hole h

module _ (own : Box) (holes : List Met) (first end : ℕ) where
  abbrev Fits : List ℕ → Type 0
  Fits grid_point = length grid_point ≡ length own

  pub record IsSplit (h : ℕ) (finished others : List Box) : Type 0 where
    done_sides : (z : Box) → Among z finished → length z ≡ length own
    pub sides : (z : Box) → Among z others → length z ≡ length own
    done_ends : (z : Box) → Among z finished → EndsBy own z
    ends : (z : Box) → Among z others → EndsBy own z
    done : (grid_point : List ℕ) → Fits grid_point → HasBox finished grid_point → At own grid_point × IsClear holes first end grid_point
    pieces : (grid_point : List ℕ) → Fits grid_point → HasBox others grid_point → At own grid_point × IsClear holes first h grid_point
    all : (grid_point : List ℕ) → Fits grid_point → At own grid_point → IsClear holes first end grid_point → HasBox finished grid_point ⊎ HasBox others grid_point

  pub split_first : IsSplit first [] (own ∷ [])
  split_first = record {
    done_sides = λ z m. absurd m;
    sides = λ z m. elim m [ inl e ↦ sym (ap length e) | inr w ↦ absurd w ];
    done_ends = λ z m. absurd m;
    ends = λ z m. elim m [ inl e ↦ subst (EndsBy own) e (λ s. omega arith) | inr w ↦ absurd w ];
    done = λ grid_point f h. absurd h.1;
    pieces = λ grid_point f h. ((has_one own grid_point).0 h, λ q m r a b g. omega arith);
    all = λ grid_point f h c. inr ((has_one own grid_point).1 h);
  }

  module _ (h : ℕ) (from : first ≤ h) (below : h < end) (m : Met) (row : IsRow holes h m) (same : length m.1 ≡ length own)
      (order : (r : ℕ) (n : Met) → IsRow holes r n → h ≤ r → r < end → (first_of m.1).0 ≤ (first_of n.1).0)
      (done pieces done' pieces' : List Box) (made : done' ≡ done ++ flat_map (past m.1) pieces) (made' : pieces' ≡ flat_map (ahead m.1) pieces) (old : IsSplit h done pieces) where
    in_done : (z : Box) → Among z done' ↔ Among z done ⊎ ((y : Box) × Among y pieces × Among z (past m.1 y))
    in_done z =
        let a = among_append z done (flat_map (past m.1) pieces) in
        let b = among_flat (past m.1) z pieces in
        subst (λ zs. Among z zs ↔ Among z done ⊎ ((y : Box) × Among y pieces × Among z (past m.1 y))) (sym made) (
          λ w. elim (a.0 w) [ inl v ↦ inl v | inr v ↦ inr (b.0 v) ],
          λ w. elim w [ inl v ↦ a.1 (inl v) | inr v ↦ a.1 (inr (b.1 v)) ],
        )

    in_pieces : (z : Box) → Among z pieces' ↔ ((y : Box) × Among y pieces × Among z (ahead m.1 y))
    in_pieces z = subst (λ zs. Among z zs ↔ ((y : Box) × Among y pieces × Among z (ahead m.1 y))) (sym made') (among_flat (ahead m.1) z pieces)

    -- what ends before the hole has no place of this hole and of those after it
    clear_ahead : (y : Box) (grid_point : List ℕ) → Fits grid_point → Among y pieces → At y grid_point → (first_of y).1 ≤ (first_of m.1).0 → At own grid_point × IsClear holes first end grid_point
    clear_ahead y grid_point f a g l =
        let w = old.pieces grid_point f (y, a, g) in
        let len = old.sides y a in
        let some : 0 < length grid_point = let p = past_some m.1 y (same ∙ sym len) l in omega (arith, f, len) in
        let u1 = (at_first y grid_point g some).1 in (
          w.0,
          λ q n r c d k. elim (cases_lt q h) [
            | inl s ↦ w.1 q n r c s k
            | inr s ↦
                let v0 = (at_first n.1 grid_point k some).0 in
                let o = order q n r s d in
                omega arith
          ],
        )

    new_done : (grid_point : List ℕ) → Fits grid_point → HasBox done' grid_point → At own grid_point × IsClear holes first end grid_point
    new_done grid_point f w = elim ((in_done w.0).0 w.1) [
      | inl v ↦ old.done grid_point f (w.0, v, w.2)
      | inr v ↦
          let p = in_past m.1 v.0 w.0 v.2 in
          clear_ahead v.0 grid_point f v.1 (subst (λ z. At z grid_point) (sym p.0) w.2) p.1
    ]

    new_pieces : (grid_point : List ℕ) → Fits grid_point → HasBox pieces' grid_point → At own grid_point × IsClear holes first (h + 1) grid_point
    new_pieces grid_point f w =
        let v = (in_pieces w.0).0 w.1 in
        let y : Box = v.0 in
        let len = old.sides y v.1 in
        let o = (outside_grid_points y m.1 grid_point (same ∙ sym len) (f ∙ sym len)).0 (w.0, in_ahead m.1 y w.0 v.2, w.2) in
        let u = old.pieces grid_point f (y, v.1, o.0) in (
          u.0,
          λ q n r c d k. elim (cases_lt q h) [
            | inl s ↦ u.1 q n r c s k
            | inr s ↦
                let e : q ≡ h = omega arith in
                o.1 (subst (λ (z : Met). At z.1 grid_point) (one_row holes h n m (subst (λ i. IsRow holes i n) e r) row) k)
          ],
        )

    new_all : (grid_point : List ℕ) → Fits grid_point → At own grid_point → IsClear holes first end grid_point → HasBox done' grid_point ⊎ HasBox pieces' grid_point
    new_all grid_point f g c = elim (old.all grid_point f g c) [
      | inl w ↦ inl (w.0, (in_done w.0).1 (inl w.1), w.2)
      | inr w ↦
          let len = old.sides w.0 w.1 in
          elim (in_one m.1 w.0 grid_point (same ∙ sym len) (f ∙ sym len) w.2 (c h m row from below)) [
            | inl v ↦ inl (v.0, (in_done v.0).1 (inr (w.0, w.1, v.1)), v.2)
            | inr v ↦ inr (v.0, (in_pieces v.0).1 (w.0, w.1, v.1), v.2)
          ]
    ]

    pub split_turn : IsSplit (h + 1) done' pieces'
    split_turn = record {
      done_sides = λ z w. elim ((in_done z).0 w) [
        | inl v ↦ old.done_sides z v
        | inr v ↦ sym (ap length (in_past m.1 v.0 z v.2).0) ∙ old.sides v.0 v.1
      ];
      sides = λ z w. let v = (in_pieces z).0 w in outside_length (length m.1) v.0 m.1 z (in_ahead m.1 v.0 z v.2) ∙ old.sides v.0 v.1;
      done_ends = λ z w. elim ((in_done z).0 w) [
        | inl v ↦ old.done_ends z v
        | inr v ↦ subst (EndsBy own) (in_past m.1 v.0 z v.2).0 (old.ends v.0 v.1)
      ];
      ends = λ z w. let v = (in_pieces z).0 w in ends_far own v.0 z (old.ends v.0 v.1) (outside_ends (length m.1) v.0 m.1 z (in_ahead m.1 v.0 z v.2));
      done = new_done;
      pieces = new_pieces;
      all = new_all;
    }

  pub split_last : (done pieces : List Box) → IsSplit end done pieces → (grid_point : List ℕ) → Fits grid_point → HasBox (done ++ pieces) grid_point ↔ At own grid_point × IsClear holes first end grid_point
  split_last done pieces s grid_point f =
      let a = has_append done pieces grid_point in (
        λ h. elim (a.0 h) [ inl w ↦ s.done grid_point f w | inr w ↦ s.pieces grid_point f w ],
        λ h. a.1 (s.all grid_point f h.0 h.1),
      )

-- ---- the same of the lists that the code has

module _ (own : Box) (holes : List Met) (first end : ℕ) where
  pub split_start : (done pieces : List IndexBox) → done ≡ [] → sides_of pieces ≡ own ∷ [] → IsSplit own holes first end first (sides_of done) (sides_of pieces)
  split_start done pieces d p = subst (λ ds. IsSplit own holes first end first ds (sides_of pieces)) (sym (ap sides_of d)) (subst (IsSplit own holes first end first []) (sym p) (split_first own holes first end))

  -- with no holes the box is whole
  pub whole : (pieces : List IndexBox) → sides_of pieces ≡ own ∷ [] → first ≡ end → IsSplit own holes first end end [] (sides_of pieces)
  whole pieces p e = subst (λ n. IsSplit own holes first end n [] (sides_of pieces)) e (split_start [] pieces refl p)

  pub split_more : (h : ℕ) → first ≤ h → h < end → (m : Met) → IsRow holes h m → length m.1 ≡ length own
      → ((r : ℕ) (n : Met) → IsRow holes r n → h ≤ r → r < end → (first_of m.1).0 ≤ (first_of n.1).0)
      → (done pieces done' pieces' : List IndexBox)
      → sides_of done' ≡ sides_of done ++ flat_map (λ (x : IndexBox). past m.1 x.sides.items) pieces → sides_of pieces' ≡ flat_map (λ (x : IndexBox). ahead m.1 x.sides.items) pieces
      → IsSplit own holes first end h (sides_of done) (sides_of pieces) → IsSplit own holes first end (h + 1) (sides_of done') (sides_of pieces')
  split_more h from below m row same order done pieces done' pieces' made made' old =
      split_turn own holes first end h from below m row same order (sides_of done) (sides_of pieces) (sides_of done') (sides_of pieces')
      (made ∙ ap (λ z. sides_of done ++ z) (flat_of_map (past m.1) (λ (x : IndexBox). x.sides.items) pieces))
      (made' ∙ flat_of_map (ahead m.1) (λ (x : IndexBox). x.sides.items) pieces) old

  module _ (done pieces out : List IndexBox) (made : out ≡ done ++ pieces) (s : IsSplit own holes first end end (sides_of done) (sides_of pieces)) where
    both_sides : sides_of out ≡ sides_of done ++ sides_of pieces
    both_sides = ap sides_of made ∙ map_both (λ (x : IndexBox). x.sides.items) done pieces

    pub split_grid_points : (grid_point : List ℕ) → length grid_point ≡ length own → HasBox (sides_of out) grid_point ↔ At own grid_point × IsClear holes first end grid_point
    split_grid_points grid_point f = subst (λ zs. HasBox zs grid_point ↔ At own grid_point × IsClear holes first end grid_point) (sym both_sides) (split_last own holes first end (sides_of done) (sides_of pieces) s grid_point f)

    pub split_sides : All (λ (x : IndexBox). length x.sides.items ≡ length own) out
    split_sides = all_sides out (length own) (λ z h. elim ((among_append z (sides_of done) (sides_of pieces)).0 (subst (Among z) both_sides h)) [ inl w ↦ s.done_sides z w | inr w ↦ s.sides z w ])

    pub split_ends : (z : Box) → Among z (sides_of out) → EndsBy own z
    split_ends z h = elim ((among_append z (sides_of done) (sides_of pieces)).0 (subst (Among z) both_sides h)) [ inl w ↦ s.done_ends z w | inr w ↦ s.ends z w ]
