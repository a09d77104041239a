-- What a rule gives of live rows, side after side.
use Rattle.std.proofs.Common.{◌≡◌, ◌≢◌, ℕ, zero, suc, ◌<◌, ◌≤◌, true, List, [], ◌∷◌, ◌++◌, map, length, get_or, ◌↔◌, ◌⊎◌, inl, inr, arith, sym, ap, subst, refl, ◌∙◌, Option, Some, Result}
use Rattle.std.specs.List.{All, AllByRecursion, filter, flat_map}
use Rattle.std.proofs.lemmas.Bool.{cases_lt, and_parts, and_from}
use Rattle.std.proofs.lemmas.List.Elements.{All-append, All-same}
use Rattle.std.proofs.lemmas.List.{nil_from_length}
use Rattle.base_core.proofs.ListLemmas.{length_more}
use Rattle.cell_packing.specs.Covering.{Among}
use Rattle.cell_packing.specs.Live.{span_has, has_grid_point, box, side_has, InLive, IsSomewhere}
use Rattle.cell_packing.specs.Packed.{no_cells}
use Rattle.cell_packing.proofs.AmongLemmas.{among_append, among_map, among_filter, all_from_members}
use Rattle.cell_packing.proofs.Inward.{HasSides, in_live_last}
use Rattle.point_core.specs.declared.fault.Fault.{Fault}
use Rattle.point_core.specs.LeastFault.{IsLeast}
use Rattle.cell_sweep.specs.PackedRows.{HasRow, span_of, cuts_of}
use Rattle.cell_sweep.specs.Rows.{no_sides, own_numbers, labels_of, GivesLabel, GivesFault}
use Rattle.cell_sweep.proofs.Steps.{split_at}
use Rattle.cell_sweep.proofs.Turns.{none_live, least_then, least_more, leaf_rows, leaf_fault}
use Rattle.cell_sweep.proofs.UnitedLemmas.{IsBeside}
use Rattle.cell_boxes.specs.Common.{At, EndsBy}
use Rattle.cell_boxes.specs.Groups.{longer}
use Rattle.cell_boxes.specs.Rows.{PlainCellBox}
use Rattle.cell_sweep.proofs.Sweeping.{cell_has, span_from}
use Rattle.cell_sweep.proofs.LabelRows.{some_of}

-- ---- lists

-- ---- one more side

-- a place with one more cell
pub at_longer : (y : List (ℕ × ℕ)) (grid_point : List ℕ) (s : ℕ × ℕ) (j : ℕ) → length y ≡ length grid_point → At (y ++ s ∷ []) (grid_point ++ j ∷ []) ↔ At y grid_point × (span_has s j ≡ true)
at_longer [] [] s j e = (λ h. (refl, (and_parts (span_has s j) true h).0), λ h. and_from (span_has s j) true h.1 refl)
at_longer [] (p ∷ ps) s j e = absurd (omega (arith, e))
at_longer (x ∷ xs) [] s j e = absurd (omega (arith, e))
at_longer (x ∷ xs) (p ∷ ps) s j e =
    let ih = at_longer xs ps s j (omega (arith, e)) in (
      λ h.
          let w = and_parts (span_has x p) (has_grid_point (xs ++ s ∷ []) (ps ++ j ∷ [])) h in
          let v = ih.0 w.1 in
          (and_from (span_has x p) (has_grid_point xs ps) w.0 v.0, v.1),
      λ h.
          let w = and_parts (span_has x p) (has_grid_point xs ps) h.0 in
          and_from (span_has x p) (has_grid_point (xs ++ s ∷ []) (ps ++ j ∷ [])) w.0 (ih.1 (w.1, h.1)),
    )

-- rows with the cells as one more side have a place where they have it before and the cells have its last
pub has_longer : {P : Type 0} (rows : List (PlainCellBox P)) (k : ℕ) (cells : ℕ × ℕ) → ((x : PlainCellBox P) → Among x rows → length x.1 ≡ k) → (l : P) (grid_point : List ℕ) (j : ℕ) → length grid_point ≡ k
    → HasRow (map (longer cells) rows) l (grid_point ++ j ∷ []) ↔ HasRow rows l grid_point × (span_has cells j ≡ true)
has_longer {P} rows k cells lens l grid_point j e = (
  λ h.
      let w = (among_map (longer cells) (l, h.0) rows).0 h.1 in
      let x : PlainCellBox P = w.0 in
      let q : x.1 ++ cells ∷ [] ≡ h.0 = ap (λ (z : PlainCellBox P). z.1) w.2 in
      let n : x.0 ≡ l = ap (λ (z : PlainCellBox P). z.0) w.2 in
      let v = (at_longer x.1 grid_point cells j (lens x w.1 ∙ sym e)).0 (subst (λ z. At z (grid_point ++ j ∷ [])) (sym q) h.2) in
      ((x.1, subst (λ m. Among (m, x.1) rows) n w.1, v.0), v.1),
  λ h.
      let x : PlainCellBox P = (l, h.0.0) in
      (h.0.0 ++ cells ∷ [], (among_map (longer cells) (l, h.0.0 ++ cells ∷ []) rows).1 (x, h.0.1, refl), (at_longer h.0.0 grid_point cells j (lens x h.0.1 ∙ sym e)).1 (h.0.2, h.1)),
)

-- the cells from a up to before z are added
pub turn_grid_points : {P : Type 0} (S : ℕ → P → List ℕ → Type 0) (k a z : ℕ) → a ≤ z → (old new rows : List (PlainCellBox P)) → new ≡ old ++ map (longer (a, z)) rows
    → ((x : PlainCellBox P) → Among x rows → length x.1 ≡ k)
    → ((l : P) (grid_point : List ℕ) → length grid_point ≡ k → HasRow rows l grid_point ↔ S a l grid_point)
    → ((l : P) (grid_point : List ℕ) (j : ℕ) → a ≤ j → j < z → S j l grid_point ≡ S a l grid_point)
    → ((l : P) (grid_point : List ℕ) (j : ℕ) → length grid_point ≡ k → HasRow old l (grid_point ++ j ∷ []) ↔ (j < a) × S j l grid_point)
    → (l : P) (grid_point : List ℕ) (j : ℕ) → length grid_point ≡ k → HasRow new l (grid_point ++ j ∷ []) ↔ (j < z) × S j l grid_point
turn_grid_points {P} S k a z up old new rows made lens is same before l grid_point j e =
    let m = has_longer rows k (a, z) lens l grid_point j e in
    let b = before l grid_point j e in
    let i = is l grid_point e in
    subst (λ zs. HasRow zs l (grid_point ++ j ∷ []) ↔ (j < z) × S j l grid_point) (sym made) (
      λ h. elim ((among_append (l, h.0) old (map (longer (a, z)) rows)).0 h.1) [
        | inl w ↦ let v = b.0 (h.0, w, h.2) in let u = v.0 in (omega arith, v.1)
        | inr w ↦
            let v = m.0 (h.0, w, h.2) in
            let u = cell_has (a, z) j v.1 in
            (u.1, subst (λ U. U) (sym (same l grid_point j u.0 u.1)) (i.0 v.0))
      ],
      λ h. elim (cases_lt j a) [
        | inl w ↦ let v = b.1 (w, h.1) in (v.0, (among_append (l, v.0) old (map (longer (a, z)) rows)).1 (inl v.1), v.2)
        | inr w ↦
            let v = m.1 (i.1 (subst (λ U. U) (same l grid_point j w h.0) h.1), span_from (a, z) j w h.0) in
            (v.0, (among_append (l, v.0) old (map (longer (a, z)) rows)).1 (inr v.1), v.2)
      ],
    )

pub turn_lengths : {P : Type 0} (k n : ℕ) (cells : ℕ × ℕ) → suc k ≡ n → (old new rows : List (PlainCellBox P)) → new ≡ old ++ map (longer cells) rows → ((x : PlainCellBox P) → Among x rows → length x.1 ≡ k)
    → All (λ (x : PlainCellBox P). length x.1 ≡ n) old → All (λ (x : PlainCellBox P). length x.1 ≡ n) new
turn_lengths {P} k n cells more old new rows made lens a =
    let Q : PlainCellBox P → Type 0 = λ x. length x.1 ≡ n in
    All-same Q new (old ++ map (longer cells) rows) made
    (All-append Q old (map (longer cells) rows) a
    (all_from_members Q (map (longer cells) rows) (λ y m.
    let w = (among_map (longer cells) y rows).0 m in
    let x : PlainCellBox P = w.0 in
    subst Q w.2 (length_more x.1 cells ∙ ap suc (lens x w.1) ∙ more))))

-- with one more side it ends by a box that ends by the cells' end on that side or after it
pub ends_longer : (x z : List (ℕ × ℕ)) (s : ℕ × ℕ) → EndsBy x z → s.1 ≤ (get_or x (length z) no_cells).1 → EndsBy x (z ++ s ∷ [])
ends_longer x z s e h t = let w = at z t in elim w [
  | inl q ↦ subst (λ (p : ℕ × ℕ). p.1 ≤ (get_or x t no_cells).1) (sym q) (e t)
  | inr w ↦ elim w [
    | inl q ↦ subst (λ (p : ℕ × ℕ). p.1 ≤ (get_or x t no_cells).1) (sym q.1) (subst (λ n. s.1 ≤ (get_or x n no_cells).1) (sym q.0) h)
    | inr q ↦ subst (λ (p : ℕ × ℕ). p.1 ≤ (get_or x t no_cells).1) (sym q) (omega arith)
  ]
]
  where
    at : (y : List (ℕ × ℕ)) (n : ℕ) → (get_or (y ++ s ∷ []) n no_cells ≡ get_or y n no_cells) ⊎ (((n ≡ length y) × (get_or (y ++ s ∷ []) n no_cells ≡ s)) ⊎ (get_or (y ++ s ∷ []) n no_cells ≡ no_cells))
    at [] zero = inr (inl (refl, refl))
    at [] (suc n) = inr (inr refl)
    at (y ∷ ys) zero = inl refl
    at (y ∷ ys) (suc n) = elim (at ys n) [ inl q ↦ inl q | inr w ↦ elim w [ inl q ↦ inr (inl (ap suc q.0, q.1)) | inr q ↦ inr (inr q) ] ]

-- a live row's ends are cuts
cut_among : (boxes : List (List (ℕ × ℕ))) (side : ℕ) (live : List ℕ) (r : ℕ) → Among r live → Among (span_of boxes side r).1 (flat_map (cuts_of boxes side) live)
cut_among boxes side [] r h = h
cut_among boxes side (x ∷ xs) r h = elim h [ inl e ↦ inr (inl (ap (λ q. (span_of boxes side q).1) e)) | inr m ↦ inr (inr (cut_among boxes side xs r m)) ]

pub turn_ends : {P : Type 0} (boxes : List (List (ℕ × ℕ))) (live : List ℕ) (side a z : ℕ) → ((c : ℕ) → Among c (flat_map (cuts_of boxes side) live) → IsBeside a z c)
    → (old new rows : List (PlainCellBox P)) → new ≡ old ++ map (longer (a, z)) rows → ((x : PlainCellBox P) → Among x rows → length x.1 ≡ side)
    → ((x : PlainCellBox P) → Among x rows → (r : ℕ) × Among r (filter (side_has boxes side a) live) × EndsBy (box boxes r) x.1)
    → ((x : PlainCellBox P) → Among x old → (r : ℕ) × Among r live × EndsBy (box boxes r) x.1)
    → (x : PlainCellBox P) → Among x new → (r : ℕ) × Among r live × EndsBy (box boxes r) x.1
turn_ends {P} boxes live side a z cut old new rows made lens inner before y m =
    elim ((among_append y old (map (longer (a, z)) rows)).0 (subst (Among y) made m)) [
      | inl w ↦ before y w
      | inr w ↦
          let v = (among_map (longer (a, z)) y rows).0 w in
          let x : PlainCellBox P = v.0 in
          let u = inner x v.1 in
          let r : ℕ = u.0 in
          let f = (among_filter (side_has boxes side a) r live).0 u.1 in
          let has = cell_has (span_of boxes side r) a f.1 in
          let end : z ≤ (span_of boxes side r).1 = elim (cut (span_of boxes side r).1 (cut_among boxes side live r f.0)) [ inl q ↦ (let p = has.1 in absurd (omega arith)) | inr q ↦ q ] in
          let here : z ≤ (get_or (box boxes r) (length x.1) no_cells).1 = subst (λ n. z ≤ (get_or (box boxes r) n no_cells).1) (sym (lens x v.1)) end in
          (r, f.0, subst (λ (q : PlainCellBox P). EndsBy (box boxes r) q.1) v.2 (ends_longer (box boxes r) x.1 (a, z) u.2 here))
    ]

-- the least fault of the cells from a up to before z
pub turn_least : (Q : ℕ → Fault → Type 0) (a z : ℕ) → a < z → ((j : ℕ) (e : Fault) → a ≤ j → j < z → Q j e ≡ Q a e) → (o b c : Option Fault)
    → IsLeast (λ e. (o ≡ Some e) ⊎ ((j : ℕ) × (j < a) × Q j e)) b → IsLeast (λ e. (b ≡ Some e) ⊎ Q a e) c → IsLeast (λ e. (o ≡ Some e) ⊎ ((j : ℕ) × (j < z) × Q j e)) c
turn_least Q a z l same o b c s r =
    least_more (λ e. ((j : ℕ) × (j < a) × Q j e) ⊎ Q a e) (λ e. (j : ℕ) × (j < z) × Q j e) o c (λ e. (
      λ h. elim h [ inl w ↦ (let p = w.1 in (w.0, omega arith, w.2)) | inr w ↦ (a, l, w) ],
      λ h. elim (cases_lt h.0 a) [ inl w ↦ inl (h.0, w, h.2) | inr w ↦ inr (subst (λ U. U) (same h.0 e w h.1) h.2) ],
    )) (least_then (λ e. (j : ℕ) × (j < a) × Q j e) (Q a) o b c s r)

-- ---- all cells of the side

pub all_grid_points : {P : Type 0} (f : P → List ℕ → List ℕ → Type 0) (boxes : List (List (ℕ × ℕ))) (n side count : ℕ) → side < n → (live : List ℕ) → AllByRecursion (HasSides f boxes n) live
    → ((i : ℕ) → count ≤ i → filter (side_has boxes side i) live ≡ []) → (out : List (PlainCellBox P))
    → ((l : P) (grid_point : List ℕ) (j : ℕ) → length grid_point ≡ side → HasRow out l (grid_point ++ j ∷ []) ↔ (j < count) × InLive f boxes (filter (side_has boxes side j) live) [] l grid_point)
    → (l : P) (grid_point : List ℕ) → length grid_point ≡ suc side → HasRow out l grid_point ↔ InLive f boxes live [] l grid_point
all_grid_points f boxes n side count below live al none out is l grid_point e =
    let s = split_at grid_point side e in
    let at : InLive f boxes live [] l (s.0 ++ s.1 ∷ []) ≡ InLive f boxes (filter (side_has boxes side s.1) live) [] l s.0 =
    in_live_last f boxes n live [] l s.0 s.1 al tt (let q = s.2 in omega arith)
    ∙ ap (λ m. InLive f boxes (filter (side_has boxes m s.1) live) [] l s.0) s.2 in
    let i = is l s.0 s.1 s.2 in
    subst (λ p. HasRow out l p ↔ InLive f boxes live [] l p) s.3 (
      λ h. subst (λ U. U) (sym at) (i.0 h).1,
      λ h.
          let w = subst (λ U. U) at h in
          i.1 (
            elim (cases_lt s.1 count) [
              | inl v ↦ v
              | inr v ↦ absurd (none_live f boxes (filter (side_has boxes side s.1) live) [] l s.0 (none s.1 v) refl w)
            ],
            w,
          ),
    )

-- ---- a place of no sides

module _ {P F : Type 0} (m : List ℕ → List ℕ → Result (List P) F) (boxes : List (List (ℕ × ℕ))) (live right : List ℕ) (some : live ≢ []) (none : right ≡ []) where
  module _ (sides : ℕ) (z : sides ≡ 0) (rows : List (PlainCellBox P)) (made : rows ≡ map no_sides (labels_of (m live (own_numbers 0 right)))) where
    made_alone : rows ≡ map no_sides (labels_of (m live (own_numbers 0 [])))
    made_alone = subst (λ r. rows ≡ map no_sides (labels_of (m live (own_numbers 0 r)))) none made

    pub leaf_lengths : (x : PlainCellBox P) → Among x rows → length x.1 ≡ sides
    leaf_lengths x h = ((leaf_rows m 0 boxes live [] (inl some) 0 refl rows made_alone x).0 h).0 ∙ sym z

    pub leaf_grid_points : (l : P) (grid_point : List ℕ) → length grid_point ≡ sides → HasRow rows l grid_point ↔ InLive (GivesLabel m 0) boxes live [] l grid_point
    leaf_grid_points l grid_point e =
        subst (λ p. HasRow rows l p ↔ InLive (GivesLabel m 0) boxes live [] l p) (sym (nil_from_length grid_point (e ∙ z))) (
          λ h. ((leaf_rows m 0 boxes live [] (inl some) 0 refl rows made_alone (l, h.0)).0 h.1).1,
          λ h. ([], (leaf_rows m 0 boxes live [] (inl some) 0 refl rows made_alone (l, [])).1 (refl, h), refl),
        )

    pub leaf_ends : (x : PlainCellBox P) → Among x rows → (r : ℕ) × Among r live × EndsBy (box boxes r) x.1
    leaf_ends x h =
        let s = some_of live some in
        let e : x.1 ≡ [] = nil_from_length x.1 (leaf_lengths x h ∙ z) in
        (s.0, s.1, subst (EndsBy (box boxes s.0)) (sym e) (λ t. omega arith))

  pub leaf_least : (sides : ℕ) → sides ≡ 0 → (e : F) → GivesFault m 0 e live right ↔ IsSomewhere sides (GivesFault m 0) boxes live [] e
  leaf_least sides z e = subst (λ r. GivesFault m 0 e live r ↔ IsSomewhere sides (GivesFault m 0) boxes live [] e) (sym none) (leaf_fault m 0 boxes live [] (inl some) sides z e)
