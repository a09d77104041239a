-- Live rows, the least fault, the count of steps, and the labels at a place of no sides.
use Rattle.std.proofs.Common.{◌≡◌, ℕ, zero, suc, ◌+◌, ◌-◌, ◌*◌, ◌<◌, ◌≤◌, Bool, true, false, cond, ◌&&◌, ◌≢◌, leb, ltb, List, [], ◌∷◌, ◌++◌, map, length, get_or, ◌↔◌, ◌⊎◌, inl, inr, arith, sym, ap, subst, refl, ◌∙◌, Option, Some, None, Result, Ok, Err, mul-add}
use Rattle.std.proofs.Math.Nat.{mul_comm}
use Rattle.std.specs.List.{All, AllByRecursion, filter}
use Rattle.std.proofs.lemmas.List.Elements.{recursion_from_All, All-from_recursion}
use Rattle.std.proofs.lemmas.Bool.{cases_lt}
use Rattle.std.proofs.lemmas.Nat.{mul-le}
use Rattle.std.proofs.lemmas.Bool.Decides.{nat_tests}
use Rattle.std.proofs.lemmas.List.{nil_from_length}
use Rattle.cell_packing.specs.Packed.{no_cells}
use Rattle.cell_packing.specs.Covering.{Among, Gives}
use Rattle.cell_packing.specs.Live.{span_has, box, side_has, IsSliceRow, IsSomewhere, InLive}
use Rattle.cell_packing.proofs.Inward.{HasSides, in_live_last, some_grid_point}
use Rattle.cell_packing.proofs.AmongLemmas.{among_map}
use Rattle.point_core.specs.declared.fault.Fault.{Fault}
use Rattle.point_core.proofs.LeastFaultLemmas.{not_after_itself, not_after_both}
use Rattle.point_core.specs.Orders.{fault_order}
use Rattle.point_core.specs.LeastFault.{fault_total, IsAtMost, IsLeast}
use Rattle.cell_sweep.specs.declared.inward.IndexBox.{IndexBox}
use Rattle.cell_sweep.specs.Rows.{sides_of, no_sides, own_numbers, AreRows, labels_of, GivesLabel, GivesFault, volume}
use Rattle.cell_sweep.proofs.Steps.{split_at}

-- ---- live rows

box_all : (P : List (ℕ × ℕ) → Type 0) (bs : List IndexBox) → AllByRecursion (λ x. P x.sides.items) bs → (r : ℕ) → r < length bs → P (box (sides_of bs) r)
box_all P [] a r h = absurd (omega arith)
box_all P (b ∷ bs) a zero h = a.0
box_all P (b ∷ bs) a (suc r) h = box_all P bs a.1 r (omega arith)

pub rows_all : (P : List (ℕ × ℕ) → Type 0) (bs : List IndexBox) → AllByRecursion (λ x. P x.sides.items) bs → (live : List ℕ) → AllByRecursion (λ r. r < length bs) live → AllByRecursion (λ r. P (box (sides_of bs) r)) live
rows_all P bs a [] h = tt
rows_all P bs a (r ∷ rs) h = (box_all P bs a r h.0, rows_all P bs a rs h.1)

pub filter_none : {X : Type 0} (t : X → Bool) (P : X → Type 0) (xs : List X) → AllByRecursion P xs → ((x : X) → P x → t x ≡ false) → filter t xs ≡ []
filter_none t P [] a e = refl
filter_none t P (x ∷ xs) a e = (λ i. cond (e x a.0 i) (x ∷ filter t xs) (filter t xs)) ∙ filter_none t P xs a.1 e

pub side_none : (x : ℕ × ℕ) (i : ℕ) → x.1 ≤ i → span_has x i ≡ false
side_none x i h = past x.0 x.1 i h
  where
    past : (a b i : ℕ) → b ≤ i → (leb a i && ltb i b) ≡ false
    past a b i h = grind (arith, nat_tests)

pub from_lower : (a b z : ℕ) (xs : List ℕ) → a ≤ b → AreRows b z xs → AreRows a z xs
from_lower a b z [] h r = tt
from_lower a b z (x ∷ xs) h r = let l = r.0 in (omega arith, r.1, r.2)

pub AreRows-filter : (t : ℕ → Bool) (a z : ℕ) (xs : List ℕ) → AreRows a z xs → AreRows a z (filter t xs)
AreRows-filter t a z [] r = tt
AreRows-filter t a z (x ∷ xs) r =
    let ih = AreRows-filter t (suc x) z xs r.2 in
    elim (t x) as (λ b. AreRows a z (cond b (x ∷ filter t xs) (filter t xs))) [
      | true ↦ (r.0, r.1, ih)
      | false ↦ let l = r.0 in from_lower a (suc x) z (filter t xs) (omega arith) ih
    ]

pub AreRows-push : (a z : ℕ) (xs : List ℕ) → a ≤ z → AreRows a z xs → AreRows a (z + 1) (xs ++ z ∷ [])
AreRows-push a z [] h r = (h, omega arith, tt)
AreRows-push a z (x ∷ xs) h r = let l = r.1 in (r.0, omega arith, AreRows-push (suc x) z xs (omega arith) r.2)

pub AreRows-wider : (a b z y : ℕ) (xs : List ℕ) → a ≤ b → z ≤ y → AreRows b z xs → AreRows a y xs
AreRows-wider a b z y [] h k r = tt
AreRows-wider a b z y (x ∷ xs) h k r = let l = r.0 in let m = r.1 in (omega arith, omega arith, AreRows-wider (suc x) (suc x) z y xs (omega arith) k r.2)

pub rows_below : (a z n : ℕ) (xs : List ℕ) → AreRows a z xs → z ≤ n → AllByRecursion (λ r. r < n) xs
rows_below a z n [] r h = tt
rows_below a z n (x ∷ xs) r h = let l = r.1 in (omega arith, rows_below (suc x) z n xs r.2 h)

pub rows_above : (a z n : ℕ) (xs : List ℕ) → AreRows a z xs → n ≤ a → AllByRecursion (λ r. n ≤ r) xs
rows_above a z n [] r h = tt
rows_above a z n (x ∷ xs) r h = let l = r.0 in (omega arith, rows_above (suc x) z n xs r.2 (omega arith))

pub all_below : (n : ℕ) (xs : List ℕ) → AreRows 0 n xs → All (λ r. r < n) xs
all_below n xs r = All-from_recursion (λ q. q < n) xs (rows_below 0 n n xs r (omega arith))

pub not_nil : {X : Type 0} (xs : List X) → 0 < length xs → xs ≢ []
not_nil xs h e = let n : length xs ≡ 0 = ap length e in omega arith

pub none_live : {P : Type 0} (f : P → List ℕ → List ℕ → Type 0) (boxes : List (List (ℕ × ℕ))) (left right : List ℕ) (l : P) (grid_point : List ℕ) → left ≡ [] → right ≡ [] → InLive f boxes left right l grid_point → ⊥
none_live f boxes left right l grid_point a b h =
    let h' : InLive f boxes [] [] l grid_point = subst (λ m. InLive f boxes [] m l grid_point) b (subst (λ m. InLive f boxes m right l grid_point) a h) in
    elim h'.0 [ inl n ↦ n refl | inr n ↦ n refl ]

pub none_row : {P : Type 0} (j : ℕ) (f : P → List ℕ → List ℕ → Type 0) (boxes : List (List (ℕ × ℕ))) (left right : List ℕ) (l : P) (y : List (ℕ × ℕ)) → left ≡ [] → right ≡ [] → IsSliceRow j f boxes left right l y → ⊥
none_row j f boxes left right l y a b h = let w = some_grid_point j (InLive f boxes left right l) y [] h in none_live f boxes left right l w.0 a b w.1

-- ---- what the function requires, of live rows

pub has_sides : {P : Type 0} (f : P → List ℕ → List ℕ → Type 0) (bs : List IndexBox) (n : ℕ) → All (λ x. length x.sides.items ≡ n) bs → (a z : ℕ) (live : List ℕ) → AreRows a z live → z ≤ length bs → AllByRecursion (HasSides f (sides_of bs) n) live
has_sides f bs n h a z live r l = at_least live (rows_all (λ y. length y ≡ n) bs (recursion_from_All (λ (x : IndexBox). length x.sides.items ≡ n) bs h) live (rows_below a z (length bs) live r l))
  where
    at_least : (xs : List ℕ) → AllByRecursion (λ r. length (box (sides_of bs) r) ≡ n) xs → AllByRecursion (HasSides f (sides_of bs) n) xs
    at_least [] w = tt
    at_least (x ∷ xs) w = (omega (arith, w.0), at_least xs w.1)

pub none_from : (bs : List IndexBox) (counts : List ℕ) → All (λ x. (s : ℕ) → s < length counts → (get_or x.sides.items s no_cells).1 ≤ get_or counts s 0) bs
    → (side count : ℕ) → side < length counts → get_or counts side 0 ≤ count → (a z : ℕ) (live : List ℕ) → AreRows a z live → z ≤ length bs
    → (i : ℕ) → count ≤ i → filter (side_has (sides_of bs) side i) live ≡ []
none_from bs counts cells side count below bound a z live r l i h =
    let Q : List (ℕ × ℕ) → Type 0 = λ y. (s : ℕ) → s < length counts → (get_or y s no_cells).1 ≤ get_or counts s 0 in
    let all = rows_all Q bs (recursion_from_All (λ (x : IndexBox). Q x.sides.items) bs cells) live (rows_below a z (length bs) live r l) in
    filter_none (side_has (sides_of bs) side i) (λ r. Q (box (sides_of bs) r)) live all (λ r q. let w = q side below in side_none (get_or (box (sides_of bs) r) side no_cells) i (omega arith))

pub not_below_zero : (i : ℕ) → i < 0 → ⊥
not_below_zero i h = omega arith

pub some_live : (left right : List ℕ) → (0 < length left) ⊎ (0 < length right) → (left ≢ []) ⊎ (right ≢ [])
some_live left right h = elim h [ inl w ↦ inl (not_nil left w) | inr w ↦ inr (not_nil right w) ]

-- ---- somewhere on one more side

pub somewhere_more : {P : Type 0} (f : P → List ℕ → List ℕ → Type 0) (boxes : List (List (ℕ × ℕ))) (n side count : ℕ) → side < n → (left right : List ℕ) → AllByRecursion (HasSides f boxes n) left → AllByRecursion (HasSides f boxes n) right
    → ((i : ℕ) → count ≤ i → filter (side_has boxes side i) left ≡ []) → ((i : ℕ) → count ≤ i → filter (side_has boxes side i) right ≡ []) → (l : P)
    → ((i : ℕ) × (i < count) × IsSomewhere side f boxes (filter (side_has boxes side i) left) (filter (side_has boxes side i) right) l) ↔ IsSomewhere (suc side) f boxes left right l
somewhere_more f boxes n side count below left right al ar nl nr l =
    let at : (ps : List ℕ) (i : ℕ) → length ps ≡ side → InLive f boxes left right l (ps ++ i ∷ []) ≡ InLive f boxes (filter (side_has boxes side i) left) (filter (side_has boxes side i) right) l ps = λ ps i e.
    in_live_last f boxes n left right l ps i al ar (omega arith)
    ∙ ap (λ m. InLive f boxes (filter (side_has boxes m i) left) (filter (side_has boxes m i) right) l ps) e in (
      λ h. (h.2.0 ++ h.0 ∷ [], longer h.2.0 h.0 ∙ ap suc h.2.1, subst (λ U. U) (sym (at h.2.0 h.0 h.2.1)) h.2.2),
      λ h.
          let s = split_at h.0 side h.1 in
          let w = subst (λ U. U) (at s.0 s.1 s.2) (subst (InLive f boxes left right l) (sym s.3) h.2) in (
            s.1,
            elim (cases_lt s.1 count) [
              | inl v ↦ v
              | inr v ↦ absurd (none_live f boxes _ _ l s.0 (nl s.1 v) (nr s.1 v) w)
            ],
            (s.0, s.2, w),
          ),
    )
  where
    longer : (z : List ℕ) (v : ℕ) → length (z ++ v ∷ []) ≡ suc (length z)
    longer [] v = refl
    longer (x ∷ xs) v = ap suc (longer xs v)

-- ---- the least

pub least_iff : (Q U : Fault → Type 0) (o : Option Fault) → ((e : Fault) → Q e ↔ U e) → IsLeast Q o → IsLeast U o
least_iff Q U o h s = record {
  comes = λ e q. (h e).0 (s.comes e q);
  below = λ d q. s.below d ((h d).1 q);
}

pub at_most_then : (b c : Option Fault) (d : Fault) → IsAtMost b d → ((x : Fault) → b ≡ Some x → IsAtMost c x) → IsAtMost c d
at_most_then None c d h k = absurd h
at_most_then (Some x) None d h k = absurd (k x refl)
at_most_then (Some x) (Some y) d h k = not_after_both fault_order fault_total y x d (k x refl) h

at_most_itself : (a : Option Fault) (d : Fault) → a ≡ Some d → IsAtMost a d
at_most_itself a d e = subst (λ o. IsAtMost o d) (sym e) (not_after_itself fault_order fault_total d)

pub least_kept : (Q : Fault → Type 0) (a : Option Fault) → ((e : Fault) → Q e → ⊥) → IsLeast (λ e. (a ≡ Some e) ⊎ Q e) a
least_kept Q a h = record {
  comes = λ e q. inl q;
  below = λ d q. elim q [ inl e ↦ at_most_itself a d e | inr w ↦ absurd (h d w) ];
}

pub least_then : (Q U : Fault → Type 0) (a b c : Option Fault) → IsLeast (λ e. (a ≡ Some e) ⊎ Q e) b → IsLeast (λ e. (b ≡ Some e) ⊎ U e) c → IsLeast (λ e. (a ≡ Some e) ⊎ (Q e ⊎ U e)) c
least_then Q U a b c s r = record {
  comes = λ e q. elim (r.comes e q) [
    | inl w ↦ elim (s.comes e w) [ inl v ↦ inl v | inr v ↦ inr (inl v) ]
    | inr w ↦ inr (inr w)
  ];
  below = λ d q.
      let by = λ (h : (a ≡ Some d) ⊎ Q d). at_most_then b c d (s.below d h) (λ x e. r.below x (inl e)) in
      elim q [
        | inl w ↦ by (inl w)
        | inr w ↦ elim w [ inl v ↦ by (inr v) | inr v ↦ r.below d (inr v) ]
      ];
}

-- one cell more
pub least_step : (Q : ℕ → Fault → Type 0) (cell : ℕ) (a b c : Option Fault) → IsLeast (λ e. (a ≡ Some e) ⊎ ((i : ℕ) × (i < cell) × Q i e)) b → IsLeast (λ e. (b ≡ Some e) ⊎ Q cell e) c → IsLeast (λ e. (a ≡ Some e) ⊎ ((i : ℕ) × (i < cell + 1) × Q i e)) c
least_step Q cell a b c s r =
    least_iff _ _ c (λ e. (
      λ h. elim h [
        | inl w ↦ inl w
        | inr w ↦ elim w [ inl v ↦ let l = v.1 in inr (v.0, omega arith, v.2) | inr v ↦ inr (cell, omega arith, v) ]
      ],
      λ h. elim h [
        | inl w ↦ inl w
        | inr w ↦ elim (cases_lt w.0 cell) [
          | inl l ↦ inr (inl (w.0, l, w.2))
          | inr l ↦ let k = w.1 in let q : w.0 ≡ cell = omega arith in inr (inr (subst (λ j. Q j e) q w.2))
        ]
      ],
    )) (least_then (λ e. (i : ℕ) × (i < cell) × Q i e) (Q cell) a b c s r)

pub least_more : (Q U : Fault → Type 0) (a b : Option Fault) → ((e : Fault) → Q e ↔ U e) → IsLeast (λ e. (a ≡ Some e) ⊎ Q e) b → IsLeast (λ e. (a ≡ Some e) ⊎ U e) b
least_more Q U a b h s = least_iff _ _ b (λ e. (
  λ q. elim q [ inl w ↦ inl w | inr w ↦ inr ((h e).0 w) ],
  λ q. elim q [ inl w ↦ inl w | inr w ↦ inr ((h e).1 w) ],
)) s

-- ---- steps

pub cost_within : (counts : List ℕ) (sides cell start steps : ℕ) → 0 < sides → cell ≤ get_or counts (sides - 1) 0 → steps ≤ start + cell * volume (sides - 1) counts → steps ≤ start + volume sides counts
cost_within counts zero cell start steps h l s = absurd (omega arith)
cost_within counts (suc side) cell start steps h l s =
    let e : suc side - 1 ≡ side = omega arith in
    let l' : cell ≤ get_or counts side 0 = subst (λ m. cell ≤ get_or counts m 0) e l in
    let s' : steps ≤ start + cell * volume side counts = subst (λ m. steps ≤ start + cell * volume m counts) e s in
    more cell (get_or counts side 0) (volume side counts) l' s'
  where
    more : (c n v : ℕ) → c ≤ n → steps ≤ start + c * v → steps ≤ start + n * v
    more c n v a b = let m = mul-le c v n v a (omega arith) in omega arith

pub cost_step : (cell start steps new v : ℕ) → steps ≤ start + cell * v → new ≤ steps + v → new ≤ start + (cell + 1) * v
cost_step cell start steps new v a b =
    let e : (cell + 1) * v ≡ cell * v + v = mul_comm (cell + 1) v ∙ mul-add v cell 1 ∙ (let m : v * cell ≡ cell * v = mul_comm v cell in omega arith) in
    omega arith

pub cost_none : (start v : ℕ) → start ≤ start + 0 * v
cost_none start v = omega arith

pub cost_leaf : (counts : List ℕ) (sides start steps : ℕ) → sides ≡ 0 → steps ≤ start + 1 → steps ≤ start + volume sides counts
cost_leaf counts sides start steps e h = subst (λ m. steps ≤ start + volume m counts) (sym e) h

-- ---- a place of no sides

filter_all : {X : Type 0} (xs : List X) → filter (λ x. true) xs ≡ xs
filter_all [] = refl
filter_all (x ∷ xs) = ap (λ ys. x ∷ ys) (filter_all xs)

pub live_alone : {P : Type 0} (f : P → List ℕ → List ℕ → Type 0) (boxes : List (List (ℕ × ℕ))) (left right : List ℕ) (l : P) → InLive f boxes left right l [] ≡ (((left ≢ []) ⊎ (right ≢ [])) × f l left right)
live_alone f boxes left right l = λ t.
    let a : List ℕ = filter_all left t in
    let b : List ℕ = filter_all right t in
    ((a ≢ []) ⊎ (b ≢ [])) × f l a b

labels_give : {P F : Type 0} (r : Result (List P) F) (l : P) → Among l (labels_of r) ↔ Gives r l
labels_give (Ok v) l = (λ h. h, λ h. h)
labels_give (Err e) l = (λ h. h, λ h. h)

module _ {P F : Type 0} (m : List ℕ → List ℕ → Result (List P) F) (n : ℕ) (boxes : List (List (ℕ × ℕ))) (left right : List ℕ) (some : (left ≢ []) ⊎ (right ≢ [])) where
  abbrev r : Result (List P) F
  r = m left (own_numbers n right)

  alone : (x : P × List (ℕ × ℕ)) → Among x (map no_sides (labels_of r)) ↔ (length x.1 ≡ 0) × IsSliceRow 0 (GivesLabel m n) boxes left right x.0 x.1
  alone x =
      let a = among_map no_sides x (labels_of r) in
      let same : (l : P) → InLive (GivesLabel m n) boxes left right l [] ≡ (((left ≢ []) ⊎ (right ≢ [])) × GivesLabel m n l left right) = λ l. live_alone (GivesLabel m n) boxes left right l in (
        λ h.
            let w = a.0 h in
            subst (λ (k : P × List (ℕ × ℕ)). (length k.1 ≡ 0) × IsSliceRow 0 (GivesLabel m n) boxes left right k.0 k.1) w.2
            (refl, subst (λ U. U) (sym (same w.0)) (some, (labels_give r w.0).0 w.1)),
        λ h. a.1 (x.0, (labels_give r x.0).1 (subst (λ U. U) (same x.0) h.1).1, ap (λ ys. (x.0, ys)) (sym (nil_from_length x.1 h.0))),
      )

  pub leaf_rows : (sides : ℕ) → sides ≡ 0 → (rows : List (P × List (ℕ × ℕ))) → rows ≡ map no_sides (labels_of r) → (x : P × List (ℕ × ℕ)) → Among x rows ↔ (length x.1 ≡ sides) × IsSliceRow sides (GivesLabel m n) boxes left right x.0 x.1
  leaf_rows sides e rows q x =
      subst (λ j. Among x rows ↔ (length x.1 ≡ j) × IsSliceRow j (GivesLabel m n) boxes left right x.0 x.1) (sym e)
      (subst (λ ys. Among x ys ↔ (length x.1 ≡ 0) × IsSliceRow 0 (GivesLabel m n) boxes left right x.0 x.1) (sym q) (alone x))

  pub leaf_fault : (sides : ℕ) → sides ≡ 0 → (e : F) → GivesFault m n e left right ↔ IsSomewhere sides (GivesFault m n) boxes left right e
  leaf_fault sides z e =
      let same : InLive (GivesFault m n) boxes left right e [] ≡ (((left ≢ []) ⊎ (right ≢ [])) × GivesFault m n e left right) = live_alone (GivesFault m n) boxes left right e in (
        λ h. ([], sym z, subst (λ U. U) (sym same) (some, h)),
        λ h. (subst (λ U. U) same (subst (InLive (GivesFault m n) boxes left right e) (nil_from_length h.0 (h.1 ∙ z)) h.2)).1,
      )
