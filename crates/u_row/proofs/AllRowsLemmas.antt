-- What a rule gives row after row, and the steps that this takes.
use Rattle.std.proofs.Common.{◌≡◌, ◌↔◌, ◌⊎◌, inl, inr, ℕ, zero, suc, ◌+◌, ◌*◌, ◌^◌, ◌<◌, ◌≤◌, ℤ, List, [], ◌∷◌, ◌++◌, map, drop, length, get_or, Result, Ok, Err, Option, Some, None, Ordering, refl, sym, ap, ◌∙◌, subst, arith}
use Rattle.std.proofs.Math.Nat.{mul-le-mul_left, mul-le-mul_right}
use Rattle.std.proofs.lemmas.Bool.{cases_lt}
use Rattle.std.proofs.lemmas.Bool.Decides.{nat_tests}
use Rattle.std.proofs.lemmas.List.{drop_more, length-append, length-map}
use Rattle.std.proofs.lemmas.List.Elements.{All-head, All-tail, recursion_from_All}
use Rattle.std.specs.Cmp.{IsTotalOrder}
use Rattle.std.specs.declared.cmp.Ordering.TheVariants.{Less}
use Rattle.std.specs.List.{All, AllByRecursion}
use Rattle.std.specs.List.Sorted.{IsStrictlySortedBy}
use Rattle.base_core.proofs.SetLemmas.{AllAfter, Ascends, Separates}
use Rattle.point_core.specs.Digits.{binary_digits}
use Rattle.point_core.specs.declared.fault.Fault.{Fault}
use Rattle.interval_core.specs.Members.{Span}
use Rattle.cell_packing.specs.Boxed.{Boxed, boxed_cmp, packed_boxes, InBoxes}
use Rattle.cell_packing.specs.Covering.{Among}
use Rattle.cell_packing.specs.Packed.{Has, firsts, points_of}
use Rattle.cell_packing.proofs.PackedBoxes.{in_packed_form, packed_ascends}
use Rattle.point_core.specs.LeastFault.{IsLeast}
use Rattle.cell_sweep.proofs.Turns.{least_iff}
use Rattle.cell_core.specs.Boxes.{IsBox}
use Rattle.cell_core.specs.Cells.{box_numbers, row_numbers}
use Rattle.cell_core.specs.Costs.{bound, side_cost}
use Rattle.cell_core.specs.Numbering.{numbers_of}
use Rattle.cell_core.proofs.BackLemmas.{box_length}
use Rattle.cell_core.proofs.KeyLemmas.{rows_have}
use Rattle.cell_core.proofs.OrderLemmas.{boxed_total, boxed_separates}
use Rattle.cell_core.proofs.PackedGridPoints.{AllHave, both_boxes}
use Rattle.cell_core.proofs.StepLemmas.{sort_within}
use Rattle.cell_core.proofs.Theorem.{packs-iff, points-iff}
use Rattle.cell_core.proofs.Listing.{length_each}
use Rattle.u_row.specs.Cutting.{AreCutsFrom, pieces, cells_from, cells_of, cuts_from, count_cells, count_cuts}
use Rattle.u_row.specs.Rules.{given, labelled, InRule, HasRuleFault, sides_numbers, IsRuleForm}
use Rattle.u_row.proofs.RuleLemmas.{labelled_places, least_chain}

-- ---- the rows before a number

abbrev pub InRuleBelow : {L F : Type 0} → (ℕ → List ℤ → Result (Option L) F) → List (List Span) → ℕ → L → List ℤ → Type 0
InRuleBelow f boxes i l place = (r : ℕ) × (r < i) × Has (get_or boxes r []) place × (f r place ≡ Ok (Some l))

abbrev pub HasFaultBelow : {L F : Type 0} → (ℕ → List ℤ → Result (Option L) F) → List (List Span) → ℕ → F → Type 0
HasFaultBelow f boxes i e = (r : ℕ) × (place : List ℤ) × (r < i) × Has (get_or boxes r []) place × (f r place ≡ Err e)

pub sides_at : {L P : Type 0} (n : P → ℤ) (rows : List (L × List (P × P))) (i : ℕ) (x : L × List (P × P)) → i < length rows → x ≡ get_or rows i x → get_or (sides_numbers n rows) i [] ≡ box_numbers n x.1
sides_at n [] i x l e = absurd (omega arith)
sides_at n (y ∷ rows) zero x l e = λ t. box_numbers n (sym e t).1
sides_at n (y ∷ rows) (suc i) x l e = sides_at n rows i x (omega arith) e

module _ {L F : Type 0} (f : ℕ → List ℤ → Result (Option L) F) (boxes : List (List Span)) (i : ℕ) (box : List Span) (at : get_or boxes i [] ≡ box) where
  -- one row more
  pub places_step : (old new : List (Boxed L)) → ((l : L) (place : List ℤ) → InBoxes old l place ↔ InRuleBelow f boxes i l place)
      → ((l : L) (place : List ℤ) → InBoxes new l place ↔ InBoxes old l place ⊎ (Has box place × (f i place ≡ Ok (Some l))))
      → (l : L) (place : List ℤ) → InBoxes new l place ↔ InRuleBelow f boxes (i + 1) l place
  places_step old new ho hn l place = (
    λ w. elim ((hn l place).0 w) [
      | inl m ↦ let v = (ho l place).0 m in let b = v.1 in (v.0, omega (arith, b), v.2, v.3)
      | inr v ↦ (i, omega arith, subst (λ (b : List Span). Has b place) (sym at) v.0, v.1)
    ],
    λ w.
        let b = w.1 in
        let which : InBoxes old l place ⊎ (Has box place × (f i place ≡ Ok (Some l))) = elim (cases_lt w.0 i) [
          | inl k ↦ inl ((ho l place).1 (w.0, k, w.2, w.3))
          | inr k ↦
              let e : w.0 ≡ i = omega (arith, k, b) in
              inr (subst (λ (c : List Span). Has c place) at (subst (λ r. Has (get_or boxes r []) place) e w.2), subst (λ r. f r place ≡ Ok (Some l)) e w.3)
        ] in
        (hn l place).1 which,
  )

  fault_places : (e : F) → HasFaultBelow f boxes i e ⊎ ((place : List ℤ) × Has box place × (f i place ≡ Err e)) ↔ HasFaultBelow f boxes (i + 1) e
  fault_places e = (
    λ w. elim w [
      | inl v ↦ let b = v.2 in (v.0, v.1, omega (arith, b), v.3, v.4)
      | inr v ↦ (i, v.0, omega arith, subst (λ (c : List Span). Has c v.0) (sym at) v.1, v.2)
    ],
    λ w.
        let b = w.2 in
        elim (cases_lt w.0 i) [
          | inl k ↦ inl (w.0, w.1, k, w.3, w.4)
          | inr k ↦
              let q : w.0 ≡ i = omega (arith, k, b) in
              inr (w.1, subst (λ (c : List Span). Has c w.1) at (subst (λ r. Has (get_or boxes r []) w.1) q w.3), subst (λ r. f r w.1 ≡ Err e) q w.4)
        ],
  )

pub fault_step : {L : Type 0} (f : ℕ → List ℤ → Result (Option L) Fault) (boxes : List (List Span)) (i : ℕ) (box : List Span) → get_or boxes i [] ≡ box → (a b : Option Fault) → IsLeast (HasFaultBelow f boxes i) a
    → IsLeast (λ e. (a ≡ Some e) ⊎ ((place : List ℤ) × Has box place × (f i place ≡ Err e))) b → IsLeast (HasFaultBelow f boxes (i + 1)) b
fault_step f boxes i box at a b ha hb =
    let Q : Fault → Type 0 = HasFaultBelow f boxes i in
    let M : Fault → Type 0 = λ e. (place : List ℤ) × Has box place × (f i place ≡ Err e) in
    least_iff (λ e. Q e ⊎ M e) (HasFaultBelow f boxes (i + 1)) b (fault_places f boxes i box at) (least_chain Q M a b ha hb)

-- ---- one row

pub few_given : {L F S : Type 0} (r : Result (Option L) F) (s : S) → length (given r s) ≤ 1
few_given (Ok (Some l)) s = omega arith
few_given (Ok None) s = omega arith
few_given (Err e) s = omega arith

-- no more labels than cells
pub few_labelled : {L F : Type 0} (f : List ℤ → Result (Option L) F) (cells : List (List Span)) → length (labelled f cells) ≤ length cells
few_labelled f [] = omega arith
few_labelled f (s ∷ cells) =
    let e = length-append (given (f (firsts s)) s) (labelled f cells) in
    let one = few_given (f (firsts s)) s in
    let rest = few_labelled f cells in
    omega (arith, e, one, rest)

-- some boxes and the labelled cells of one more
pub given_places : {L F : Type 0} (f : List ℤ → Result (Option L) F) (cuts : ℕ → List ℤ) (box : List Span) → AreCutsFrom cuts 0 box
    → ((cell : List Span) (ps qs : List ℤ) → Among cell (cells_of cuts box) → Has cell ps → Has cell qs → f ps ≡ f qs)
    → (old new : List (Boxed L)) → new ≡ old ++ labelled f (cells_of cuts box) → (l : L) (place : List ℤ) → InBoxes new l place ↔ InBoxes old l place ⊎ (Has box place × (f place ≡ Ok (Some l)))
given_places f cuts box h steady old new e l place =
    let both = both_boxes old (labelled f (cells_of cuts box)) l place in
    let here = labelled_places f cuts box h steady l place in (
      λ w. elim (both.0 (subst (λ xs. InBoxes xs l place) e w)) [ inl v ↦ inl v | inr v ↦ inr (here.0 v) ],
      λ w.
          let which : InBoxes old l place ⊎ InBoxes (labelled f (cells_of cuts box)) l place = elim w [ inl v ↦ inl v | inr v ↦ inr (here.1 v) ] in
          subst (λ xs. InBoxes xs l place) (sym e) (both.1 which),
    )

pub given_few : {L F P : Type 0} (n : P → ℤ) (f : List ℤ → Result (Option L) F) (cells : List (List Span)) (old new : List (L × List (P × P))) → map (row_numbers n) new ≡ map (row_numbers n) old ++ labelled f cells
    → length new ≤ length old + length cells
given_few n f cells old new e =
    let a = length-map new (row_numbers n) in
    let b = length-map old (row_numbers n) in
    let c = length-append (map (row_numbers n) old) (labelled f cells) in
    let d = ap length e in
    let few = few_labelled f cells in
    omega (arith, a, b, c, d, few)

-- ---- no row yet

pub no_fault_yet : {L : Type 0} (f : ℕ → List ℤ → Result (Option L) Fault) (boxes : List (List Span)) → IsLeast (HasFaultBelow f boxes 0) None
no_fault_yet f boxes = record {
  comes = λ e q. absurd cc;
  below = λ d w. let b = w.2 in absurd (omega (arith, b));
}

pub no_place_yet : {L F : Type 0} (f : ℕ → List ℤ → Result (Option L) F) (boxes : List (List Span)) (l : L) (place : List ℤ) → InBoxes [] l place ↔ InRuleBelow f boxes 0 l place
no_place_yet f boxes l place = (λ w. absurd w.1, λ w. let b = w.1 in absurd (omega (arith, b)))

-- ---- numbers of cells

-- some cells more, and the rest
pub cells_step : (cuts : ℕ → ℕ → List ℤ) (boxes : List (List Span)) (i : ℕ) (box : List Span) → i < length boxes → get_or boxes i [] ≡ box
    → count_cells cuts i (drop i boxes) ≡ length (cells_of (cuts i) box) + count_cells cuts (i + 1) (drop (i + 1) boxes)
cells_step cuts boxes i box l at =
    let s : suc i ≡ i + 1 = omega arith in
    ap (count_cells cuts i) (drop_more boxes i [] l) ∙ (λ t. length (cells_of (cuts i) (at t)) + count_cells cuts (s t) (drop (i + 1) boxes))

pub cuts_more : (cuts : ℕ → ℕ → List ℤ) (boxes : List (List Span)) (i : ℕ) (box : List Span) → i < length boxes → get_or boxes i [] ≡ box
    → count_cuts cuts i (drop i boxes) ≡ cuts_from (cuts i) 0 box + count_cuts cuts (i + 1) (drop (i + 1) boxes)
cuts_more cuts boxes i box l at =
    let s : suc i ≡ i + 1 = omega arith in
    ap (count_cuts cuts i) (drop_more boxes i [] l) ∙ (λ t. cuts_from (cuts i) 0 (at t) + count_cuts cuts (s t) (drop (i + 1) boxes))

length_pieces : (b e : ℤ) (cs : List ℤ) → length (pieces b e cs) ≡ suc (length cs)
length_pieces b e [] = refl
length_pieces b e (c ∷ cs) = ap suc (length_pieces c e cs)

pub length_cells : (cuts : ℕ → List ℤ) (j : ℕ) (i : Span) (is : List Span) → length (cells_from cuts j (i ∷ is)) ≡ suc (length (cuts j)) * length (cells_from cuts (suc j) is)
length_cells cuts j i is =
    let rest : List (List Span) = cells_from cuts (suc j) is in
    length_each (λ (p : Span). map (λ ps. p ∷ ps) rest) (length rest) (λ p. length-map rest (λ ps. p ∷ ps)) (pieces i.0 i.1 (cuts j)) ∙ ap (λ m. m * length rest) (length_pieces i.0 i.1 (cuts j))

some_cells : (cuts : ℕ → List ℤ) (j : ℕ) (box : List Span) → 1 ≤ length (cells_from cuts j box)
some_cells cuts j [] = omega arith
some_cells cuts j (i ∷ is) =
    let e = length_cells cuts j i is in
    let rest = some_cells cuts (suc j) is in
    let w : 1 * length (cells_from cuts (suc j) is) ≤ suc (length (cuts j)) * length (cells_from cuts (suc j) is) = mul-le-mul_right (length (cells_from cuts (suc j) is)) (omega arith) in
    omega (arith, e, rest, w)

-- of c cuts more there are as many cells more at the least
more_cells : (c m n a all : ℕ) → 1 ≤ n → all ≡ suc c * n → a ≤ m * n → c + a ≤ suc m * all
more_cells c m n a all some e h =
    let u : c * 1 ≤ c * n = mul-le-mul_left c some in
    let v : m * n ≤ m * all = mul-le-mul_left m (let w : 1 * n ≤ suc c * n = mul-le-mul_right n (omega arith) in omega (arith, e, w)) in
    omega (arith, u, v, e, h)

cuts_within : (cuts : ℕ → List ℤ) (j : ℕ) (box : List Span) → cuts_from cuts j box ≤ length box * length (cells_from cuts j box)
cuts_within cuts j [] = omega arith
cuts_within cuts j (i ∷ is) =
    more_cells (length (cuts j)) (length is) (length (cells_from cuts (suc j) is)) (cuts_from cuts (suc j) is) (length (cells_from cuts j (i ∷ is)))
    (some_cells cuts (suc j) is) (length_cells cuts j i is) (cuts_within cuts (suc j) is)

-- at most a cut for each side of each cell
pub cuts_below : (k : ℕ) (cuts : ℕ → ℕ → List ℤ) (r : ℕ) (boxes : List (List Span)) → AllByRecursion (λ b. length b ≡ k) boxes → count_cuts cuts r boxes ≤ k * count_cells cuts r boxes
cuts_below k cuts r [] h = omega arith
cuts_below k cuts r (b ∷ bs) h =
    let one : cuts_from (cuts r) 0 b ≤ k * length (cells_of (cuts r) b) = subst (λ m. cuts_from (cuts r) 0 b ≤ m * length (cells_of (cuts r) b)) h.0 (cuts_within (cuts r) 0 b) in
    let rest = cuts_below k cuts (suc r) bs h.1 in
    omega (arith, one, rest)

-- the steps of the cuts and of the numbering of no more boxes than cells
pub rule_bound : (m n k old a b cuts : ℕ) → a ≤ old + cuts → cuts ≤ k * n → m ≤ n → b ≤ a + k * side_cost m → b ≤ old + bound n k
rule_bound m zero k old a b cuts h c l s =
    let z : m ≡ 0 = omega arith in
    let t : b ≤ a + k * side_cost 0 = subst (λ x. b ≤ a + k * side_cost x) z s in
    let u : k * side_cost 0 ≡ 0 = omega arith in
    let v : k * 0 ≡ 0 = omega arith in
    omega (arith, h, c, t, u, v)
rule_bound m (suc p) k old a b cuts h c l s =
    let n : ℕ = suc p in
    let w : 2 * m * binary_digits (2 * m) ≤ 2 * n * binary_digits (2 * n) = sort_within (2 * m) n (omega arith) in
    let one : side_cost m ≤ side_cost n = omega (arith, w, l) in
    let all : k * side_cost m ≤ k * side_cost n = mul-le-mul_left k one in
    let e : bound n k ≡ 2 * k * n * (binary_digits (2 * n) + 3) + (2 * n) ^ k = grind (arith, nat_tests) in
    let q : k * side_cost n + k * n ≡ 2 * k * n * (binary_digits (2 * n) + 3) = omega arith in
    omega (arith, h, c, s, all, e, q)

-- and of the cuts alone
pub no_pack_bound : (n k old a cuts : ℕ) → a ≤ old + cuts → cuts ≤ k * n → a ≤ old + bound n k
no_pack_bound n k old a cuts h c =
    let z : k * side_cost 0 ≡ 0 = omega arith in
    rule_bound 0 n k old a a cuts h c (omega arith) (omega (arith, z))

-- ---- boxes of the types

pub sides_long : {L T P : Type 0} (has : T → P → Type 0) (n : P → ℤ) (types : List T) (rows : List (L × List (P × P))) → All (λ b. IsBox has types b.1) rows
    → AllByRecursion (λ b. length b ≡ length types) (sides_numbers n rows)
sides_long has n types [] h = tt
sides_long has n types (x ∷ rows) h = (
  length-map x.1 (numbers_of n) ∙ box_length has types x.1 (All-head (λ b. IsBox has types b.1) x rows h),
  sides_long has n types rows (All-tail (λ b. IsBox has types b.1) x rows h),
)

pub cells_have : {L T P : Type 0} (has : T → P → Type 0) (n : P → ℤ) (types : List T) (cells : List (L × List (P × P))) → All (λ b. IsBox has types b.1) cells → AllHave (length types) (map (row_numbers n) cells)
cells_have has n types cells h =
    rows_have n (length types) cells (recursion_from_All (λ b. length b.1 ≡ length types) cells (λ j d l. box_length has types _ (h j d l)))

-- ---- the packed form

pub sorted_ascends : {X : Type 0} (cmp : X → X → Ordering) (xs : List X) → Ascends cmp xs → IsStrictlySortedBy cmp xs
unfolding IsStrictlySortedBy
sorted_ascends cmp [] h = tt
sorted_ascends cmp (x ∷ xs) h = (each xs h.0, sorted_ascends cmp xs h.1)
  where
    each : (ys : List _) → AllAfter cmp x ys → AllByRecursion (λ y. cmp x y ≡ Less) ys
    each [] a = tt
    each (y ∷ ys) a = (a.0, each ys a.1)

pub rule_form : {L F : Type 0} (order : L → L → Ordering) → IsTotalOrder order → Separates order → (k : ℕ) (f : ℕ → List ℤ → Result (Option L) F) (boxes : List (List Span)) (cells : List (Boxed L)) → AllHave k cells
    → ((l : L) (place : List ℤ) → InBoxes cells l place ↔ InRule f boxes l place) → IsRuleForm order k f boxes (packed_boxes order k cells)
rule_form order o same k f boxes cells have h = record {
  sorted = sorted_ascends (boxed_cmp order) (packed_boxes order k cells) (packed_ascends (boxed_cmp order) (boxed_total o) (boxed_separates same) k cells);
  members = λ x.
      let a = in_packed_form (boxed_cmp order) (boxed_total o) (boxed_separates same) k cells have x in
      let s = packs-iff k (points_of (InBoxes cells x.0)) (points_of (InRule f boxes x.0)) (points-iff (InBoxes cells x.0) (InRule f boxes x.0) (h x.0)) x.1 in
      (λ m. let v = a.0 m in (v.0, s.0 v.1), λ v. a.1 (v.0, s.1 v.1));
}
