-- Steps of cutting an interval into pieces.
use Rattle.std.proofs.Common.{◌≡◌, ℕ, zero, suc, ◌+◌, ◌≤◌, ◌<◌, ℤ, pos, ◌+ℤ◌, ◌-ℤ◌, ◌<ℤ◌, ◌≤ℤ◌, List, [], ◌∷◌, ◌++◌, map, drop, get_or, length, refl, sym, ap, ◌∙◌, subst, inl, inr, arith}
use Rattle.std.proofs.lemmas.Int.{ints, by_lt_z}
use Rattle.std.specs.List.{All, AllByRecursion, flat_map}
use Rattle.std.proofs.lemmas.List.{length-map}
use Rattle.std.proofs.lemmas.List.Elements.{recursion_from_All}
use Rattle.interval_core.specs.Members.{Span, HasEndsIn}
use Rattle.relation_core.proofs.FilterLemmas.{head_of}
use Rattle.cell_packing.specs.Covering.{Among}
use Rattle.cell_packing.proofs.AmongLemmas.{among_map, among_flat}
use Rattle.cell_core.specs.Boxes.{IsBox}
use Rattle.cell_core.specs.Cells.{box_numbers, boxes_of}
use Rattle.cell_core.specs.Numbering.{numbers_of}
use Rattle.u_row.specs.Cutting.{AreCuts, pieces, cells_from, cuts_from}

-- one more piece
pub piece_step : {P : Type 0} (n : P → ℤ) (e : ℤ) (b c : P) (cs : List P) (out : List (P × P)) (piece : P × P) → piece.0 ≡ b → n piece.1 +ℤ pos 1 ≡ n c
    → map (numbers_of n) (out ++ piece ∷ []) ++ pieces (n c) e (map n cs) ≡ map (numbers_of n) out ++ pieces (n b) e (map n (c ∷ cs))
piece_step n e b c cs [] piece p q =
    let last : n piece.1 ≡ n c -ℤ pos 1 = omega (arith, ints) in
    λ t. (n (p t), last t) ∷ pieces (n c) e (map n cs)
piece_step n e b c cs (o ∷ out) piece p q = ap (λ zs. numbers_of n o ∷ zs) (piece_step n e b c cs out piece p q)

-- a number from b to e is in one of the pieces
pub in_piece : (b e : ℤ) (cs : List ℤ) → AreCuts b e cs → (p : ℤ) → b ≤ℤ p → p ≤ℤ e → (i : Span) × Among i (pieces b e cs) × (i.0 ≤ℤ p) × (p ≤ℤ i.1)
in_piece b e [] h p l m = ((b, e), inl refl, l, m)
in_piece b e (c ∷ cs) h p l m =
    by_lt_z p c (λ u. ((b, c -ℤ pos 1), inl refl, l, omega (arith, ints))) (λ u. let w = in_piece c e cs h.2 p (omega (arith, ints)) m in (w.0, inr w.1, w.2, w.3))

-- a number of a piece is one from b to e
pub piece_in : (b e : ℤ) (cs : List ℤ) → AreCuts b e cs → (i : Span) → Among i (pieces b e cs) → (p : ℤ) → i.0 ≤ℤ p → p ≤ℤ i.1 → (b ≤ℤ p) × (p ≤ℤ e)
piece_in b e [] h i m p l u = elim m [
  | inl q ↦ (subst (λ (s : Span). s.0 ≤ℤ p) (sym q) l, subst (λ (s : Span). p ≤ℤ s.1) (sym q) u)
  | inr q ↦ absurd q
]
piece_in b e (c ∷ cs) h i m p l u =
    let below : b <ℤ c = h.0 in
    let within : c ≤ℤ e = h.1 in
    elim m [
      | inl q ↦
          let l' : b ≤ℤ p = subst (λ (s : Span). s.0 ≤ℤ p) (sym q) l in
          let u' : p ≤ℤ (c -ℤ pos 1) = subst (λ (s : Span). p ≤ℤ s.1) (sym q) u in
          (l', omega (arith, ints))
      | inr q ↦ let w = piece_in c e cs h.2 i q p l u in let a : c ≤ℤ p = w.0 in (omega (arith, ints), w.1)
    ]

-- a piece has its first number
pub piece_some : (b e : ℤ) (cs : List ℤ) → b ≤ℤ e → AreCuts b e cs → (i : Span) → Among i (pieces b e cs) → i.0 ≤ℤ i.1
piece_some b e [] o h i m = elim m [
  | inl q ↦ subst (λ (s : Span). s.0 ≤ℤ s.1) q o
  | inr q ↦ absurd q
]
piece_some b e (c ∷ cs) o h i m =
    let below : b <ℤ c = h.0 in
    let first : b ≤ℤ (c -ℤ pos 1) = omega (arith, ints) in
    elim m [
      | inl q ↦ subst (λ (s : Span). s.0 ≤ℤ s.1) q first
      | inr q ↦ piece_some c e cs h.1 h.2 i q
    ]

-- ---- the product of the pieces of all sides

-- a step of a list made by rows of others
pub flat_step : {X Y : Type 0} (f : X → List Y) (xs : List X) (i : ℕ) (x : X) (out new : List Y) → i < length xs → x ≡ get_or xs i x → new ≡ out ++ f x
    → new ++ flat_map f (drop (i + 1) xs) ≡ out ++ flat_map f (drop i xs)
flat_step f xs i x out new l e push =
    (λ t. push t ++ flat_map f (drop (i + 1) xs)) ∙ assoc out ∙ ap (λ ys. out ++ flat_map f ys) (sym (head_of xs i x l e))
  where
    assoc : (ys : List _) → (ys ++ f x) ++ flat_map f (drop (i + 1) xs) ≡ ys ++ (f x ++ flat_map f (drop (i + 1) xs))
    assoc [] = refl
    assoc (y ∷ ys) = ap (λ zs. y ∷ zs) (assoc ys)

first_numbers : {P : Type 0} (n : P → ℤ) (p : P × P) (out : List (List (P × P))) → boxes_of n (map (λ s. p ∷ s) out) ≡ map (λ s. numbers_of n p ∷ s) (boxes_of n out)
first_numbers n p [] = refl
first_numbers n p (o ∷ out) = ap (λ zs. (numbers_of n p ∷ box_numbers n o) ∷ zs) (first_numbers n p out)

boxes_append : {P : Type 0} (n : P → ℤ) (xs ys : List (List (P × P))) → boxes_of n (xs ++ ys) ≡ boxes_of n xs ++ boxes_of n ys
boxes_append n [] ys = refl
boxes_append n (x ∷ xs) ys = ap (λ zs. box_numbers n x ∷ zs) (boxes_append n xs ys)

boxes_flat : {P : Type 0} (n : P → ℤ) (out : List (List (P × P))) (ps : List (P × P))
    → boxes_of n (flat_map (λ p. map (λ s. p ∷ s) out) ps) ≡ flat_map (λ p. map (λ s. p ∷ s) (boxes_of n out)) (map (numbers_of n) ps)
boxes_flat n out [] = refl
boxes_flat n out (p ∷ ps) =
    boxes_append n (map (λ s. p ∷ s) out) (flat_map (λ q. map (λ s. q ∷ s) out) ps) ∙ (λ t. first_numbers n p out t ++ boxes_flat n out ps t)

numbers_at : {P : Type 0} (n : P → ℤ) (box : List (P × P)) (j : ℕ) (i : P × P) → j < length box → i ≡ get_or box j i → drop j (box_numbers n box) ≡ numbers_of n i ∷ drop (suc j) (box_numbers n box)
numbers_at n [] j i l e = absurd (omega arith)
numbers_at n (b ∷ box) zero i l e = λ t. numbers_of n (sym e t) ∷ box_numbers n box
numbers_at n (b ∷ box) (suc j) i l e = numbers_at n box j i (omega arith) e

module _ {P : Type 0} (n : P → ℤ) (cuts : ℕ → List ℤ) (box : List (P × P)) (m j : ℕ) (i : P × P) (after : m ≡ j + 1) (l : j < length box) (e : i ≡ get_or box j i) where
  -- one more side before the others
  pub product_step : (ps : List (P × P)) (out : List (List (P × P))) → map (numbers_of n) ps ≡ pieces (n i.0) (n i.1) (cuts j) → boxes_of n out ≡ cells_from cuts m (drop m (box_numbers n box))
      → boxes_of n (flat_map (λ p. map (λ s. p ∷ s) out) ps) ≡ cells_from cuts j (drop j (box_numbers n box))
  product_step ps out pe oe =
      let s : m ≡ suc j = omega arith in
      boxes_flat n out ps ∙ (λ t. flat_map (λ p. map (λ s. p ∷ s) (oe t)) (pe t))
      ∙ ap (λ r. flat_map (λ p. map (λ s. p ∷ s) (cells_from cuts r (drop m (box_numbers n box)))) (pieces (n i.0) (n i.1) (cuts j))) s
      ∙ ap (λ r. flat_map (λ p. map (λ s. p ∷ s) (cells_from cuts (suc j) (drop r (box_numbers n box)))) (pieces (n i.0) (n i.1) (cuts j))) s
      ∙ ap (cells_from cuts j) (sym (numbers_at n box j i l e))

  pub cuts_step : cuts_from cuts j (drop j (box_numbers n box)) ≡ length (cuts j) + cuts_from cuts m (drop m (box_numbers n box))
  cuts_step =
      let s : suc j ≡ m = omega arith in
      ap (cuts_from cuts j) (numbers_at n box j i l e) ∙ ap (λ r. length (cuts j) + cuts_from cuts r (drop r (box_numbers n box))) s

pub of_among : {X : Type 0} (Q : X → Type 0) (xs : List X) → All Q xs → (x : X) → Among x xs → Q x
of_among Q xs h = go xs (recursion_from_All Q xs h)
  where
    go : (ys : List _) → AllByRecursion Q ys → (x : _) → Among x ys → Q x
    go [] a x m = absurd m
    go (y ∷ ys) a x m = elim m [ inl q ↦ subst Q q a.0 | inr w ↦ go ys a.1 x w ]

-- and its boxes are of the types
pub product_boxes : {T P : Type 0} (has : T → P → Type 0) (ts : List T) (m j : ℕ) (t : T) → m ≡ j + 1 → j < length ts → t ≡ get_or ts j t → (ps : List (P × P)) (out : List (List (P × P))) → All (HasEndsIn has t) ps
    → ((s : List (P × P)) → Among s out → IsBox has (drop m ts) s) → (s : List (P × P)) → Among s (flat_map (λ p. map (λ s. p ∷ s) out) ps) → IsBox has (drop j ts) s
product_boxes has ts m j t after l e ps out hp ho s h =
    let w = (among_flat (λ p. map (λ s. p ∷ s) out) s ps).0 h in
    let v = (among_map (λ s. w.0 ∷ s) s out).0 w.2 in
    let rest = subst (λ r. IsBox has (drop r ts) v.0) after (ho v.0 v.1) in
    subst (λ us. IsBox has us s) (sym (head_of ts j t l e)) (subst (IsBox has (t ∷ drop (j + 1) ts)) v.2 (of_among (HasEndsIn has t) ps hp w.0 w.1, rest))

-- the cuts of the sides from one on are no more than those of all
pub cuts_rest : (cuts : ℕ → List ℤ) (i : ℕ) (box : List Span) (j r : ℕ) → r ≡ i + j → cuts_from cuts r (drop j box) ≤ cuts_from cuts i box
cuts_rest cuts i box zero r e =
    let q : r ≡ i = omega arith in
    subst (λ s. cuts_from cuts s box ≤ cuts_from cuts i box) (sym q) (reflexive (cuts_from cuts i box))
  where
    reflexive : (m : ℕ) → m ≤ m
    reflexive m = omega arith
cuts_rest cuts i [] (suc j) r e = omega arith
cuts_rest cuts i (b ∷ box) (suc j) r e =
    let ih : cuts_from cuts r (drop j box) ≤ cuts_from cuts (suc i) box = cuts_rest cuts (suc i) box j r (omega arith) in
    omega (arith, ih)

pub drop_all : {X : Type 0} (xs : List X) (m : ℕ) → length xs ≤ m → drop m xs ≡ []
drop_all [] zero h = refl
drop_all [] (suc m) h = refl
drop_all (x ∷ xs) zero h = absurd (omega arith)
drop_all (x ∷ xs) (suc m) h = drop_all xs m (omega arith)

-- no side yet: one box without sides
pub no_side : {P : Type 0} (n : P → ℤ) (cuts : ℕ → List ℤ) (box : List (P × P)) (k : ℕ) → length box ≡ k → [] ∷ [] ≡ cells_from cuts k (drop k (box_numbers n box))
no_side n cuts box k e =
    let same = length-map box (numbers_of n) in
    ap (cells_from cuts k) (sym (drop_all (box_numbers n box) k (omega (arith, same, e))))

pub bare_box : {T P : Type 0} (has : T → P → Type 0) (ts : List T) (s : List (P × P)) → Among s ([] ∷ []) → IsBox has (drop (length ts) ts) s
bare_box has ts s m =
    let none : drop (length ts) ts ≡ [] = drop_all ts (length ts) (reflexive (length ts)) in
    elim m [ inl e ↦ subst (λ us. IsBox has us s) (sym none) (subst (IsBox has []) e tt) | inr w ↦ absurd w ]
  where
    reflexive : (m : ℕ) → m ≤ m
    reflexive m = omega arith
