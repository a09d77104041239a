-- Rows by their labels, and the numbers that stand for these.
use Rattle.std.proofs.Common.{◌≡◌, ◌≢◌, ◌↔◌, ◌⊎◌, inl, inr, ℕ, zero, suc, ◌+◌, ◌<◌, ◌≤◌, Bool, true, false, List, [], ◌∷◌, ◌++◌, map, length, get_or, set, arith, refl, sym, ap, ◌∙◌, subst}
use Rattle.std.specs.Prelude.{if◌then◌else◌}
use Rattle.std.specs.Ordering.{eq_by_cmp, is_lt}
use Rattle.std.specs.declared.cmp.Ordering.{Ordering}
use Rattle.std.specs.declared.cmp.Ordering.TheVariants.{Less, Equal, Greater}
use Rattle.std.proofs.lemmas.Bool.{cases_lt, cases_Bool}
use Rattle.std.proofs.lemmas.Cmp.{tied_itself}
use Rattle.std.proofs.lemmas.List.{get_or_default, get_or-set_same, get_or-set_other, length-map}
use Rattle.std.specs.List.{All}
use Rattle.std.specs.List.Sorted.{IsPermutation, IsSortedBy}
use Rattle.base_core.proofs.MemberLemmas.{eq_by_cmp-≡}
use Rattle.value_core.specs.Order.{row_total, row_separates}
use Rattle.value_core.specs.Values.{Row, row_cmp}
use Rattle.relation_core.specs.Agreement.{part_of}
use Rattle.cell_packing.specs.Covering.{Among}
use Rattle.cell_packing.proofs.AmongLemmas.{among_append, all_from_members}
use Rattle.cell_sweep.specs.Rows.{key_cmp}
use Rattle.cell_boxes.specs.Answers.{PlainKeyedCellBox}
use Rattle.cell_boxes.specs.Keys.{key_of, keyed_cmp}
use Rattle.cell_boxes.specs.Rows.{Ascend, IsRow, PlainCellBox}
use Rattle.cell_boxes.proofs.RowLemmas.{some_row, among_row, row_among, map_row, ascend_from_sorted}
use Rattle.cell_boxes.proofs.OperatorLemmas.{keys_ascend}
use Rattle.cell_sweep.proofs.MovedLemmas.{among_moved}
use Rattle.u_summarize.specs.Entries.{Listed, row_at, entry_at, bare_row, part_row, standing, turn, numbered_row, AreDealt, AreStanding, AreKeyed, AreArranged}

-- ---- lists that are made one by one

pub listed_more : {Z : Type 0} (f : ℕ → Z) (old new : List Z) (r : ℕ) (y : Z) → y ≡ f r → new ≡ old ++ y ∷ [] → Listed f r old → Listed f (r + 1) new
listed_more f old new r y made e is z =
    let a = among_append z old (y ∷ []) in
    let b = is z in (
      λ h. elim (a.0 (subst (Among z) e h)) [
        | inl m ↦ let w = b.0 m in let l = w.1 in (w.0, omega (arith, l), w.2)
        | inr m ↦ elim m [
          | inl q ↦ (r, omega arith, sym q ∙ made)
          | inr q ↦ absurd q
        ]
      ],
      λ h.
          let l = h.1 in
          subst (Among z) (sym e) (a.1 (elim (cases_lt h.0 r) [
            | inl w ↦ inl (b.1 (h.0, w, h.2))
            | inr w ↦ let n : h.0 ≡ r = omega (arith, l, w) in inr (inl (made ∙ ap f (sym n) ∙ sym h.2))
          ])),
    )

pub bare_is : (rows : List (PlainCellBox Row)) (r m : ℕ) (x : PlainCellBox Row) (y : PlainKeyedCellBox Row ℕ) → get_or rows r ([], []) ≡ x → m ≡ r → y ≡ (x.0, m, []) → y ≡ bare_row rows r
bare_is rows r m x y at e made = made ∙ ap (λ (w : PlainCellBox Row). (w.0, m, [])) (sym at) ∙ ap (λ (k : ℕ). ((row_at rows r).0, k, [])) e

pub numbered_is : (rows : List (PlainCellBox Row)) (numbers : List ℕ) (r m : ℕ) (x : PlainCellBox Row) (y : PlainKeyedCellBox Row ℕ) → get_or rows r ([], []) ≡ x → m ≡ get_or numbers r 0 → y ≡ (x.0, m, x.1) → y ≡ numbered_row rows numbers r
numbered_is rows numbers r m x y at e made = made ∙ ap (λ (w : PlainCellBox Row). (w.0, m, w.1)) (sym at) ∙ ap (λ k. ((row_at rows r).0, k, (row_at rows r).1)) e

-- ---- numbers that are put at the places that numbers name

pub dealt_more : (labels : List (PlainKeyedCellBox Row ℕ)) (out new : List ℕ) (i s : ℕ) → (entry_at labels i).1 < length out → s ≡ standing labels i → new ≡ set out (entry_at labels i).1 s → AreDealt labels i out → AreDealt labels (i + 1) new
dealt_more labels out new i s low is made before = λ j l. elim (cases_eq (number j) (number i)) [
  | inl e ↦ (
    i,
    omega arith,
    sym e,
    ap (λ (xs : List ℕ). get_or xs (number j) 0) made ∙ ap (λ k. get_or (set out (number i) s) k 0) e ∙ get_or-set_same out (number i) s 0 low ∙ is,
  )
  | inr n ↦ elim (cases_lt j i) [
    | inl k ↦ let w = before j k in let b = w.1 in (
      w.0,
      omega (arith, b),
      w.2,
      ap (λ (xs : List ℕ). get_or xs (number j) 0) made ∙ get_or-set_other out (number i) (number j) s 0 n ∙ w.3,
    )
    | inr k ↦ let q : j ≡ i = omega (arith, l, k) in absurd (n (ap number q))
  ]
]
  where
    number : ℕ → ℕ
    number j = (entry_at labels j).1

    cases_eq : (x y : ℕ) → (x ≡ y) ⊎ (x ≡ y → ⊥)
    cases_eq x y = elim (cases_lt x y) [
      | inl k ↦ inr (λ e. omega (arith, k, e))
      | inr k ↦ elim (cases_lt y x) [
        | inl h ↦ inr (λ e. omega (arith, h, e))
        | inr h ↦ inl (omega (arith, k, h))
      ]
    ]

-- ---- rows that stand in order, with their numbers

pub stand : (rows : List (PlainCellBox Row)) → ((k : ℕ) → k + 1 < length rows → is_lt (key_cmp row_cmp (row_at rows (k + 1)) (row_at rows k)) ≡ false) → Ascend row_cmp rows
stand rows each = ascend_from_sorted row_cmp row_total rows (λ k d low high.
    subst (λ x. is_lt (key_cmp row_cmp x (get_or rows k d)) ≡ false) (get_or_default rows (k + 1) ([], []) d high)
    (subst (λ y. is_lt (key_cmp row_cmp (row_at rows (k + 1)) y) ≡ false) (get_or_default rows k ([], []) d (omega (arith, high))) (each k high)))

-- the rows and their numbers, as entries
abbrev zipped : List (PlainCellBox Row) → List ℕ → List (PlainKeyedCellBox Row ℕ)
zipped [] ms = []
zipped (x ∷ xs) [] = []
zipped (x ∷ xs) (m ∷ ms) = (x.0, m, x.1) ∷ zipped xs ms

zipped_from : (xs : List (PlainCellBox Row)) (ms : List ℕ) (i : ℕ) (x : PlainCellBox Row) (m : ℕ) → IsRow xs i x → IsRow ms i m → Among (x.0, m, x.1) (zipped xs ms)
zipped_from [] ms i x m a b = absurd (let l = a.0 in omega (arith, l))
zipped_from (y ∷ ys) [] i x m a b = absurd (let l = b.0 in omega (arith, l))
zipped_from (y ∷ ys) (n ∷ ns) zero x m a b = inl (λ t. ((a.1 t).0, b.1 t, (a.1 t).1))
zipped_from (y ∷ ys) (n ∷ ns) (suc i) x m a b = let k = a.0 in let l = b.0 in inr (zipped_from ys ns i x m (omega (arith, k), a.1) (omega (arith, l), b.1))

zipped_to : (xs : List (PlainCellBox Row)) (ms : List ℕ) (z : PlainKeyedCellBox Row ℕ) → Among z (zipped xs ms) → (i : ℕ) × IsRow xs i (z.0, z.2) × IsRow ms i z.1
zipped_to [] ms z h = absurd h
zipped_to (y ∷ ys) [] z h = absurd h
zipped_to (y ∷ ys) (n ∷ ns) z h = elim h [
  | inl e ↦ (zero, (omega arith, λ t. ((e t).0, (e t).2)), (omega arith, ap (λ (w : PlainKeyedCellBox Row ℕ). w.1) e))
  | inr m ↦ let w = zipped_to ys ns z m in let a = w.1.0 in let b = w.2.0 in (suc w.0, (omega (arith, a), w.1.1), (omega (arith, b), w.2.1))
]

pub in_turn : (rows : List (PlainCellBox Row)) (numbers : List ℕ) → length numbers ≡ length rows → AreArranged rows numbers rows numbers
in_turn rows numbers many = record {
  entries = zipped rows numbers;
  listed = λ z. (
    λ h.
        let w = zipped_to rows numbers z h in
        let x : PlainCellBox Row = (z.0, z.2) in
        let k : row_at rows w.0 ≡ x = get_or_default rows w.0 ([], []) x w.1.0 ∙ w.1.1 in
        let n : get_or numbers w.0 0 ≡ z.1 = get_or_default numbers w.0 0 z.1 w.2.0 ∙ w.2.1 in
        (w.0, w.1.0, λ t. ((sym k t).0, sym n t, (sym k t).1)),
    λ h.
        let l = h.1 in
        subst (λ y. Among y (zipped rows numbers)) (sym h.2)
        (zipped_from rows numbers h.0 (row_at rows h.0) (get_or numbers h.0 0) (some_row rows h.0 ([], []) l) (some_row numbers h.0 0 (omega (arith, l, many)))),
  );
  paired = record { count = many; from = λ i x m a b. zipped_from rows numbers i x m a b; to = λ z h. zipped_to rows numbers z h };
}

-- ---- numbers that stand for labels

module _ (rows : List (PlainCellBox Row)) (given : List (PlainKeyedCellBox Row ℕ)) (are : Listed (bare_row rows) (length rows) given)
    (list : List (PlainKeyedCellBox Row ℕ)) (moved : IsPermutation given list) (order : IsSortedBy (λ x y. is_lt (keyed_cmp row_cmp x y)) list) where
  abbrev none : PlainCellBox Row
  none = ([], [])

  abbrev no_entry : PlainKeyedCellBox Row ℕ
  no_entry = ([], 0, [])

  abbrev label_of : ℕ → Row
  label_of i = (entry_at list i).0

  abbrev number_of : ℕ → ℕ
  number_of i = (entry_at list i).1

  same_test : (i j : ℕ) → (eq_by_cmp row_cmp (label_of i) (label_of j) ≡ true) ↔ (label_of i ≡ label_of j)
  same_test i j = eq_by_cmp-≡ row_cmp row_total row_separates (label_of i) (label_of j)

  same : (z : PlainKeyedCellBox Row ℕ) → Among z list ↔ Among z given
  same z = among_moved given list moved z

  -- the row with the number of a label has it
  own : (z : PlainKeyedCellBox Row ℕ) → Among z list → (z.1 < length rows) × (z.0 ≡ (row_at rows z.1).0)
  own z h =
      let w = (are z).0 ((same z).0 h) in
      let e : z.1 ≡ w.0 = ap (λ (x : PlainKeyedCellBox Row ℕ). x.1) w.2 in (
        subst (λ k. k < length rows) (sym e) w.1,
        ap (λ (x : PlainKeyedCellBox Row ℕ). x.0) w.2 ∙ ap (λ r. (row_at rows r).0) (sym e),
      )

  own_row : (i : ℕ) → i < length list → (number_of i < length rows) × (label_of i ≡ (row_at rows (number_of i)).0)
  own_row i l = own (entry_at list i) (row_among list i (entry_at list i) (some_row list i no_entry l))

  pub numbers_within : All (λ (z : PlainKeyedCellBox Row ℕ). z.1 < length rows) list
  numbers_within = all_from_members (λ (z : PlainKeyedCellBox Row ℕ). z.1 < length rows) list (λ z h. (own z h).0)

  up : Ascend row_cmp (map key_of list)
  up = keys_ascend row_cmp row_total given list moved (map key_of list) (map (λ (z : PlainKeyedCellBox Row ℕ). z.1) list) refl refl order

  chosen : (b : Bool) (x y : ℕ) → (b ≡ true → (if b then x else y) ≡ x) × (b ≡ false → (if b then x else y) ≡ y)
  chosen true x y = (λ e. refl, λ e. absurd cc)
  chosen false x y = (λ e. absurd cc, λ e. refl)

  stands_for : (i : ℕ) → i < length list → (standing list i < length rows) × ((row_at rows (standing list i)).0 ≡ label_of i)
  stands_for zero l = let w = own_row 0 l in (w.0, sym w.1)
  stands_for (suc i) l =
      let t = eq_by_cmp row_cmp (label_of i) (label_of (suc i)) in
      let ch = chosen t (standing list i) (number_of (suc i)) in
      elim (cases_Bool t) [
        | inl e ↦
            let w = stands_for i (omega (arith, l)) in
            let q = ch.0 e in (
              subst (λ m. m < length rows) (sym q) w.0,
              ap (λ m. (row_at rows m).0) q ∙ w.1 ∙ (same_test i (suc i)).0 e,
            )
        | inr e ↦
            let w = own_row (suc i) l in
            let q = ch.1 e in (
              subst (λ m. m < length rows) (sym q) w.0,
              ap (λ m. (row_at rows m).0) q ∙ sym w.1,
            )
      ]

  key_row : (i : ℕ) → i < length list → IsRow (map key_of list) i (key_of (entry_at list i))
  key_row i l = map_row key_of list i (entry_at list i) (some_row list i no_entry l)

  before_or_same : (i j : ℕ) → i ≤ j → j < length list → (row_cmp (label_of i) (label_of j) ≡ Less) ⊎ (label_of i ≡ label_of j)
  before_or_same i j l m = elim (up i j (key_of (entry_at list i)) (key_of (entry_at list j)) l (key_row i (omega (arith, l, m))) (key_row j m)) [
    | inl e ↦ inl e
    | inr w ↦ inr (row_separates (label_of i) (label_of j) w.0)
  ]

  -- what stands between equal labels is equal
  between : (i j k : ℕ) → i ≤ j → j ≤ k → k < length list → label_of i ≡ label_of k → label_of i ≡ label_of j
  between i j k l m n e = elim (before_or_same i j l (omega (arith, m, n))) [
    | inl a ↦ elim (before_or_same j k m n) [
      | inl b ↦ absurd (not_both (label_of i) (label_of j) a (subst (λ x. row_cmp (label_of j) x ≡ Less) (sym e) b))
      | inr b ↦ e ∙ sym b
    ]
    | inr a ↦ a
  ]
    where
      not_both : (x y : Row) → row_cmp x y ≡ Less → row_cmp y x ≡ Less → ⊥
      not_both x y a b = let e : Less ≡ Equal = sym (row_total.trans x y x a b) ∙ tied_itself row_total x in cc

  one_stands : (i j : ℕ) → i ≤ j → j < length list → label_of i ≡ label_of j → standing list i ≡ standing list j
  one_stands i zero l m e = let q : i ≡ 0 = omega (arith, l) in ap (standing list) q
  one_stands i (suc j) l m e = elim (cases_lt i (suc j)) [
    | inl k ↦
        let b = between i j (suc j) (omega (arith, k)) (omega arith) m e in
        let s = (chosen (eq_by_cmp row_cmp (label_of j) (label_of (suc j))) (standing list j) (number_of (suc j))).0 ((same_test j (suc j)).1 (sym b ∙ e)) in
        one_stands i j (omega (arith, k)) (omega (arith, m)) b ∙ sym s
    | inr k ↦ let q : i ≡ suc j = omega (arith, k, l) in ap (standing list) q
  ]

  module _ (out : List ℕ) (dealt : AreDealt list (length list) out) where
    -- what is put for a row stands for its label
    placed : (r : ℕ) → r < length rows → (k : ℕ) × (k < length list) × (get_or out r 0 ≡ standing list k) × (label_of k ≡ (row_at rows r).0)
    placed r l =
        let m : Among (bare_row rows r) given = (are (bare_row rows r)).1 (r, l, refl) in
        let w = among_row list (bare_row rows r) ((same (bare_row rows r)).1 m) in
        let d = dealt w.0 w.1.0 in
        let e : entry_at list w.0 ≡ bare_row rows r = get_or_default list w.0 no_entry (bare_row rows r) w.1.0 ∙ w.1.1 in
        let n : number_of w.0 ≡ r = ap (λ (x : PlainKeyedCellBox Row ℕ). x.1) e in (
          d.0,
          d.1,
          ap (λ x. get_or out x 0) (sym n) ∙ d.3,
          (own_row d.0 d.1).1 ∙ ap (λ x. (row_at rows x).0) (d.2 ∙ n),
        )

    -- it is the number of a row with its label
    put : (r : ℕ) → r < length rows → (get_or out r 0 < length rows) × ((row_at rows (get_or out r 0)).0 ≡ (row_at rows r).0)
    put r l =
        let p = placed r l in
        let s = stands_for p.0 p.1 in (
          subst (λ k. k < length rows) (sym p.2) s.0,
          ap (λ k. (row_at rows k).0) p.2 ∙ s.1 ∙ p.3,
        )

    one_put : (r q : ℕ) → r < length rows → q < length rows → (row_at rows r).0 ≡ (row_at rows q).0 → get_or out r 0 ≡ get_or out q 0
    one_put r q l m e =
        let a = placed r l in
        let b = placed q m in
        let same : label_of a.0 ≡ label_of b.0 = a.3 ∙ e ∙ sym b.3 in
        a.2 ∙ elim (cases_lt a.0 b.0) [
          | inl k ↦ one_stands a.0 b.0 (omega (arith, k)) b.1 same
          | inr k ↦ sym (one_stands b.0 a.0 k a.1 (sym same))
        ] ∙ sym b.2

    pub stands_all : length out ≡ length rows → AreStanding rows out
    stands_all count = record { count = count; has = put; one = one_put }

-- ---- rows that stand by their labels

module _ (rows : List (PlainCellBox Row)) (n : ℕ) (within : n ≤ length rows) (order : (j : ℕ) → suc j < n → row_cmp (row_at rows j).0 (row_at rows (suc j)).0 ≢ Greater) where
  abbrev name : ℕ → Row
  name r = (row_at rows r).0

  turned : (b : Bool) (x y : ℕ) → (b ≡ true → (if b then x else y) ≡ x) × (b ≡ false → (if b then x else y) ≡ y)
  turned true x y = (λ e. refl, λ e. absurd cc)
  turned false x y = (λ e. absurd cc, λ e. refl)

  same_name : (i j : ℕ) → (eq_by_cmp row_cmp (name i) (name j) ≡ true) ↔ (name i ≡ name j)
  same_name i j = eq_by_cmp-≡ row_cmp row_total row_separates (name i) (name j)

  -- the number is that of a row with the label, and of none after it
  turn_of : (r : ℕ) → (turn rows r ≤ r) × (name (turn rows r) ≡ name r)
  turn_of zero = (omega arith, refl)
  turn_of (suc r) =
      let t = eq_by_cmp row_cmp (name r) (name (suc r)) in
      let ch = turned t (turn rows r) (suc r) in
      elim (cases_Bool t) [
        | inl e ↦ let w = turn_of r in let l = w.0 in let q = ch.0 e in (omega (arith, l, q), ap name q ∙ w.1 ∙ (same_name r (suc r)).0 e)
        | inr e ↦ let q = ch.1 e in (omega (arith, q), ap name q)
      ]

  less_or_same : (x y : Row) → row_cmp x y ≢ Greater → (row_cmp x y ≡ Less) ⊎ (x ≡ y)
  less_or_same x y h = go (row_cmp x y) refl
    where
      go : (o : Ordering) → row_cmp x y ≡ o → (row_cmp x y ≡ Less) ⊎ (x ≡ y)
      go Less e = inl e
      go Equal e = inr (row_separates x y e)
      go Greater e = absurd (h e)

  ahead_or_same : (i j : ℕ) → i ≤ j → j < n → (row_cmp (name i) (name j) ≡ Less) ⊎ (name i ≡ name j)
  ahead_or_same i zero l m = let q : i ≡ 0 = omega (arith, l) in inr (ap name q)
  ahead_or_same i (suc j) l m = elim (cases_lt i (suc j)) [
    | inl k ↦ elim (ahead_or_same i j (omega (arith, k)) (omega (arith, m))) [
      | inl a ↦ elim (less_or_same (name j) (name (suc j)) (order j m)) [
        | inl b ↦ inl (row_total.trans (name i) (name j) (name (suc j)) a b)
        | inr b ↦ inl (subst (λ x. row_cmp (name i) x ≡ Less) b a)
      ]
      | inr a ↦ subst (λ x. (row_cmp x (name (suc j)) ≡ Less) ⊎ (x ≡ name (suc j))) (sym a) (less_or_same (name j) (name (suc j)) (order j m))
    ]
    | inr k ↦ let q : i ≡ suc j = omega (arith, k, l) in inr (ap name q)
  ]

  -- what stands between equal labels is equal
  amid : (i j k : ℕ) → i ≤ j → j ≤ k → k < n → name i ≡ name k → name i ≡ name j
  amid i j k l m b e = elim (ahead_or_same i j l (omega (arith, m, b))) [
    | inl x ↦ elim (ahead_or_same j k m b) [
      | inl y ↦ absurd (never (name i) (name j) x (subst (λ z. row_cmp (name j) z ≡ Less) (sym e) y))
      | inr y ↦ e ∙ sym y
    ]
    | inr x ↦ x
  ]
    where
      never : (x y : Row) → row_cmp x y ≡ Less → row_cmp y x ≡ Less → ⊥
      never x y a b = let e : Less ≡ Equal = sym (row_total.trans x y x a b) ∙ tied_itself row_total x in cc

  one_turn : (i j : ℕ) → i ≤ j → j < n → name i ≡ name j → turn rows i ≡ turn rows j
  one_turn i zero l m e = let q : i ≡ 0 = omega (arith, l) in ap (turn rows) q
  one_turn i (suc j) l m e = elim (cases_lt i (suc j)) [
    | inl k ↦
        let b = amid i j (suc j) (omega (arith, k)) (omega arith) m e in
        let s = (turned (eq_by_cmp row_cmp (name j) (name (suc j))) (turn rows j) (suc j)).0 ((same_name j (suc j)).1 (sym b ∙ e)) in
        one_turn i j (omega (arith, k)) (omega (arith, m)) b ∙ sym s
    | inr k ↦ let q : i ≡ suc j = omega (arith, k, l) in ap (turn rows) q
  ]

  pub stands_in_turn : (out : List ℕ) → length out ≡ length rows → n ≡ length rows → ((r : ℕ) → r < n → get_or out r 0 ≡ turn rows r) → AreStanding rows out
  stands_in_turn out count all each = record {
    count = count;
    has = λ r l.
        let k : r < n = subst (λ m. r < m) (sym all) l in
        let w = turn_of r in
        let b = w.0 in
        let e = each r k in
        (omega (arith, l, b, e), ap name e ∙ w.1);
    one = λ r s l m e.
        let a : r < n = subst (λ k. r < k) (sym all) l in
        let b : s < n = subst (λ k. s < k) (sym all) m in
        each r a ∙ elim (cases_lt r s) [
          | inl k ↦ one_turn r s (omega (arith, k)) b e
          | inr k ↦ sym (one_turn s r k a (sym e))
        ] ∙ sym (each s b);
  }

-- ---- rows under the parts of their labels

module _ (rows : List (PlainCellBox Row)) (out : List ℕ) (are : AreStanding rows out) where
  abbrev blank : PlainCellBox Row
  blank = ([], [])

  part_at : (by : List ℕ) (r : ℕ) → r < length rows → row_at (map (part_row by) rows) r ≡ part_row by (row_at rows r)
  part_at by r l = let w = map_row (part_row by) rows r (row_at rows r) (some_row rows r blank l) in get_or_default (map (part_row by) rows) r blank (part_row by (row_at rows r)) w.0 ∙ w.1

  pub keyed : (by : List ℕ) (entries : List (PlainKeyedCellBox Row ℕ)) → Listed (numbered_row (map (part_row by) rows) out) (length (map (part_row by) rows)) entries → AreKeyed by rows entries
  keyed by entries made = record {
    within = λ z m. let w = come z m in subst (λ k. k < length rows) (sym (number_of z w.0 w.2)) (are.has w.0 w.1).0;
    from = λ z m. let w = come z m in (
      w.0,
      w.1,
      ap (λ (x : PlainKeyedCellBox Row ℕ). x.2) w.2,
      ap (λ k. (row_at rows k).0) (number_of z w.0 w.2) ∙ (are.has w.0 w.1).1,
      ap (λ (x : PlainKeyedCellBox Row ℕ). x.0) w.2,
    );
    to = λ r l. (
      row_of r,
      (made (row_of r)).1 (r, subst (λ k. r < k) (sym count) l, sym (made_at r l)),
      refl,
      (are.has r l).1,
    );
    one = λ z w m n e.
        let a = come z m in
        let b = come w n in
        let ea = number_of z a.0 a.2 in
        let eb = number_of w b.0 b.2 in
        let la = (are.has a.0 a.1).1 in
        let lb = (are.has b.0 b.1).1 in
        let same : (row_at rows a.0).0 ≡ (row_at rows b.0).0 = sym la ∙ ap (λ k. (row_at rows k).0) (sym ea) ∙ e ∙ ap (λ k. (row_at rows k).0) eb ∙ lb in
        ea ∙ are.one a.0 b.0 a.1 b.1 same ∙ sym eb;
  }
    where
      count : length (map (part_row by) rows) ≡ length rows
      count = length-map rows (part_row by)

      row_of : ℕ → PlainKeyedCellBox Row ℕ
      row_of r = (part_of by (row_at rows r).0, get_or out r 0, (row_at rows r).1)

      made_at : (r : ℕ) → r < length rows → numbered_row (map (part_row by) rows) out r ≡ row_of r
      made_at r l = ap (λ (x : PlainCellBox Row). (x.0, get_or out r 0, x.1)) (part_at by r l)

      come : (z : PlainKeyedCellBox Row ℕ) → Among z entries → (r : ℕ) × (r < length rows) × (z ≡ row_of r)
      come z m = let w = (made z).0 m in let l = subst (λ k. w.0 < k) count w.1 in (w.0, l, w.2 ∙ made_at w.0 l)

      number_of : (z : PlainKeyedCellBox Row ℕ) (r : ℕ) → z ≡ row_of r → z.1 ≡ get_or out r 0
      number_of z r e = ap (λ (x : PlainKeyedCellBox Row ℕ). x.1) e
