-- Rows of one key whose intervals overlap cover as one row what they cover.
use Rattle.std.proofs.Common.{◌≡◌, ◌↔◌, ◌⊎◌, inl, inr, ℕ, zero, suc, ℤ, ◌≤ℤ◌, List, [], ◌∷◌, ◌++◌, length, refl, sym, ap, ◌∙◌, subst, arith}
use Rattle.std.specs.Int.{int_max}
use Rattle.std.specs.declared.cmp.Ordering.TheVariants.{Less, Equal}
use Rattle.std.proofs.lemmas.Cmp.{alike_right, tied_itself}
use Rattle.std.proofs.lemmas.Int.{ints, clamps, by_lt_z}
use Rattle.interval_core.specs.Members.{Span}
use Rattle.cell_packing.proofs.AmongLemmas.{among_append}
use Rattle.cell_boxes.specs.Rows.{IsRow}
use Rattle.cell_boxes.proofs.RowLemmas.{row_among, among_row}
use Rattle.value_core.specs.Order.{row_total}
use Rattle.value_core.specs.Values.{Row, row_cmp}
use Rattle.u_join.specs.RowPairs.{Stood, Ascend, HaveOrder}
use Rattle.u_join.specs.Rests.{HasNumber, Stands, Covers, AreUpTo, IsAdded, AreRuns}

-- ---- a row more

row_cases : {X : Type 0} (xs : List X) (x : X) (i : ℕ) (y : X) → IsRow (xs ++ x ∷ []) i y → IsRow xs i y ⊎ ((i ≡ length xs) × (x ≡ y))
row_cases [] x zero y h = inr (refl, h.1)
row_cases [] x (suc i) y h = absurd (let l = h.0 in omega arith)
row_cases (z ∷ xs) x zero y h = inl (omega arith, h.1)
row_cases (z ∷ xs) x (suc i) y h =
    let l = h.0 in
    elim (row_cases xs x i y (omega arith, h.1)) [ inl w ↦ let m = w.0 in inl (omega arith, w.1) | inr w ↦ inr (ap suc w.0, w.1) ]

row_more : {X : Type 0} (xs : List X) (x : X) (i : ℕ) (y : X) → IsRow xs i y → IsRow (xs ++ x ∷ []) i y
row_more [] x i y h = absurd (let l = h.0 in omega arith)
row_more (z ∷ xs) x zero y h = (omega arith, h.1)
row_more (z ∷ xs) x (suc i) y h = let l = h.0 in let w = row_more xs x i y (omega arith, h.1) in let m = w.0 in (omega arith, w.1)

row_last : {X : Type 0} (xs : List X) (x : X) → IsRow (xs ++ x ∷ []) (length xs) x
row_last [] x = (omega arith, refl)
row_last (z ∷ xs) x = let w = row_last xs x in let m = w.0 in (omega arith, w.1)

-- ---- order

pub stands_on : (a b c : Stood) → Stands a b → Stands b c → Stands a c
stands_on a b c h g = elim h [
  | inl l ↦ elim g [ inl m ↦ inl (row_total.trans a.1 b.1 c.1 l m) | inr m ↦ inl (sym (alike_right row_total b.1 c.1 a.1 m.0) ∙ l) ]
  | inr l ↦ elim g [
    | inl m ↦ inl (row_total.congr a.1 b.1 c.1 l.0 ∙ m)
    | inr m ↦ let u = l.1 in let v = m.1 in inr (row_total.congr a.1 b.1 c.1 l.0 ∙ m.0, omega (arith, ints))
  ]
]

stands_itself : (a : Stood) → Stands a a
stands_itself a = inr (tied_itself row_total a.1, omega (arith, ints))

module _ {A : Type 0} (see : A → Stood) where
  ascend_more : (xs : List A) (x : A) → Ascend see xs → AreUpTo see xs (see x) → Ascend see (xs ++ x ∷ [])
  ascend_more xs x up below i j y z l a b = elim (row_cases xs x j z b) [
    | inl w ↦ elim (row_cases xs x i y a) [
      | inl v ↦ up i j y z l v w
      | inr v ↦ absurd (let m = w.0 in let n = v.0 in omega arith)
    ]
    | inr w ↦ elim (row_cases xs x i y a) [
      | inl v ↦ subst (λ q. Stands (see y) (see q)) w.1 (below y (row_among xs i y v))
      | inr v ↦ subst (λ q. Stands (see y) (see q)) w.1 (subst (λ q. Stands (see q) (see x)) v.1 (stands_itself (see x)))
    ]
  ]

  ascend_less : (xs : List A) (x : A) → Ascend see (xs ++ x ∷ []) → Ascend see xs
  ascend_less xs x up i j y z l a b = up i j y z l (row_more xs x i y a) (row_more xs x j z b)

  up_to_last : (xs : List A) (x : A) → Ascend see (xs ++ x ∷ []) → AreUpTo see xs (see x)
  up_to_last xs x up y m =
      let i = among_row xs y m in
      let l = i.1.0 in
      up i.0 (length xs) y x (omega arith) (row_more xs x i.0 y i.1) (row_last xs x)

  order_more : (xs : List A) (x : A) → HaveOrder see xs → (see x).2.0 ≤ℤ (see x).2.1 → HaveOrder see (xs ++ x ∷ [])
  order_more xs x h l i y a = elim (row_cases xs x i y a) [ inl w ↦ h i y w | inr w ↦ subst (λ q. (see q).2.0 ≤ℤ (see q).2.1) w.1 l ]

  order_less : (xs : List A) (x : A) → HaveOrder see (xs ++ x ∷ []) → HaveOrder see xs
  order_less xs x h i y a = h i y (row_more xs x i y a)

  up_more : (xs : List A) (x : A) (w : Stood) → AreUpTo see xs w → Stands (see x) w → AreUpTo see (xs ++ x ∷ []) w
  up_more xs x w h g y m = elim ((among_append y xs (x ∷ [])).0 m) [
    | inl v ↦ h y v
    | inr v ↦ elim v [ inl e ↦ subst (λ q. Stands (see q) w) e g | inr n ↦ absurd n ]
  ]

  up_less : (xs : List A) (x : A) (w : Stood) → AreUpTo see (xs ++ x ∷ []) w → AreUpTo see xs w × Stands (see x) w
  up_less xs x w h = (λ y m. h y ((among_append y xs (x ∷ [])).1 (inl m)), h x ((among_append x xs (x ∷ [])).1 (inr (inl refl))))

  -- ---- what is covered

  pub covers_more : (xs : List A) (x : A) (key : Row) (p : ℤ) → Covers see (xs ++ x ∷ []) key p ↔ (Covers see xs key p ⊎ (((see x).1 ≡ key) × HasNumber (see x).2 p))
  covers_more xs x key p = (
    λ h. elim ((among_append h.0 xs (x ∷ [])).0 h.1) [
      | inl m ↦ inl (h.0, m, h.2, h.3)
      | inr m ↦ elim m [ inl e ↦ inr (subst (λ q. ((see q).1 ≡ key) × HasNumber (see q).2 p) (sym e) (h.2, h.3)) | inr n ↦ absurd n ]
    ],
    λ h. elim h [
      | inl w ↦ (w.0, (among_append w.0 xs (x ∷ [])).1 (inl w.1), w.2, w.3)
      | inr w ↦ (x, (among_append x xs (x ∷ [])).1 (inr (inl refl)), w.0, w.1)
    ],
  )

  -- a row that comes behind the others
  pub added_behind : (old : List A) (x : A) (new : List A) → new ≡ old ++ x ∷ [] → Ascend see old → HaveOrder see old → (see x).2.0 ≤ℤ (see x).2.1 → AreUpTo see old (see x) → IsAdded see old x new
  added_behind old x new is up order own below = subst (IsAdded see old x) (sym is) (record {
    order = ascend_more old x up below;
    intervals = order_more old x order own;
    covers = λ key p. covers_more old x key p;
    up = λ w h g. up_more old x w h g;
  })

  -- two intervals that overlap, as one
  one_of_both : (i j : Span) (p : ℤ) → i.0 ≤ℤ j.0 → j.0 ≤ℤ i.1 → HasNumber (i.0, int_max i.1 j.1) p ↔ (HasNumber i p ⊎ HasNumber j p)
  one_of_both i j p l m = (
    λ h.
        let a = h.0 in
        let b = h.1 in
        by_lt_z i.1 p (λ u. inr (omega (arith, ints), omega (arith, ints, clamps))) (λ u. inl (a, u)),
    λ h. elim h [
      | inl w ↦ let a = w.0 in let b = w.1 in (a, omega (arith, ints, clamps))
      | inr w ↦ let a = w.0 in let b = w.1 in (omega (arith, ints), omega (arith, ints, clamps))
    ],
  )

  -- a row by which the last one is lengthened
  pub added_within : (xs : List A) (last x z : A) (old new : List A) → old ≡ xs ++ last ∷ [] → new ≡ xs ++ z ∷ [] → see z ≡ ((see last).0, (see last).1, ((see last).2.0, int_max (see last).2.1 (see x).2.1))
      → Ascend see old → HaveOrder see old → AreUpTo see old (see x) → (see last).1 ≡ (see x).1 → (see x).2.0 ≤ℤ (see last).2.1 → IsAdded see old x new
  added_within xs last x z old new before after is up order below same meet =
      let joined : Stood = ((see last).0, (see last).1, ((see last).2.0, int_max (see last).2.1 (see x).2.1)) in
      let up' = subst (Ascend see) before up in
      let order' = subst (HaveOrder see) before order in
      let below' = subst (λ ys. AreUpTo see ys (see x)) before below in
      let own = order' (length xs) last (row_last xs last) in
      let stands : Stands (see last) (see x) = (up_less xs last (see x) below').1 in
      let begins : (see last).2.0 ≤ℤ (see x).2.0 = elim stands [
        | inl l ↦ absurd (not_less (see last).1 (see x).1 same l)
        | inr w ↦ w.1
      ] in
      let alike : (w : Stood) → Stands (see last) w → Stands (see z) w = λ w g. subst (λ q. Stands q w) (sym is) g in
      let after_others : AreUpTo see xs (see z) = λ y m. subst (λ q. Stands (see y) q) (sym is) (up_to_last xs last up' y m) in
      let ordered : joined.2.0 ≤ℤ joined.2.1 = omega (arith, ints, clamps) in
      subst (λ ys. IsAdded see ys x new) (sym before) (subst (IsAdded see (xs ++ last ∷ []) x) (sym after) (record {
        order = ascend_more xs z (ascend_less xs last up') after_others;
        intervals = order_more xs z (order_less xs last order') (subst (λ (q : Stood). q.2.0 ≤ℤ q.2.1) (sym is) ordered);
        covers = λ key p.
            let a = covers_more xs z key p in
            let b = covers_more xs last key p in
            let both = one_of_both (see last).2 (see x).2 p begins meet in (
              λ h. elim (a.0 h) [
                | inl w ↦ inl (b.1 (inl w))
                | inr w ↦
                    let v : (joined.1 ≡ key) × HasNumber joined.2 p = subst (λ (q : Stood). (q.1 ≡ key) × HasNumber q.2 p) is w in
                    elim (both.0 v.1) [ inl u ↦ inl (b.1 (inr (v.0, u))) | inr u ↦ inr (sym same ∙ v.0, u) ]
              ],
              λ h.
                  let back : (joined.1 ≡ key) × HasNumber joined.2 p → Covers see (xs ++ z ∷ []) key p = λ v. a.1 (inr (subst (λ (q : Stood). (q.1 ≡ key) × HasNumber q.2 p) (sym is) v)) in
                  elim h [
                    | inl w ↦ elim (b.0 w) [ inl u ↦ a.1 (inl u) | inr u ↦ back (u.0, both.1 (inl u.1)) ]
                    | inr w ↦ back (same ∙ w.0, both.1 (inr w.1))
                  ],
            );
        up = λ w h g. let v = up_less xs last w h in up_more xs z w v.0 (alike w v.1);
      }))
    where
      not_less : (a b : Row) → a ≡ b → row_cmp a b ≡ Less → ⊥
      not_less a b e l = let t : row_cmp a b ≡ Equal = subst (λ q. row_cmp a q ≡ Equal) e (tied_itself row_total a) in cc

  -- ---- all of them

  pub runs_none : AreRuns see [] []
  runs_none = record {
    order = λ i j x y l a b. absurd (let m = a.0 in omega arith);
    intervals = λ i x a. absurd (let m = a.0 in omega arith);
    covers = λ key p. (λ h. h, λ h. h);
  }

  pub runs_more : (done : List A) (x : A) (runs new all : List A) → all ≡ done ++ x ∷ [] → AreRuns see done runs → IsAdded see runs x new → AreRuns see all new
  runs_more done x runs new all is old added = subst (λ ys. AreRuns see ys new) (sym is) (record {
    order = added.order;
    intervals = added.intervals;
    covers = λ key p.
        let a = covers_more done x key p in
        let b = old.covers key p in
        let c = added.covers key p in (
          λ h. a.1 (elim (c.0 h) [ inl w ↦ inl (b.0 w) | inr w ↦ inr w ]),
          λ h. c.1 (elim (a.0 h) [ inl w ↦ inl (b.1 w) | inr w ↦ inr w ]),
        );
  })
