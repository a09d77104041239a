-- Marks of rows that come and go.
use Rattle.std.proofs.Common.{◌≡◌, ◌≢◌, ℕ, zero, suc, ◌+◌, ◌<◌, ◌≤◌, Bool, true, false, List, [], ◌∷◌, ◌++◌, length, get_or, ◌↔◌, ◌⊎◌, inl, inr, arith, sym, ap, subst, refl, ◌∙◌, Option, Some, None, Result, Ok, Err}
use Rattle.std.proofs.lemmas.Bool.{cases_lt, true≢false, and_parts, and_from}
use Rattle.cell_packing.specs.Covering.{Among}
use Rattle.cell_packing.specs.Live.{span_has}
use Rattle.cell_packing.proofs.AmongLemmas.{among_append}
use Rattle.cell_packing.specs.Packed.{no_cells}
use Rattle.point_core.specs.declared.fault.Fault.{Fault}
use Rattle.point_core.specs.LeastFault.{IsLeast}
use Rattle.cell_sweep.specs.PackedRows.{HasRow}
use Rattle.cell_sweep.proofs.Turns.{least_then, least_more}
use Rattle.cell_sweep.proofs.UnitedLemmas.{IsBeside}
use Rattle.cell_boxes.specs.Common.{At}
use Rattle.cell_boxes.specs.Rows.{PlainCellBox}
use Rattle.cell_boxes.specs.Tallies.{IsIn, span_at, pair_at, Within, AreEntered, AreLeft, AreBy, IsKept, boxed, label_in, OfTallied, IsPart}
use Rattle.cell_sweep.proofs.Sweeping.{cell_has, span_from}

pub equal_or : (a b : ℕ) → (a ≡ b) ⊎ (a ≢ b)
equal_or a b = elim (cases_lt a b) [
  | inl l ↦ inr (λ e. omega arith)
  | inr l ↦ elim (cases_lt b a) [ inl m ↦ inr (λ e. omega arith) | inr m ↦ inl (omega arith) ]
]

-- ---- one more start, one more end

-- ---- come to a cell

module _ (spans : List (ℕ × ℕ)) (rows : ℕ × ℕ) (starts ends : List (ℕ × ℕ))
    (by_start : AreBy (λ r. (span_at spans r).0) rows starts) (by_end : AreBy (λ r. (span_at spans r).1) rows ends)
    (n s e : ℕ) (old : List Bool) (was : IsKept spans rows starts ends n s e old)
    (cell : ℕ) (up : n ≤ cell + 1) (t f : ℕ) (mid new : List Bool) (entered : AreEntered spans starts s t cell old mid) (left : AreLeft spans ends e f cell mid new) where
  end_after : (r : ℕ) → Within rows r → n ≤ (span_at spans r).1 → ((j : ℕ) → e ≤ j → j < f → (pair_at ends j).1 ≡ r → cell < (span_at spans r).1) → cell < (span_at spans r).1
  end_after r m l h =
      let w = by_end.to r m in
      let j : ℕ = w.0 in
      let own : (pair_at ends j).0 ≡ (span_at spans r).1 = (by_end.from j w.1).1 ∙ ap (λ q. (span_at spans q).1) w.2 in
      elim (cases_lt j e) [
        | inl a ↦ (let b = was.ended j a in absurd (omega arith))
        | inr a ↦ elim (cases_lt j f) [
          | inl b ↦ h j a b w.2
          | inr b ↦ (let inside = w.1 in let c = left.at.ahead (omega arith) in let d = by_end.order f j b inside in omega arith)
        ]
      ]

  begun_before : (r : ℕ) → Within rows r → (span_at spans r).0 ≤ cell → cell < (span_at spans r).1 → IsIn mid r
  begun_before r m l h =
      let w = by_start.to r m in
      let j : ℕ = w.0 in
      let own : (pair_at starts j).0 ≡ (span_at spans r).0 = (by_start.from j w.1).1 ∙ ap (λ q. (span_at spans q).0) w.2 in
      (entered.flags r).1 (elim (cases_lt j s) [
        | inl a ↦ (let b = was.begun j a in inl ((was.flagged r).1 (m, omega arith, omega arith)))
        | inr a ↦ elim (cases_lt j t) [
          | inl b ↦ inr (j, a, b, w.2, h)
          | inr b ↦ (let inside = w.1 in let c = entered.at.ahead (omega arith) in let d = by_start.order t j b inside in absurd (omega arith))
        ]
      ])

  pub kept_at : IsKept spans rows starts ends (cell + 1) t f new
  kept_at = record {
    starts_within = entered.at.within;
    ends_within = left.at.within;
    begun = λ j l. elim (cases_lt j s) [
      | inl a ↦ (let b = was.begun j a in omega arith)
      | inr a ↦ (let b = entered.at.passed j a l in omega arith)
    ];
    ended = λ j l. elim (cases_lt j e) [
      | inl a ↦ (let b = was.ended j a in omega arith)
      | inr a ↦ (let b = left.at.passed j a l in omega arith)
    ];
    flagged = λ r. (
      λ h.
          let w = (left.flags r).0 h in
          elim ((entered.flags r).0 w.0) [
            | inl v ↦
                let u = (was.flagged r).0 v in
                let a = u.1 in
                let b = end_after r u.0 u.2 w.1 in
                (u.0, omega arith, omega arith)
            | inr v ↦
                let j : ℕ = v.0 in
                let b = v.2 in
                let c = entered.at.within in
                let u = by_start.from j (omega arith) in
                let m : Within rows r = subst (Within rows) v.3 u.0 in
                let own : (pair_at starts j).0 ≡ (span_at spans r).0 = u.1 ∙ ap (λ q. (span_at spans q).0) v.3 in
                let p = entered.at.passed j v.1 v.2 in
                let d = v.4 in
                (m, omega arith, omega arith)
          ],
      λ h.
          let a = h.1 in
          let b = h.2 in
          let end : cell < (span_at spans r).1 = omega arith in
          (left.flags r).1 (begun_before r h.0 (omega arith) end, λ j p q k. end),
    );
  }

pub kept_first : (spans : List (ℕ × ℕ)) (rows : ℕ × ℕ) (starts ends : List (ℕ × ℕ)) (flags : List Bool) → ((r : ℕ) → IsIn flags r → ⊥) → IsKept spans rows starts ends 0 0 0 flags
kept_first spans rows starts ends flags none = record {
  starts_within = omega arith;
  ends_within = omega arith;
  begun = λ j l. omega arith;
  ended = λ j l. omega arith;
  flagged = λ r. (λ h. absurd (none r h), λ h. let l = h.1 in absurd (omega arith));
}

-- ---- one more run of cells

flags_same : (f g : List Bool) → length f ≡ length g → ((r : ℕ) → IsIn f r ↔ IsIn g r) → f ≡ g
flags_same [] [] e h = refl
flags_same [] (y ∷ ys) e h = absurd (omega (arith, e))
flags_same (x ∷ xs) [] e h = absurd (omega (arith, e))
flags_same (x ∷ xs) (y ∷ ys) e h = λ t. same x y (h 0) t ∷ flags_same xs ys (omega (arith, e)) (λ r. h (suc r)) t
  where
    same : (a b : Bool) → ((a ≡ true) ↔ (b ≡ true)) → a ≡ b
    same true true i = refl
    same false false i = refl
    same true false i = sym (i.0 refl)
    same false true i = i.1 refl

some_in : (f : List Bool) → ((r : ℕ) × IsIn f r) ⊎ ((r : ℕ) → IsIn f r → ⊥)
some_in [] = inr (λ r h. true≢false (sym h))
some_in (true ∷ fs) = inl (0, refl)
some_in (false ∷ fs) = elim (some_in fs) [ inl w ↦ inl (suc w.0, w.1) | inr n ↦ inr (λ r h. later r h n) ]
  where
    later : (r : ℕ) → IsIn (false ∷ fs) r → ((q : ℕ) → IsIn fs q → ⊥) → ⊥
    later zero h n = true≢false (sym h)
    later (suc r) h n = n r h

none_some : {P : Type 0} (l : P) → None ≡ Some l → ⊥
none_some {P} l e = true≢false (sym (ap is_some e))
  where
    is_some : Option P → Bool
    is_some None = false
    is_some (Some q) = true

has_boxed : {P : Type 0} (a z : ℕ) (o : Option P) (l : P) (j : ℕ) → HasRow (boxed (a, z) o) l (j ∷ []) ↔ (o ≡ Some l) × (a ≤ j) × (j < z)
has_boxed a z None l j = (λ h. absurd h.1, λ h. absurd (none_some l h.0))
has_boxed {P} a z (Some k) l j = (
  λ h. elim h.1 [
    | inl e ↦
        let y : (a, z) ∷ [] ≡ h.0 = ap (λ (x : PlainCellBox P). x.1) e in
        let s = cell_has (a, z) j (and_parts (span_has (a, z) j) true (subst (λ y. At y (j ∷ [])) (sym y) h.2)).0 in
        (ap Some (ap (λ (x : PlainCellBox P). x.0) e), s.0, s.1)
    | inr w ↦ absurd w
  ],
  λ h. ((a, z) ∷ [], inl (λ t. (some_or k (h.0 t), (a, z) ∷ [])), and_from (span_has (a, z) j) true (span_from (a, z) j h.1 h.2) refl),
)
  where
    some_or : P → Option P → P
    some_or d None = d
    some_or d (Some q) = q

pub label_is : {P F : Type 0} (x : Result (Option P) F) (l : P) → (label_in x ≡ Some l) ↔ (x ≡ Ok (Some l))
label_is (Ok o) l = (λ h. ap Ok h, λ h. ap label_in h)
label_is (Err e) l = (λ h. absurd (none_some l h), λ h. ap label_in h)

pub ok_err : {P F : Type 0} (o : Option P) (e : F) → Ok o ≡ Err e → ⊥
ok_err {P} {F} o e h = true≢false (ap is_ok h)
  where
    is_ok : Result (Option P) F → Bool
    is_ok (Ok o) = true
    is_ok (Err e) = false

-- what is no empty answer is of some marked row
module _ {P F : Type 0} (x : Result (Option P) F) (f : List Bool) (nothing : ((r : ℕ) → IsIn f r → ⊥) → x ≡ Ok None) where
  pub some_of_label : (l : P) → x ≡ Ok (Some l) → (r : ℕ) × IsIn f r
  some_of_label l h = elim (some_in f) [ inl w ↦ w | inr n ↦ absurd (none_some l (ap label_in (sym (nothing n) ∙ h))) ]

  pub some_of_fault : (e : F) → x ≡ Err e → (r : ℕ) × IsIn f r
  some_of_fault e h = elim (some_in f) [ inl w ↦ w | inr n ↦ absurd (ok_err None e (sym (nothing n) ∙ h)) ]

module _ (spans : List (ℕ × ℕ)) (rows : ℕ × ℕ) (m : ℕ) where
  -- no cell is given after all ends
  pub tallied_below : (V : List Bool → Type 0) → ((f : List Bool) → V f → (r : ℕ) × IsIn f r) → (count : ℕ) → ((r : ℕ) → Within rows r → (span_at spans r).1 ≤ count) → (j : ℕ) → OfTallied V spans rows m j → j < count
  tallied_below V some count last j h =
      let w = some h.0 h.3 in
      let v = (h.2 w.0).0 w.1 in
      let a = v.2 in
      let b = last w.0 v.0 in
      omega arith

  module _ (starts ends : List (ℕ × ℕ)) (s e a z : ℕ) (f : List Bool) (kept : IsKept spans rows starts ends (a + 1) s e f) (n : length f ≡ m)
      (cut : (r : ℕ) → Within rows r → IsBeside a z (span_at spans r).0 × IsBeside a z (span_at spans r).1) where
    -- the flags of the cell a are those of each cell up to before z
    given_at : (V : List Bool → Type 0) (j : ℕ) → a ≤ j → j < z → OfTallied V spans rows m j ↔ V f
    given_at V j p q = (
      λ h.
          let same : h.0 ≡ f = flags_same h.0 f (h.1 ∙ sym n) (λ r. (λ w. (kept.flagged r).1 (to r ((h.2 r).0 w)), λ w. (h.2 r).1 (from r ((kept.flagged r).0 w)))) in
          subst V same h.3,
      λ h. (f, n, (λ r. (λ w. from r ((kept.flagged r).0 w), λ w. (kept.flagged r).1 (to r w))), h),
    )
      where
        to : (r : ℕ) → Within rows r × ((span_at spans r).0 ≤ j) × (j < (span_at spans r).1) → Within rows r × ((span_at spans r).0 < a + 1) × (a + 1 ≤ (span_at spans r).1)
        to r w =
            let c = cut r w.0 in
            let x = w.1 in
            let y = w.2 in
            (w.0, elim c.0 [ inl u ↦ omega arith | inr u ↦ omega arith ], omega arith)

        from : (r : ℕ) → Within rows r × ((span_at spans r).0 < a + 1) × (a + 1 ≤ (span_at spans r).1) → Within rows r × ((span_at spans r).0 ≤ j) × (j < (span_at spans r).1)
        from r w =
            let c = cut r w.0 in
            let x = w.1 in
            let y = w.2 in
            (w.0, omega arith, elim c.1 [ inl u ↦ omega arith | inr u ↦ omega arith ])

    pub tallied_turn : (V : List Bool → Type 0) {P : Type 0} (first old new : List (PlainCellBox P)) (o : Option P) (l : P) → a ≤ z → (o ≡ Some l) ↔ V f → new ≡ old ++ boxed (a, z) o
        → (j : ℕ) → HasRow old l (j ∷ []) ↔ HasRow first l (j ∷ []) ⊎ ((j < a) × OfTallied V spans rows m j)
        → HasRow new l (j ∷ []) ↔ HasRow first l (j ∷ []) ⊎ ((j < z) × OfTallied V spans rows m j)
    tallied_turn V first old new o l up is made j b =
        let p = has_boxed a z o l j in
        subst (λ zs. HasRow zs l (j ∷ []) ↔ HasRow first l (j ∷ []) ⊎ ((j < z) × OfTallied V spans rows m j)) (sym made) (
          λ h. elim ((among_append (l, h.0) old (boxed (a, z) o)).0 h.1) [
            | inl w ↦ elim (b.0 (h.0, w, h.2)) [ inl v ↦ inl v | inr v ↦ (let u = v.0 in inr (omega arith, v.1)) ]
            | inr w ↦ let v = p.0 (h.0, w, h.2) in inr (v.2, (given_at V j v.1 v.2).1 (is.0 v.0))
          ],
          λ h. elim h [
            | inl w ↦ let v = b.1 (inl w) in (v.0, (among_append (l, v.0) old (boxed (a, z) o)).1 (inl v.1), v.2)
            | inr w ↦ elim (cases_lt j a) [
              | inl q ↦ let v = b.1 (inr (q, w.1)) in (v.0, (among_append (l, v.0) old (boxed (a, z) o)).1 (inl v.1), v.2)
              | inr q ↦ let v = p.1 (is.1 ((given_at V j q w.0).0 w.1), q, w.0) in (v.0, (among_append (l, v.0) old (boxed (a, z) o)).1 (inr v.1), v.2)
            ]
          ],
        )

    pub fault_turn : (V : Fault → List Bool → Type 0) (x b c : Option Fault) → a < z
        → IsLeast (λ d. (x ≡ Some d) ⊎ ((j : ℕ) × (j < a) × OfTallied (V d) spans rows m j)) b
        → IsLeast (λ d. (b ≡ Some d) ⊎ V d f) c
        → IsLeast (λ d. (x ≡ Some d) ⊎ ((j : ℕ) × (j < z) × OfTallied (V d) spans rows m j)) c
    fault_turn V x b c some was now =
        least_more (λ d. ((j : ℕ) × (j < a) × OfTallied (V d) spans rows m j) ⊎ V d f) (λ d. (j : ℕ) × (j < z) × OfTallied (V d) spans rows m j) x c
        (λ d. (
          λ h. elim h [
            | inl w ↦ (let l = w.1 in (w.0, omega arith, w.2))
            | inr w ↦ (a, some, (given_at (V d) a (omega arith) some).1 w)
          ],
          λ h. elim (cases_lt h.0 a) [
            | inl l ↦ inl (h.0, l, h.2)
            | inr l ↦ inr ((given_at (V d) h.0 l h.1).0 h.2)
          ],
        ))
        (least_then (λ d. (j : ℕ) × (j < a) × OfTallied (V d) spans rows m j) (λ d. V d f) x b c was now)

    pub parts_turn : {P : Type 0} (first old new : List (PlainCellBox P)) (o : Option P) → ((l : P) → o ≡ Some l → (r : ℕ) × IsIn f r) → new ≡ old ++ boxed (a, z) o
        → ((x : PlainCellBox P) → Among x old → Among x first ⊎ IsPart spans rows x)
        → (x : PlainCellBox P) → Among x new → Among x first ⊎ IsPart spans rows x
    parts_turn {P} first old new o some made was x h = elim ((among_append x old (boxed (a, z) o)).0 (subst (Among x) made h)) [
      | inl w ↦ was x w
      | inr w ↦ inr (of o some w)
    ]
      where
        part : (r : ℕ) × IsIn f r → (l : P) → IsPart spans rows (l, (a, z) ∷ [])
        part t l =
            let k = (kept.flagged t.0).0 t.1 in
            let b = k.2 in
            record {
              side = refl;
              row = (t.0, k.0, λ i. ends_by i (elim (cut t.0 k.0).1 [ inl u ↦ absurd (omega arith) | inr u ↦ u ]));
            }
          where
            ends_by : (i : ℕ) → z ≤ (span_at spans t.0).1 → (get_or ((a, z) ∷ []) i no_cells).1 ≤ (get_or (span_at spans t.0 ∷ []) i no_cells).1
            ends_by zero u = u
            ends_by (suc i) u = omega arith

        of : (q : Option P) → ((l : P) → q ≡ Some l → (r : ℕ) × IsIn f r) → Among x (boxed (a, z) q) → IsPart spans rows x
        of None g k = absurd k
        of (Some l) g k = elim k [ inl u ↦ subst (IsPart spans rows) u (part (g l refl) l) | inr u ↦ absurd u ]
