-- Numbers that stand for the keys of rows.
use Rattle.std.proofs.Common.{◌≡◌, ℕ, zero, suc, ◌+◌, ◌<◌, ◌≤◌, List, [], ◌∷◌, ◌++◌, map, length, ◌↔◌, ◌⊎◌, inl, inr, arith, sym, ap, subst, refl, ◌∙◌, Ordering}
use Rattle.std.specs.declared.cmp.Ordering.TheVariants.{Less, Equal, Greater}
use Rattle.std.specs.Cmp.{IsTotalOrder}
use Rattle.std.specs.Ordering.{nat_cmp, ordering_reverse, is_lt}
use Rattle.std.specs.List.{All}
use Rattle.std.proofs.lemmas.Bool.{cases_lt, true≢false}
use Rattle.std.proofs.lemmas.Cmp.{tied_itself, tied_back, alike_right, nat_cmp_total}
use Rattle.std.proofs.lemmas.List.{get_or_append_left, get_or_at, length-append}
use Rattle.base_core.proofs.OrderingLemmas.{lt-nat_cmp}
use Rattle.cell_packing.specs.Covering.{Among}
use Rattle.cell_packing.proofs.AmongLemmas.{all_from_members}
use Rattle.cell_sweep.specs.PackedRows.{HasRow}
use Rattle.cell_boxes.specs.Answers.{IsBoxOf, IsBoxOfKeyed, InBoth, InFirst, IsMatched, IsUnmatched, IsJoined, PlainKeyedCellBox}
use Rattle.cell_boxes.specs.Common.{At, first_of}
use Rattle.cell_boxes.specs.Keys.{ArePaired}
use Rattle.cell_boxes.specs.KeyNumbers.{AreNumbered, HaveNumbers, Begins, IsCount, IsNumber, RiseAlike}
use Rattle.cell_boxes.specs.Meetings.{boxes_in, IsShared, IsPair}
use Rattle.cell_boxes.specs.Outside.{IsRest}
use Rattle.cell_boxes.specs.Rows.{IsRow, Ascend, PlainCellBox}
use Rattle.cell_boxes.proofs.JoinLemmas.{is_joined}
use Rattle.cell_boxes.proofs.OperatorLemmas.{box_of_keyed, has_alike, is_matched, is_unmatched}
use Rattle.cell_boxes.proofs.RowLemmas.{row_among, among_row, one_row, row_there, row_sides, map_row, row_map}
use Rattle.cell_sweep.proofs.LabelRows.{map_length}

-- ---- one item more

-- an item is the last one or one of the old
pub row_cases : {X : Type 0} (old new : List X) (x : X) → new ≡ old ++ x ∷ [] → (i : ℕ) (y : X) → IsRow new i y → IsRow old i y ⊎ ((i ≡ length old) × (x ≡ y))
row_cases old new x e i y h = go (subst (λ zs. IsRow zs i y) e h)
  where
    go : IsRow (old ++ x ∷ []) i y → IsRow old i y ⊎ ((i ≡ length old) × (x ≡ y))
    go g = elim (cases_lt i (length old)) [
      | inl l ↦ inl (l, sym (get_or_append_left old (x ∷ []) y i l) ∙ g.1)
      | inr l ↦
          let m = g.0 in
          let n : length (old ++ x ∷ []) ≡ length old + 1 = length-append old (x ∷ []) in
          let f : i ≡ length old = omega (arith, n) in
          inr (f, sym (get_or_at old x [] y i (sym f)) ∙ g.1)
    ]

pub length_more : {X : Type 0} (old new : List X) (x : X) (n : ℕ) → new ≡ old ++ x ∷ [] → length old ≡ n → length new ≡ n + 1
length_more old new x n e f = let g : length new ≡ length old + 1 = ap length e ∙ length-append old (x ∷ []) in omega (arith, f, g)

-- what stands as two numbers do
pub same_order : (r : Ordering) (m n : ℕ) → (r ≡ Less → m < n) → (r ≡ Equal → m ≡ n) → (r ≡ Greater → n < m) → r ≡ nat_cmp m n
same_order Less m n l e g = sym (lt-nat_cmp m n (l refl))
same_order Equal m n l e g = sym (subst (λ k. nat_cmp m k ≡ Equal) (e refl) (tied_itself nat_cmp_total m))
same_order Greater m n l e g = sym (nat_cmp_total.antisymm m n ∙ ap ordering_reverse (lt-nat_cmp n m (g refl)))

module _ {K : Type 0} (order : K → K → Ordering) (total : IsTotalOrder order) where
  pub less_tied : (a b : K) → order a b ≡ Less → order a b ≡ Equal → ⊥
  less_tied a b l e = true≢false (ap is_lt (sym l ∙ e))

  -- lesser than what is not after b
  less_on : (a b c : K) → order a b ≡ Less → (order b c ≡ Less) ⊎ (order b c ≡ Equal) → order a c ≡ Less
  less_on a b c l h = elim h [ inl m ↦ total.trans a b c l m | inr e ↦ sym (alike_right total b c a e) ∙ l ]

  pub upward : (rows : List (PlainCellBox K)) → Ascend order rows → (i j : ℕ) (x y : PlainCellBox K) → i ≤ j → IsRow rows i x → IsRow rows j y → (order x.0 y.0 ≡ Less) ⊎ (order x.0 y.0 ≡ Equal)
  upward rows up i j x y l a b = elim (up i j x y l a b) [ inl m ↦ inl m | inr m ↦ inr m.0 ]

  not_less : (a b : K) → (order a b ≡ Less) ⊎ (order a b ≡ Equal) → order b a ≡ Less → ⊥
  not_less a b h l = less_tied b b (less_on b a b l h) (tied_itself total b)

  -- ---- how many rows are of lesser keys

  -- none, where none is left or the next one is not of a lesser key
  pub count_is : (rows : List (PlainCellBox K)) → Ascend order rows → (key : K) (c : ℕ) → c ≤ length rows → ((i : ℕ) (x : PlainCellBox K) → IsRow rows i x → i < c → order x.0 key ≡ Less) → ((x : PlainCellBox K) → IsRow rows c x → order x.0 key ≡ Less → ⊥) → IsCount order rows key c
  count_is rows up key c within before not = record {
    within = within;
    lesser = before;
    others = λ i y h l m.
        let n = h.0 in
        let t = row_there rows c (omega arith) in
        let w = upward rows up c i t.0 y l t.1 h in
        not t.0 t.1 (elim w [ inl q ↦ total.trans (t.0).0 y.0 key q m | inr q ↦ total.congr (t.0).0 y.0 key q ∙ m ]);
  }

  count_alike : (rows : List (PlainCellBox K)) (a b : K) (c : ℕ) → order a b ≡ Equal → IsCount order rows a c → IsCount order rows b c
  count_alike rows a b c e is = record {
    within = is.within;
    lesser = λ i x h l. sym (alike_right total a b x.0 e) ∙ is.lesser i x h l;
    others = λ i x h l m. is.others i x h l (alike_right total a b x.0 e ∙ m);
  }

  -- as many as for the row before, if that is of the same key
  pub count_kept : (rows others : List (PlainCellBox K)) (first next : ℕ) (x : PlainCellBox K) → IsRow rows next x → first < next → Begins order rows first (next + 1) → (c : ℕ)
      → ((q : ℕ) (y : PlainCellBox K) → q + 1 ≡ next → IsRow rows q y → IsCount order others y.0 c) → IsCount order others x.0 c
  count_kept rows others first zero x at l begins c counted = absurd (omega arith)
  count_kept rows others first (suc q) x at l begins c counted =
      let m = at.0 in
      let b = row_there rows first (omega arith) in
      let y = row_there rows q (omega arith) in
      let e : order (b.0).0 (y.0).0 ≡ Equal = begins.same q y.0 b.0 y.1 b.1 (omega arith) (omega arith) in
      let f : order (b.0).0 x.0 ≡ Equal = begins.same (suc q) x b.0 at b.1 (omega arith) (omega arith) in
      count_alike others (y.0).0 x.0 c (sym (total.congr (b.0).0 (y.0).0 x.0 e) ∙ f) (counted q y.0 (omega arith) y.1)

  pub counted_now : (rows others : List (PlainCellBox K)) (next : ℕ) (x : PlainCellBox K) → IsRow rows next x → (c : ℕ) → IsCount order others x.0 c → (q : ℕ) (y : PlainCellBox K) → q + 1 ≡ next + 1 → IsRow rows q y → IsCount order others y.0 c
  counted_now rows others next x at c is q y e h =
      let f : q ≡ next = omega (arith, e) in
      subst (λ (z : PlainCellBox K). IsCount order others z.0 c) (one_row rows next x y at (subst (λ i. IsRow rows i y) f h)) is

  -- of later rows they are lesser too
  pub lesser_on : (rows others : List (PlainCellBox K)) → Ascend order rows → (next : ℕ) (x : PlainCellBox K) → IsRow rows next x → (c : ℕ) → IsCount order others x.0 c
      → (i q : ℕ) (y z : PlainCellBox K) → IsRow others i y → i < c → IsRow rows q z → next + 1 ≤ q → order y.0 z.0 ≡ Less
  lesser_on rows others up next x at c is i q y z hy l hz m = less_on y.0 x.0 z.0 (is.lesser i y hy l) (upward rows up next q x z (omega arith) at hz)

  module _ (rows : List (PlainCellBox K)) (up : Ascend order rows) where
    -- so many rows are of lesser keys than the last of them
    pub begins_count : (first next : ℕ) (x : PlainCellBox K) → IsRow rows next x → first ≤ next → Begins order rows first (next + 1) → IsCount order rows x.0 first
    begins_count first next x hx within is =
        let l = hx.0 in
        let t = row_there rows first (omega arith) in
        let e : order (t.0).0 x.0 ≡ Equal = is.same next x t.0 hx t.1 within (omega arith) in
        count_is rows up x.0 first (omega arith) (λ i y hy n. less_on y.0 (t.0).0 x.0 (is.lesser i y t.0 hy t.1 n) (inr e)) (λ y hy m. less_tied y.0 x.0 m (subst (λ (z : PlainCellBox K). order z.0 x.0 ≡ Equal) (one_row rows first t.0 y t.1 hy) e))

    pub numbers_more : (others : List (PlainCellBox K)) (old new : List ℕ) (n next : ℕ) (x : PlainCellBox K) → IsRow rows next x → length old ≡ next → new ≡ old ++ n ∷ [] → IsNumber order rows others x.0 n → HaveNumbers order rows others old → HaveNumbers order rows others new
    numbers_more others old new n next x at count made is was i y m hy hm = elim (row_cases old new n made i m hm) [
      | inl h ↦ was i y m hy h
      | inr h ↦
          let e : x ≡ y = one_row rows next x y at (subst (λ q. IsRow rows q y) (h.0 ∙ count) hy) in
          subst (λ (z : PlainCellBox K). IsNumber order rows others z.0 m) e (subst (IsNumber order rows others x.0) h.1 is)
    ]

  -- ---- numbers rise with the keys

  pub count_rises : (rows : List (PlainCellBox K)) (a b : K) (c d : ℕ) → IsCount order rows a c → IsCount order rows b d → (order a b ≡ Less) ⊎ (order a b ≡ Equal) → c ≤ d
  count_rises rows a b c d at bt h = elim (cases_lt d c) [
    | inl l ↦
        let w = at.within in
        let t = row_there rows d (omega arith) in
        absurd (bt.others d t.0 t.1 (omega arith) (less_on (t.0).0 a b (at.lesser d t.0 t.1 l) h))
    | inr l ↦ l
  ]

  -- and more so where a row has the lesser key
  pub count_more : (rows : List (PlainCellBox K)) (i : ℕ) (x : PlainCellBox K) → IsRow rows i x → (b : K) (c d : ℕ) → IsCount order rows x.0 c → IsCount order rows b d → order x.0 b ≡ Less → c < d
  count_more rows i x h b c d at bt l =
      let low : c ≤ i = elim (cases_lt i c) [ inl w ↦ absurd (less_tied x.0 x.0 (at.lesser i x h w) (tied_itself total x.0)) | inr w ↦ w ] in
      let high : i < d = elim (cases_lt i d) [ inl w ↦ w | inr w ↦ absurd (bt.others i x h w l) ] in
      omega arith

  module _ (left right : List (PlainCellBox K)) where
    number_rises : (a b : K) (m n : ℕ) → IsNumber order left right a m → IsNumber order left right b n → (order a b ≡ Less) ⊎ (order a b ≡ Equal) → m ≤ n
    number_rises a b m n p q h =
        let u = count_rises left a b p.0 q.0 p.2 q.2 h in
        let v = count_rises right a b p.1 q.1 p.3 q.3 h in
        let e = p.4 in
        let f = q.4 in
        omega (arith, e, f)

    number_tied : (a b : K) (m n : ℕ) → IsNumber order left right a m → IsNumber order left right b n → order a b ≡ Equal → m ≡ n
    number_tied a b m n p q h =
        let u = number_rises a b m n p q (inr h) in
        let v = number_rises b a n m q p (inr (tied_back total a b h)) in
        omega arith

    abbrev IsKeyed : K → Type 0
    IsKeyed a = ((i : ℕ) × (x : PlainCellBox K) × IsRow left i x × (x.0 ≡ a)) ⊎ ((i : ℕ) × (x : PlainCellBox K) × IsRow right i x × (x.0 ≡ a))

    number_more : (a b : K) (m n : ℕ) → IsKeyed a → IsNumber order left right a m → IsNumber order left right b n → order a b ≡ Less → m < n
    number_more a b m n k p q l =
        let u = count_rises left a b p.0 q.0 p.2 q.2 (inl l) in
        let v = count_rises right a b p.1 q.1 p.3 q.3 (inl l) in
        let e = p.4 in
        let f = q.4 in
        elim k [
          | inl w ↦ let s = count_more left w.0 w.1 w.2 b p.0 q.0 (subst (λ z. IsCount order left z p.0) (sym w.3) p.2) q.2 (subst (λ z. order z b ≡ Less) (sym w.3) l) in omega (arith, e, f)
          | inr w ↦ let s = count_more right w.0 w.1 w.2 b p.1 q.1 (subst (λ z. IsCount order right z p.1) (sym w.3) p.3) q.3 (subst (λ z. order z b ≡ Less) (sym w.3) l) in omega (arith, e, f)
        ]

    number_same : ((a b : K) → order a b ≡ Equal → a ≡ b) → (a b : K) (m n : ℕ) → IsKeyed a → IsKeyed b → IsNumber order left right a m → IsNumber order left right b n → (a ≡ b) ↔ (m ≡ n)
    number_same separates a b m n ka kb p q = (
      λ e. number_tied a b m n p q (subst (λ z. order a z ≡ Equal) e (tied_itself total a)),
      λ e. go (order a b) refl e,
    )
      where
        go : (r : Ordering) → order a b ≡ r → m ≡ n → a ≡ b
        go Less h e = let l = number_more a b m n ka p q h in absurd (omega (arith, e))
        go Equal h e = separates a b h
        go Greater h e = let l = number_more b a n m kb q p (total.antisymm b a ∙ ap ordering_reverse h) in absurd (omega (arith, e))

    presort : (a b : K) (m n : ℕ) → IsKeyed a → IsKeyed b → IsNumber order left right a m → IsNumber order left right b n → order a b ≡ nat_cmp m n
    presort a b m n ka kb p q = same_order (order a b) m n
        (λ l. number_more a b m n ka p q l)
        (λ e. number_tied a b m n p q e)
        (λ g. number_more b a n m kb q p (total.antisymm b a ∙ ap ordering_reverse g))

-- the two lists the other way round
number_turned : {K : Type 0} (order : K → K → Ordering) (left right : List (PlainCellBox K)) (a : K) (n : ℕ) → IsNumber order right left a n → IsNumber order left right a n
number_turned order left right a n p = (p.1, p.0, p.3, p.2, let e = p.4 in omega (arith, e))

-- ---- rows with the numbers for keys

-- the row of one number has the same box
same_box : {K L : Type 0} (rows : List (PlainCellBox K)) (withs : List (PlainCellBox L)) → boxes_in withs ≡ boxes_in rows → (i : ℕ) (w : PlainCellBox L) → IsRow withs i w → (x : PlainCellBox K) × IsRow rows i x × (x.1 ≡ w.1)
same_box {K} {L} rows withs e i w h = row_map (λ (z : PlainCellBox K). z.1) rows i w.1 (subst (λ bs. IsRow bs i w.1) e (map_row (λ (z : PlainCellBox L). z.1) withs i w h))

own_number : (withs : List (PlainCellBox ℕ)) (ns : List ℕ) → map (λ (x : PlainCellBox ℕ). x.0) withs ≡ ns → (i : ℕ) (w : PlainCellBox ℕ) → IsRow withs i w → IsRow ns i w.0
own_number withs ns e i w h = subst (λ zs. IsRow zs i w.0) e (map_row (λ (z : PlainCellBox ℕ). z.0) withs i w h)

module _ {K : Type 0} (order : K → K → Ordering) (total : IsTotalOrder order) (separates : (a b : K) → order a b ≡ Equal → a ≡ b) (left right : List (PlainCellBox K)) where
  -- rows of either list ascend with the numbers for keys
  numbers_ascend : (rows : List (PlainCellBox K)) → Ascend order rows → ((i : ℕ) (x : PlainCellBox K) → IsRow rows i x → IsKeyed order total left right x.0) → (ns : List ℕ) → ((i : ℕ) (x : PlainCellBox K) (n : ℕ) → IsRow rows i x → IsRow ns i n → IsNumber order left right x.0 n)
      → (withs : List (PlainCellBox ℕ)) → map (λ (x : PlainCellBox ℕ). x.0) withs ≡ ns → boxes_in withs ≡ boxes_in rows → Ascend nat_cmp withs
  numbers_ascend rows up keyed ns have withs ks bs i j v w l hv hw =
      let x = same_box rows withs bs i v hv in
      let y = same_box rows withs bs j w hw in
      let p = have i x.0 v.0 x.1 (own_number withs ns ks i v hv) in
      let q = have j y.0 w.0 y.1 (own_number withs ns ks j w hw) in
      elim (up i j x.0 y.0 l x.1 y.1) [
        | inl m ↦ inl (lt-nat_cmp v.0 w.0 (number_more order total left right (x.0).0 (y.0).0 v.0 w.0 (keyed i x.0 x.1) p q m))
        | inr m ↦
            let e : v.0 ≡ w.0 = number_tied order total left right (x.0).0 (y.0).0 v.0 w.0 p q m.0 in
            let s : (first_of (x.0).1).0 ≤ (first_of (y.0).1).0 = m.1 in
            inr (subst (λ n. nat_cmp v.0 n ≡ Equal) e (tied_itself nat_cmp_total v.0), subst (λ z. (first_of v.1).0 ≤ (first_of z).0) y.2 (subst (λ z. (first_of z).0 ≤ (first_of (y.0).1).0) x.2 s))
      ]

  pub are_numbered : Ascend order left → Ascend order right → (ln rn : List ℕ) → HaveNumbers order left right ln → HaveNumbers order right left rn → (lefts rights : List (PlainCellBox ℕ))
      → map (λ (x : PlainCellBox ℕ). x.0) lefts ≡ ln → boxes_in lefts ≡ boxes_in left → map (λ (x : PlainCellBox ℕ). x.0) rights ≡ rn → boxes_in rights ≡ boxes_in right → AreNumbered left right lefts rights
  are_numbered lup rup ln rn ls rs lefts rights lk lb rk rb =
      let turned = λ (i : ℕ) (y : PlainCellBox K) (n : ℕ) (a : IsRow right i y) (b : IsRow rn i n). number_turned order left right y.0 n (rs i y n a b) in
      record {
        left_boxes = lb;
        right_boxes = rb;
        same = λ i j x y v w hx hy hv hw.
            number_same order total left right separates x.0 y.0 v.0 w.0 (inl (i, x, hx, refl)) (inr (j, y, hy, refl)) (ls i x v.0 hx (own_number lefts ln lk i v hv)) (turned j y w.0 hy (own_number rights rn rk j w hw));
        left_order = numbers_ascend left lup (λ i x h. inl (i, x, h, refl)) ln ls lefts lk lb;
        right_order = numbers_ascend right rup (λ i x h. inr (i, x, h, refl)) rn turned rights rk rb;
      }

  pub labels_rise : (ln : List ℕ) → HaveNumbers order left right ln → (lefts : List (PlainCellBox ℕ)) → map (λ (x : PlainCellBox ℕ). x.0) lefts ≡ ln → boxes_in lefts ≡ boxes_in left → (labels : List K) → labels ≡ map (λ (x : PlainCellBox K). x.0) left → RiseAlike order lefts labels
  labels_rise ln ls lefts lk lb labels own i j v w a b hv hw ha hb =
      let x = row_map (λ (z : PlainCellBox K). z.0) left i a (subst (λ zs. IsRow zs i a) own ha) in
      let y = row_map (λ (z : PlainCellBox K). z.0) left j b (subst (λ zs. IsRow zs j b) own hb) in
      let p = ls i x.0 v.0 x.1 (own_number lefts ln lk i v hv) in
      let q = ls j y.0 w.0 y.1 (own_number lefts ln lk j w hw) in
      let e = presort order total left right (x.0).0 (y.0).0 v.0 w.0 (inl (i, x.0, x.1, refl)) (inl (j, y.0, y.1, refl)) p q in
      subst (λ z. order a z ≡ nat_cmp v.0 w.0) y.2 (subst (λ z. order z (y.0).0 ≡ nat_cmp v.0 w.0) x.2 e)

-- ---- what rows with numbers for keys have at places

module _ {K : Type 0} (left right : List (PlainCellBox K)) (lefts rights : List (PlainCellBox ℕ)) (are : AreNumbered left right lefts rights) where
  -- a right row of the key has the place where one of its number does
  has_number : (i : ℕ) (x : PlainCellBox K) (v : PlainCellBox ℕ) → IsRow left i x → IsRow lefts i v → (grid_point : List ℕ) → HasRow rights v.0 grid_point ↔ HasRow right x.0 grid_point
  has_number i x v hx hv grid_point = (
    λ h.
        let w : PlainCellBox ℕ = (v.0, h.0) in
        let j = among_row rights w h.1 in
        let y = same_box right rights are.right_boxes j.0 w j.1 in
        let e : x.0 ≡ (y.0).0 = (are.same i j.0 x y.0 v w hx y.1 hv j.1).1 refl in
        ((y.0).1, subst (λ k. Among (k, (y.0).1) right) (sym e) (row_among right j.0 y.0 y.1), subst (λ z. At z grid_point) (sym y.2) h.2),
    λ h.
        let y : PlainCellBox K = (x.0, h.0) in
        let j = among_row right y h.1 in
        let w = same_box rights right (sym are.right_boxes) j.0 y j.1 in
        let e : v.0 ≡ (w.0).0 = (are.same i j.0 x y v w.0 hx j.1 hv w.1).0 refl in
        ((w.0).1, subst (λ k. Among (k, (w.0).1) rights) (sym e) (row_among rights j.0 w.0 w.1), subst (λ z. At z grid_point) (sym w.2) h.2),
  )

  module _ {P : Type 0} (labels : List P) where
    pub shared_numbered : (l : P) (grid_point : List ℕ) → IsShared lefts labels rights l grid_point ↔ IsShared left labels right l grid_point
    shared_numbered l grid_point = (
      λ h. let x = same_box left lefts are.left_boxes h.0 h.1 h.2 in (h.0, x.0, x.1, h.3, subst (λ z. At z grid_point) (sym x.2) h.4, (has_number h.0 x.0 h.1 x.1 h.2 grid_point).0 h.5),
      λ h. let v = same_box lefts left (sym are.left_boxes) h.0 h.1 h.2 in (h.0, v.0, v.1, h.3, subst (λ z. At z grid_point) (sym v.2) h.4, (has_number h.0 h.1 v.0 h.2 v.1 grid_point).1 h.5),
    )

    pub rest_numbered : (l : P) (grid_point : List ℕ) → IsRest lefts labels rights l grid_point ↔ IsRest left labels right l grid_point
    rest_numbered l grid_point = (
      λ h. let x = same_box left lefts are.left_boxes h.0 h.1 h.2 in (h.0, x.0, x.1, h.3, subst (λ z. At z grid_point) (sym x.2) h.4, λ g. h.5 ((has_number h.0 x.0 h.1 x.1 h.2 grid_point).1 g)),
      λ h. let v = same_box lefts left (sym are.left_boxes) h.0 h.1 h.2 in (h.0, v.0, v.1, h.3, subst (λ z. At z grid_point) (sym v.2) h.4, λ g. h.5 ((has_number h.0 h.1 v.0 h.2 v.1 grid_point).0 g)),
    )

  pub pair_numbered : {A B R : Type 0} (means : A → B → R) (a_labels : List A) (b_labels : List B) (l : R) (grid_point : List ℕ) → IsPair means lefts a_labels rights b_labels l grid_point ↔ IsPair means left a_labels right b_labels l grid_point
  pair_numbered means a_labels b_labels l grid_point = (
    λ h.
        let x = same_box left lefts are.left_boxes h.0 h.2 h.6 in
        let y = same_box right rights are.right_boxes h.1 h.3 h.7 in
        (h.0, h.1, x.0, y.0, h.4, h.5, x.1, y.1, h.8, h.9, (are.same h.0 h.1 x.0 y.0 h.2 h.3 x.1 y.1 h.6 h.7).1 h.10, subst (λ z. At z grid_point) (sym x.2) h.11, subst (λ z. At z grid_point) (sym y.2) h.12, h.13),
    λ h.
        let v = same_box lefts left (sym are.left_boxes) h.0 h.2 h.6 in
        let w = same_box rights right (sym are.right_boxes) h.1 h.3 h.7 in
        (h.0, h.1, v.0, w.0, h.4, h.5, v.1, w.1, h.8, h.9, (are.same h.0 h.1 h.2 h.3 v.0 w.0 h.6 h.7 v.1 w.1).0 h.10, subst (λ z. At z grid_point) (sym v.2) h.11, subst (λ z. At z grid_point) (sym w.2) h.12, h.13),
  )

  pub box_numbered : (y : List (ℕ × ℕ)) → IsBoxOf lefts y → IsBoxOf left y
  box_numbered y h =
      let i = among_row lefts (h.0, y) h.1 in
      let x = same_box left lefts are.left_boxes i.0 (h.0, y) i.1 in
      ((x.0).0, subst (λ z. Among ((x.0).0, z) left) x.2 (row_among left i.0 x.0 x.1))

-- ---- the same with the rows from which the keys come

module _ {K P : Type 0} (rows : List (PlainKeyedCellBox K P)) (keys : List (PlainCellBox K)) (labels : List P) (pairs : ArePaired rows keys labels) (lefts rights : List (PlainCellBox ℕ)) where
  module _ (right others : List (PlainCellBox K)) (same : (x : PlainCellBox K) → Among x others ↔ Among x right) (are : AreNumbered keys others lefts rights) where
    pub numbered_matched : (l : P) (grid_point : List ℕ) → IsShared lefts labels rights l grid_point ↔ IsMatched rows right l grid_point
    numbered_matched l grid_point =
        let a = shared_numbered keys others lefts rights are labels l grid_point in
        let b = is_matched rows keys labels pairs right others same l grid_point in
        (λ h. b.0 (a.0 h), λ h. a.1 (b.1 h))

    pub numbered_unmatched : (l : P) (grid_point : List ℕ) → IsRest lefts labels rights l grid_point ↔ IsUnmatched rows right l grid_point
    numbered_unmatched l grid_point =
        let a = rest_numbered keys others lefts rights are labels l grid_point in
        let b = is_unmatched rows keys labels pairs right others same l grid_point in
        (λ h. b.0 (a.0 h), λ h. a.1 (b.1 h))

  pub numbered_box : (others : List (PlainCellBox K)) → AreNumbered keys others lefts rights → (y : List (ℕ × ℕ)) → IsBoxOf lefts y → IsBoxOfKeyed rows y
  numbered_box others are y h = box_of_keyed rows keys labels pairs y (box_numbered keys others lefts rights are y h)

  pub numbered_joined : {Q R : Type 0} (means : P → Q → R) (right : List (PlainKeyedCellBox K Q)) (right_keys : List (PlainCellBox K)) (right_labels : List Q) → ArePaired right right_keys right_labels → AreNumbered keys right_keys lefts rights
      → (l : R) (grid_point : List ℕ) → IsPair means lefts labels rights right_labels l grid_point ↔ IsJoined means rows right l grid_point
  numbered_joined means right right_keys right_labels q are l grid_point =
      let a = pair_numbered keys right_keys lefts rights are means labels right_labels l grid_point in
      let b = is_joined means rows right keys labels right_keys right_labels pairs q l grid_point in
      (λ h. b.0 (a.0 h), λ h. a.1 (b.1 h))

-- ---- as many rows

pub count_numbered : {K : Type 0} (rows : List (PlainCellBox K)) (withs : List (PlainCellBox ℕ)) → boxes_in withs ≡ boxes_in rows → length rows ≡ length withs
count_numbered {K} rows withs e = sym (map_length (λ (x : PlainCellBox K). x.1) rows) ∙ sym (ap length e) ∙ map_length (λ (x : PlainCellBox ℕ). x.1) withs

-- ---- rows whose key is their label

module _ {P : Type 0} (left right sorted others : List (PlainCellBox P)) (ls : (x : PlainCellBox P) → Among x sorted ↔ Among x left) (rs : (x : PlainCellBox P) → Among x others ↔ Among x right)
    (labels : List P) (own : labels ≡ map (λ (x : PlainCellBox P). x.0) sorted) (lefts rights : List (PlainCellBox ℕ)) (are : AreNumbered sorted others lefts rights) where
  own_label : (i : ℕ) (x : PlainCellBox P) (l : P) → IsRow sorted i x → IsRow labels i l → x.0 ≡ l
  own_label i x l h g =
      let w = row_map (λ (z : PlainCellBox P). z.0) sorted i l (subst (λ zs. IsRow zs i l) own g) in
      subst (λ (z : PlainCellBox P). z.0 ≡ l) (one_row sorted i w.0 x w.1 h) w.2

  -- some row of the label has the place, and R holds of the label
  some_own : (R : P → Type 0) (l : P) (grid_point : List ℕ) → ((i : ℕ) × (x : PlainCellBox P) × IsRow sorted i x × IsRow labels i l × At x.1 grid_point × R x.0) ↔ HasRow left l grid_point × R l
  some_own R l grid_point = (
    λ h.
        let e = own_label h.0 h.1 l h.2 h.3 in
        ((h.1.1, (ls (l, h.1.1)).0 (subst (λ k. Among (k, h.1.1) sorted) e (row_among sorted h.0 h.1 h.2)), h.4), subst R e h.5),
    λ h.
        let x : PlainCellBox P = (l, h.0.0) in
        let i = among_row sorted x ((ls x).1 h.0.1) in
        (i.0, x, i.1, subst (λ zs. IsRow zs i.0 l) (sym own) (map_row (λ (z : PlainCellBox P). z.0) sorted i.0 x i.1), h.0.2, h.1),
  )

  pub numbered_both : (l : P) (grid_point : List ℕ) → IsShared lefts labels rights l grid_point ↔ InBoth left right l grid_point
  numbered_both l grid_point =
      let a = shared_numbered sorted others lefts rights are labels l grid_point in
      let b = some_own (λ k. HasRow others k grid_point) l grid_point in
      let s = has_alike right others rs l grid_point in (
        λ h. let w = b.0 (a.0 h) in (w.0, s.0 w.1),
        λ h. a.1 (b.1 (h.0, s.1 h.1)),
      )

  pub numbered_first : (l : P) (grid_point : List ℕ) → IsRest lefts labels rights l grid_point ↔ InFirst left right l grid_point
  numbered_first l grid_point =
      let a = rest_numbered sorted others lefts rights are labels l grid_point in
      let b = some_own (λ k. HasRow others k grid_point → ⊥) l grid_point in
      let s = has_alike right others rs l grid_point in (
        λ h. let w = b.0 (a.0 h) in (w.0, λ g. w.1 (s.1 g)),
        λ h. a.1 (b.1 (h.0, λ g. h.1 (s.0 g))),
      )

  pub numbered_box_of : (y : List (ℕ × ℕ)) → IsBoxOf lefts y → IsBoxOf left y
  numbered_box_of y h = let w = box_numbered sorted others lefts rights are y h in (w.0, (ls (w.0, y)).0 w.1)

  pub numbered_count : length labels ≡ length lefts
  numbered_count = ap length own ∙ map_length (λ (x : PlainCellBox P). x.0) sorted ∙ count_numbered sorted lefts are.left_boxes

-- ---- as many sides

pub sides_numbered : {K : Type 0} (k : ℕ) (rows : List (PlainCellBox K)) (withs : List (PlainCellBox ℕ)) → boxes_in withs ≡ boxes_in rows → All (λ x. length x.1 ≡ k) rows → All (λ x. length x.1 ≡ k) withs
sides_numbered {K} k rows withs e a = all_from_members (λ (x : PlainCellBox ℕ). length x.1 ≡ k) withs (λ w h.
    let i = among_row withs w h in
    let x = same_box rows withs e i.0 w i.1 in
    sym (ap length x.2) ∙ row_sides k rows a i.0 x.0 x.1)
