-- The aggregates of a group by the figures of columns over flags that stand for the labels of its rows.
--     aggregates_by_figures      they are the same
--     label_by_figures      and so is the label
use Rattle.std.proofs.Common.{◌≡◌, ◌≢◌, ℕ, suc, ◌+◌, ◌^◌, ◌<◌, ◌≤◌, ℤ, pos, ◌+ℤ◌, Bool, true, false, ◌&&◌, cond, int_lt, if◌then◌else◌, List, [], ◌∷◌, ◌++◌, map, length, get_or, Ok, Err, inl, inr, refl, sym, ap, ap₂, ◌∙◌, subst, arith}
use Rattle.std.specs.Cmp.{IsStrictWeakOrder}
use Rattle.std.specs.Cmp.Lexicographic.{slice_cmp}
use Rattle.std.specs.Ordering.{int_cmp, is_lt, ordering_then}
use Rattle.std.specs.declared.cmp.Ordering.{Ordering}
use Rattle.std.specs.declared.cmp.Ordering.TheVariants.{Less, Equal, Greater}
use Rattle.std.proofs.lemmas.Cmp.{int_cmp_total, tied_itself}
use Rattle.std.proofs.lemmas.Int.{ints}
use Rattle.std.proofs.lemmas.List.{length-map}
use Rattle.base_core.specs.Outcomes.{then_give, both, with_lesser}
use Rattle.base_core.proofs.SetLemmas.{In}
use Rattle.point_core.specs.Faults.{OrFault, fault}
use Rattle.point_core.specs.declared.any_type.AnyType.{AnyType}
use Rattle.point_core.specs.declared.any_type.AnyType.TheVariants.{Integer}
use Rattle.point_core.specs.declared.fault.Code.TheVariants.{E30}
use Rattle.scalar_core.proofs.PointLemmas.{number-is_number}
use Rattle.cell_boxes.proofs.RowLemmas.{among_row, row_all}
use Rattle.point_core.specs.Orders.{fault_order}
use Rattle.point_core.specs.Points.{Line, integers, line_of, is_number}
use Rattle.point_core.specs.declared.fault.Place.{Place}
use Rattle.value_core.specs.Values.{Value, point, Row, line_key}
use Rattle.cell_packing.specs.Covering.{Among}
use Rattle.cell_sweep.specs.Rows.{AreRows}
use Rattle.cell_sweep.proofs.Turns.{all_below}
use Rattle.scalar_core.specs.Expressions.{Expr}
use Rattle.scalar_core.specs.Operations.{integer, number_of}
use Rattle.relation_core.specs.Agreement.{part_of}
use Rattle.u_set.specs.Boxes.{others}
use Rattle.relation_core.specs.Groups.{rows_at}
use Rattle.tree_core.specs.Trees.{PlainAggregateForm, count_rows, sum_of, min_of, max_of, PlainAggregate}
use Rattle.u_summary.specs.Summaries.{total, is_before}
use Rattle.u_summary.proofs.ExtremeLemmas.{before_ranks, after_ranks}
use Rattle.meaning_core.specs.Rows.{extreme, values_over, aggregate_value, aggregates_on}
use Rattle.cell_boxes.specs.Totals.{sum_of as sum_flagged}
use Rattle.u_summarize.specs.Extremes.{best_flagged, or_zero}
use Rattle.u_summarize.specs.Figures.{PlainColumn, measured, figure_of, figures_of}
use Rattle.u_summarize.specs.Picked.{ArePicked}
use Rattle.u_summarize.specs.declared.values.Figure.{Figure}
use Rattle.u_summarize.specs.declared.values.Measure.{Measure}
use Rattle.u_summarize.specs.declared.values.Measure.TheVariants.{Sum, Least, Greatest}
use Rattle.u_summarize.proofs.ExtremeLemmas.{is_more, less_tie}
use Rattle.u_summarize.proofs.PickedLemmas.{over, picked_sum, picked_best}
use Rattle.eval_using.specs.Columns.{is_point, HasPoints, IsColumn, AreColumns, point_at, figure_values, figures_label, AreFigured}
use Rattle.eval_using.specs.Labels.{group_label}
use Rattle.eval_using.proofs.OrderLemmas.{weights, total_is, extreme_is}

-- ---- points by their numbers

among_map : (g : ℕ → Value) (r : ℕ) (a : List ℕ) → Among r a → In (g r) (map g a)
among_map g r [] m = absurd m
among_map g r (x ∷ xs) m = elim m [ inl e ↦ inl (ap g (sym e)) | inr i ↦ inr (among_map g r xs i) ]

map_among : (g : ℕ → Value) (v : Value) (a : List ℕ) → In v (map g a) → (r : ℕ) × Among r a × (v ≡ g r)
map_among g v [] m = absurd m
map_among g v (x ∷ xs) m = elim m [
  | inl e ↦ (x, inl refl, e)
  | inr i ↦ let w = map_among g v xs i in (w.0, inr w.1, w.2)
]

-- points of one line are in the order of their numbers
before_points : (l : Line) (v w : ℤ) → is_before (point l v) (point l w) ≡ int_lt v w
before_points l v w = ap is_lt (keys (pos 2 ∷ line_key l)) ∙ lesser (int_lt v w) (int_lt w v)
  where
    alone : (o : Ordering) → ordering_then o Equal ≡ o
    alone Less = refl
    alone Equal = refl
    alone Greater = refl

    keys : (ks : List ℤ) → slice_cmp int_cmp (ks ++ v ∷ []) (ks ++ w ∷ []) ≡ int_cmp v w
    keys [] = alone (int_cmp v w)
    keys (k ∷ ks) = ap (λ o. ordering_then o (slice_cmp int_cmp (ks ++ v ∷ []) (ks ++ w ∷ []))) (tied_itself int_cmp_total k) ∙ keys ks

    lesser : (b d : Bool) → is_lt (cond b Less (cond d Greater Equal)) ≡ b
    lesser true d = refl
    lesser false true = refl
    lesser false false = refl

module _ (rows : List Row) where
  abbrev at : List ℤ → ℕ → ℤ
  at c r = get_or c r (pos 0)

  -- the values of an expression that gives points on all rows
  abbrev points : AnyType → List ℤ → List ℕ → List Value
  points t c a = map (λ r. point (line_of t) (at c r)) a

  values_there : (e : Expr) (t : AnyType) (c : List ℤ) → HasPoints rows e t c → (a : List ℕ) → ((r : ℕ) → Among r a → r < length rows) → values_over e (rows_at rows a) ≡ Ok (points t c a)
  values_there e t c h [] low = refl
  values_there e t c h (r ∷ rs) low =
      ap₂ (λ (m : OrFault Value) (ms : OrFault (List Value)). with_lesser fault_order m ms) (h r (low r (inl refl))).0 (values_there e t c h rs (λ s m. low s (inr m)))

  numbers_there : (t : AnyType) (c : List ℤ) (a : List ℕ) → map number_of (points t c a) ≡ map (at c) a
  numbers_there t c [] = refl
  numbers_there t c (r ∷ rs) = ap (λ (zs : List ℤ). at c r ∷ zs) (numbers_there t c rs)

  over_is : (w : ℕ → ℤ) (a : List ℕ) → total (map w a) ≡ over w a
  over_is w a = total_is w a ∙ same a
    where
      same : (xs : List ℕ) → weights w xs ≡ over w xs
      same [] = refl
      same (x ∷ xs) = ap (λ z. w x +ℤ z) (same xs)

  ones : (c : List ℤ) (a : List ℕ) → ((r : ℕ) → Among r a → at c r ≡ pos 1) → over (at c) a ≡ pos (length a)
  ones c [] h = refl
  ones c (r ∷ rs) h =
      let e = h r (inl refl) in
      let q = ones c rs (λ s m. h s (inr m)) in
      omega (arith, ints, e, q)

  counted_long : (n b : ℕ) (a : List ℕ) → AreRows b n a → b ≤ n → length a + b ≤ n
  counted_long n b [] up l = omega (arith, l)
  counted_long n b (r ∷ rs) up l =
      let k = up.0 in
      let m = up.1 in
      let q = counted_long n (suc r) rs up.2 (omega (arith, m)) in
      omega (arith, k, m, q)

  -- an integer of 64 bits
  is_integer : (place : Place) (n : ℕ) → n < 2 ^ 63 → integer place (pos n) ≡ Ok (point integers (pos n))
  is_integer place n l =
      let number : is_number Integer (pos n) ≡ true = number-is_number Integer (pos n) (omega (arith, ints), omega (arith, ints, l)) in
      ap (λ b. if b then Ok (point integers (pos n)) else Err (fault place E30)) number

  module _ (by : List ℕ) (labels : List Row) (key : Row) (a : List ℕ) (f : List Bool) (p : ArePicked by labels key a f) (many : length rows ≡ length labels) (few : length rows < 2 ^ 63) where
    low : (r : ℕ) → Among r a → r < length rows
    low r m = let w = among_row a r m in let l : r < length labels = row_all (λ (k : ℕ). k < length labels) a (all_below (length labels) a p.order) w.0 r w.1 in omega (arith, l, many)

    abbrev AlikeIn : List ℤ → Type 0
    AlikeIn c = (r s : ℕ) → r < length rows → s < length rows → get_or labels r [] ≡ get_or labels s [] → at c r ≡ at c s

    by_sum : (c : List ℤ) → length c ≡ length rows → AlikeIn c → over (at c) a ≡ sum_flagged c f
    by_sum c l alike = picked_sum by labels key a f p c (l ∙ many) (λ r s m b e. alike r s (low r m) (subst (λ k. s < k) (sym many) b) e)

    -- the figure of a column of which it is known what is asked
    figure_is : (column : PlainColumn) (m : Measure) (t : AnyType) → column.0 ≡ m → column.1 ≡ t → figure_of column f ≡ record { of = t; number = measured m column.2 f }
    figure_is column m t d e = λ i. record { of = e i; number = measured (d i) column.2 f }

    integer_at : (place : Place) (z : ℤ) → integer place z ≡ point_at place (record { of = Integer; number = z })
    integer_at place z = ap (λ b. if b then Ok (point integers z) else Err (fault place E30)) (sym (twice (is_number Integer z)))
      where
        twice : (b : Bool) → (b && b) ≡ b
        twice true = refl
        twice false = refl

    -- the extreme value is the point of the extreme number
    best_value : (place : Place) (t : AnyType) (c : List ℤ) → length c ≡ length rows → AlikeIn c → (e : Expr) → HasPoints rows e t c → (x : ℕ) → Among x a
        → (beats : Value → Value → Bool) → IsStrictWeakOrder beats → (under : ℤ → ℤ → Bool) → ((v w : ℤ) → under v w ≡ false → under w v ≡ false → v ≡ w) → ((v w : ℤ) → beats (point (line_of t) v) (point (line_of t) w) ≡ under v w)
        → Ok (extreme beats (points t c a)) ≡ point_at place (record { of = t; number = or_zero (best_flagged under c f) })
    best_value place t c l alike e h x m beats o under tie same =
        let g : ℕ → Value = λ r. point (line_of t) (at c r) in
        let best = extreme_is beats o (points t c a) (g x) (among_map g x a m) in
        let w = map_among g (extreme beats (points t c a)) a best.0 in
        let z = at c w.0 in
        let top : (s : ℕ) → Among s a → under (at c s) z ≡ false = λ s k. sym (same (at c s) z) ∙ ap (beats (g s)) (sym w.2) ∙ best.1 (g s) (among_map g s a k) in
        let found = picked_best by labels key a f p under tie c (l ∙ many) (λ r s k b q. alike r s (low r k) (subst (λ j. s < j) (sym many) b) q) z w.0 w.1 refl top in
        let number : is_point t z ≡ true = (h w.0 (low w.0 w.1)).1 in
        ap (λ (v : Value). Ok v) w.2 ∙ sym (ap (λ b. if b then Ok (point (line_of t) z) else Err (fault place E30)) number)
        ∙ ap (λ k. point_at place (record { of = t; number = or_zero k })) (sym found)

    one_value : (place : Place) (form : PlainAggregateForm) (c : PlainColumn) → length c.2 ≡ length rows → IsColumn rows form c → AlikeIn c.2 → (x : ℕ) → Among x a → aggregate_value place form (rows_at rows a) ≡ point_at place (figure_of c f)
    one_value place count_rows c long h alike x m =
        let n = length-map a (λ i. get_or rows i []) in
        let l = counted_long (length labels) 0 a p.order (omega arith) in
        ap (λ k. Ok (point integers (pos k))) n ∙ sym (is_integer place (length a) (omega (arith, l, many, few))) ∙ ap (integer place) (sym (ones c.2 a (λ r m. h.2 r (low r m))) ∙ by_sum c.2 long alike)
        ∙ integer_at place (sum_flagged c.2 f) ∙ ap (point_at place) (sym (figure_is c Sum Integer h.0 h.1))
    one_value place (sum_of e) c long h alike x m =
        ap (λ (v : OrFault (List Value)). then_give v (λ vs. integer place (total (map number_of vs)))) (values_there e c.1 c.2 h.2 a low) ∙ ap (λ (zs : List ℤ). integer place (total zs)) (numbers_there c.1 c.2 a)
        ∙ ap (integer place) (over_is (at c.2) a ∙ by_sum c.2 long alike)
        ∙ integer_at place (sum_flagged c.2 f) ∙ ap (point_at place) (sym (figure_is c Sum Integer h.0 h.1))
    one_value place (min_of e) c long h alike x m =
        ap (λ (v : OrFault (List Value)). then_give v (λ vs. Ok (extreme is_before vs))) (values_there e c.1 c.2 h.1 a low)
        ∙ best_value place c.1 c.2 long alike e h.1 x m is_before before_ranks int_lt less_tie (before_points (line_of c.1))
        ∙ ap (point_at place) (sym (figure_is c Least c.1 h.0 refl))
    one_value place (max_of e) c long h alike x m =
        ap (λ (v : OrFault (List Value)). then_give v (λ vs. Ok (extreme (λ v w. is_before w v) vs))) (values_there e c.1 c.2 h.1 a low)
        ∙ best_value place c.1 c.2 long alike e h.1 x m (λ v w. is_before w v) after_ranks is_more (λ v w q k. less_tie v w k q) (λ v w. before_points (line_of c.1) w v)
        ∙ ap (point_at place) (sym (figure_is c Greatest c.1 h.0 refl))

    pub aggregates_by_figures : (x : ℕ) → Among x a → (aggregates : List PlainAggregate) (columns : List PlainColumn) → AreColumns rows aggregates columns → ((c : PlainColumn) → Among c columns → AlikeIn c.2)
        → aggregates_on (rows_at rows a) aggregates ≡ figure_values aggregates (figures_of columns f)
    aggregates_by_figures x m [] [] h alike = refl
    aggregates_by_figures x m [] (c ∷ cs) h alike = absurd h
    aggregates_by_figures x m (g ∷ gs) [] h alike = absurd h
    aggregates_by_figures x m (g ∷ gs) (c ∷ cs) h alike =
        ap₂ (λ (u : OrFault Value) (us : OrFault (List Value)). both u us (λ v vs. Ok (v ∷ vs)))
        (one_value g.place g.form c h.0 h.1 (alike c (inl refl)) x m)
        (aggregates_by_figures x m gs cs h.2 (λ d k. alike d (inr k)))

-- ---- the label of a group

made_long : (aggregates : List PlainAggregate) (zs : List Figure) (made : List Value) → length zs ≡ length aggregates → figure_values aggregates zs ≡ Ok made → length made ≡ length aggregates
made_long [] zs made n e = let q : [] ≡ made = cc in ap length (sym q)
made_long (g ∷ gs) [] made n e = absurd (omega (arith, n))
made_long (g ∷ gs) (z ∷ zs) made n e = go (point_at g.place z) (figure_values gs zs) (λ ws q. made_long gs zs ws (omega (arith, n)) q) e
  where
    go : (m : OrFault Value) (ms : OrFault (List Value)) → ((ws : List Value) → ms ≡ Ok ws → length ws ≡ length gs) → both m ms (λ v vs. Ok (v ∷ vs)) ≡ Ok made → length made ≡ suc (length gs)
    go (Ok v) (Ok vs) h q = let w : v ∷ vs ≡ made = cc in ap length (sym w) ∙ ap suc (h vs refl)
    go (Ok v) (Err d) h q = absurd cc
    go (Err c) ms h q = absurd cc

long_columns : (rows : List Row) (aggregates : List PlainAggregate) (cs : List PlainColumn) → AreColumns rows aggregates cs → length cs ≡ length aggregates
long_columns rows [] [] h = refl
long_columns rows [] (c ∷ cs) h = absurd h
long_columns rows (g ∷ gs) [] h = absurd h
long_columns rows (g ∷ gs) (c ∷ cs) h = ap suc (long_columns rows gs cs h.2)

-- what a group gives is what its figures give
pub label_by_figures : (spots to at by : List ℕ) (aggregates : List PlainAggregate) (rows labels : List Row) (cs : List PlainColumn) → AreFigured spots to at by aggregates rows labels cs
    → (key : Row) (a : List ℕ) (f : List Bool) → a ≢ [] → ArePicked by labels key a f → group_label to at aggregates rows a ≡ figures_label spots aggregates key (figures_of cs f)
label_by_figures spots to at by aggregates rows labels cs is key [] f n p = absurd (n refl)
label_by_figures spots to at by aggregates rows labels cs is key (r ∷ rs) f n p =
    let e = aggregates_by_figures rows by labels key (r ∷ rs) f p is.count is.few r (inl refl) aggregates cs is.columns
    (λ c m x y lx ly q. is.alike c m x y (subst (λ k. x < k) is.count lx) (subst (λ k. y < k) is.count ly) q) in
    ap (λ (m : OrFault (List Value)). then_give (then_give m (λ made. Ok (part_of at (made ++ get_or rows r [])))) (λ row. Ok (others to row))) e
    ∙ go (figure_values aggregates (figures_of cs f)) (λ made q. made_long aggregates (figures_of cs f) made (length-map cs (λ c. figure_of c f) ∙ long_columns rows aggregates cs is.columns) q)
  where
    inside : r < length rows
    inside = low rows by labels key (r ∷ rs) f p is.count is.few r (inl refl)

    go : (m : OrFault (List Value)) → ((made : List Value) → m ≡ Ok made → length made ≡ length aggregates)
        → then_give (then_give m (λ made. Ok (part_of at (made ++ get_or rows r [])))) (λ row. Ok (others to row)) ≡ then_give m (λ made. Ok (part_of spots (made ++ key)))
    go (Ok made) h =
        ap (λ (x : Row). Ok x) (is.places made r (h made refl) inside ∙ ap (λ k. part_of spots (made ++ k)) (p.part r (inl refl)))
    go (Err d) h = refl
