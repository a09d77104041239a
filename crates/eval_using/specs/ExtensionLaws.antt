-- The law of items as a rule on rows: what they make is the same at all places of a cell.
use Rattle.std.proofs.Common.{◌≡◌, ◌↔◌, inl, inr, ℕ, zero, suc, ◌+◌, ◌<◌, ℤ, ◌≤ℤ◌, true, false, Bool, List, [], ◌∷◌, ◌++◌, map, length, get_or, Ok, Err, Some, refl, sym, ap, ap₂, ◌∙◌, subst, arith}
use Rattle.std.specs.Prelude.{slice_index}
use Rattle.std.specs.Cmp.{int_cmp_total}
use Rattle.std.specs.FinMap.{int_cmp-IsAntisymmetric}
use Rattle.std.specs.List.{filter, flat_map}
use Rattle.std.specs.Ordering.{int_cmp}
use Rattle.std.proofs.lemmas.List.{length-map, get_or-append-add}
use Rattle.base_core.specs.Outcomes.{then_give, first_of_all}
use Rattle.base_core.proofs.MemberLemmas.{In-filter, In-flat_map, In-map}
use Rattle.base_core.proofs.OutcomeLemmas.{length-first_of_all}
use Rattle.base_core.proofs.SetLemmas.{In, In-in_order}
use Rattle.base_core.proofs.ListLemmas.{map-In}
use Rattle.interval_core.specs.Members.{Span}
use Rattle.point_core.specs.Faults.{OrFault}
use Rattle.point_core.specs.Points.{number}
use Rattle.point_core.specs.declared.any_type.AnyPoint.{AnyPoint}
use Rattle.cell_packing.specs.Covering.{Among}
use Rattle.cell_packing.specs.Packed.{Has}
use Rattle.value_core.specs.Attributes.{among, value_at, span_of}
use Rattle.value_core.specs.Values.{Name, Row, Value, truth}
use Rattle.scalar_core.specs.AtPlaces.{at_place, AreBeside}
use Rattle.scalar_core.specs.Cuts.{IsBeside, inner_cuts, cuts, is_inside}
use Rattle.scalar_core.specs.Expressions.{Expr}
use Rattle.scalar_core.specs.Kinds.{IsTypedOver}
use Rattle.scalar_core.specs.ScalarValues.{value}
use Rattle.scalar_core.proofs.SweepLemmas.{swept-alike_within, at_place-other}
use Rattle.relation_core.specs.Agreement.{part_of}
use Rattle.tree_core.specs.Trees.{PlainSets}
use Rattle.cell_core.specs.Cells.{box_numbers}
use Rattle.u_set.specs.Boxes.{unless, others_from, others, spans_at}
use Rattle.u_set.proofs.BoxLemmas.{value_at-get}
use Rattle.u_row.specs.Cutting.{AreCutsFrom, cells_of}
use Rattle.u_row.proofs.CellLemmas.{cell_in}
use Rattle.meaning_core.specs.Rows.{values_on}
use Rattle.meaning_core.specs.Scalars.{AreTypedOver}
use Rattle.eval_using.specs.BoxedLaws.{sides_there, own_fits, inside_from}
use Rattle.eval_using.specs.Cells.{scalars_of, cuts_of_all}
use Rattle.eval_using.specs.Extended.{made_of, AreSweepable, IsFree, CanExtend}
use Rattle.eval_using.specs.PlaceRows.{within_has}
use Rattle.eval_using.specs.SteadyLaws.{cell_beside}
use Rattle.eval_using.specs.Swept.{labelled_if, swept, swept_cuts, swept_rows}

-- ---- the cuts of one item are among those of all

beside_at : (big : List ℤ) (p q c : ℤ) → In c big → IsBeside big p q → (c ≤ℤ p) ↔ (c ≤ℤ q)
beside_at [] p q c m h = absurd m
beside_at (x ∷ xs) p q c m h = elim m [ inl e ↦ subst (λ z. (z ≤ℤ p) ↔ (z ≤ℤ q)) (sym e) h.0 | inr n ↦ beside_at xs p q c n h.1 ]

beside_fewer : (big small : List ℤ) (p q : ℤ) → ((c : ℤ) → In c small → In c big) → IsBeside big p q → IsBeside small p q
beside_fewer big [] p q sub h = tt
beside_fewer big (c ∷ small) p q sub h = (beside_at big p q c (sub c (inl refl)) h, beside_fewer big small p q (λ d m. sub d (inr m)) h)

all_fewer : (big small : ℕ → List ℤ) → ((a : ℕ) (c : ℤ) → In c (small a) → In c (big a)) → (commalist : List ℕ) (ps qs : List ℤ) → AreBeside big commalist ps qs → AreBeside small commalist ps qs
all_fewer big small sub [] ps qs h = tt
all_fewer big small sub (a ∷ commalist) [] qs h = absurd h
all_fewer big small sub (a ∷ commalist) (p ∷ ps) [] h = absurd h
all_fewer big small sub (a ∷ commalist) (p ∷ ps) (q ∷ qs) h = (beside_fewer (big a) (small a) p q (sub a) h.0, all_fewer big small sub commalist ps qs h.1)

cuts_among : (commalist : List ℕ) (scalars : List Expr) (e : Expr) (row : Row) (a : ℕ) (c : ℤ) → In e scalars → In c (inner_cuts commalist a e row) → In c (cuts_of_all commalist scalars row a)
cuts_among commalist scalars e row a c m h =
    let i : Span = span_of (value_at row a) in
    let all : List ℤ = flat_map (λ d. cuts commalist a d row) scalars in
    let own = (In-filter (is_inside i) c (cuts commalist a e row)).0 ((In-in_order int_cmp int_cmp_total int_cmp-IsAntisymmetric c (filter (is_inside i) (cuts commalist a e row))).0 h) in
    (In-in_order int_cmp int_cmp_total int_cmp-IsAntisymmetric c (filter (is_inside i) all)).1
    ((In-filter (is_inside i) c all).1 ((In-flat_map (λ d. cuts commalist a d row) c scalars).1 (e, m, own.0), own.1))

-- ---- the values of items

typed_in : (row : Row) (sets : PlainSets) (s : Name × Expr) → AreTypedOver row sets → In s sets → IsTypedOver row s.1
typed_in row [] s h m = absurd m
typed_in row (t ∷ sets) s h m = elim m [ inl e ↦ subst (λ (z : Name × Expr). IsTypedOver row z.1) (sym e) h.0 | inr n ↦ typed_in row sets s h.1 n ]

-- ---- labels

others_alike : (n : ℕ) (to : List ℕ) (f g : ℕ → Value) (at : List ℕ) → ((j : ℕ) → j < length at → among to (n + j) ≡ false → f (get_or at j 0) ≡ g (get_or at j 0))
    → others_from n to (map f at) ≡ others_from n to (map g at)
others_alike n to f g [] h = refl
others_alike n to f g (p ∷ at) h =
    let rest = others_alike (suc n) to f g at (λ j l e.
    let z : suc n + j ≡ n + suc j = omega arith in
    h (suc j) (omega (arith, l)) (subst (λ k. among to k ≡ false) z e)) in
    by (among to n) refl rest
  where
    by : (b : Bool) → among to n ≡ b → others_from (suc n) to (map f at) ≡ others_from (suc n) to (map g at)
        → unless (among to n) (f p) (others_from (suc n) to (map f at)) ≡ unless (among to n) (g p) (others_from (suc n) to (map g at))
    by b e rest =
        ap (λ c. unless c (f p) (others_from (suc n) to (map f at))) e ∙ listed b e ∙ sym (ap (λ c. unless c (g p) (others_from (suc n) to (map g at))) e)
      where
        listed : (b : Bool) → among to n ≡ b → unless b (f p) (others_from (suc n) to (map f at)) ≡ unless b (g p) (others_from (suc n) to (map g at))
        listed false q =
            let z : n ≡ n + 0 = omega arith in
            let first : f p ≡ g p = h 0 (omega arith) (subst (λ k. among to k ≡ false) z q) in
            ap₂ (λ (v : Value) (vs : List Value). v ∷ vs) first rest
        listed true q = rest

-- a value of the items, or one of a row
before : (made x y : Row) (p : ℕ) → p < length made → get_or (made ++ x) p (truth false) ≡ get_or (made ++ y) p (truth false)
before [] x y p l = absurd (omega (arith, l))
before (v ∷ made) x y zero l = refl
before (v ∷ made) x y (suc p) l = before made x y p (omega (arith, l))

free_same : (commalist : List ℕ) (made x y : Row) (p : ℕ) → ((a : ℕ) → among commalist a ≡ false → value_at x a ≡ value_at y a) → IsFree commalist (length made) p
    → get_or (made ++ x) p (truth false) ≡ get_or (made ++ y) p (truth false)
free_same commalist made x y p same h = elim h [
  | inl l ↦ before made x y p l
  | inr w ↦
      ap (λ k. get_or (made ++ x) k (truth false)) w.1 ∙ get_or-append-add made x w.0 (truth false) ∙ sym (value_at-get x w.0) ∙ same w.0 w.2 ∙ value_at-get y w.0 ∙ sym (get_or-append-add made y w.0 (truth false)) ∙ sym (ap (λ k. get_or (made ++ y) k (truth false)) w.1)
]

-- ---- what is made at places of a cell

made_label : (at to : List ℕ) (x : Row) (r : OrFault (List Value)) → then_give (then_give (then_give r (λ made. Ok (part_of at (made ++ x)))) (λ y. Ok (Some y))) (labelled_if to)
    ≡ then_give r (λ made. Ok (Some (others to (part_of at (made ++ x)))))
made_label at to x (Ok made) = refl
made_label at to x (Err e) = refl

same_labels : (f g : List Value → Row) (r : OrFault (List Value)) → ((made : List Value) → r ≡ Ok made → f made ≡ g made) → then_give r (λ made. Ok (Some (f made))) ≡ then_give r (λ made. Ok (Some (g made)))
same_labels f g (Ok made) h = ap (λ (l : Row). Ok (Some l)) (h made refl)
same_labels f g (Err e) h = refl

pub extended_steady : (commalist to : List ℕ) (sets : PlainSets) (at : List ℕ) (row : Row) → AreTypedOver row sets → AreSweepable commalist sets
    → ((j : ℕ) → j < length at → among to j ≡ false → IsFree commalist (length sets) (get_or at j 0))
    → AreCutsFrom (λ side. cuts_of_all commalist (scalars_of sets) row (slice_index commalist side)) 0 (spans_at commalist row)
    → (cell : List Span) (ps qs : List ℤ) → Among cell (cells_of (λ side. cuts_of_all commalist (scalars_of sets) row (slice_index commalist side)) (spans_at commalist row)) → Has cell ps → Has cell qs
    → swept commalist to (made_of at sets) row ps ≡ swept commalist to (made_of at sets) row qs
extended_steady commalist to sets at row typed sweepable free inside cell ps qs m hp hq =
    let own : ℕ → List ℤ = λ a. cuts_of_all commalist (scalars_of sets) row a in
    let cuts : ℕ → List ℤ = λ side. own (slice_index commalist side) in
    let x : Row = at_place commalist ps row in
    let y : Row = at_place commalist qs row in
    let wp = within_has commalist row ps (cell_in cuts 0 (spans_at commalist row) inside cell m ps hp) in
    let wq = within_has commalist row qs (cell_in cuts 0 (spans_at commalist row) inside cell m qs hq) in
    let beside : AreBeside own commalist ps qs = cell_beside cuts own (λ i. span_of (value_at row i)) 0 commalist (λ i l.
    let z : 0 + i ≡ i = omega arith in
    ap cuts z) inside cell m ps qs hp hq in
    let one : (s : Name × Expr) → In s sets → value s.1 x ≡ value s.1 y = λ s n.
    swept-alike_within s.1 row commalist ps qs (typed_in row sets s typed n) (sweepable s n) wp wq
    (all_fewer own (λ a. inner_cuts commalist a s.1 row) (λ a c k. cuts_among commalist (scalars_of sets) s.1 row a c ((In-map (λ (t : Name × Expr). t.1) s.1 sets).1 (s, n, refl)) k) commalist ps qs beside) in
    let values : values_on x sets ≡ values_on y sets = ap first_of_all (map-In (λ (s : Name × Expr). value s.1 x) (λ (s : Name × Expr). value s.1 y) sets one) in
    let same : (a : ℕ) → among commalist a ≡ false → value_at x a ≡ value_at y a = λ a n. at_place-other commalist ps row a n ∙ sym (at_place-other commalist qs row a n) in
    let labels : (made : List Value) → values_on y sets ≡ Ok made → others to (part_of at (made ++ x)) ≡ others to (part_of at (made ++ y)) = λ made e.
    let long : length made ≡ length sets = length-first_of_all (map (λ (s : Name × Expr). value s.1 y) sets) made e ∙ length-map sets (λ (s : Name × Expr). value s.1 y) in
    others_alike 0 to (λ p. get_or (made ++ x) p (truth false)) (λ p. get_or (made ++ y) p (truth false)) at (λ j l n.
    let z : 0 + j ≡ j = omega arith in
    free_same commalist made x y (get_or at j 0) same (subst (λ k. IsFree commalist k (get_or at j 0)) (sym long) (free j l (subst (λ k. among to k ≡ false) z n)))) in
    made_label at to x (values_on x sets) ∙ ap (λ (r : OrFault (List Value)). then_give r (λ made. Ok (Some (others to (part_of at (made ++ x)))))) values
    ∙ same_labels (λ made. others to (part_of at (made ++ x))) (λ made. others to (part_of at (made ++ y))) (values_on y sets) labels
    ∙ sym (made_label at to y (values_on y sets))

pub extended_there : (commalist to : List ℕ) (sets : PlainSets) (at : List ℕ) (rows : List Row) (boxes : List (Row × List (AnyPoint × AnyPoint))) (row : ℕ) (h : CanExtend commalist to sets at rows boxes row)
    (cell : List Span) (ps qs : List ℤ) → Among cell (cells_of (swept_cuts commalist (scalars_of sets) rows row) (box_numbers number (get_or boxes row ([], [])).1)) → Has cell ps → Has cell qs
    → swept_rows commalist to (made_of at sets) rows row ps ≡ swept_rows commalist to (made_of at sets) rows row qs
extended_there commalist to sets at rows boxes row h cell ps qs m a b =
    let x : Row = get_or rows row [] in
    let e = sides_there commalist rows boxes row h.boxed in
    let cuts = swept_cuts commalist (scalars_of sets) rows row in
    extended_steady commalist to sets at x (h.items.typed x (own_fits commalist rows boxes row h.boxed)) h.items.sweepable h.items.free
    (subst (AreCutsFrom cuts 0) e (inside_from commalist rows boxes row h.boxed (scalars_of sets))) cell ps qs
    (subst (λ (box : List Span). Among cell (cells_of cuts box)) e m) a b
