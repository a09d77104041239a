-- The rows of groups fit the heading that the aggregates make with that of the rows.
use Rattle.std.proofs.Common.{◌≡◌, ℕ, zero, suc, ◌<◌, ◌≤◌, pos, Bool, true, false, cond, List, [], ◌∷◌, ◌++◌, length, map, get_or, refl, sym, ap, ap₂, ◌∙◌, subst, arith, IsTrue, inl, inr, Ok, Err}
use Rattle.std.specs.List.{All, Contains, list_all, best_of, filter}
use Rattle.std.proofs.lemmas.Bool.{and_parts, and_from}
use Rattle.std.proofs.lemmas.Int.{ints}
use Rattle.std.proofs.lemmas.List.{map-append, length-map}
use Rattle.std.proofs.lemmas.List.Sorted.{IsPermutation-sym}
use Rattle.base_core.specs.Outcomes.{then_give, first_of_all, least_of_all}
use Rattle.base_core.proofs.MemberLemmas.{In-append, In-map}
use Rattle.base_core.proofs.OutcomeLemmas.{least_of_all-Ok, length-first_of_all}
use Rattle.base_core.proofs.SetLemmas.{In}
use Rattle.base_core.proofs.SetOperatorLemmas.{In-permutation, length-in_order}
use Rattle.point_core.specs.Faults.{OrFault}
use Rattle.point_core.specs.Points.{integers, is_number}
use Rattle.point_core.specs.contracts.fault.FaultOrd.TheImpl.Laws.{total-law}
use Rattle.point_core.specs.declared.any_type.AnyType.TheVariants.{Integer}
use Rattle.point_core.specs.declared.fault.Place.{Place}
use Rattle.value_core.specs.Headings.{IsHeadingOf}
use Rattle.value_core.specs.Values.{Name, Row, Heading, Value, point, is_heading, fits, fits_heading, most_rows, rows_of, row_cmp}
use Rattle.value_core.specs.declared.kind.Kind.{Kind}
use Rattle.value_core.specs.declared.kind.Kind.TheVariants.{Point}
use Rattle.scalar_core.specs.Expressions.{Expr}
use Rattle.scalar_core.specs.Operations.{integer, number_of}
use Rattle.scalar_core.specs.ScalarValues.{value}
use Rattle.scalar_core.proofs.KindLemmas.{value-fits, integer-fits}
use Rattle.scalar_core.proofs.PointLemmas.{number-is_number}
use Rattle.relation_core.specs.Agreement.{names_of, part_of}
use Rattle.point_core.specs.Orders.{fault_order}
use Rattle.relation_core.specs.Parts.{no_attribute, attributes_at, projected}
use Rattle.relation_core.proofs.FilterLemmas.{passes_at, list_all-filter, length-filter_at_most}
use Rattle.relation_core.proofs.GroupLemmas.{group_key, rows_at-group, group_not_empty}
use Rattle.relation_core.specs.Groups.{group, groups, rows_at, has_part, summarized}
use Rattle.relation_core.proofs.HeadingLemmas.{heading_ascends, within_by_members, projected_few}
use Rattle.tree_core.specs.Trees.{PlainAggregateForm, count_rows, sum_of, min_of, max_of, PlainAggregate}
use Rattle.u_summary.specs.Summaries.{total, is_before}
use Rattle.relation_core.proofs.JoinLemmas.{fits_both}
use Rattle.meaning_core.specs.Meanings.{limited}
use Rattle.meaning_core.specs.Places.{places}
use Rattle.meaning_core.specs.Rows.{extreme, values_over, aggregate_value, aggregates_on, aggregate_names, first_row, group_at, group_row}
use Rattle.meaning_core.specs.Scalars.{AllOver, IsSummedOver, AreSummedOver}
use Rattle.meaning_core.specs.Typing.{IsScalar, HasKind, Sums, IsSummary}
use Rattle.meaning_core.proofs.LimitLemmas.{unlimited}
use Rattle.meaning_core.proofs.MadeLemmas.{Attribute, IsFirst, IsAlone, first_append, first_in, one_in_order, alone_in, picked_fits, one_more, split_ok}

-- ---- values of a kind

values_fit : (from : Heading) (e : Expr) (kind : Kind) (sizes : List ℕ) (group : List Row) (vs : List Value) → IsScalar sizes from e kind → IsTrue (list_all (fits_heading from) group)
    → first_of_all (map (value e) group) ≡ Ok vs → IsTrue (list_all (fits kind) vs)
values_fit from e kind sizes [] vs typed h q = subst (λ (ws : List Value). IsTrue (list_all (fits kind) ws)) (let same : [] ≡ vs = cc in same) refl
values_fit from e kind sizes (x ∷ group) vs typed h q =
    let both_fit = and_parts (fits_heading from x) (list_all (fits_heading from) group) h in
    let parts = one_more (value e x) (first_of_all (map (value e) group)) vs q in
    subst (λ (ws : List Value). IsTrue (list_all (fits kind) ws)) parts.4
    (and_from (fits kind parts.0) (list_all (fits kind) parts.1) (value-fits from x e kind parts.0 both_fit.0 typed.typed parts.2) (values_fit from e kind sizes group parts.1 typed both_fit.1 parts.3))

chosen_fits : (kind : Kind) (b : Bool) (x v : Value) → IsTrue (fits kind x) → IsTrue (fits kind v) → IsTrue (fits kind (cond b x v))
chosen_fits kind true x v h k = h
chosen_fits kind false x v h k = k

best_fits : (kind : Kind) (beats : Value → Value → Bool) (v : Value) (vs : List Value) → IsTrue (fits kind v) → IsTrue (list_all (fits kind) vs) → IsTrue (fits kind (best_of beats v vs))
best_fits kind beats v [] h k = h
best_fits kind beats v (x ∷ vs) h k =
    let parts = and_parts (fits kind x) (list_all (fits kind) vs) k in
    best_fits kind beats (cond (beats x v) x v) vs (chosen_fits kind (beats x v) x v parts.0 h) parts.1

extreme_fits : (kind : Kind) (beats : Value → Value → Bool) (vs : List Value) → 0 < length vs → IsTrue (list_all (fits kind) vs) → IsTrue (fits kind (extreme beats vs))
extreme_fits kind beats [] l h = absurd (omega arith)
extreme_fits kind beats (v ∷ vs) l h = let parts = and_parts (fits kind v) (list_all (fits kind) vs) h in best_fits kind beats v vs parts.0 parts.1

tested : {F : Type 0} (b : Bool) (x w : Value) (f : F) → cond b (Ok x) (Err f) ≡ Ok w → (b ≡ true) × (x ≡ w)
tested true x w f e = (refl, cc)
tested false x w f e = absurd cc

over_fit : (sizes : List ℕ) (from : Heading) (e : Expr) (kind : Kind) (beats : Value → Value → Bool) (group : List Row) (v : Value) → IsScalar sizes from e kind → IsTrue (list_all (fits_heading from) group) → 0 < length group
    → then_give (values_over e group) (λ vs. Ok (extreme beats vs)) ≡ Ok v → IsTrue (fits kind v)
over_fit sizes from e kind beats group v typed h l q =
    let parts = split_ok (values_over e group) (extreme beats) v q in
    let all = (least_of_all-Ok fault_order total-law (map (value e) group) parts.0).0 parts.1 in
    let many : length parts.0 ≡ length group = length-first_of_all (map (value e) group) parts.0 all ∙ length-map group (value e) in
    subst (λ (w : Value). IsTrue (fits kind w)) parts.2 (extreme_fits kind beats parts.0 (omega (arith, many)) (values_fit from e kind sizes group parts.0 typed h all))

then_some : {X Y : Type 0} (r : OrFault X) (f : X → OrFault Y) (y : Y) → then_give r f ≡ Ok y → (x : X) × (r ≡ Ok x) × (f x ≡ Ok y)
then_some (Ok x) f y e = (x, refl, e)
then_some (Err d) f y e = absurd cc

aggregate_fits : (sizes : List ℕ) (from : Heading) (place : Place) (form : PlainAggregateForm) (kind : Kind) (group : List Row) (v : Value) → HasKind sizes from form kind → IsTrue (list_all (fits_heading from) group)
    → 0 < length group → length group ≤ most_rows → aggregate_value place form group ≡ Ok v → IsTrue (fits kind v)
aggregate_fits sizes from place count_rows kind group v h fit l few e =
    let same : point integers (pos (length group)) ≡ v = cc in
    let number : is_number Integer (pos (length group)) ≡ true = number-is_number Integer (pos (length group)) (omega (arith, ints), omega (arith, ints)) in
    subst (λ (k : Kind). IsTrue (fits k v)) (sym h) (subst (λ (w : Value). IsTrue (fits (Point Integer) w)) same number)
aggregate_fits sizes from place (sum_of e) kind group v h fit l few q =
    let parts = then_some (values_over e group) (λ vs. integer place (total (map number_of vs))) v q in
    subst (λ (k : Kind). IsTrue (fits k v)) (sym h.1) (integer-fits place (total (map number_of parts.0)) v parts.2)
aggregate_fits sizes from place (min_of e) kind group v h fit l few q = over_fit sizes from e kind is_before group v h.0 fit l q
aggregate_fits sizes from place (max_of e) kind group v h fit l few q = over_fit sizes from e kind (λ w x. is_before x w) group v h.0 fit l q

aggregates_fit : (sizes : List ℕ) (from : Heading) (aggregates : List PlainAggregate) (made : Heading) (group : List Row) (values : Row) → Sums sizes from aggregates made → IsTrue (list_all (fits_heading from) group)
    → 0 < length group → length group ≤ most_rows → aggregates_on group aggregates ≡ Ok values → IsTrue (fits_heading made values)
aggregates_fit sizes from [] [] group values h fit l few e = subst (λ (vs : Row). IsTrue (fits_heading [] vs)) (let same : [] ≡ values = cc in same) refl
aggregates_fit sizes from [] (a ∷ made) group values h fit l few e = absurd h
aggregates_fit sizes from (g ∷ aggregates) [] group values h fit l few e = absurd h
aggregates_fit sizes from (g ∷ aggregates) (a ∷ made) group values h fit l few e =
    let parts = one_more (aggregate_value g.place g.form group) (aggregates_on group aggregates) values e in
    subst (λ (vs : Row). IsTrue (fits_heading (a ∷ made) vs)) parts.4
    (and_from (fits a.1 parts.0) (fits_heading made parts.1) (aggregate_fits sizes from g.place g.form a.1 group parts.0 h.1 fit l few parts.2)
    (aggregates_fit sizes from aggregates made group parts.1 h.2 fit l few parts.3))

pub sum_names : (sizes : List ℕ) (from : Heading) (aggregates : List PlainAggregate) (made : Heading) → Sums sizes from aggregates made → aggregate_names aggregates ≡ names_of made
sum_names sizes from [] [] h = refl
sum_names sizes from [] (a ∷ made) h = absurd h
sum_names sizes from (g ∷ aggregates) [] h = absurd h
sum_names sizes from (g ∷ aggregates) (a ∷ made) h = ap₂ (λ (n : Name) (ns : List Name). n ∷ ns) h.0 (sum_names sizes from aggregates made h.2)

-- ---- the heading

In-get : (xs : Heading) (i : ℕ) → i < length xs → In (get_or xs i no_attribute) xs
In-get [] i l = absurd (omega arith)
In-get (x ∷ xs) zero l = inl refl
In-get (x ∷ xs) (suc i) l = inr (In-get xs i (omega arith))

first_of_summary : (from to made : Heading) (by : List ℕ) (a : Attribute) → IsTrue (is_heading from) → All (λ (i : ℕ). i < length from) by → IsHeadingOf (made ++ attributes_at by from) to → In a to → IsFirst a (made ++ from)
first_of_summary from to made by a headed within h i =
    let kept = attributes_at by from in
    let list = made ++ kept in
    let j : In a list = In-permutation to list a (IsPermutation-sym list to h.same) i in
    let alone : IsAlone a list = alone_in list to a h j in
    first_append a made from (λ b k. alone b ((In-append b made kept).1 (inl k))) (
    elim ((In-append a made kept).0 j) [
      | inl k ↦ inl k
      | inr k ↦ inr (
          let m = (In-map (λ (p : ℕ). get_or from p no_attribute) a by).0 k in
          let l : In a from = subst (λ (z : Attribute). In z from) (sym m.2) (In-get from m.0 (within_by_members (length from) by within m.0 m.1)) in
          first_in a from (λ b n. one_in_order from a b (heading_ascends from headed) l n) l
          )
    ]
    )

first_fits : (from : Heading) (group : List Row) → IsTrue (list_all (fits_heading from) group) → 0 < length group → IsTrue (fits_heading from (first_row group))
first_fits from [] h l = absurd (omega arith)
first_fits from (x ∷ group) h l = (and_parts (fits_heading from x) (list_all (fits_heading from) group) h).0

pub grouped_fits : (sizes : List ℕ) (from to : Heading) (by : List ℕ) (aggregates : List PlainAggregate) (at : List ℕ) (group : List Row) (y : Row) → IsTrue (is_heading from) → IsSummary sizes from to by aggregates
    → at ≡ places (aggregate_names aggregates ++ names_of from) to → IsTrue (list_all (fits_heading from) group) → 0 < length group → length group ≤ most_rows → group_at at aggregates group ≡ Ok y → IsTrue (fits_heading to y)
grouped_fits sizes from to by aggregates at group y headed h is fit l few e =
    let first = first_row group in
    let parts = split_ok (aggregates_on group aggregates) (λ (made : Row). part_of at (made ++ first_row group)) y e in
    let names : aggregate_names aggregates ++ names_of from ≡ names_of (h.made ++ from) = ap (λ (ns : List Name). ns ++ names_of from) (sum_names sizes from aggregates h.made h.makes) ∙ sym (map-append (λ (a : Attribute). a.0) h.made from) in
    let made = aggregates_fit sizes from aggregates h.made group parts.0 h.makes fit l few parts.1 in
    let all : IsTrue (fits_heading to (part_of (places (names_of (h.made ++ from)) to) (parts.0 ++ first_row group))) =
    picked_fits to (h.made ++ from) (parts.0 ++ first) (λ a i. first_of_summary from to h.made by a headed h.positions.within h.headed i) (fits_both h.made from parts.0 first made (first_fits from group fit l)) in
    subst (λ (z : Row). IsTrue (fits_heading to z)) (ap (λ (ns : List Name). part_of (places ns to) (parts.0 ++ first_row group)) (sym names) ∙ (ap (λ (ps : List ℕ). part_of ps (parts.0 ++ first_row group)) (sym is) ∙ parts.2)) all

-- ---- what is typed

over_rows : (sizes : List ℕ) (from : Heading) (e : Expr) (kind : Kind) (rows : List Row) → IsScalar sizes from e kind → IsTrue (list_all (fits_heading from) rows) → AllOver rows e
over_rows sizes from e kind rows typed h i d l = (from, kind, passes_at (fits_heading from) rows i d h l, typed.typed)

summed_over : (sizes : List ℕ) (from : Heading) (form : PlainAggregateForm) (kind : Kind) (rows : List Row) → HasKind sizes from form kind → IsTrue (list_all (fits_heading from) rows) → IsSummedOver rows form
summed_over sizes from count_rows kind rows h fit = tt
summed_over sizes from (sum_of e) kind rows h fit = over_rows sizes from e kind rows h.0 fit
summed_over sizes from (min_of e) kind rows h fit = over_rows sizes from e kind rows h.0 fit
summed_over sizes from (max_of e) kind rows h fit = over_rows sizes from e kind rows h.0 fit

pub summed_typed : (sizes : List ℕ) (from : Heading) (aggregates : List PlainAggregate) (made : Heading) (rows : List Row) → Sums sizes from aggregates made → IsTrue (list_all (fits_heading from) rows) → AreSummedOver rows aggregates
summed_typed sizes from [] made rows h fit = tt
summed_typed sizes from (g ∷ aggregates) [] rows h fit = absurd h
summed_typed sizes from (g ∷ aggregates) (a ∷ made) rows h fit = (summed_over sizes from g.form a.1 rows h.1 fit, summed_typed sizes from aggregates made rows h.2 fit)

-- ---- groups

pub group_rows : (by : List ℕ) (rows : List Row) (g : List ℕ) → Contains (groups by rows) g → (key : Row) × (rows_at rows g ≡ filter (has_part by key) rows)
group_rows by rows g m =
    let k = group_key by rows g m in
    (k.0, ap (rows_at rows) k.2 ∙ rows_at-group by rows k.0)

pub group_fits : (from : Heading) (by : List ℕ) (rows : List Row) (g : List ℕ) → Contains (groups by rows) g → IsTrue (list_all (fits_heading from) rows) → IsTrue (list_all (fits_heading from) (rows_at rows g))
group_fits from by rows g m h =
    let k = group_rows by rows g m in
    subst (λ (rs : List Row). IsTrue (list_all (fits_heading from) rs)) (sym k.1) (list_all-filter (fits_heading from) (has_part by k.0) rows h)

pub group_some : (by : List ℕ) (rows : List Row) (g : List ℕ) → Contains (groups by rows) g → 0 < length (rows_at rows g)
group_some by rows g m = let l = group_not_empty by rows g m in omega (arith, l, length-map g (λ (i : ℕ). get_or rows i []))

pub group_few : (by : List ℕ) (rows : List Row) (g : List ℕ) → Contains (groups by rows) g → length rows ≤ most_rows → length (rows_at rows g) ≤ most_rows
group_few by rows g m few =
    let k = group_rows by rows g m in
    let same = ap (λ (rs : List Row). length rs) k.1 in
    let less = length-filter_at_most (has_part by k.0) rows in
    omega (arith, same, less)

pub summary_meant : (from to : Heading) (by : List ℕ) (aggregates : List PlainAggregate) (at : List ℕ) (rows : List Row) (place : Place) → at ≡ places (aggregate_names aggregates ++ names_of from) to → length rows ≤ most_rows
    → then_give (summarized by (λ numbers. group_row from to aggregates (rows_at rows numbers)) rows) (limited place) ≡ summarized by (λ g. group_at at aggregates (rows_at rows g)) rows
summary_meant from to by aggregates at rows place is few =
    let f : List ℕ → OrFault Row = λ numbers. group_row from to aggregates (rows_at rows numbers) in
    unlimited (least_of_all fault_order (map f (groups by rows))) rows_of place
    (λ given e. small f given (length-first_of_all (map f (groups by rows)) given ((least_of_all-Ok fault_order total-law (map f (groups by rows)) given).0 e)))
    ∙ ap (λ (ps : List ℕ). summarized by (λ g. group_at ps aggregates (rows_at rows g)) rows) (sym is)
  where
    small : (f : List ℕ → OrFault Row) (given : List Row) → length given ≡ length (map f (groups by rows)) → length (rows_of given) ≤ most_rows
    small f given e =
        omega (arith, length-in_order row_cmp given, length-map (groups by rows) f, length-map (projected by rows) (group by rows), projected_few by rows few)
