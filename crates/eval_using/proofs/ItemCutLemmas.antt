-- The cuts by all items are those by each, put in order.
use Rattle.std.proofs.Common.{◌≡◌, ◌↔◌, inl, inr, ℕ, ◌+◌, ◌<◌, ◌≤◌, ℤ, Bool, List, [], ◌∷◌, ◌++◌, map, take, length, get_or, refl, sym, ap, ◌∙◌, subst, Less, Equal}
use Rattle.std.specs.Bool.{IsTrue}
use Rattle.std.specs.Cmp.{int_cmp_total}
use Rattle.std.specs.FinMap.{int_cmp-IsAntisymmetric}
use Rattle.std.specs.List.{All, filter, flat_map}
use Rattle.std.specs.List.Retain.{IsFiltered, DiffersFromLast}
use Rattle.std.specs.List.Sorted.{IsPermutation, IsSorted}
use Rattle.std.specs.Cmp.{tied_itself, Equal-is}
use Rattle.std.proofs.lemmas.List.Filters.{dedup_is}
use Rattle.std.specs.Ordering.{int_cmp, eq_by_cmp}
use Rattle.std.proofs.lemmas.Grind.{flat_map-append}
use Rattle.std.proofs.lemmas.List.{map-append, append-nil, take_more}
use Rattle.std.proofs.lemmas.List.Elements.{All-append, filter-append, Contains-get_or}
use Rattle.base_core.specs.Sets.{in_order}
use Rattle.base_core.proofs.MemberLemmas.{In-map}
use Rattle.base_core.proofs.SetLemmas.{In, Ascends, In-in_order, Ascends-in_order, same_by_members, In-from_Contains, Contains-from_In, in_order_of_sorted}
use Rattle.base_core.proofs.SetOperatorLemmas.{AllAfter-In, in_order-flat_map_in_order, same_tests}
use Rattle.point_core.specs.Orders.{point_cmp, point_eq}
use Rattle.point_core.specs.Points.{Line, line, number, IsPointOf}
use Rattle.point_core.specs.declared.any_type.AnyPoint.{AnyPoint}
use Rattle.point_core.specs.declared.any_type.AnyType.{AnyType}
use Rattle.point_core.proofs.OrderLemmas.{point_total, point_same, point_cmp_line, point_eq_decides}
use Rattle.value_core.specs.Attributes.{value_at, span_of}
use Rattle.value_core.specs.Values.{Name, Row, fits}
use Rattle.value_core.specs.declared.kind.Kind.TheVariants.{Span as SpanOf}
use Rattle.scalar_core.specs.Cuts.{cuts, inner_cuts, is_inside}
use Rattle.scalar_core.specs.Expressions.{Expr, read}
use Rattle.scalar_core.specs.declared.tree.Scalar.{Scalar}
use Rattle.tree_core.specs.Trees.{PlainSets, read_set, read_sets}
use Rattle.cell_core.proofs.KeyLemmas.{take_whole}
use Rattle.eval_using.specs.Cells.{scalars_of, cuts_of_all}

-- ---- points of one line in order

line_after : (p : AnyPoint) (ps : List AnyPoint) (l : Line) → ((q : AnyPoint) → In q (p ∷ ps) → line q ≡ l) → ((q : AnyPoint) → In q ps → point_cmp p q ≡ Less) → (n : ℤ) → In n (map number ps) → int_cmp (number p) n ≡ Less
line_after p ps l lines up n m =
    let w = (In-map number n ps).0 m in
    subst (λ k. int_cmp (number p) k ≡ Less) (sym w.2) (sym (point_cmp_line p w.0 (lines p (inl refl) ∙ sym (lines w.0 (inr w.1)))) ∙ up w.0 w.1)

numbers_ascend : (ps : List AnyPoint) (l : Line) → ((q : AnyPoint) → In q ps → line q ≡ l) → Ascends point_cmp ps → Ascends int_cmp (map number ps)
numbers_ascend [] l lines up = tt
numbers_ascend (p ∷ ps) l lines up =
    ((AllAfter-In int_cmp (number p) (map number ps)).1 (line_after p ps l lines ((AllAfter-In point_cmp p ps).0 up.0)), numbers_ascend ps l (λ q m. lines q (inr m)) up.1)

pub ordered_numbers : (ps : List AnyPoint) (l : Line) → ((q : AnyPoint) → In q ps → line q ≡ l) → map number (in_order point_cmp ps) ≡ in_order int_cmp (map number ps)
ordered_numbers ps l lines =
    let set : List AnyPoint = in_order point_cmp ps in
    let back : (q : AnyPoint) → In q set ↔ In q ps = λ q. In-in_order point_cmp point_total point_same q ps in
    same_by_members int_cmp int_cmp_total int_cmp-IsAntisymmetric (map number set) (in_order int_cmp (map number ps))
    (numbers_ascend set l (λ q m. lines q ((back q).0 m)) (Ascends-in_order point_cmp point_total point_same ps))
    (Ascends-in_order int_cmp int_cmp_total int_cmp-IsAntisymmetric (map number ps))
    (λ n.
    let all = In-in_order int_cmp int_cmp_total int_cmp-IsAntisymmetric n (map number ps) in (
      λ m. let w = (In-map number n set).0 m in all.1 ((In-map number n ps).1 (w.0, (back w.0).0 w.1, w.2)),
      λ m. let w = (In-map number n ps).0 (all.0 m) in (In-map number n set).1 (w.0, (back w.0).1 w.1, w.2),
    ))

-- ---- of items

kept_together : (commalist : List ℕ) (a : ℕ) (row : Row) (p : ℤ → Bool) (sets : PlainSets) → flat_map (λ s. filter p (cuts commalist a s.1 row)) sets ≡ filter p (flat_map (λ e. cuts commalist a e row) (scalars_of sets))
kept_together commalist a row p [] = refl
kept_together commalist a row p (s ∷ sets) =
    ap (λ ns. filter p (cuts commalist a s.1 row) ++ ns) (kept_together commalist a row p sets)
    ∙ sym (filter-append p (cuts commalist a s.1 row) (flat_map (λ e. cuts commalist a e row) (scalars_of sets)))

pub all_in_order : (commalist : List ℕ) (a : ℕ) (row : Row) (sets : PlainSets) → in_order int_cmp (flat_map (λ s. inner_cuts commalist a s.1 row) sets) ≡ cuts_of_all commalist (scalars_of sets) row a
all_in_order commalist a row sets =
    let p = is_inside (span_of (value_at row a)) in
    in_order-flat_map_in_order int_cmp int_cmp_total int_cmp-IsAntisymmetric (λ (s : Name × Expr). filter p (cuts commalist a s.1 row)) sets
    ∙ ap (in_order int_cmp) (kept_together commalist a row p sets)

-- the points are those of the cuts by the first n items, and of any type that the interval fits
pub record AreCutsOf (commalist : List ℕ) (a : ℕ) (row : Row) (sets : List (Name × Scalar)) (n : ℕ) (points : List AnyPoint) : Type 0 where
  pub numbers : map number points ≡ flat_map (λ s. inner_cuts commalist a s.1 row) (read_sets (take n sets))
  pub of_type : (t : AnyType) → IsTrue (fits (SpanOf t) (value_at row a)) → All (IsPointOf t) points

pub more_cut : (commalist : List ℕ) (a : ℕ) (row : Row) (sets : List (Name × Scalar)) (i : ℕ) (s : Name × Scalar) (old own new : List AnyPoint) → i < length sets → s ≡ get_or sets i s
    → map number own ≡ inner_cuts commalist a (read s.1) row → ((t : AnyType) → IsTrue (fits (SpanOf t) (value_at row a)) → All (IsPointOf t) own) → new ≡ old ++ own
    → AreCutsOf commalist a row sets i old → AreCutsOf commalist a row sets (i + 1) new
more_cut commalist a row sets i s old own new l is one points e h =
    let g : Name × Expr → List ℤ = λ t. inner_cuts commalist a t.1 row in
    let split : take (i + 1) sets ≡ take i sets ++ s ∷ [] = take_more sets i s l ∙ ap (λ y. take i sets ++ y ∷ []) (sym is) in
    record {
      numbers =
          ap (map number) e ∙ map-append number old own ∙ (λ t. h.numbers t ++ one t)
          ∙ ap (λ ns. flat_map g (read_sets (take i sets)) ++ ns) (sym (append-nil (g (read_set s))))
          ∙ sym (flat_map-append g (map read_set (take i sets)) (read_set s ∷ []))
          ∙ ap (flat_map g) (sym (map-append read_set (take i sets) (s ∷ []))) ∙ ap (λ xs. flat_map g (map read_set xs)) (sym split);
      of_type = λ t f. subst (All (IsPointOf t)) (sym e) (All-append (IsPointOf t) old own (h.of_type t f) (points t f));
    }

-- ---- sorted

point_ties : (x y : AnyPoint) → point_eq x y ≡ eq_by_cmp point_cmp x y
point_ties x y =
    same_tests (point_eq x y) (eq_by_cmp point_cmp x y) (
      λ h. let e : x ≡ y = (point_eq_decides x y).0 h in (Equal-is (point_cmp x y)).1 (subst (λ z. point_cmp x z ≡ Equal) e (tied_itself point_total x)),
      λ h. (point_eq_decides x y).1 (point_same x y ((Equal-is (point_cmp x y)).0 h)),
    )

pub points_from_sort : (given sorted kept : List AnyPoint) → IsPermutation given sorted → IsSorted point_cmp sorted → IsFiltered (DiffersFromLast point_eq) [] sorted kept → kept ≡ in_order point_cmp given
points_from_sort given sorted kept moved ascending left =
    dedup_is point_eq sorted kept left ∙ in_order_of_sorted point_cmp point_total point_same point_eq point_ties given sorted moved ascending

-- all of a list, member by member
pub all_in : {X : Type 0} (P : X → Type 0) (xs : List X) → All P xs → (x : X) → In x xs → P x
all_in P xs h x m = let w = Contains-from_In xs x m in subst P w.2 (h w.0 x w.1)

-- ---- a loop over items

pub item_in : (sets : List (Name × Scalar)) (i : ℕ) (s : Name × Scalar) → i < length sets → s ≡ get_or sets i s → In (read_set s) (read_sets sets)
item_in sets i s l is = (In-map read_set (read_set s) sets).1 (s, subst (λ z. In z sets) (sym is) (In-from_Contains sets (get_or sets i s) (Contains-get_or sets i s l)), refl)

pub all_cut : (commalist : List ℕ) (a : ℕ) (row : Row) (sets : List (Name × Scalar)) (n : ℕ) (points : List AnyPoint) → AreCutsOf commalist a row sets n points → length sets ≤ n
    → map number points ≡ flat_map (λ s. inner_cuts commalist a s.1 row) (read_sets sets)
all_cut commalist a row sets n points h end = h.numbers ∙ ap (λ (xs : List (Name × Scalar)). flat_map (λ s. inner_cuts commalist a s.1 row) (read_sets xs)) (take_whole sets n end)
