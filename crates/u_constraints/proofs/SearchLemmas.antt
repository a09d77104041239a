-- Rows in order, found by their first values.
--     prefixes_sorted      rows in order stand in the order of their first values
--     found      the rows with the first values of some rows
--     front_keys, front_touched      they are those that have keys, or these rows' parts
--     all_sought      whether each of some rows' parts is the first values of a row
--     none_selected, none_touched      of relations without rows
use Rattle.std.proofs.Common.{◌≡◌, ◌⊎◌, ◌↔◌, inl, inr, ℕ, zero, suc, ◌+◌, ◌<◌, ◌≤◌, ◌==◌, List, [], ◌∷◌, ◌++◌, length, get_or, take, map, refl, sym, ap, ap₂, ◌∙◌, subst, arith, eq-eqb, Bool, true, false, not, Ok, Err, Ordering}
use Rattle.std.specs.Prelude.{Result, IfOk}
use Rattle.std.specs.declared.cmp.Ordering.TheVariants.{Less, Equal}
use Rattle.std.specs.Bool.{IsTrue}
use Rattle.std.specs.List.{All, filter, flat_map, list_any, list_all}
use Rattle.std.specs.List.Sorted.{IsStrictlySortedBy, IsSortedByKey}
use Rattle.std.specs.Ordering.{is_lt, ordering_reverse}
use Rattle.std.proofs.lemmas.Bool.{eqb-true}
use Rattle.std.proofs.lemmas.List.{length-map, flat_map_more, take_more}
use Rattle.base_core.specs.Sets.{has, is_within}
use Rattle.base_core.proofs.SetLemmas.{In, Ascends, Ascends-from_sorted, In-in_order, Ascends-in_order, same_by_members}
use Rattle.base_core.proofs.MemberLemmas.{In-map, In-filter, In-flat_map, has-In, list_any-In, list_all-In, eq_by_cmp-≡}
use Rattle.base_core.proofs.SetOperatorLemmas.{Ascends-filter, same_tests}
use Rattle.point_core.specs.declared.memory.Memory.{Memory}
use Rattle.value_core.specs.Values.{Row, Relation, Heading, IsRelation, fits_heading, row_cmp, rows_of, most_rows}
use Rattle.value_core.specs.Order.{row_total, row_separates}
use Rattle.relation_core.specs.Agreement.{part_of}
use Rattle.relation_core.specs.Growth.{touched, IsSelection}
use Rattle.relation_core.specs.Parts.{projected}
use Rattle.relation_core.proofs.AgreementLemmas.{length_of_fit}
use Rattle.relation_core.proofs.FilterLemmas.{filter_same, length-filter_at_most, rows_ascend}
use Rattle.u_constraints.specs.Near.{begins_with_any, with_keys}
use Rattle.u_constraints.specs.Prefixes.{begins_with, counts_from}
use Rattle.u_constraints.proofs.PrefixLemmas.{few_first, prefixes_of_less, part_is_prefix}

-- ---- the order of first values

not_back : (r s : Ordering) → r ≡ ordering_reverse s → (s ≡ Less) ⊎ (s ≡ Equal) → is_lt r ≡ false
not_back r s e h = elim h [ inl w ↦ ap is_lt (e ∙ ap ordering_reverse w) | inr w ↦ ap is_lt (e ∙ ap ordering_reverse w) ]

prefix_step : (k : ℕ) (rows : List Row) → Ascends row_cmp rows → (i : ℕ) (d : Row) → suc i < length rows
    → is_lt (row_cmp (take k (get_or rows (suc i) d)) (take k (get_or rows i d))) ≡ false
prefix_step k [] a i d l = absurd (omega (arith, l))
prefix_step k (x ∷ []) a i d l = absurd (omega (arith, l))
prefix_step k (x ∷ y ∷ rows) a zero d l = not_back _ (row_cmp (take k x) (take k y)) (row_total.antisymm (take k y) (take k x)) (prefixes_of_less k x y a.0.0)
prefix_step k (x ∷ y ∷ rows) a (suc i) d l = prefix_step k (y ∷ rows) a.1 i d (omega (arith, l))

pub prefixes_sorted : (k : ℕ) (rows : List Row) → IsStrictlySortedBy row_cmp rows → IsSortedByKey (λ (x : Row). take k x) row_cmp rows
prefixes_sorted k rows up i d low l =
    let next : suc i ≡ i + 1 = omega arith in
    subst (λ n. is_lt (row_cmp (take k (get_or rows n d)) (take k (get_or rows i d))) ≡ false) next
    (prefix_step k rows (Ascends-from_sorted row_cmp rows up) i d (omega (arith, l)))

-- ---- whether any is found

pub none_found : (p : Row → Bool) (rows found : List Row) → found ≡ filter p rows → length found ≡ 0 → list_any p rows ≡ false
none_found p rows found is none =
    elim (list_any p rows) as (λ b. list_any p rows ≡ b → b ≡ false) [
      | true ↦ λ e.
          let w = (list_any-In p rows).0 e in
          let i : In w.0 found = subst (λ (zs : List Row). In w.0 zs) (sym is) ((In-filter p w.0 rows).1 (w.1, w.2)) in
          absurd (empty found w.0 none i)
      | false ↦ λ e. refl
    ] refl
  where
    empty : (zs : List Row) (z : Row) → length zs ≡ 0 → In z zs → ⊥
    empty [] z e i = i
    empty (y ∷ ys) z e i = omega (arith, e)

pub some_found : (p : Row → Bool) (rows found : List Row) → found ≡ filter p rows → 0 < length found → list_any p rows ≡ true
some_found p rows [] is some = absurd (omega (arith, some))
some_found p rows (x ∷ found) is some =
    let w = (In-filter p x rows).0 (subst (λ (zs : List Row). In x zs) is (inl refl)) in
    (list_any-In p rows).1 (x, w.0, w.1)

pub any_found : (p : Row → Bool) (rows found : List Row) (b : Bool) → found ≡ filter p rows → b ≡ (length found == 0) → not b ≡ list_any p rows
any_found p rows [] b is e = ap not (e ∙ eq-eqb 0 0 refl) ∙ sym (none_found p rows [] is refl)
any_found p rows (x ∷ found) b is e =
    elim b as (λ t. b ≡ t → not t ≡ list_any p rows) [
      | true ↦ λ h. let none : length (x ∷ found) ≡ 0 = eqb-true (length (x ∷ found)) 0 (sym e ∙ h) in absurd (omega (arith, none))
      | false ↦ λ h. sym (some_found p rows (x ∷ found) is (omega arith))
    ] refl

-- ---- parts at the first positions are first values

-- the parts have as many values as there are positions
pub part_length : (positions : List ℕ) (values : Row) (rows : List Row) → In values (projected positions rows) → length values ≡ length positions
part_length positions values rows i =
    let w = (In-map (part_of positions) values rows).0 ((In-in_order row_cmp row_total row_separates values (map (part_of positions) rows)).0 i) in
    ap (λ (z : Row). length z) w.2 ∙ length-map positions _

module _ (positions : List ℕ) (size : ℕ) (first : counts_from 0 positions ≡ true) (within : length positions ≤ size) where
  is_prefix : (x values : Row) → length x ≡ size → length values ≡ length positions → IsTrue (begins_with values x) ↔ (part_of positions x ≡ values)
  is_prefix x values long many =
      let same : part_of positions x ≡ take (length positions) x = part_is_prefix positions x first (omega (arith, within, long)) in
      let cut : take (length values) x ≡ take (length positions) x = ap (λ n. take n x) many in
      let both = eq_by_cmp-≡ row_cmp row_total row_separates (take (length values) x) values in
      (λ e. same ∙ (sym cut ∙ both.0 e), λ e. both.1 (cut ∙ (sym same ∙ e)))

  -- keys of that length are the first values of a row where they are its part
  pub found_part : (keys : List Row) (x : Row) → length x ≡ size → ((k : Row) → In k keys → length k ≡ length positions) → begins_with_any keys x ≡ has row_cmp keys (part_of positions x)
  found_part keys x long many =
      let any = list_any-In (λ values. begins_with values x) keys in
      let told = has-In row_cmp row_total row_separates keys (part_of positions x) in
      same_tests _ _ (
        λ e. let w = any.0 e in told.1 (subst (λ (z : Row). In z keys) (sym ((is_prefix x w.0 long (many w.0 w.1)).0 w.2)) w.1),
        λ e. let i = told.0 e in any.1 (part_of positions x, i, (is_prefix x (part_of positions x) long (many (part_of positions x) i)).1 refl),
      )

  -- whether values are the first ones of some row
  sought : (others : List Row) (values : Row) → ((x : Row) → In x others → length x ≡ size) → length values ≡ length positions
      → list_any (begins_with values) others ≡ has row_cmp (projected positions others) values
  sought others values long many =
      let told = has-In row_cmp row_total row_separates (projected positions others) values in
      let set = In-in_order row_cmp row_total row_separates values (map (part_of positions) others) in
      let parts = In-map (part_of positions) values others in
      let any = list_any-In (begins_with values) others in
      same_tests _ _ (
        λ e. let w = any.0 e in told.1 (set.1 (parts.1 (w.0, w.1, sym ((is_prefix w.0 values (long w.0 w.1) many).0 w.2)))),
        λ e. let w = parts.0 (set.0 (told.0 e)) in any.1 (w.0, w.1, (is_prefix w.0 values (long w.0 w.1) many).1 (sym w.2)),
      )

-- ---- of relations

pub in_order_too : (r : Relation) (rows : List Row) → rows ≡ r.rows → IsRelation r → IsStrictlySortedBy row_cmp rows
in_order_too r rows same is = subst (λ (zs : List Row). IsStrictlySortedBy row_cmp zs) (sym same) is.ascending

pub prefixes_more : (many given list : List Row) (i : ℕ) (values : Row) (old more new : List Row) → i < length list → values ≡ get_or list i values → given ≡ many
    → old ≡ flat_map (λ v. filter (begins_with v) many) (take i list) → more ≡ filter (begins_with values) given → new ≡ old ++ more
    → new ≡ flat_map (λ v. filter (begins_with v) many) (take (i + 1) list)
prefixes_more many given list i values old more new l at same so_far these all =
    let f : Row → List Row = λ v. filter (begins_with v) many in
    let next : take (i + 1) list ≡ take i list ++ values ∷ [] = take_more list i values l ∙ ap (λ (v : Row). take i list ++ v ∷ []) (sym at) in
    all
    ∙ (ap₂ (λ (xs ys : List Row). xs ++ ys) so_far (these ∙ ap (λ (zs : List Row). filter (begins_with values) zs) same)
    ∙ (flat_map_more f [] (take i list) values ∙ ap (λ (zs : List Row). flat_map f zs) (sym next)))

long_rows : (r : Relation) → IsRelation r → (x : Row) → In x r.rows → length x ≡ length r.heading
long_rows r is x i = length_of_fit r.heading x ((list_all-In (fits_heading r.heading) r.rows).0 is.fitting x i)

within_heading : (positions : List ℕ) (r : Relation) → counts_from 0 positions ≡ true → All (λ (i : ℕ). i < length r.heading) positions
    → length positions ≤ length r.heading
within_heading positions r first within = let few = few_first 0 (length r.heading) positions first (omega arith) within in omega (arith, few)

-- the rows with the first values of some are those that begin with any of them
pub found : (many prefixes rows : List Row) → Ascends row_cmp many → rows ≡ flat_map (λ values. filter (begins_with values) many) prefixes → rows_of rows ≡ filter (begins_with_any prefixes) many
found many prefixes rows up is =
    same_by_members row_cmp row_total row_separates (rows_of rows) (filter (begins_with_any prefixes) many)
    (Ascends-in_order row_cmp row_total row_separates rows) (Ascends-filter row_cmp (begins_with_any prefixes) many up) (λ x.
    let set = In-in_order row_cmp row_total row_separates x rows in
    let all = In-flat_map (λ (values : Row). filter (begins_with values) many) x prefixes in
    let kept = In-filter (begins_with_any prefixes) x many in
    let any = list_any-In (λ values. begins_with values x) prefixes in (
      λ i.
          let w = all.0 (subst (λ (zs : List Row). In x zs) is (set.0 i)) in
          let v = (In-filter (begins_with w.0) x many).0 w.2 in
          kept.1 (v.0, any.1 (w.0, w.1, v.1)),
      λ i.
          let v = kept.0 i in
          let w = any.0 v.1 in
          set.1 (subst (λ (zs : List Row). In x zs) (sym is) (all.1 (w.0, w.1, (In-filter (begins_with w.0) x many).1 (v.0, w.2)))),
    ))

-- and so not too many
pub found_few : (many : Relation) (prefixes rows : List Row) → IsRelation many → rows ≡ flat_map (λ values. filter (begins_with values) many.rows) prefixes → length (rows_of rows) ≤ most_rows
found_few many prefixes rows is all =
    let less = length-filter_at_most (begins_with_any prefixes) many.rows in
    let size : length (rows_of rows) ≡ length (filter (begins_with_any prefixes) many.rows) = ap (λ (zs : List Row). length zs) (found many.rows prefixes rows (rows_ascend many is) all) in
    let most = is.few in
    omega (arith, less, size, most)

-- at the first positions they are those with one of the keys
pub front_keys : (positions : List ℕ) (many : Relation) (keys : List Row) → IsRelation many → counts_from 0 positions ≡ true → All (λ (i : ℕ). i < length many.heading) positions
    → ((k : Row) → In k keys → length k ≡ length positions) → filter (begins_with_any keys) many.rows ≡ with_keys positions keys many.rows
front_keys positions many keys is first within long =
    filter_same (begins_with_any keys) (λ x. has row_cmp keys (part_of positions x)) many.rows (λ x i.
    found_part positions (length many.heading) first (within_heading positions many first within) keys x (long_rows many is x i) long)

-- of parts they are the touched ones
pub front_touched : (positions : List ℕ) (many : Relation) (few keys : List Row) → IsRelation many → counts_from 0 positions ≡ true → All (λ (i : ℕ). i < length many.heading) positions
    → keys ≡ projected positions few → filter (begins_with_any keys) many.rows ≡ touched positions few many.rows
front_touched positions many few keys is first within are =
    front_keys positions many keys is first within (λ k i. part_length positions k few (subst (λ (zs : List Row). In k zs) are i))
    ∙ ap (λ (ks : List Row). with_keys positions ks many.rows) are

-- and fit the heading
pub found_fit : (heading : Heading) (many : Relation) (prefixes rows : List Row) → IsRelation many → heading ≡ many.heading
    → rows ≡ flat_map (λ values. filter (begins_with values) many.rows) prefixes
    → IsTrue (list_all (fits_heading heading) rows)
found_fit heading many prefixes rows is same all =
    subst (λ (h : Heading). IsTrue (list_all (fits_heading h) rows)) (sym same) ((list_all-In (fits_heading many.heading) rows).1 (λ x i.
    let w = (In-flat_map (λ (values : Row). filter (begins_with values) many.rows) x prefixes).0 (subst (λ (zs : List Row). In x zs) all i) in
    (list_all-In (fits_heading many.heading) many.rows).0 is.fitting x ((In-filter (begins_with w.0) x many.rows).0 w.2).0))

-- each of the parts is the first values of a row exactly where it is among the others' parts
pub all_sought : (here there : List ℕ) (rows keys others' : List Row) (other : Relation) → IsRelation other → others' ≡ other.rows
    → counts_from 0 there ≡ true → All (λ (i : ℕ). i < length other.heading) there
    → length here ≡ length there → keys ≡ projected here rows
    → list_all (λ values. list_any (begins_with values) others') keys ≡ is_within row_cmp (projected here rows) (projected there other.rows)
all_sought here there rows keys others' other is same first within size are =
    let each : (k : Row) → In k (projected here rows) → list_any (begins_with k) other.rows ≡ has row_cmp (projected there other.rows) k = λ k i.
    sought there (length other.heading) first (within_heading there other first within) other.rows k (long_rows other is) (part_length here k rows i ∙ size) in
    let mine = list_all-In (λ values. list_any (begins_with values) other.rows) (projected here rows) in
    let theirs = list_all-In (has row_cmp (projected there other.rows)) (projected here rows) in
    ap₂ (λ (os ks : List Row). list_all (λ values. list_any (begins_with values) os) ks) same are
    ∙ same_tests _ _ (
      λ e. theirs.1 (λ k i. sym (each k i) ∙ mine.0 e k i),
      λ e. mine.1 (λ k i. each k i ∙ theirs.0 e k i),
    )

-- ---- where there are no rows

pub none_selected : (all rows : List Row) → rows ≡ [] → IsSelection all rows
none_selected all rows none = ((λ x. false), none ∙ sym (of_none all))
  where
    of_none : (zs : List Row) → filter (λ (x : Row). false) zs ≡ []
    of_none [] = refl
    of_none (z ∷ zs) = of_none zs

by_none : (positions : List ℕ) (many : List Row) → touched positions [] many ≡ []
by_none positions [] = refl
by_none positions (x ∷ many) = by_none positions many

none_in : (positions : List ℕ) (few many : List Row) → (few ≡ []) ⊎ (many ≡ []) → touched positions few many ≡ []
none_in positions few many none = elim none [
  | inl e ↦ ap (λ (zs : List Row). touched positions zs many) e ∙ by_none positions many
  | inr e ↦ ap (λ (zs : List Row). touched positions few zs) e
]

pub none_touched : (positions : List ℕ) (few many : Relation) (r : Result Relation Memory) → (few.rows ≡ []) ⊎ (many.rows ≡ [])
    → IfOk r (λ x. (x.heading ≡ many.heading) × (x.rows ≡ [])) → IfOk r (λ x. (x.heading ≡ many.heading) × (x.rows ≡ touched positions few.rows many.rows))
none_touched positions few many (Ok x) none is = (is.0, is.1 ∙ sym (none_in positions few.rows many.rows none))
none_touched positions few many (Err e) none is = tt
