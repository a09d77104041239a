-- What a merge keeps, row by row, and which operators merges are.
use Rattle.std.proofs.Common.{◌≡◌, ◌⊎◌, ◌↔◌, inl, inr, List, [], ◌∷◌, ◌++◌, refl, sym, ap, ap₂, ◌∙◌, subst, Bool, true, false, ◌&&◌, not, if◌then◌else◌}
use Rattle.std.specs.declared.cmp.Ordering.TheVariants.{Less, Equal, Greater}
use Rattle.std.specs.Bool.{IsTrue}
use Rattle.std.specs.Ordering.{ordering_reverse}
use Rattle.std.specs.List.{filter}
use Rattle.std.proofs.lemmas.Bool.{and_parts, and_from, not-true, not_from_false, false_from_ne_true, both_ways}
use Rattle.std.proofs.lemmas.Cmp.{tied_itself}
use Rattle.base_core.specs.Sets.{has, union_of}
use Rattle.base_core.proofs.SetLemmas.{In, AllAfter, Ascends, after_trans, same_by_members}
use Rattle.base_core.proofs.MemberLemmas.{In-filter, has-In, list_all-In}
use Rattle.base_core.proofs.SetOperatorLemmas.{same_tests, AllAfter-In, Ascends-filter, In-union_of, In-common_of, In-difference_of, Ascends-union_of, Ascends-common_of, Ascends-difference_of}
use Rattle.value_core.specs.Values.{Row, Heading, row_cmp, rows_of}
use Rattle.value_core.specs.Order.{row_total, row_separates}
use Rattle.value_core.specs.Relations.{all_fit}
use Rattle.relation_core.specs.declared.merging.Keeps.{Keeps}
use Rattle.relation_core.specs.Merged.{is_kept, merged}
use Rattle.relation_core.specs.Operators.{united, subtracted, intersected}
use Rattle.relation_core.proofs.FilterLemmas.{filter_same, filter_all, filter_first, rows_of-filter}

-- ---- one row of the merge

not_itself : (x z : Row) → row_cmp x z ≡ Less → z ≡ x → ⊥
not_itself x z l e =
    let m : row_cmp x x ≡ Less = subst (λ w. row_cmp x w ≡ Less) e l in
    let k : Less ≡ Equal = sym m ∙ tied_itself row_total x in
    cc

has_here : (x : Row) (xs : List Row) → has row_cmp (x ∷ xs) x ≡ true
has_here x xs = (has-In row_cmp row_total row_separates (x ∷ xs) x).1 (inl refl)

has_none : (x : Row) (ys : List Row) → AllAfter row_cmp x ys → has row_cmp ys x ≡ false
has_none x ys after = false_from_ne_true (has row_cmp ys x) (λ e.
    not_itself x x ((AllAfter-In row_cmp x ys).0 after x ((has-In row_cmp row_total row_separates ys x).0 e)) refl)

has_rest : (x z : Row) (xs : List Row) → row_cmp x z ≡ Less → has row_cmp (x ∷ xs) z ≡ has row_cmp xs z
has_rest x z xs l =
    let whole = has-In row_cmp row_total row_separates (x ∷ xs) z in
    let rest = has-In row_cmp row_total row_separates xs z in
    same_tests _ _ (
      λ e. rest.1 (elim (whole.0 e) [ inl i ↦ absurd (not_itself x z l i) | inr i ↦ i ]),
      λ e. whole.1 (inr (rest.0 e)),
    )

union_first : (x : Row) (xs ys us vs : List Row) → ((z : Row) → (In z us ⊎ In z vs) → row_cmp x z ≡ Less)
    → ((z : Row) → (In z xs ⊎ In z ys) ↔ ((z ≡ x) ⊎ (In z us ⊎ In z vs))) → union_of row_cmp xs ys ≡ x ∷ union_of row_cmp us vs
union_first x xs ys us vs first members =
    let rest = union_of row_cmp us vs in
    let whole = union_of row_cmp xs ys in
    let after : AllAfter row_cmp x rest = (AllAfter-In row_cmp x rest).1 (λ z i. first z ((In-union_of row_cmp row_total row_separates z us vs).0 i)) in
    same_by_members row_cmp row_total row_separates whole (x ∷ rest)
    (Ascends-union_of row_cmp row_total row_separates xs ys)
    (after, Ascends-union_of row_cmp row_total row_separates us vs)
    (λ z.
    let a = In-union_of row_cmp row_total row_separates z xs ys in
    let b = In-union_of row_cmp row_total row_separates z us vs in (
      λ i. elim ((members z).0 (a.0 i)) [ inl e ↦ inl e | inr j ↦ inr (b.1 j) ],
      λ i. a.1 ((members z).1 (elim i [ inl e ↦ inl e | inr j ↦ inr (b.0 j) ])),
    ))

merged_first : (keeps : Keeps) (x : Row) (xs ys us vs : List Row) (k : Bool) → union_of row_cmp xs ys ≡ x ∷ union_of row_cmp us vs
    → is_kept keeps (has row_cmp xs x) (has row_cmp ys x) ≡ k
    → ((z : Row) → In z (union_of row_cmp us vs) → (has row_cmp xs z ≡ has row_cmp us z) × (has row_cmp ys z ≡ has row_cmp vs z))
    → merged keeps xs ys ≡ (if k then x ∷ [] else []) ++ merged keeps us vs
merged_first keeps x xs ys us vs k union kept rest =
    let p : Row → Bool = λ z. is_kept keeps (has row_cmp xs z) (has row_cmp ys z) in
    let q : Row → Bool = λ z. is_kept keeps (has row_cmp us z) (has row_cmp vs z) in
    ap (filter p) union
    ∙ (filter_first p x (union_of row_cmp us vs) k kept
    ∙ ap (λ r. (if k then x ∷ [] else []) ++ r) (filter_same p q (union_of row_cmp us vs) (λ z i. ap₂ (is_kept keeps) (rest z i).0 (rest z i).1)))

module _ (keeps : Keeps) (x : Row) where
  -- the first row of the left list is before all others
  merged_left : (xs ys : List Row) → Ascends row_cmp (x ∷ xs) → AllAfter row_cmp x ys → merged keeps (x ∷ xs) ys ≡ (if keeps.left then x ∷ [] else []) ++ merged keeps xs ys
  merged_left xs ys a b =
      let first : (z : Row) → (In z xs ⊎ In z ys) → row_cmp x z ≡ Less = λ z i. elim i [ inl j ↦ (AllAfter-In row_cmp x xs).0 a.0 z j | inr j ↦ (AllAfter-In row_cmp x ys).0 b z j ] in
      merged_first keeps x (x ∷ xs) ys xs ys keeps.left
      (union_first x (x ∷ xs) ys xs ys first (λ z. (
        λ i. elim i [ inl j ↦ elim j [ inl e ↦ inl e | inr k ↦ inr (inl k) ] | inr j ↦ inr (inr j) ],
        λ i. elim i [ inl e ↦ inl (inl e) | inr j ↦ elim j [ inl k ↦ inl (inr k) | inr k ↦ inr k ] ],
      )))
      (ap₂ (is_kept keeps) (has_here x xs) (has_none x ys b))
      (λ z i. (has_rest x z xs (first z ((In-union_of row_cmp row_total row_separates z xs ys).0 i)), refl))

  -- the first row of the right list is before all others
  merged_right : (xs ys : List Row) → AllAfter row_cmp x xs → Ascends row_cmp (x ∷ ys) → merged keeps xs (x ∷ ys) ≡ (if keeps.right then x ∷ [] else []) ++ merged keeps xs ys
  merged_right xs ys a b =
      let first : (z : Row) → (In z xs ⊎ In z ys) → row_cmp x z ≡ Less = λ z i. elim i [ inl j ↦ (AllAfter-In row_cmp x xs).0 a z j | inr j ↦ (AllAfter-In row_cmp x ys).0 b.0 z j ] in
      merged_first keeps x xs (x ∷ ys) xs ys keeps.right
      (union_first x xs (x ∷ ys) xs ys first (λ z. (
        λ i. elim i [ inl j ↦ inr (inl j) | inr j ↦ elim j [ inl e ↦ inl e | inr k ↦ inr (inr k) ] ],
        λ i. elim i [ inl e ↦ inr (inl e) | inr j ↦ elim j [ inl k ↦ inl k | inr k ↦ inr (inr k) ] ],
      )))
      (ap₂ (is_kept keeps) (has_none x xs a) (has_here x ys))
      (λ z i. (refl, has_rest x z ys (first z ((In-union_of row_cmp row_total row_separates z xs ys).0 i))))

  -- the first rows are one
  merged_both : (xs ys : List Row) → Ascends row_cmp (x ∷ xs) → Ascends row_cmp (x ∷ ys) → merged keeps (x ∷ xs) (x ∷ ys) ≡ (if keeps.both then x ∷ [] else []) ++ merged keeps xs ys
  merged_both xs ys a b =
      let first : (z : Row) → (In z xs ⊎ In z ys) → row_cmp x z ≡ Less = λ z i. elim i [ inl j ↦ (AllAfter-In row_cmp x xs).0 a.0 z j | inr j ↦ (AllAfter-In row_cmp x ys).0 b.0 z j ] in
      let less : (z : Row) → In z (union_of row_cmp xs ys) → row_cmp x z ≡ Less = λ z i. first z ((In-union_of row_cmp row_total row_separates z xs ys).0 i) in
      merged_first keeps x (x ∷ xs) (x ∷ ys) xs ys keeps.both
      (union_first x (x ∷ xs) (x ∷ ys) xs ys first (λ z. (
        λ i. elim i [ inl j ↦ elim j [ inl e ↦ inl e | inr k ↦ inr (inl k) ] | inr j ↦ elim j [ inl e ↦ inl e | inr k ↦ inr (inr k) ] ],
        λ i. elim i [ inl e ↦ inl (inl e) | inr j ↦ elim j [ inl k ↦ inl (inr k) | inr k ↦ inr (inr k) ] ],
      )))
      (ap₂ (is_kept keeps) (has_here x xs) (has_here x ys))
      (λ z i. (has_rest x z xs (less z i), has_rest x z ys (less z i)))

-- ---- where one list has ended

first_of_kept : (k : Bool) (x : Row) (xs more : List Row) → (if k then x ∷ [] else []) ++ ((if k then xs else []) ++ more) ≡ (if k then x ∷ xs else []) ++ more
first_of_kept true x xs more = refl
first_of_kept false x xs more = refl

either_way : (k : Bool) (r : List Row) → (if k then r else r) ≡ r
either_way true r = refl
either_way false r = refl

merged_left_rest : (keeps : Keeps) (xs : List Row) → Ascends row_cmp xs → merged keeps xs [] ≡ (if keeps.left then xs else []) ++ (if keeps.right then [] else [])
merged_left_rest keeps [] a = sym (ap₂ (λ (u v : List Row). u ++ v) (either_way keeps.left []) (either_way keeps.right []))
merged_left_rest keeps (x ∷ xs) a =
    merged_left keeps x xs [] a tt
    ∙ (ap (λ (r : List Row). (if keeps.left then x ∷ [] else []) ++ r) (merged_left_rest keeps xs a.1) ∙ first_of_kept keeps.left x xs (if keeps.right then [] else []))

right_rest : (keeps : Keeps) (ys : List Row) → Ascends row_cmp ys → merged keeps [] ys ≡ (if keeps.right then ys else [])
right_rest keeps [] b = sym (either_way keeps.right [])
right_rest keeps (y ∷ ys) b =
    merged_right keeps y [] ys tt b ∙ (ap (λ (r : List Row). (if keeps.right then y ∷ [] else []) ++ r) (right_rest keeps ys b.1) ∙ one_first keeps.right)
  where
    one_first : (k : Bool) → (if k then y ∷ [] else []) ++ (if k then ys else []) ≡ (if k then y ∷ ys else [])
    one_first true = refl
    one_first false = refl

merged_right_rest : (keeps : Keeps) (ys : List Row) → Ascends row_cmp ys → merged keeps [] ys ≡ (if keeps.left then [] else []) ++ (if keeps.right then ys else [])
merged_right_rest keeps ys b = right_rest keeps ys b ∙ sym (ap (λ (u : List Row). u ++ (if keeps.right then ys else [])) (either_way keeps.left []))

pub merged_rest : (keeps : Keeps) (us vs : List Row) → Ascends row_cmp us → Ascends row_cmp vs → (us ≡ [] ⊎ vs ≡ []) → merged keeps us vs ≡ (if keeps.left then us else []) ++ (if keeps.right then vs else [])
merged_rest keeps us vs a b ended =
    elim ended [
      | inl e ↦ subst (λ w. merged keeps w vs ≡ (if keeps.left then w else []) ++ (if keeps.right then vs else [])) (sym e) (merged_right_rest keeps vs b)
      | inr e ↦ subst (λ w. merged keeps us w ≡ (if keeps.left then us else []) ++ (if keeps.right then w else [])) (sym e) (merged_left_rest keeps us a)
    ]

-- ---- one turn of the merge, where both lists go on; a row may be read twice

module _ (keeps : Keeps) (us vs us' vs' : List Row) (x y : Row) (first : us ≡ x ∷ us') (other : vs ≡ y ∷ vs') (a : Ascends row_cmp us) (b : Ascends row_cmp vs) where
  heads : {z w : Row} {zs ws : List Row} → z ∷ zs ≡ w ∷ ws → z ≡ w
  heads e = cc

  pub turn_less : (x' : Row) → us ≡ x' ∷ us' → row_cmp x y ≡ Less → merged keeps us vs ≡ (if keeps.left then x' ∷ [] else []) ++ merged keeps us' vs
  turn_less x' again less =
      let same : x ≡ x' = heads (sym first ∙ again) in
      let here : row_cmp x' y ≡ Less = subst (λ z. row_cmp z y ≡ Less) same less in
      let up : Ascends row_cmp (x' ∷ us') = subst (λ (w : List Row). Ascends row_cmp w) again a in
      let more : Ascends row_cmp (y ∷ vs') = subst (λ (w : List Row). Ascends row_cmp w) other b in
      let after : AllAfter row_cmp x' vs = subst (λ (w : List Row). AllAfter row_cmp x' w) (sym other) (here, after_trans row_cmp row_total row_separates x' y vs' here more.0) in
      ap (λ w. merged keeps w vs) again ∙ merged_left keeps x' us' vs up after

  pub turn_greater : (y' : Row) → vs ≡ y' ∷ vs' → row_cmp x y ≡ Greater → merged keeps us vs ≡ (if keeps.right then y' ∷ [] else []) ++ merged keeps us vs'
  turn_greater y' again greater =
      let same : y ≡ y' = heads (sym other ∙ again) in
      let less : row_cmp y x ≡ Less = row_total.antisymm y x ∙ ap ordering_reverse greater in
      let here : row_cmp y' x ≡ Less = subst (λ z. row_cmp z x ≡ Less) same less in
      let up : Ascends row_cmp (y' ∷ vs') = subst (λ (w : List Row). Ascends row_cmp w) again b in
      let more : Ascends row_cmp (x ∷ us') = subst (λ (w : List Row). Ascends row_cmp w) first a in
      let after : AllAfter row_cmp y' us = subst (λ (w : List Row). AllAfter row_cmp y' w) (sym first) (here, after_trans row_cmp row_total row_separates y' x us' here more.0) in
      ap (λ w. merged keeps us w) again ∙ merged_right keeps y' us vs' after up

  pub turn_equal : (x' : Row) → us ≡ x' ∷ us' → row_cmp x y ≡ Equal → merged keeps us vs ≡ (if keeps.both then x' ∷ [] else []) ++ merged keeps us' vs'
  turn_equal x' again equal =
      let same : x ≡ x' = heads (sym first ∙ again) in
      let one : y ≡ x' = sym (row_separates x y equal) ∙ same in
      let its : vs ≡ x' ∷ vs' = other ∙ ap (λ z. z ∷ vs') one in
      let up : Ascends row_cmp (x' ∷ us') = subst (λ (w : List Row). Ascends row_cmp w) again a in
      let more : Ascends row_cmp (x' ∷ vs') = subst (λ (w : List Row). Ascends row_cmp w) its b in
      ap₂ (λ w z. merged keeps w z) again its ∙ merged_both keeps x' us' vs' up more

-- ---- merges and the operators

pub merged-rows_of : (keeps : Keeps) (xs ys : List Row) → rows_of (merged keeps xs ys) ≡ merged keeps xs ys
merged-rows_of keeps xs ys =
    rows_of-filter (λ z. is_kept keeps (has row_cmp xs z) (has row_cmp ys z)) (union_of row_cmp xs ys) (Ascends-union_of row_cmp row_total row_separates xs ys)

pub merged_fits : (keeps : Keeps) (heading : Heading) (xs ys : List Row) → IsTrue (all_fit heading xs) → IsTrue (all_fit heading ys) → IsTrue (all_fit heading (merged keeps xs ys))
merged_fits keeps heading xs ys a b = (list_all-In _ (merged keeps xs ys)).1 (λ z i.
    let u = (In-filter (λ w. is_kept keeps (has row_cmp xs w) (has row_cmp ys w)) z (union_of row_cmp xs ys)).0 i in
    elim ((In-union_of row_cmp row_total row_separates z xs ys).0 u.0) [ inl j ↦ (list_all-In _ xs).0 a z j | inr j ↦ (list_all-In _ ys).0 b z j ])

all_kept : (a b : Bool) → is_kept (record { left = true; both = true; right = true }) a b ≡ true
all_kept true true = refl
all_kept true false = refl
all_kept false b = refl

pub merged_union : (xs ys : List Row) → merged (record { left = true; both = true; right = true }) xs ys ≡ united xs ys
merged_union xs ys = filter_all _ (united xs ys) (λ z i. all_kept (has row_cmp xs z) (has row_cmp ys z))

left_kept : (a b : Bool) → is_kept (record { left = true; both = false; right = false }) a b ≡ (a && not b)
left_kept true true = refl
left_kept true false = refl
left_kept false b = refl

both_kept : (a b : Bool) → is_kept (record { left = false; both = true; right = false }) a b ≡ (a && b)
both_kept true true = refl
both_kept true false = refl
both_kept false b = refl

pub merged_minus : (xs ys : List Row) → Ascends row_cmp xs → merged (record { left = true; both = false; right = false }) xs ys ≡ subtracted xs ys
merged_minus xs ys a =
    let keeps : Keeps = record { left = true; both = false; right = false } in
    let p : Row → Bool = λ z. is_kept keeps (has row_cmp xs z) (has row_cmp ys z) in
    same_by_members row_cmp row_total row_separates (merged keeps xs ys) (subtracted xs ys)
    (Ascends-filter row_cmp p (united xs ys) (Ascends-union_of row_cmp row_total row_separates xs ys))
    (Ascends-difference_of row_cmp row_total row_separates xs ys a)
    (λ z.
    let f = In-filter p z (united xs ys) in
    let d = In-difference_of row_cmp row_total row_separates z xs ys in
    let l = has-In row_cmp row_total row_separates xs z in
    let r = has-In row_cmp row_total row_separates ys z in (
      λ i.
          let v = and_parts (has row_cmp xs z) (not (has row_cmp ys z)) (sym (left_kept (has row_cmp xs z) (has row_cmp ys z)) ∙ (f.0 i).1) in
          d.1 (l.0 v.0, λ j. both_ways (has row_cmp ys z) (not-true (has row_cmp ys z) v.1) (r.1 j)),
      λ i.
          let w = d.0 i in
          let apart : not (has row_cmp ys z) ≡ true = not_from_false (has row_cmp ys z) (false_from_ne_true (has row_cmp ys z) (λ e. w.1 (r.0 e))) in
          f.1 ((In-union_of row_cmp row_total row_separates z xs ys).1 (inl w.0), left_kept (has row_cmp xs z) (has row_cmp ys z) ∙ and_from (has row_cmp xs z) (not (has row_cmp ys z)) (l.1 w.0) apart),
    ))

pub merged_intersect : (xs ys : List Row) → Ascends row_cmp xs → merged (record { left = false; both = true; right = false }) xs ys ≡ intersected xs ys
merged_intersect xs ys a =
    let keeps : Keeps = record { left = false; both = true; right = false } in
    let p : Row → Bool = λ z. is_kept keeps (has row_cmp xs z) (has row_cmp ys z) in
    same_by_members row_cmp row_total row_separates (merged keeps xs ys) (intersected xs ys)
    (Ascends-filter row_cmp p (united xs ys) (Ascends-union_of row_cmp row_total row_separates xs ys))
    (Ascends-common_of row_cmp row_total row_separates xs ys a)
    (λ z.
    let f = In-filter p z (united xs ys) in
    let d = In-common_of row_cmp row_total row_separates z xs ys in
    let l = has-In row_cmp row_total row_separates xs z in
    let r = has-In row_cmp row_total row_separates ys z in (
      λ i.
          let v = and_parts (has row_cmp xs z) (has row_cmp ys z) (sym (both_kept (has row_cmp xs z) (has row_cmp ys z)) ∙ (f.0 i).1) in
          d.1 (l.0 v.0, r.0 v.1),
      λ i.
          let w = d.0 i in
          f.1 ((In-union_of row_cmp row_total row_separates z xs ys).1 (inl w.0), both_kept (has row_cmp xs z) (has row_cmp ys z) ∙ and_from (has row_cmp xs z) (has row_cmp ys z) (l.1 w.0) (r.1 w.1)),
    ))
