-- Keys by counting, and references by searching.
use Rattle.std.proofs.Common.{◌≡◌, ◌↔◌, inl, inr, ℕ, suc, ◌+◌, ◌<◌, List, [], ◌∷◌, length, get_or, take, map, refl, sym, ap, ap₂, ◌∙◌, subst, arith, eq-eqb, nat_eq, Bool, true, false, not, ◌||◌, ◌&&◌, Ordering}
use Rattle.std.specs.declared.cmp.Ordering.TheVariants.{Less, Equal}
use Rattle.std.specs.Bool.{IsTrue}
use Rattle.std.specs.Cmp.{IsTotalOrder, tied_itself}
use Rattle.std.specs.List.{list_all}
use Rattle.std.specs.Ordering.{eq_by_cmp}
use Rattle.std.proofs.lemmas.Bool.{eqb-true, or_cases, or_left, or_right, not-true, both_ways}
use Rattle.std.proofs.lemmas.List.{length-map}
use Rattle.std.proofs.lemmas.List.Folds.{list_all-map, list_all_more, list_all_at}
use Rattle.base_core.specs.Sets.{put, in_order, has, is_within}
use Rattle.base_core.proofs.SetLemmas.{In, AllAfter, Ascends, Separates, In-put, In-in_order, Ascends-put, Ascends-in_order, in_after, same_by_members}
use Rattle.base_core.proofs.MemberLemmas.{In-map, list_all-In, eq_by_cmp-≡}
use Rattle.base_core.proofs.SetOperatorLemmas.{same_tests, length-in_order, list_all-in_order}
use Rattle.value_core.specs.Values.{Row, row_cmp}
use Rattle.value_core.specs.Order.{row_total, row_separates}
use Rattle.relation_core.specs.Agreement.{part_of}
use Rattle.relation_core.specs.Parts.{projected}
use Rattle.cell_core.proofs.Listing.{put_longer}
use Rattle.u_constraints.specs.Constraints.{agree_on, are_apart, is_key}

-- each member stands once
abbrev pub Differ : {X : Type 0} → List X → Type 0
Differ [] = Unit {0}
Differ (x ∷ xs) = (In x xs → ⊥) × Differ xs

-- ---- the set of a list has as many members as the list exactly where they differ

module _ {X : Type 0} (cmp : X → X → Ordering) (o : IsTotalOrder cmp) (same : Separates cmp) where
  put_known : (x : X) (xs : List X) → Ascends cmp xs → In x xs → put cmp x xs ≡ xs
  put_known x xs a i = same_by_members cmp o same _ _ (Ascends-put cmp o same x xs a) a (λ z.
      let w = In-put cmp o same z x xs in
      (λ h. elim (w.0 h) [ inl e ↦ subst (λ v. In v xs) (sym e) i | inr j ↦ j ], λ h. w.1 (inr h)))

  length_of_differ : (xs : List X) → Differ xs → length (in_order cmp xs) ≡ length xs
  length_of_differ [] d = refl
  length_of_differ (x ∷ xs) d =
      put_longer cmp same x (in_order cmp xs) (λ i. d.0 ((In-in_order cmp o same x xs).0 i)) ∙ ap suc (length_of_differ xs d.1)

  differ_of_length : (xs : List X) → length (in_order cmp xs) ≡ length xs → Differ xs
  differ_of_length [] e = tt
  differ_of_length (x ∷ xs) e =
      let most = length-in_order cmp xs in
      let new : In x xs → ⊥ = λ i.
      let known = ap (λ (zs : List X). length zs) (put_known x (in_order cmp xs) (Ascends-in_order cmp o same xs) ((In-in_order cmp o same x xs).1 i)) in
      absurd (omega (arith, e, most, known)) in
      let more = put_longer cmp same x (in_order cmp xs) (λ i. new ((In-in_order cmp o same x xs).0 i)) in
      (new, differ_of_length xs (omega (arith, e, more)))

  pub not_after : (x : X) (xs : List X) → AllAfter cmp x xs → In x xs → ⊥
  not_after x xs a i = let e : Less ≡ Equal = sym (in_after cmp o same x x xs a i) ∙ tied_itself o x in cc

-- ---- rows that agree only with themselves

abbrev pub AgreeOnce : List ℕ → List Row → Type 0
AgreeOnce k rows = (x y : Row) → In x rows → In y rows → part_of k x ≡ part_of k y → x ≡ y

are_apart-≡ : (k : List ℕ) (x y : Row) → IsTrue (are_apart k x y) ↔ (part_of k x ≡ part_of k y → x ≡ y)
are_apart-≡ k x y =
    let rows = eq_by_cmp-≡ row_cmp row_total row_separates x y in
    let parts = eq_by_cmp-≡ row_cmp row_total row_separates (part_of k x) (part_of k y) in (
      λ e p. elim (or_cases (eq_by_cmp row_cmp x y) (not (agree_on k k x y)) e) [
        | inl w ↦ rows.0 w
        | inr w ↦ absurd (both_ways (agree_on k k x y) (not-true (agree_on k k x y) w) (parts.1 p))
      ],
      λ h. elim (agree_on k k x y) as (λ b. agree_on k k x y ≡ b → IsTrue (eq_by_cmp row_cmp x y || not b)) [
        | true ↦ λ e. or_left (eq_by_cmp row_cmp x y) _ (rows.1 (h (parts.0 e)))
        | false ↦ λ e. or_right (eq_by_cmp row_cmp x y) _ refl
      ] refl,
    )

pub is_key-AgreeOnce : (k : List ℕ) (rows : List Row) → IsTrue (is_key k rows) ↔ AgreeOnce k rows
is_key-AgreeOnce k rows =
    let all = list_all-In (λ x. list_all (are_apart k x) rows) rows in (
      λ e x y i j. (are_apart-≡ k x y).0 ((list_all-In (are_apart k x) rows).0 (all.0 e x i) y j),
      λ h. all.1 (λ x i. (list_all-In (are_apart k x) rows).1 (λ y j. (are_apart-≡ k x y).1 (h x y i j))),
    )

differ_where_key : (k : List ℕ) (rows : List Row) → Ascends row_cmp rows → AgreeOnce k rows → Differ (map (part_of k) rows)
differ_where_key k [] a h = tt
differ_where_key k (x ∷ xs) a h = (
  λ i.
      let z = (In-map (part_of k) (part_of k x) xs).0 i in
      let e : x ≡ z.0 = h x z.0 (inl refl) (inr z.1) z.2 in
      not_after row_cmp row_total row_separates x xs a.0 (subst (λ v. In v xs) (sym e) z.1),
  differ_where_key k xs a.1 (λ u v i j. h u v (inr i) (inr j)),
)

key_where_differ : (k : List ℕ) (rows : List Row) → Differ (map (part_of k) rows) → AgreeOnce k rows
key_where_differ k [] d x y i j e = absurd i
key_where_differ k (a ∷ rows) d x y i j e =
    elim i [
      | inl u ↦ elim j [
        | inl v ↦ u ∙ sym v
        | inr v ↦ absurd (d.0 ((In-map (part_of k) (part_of k a) rows).1 (y, v, ap (part_of k) (sym u) ∙ e)))
      ]
      | inr u ↦ elim j [
        | inl v ↦ absurd (d.0 ((In-map (part_of k) (part_of k a) rows).1 (x, u, ap (part_of k) (sym v) ∙ sym e)))
        | inr v ↦ key_where_differ k rows d.1 x y u v e
      ]
    ]

-- a set of rows has a key exactly where the rows' parts differ, which is where it has as many parts as rows
pub is_key-Differ : (k : List ℕ) (rows : List Row) → Ascends row_cmp rows → IsTrue (is_key k rows) ↔ Differ (map (part_of k) rows)
is_key-Differ k rows a =
    let key = is_key-AgreeOnce k rows in
    (λ h. differ_where_key k rows a (key.0 h), λ d. key.1 (key_where_differ k rows d))

is_key-length : (k : List ℕ) (rows : List Row) → Ascends row_cmp rows → (length (projected k rows) ≡ length rows) ↔ IsTrue (is_key k rows)
is_key-length k rows a =
    let size : length (map (part_of k) rows) ≡ length rows = length-map rows (part_of k) in
    let key = is_key-Differ k rows a in (
      λ e. key.1 (differ_of_length row_cmp row_total row_separates (map (part_of k) rows) (e ∙ sym size)),
      λ h. length_of_differ row_cmp row_total row_separates (map (part_of k) rows) (key.0 h) ∙ size,
    )

-- the answer is whether the numbers of parts and of rows are the same
pub counted : (k : List ℕ) (rows items : List Row) (n m : ℕ) → Ascends row_cmp rows → items ≡ projected k rows → n ≡ length items → m ≡ length rows → nat_eq n m ≡ is_key k rows
counted k rows items n m a is e f =
    let both = is_key-length k rows a in
    let size : n ≡ length (projected k rows) = e ∙ ap (λ (zs : List Row). length zs) is in
    same_tests _ _ (λ h. both.0 (sym size ∙ (eqb-true n m h ∙ f)), λ h. eq-eqb n m (size ∙ (both.1 h ∙ sym f)))

-- ---- the parts of rows among those of others

pub within_by_search : (here : List ℕ) (rows keys : List Row) → list_all (λ x. has row_cmp keys (part_of here x)) rows ≡ is_within row_cmp (projected here rows) keys
within_by_search here rows keys =
    sym (list_all-in_order row_cmp row_total row_separates (has row_cmp keys) (map (part_of here) rows) ∙ list_all-map (has row_cmp keys) (part_of here) rows)

-- ---- positions in the rows of a relation

-- ---- the search for each row's part

module _ (here : List ℕ) (keys : List Row) where
  abbrev among : Row → Bool
  among x = has row_cmp keys (part_of here x)

  pub found_so_far : (rows : List Row) (i : ℕ) (x key : Row) → i < length rows → x ≡ get_or rows i x → key ≡ part_of here x → list_all (λ z. has row_cmp keys (part_of here z)) (take i rows) ≡ true
      → has row_cmp keys key ≡ true → list_all (λ z. has row_cmp keys (part_of here z)) (take (i + 1) rows) ≡ true
  found_so_far rows i x key l at is so_far found =
      let this : among (get_or rows i x) ≡ true = ap among (sym at) ∙ (ap (has row_cmp keys) (sym is) ∙ found) in
      list_all_more among rows i x l ∙ ap₂ (λ b c. b && c) so_far this

  -- the answer once all rows are looked at, or one is not found
  pub searched : (there : List ℕ) (items rows others : List Row) (answer : Bool) → items ≡ rows → keys ≡ projected there others → list_all (λ z. has row_cmp keys (part_of here z)) items ≡ answer
      → answer ≡ is_within row_cmp (projected here rows) (projected there others)
  searched there items rows others answer same is found =
      sym found
      ∙ (within_by_search here items keys ∙ ap₂ (λ (zs ks : List Row). is_within row_cmp (projected here zs) ks) same is)

  pub not_found : (rows : List Row) (i : ℕ) (x key : Row) → i < length rows → x ≡ get_or rows i x → key ≡ part_of here x → has row_cmp keys key ≡ false
      → list_all (λ z. has row_cmp keys (part_of here z)) rows ≡ false
  not_found rows i x key l at is missing =
      list_all_at among rows i x l (ap among (sym at) ∙ (ap (has row_cmp keys) (sym is) ∙ missing))
