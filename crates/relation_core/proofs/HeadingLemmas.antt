-- Headings of attributes in order, and what fits the attributes at positions.
use Rattle.std.proofs.Common.{◌≡◌, ◌↔◌, ℕ, zero, suc, ◌+◌, ◌<◌, ◌≤◌, List, [], ◌∷◌, ◌++◌, length, get_or, take, map, refl, sym, ap, ap₂, ◌∙◌, subst, arith, inl, inr, Bool, true, false, ◌||◌, if◌then◌else◌, Some, None, Ordering, nat_le}
use Rattle.std.specs.declared.cmp.Ordering.TheVariants.{Less}
use Rattle.std.specs.Bool.{IsTrue}
use Rattle.std.specs.Cmp.{IsTotalOrder}
use Rattle.std.specs.Cmp.Lexicographic.{texts_ties}
use Rattle.std.specs.List.{All}
use Rattle.std.proofs.lemmas.Bool.Decides.{nat_tests}
use Rattle.base_core.specs.Sets.{is_set, placed, put}
use Rattle.value_core.specs.Order.{row_total, row_separates}
use Rattle.value_core.specs.Relations.{all_fit}
use Rattle.std.specs.List.Sorted.{IsPermutation}
use Rattle.std.specs.Ordering.{is_eq, nat_cmp}
use Rattle.std.specs.Str.{bytes_eq}
use Rattle.std.proofs.lemmas.Bool.{true≢false, and_parts, and_from}
use Rattle.std.proofs.lemmas.Cmp.{nat_cmp_total}
use Rattle.std.proofs.lemmas.List.{take_more, map-append, length-map}
use Rattle.std.proofs.lemmas.List.Folds.{list_any-append}
use Rattle.std.proofs.lemmas.List.Sorted.{IsPermutation-sym}
use Rattle.base_core.proofs.SetLemmas.{In, AllAfter, Ascends, In-in_order}
use Rattle.base_core.proofs.MemberLemmas.{In-map, list_all-In}
use Rattle.base_core.proofs.SetOperatorLemmas.{AllAfter-In, In-permutation, is_set-Ascends, length-in_order}
use Rattle.base_core.proofs.OrderingLemmas.{not_before_itself, nat_cmp-lt}
use Rattle.base_core.proofs.ListLemmas.{In-get_or}
use Rattle.value_core.proofs.HeadingLemmas.{attribute_total}
use Rattle.value_core.specs.Headings.{has_name, repeat_after, first_repeat, most_attributes}
use Rattle.value_core.specs.Values.{Name, Row, Heading, truth, fits, fits_heading, attribute_cmp, is_heading, row_cmp, most_rows}
use Rattle.value_core.specs.declared.kind.Kind.{Kind}
use Rattle.relation_core.specs.Agreement.{part_of}
use Rattle.relation_core.specs.Parts.{no_attribute, attributes_at, projected}

-- ---- two lists in order with the same members are one, also where the order does not tell all members apart

module _ {X : Type 0} (cmp : X → X → Ordering) (o : IsTotalOrder cmp) where
  after : (x y : X) (ys : List X) → AllAfter cmp x ys → In y ys → cmp x y ≡ Less
  after x y ys h i = (AllAfter-In cmp x ys).0 h y i

  pub one_list : (xs ys : List X) → Ascends cmp xs → Ascends cmp ys → ((x : X) → In x xs ↔ In x ys) → xs ≡ ys
  one_list [] [] a b h = refl
  one_list [] (y ∷ ys) a b h = absurd ((h y).1 (inl refl))
  one_list (x ∷ xs) [] a b h = absurd ((h x).0 (inl refl))
  one_list (x ∷ xs) (y ∷ ys) a b h =
      let heads : x ≡ y = elim ((h x).0 (inl refl)) [
        | inl e ↦ e
        | inr i ↦ elim ((h y).1 (inl refl)) [
          | inl e ↦ sym e
          | inr j ↦ absurd (not_before_itself cmp o x (o.trans x y x (after x y xs a.0 j) (after y x ys b.0 i)))
        ]
      ] in
      let tails : (z : X) → In z xs ↔ In z ys = λ z. (
        λ i. elim ((h z).0 (inr i)) [ inl e ↦ absurd (not_before_itself cmp o x (subst (λ w. cmp x w ≡ Less) (e ∙ sym heads) (after x z xs a.0 i))) | inr j ↦ j ],
        λ i. elim ((h z).1 (inr i)) [ inl e ↦ absurd (not_before_itself cmp o y (subst (λ w. cmp y w ≡ Less) (e ∙ heads) (after y z ys b.0 i))) | inr j ↦ j ],
      ) in
      ap₂ (λ u us. u ∷ us) heads (one_list xs ys a.1 b.1 tails)

-- the heading of attributes in order is these attributes
pub heading_in_order : (list heading : Heading) → Ascends attribute_cmp list → IsPermutation list heading → IsTrue (is_heading heading) → heading ≡ list
heading_in_order list heading a moved ordered =
    let up : Ascends attribute_cmp heading = (is_set-Ascends attribute_cmp attribute_total heading).0 (and_parts _ _ ordered).0 in
    one_list attribute_cmp attribute_total heading list up a (λ x. (In-permutation heading list x (IsPermutation-sym list heading moved), In-permutation list heading x moved))

-- ---- attributes in order have different names

pub neither : (a b : Bool) → a ≡ false → b ≡ false → (a || (b || false)) ≡ false
neither true b e f = cc
neither false true e f = cc
neither false false e f = refl

none_new : (prefix rest : Heading) (n : ℕ) → ((a : Name × Kind) → In a rest → has_name prefix a.0 ≡ false) → Ascends attribute_cmp rest → repeat_after prefix n rest ≡ None
none_new prefix [] n h up = refl
none_new prefix (a ∷ rest) n h up =
    let here : has_name prefix a.0 ≡ false = h a (inl refl) in
    let more = none_new (prefix ++ a ∷ []) rest (n + 1) (λ b i.
    let apart : bytes_eq a.0 b.0 ≡ false = texts_ties a.0 b.0 ∙ ap is_eq ((AllAfter-In attribute_cmp a rest).0 up.0 b i) in
    list_any-append (λ (c : Name × Kind). bytes_eq c.0 b.0) prefix (a ∷ []) ∙ neither (has_name prefix b.0) (bytes_eq a.0 b.0) (h b (inr i)) apart) up.1 in
    ap (λ t. if t then Some n else repeat_after (prefix ++ a ∷ []) (n + 1) rest) here ∙ more

pub no_repeat : (list : Heading) → Ascends attribute_cmp list → first_repeat list ≡ None
no_repeat list up = none_new [] list 0 (λ a i. refl) up

-- ---- members at ascending positions

before : {X : Type 0} (cmp : X → X → Ordering) (xs : List X) (i j : ℕ) (d : X) → Ascends cmp xs → i < j → j < length xs → cmp (get_or xs i d) (get_or xs j d) ≡ Less
before cmp [] i j d h k l = absurd (omega arith)
before cmp (x ∷ xs) i zero d h k l = absurd (omega arith)
before cmp (x ∷ xs) zero (suc j) d h k l = (AllAfter-In cmp x xs).0 h.0 (get_or xs j d) (In-get_or xs j d (omega arith))
before cmp (x ∷ xs) (suc i) (suc j) d h k l = before cmp xs i j d h.1 (omega arith) (omega arith)

pub attributes_ascend : (heading : Heading) (kept : List ℕ) → Ascends attribute_cmp heading → Ascends nat_cmp kept → ((i : ℕ) → In i kept → i < length heading) → Ascends attribute_cmp (attributes_at kept heading)
attributes_ascend heading [] a b h = tt
attributes_ascend heading (i ∷ kept) a b h = (
  (AllAfter-In attribute_cmp (get_or heading i no_attribute) (attributes_at kept heading)).1 (λ y m.
      let w = (In-map (λ j. get_or heading j no_attribute) y kept).0 m in
      ap (attribute_cmp (get_or heading i no_attribute)) w.2 ∙ before attribute_cmp heading i w.0 no_attribute a (nat_cmp-lt i w.0 ((AllAfter-In nat_cmp i kept).0 b.0 w.0 w.1)) (h w.0 (inr w.1))),
  attributes_ascend heading kept a b.1 (λ j m. h j (inr m)),
)

-- positions that ascend below n are at most n
count_from : (m n : ℕ) (kept : List ℕ) → Ascends nat_cmp kept → ((i : ℕ) → In i kept → m ≤ i) → ((i : ℕ) → In i kept → i < n) → m ≤ n → m + length kept ≤ n
count_from m n [] a b h l = omega arith
count_from m n (i ∷ kept) a b h l =
    let first = b i (inl refl) in
    let below = h i (inl refl) in
    let rest = count_from (suc i) n kept a.1 (λ j p. nat_cmp-lt i j ((AllAfter-In nat_cmp i kept).0 a.0 j p)) (λ j p. h j (inr p)) below in
    omega (arith, first, rest)

pub few_positions : (n : ℕ) (kept : List ℕ) → Ascends nat_cmp kept → ((i : ℕ) → In i kept → i < n) → length kept ≤ n
few_positions n kept a h = let k = count_from 0 n kept a (λ i p. omega arith) h (omega arith) in omega (arith, k)

pub within_by_members : (n : ℕ) (kept : List ℕ) → All (λ (i : ℕ). i < n) kept → (i : ℕ) → In i kept → i < n
within_by_members n [] h i p = absurd p
within_by_members n (k ∷ kept) h i p = elim p [
  | inl e ↦ subst (λ j. j < n) (sym e) (h 0 0 (omega arith))
  | inr q ↦ within_by_members n kept (λ j d l. h (suc j) d (omega arith)) i q
]

-- ---- what fits

fits_at : (heading : Heading) (row : Row) (i : ℕ) → IsTrue (fits_heading heading row) → i < length heading → IsTrue (fits (get_or heading i no_attribute).1 (get_or row i (truth false)))
fits_at [] row i e l = absurd (omega arith)
fits_at (a ∷ rest) [] i e l = absurd (true≢false (sym e))
fits_at (a ∷ rest) (v ∷ vs) zero e l = (and_parts (fits a.1 v) (fits_heading rest vs) e).0
fits_at (a ∷ rest) (v ∷ vs) (suc i) e l = fits_at rest vs i (and_parts (fits a.1 v) (fits_heading rest vs) e).1 (omega arith)

pub part_fits : (heading : Heading) (row : Row) (kept : List ℕ) → IsTrue (fits_heading heading row) → ((i : ℕ) → In i kept → i < length heading) → IsTrue (fits_heading (attributes_at kept heading) (part_of kept row))
part_fits heading row [] e h = refl
part_fits heading row (i ∷ kept) e h = and_from _ (fits_heading (attributes_at kept heading) (part_of kept row)) (fits_at heading row i e (h i (inl refl))) (part_fits heading row kept e (λ j m. h j (inr m)))

-- ---- one attribute more

get_or-attribute : (list : Heading) (p : ℕ) (a : Name × Kind) → p < length list → get_or list p no_attribute ≡ get_or list p a
get_or-attribute [] p a l = absurd (omega arith)
get_or-attribute (b ∷ list) zero a l = refl
get_or-attribute (b ∷ list) (suc p) a l = get_or-attribute list p a (omega arith)

pub attributes_more : (list : Heading) (positions : List ℕ) (i d : ℕ) (items now : Heading) (a : Name × Kind) → i < length positions → get_or positions i d < length list
    → a ≡ get_or list (get_or positions i d) a → items ≡ attributes_at (take i positions) list → now ≡ items ++ a ∷ [] → now ≡ attributes_at (take (i + 1) positions) list
attributes_more list positions i d items now a l within is so_far more =
    let p = get_or positions i d in
    let f : ℕ → Name × Kind = λ k. get_or list k no_attribute in
    let whole : attributes_at (take (i + 1) positions) list ≡ attributes_at (take i positions) list ++ get_or list (get_or positions i d) no_attribute ∷ [] =
    ap (λ ps. map f ps) (take_more positions i d l) ∙ map-append f (take i positions) (p ∷ []) in
    let same : a ≡ get_or list (get_or positions i d) no_attribute = is ∙ sym (get_or-attribute list p a within) in
    more ∙ (ap (λ (r : Heading). r ++ a ∷ []) so_far ∙ (ap (λ z. attributes_at (take i positions) list ++ z ∷ []) same ∙ sym whole))

-- ---- projections

at_most : (n : ℕ) → nat_le n most_attributes ≡ true → n ≤ most_attributes
at_most n e = grind (arith, nat_tests)

pub heading_ascends : (heading : Heading) → IsTrue (is_heading heading) → Ascends attribute_cmp heading
heading_ascends heading h = (is_set-Ascends attribute_cmp attribute_total heading).0 (and_parts _ _ h).0

pub few_attributes : (heading : Heading) → IsTrue (is_heading heading) → length heading ≤ most_attributes
few_attributes heading h = at_most (length heading) (and_parts _ _ h).1

module _ (heading : Heading) (kept : List ℕ) (headed : IsTrue (is_heading heading)) (ascending : IsTrue (is_set nat_cmp kept)) (within : All (λ (i : ℕ). i < length heading) kept) where
  pub part_ascends : Ascends attribute_cmp (attributes_at kept heading)
  part_ascends = attributes_ascend heading kept (heading_ascends heading headed) ((is_set-Ascends nat_cmp nat_cmp_total kept).0 ascending) (within_by_members (length heading) kept within)

  pub part_is_few : length (attributes_at kept heading) ≤ most_attributes
  part_is_few =
      let same = length-map kept (λ i. get_or heading i no_attribute) in
      let few = few_positions (length heading) kept ((is_set-Ascends nat_cmp nat_cmp_total kept).0 ascending) (within_by_members (length heading) kept within) in
      let all = few_attributes heading headed in
      omega (arith, same, few, all)

  pub projected_fits : (rows : List Row) → IsTrue (all_fit heading rows) → IsTrue (all_fit (attributes_at kept heading) (projected kept rows))
  projected_fits rows h = (list_all-In (fits_heading (attributes_at kept heading)) (projected kept rows)).1 (λ z i.
      let m = (In-map (part_of kept) z rows).0 ((In-in_order row_cmp row_total row_separates z (map (part_of kept) rows)).0 i) in
      subst (λ w. IsTrue (fits_heading (attributes_at kept heading) w)) (sym m.2)
      (part_fits heading m.0 kept ((list_all-In (fits_heading heading) rows).0 h m.0 m.1) (within_by_members (length heading) kept within)))

pub projected_few : (kept : List ℕ) (rows : List Row) → length rows ≤ most_rows → length (projected kept rows) ≤ most_rows
projected_few kept rows few =
    let a = length-in_order row_cmp (map (part_of kept) rows) in
    let b = length-map rows (part_of kept) in
    omega (arith, a, b)

pub put_first : (a : Name × Kind) (h : Heading) → AllAfter attribute_cmp a h → put attribute_cmp a h ≡ a ∷ h
put_first a [] after = refl
put_first a (b ∷ rest) after = ap (λ r. placed r a b rest (put attribute_cmp a rest)) after.0
