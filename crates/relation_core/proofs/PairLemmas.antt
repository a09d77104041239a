-- Rows of two lists that agree, put together row by row.
use Rattle.std.proofs.Common.{◌≡◌, ℕ, ◌+◌, ◌-◌, ◌<◌, ◌≤◌, List, [], ◌∷◌, ◌++◌, length, get_or, take, map, refl, sym, ap, ap₂, ◌∙◌, arith}
use Rattle.std.specs.Bool.{IsTrue}
use Rattle.std.specs.Cmp.{eq_by_cmp_equiv}
use Rattle.std.specs.List.{filter, flat_map}
use Rattle.std.specs.Ordering.{eq_by_cmp}
use Rattle.std.proofs.lemmas.Grind.{flat_map-append}
use Rattle.std.proofs.lemmas.List.{take_more, map-append, append-nil, length-map}
use Rattle.std.proofs.lemmas.List.Elements.{filter_agree}
use Rattle.std.proofs.lemmas.List.Folds.{length-flat_map-take}
use Rattle.value_core.specs.Order.{row_total}
use Rattle.value_core.specs.Plain.{plain}
use Rattle.value_core.specs.Values.{Row, Heading, row_cmp, fits_heading}
use Rattle.value_core.specs.Relations.{all_fit}
use Rattle.value_core.specs.declared.value.Value.{Value}
use Rattle.relation_core.specs.Agreement.{part_of}
use Rattle.relation_core.specs.Groups.{rows_at, has_part, group}
use Rattle.relation_core.specs.Joins.{paired}
use Rattle.relation_core.proofs.AgreementLemmas.{part_more, length_of_fit}
use Rattle.relation_core.proofs.FilterLemmas.{passes_at}
use Rattle.relation_core.proofs.GroupLemmas.{rows_at-group}

-- ---- one value more

pub pair_more : (ours theirs : List Value) (x y : Row) (places : List ℕ) (i : ℕ) (items now : List Value) (v : Value) → map plain ours ≡ x → map plain theirs ≡ y → i < length places
    → get_or places i 0 < length (ours ++ theirs) → v ≡ get_or (ours ++ theirs) (get_or places i 0) v → map plain items ≡ part_of (take i places) (x ++ y) → now ≡ items ++ v ∷ []
    → map plain now ≡ part_of (take (i + 1) places) (x ++ y)
pair_more ours theirs x y places i items now v same other l within is so_far more =
    let all : map plain (ours ++ theirs) ≡ x ++ y = map-append plain ours theirs ∙ ap₂ (λ (a b : Row). a ++ b) same other in
    ap (λ (vs : List Value). map plain vs) more ∙ part_more (ours ++ theirs) (x ++ y) places i 0 items v all l within is so_far

-- ---- one row more

-- what a row stands with
abbrev pub row_pairs : List ℕ → List ℕ → List ℕ → List Row → Row → List Row
row_pairs here there places s x = map (λ y. part_of places (x ++ y)) (filter (λ y. eq_by_cmp row_cmp (part_of here x) (part_of there y)) s)

map_rows : (f : Row → Row) (s : List Row) (numbers : List ℕ) → map (λ i. f (get_or s i [])) numbers ≡ map f (rows_at s numbers)
map_rows f s [] = refl
map_rows f s (n ∷ numbers) = ap (λ zs. f (get_or s n []) ∷ zs) (map_rows f s numbers)

pub pairs_by_number : (here there places : List ℕ) (s : List Row) (x key : Row) (numbers : List ℕ) → key ≡ part_of here x → numbers ≡ group there s key
    → map (λ i. part_of places (x ++ get_or s i [])) numbers ≡ row_pairs here there places s x
pairs_by_number here there places s x key numbers e is =
    let turned : (y : Row) → has_part there key y ≡ eq_by_cmp row_cmp (part_of here x) (part_of there y) =
    λ y. (eq_by_cmp_equiv row_total).symm (part_of there y) key ∙ ap (λ k. eq_by_cmp row_cmp k (part_of there y)) e in
    map_rows (λ y. part_of places (x ++ y)) s numbers
    ∙ (ap (λ ns. map (λ y. part_of places (x ++ y)) (rows_at s ns)) is
    ∙ (ap (λ ys. map (λ y. part_of places (x ++ y)) ys) (rows_at-group there s key)
    ∙ ap (λ ys. map (λ y. part_of places (x ++ y)) ys) (filter_agree (has_part there key) (λ y. eq_by_cmp row_cmp (part_of here x) (part_of there y)) turned s)))

flat_map_one_more : {X Y : Type 0} (f : X → List Y) (xs : List X) (i : ℕ) (d : X) → i < length xs → flat_map f (take (i + 1) xs) ≡ flat_map f (take i xs) ++ f (get_or xs i d)
flat_map_one_more f xs i d l =
    ap (flat_map f) (take_more xs i d l)
    ∙ (flat_map-append f (take i xs) (get_or xs i d ∷ []) ∙ ap (λ zs. flat_map f (take i xs) ++ zs) (append-nil (f (get_or xs i d))))

pub paired_more : (here there places : List ℕ) (r s : List Row) (i : ℕ) (x key : Row) (numbers : List ℕ) (before now : List Row) → i < length r → x ≡ get_or r i x → key ≡ part_of here x
    → numbers ≡ group there s key → before ≡ paired here there places (take i r) s → now ≡ before ++ map (λ i. part_of places (x ++ get_or s i [])) numbers
    → now ≡ paired here there places (take (i + 1) r) s
paired_more here there places r s i x key numbers before now l is e f so_far more =
    let f' : Row → List Row = row_pairs here there places s in
    more
    ∙ (ap₂ (λ (u v : List Row). u ++ v) so_far (pairs_by_number here there places s x key numbers e f ∙ ap (row_pairs here there places s) is)
    ∙ sym (flat_map_one_more f' r i x l))

-- pairs that are too many for some of the rows are too many for all
pub too_many : (here there places : List ℕ) (r s : List Row) (i : ℕ) (x key : Row) (numbers : List ℕ) (before : List Row) (most : ℕ) → i < length r → x ≡ get_or r i x → key ≡ part_of here x
    → numbers ≡ group there s key → before ≡ paired here there places (take i r) s → length before ≤ most → most - length before < length numbers → most < length (paired here there places r s)
too_many here there places r s i x key numbers before most l is e f so_far few more =
    let all = length-flat_map-take (row_pairs here there places s) r i x l in
    let old = ap (λ (z : List Row). length z) so_far in
    let count = length-map numbers (λ i. part_of places (x ++ get_or s i [])) in
    let new = ap (λ (z : List Row). length z) (pairs_by_number here there places s x key numbers e f ∙ ap (row_pairs here there places s) is) in
    omega (arith, all, old, count, new, few, more)

-- ---- rows that fit

pub fit_length : (heading : Heading) (rows : List Row) (i : ℕ) (d : Row) → IsTrue (all_fit heading rows) → i < length rows → length (get_or rows i d) ≡ length heading
fit_length heading rows i d fit l = length_of_fit heading (get_or rows i d) (passes_at (fits_heading heading) rows i d fit l)
