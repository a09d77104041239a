-- The number of a label in a list in order stands for the label.
--     number_found      it is what a search answers
--     ranks_are      so the numbers of all labels are ranks
use Rattle.std.proofs.Common.{◌≡◌, inl, inr, ℕ, zero, suc, ◌<◌, true, false, cond, List, [], ◌∷◌, map, length, get_or, Result, Ok, arith, refl, sym, ap, ◌∙◌, subst}
use Rattle.std.specs.declared.cmp.Ordering.TheVariants.{Less}
use Rattle.std.specs.List.{All}
use Rattle.std.specs.List.Sorted.{IsStrictlySortedBy, IsSearchInRange, IsBinarySearchResult}
use Rattle.std.specs.Ordering.{eq_by_cmp, is_eq}
use Rattle.std.specs.Result.{is_ok}
use Rattle.std.proofs.lemmas.Bool.{true≢false}
use Rattle.std.proofs.lemmas.List.{length-map, get_or_default}
use Rattle.base_core.specs.Sets.{in_order}
use Rattle.base_core.proofs.MemberLemmas.{eq_by_cmp-≡, has-In}
use Rattle.base_core.proofs.SetLemmas.{In-in_order, Ascends-from_sorted, in_after}
use Rattle.value_core.specs.Order.{row_total, row_separates}
use Rattle.value_core.specs.Values.{Row, row_cmp}
use Rattle.value_core.proofs.RelationLemmas.{searched_has}
use Rattle.cell_packing.specs.Covering.{Among}
use Rattle.cell_packing.proofs.AmongLemmas.{among_map, all_from_members}
use Rattle.cell_boxes.specs.Rows.{PlainCellBox, IsRow}
use Rattle.cell_boxes.proofs.RowLemmas.{row_among}
use Rattle.u_summarize.specs.Asked.{number_in, AreRanks}
use Rattle.u_summarize.specs.Groups.{labels_in}
use Rattle.u_summarize.proofs.AskedLemmas.{in_among, get_in}

same_test : (x y : Row) → x ≡ y → eq_by_cmp row_cmp x y ≡ true
same_test x y e = (eq_by_cmp-≡ row_cmp row_total row_separates x y).1 e

less_test : (x y : Row) → row_cmp x y ≡ Less → eq_by_cmp row_cmp x y ≡ false
less_test x y e = ap is_eq e

-- ---- a search finds it

number_at : (xs : List Row) → IsStrictlySortedBy row_cmp xs → (i : ℕ) (l : Row) → IsRow xs i l → i ≡ number_in xs l
unfolding IsStrictlySortedBy
number_at [] up i l h = let b = h.0 in absurd (omega (arith, b))
number_at (x ∷ xs) up zero l h = sym (ap (λ b. cond b 0 (suc (number_in xs l))) (same_test x l h.1))
number_at (x ∷ xs) up (suc i) l h =
    let b = h.0 in
    let rest : IsRow xs i l = (omega (arith, b), h.1) in
    let below : row_cmp x l ≡ Less = in_after row_cmp row_total row_separates x l xs (Ascends-from_sorted row_cmp (x ∷ xs) up).0 ((in_among l xs).1 (row_among xs i l rest)) in
    ap suc (number_at xs up.1 i l rest) ∙ sym (ap (λ t. cond t 0 (suc (number_in xs l))) (less_test x l below))

pub number_found : (xs : List Row) (l : Row) (i : ℕ) → IsStrictlySortedBy row_cmp xs → IsSearchInRange (Ok i) (length xs) → IsBinarySearchResult (λ y. row_cmp y l) xs (Ok i) → i ≡ number_in xs l
number_found xs l i up within found =
    let e : get_or xs i l ≡ l = row_separates (get_or xs i l) l (found l) in
    number_at xs up i l (within, e)

pub never_missed : (xs : List Row) (l : Row) (r : Result ℕ ℕ) → IsStrictlySortedBy row_cmp xs → Among l xs → IsSearchInRange r (length xs) → IsBinarySearchResult (λ y. row_cmp y l) xs r → is_ok r ≡ true
never_missed xs l r up m within found = searched_has row_cmp row_total xs l r up within found ∙ (has-In row_cmp row_total row_separates xs l).1 ((in_among l xs).1 m)

-- ---- it stands for the label

label_there : (xs : List Row) (l : Row) → Among l xs → get_or xs (number_in xs l) [] ≡ l
label_there [] l m = absurd m
label_there (x ∷ xs) l m =
    elim (eq_by_cmp row_cmp x l) as (λ b. eq_by_cmp row_cmp x l ≡ b → get_or (x ∷ xs) (cond b 0 (suc (number_in xs l))) [] ≡ l) [
      | true ↦ λ e. (eq_by_cmp-≡ row_cmp row_total row_separates x l).0 e
      | false ↦ λ e. elim m [
        | inl q ↦ absurd (true≢false (sym (same_test x l q) ∙ e))
        | inr n ↦ label_there xs l n
      ]
    ] refl

-- each label is one of the labels in order
pub labels_there : (rows : List (PlainCellBox Row)) (labels : List Row) → labels ≡ in_order row_cmp (labels_in rows) → All (λ (x : PlainCellBox Row). Among x.0 labels) rows
labels_there rows labels e = all_from_members (λ (x : PlainCellBox Row). Among x.0 labels) rows (λ x m.
    let a = (among_map (λ (y : PlainCellBox Row). y.0) x.0 rows).1 (x, m, refl) in
    subst (Among x.0) (sym e) (label_in x.0 (labels_in rows) a))
  where
    label_in : (l : Row) (all : List Row) → Among l all → Among l (in_order row_cmp all)
    label_in l all m = (in_among l (in_order row_cmp all)).0 ((In-in_order row_cmp row_total row_separates l all).1 ((in_among l all).1 m))

module _ (rows : List (PlainCellBox Row)) (labels : List Row) (there : All (λ (x : PlainCellBox Row). Among x.0 labels) rows) where
  abbrev own : List Row
  own = labels_in rows

  abbrev ranks : List ℕ
  ranks = map (λ (x : PlainCellBox Row). number_in labels x.0) rows

  long : length own ≡ length rows
  long = length-map rows (λ (x : PlainCellBox Row). x.0)

  rank_at : (r : ℕ) → r < length own → get_or ranks r 0 ≡ number_in labels (get_or own r [])
  rank_at r l =
      let none : PlainCellBox Row = ([], []) in
      let c : length ranks ≡ length rows = length-map rows (λ (x : PlainCellBox Row). number_in labels x.0) in
      let n = long in
      get_or_default ranks r 0 (number_in labels []) (omega (arith, l, c, n)) ∙ get_in (λ (x : PlainCellBox Row). number_in labels x.0) rows r none
      ∙ ap (number_in labels) (sym (get_in (λ (x : PlainCellBox Row). x.0) rows r none))

  own_there : (r : ℕ) → r < length own → Among (get_or own r []) labels
  own_there r l =
      let none : PlainCellBox Row = ([], []) in
      let n = long in
      subst (λ x. Among x labels) (sym (get_in (λ (x : PlainCellBox Row). x.0) rows r none)) (there r none (omega (arith, l, n)))

  pub ranks_are : AreRanks own ranks
  ranks_are = record {
    count = length-map rows (λ (x : PlainCellBox Row). number_in labels x.0) ∙ sym long;
    alike = λ r s l m. (
      λ e.
          sym (label_there labels (get_or own r []) (own_there r l))
          ∙ ap (λ i. get_or labels i []) (sym (rank_at r l) ∙ e ∙ rank_at s m)
          ∙ label_there labels (get_or own s []) (own_there s m),
      λ e. rank_at r l ∙ ap (number_in labels) e ∙ sym (rank_at s m),
    );
  }
