-- Rows that are left out by one pass over two lists that ascend.
--     near_stop      rows behind one that is not less are greater
--     near_has      a row is among the near ones where it is among all
--     rest_found, rest_missing      the rows behind a place
use Rattle.std.proofs.Common.{◌≡◌, ◌⊎◌, inl, inr, ℕ, zero, suc, ◌+◌, take, drop, ◌<◌, ◌≤◌, Bool, true, false, not, List, [], ◌∷◌, ◌++◌, length, get_or, refl, sym, ap, subst, ◌∙◌, arith, true≢false, cond, Ok, Err, Ordering, Less, Equal, Greater}
use Rattle.std.proofs.lemmas.List.{append-nil, get_or-drop, take-append-drop}
use Rattle.std.proofs.lemmas.List.Elements.{filter-append}
use Rattle.std.specs.Prelude.{if◌then◌else◌}
use Rattle.std.specs.List.{AllWithin, HoldsAt}
use Rattle.std.specs.List.Sorted.{IsStrictlySortedBy, IsBinarySearchResult}
use Rattle.std.specs.Ordering.{ordering_reverse, is_lt}
use Rattle.base_core.specs.Sets.{has}
use Rattle.base_core.proofs.SetLemmas.{In, AllAfter, Ascends, Ascends-from_sorted}
use Rattle.base_core.proofs.MemberLemmas.{In-append, has-In}
use Rattle.base_core.proofs.SetOperatorLemmas.{same_tests, AllAfter-In}
use Rattle.base_core.proofs.OrderingLemmas.{not_before_itself}
use Rattle.value_core.specs.Values.{Row, row_cmp}
use Rattle.value_core.specs.Order.{row_total, row_separates}
use Rattle.value_core.proofs.RelationLemmas.{rising, searched_has, sorted_from_ascending}
use Rattle.relation_core.specs.Operators.{subtracted}
use Rattle.relation_core.proofs.FilterLemmas.{filter_all, Ascends-drop, head_of}
use Rattle.row_removal.specs.Removals.{IsRestBehind}
use Rattle.row_removal.proofs.RemovalLemmas.{one_more}

-- ---- lists that lie apart

apart_of : (rows more : List Row) (x y : Row) → Ascends row_cmp (rows ++ more) → In x rows → In y more → row_cmp x y ≡ Less
apart_of [] more x y up i j = absurd i
apart_of (w ∷ rows) more x y up i j = elim i [
  | inl e ↦ ap (λ (z : Row). row_cmp z y) e ∙ (AllAfter-In row_cmp w (rows ++ more)).0 up.0 y ((In-append y rows more).1 (inr j))
  | inr k ↦ apart_of rows more x y up.1 k j
]

stays : (gone : List Row) (z : Row) (b : Bool) → has row_cmp gone z ≡ b → (In z gone → ⊥) → not (has row_cmp gone z) ≡ true
stays gone z true e out = absurd (out ((has-In row_cmp row_total row_separates gone z).0 e))
stays gone z false e out = ap not e

pub none_among : (rows gone : List Row) → ((z : Row) → In z rows → In z gone → ⊥) → rows ≡ subtracted rows gone
none_among rows gone out = sym (filter_all (λ (z : Row). not (has row_cmp gone z)) rows (λ z i. stays gone z (has row_cmp gone z) refl (out z i)))

pub apart_before : (rows others : List Row) → IsStrictlySortedBy row_cmp (rows ++ others) → rows ≡ subtracted rows others
apart_before rows others up =
    none_among rows others (λ z i j. not_before_itself row_cmp row_total z (apart_of rows others z z (Ascends-from_sorted row_cmp (rows ++ others) up) i j))

pub apart_behind : (rows others : List Row) → IsStrictlySortedBy row_cmp (others ++ rows) → rows ≡ subtracted rows others
apart_behind rows others up =
    none_among rows others (λ z i j. not_before_itself row_cmp row_total z (apart_of others rows z z (Ascends-from_sorted row_cmp (others ++ rows) up) j i))

-- ---- where a search ends

behind_first : (y : Row) (ys : List Row) (j : ℕ) (d : Row) → AllAfter row_cmp y ys → j < length ys → row_cmp y (get_or ys j d) ≡ Less
behind_first y [] j d a l = absurd (omega arith)
behind_first y (z ∷ zs) zero d a l = a.0
behind_first y (z ∷ zs) (suc j) d a l = behind_first y zs j d a.1 (omega arith)

pub later : (rows : List Row) (i j : ℕ) (d : Row) → Ascends row_cmp rows → i < j → j < length rows → row_cmp (get_or rows i d) (get_or rows j d) ≡ Less
later [] i j d up l m = absurd (omega arith)
later (y ∷ ys) i zero d up l m = absurd (omega arith)
later (y ∷ ys) zero (suc j) d up l m = behind_first y ys j d up.0 (omega arith)
later (y ∷ ys) (suc i) (suc j) d up l m = later ys i j d up.1 (omega arith) (omega arith)

pub any_default : (rows : List Row) (i : ℕ) (d e : Row) → i < length rows → get_or rows i d ≡ get_or rows i e
any_default [] i d e l = absurd (omega arith)
any_default (y ∷ ys) zero d e l = refl
any_default (y ∷ ys) (suc i) d e l = any_default ys i d e (omega arith)

not_above : (x y z : Row) (r : Ordering) → row_cmp y x ≡ r → is_lt r ≡ false → row_cmp y z ≡ Less → row_cmp x z ≡ Less
not_above x y z Less e other l = absurd (true≢false other)
not_above x y z Equal e other l = subst (λ (w : Row). row_cmp w z ≡ Less) (row_separates y x e) l
not_above x y z Greater e other l = row_total.trans x y z (row_total.antisymm x y ∙ ap ordering_reverse e) l

-- behind a row that is not less all are greater
pub near_stop : (rows : List Row) (x y : Row) (e end : ℕ) → IsStrictlySortedBy row_cmp rows → end ≡ suc e → end ≤ length rows → y ≡ get_or rows e y → is_lt (row_cmp y x) ≡ false
    → AllWithin (λ z. row_cmp x z ≡ Less) rows end (length rows)
near_stop rows x y e end up is within there other k d l m =
    let same : get_or rows e d ≡ y = any_default rows e d y (omega (arith, is, within)) ∙ sym there in
    not_above x y (get_or rows k d) (row_cmp y x) refl other
    (subst (λ (w : Row). row_cmp w (get_or rows k d) ≡ Less) same (later rows e k d (Ascends-from_sorted row_cmp rows up) (omega (arith, is, l)) m))

-- ---- the rows near the front

pub in_rest : (P : Row → Type 0) (rows : List Row) (n : ℕ) (z : Row) → AllWithin P rows n (length rows) → In z (drop n rows) → P z
in_rest P [] zero z all i = absurd i
in_rest P [] (suc n) z all i = absurd i
in_rest P (y ∷ ys) zero z all i = elim i [
  | inl e ↦ subst P (sym e) (all 0 y (omega arith) (omega arith))
  | inr j ↦ in_rest P ys zero z (λ k d l m. all (suc k) d (omega arith) (omega (arith, m))) j
]
in_rest P (y ∷ ys) (suc n) z all i = in_rest P ys n z (λ k d l m. all (suc k) d (omega (arith, l)) (omega (arith, m))) i

in_front : (P : Row → Type 0) (rows : List Row) (n at : ℕ) (z : Row) → at ≤ length (take n rows) → AllWithin P (take n rows) 0 at → In z (take at rows) → P z
in_front P rows n zero z within all i = absurd i
in_front P [] n (suc at) z within all i = absurd i
in_front P (y ∷ ys) zero (suc at) z within all i = absurd (omega (arith, within))
in_front P (y ∷ ys) (suc n) (suc at) z within all i = elim i [
  | inl e ↦ subst P (sym e) (all 0 y (omega arith) (omega arith))
  | inr j ↦ in_front P ys n at z (omega (arith, within)) (λ k d l m. all (suc k) d (omega arith) (omega (arith, m))) j
]

split_in : (rows : List Row) (n : ℕ) (z : Row) → In z rows → In z (take n rows) ⊎ In z (drop n rows)
split_in rows n z i = (In-append z (take n rows) (drop n rows)).0 (subst (λ (rs : List Row). In z rs) (sym (take-append-drop n rows)) i)

pub from_front : (rows : List Row) (n : ℕ) (z : Row) → In z (take n rows) → In z rows
from_front rows n z i = subst (λ (rs : List Row). In z rs) (take-append-drop n rows) ((In-append z (take n rows) (drop n rows)).1 (inl i))

from_rest : (rows : List Row) (n : ℕ) (z : Row) → In z (drop n rows) → In z rows
from_rest rows n z i = subst (λ (rs : List Row). In z rs) (take-append-drop n rows) ((In-append z (take n rows) (drop n rows)).1 (inr i))

near_has : (rows : List Row) (x : Row) (n : ℕ) → AllWithin (λ z. row_cmp x z ≡ Less) rows n (length rows) → has row_cmp (take n rows) x ≡ has row_cmp rows x
near_has rows x n behind =
    let near = has-In row_cmp row_total row_separates (take n rows) x in
    let all = has-In row_cmp row_total row_separates rows x in
    same_tests (has row_cmp (take n rows) x) (has row_cmp rows x) (
      λ e. all.1 (from_front rows n x (near.0 e)),
      λ e. near.1 (elim (split_in rows n x (all.0 e)) [
        | inl i ↦ i
        | inr j ↦ absurd (not_before_itself row_cmp row_total x (in_rest (λ z. row_cmp x z ≡ Less) rows n x behind j))
      ]),
    )

-- what comes behind a row stands behind a place before which all is less
rest_behind : (rows : List Row) (x : Row) (at : ℕ) → ((z : Row) → In z (take at rows) → row_cmp z x ≡ Less) → IsRestBehind x rows (drop at rows)
rest_behind rows x at below z less =
    let rest = has-In row_cmp row_total row_separates (drop at rows) z in
    let all = has-In row_cmp row_total row_separates rows z in
    same_tests (has row_cmp (drop at rows) z) (has row_cmp rows z) (
      λ e. all.1 (from_rest rows at z (rest.0 e)),
      λ e. rest.1 (elim (split_in rows at z (all.0 e)) [
        | inl i ↦ absurd (not_before_itself row_cmp row_total x (row_total.trans x z x less (below z i)))
        | inr j ↦ j
      ]),
    )

first_after : (x : Row) (rows : List Row) (n : ℕ) → AllAfter row_cmp x rows → AllAfter row_cmp x (take n rows)
first_after x rows zero a = tt
first_after x [] (suc n) a = tt
first_after x (y ∷ ys) (suc n) a = (a.0, first_after x ys n a.1)

pub front_ascends : (rows : List Row) (n : ℕ) → Ascends row_cmp rows → Ascends row_cmp (take n rows)
front_ascends rows zero up = tt
front_ascends [] (suc n) up = tt
front_ascends (y ∷ ys) (suc n) up = (first_after y ys n up.0, front_ascends ys n up.1)

pub at_in : (rows : List Row) (i : ℕ) (d : Row) → i < length rows → In (get_or rows i d) rows
at_in [] i d l = absurd (omega arith)
at_in (y ∷ ys) zero d l = inl refl
at_in (y ∷ ys) (suc i) d l = inr (at_in ys i d (omega arith))

below_found : (rows : List Row) (n at : ℕ) (x z : Row) → Ascends row_cmp rows → at < length (take n rows) → ((d : Row) → row_cmp (get_or (take n rows) at d) x ≡ Equal)
    → In z (take at rows) → row_cmp z x ≡ Less
below_found rows n zero x z up l found i = absurd i
below_found [] n (suc at) x z up l found i = absurd i
below_found (y ∷ ys) zero (suc at) x z up l found i = absurd (omega (arith, l))
below_found (y ∷ ys) (suc n) (suc at) x z up l found i = elim i [
  | inl e ↦
      let there : In (get_or (take n ys) at y) ys = from_front ys n (get_or (take n ys) at y) (at_in (take n ys) at y (omega (arith, l))) in
      let same : get_or (take n ys) at y ≡ x = row_separates (get_or (take n ys) at y) x (found y) in
      ap (λ (w : Row). row_cmp w x) e ∙ subst (λ (w : Row). row_cmp y w ≡ Less) same ((AllAfter-In row_cmp y ys).0 up.0 (get_or (take n ys) at y) there)
  | inr j ↦ below_found ys n at x z up.1 (omega (arith, l)) found j
]

-- a row that a search near the front finds
pub seek_found : (rows near rest : List Row) (x : Row) (n at : ℕ) → IsStrictlySortedBy row_cmp rows → AllWithin (λ z. row_cmp x z ≡ Less) rows n (length rows) → near ≡ take n rows
    → rest ≡ drop at rows → at < length near → HoldsAt (λ y. row_cmp y x ≡ Equal) near at → (true ≡ has row_cmp rows x) × IsRestBehind x rows rest × IsStrictlySortedBy row_cmp rest
seek_found rows near rest x n at sorted behind is left l found =
    let up = Ascends-from_sorted row_cmp rows sorted in
    let within : at < length (take n rows) = subst (λ (rs : List Row). at < length rs) is l in
    let there : HoldsAt (λ y. row_cmp y x ≡ Equal) (take n rows) at = subst (λ (rs : List Row). HoldsAt (λ y. row_cmp y x ≡ Equal) rs at) is found in
    let searched : true ≡ has row_cmp (take n rows) x = searched_has row_cmp row_total (take n rows) x (Ok at) (sorted_from_ascending (take n rows) (front_ascends rows n up)) within there in (
      searched ∙ near_has rows x n behind,
      subst (λ (rs : List Row). IsRestBehind x rows rs) (sym left) (rest_behind rows x at (λ z i. below_found rows n at x z up within there i)),
      subst (λ (rs : List Row). IsStrictlySortedBy row_cmp rs) (sym left) (sorted_from_ascending (drop at rows) (Ascends-drop row_cmp at rows up)),
    )

-- and one that it does not find
pub seek_missing : (rows near rest : List Row) (x : Row) (n at : ℕ) → IsStrictlySortedBy row_cmp rows → AllWithin (λ z. row_cmp x z ≡ Less) rows n (length rows) → near ≡ take n rows
    → rest ≡ drop at rows → at ≤ length near → IsBinarySearchResult (λ y. row_cmp y x) near (Err at) → (false ≡ has row_cmp rows x) × IsRestBehind x rows rest × IsStrictlySortedBy row_cmp rest
seek_missing rows near rest x n at sorted behind is left l missing =
    let up = Ascends-from_sorted row_cmp rows sorted in
    let near_up : IsStrictlySortedBy row_cmp (take n rows) = sorted_from_ascending (take n rows) (front_ascends rows n up) in
    let within : at ≤ length (take n rows) = subst (λ (rs : List Row). at ≤ length rs) is l in
    let there : IsBinarySearchResult (λ y. row_cmp y x) (take n rows) (Err at) = subst (λ (rs : List Row). IsBinarySearchResult (λ y. row_cmp y x) rs (Err at)) is missing in
    let parts = there (rising row_cmp row_total (take n rows) x near_up) in
    let searched : false ≡ has row_cmp (take n rows) x = searched_has row_cmp row_total (take n rows) x (Err at) near_up within there in (
      searched ∙ near_has rows x n behind,
      subst (λ (rs : List Row). IsRestBehind x rows rs) (sym left) (rest_behind rows x at (λ z i. in_front (λ y. row_cmp y x ≡ Less) rows n at z within parts.0 i)),
      subst (λ (rs : List Row). IsStrictlySortedBy row_cmp rs) (sym left) (sorted_from_ascending (drop at rows) (Ascends-drop row_cmp at rows up)),
    )

-- ---- one row after the other

drop_one : (rows : List Row) (i : ℕ) → drop (suc i) rows ≡ drop 1 (drop i rows)
drop_one [] zero = refl
drop_one [] (suc i) = refl
drop_one (y ∷ ys) zero = refl
drop_one (y ∷ ys) (suc i) = drop_one ys i

pub same_rest : (rows old : List Row) (i : ℕ) → drop i rows ≡ drop i old → drop (i + 1) rows ≡ drop (i + 1) old
same_rest rows old i e =
    let one : suc i ≡ i + 1 = omega arith in
    subst (λ (n : ℕ). drop n rows ≡ drop n old) one (drop_one rows i ∙ (ap (λ (rs : List Row). drop 1 rs) e ∙ sym (drop_one old i)))

pub same_row : (rows old : List Row) (i : ℕ) (x : Row) → drop i rows ≡ drop i old → x ≡ get_or rows i x → x ≡ get_or old i x
same_row rows old i x e is =
    let none : i + 0 ≡ i = omega arith in
    is ∙ (ap (λ (n : ℕ). get_or rows n x) (sym none) ∙ (sym (get_or-drop i rows 0 x) ∙ (ap (λ (rs : List Row). get_or rs 0 x) e ∙ (get_or-drop i old 0 x ∙ ap (λ (n : ℕ). get_or old n x) none))))

pub goes_if : (rows gone rest : List Row) (i : ℕ) (x : Row) (goes : Bool) → i < length rows → x ≡ get_or rows i x → goes ≡ has row_cmp rest x
    → ((z : Row) → In z (drop i rows) → has row_cmp rest z ≡ has row_cmp gone z) → goes ≡ has row_cmp gone x
goes_if rows gone rest i x goes l e found same = found ∙ same x (subst (λ (rs : List Row). In x rs) (sym (head_of rows i x l e)) (inl refl))

pub rest_turn : (rows gone rest next : List Row) (i : ℕ) (x : Row) → IsStrictlySortedBy row_cmp rows → i < length rows → x ≡ get_or rows i x → IsRestBehind x rest next
    → ((z : Row) → In z (drop i rows) → has row_cmp rest z ≡ has row_cmp gone z) → (z : Row) → In z (drop (i + 1) rows) → has row_cmp next z ≡ has row_cmp gone z
rest_turn rows gone rest next i x sorted l e behind same z j =
    let from = head_of rows i x l e in
    let up : Ascends row_cmp (x ∷ drop (i + 1) rows) = subst (λ (rs : List Row). Ascends row_cmp rs) from (Ascends-drop row_cmp i rows (Ascends-from_sorted row_cmp rows sorted)) in
    behind z ((AllAfter-In row_cmp x (drop (i + 1) rows)).0 up.0 z j) ∙ same z (subst (λ (rs : List Row). In z rs) (sym from) (inr j))

left_one : (gone : List Row) (x : Row) (goes : Bool) (front : List Row) → goes ≡ has row_cmp gone x → (if goes then front else front ++ x ∷ []) ≡ front ++ subtracted (x ∷ []) gone
left_one gone x true front e =
    sym (ap (λ (b : Bool). front ++ (cond (not b) (x ∷ []) [])) (sym e) ∙ append-nil front)
left_one gone x false front e = ap (λ (b : Bool). front ++ (cond (not b) (x ∷ []) [])) e

-- the rows that stay, after one more is looked at
pub left_turn : (rows gone front now : List Row) (i : ℕ) (x : Row) (goes : Bool) → i < length rows → x ≡ get_or rows i x → goes ≡ has row_cmp gone x → front ≡ subtracted (take i rows) gone
    → now ≡ (if goes then front else front ++ x ∷ []) → now ≡ subtracted (take (i + 1) rows) gone
left_turn rows gone front now i x goes l e has_it before is =
    let p = λ (z : Row). not (has row_cmp gone z) in
    is
    ∙ (left_one gone x goes front has_it
    ∙ (ap (λ (rs : List Row). rs ++ subtracted (x ∷ []) gone) before
    ∙ (sym (filter-append p (take i rows) (x ∷ []))
    ∙ ap (λ (rs : List Row). subtracted rs gone) (one_more rows i x l e))))
