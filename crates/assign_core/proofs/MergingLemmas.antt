-- Rows that are merged among others, behind free places.
--     united_missing, united_found      the rows of both as far as to one that comes
--     kept_count      how many rows are kept
--     put_missing, put_found      what is left to be united, after one more row has come
--     nothing_left      where all have come
--     set_merged      the rows of both are those of a relation
use Rattle.std.proofs.Common.{◌≡◌, inl, inr, ℕ, ◌+◌, ◌-◌, take, drop, ◌≤◌, true, List, [], ◌∷◌, ◌++◌, length, refl, sym, ap, subst, ◌∙◌, arith, Ok, Err, Less}
use Rattle.std.proofs.lemmas.Cmp.{tied_itself}
use Rattle.std.proofs.lemmas.List.{append_assoc, drop-drop, length-append, length-drop, length-take-le, take-append-drop}
use Rattle.std.specs.Prelude.{slice_range}
use Rattle.std.specs.List.Sorted.{IsStrictlySortedBy}
use Rattle.std.specs.Ordering.{ordering_reverse}
use Rattle.base_core.proofs.SetLemmas.{In, AllAfter, Ascends, Ascends-from_sorted}
use Rattle.base_core.proofs.SetOperatorLemmas.{AllAfter-In}
use Rattle.value_core.specs.Values.{Row, row_cmp}
use Rattle.value_core.specs.Order.{row_total}
use Rattle.value_core.proofs.PlacingLemmas.{union_none}
use Rattle.value_core.proofs.RelationLemmas.{sorted_from_ascending}
use Rattle.relation_core.specs.Operators.{united}
use Rattle.relation_core.proofs.FilterLemmas.{Ascends-drop, ended, head_of, take_all}
use Rattle.relation_core.proofs.MergeLemmas.{merged_rest, merged_union, turn_equal, turn_greater, turn_less}
use Rattle.row_removal.specs.Removals.{IsPlaceBehind}
use Rattle.row_removal.proofs.CutLemmas.{in_range, range_more}
use Rattle.row_removal.proofs.LeavingLemmas.{in_rest}

-- ---- the first row of both

first_less : (y x : Row) (us xs : List Row) → Ascends row_cmp (y ∷ us) → Ascends row_cmp (x ∷ xs) → row_cmp y x ≡ Less → united (y ∷ us) (x ∷ xs) ≡ y ∷ united us (x ∷ xs)
first_less y x us xs a b less =
    sym (merged_union (y ∷ us) (x ∷ xs))
    ∙ (turn_less (record { left = true; both = true; right = true }) (y ∷ us) (x ∷ xs) us xs y x refl refl a b y refl less ∙ ap (λ (rs : List Row). y ∷ rs) (merged_union us (x ∷ xs)))

first_both : (x : Row) (us xs : List Row) → Ascends row_cmp (x ∷ us) → Ascends row_cmp (x ∷ xs) → united (x ∷ us) (x ∷ xs) ≡ x ∷ united us xs
first_both x us xs a b =
    sym (merged_union (x ∷ us) (x ∷ xs))
    ∙ (turn_equal (record { left = true; both = true; right = true }) (x ∷ us) (x ∷ xs) us xs x x refl refl a b x refl (tied_itself row_total x) ∙ ap (λ (rs : List Row). x ∷ rs) (merged_union us xs))

none_before : (xs : List Row) → Ascends row_cmp xs → united [] xs ≡ xs
none_before xs b = sym (merged_union [] xs) ∙ merged_rest (record { left = true; both = true; right = true }) [] xs tt b (inl refl)

first_greater : (x : Row) (us xs : List Row) → Ascends row_cmp us → Ascends row_cmp (x ∷ xs) → AllAfter row_cmp x us → united us (x ∷ xs) ≡ x ∷ united us xs
first_greater x [] xs a b after = none_before (x ∷ xs) b ∙ ap (λ (rs : List Row). x ∷ rs) (sym (none_before xs b.1))
first_greater x (y ∷ us) xs a b after =
    sym (merged_union (y ∷ us) (x ∷ xs))
    ∙ (turn_greater (record { left = true; both = true; right = true }) (y ∷ us) (x ∷ xs) us xs y x refl refl a b x refl (row_total.antisymm y x ∙ ap ordering_reverse after.0) ∙ ap (λ (rs : List Row). x ∷ rs) (merged_union (y ∷ us) xs))

-- rows that come before the first of the others
before_first : (p r xs : List Row) (x : Row) → Ascends row_cmp (p ++ r) → Ascends row_cmp (x ∷ xs) → ((z : Row) → In z p → row_cmp z x ≡ Less) → united (p ++ r) (x ∷ xs) ≡ p ++ united r (x ∷ xs)
before_first [] r xs x a b less = refl
before_first (y ∷ p) r xs x a b less =
    first_less y x (p ++ r) xs a b (less y (inl refl)) ∙ ap (λ (rs : List Row). y ∷ rs) (before_first p r xs x a.1 b (λ z i. less z (inr i)))

-- ---- as far as to a row that comes

run_and_rest : (rows : List Row) (seen at : ℕ) → seen ≤ at → drop seen rows ≡ slice_range rows seen at ++ drop at rows
run_and_rest rows seen at le =
    let there : seen + (at - seen) ≡ at = omega (arith, le) in
    sym (take-append-drop (at - seen) (drop seen rows)) ∙ ap (λ (rs : List Row). slice_range rows seen at ++ rs) (drop-drop (at - seen) seen rows ∙ ap (λ (n : ℕ). drop n rows) there)

rest_ascends : (rows : List Row) (seen at : ℕ) → seen ≤ at → Ascends row_cmp (drop seen rows) → Ascends row_cmp (drop at rows)
rest_ascends rows seen at le up =
    let there : seen + (at - seen) ≡ at = omega (arith, le) in
    subst (λ (rs : List Row). Ascends row_cmp rs) (drop-drop (at - seen) seen rows ∙ ap (λ (n : ℕ). drop n rows) there) (Ascends-drop row_cmp (at - seen) (drop seen rows) up)

pub rest_sorted : (rows : List Row) (seen at : ℕ) → seen ≤ at → IsStrictlySortedBy row_cmp (drop seen rows) → IsStrictlySortedBy row_cmp (drop at rows)
rest_sorted rows seen at le up = sorted_from_ascending (drop at rows) (rest_ascends rows seen at le (Ascends-from_sorted row_cmp (drop seen rows) up))

module _ (rows more : List Row) (seen at : ℕ) (x : Row) (sorted : IsStrictlySortedBy row_cmp (drop seen rows)) (others : IsStrictlySortedBy row_cmp (x ∷ more)) where
  own : Ascends row_cmp (drop seen rows)
  own = Ascends-from_sorted row_cmp (drop seen rows) sorted

  theirs : Ascends row_cmp (x ∷ more)
  theirs = Ascends-from_sorted row_cmp (x ∷ more) others

  rest_up : seen ≤ at → Ascends row_cmp (drop at rows)
  rest_up le = rest_ascends rows seen at le own

  as_far : seen ≤ at → at ≤ length rows → ((z : Row) → In z (slice_range rows seen at) → row_cmp z x ≡ Less) → united (drop seen rows) (x ∷ more) ≡ slice_range rows seen at ++ united (drop at rows) (x ∷ more)
  as_far le l less =
      let split = run_and_rest rows seen at le in
      ap (λ (rs : List Row). united rs (x ∷ more)) split
      ∙ before_first (slice_range rows seen at) (drop at rows) more x (subst (λ (rs : List Row). Ascends row_cmp rs) split own) theirs less

  pub united_missing : IsPlaceBehind rows seen x (Err at) → united (drop seen rows) (x ∷ more) ≡ slice_range rows seen at ++ x ∷ united (drop at rows) more
  united_missing p =
      let after : AllAfter row_cmp x (drop at rows) = (AllAfter-In row_cmp x (drop at rows)).1 (λ z i. in_rest (λ z. row_cmp x z ≡ Less) rows at z p.3 i) in
      as_far p.0 p.1 (λ z i. in_range (λ z. row_cmp z x ≡ Less) rows seen at z p.2 p.0 p.1 i)
      ∙ ap (λ (rs : List Row). slice_range rows seen at ++ rs) (first_greater x (drop at rows) more (rest_up p.0) theirs after)

  pub united_found : IsPlaceBehind rows seen x (Ok at) → united (drop seen rows) (x ∷ more) ≡ slice_range rows seen at ++ x ∷ united (drop (at + 1) rows) more
  united_found p =
      let head : drop at rows ≡ x ∷ drop (at + 1) rows = head_of rows at x p.1 (sym (p.2 x)) in
      as_far p.0 (omega (arith, p.1)) (λ z i. in_range (λ z. row_cmp z x ≡ Less) rows seen at z p.3 p.0 (omega (arith, p.1)) i)
      ∙ ap (λ (rs : List Row). slice_range rows seen at ++ rs)
      (ap (λ (rs : List Row). united rs (x ∷ more)) head ∙ first_both x (drop (at + 1) rows) more (subst (λ (rs : List Row). Ascends row_cmp rs) head (rest_up p.0)) theirs)

-- ---- rows that are kept

pub kept_count : (rows now : List Row) (kept more seen end : ℕ) → kept ≤ seen → seen ≤ end → end ≤ length rows → length now ≡ length rows → more ≤ end
    → take more now ≡ take kept rows ++ slice_range rows seen end → more ≡ kept + (end - seen)
kept_count rows now kept more seen end a b c same l e =
    let left : length (take more now) ≡ more = length-take-le more now (omega (arith, l, c, same)) in
    let first : length (take kept rows) ≡ kept = length-take-le kept rows (omega (arith, a, b, c)) in
    let long = length-drop seen rows in
    let run : length (slice_range rows seen end) ≡ end - seen = length-take-le (end - seen) (drop seen rows) (omega (arith, long, b, c)) in
    let both = length-append (take kept rows) (slice_range rows seen end) in
    let whole = ap (λ (rs : List Row). length rs) e in
    omega (arith, left, first, run, both, whole)

-- ---- what is left to be united

pub put_missing : (rows now new front more : List Row) (seen at : ℕ) (x : Row) → IsStrictlySortedBy row_cmp (drop seen rows) → IsStrictlySortedBy row_cmp (x ∷ more) → IsPlaceBehind rows seen x (Err at)
    → now ≡ front ++ slice_range rows seen at → new ≡ now ++ x ∷ [] → new ++ united (drop at rows) more ≡ front ++ united (drop seen rows) (x ∷ more)
put_missing rows now new front more seen at x a b p e f =
    ap (λ (rs : List Row). rs ++ united (drop at rows) more) (f ∙ ap (λ (rs : List Row). rs ++ x ∷ []) e)
    ∙ (append_assoc (front ++ slice_range rows seen at) (x ∷ []) (united (drop at rows) more)
    ∙ (append_assoc front (slice_range rows seen at) (x ∷ united (drop at rows) more) ∙ ap (λ (rs : List Row). front ++ rs) (sym (united_missing rows more seen at x a b p))))

pub put_found : (rows new front more : List Row) (seen at : ℕ) (x : Row) → IsStrictlySortedBy row_cmp (drop seen rows) → IsStrictlySortedBy row_cmp (x ∷ more) → IsPlaceBehind rows seen x (Ok at)
    → new ≡ front ++ slice_range rows seen (at + 1) → new ++ united (drop (at + 1) rows) more ≡ front ++ united (drop seen rows) (x ∷ more)
put_found rows new front more seen at x a b p e =
    let run = range_more rows seen at x p.0 p.1 (sym (p.2 x)) in
    let rest = united (drop (at + 1) rows) more in
    ap (λ (rs : List Row). rs ++ rest) (e ∙ ap (λ (rs : List Row). front ++ rs) run)
    ∙ (append_assoc front (slice_range rows seen at ++ x ∷ []) rest
    ∙ ap (λ (rs : List Row). front ++ rs) (append_assoc (slice_range rows seen at) (x ∷ []) rest ∙ sym (united_found rows more seen at x a b p)))

pub nothing_left : (rows now come : List Row) (seen end n : ℕ) → IsStrictlySortedBy row_cmp (drop seen rows) → drop seen now ≡ drop seen rows → length now ≤ end → length come ≤ n
    → slice_range now seen end ≡ united (drop seen rows) (drop n come)
nothing_left rows now come seen end n sorted back l m =
    let long = length-drop seen now in
    take_all (end - seen) (drop seen now) (omega (arith, long, l)) ∙ (back ∙ (union_none (drop seen rows) sorted ∙ ap (λ (rs : List Row). united (drop seen rows) rs) (sym (ended n come m))))

-- ---- a relation's rows
