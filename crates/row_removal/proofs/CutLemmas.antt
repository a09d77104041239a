-- Rows that are cut out of others, each sought behind the one before.
--     seen_all, run_more      rows that are kept as far as to a place
--     place_found, place_missing      what a search behind a place tells
--     cut_found, cut_missing      the rows that are kept as far as to one that goes
--     cut_turn, cut_end      the rows that stay, after one more is cut out, and after all are
use Rattle.std.proofs.Common.{◌≡◌, inl, inr, ℕ, zero, suc, ◌+◌, ◌-◌, take, drop, ◌<◌, ◌≤◌, Bool, false, not, cond, List, [], ◌∷◌, ◌++◌, length, get_or, refl, sym, ap, ap₂, subst, ◌∙◌, arith, true≢false, Ok, Err, Less, Equal}
use Rattle.std.proofs.Math.Seq.{take-add}
use Rattle.std.proofs.lemmas.Bool.{cases_lt}
use Rattle.std.proofs.lemmas.Cmp.{tied_itself}
use Rattle.std.proofs.lemmas.List.{append_assoc, append-nil, drop-drop, get_or-drop, length-drop, take-append-drop}
use Rattle.std.proofs.lemmas.List.Elements.{filter-append}
use Rattle.std.specs.Prelude.{slice_range}
use Rattle.std.specs.List.{filter, AllWithin, HoldsAt}
use Rattle.std.specs.List.Sorted.{IsStrictlySortedBy, IsBinarySearchResult}
use Rattle.std.specs.Ordering.{ordering_reverse, is_lt}
use Rattle.base_core.specs.Sets.{has}
use Rattle.base_core.proofs.SetLemmas.{In, Ascends, Ascends-from_sorted}
use Rattle.base_core.proofs.MemberLemmas.{In-append, has-In}
use Rattle.base_core.proofs.SetOperatorLemmas.{same_tests, AllAfter-In}
use Rattle.base_core.proofs.OrderingLemmas.{not_before_itself}
use Rattle.value_core.specs.Values.{Row, row_cmp}
use Rattle.value_core.specs.Order.{row_total, row_separates}
use Rattle.value_core.proofs.RelationLemmas.{rising, sorted_from_ascending}
use Rattle.relation_core.specs.Operators.{subtracted}
use Rattle.relation_core.proofs.FilterLemmas.{Ascends-drop, head_of, take_all}
use Rattle.row_removal.specs.Removals.{IsPlaceBehind}
use Rattle.row_removal.proofs.RemovalLemmas.{one_more}
use Rattle.row_removal.proofs.LeavingLemmas.{any_default, front_ascends, in_rest, later, none_among}

-- ---- a run of rows

pub seen_all : (rows : List Row) (kept seen end : ℕ) → kept ≡ seen → seen ≤ end → take end rows ≡ take kept rows ++ slice_range rows seen end
seen_all rows kept seen end same le =
    let whole : end ≡ seen + (end - seen) = omega (arith, le) in
    ap (λ (n : ℕ). take n rows) whole ∙ (take-add seen (end - seen) rows ∙ ap (λ (n : ℕ). take n rows ++ take (end - seen) (drop seen rows)) (sym same))

pub range_more : (rows : List Row) (seen at : ℕ) (x : Row) → seen ≤ at → at < length rows → x ≡ get_or rows at x → slice_range rows seen (at + 1) ≡ slice_range rows seen at ++ x ∷ []
range_more rows seen at x le l is =
    let there : seen + (at - seen) ≡ at = omega (arith, le) in
    let more : at + 1 - seen ≡ at - seen + 1 = omega (arith, le) in
    let long : at - seen < length (drop seen rows) = omega (arith, length-drop seen rows, le, l) in
    let item : x ≡ get_or (drop seen rows) (at - seen) x = is ∙ (ap (λ (n : ℕ). get_or rows n x) (sym there) ∙ sym (get_or-drop seen rows (at - seen) x)) in
    ap (λ (n : ℕ). take n (drop seen rows)) more ∙ sym (one_more (drop seen rows) (at - seen) x long item)

-- rows that are the same from a place on
pub same_at : (rows old : List Row) (i k : ℕ) (d : Row) → drop i rows ≡ drop i old → i ≤ k → get_or rows k d ≡ get_or old k d
same_at rows old i k d e le =
    let there : i + (k - i) ≡ k = omega (arith, le) in
    ap (λ (n : ℕ). get_or rows n d) (sym there)
    ∙ (sym (get_or-drop i rows (k - i) d) ∙ (ap (λ (rs : List Row). get_or rs (k - i) d) e ∙ (get_or-drop i old (k - i) d ∙ ap (λ (n : ℕ). get_or old n d) there)))

pub run_more : (rows now new : List Row) (first kept more seen at : ℕ) → seen ≤ at → at < length rows → at < length now → drop at now ≡ drop at rows
    → take kept now ≡ take first rows ++ slice_range rows seen at → ((x : Row) → x ≡ get_or now at x → take more new ≡ take kept now ++ x ∷ [])
    → take more new ≡ take first rows ++ slice_range rows seen (at + 1)
run_more rows now new first kept more seen at le l m back front step =
    let x = get_or now at [] in
    let own : x ≡ get_or now at x = any_default now at [] x m in
    let old : x ≡ get_or rows at x = own ∙ same_at now rows at at x back (omega arith) in
    step x own
    ∙ (ap (λ (rs : List Row). rs ++ x ∷ []) front
    ∙ (append_assoc (take first rows) (slice_range rows seen at) (x ∷ []) ∙ ap (λ (rs : List Row). take first rows ++ rs) (sym (range_more rows seen at x le l old))))

-- ---- a search behind a place

near_at : (rest : List Row) (n a : ℕ) (d : Row) → a < length (take n rest) → get_or (take n rest) a d ≡ get_or rest a d
near_at rest zero a d l = absurd (omega (arith, l))
near_at [] (suc n) a d l = refl
near_at (y ∷ ys) (suc n) zero d l = refl
near_at (y ∷ ys) (suc n) (suc a) d l = near_at ys n a d (omega (arith, l))

near_long : (rest : List Row) (n a : ℕ) → a < length (take n rest) → a < length rest
near_long rest zero a l = absurd (omega (arith, l))
near_long [] (suc n) a l = l
near_long (y ∷ ys) (suc n) zero l = omega arith
near_long (y ∷ ys) (suc n) (suc a) l = let ih = near_long ys n a (omega (arith, l)) in omega (arith, ih)

near_most : (rest : List Row) (n : ℕ) → length (take n rest) ≤ length rest
near_most rest zero = omega arith
near_most [] (suc n) = omega arith
near_most (y ∷ ys) (suc n) = let ih = near_most ys n in omega (arith, ih)

beyond_near : (rest : List Row) (n m : ℕ) → m < length rest → length (take n rest) ≤ m → n ≤ m
beyond_near rest zero m l le = omega arith
beyond_near [] (suc n) m l le = absurd (omega (arith, l))
beyond_near (y ∷ ys) (suc n) zero l le = absurd (omega (arith, le))
beyond_near (y ∷ ys) (suc n) (suc m) l le = let ih = beyond_near ys n m (omega (arith, l)) (omega (arith, le)) in omega (arith, ih)

module _ (rows rest near : List Row) (x : Row) (seen n : ℕ) (left : rest ≡ drop seen rows) (is : near ≡ take n rest) (starts : seen ≤ length rows) (sorted : IsStrictlySortedBy row_cmp (drop seen rows))
    (behind : AllWithin (λ z. row_cmp x z ≡ Less) rest n (length rest)) where
  up : Ascends row_cmp rest
  up = subst (λ (rs : List Row). Ascends row_cmp rs) (sym left) (Ascends-from_sorted row_cmp (drop seen rows) sorted)

  long : length rest + seen ≡ length rows
  long = let e = ap (λ (rs : List Row). length rs) left in let f = length-drop seen rows in omega (arith, e, f, starts)

  -- a row behind the place is one of the rest
  at_rest : (k : ℕ) (d : Row) → seen ≤ k → get_or rows k d ≡ get_or rest (k - seen) d
  at_rest k d le =
      let there : seen + (k - seen) ≡ k = omega (arith, le) in
      ap (λ (m : ℕ). get_or rows m d) (sym there) ∙ (sym (get_or-drop seen rows (k - seen) d) ∙ ap (λ (rs : List Row). get_or rs (k - seen) d) (sym left))

  pub place_found : (a : ℕ) → a < length near → HoldsAt (λ y. row_cmp y x ≡ Equal) near a → IsPlaceBehind rows seen x (Ok (seen + a))
  place_found a l found =
      let within : a < length (take n rest) = subst (λ (rs : List Row). a < length rs) is l in
      let inside : a < length rest = near_long rest n a within in
      let item : (d : Row) → get_or rest a d ≡ x = λ d. sym (near_at rest n a d within) ∙ row_separates (get_or (take n rest) a d) x (subst (λ (rs : List Row). row_cmp (get_or rs a d) x ≡ Equal) is (found d)) in
      let none : seen + a - seen ≡ a = omega arith in (
        omega arith,
        omega (arith, inside, long),
        λ d. at_rest (seen + a) d (omega arith) ∙ (ap (λ (m : ℕ). get_or rest m d) none ∙ item d),
        λ k d le m. ap (λ (y : Row). row_cmp y x) (at_rest k d le)
            ∙ subst (λ (y : Row). row_cmp (get_or rest (k - seen) d) y ≡ Less) (item d) (later rest (k - seen) a d up (omega (arith, le, m)) inside),
        λ k d le m. let far : seen ≤ k = omega (arith, le) in
            ap (λ (y : Row). row_cmp x y) (at_rest k d far)
            ∙ subst (λ (y : Row). row_cmp y (get_or rest (k - seen) d) ≡ Less) (item d) (later rest a (k - seen) d up (omega (arith, le)) (omega (arith, m, long, far))),
      )

  pub place_missing : (a : ℕ) → a ≤ length near → IsBinarySearchResult (λ y. row_cmp y x) near (Err a) → IsPlaceBehind rows seen x (Err (seen + a))
  place_missing a l missing =
      let within : a ≤ length (take n rest) = subst (λ (rs : List Row). a ≤ length rs) is l in
      let most = near_most rest n in
      let there : IsBinarySearchResult (λ y. row_cmp y x) (take n rest) (Err a) = subst (λ (rs : List Row). IsBinarySearchResult (λ y. row_cmp y x) rs (Err a)) is missing in
      let parts = there (rising row_cmp row_total (take n rest) x (sorted_from_ascending (take n rest) (front_ascends rest n up))) in (
        omega arith,
        omega (arith, within, most, long),
        λ k d le m. let near_k : k - seen < length (take n rest) = omega (arith, le, m, within) in
            ap (λ (y : Row). row_cmp y x) (at_rest k d le ∙ sym (near_at rest n (k - seen) d near_k)) ∙ parts.0 (k - seen) d (omega arith) (omega (arith, le, m)),
        λ k d le m. let far : seen ≤ k = omega (arith, le) in
            ap (λ (y : Row). row_cmp x y) (at_rest k d far) ∙ elim (cases_lt (k - seen) (length (take n rest))) [
              | inl near_k ↦
                  ap (λ (y : Row). row_cmp x y) (sym (near_at rest n (k - seen) d near_k))
                  ∙ (row_total.antisymm x (get_or (take n rest) (k - seen) d) ∙ ap ordering_reverse (parts.1 (k - seen) d (omega (arith, le)) near_k))
              | inr beyond ↦ behind (k - seen) d (beyond_near rest n (k - seen) (omega (arith, m, long, far)) beyond) (omega (arith, m, long, far))
            ],
      )

-- ---- as far as to a row that goes

in_run : (P : Row → Type 0) (rows : List Row) (a k : ℕ) (z : Row) → ((i : ℕ) (d : Row) → a ≤ i → i < a + k → P (get_or rows i d)) → a + k ≤ length rows → In z (take k (drop a rows)) → P z
in_run P rows zero zero z all l i = absurd i
in_run P [] zero (suc k) z all l i = absurd (omega (arith, l))
in_run P (y ∷ ys) zero (suc k) z all l i = elim i [
  | inl e ↦ subst P (sym e) (all 0 y (omega arith) (omega arith))
  | inr j ↦ in_run P ys zero k z (λ m d le lt. all (suc m) d (omega arith) (omega (arith, lt))) (omega (arith, l)) j
]
in_run P [] (suc a) zero z all l i = absurd (omega (arith, l))
in_run P [] (suc a) (suc k) z all l i = absurd (omega (arith, l))
in_run P (y ∷ ys) (suc a) k z all l i = in_run P ys a k z (λ m d le lt. all (suc m) d (omega (arith, le)) (omega (arith, lt))) (omega (arith, l)) i

pub in_range : (P : Row → Type 0) (rows : List Row) (a b : ℕ) (z : Row) → AllWithin P rows a b → a ≤ b → b ≤ length rows → In z (slice_range rows a b) → P z
in_range P rows a b z all le l i = in_run P rows a (b - a) z (λ k d from below. all k d from (omega (arith, below, le))) (omega (arith, le, l)) i

less_stay : (rows : List Row) (a b : ℕ) (x : Row) → AllWithin (λ z. row_cmp z x ≡ Less) rows a b → a ≤ b → b ≤ length rows → slice_range rows a b ≡ subtracted (slice_range rows a b) (x ∷ [])
less_stay rows a b x all le l = none_among (slice_range rows a b) (x ∷ []) (λ z i j. elim j [
  | inl e ↦ not_before_itself row_cmp row_total x (subst (λ w. row_cmp w x ≡ Less) e (in_range (λ z. row_cmp z x ≡ Less) rows a b z all le l i))
  | inr n ↦ absurd n
])

itself_goes : (x : Row) → subtracted (x ∷ []) (x ∷ []) ≡ []
itself_goes x = ap (λ (b : Bool). cond (not b) (x ∷ []) []) ((has-In row_cmp row_total row_separates (x ∷ []) x).1 (inl refl))

no_less : (x z : Row) → row_cmp z x ≡ Less → is_lt (row_cmp x z) ≡ false
no_less x z l = ap is_lt (row_total.antisymm x z ∙ ap ordering_reverse l)

pub cut_missing : (rows : List Row) (seen at : ℕ) (x : Row) → IsPlaceBehind rows seen x (Err at) → (slice_range rows seen at ≡ subtracted (slice_range rows seen at) (x ∷ [])) × AllWithin (λ z. is_lt (row_cmp x z) ≡ false) rows seen at
cut_missing rows seen at x p = (less_stay rows seen at x p.2 p.0 p.1, λ k d le l. no_less x (get_or rows k d) (p.2 k d le l))

pub cut_found : (rows : List Row) (seen at : ℕ) (x : Row) → IsPlaceBehind rows seen x (Ok at)
    → (slice_range rows seen at ≡ subtracted (slice_range rows seen (at + 1)) (x ∷ [])) × AllWithin (λ z. is_lt (row_cmp x z) ≡ false) rows seen (at + 1)
cut_found rows seen at x p =
    let p' = λ (z : Row). not (has row_cmp (x ∷ []) z) in (
      sym (ap (λ (rs : List Row). subtracted rs (x ∷ [])) (range_more rows seen at x p.0 p.1 (sym (p.2 x)))
          ∙ (filter-append p' (slice_range rows seen at) (x ∷ [])
          ∙ (ap₂ (λ (a b : List Row). a ++ b) (sym (less_stay rows seen at x p.3 p.0 (omega (arith, p.1)))) (itself_goes x) ∙ append-nil (slice_range rows seen at)))),
      λ k d le l. elim (cases_lt k at) [
        | inl before ↦ no_less x (get_or rows k d) (p.3 k d le before)
        | inr after ↦
            let same : k ≡ at = omega (arith, after, l) in
            let item : get_or rows k d ≡ x = ap (λ (m : ℕ). get_or rows m d) same ∙ p.2 d in
            ap (λ (y : Row). is_lt (row_cmp x y)) item ∙ ap is_lt (tied_itself row_total x)
      ],
    )

-- ---- one row after the other

tests_same : (p q : Row → Bool) (rows : List Row) → ((z : Row) → In z rows → p z ≡ q z) → filter p rows ≡ filter q rows
tests_same p q [] h = refl
tests_same p q (y ∷ ys) h = ap₂ (λ (b : Bool) (rs : List Row). cond b (y ∷ rs) rs) (h y (inl refl)) (tests_same p q ys (λ z i. h z (inr i)))

from_rest : (rows : List Row) (a k : ℕ) (z : Row) → In z (take k (drop a rows)) → In z (drop a rows)
from_rest rows a k z i = subst (λ (rs : List Row). In z rs) (take-append-drop k (drop a rows)) ((In-append z (take k (drop a rows)) (drop k (drop a rows))).1 (inl i))

further : (rows : List Row) (a b : ℕ) (z : Row) → a ≤ b → In z (drop b rows) → In z (drop a rows)
further rows zero b z le i = subst (λ (rs : List Row). In z rs) (take-append-drop b rows) ((In-append z (take b rows) (drop b rows)).1 (inr i))
further [] (suc a) zero z le i = absurd (omega (arith, le))
further [] (suc a) (suc b) z le i = i
further (y ∷ ys) (suc a) zero z le i = absurd (omega (arith, le))
further (y ∷ ys) (suc a) (suc b) z le i = further ys a b z (omega (arith, le)) i

module _ (rows gone : List Row) (j seen next : ℕ) (x : Row) (sorted : IsStrictlySortedBy row_cmp gone) (l : j < length gone) (is : x ≡ get_or gone j x) (le : seen ≤ next) (within : next ≤ length rows)
    (before : AllWithin (λ z. is_lt (row_cmp x z) ≡ false) rows seen next) (behind : AllWithin (λ z. row_cmp x z ≡ Less) rows next (length rows))
    (apart : (z : Row) → In z (drop seen rows) → In z (take j gone) → ⊥) where
  -- those that are done, this one, and those behind it
  parts : take j gone ++ x ∷ drop (j + 1) gone ≡ gone
  parts = ap (λ (rs : List Row). take j gone ++ rs) (sym (head_of gone j x l is)) ∙ take-append-drop j gone

  after : (z : Row) → In z (drop (j + 1) gone) → row_cmp x z ≡ Less
  after z i =
      let up : Ascends row_cmp (x ∷ drop (j + 1) gone) = subst (λ (rs : List Row). Ascends row_cmp rs) (head_of gone j x l is) (Ascends-drop row_cmp j gone (Ascends-from_sorted row_cmp gone sorted)) in
      (AllAfter-In row_cmp x (drop (j + 1) gone)).0 up.0 z i

  -- of the rows between, only this one goes
  only : (z : Row) → In z (slice_range rows seen next) → has row_cmp (x ∷ []) z ≡ has row_cmp gone z
  only z i =
      let one = has-In row_cmp row_total row_separates (x ∷ []) z in
      let all = has-In row_cmp row_total row_separates gone z in
      let split = In-append z (take j gone) (x ∷ drop (j + 1) gone) in
      let below : is_lt (row_cmp x z) ≡ false = in_range (λ z. is_lt (row_cmp x z) ≡ false) rows seen next z before le within i in
      same_tests (has row_cmp (x ∷ []) z) (has row_cmp gone z) (
        λ e. all.1 (subst (λ (rs : List Row). In z rs) parts (split.1 (inr (elim (one.0 e) [ inl s ↦ inl s | inr n ↦ absurd n ])))),
        λ e. one.1 (elim (split.0 (subst (λ (rs : List Row). In z rs) (sym parts) (all.0 e))) [
          | inl done ↦ absurd (apart z (from_rest rows seen (next - seen) z i) done)
          | inr rest ↦ elim rest [
            | inl s ↦ inl s
            | inr far ↦ absurd (not_lt z (after z far) below)
          ]
        ]),
      )
    where
      not_lt : (w : Row) → row_cmp x w ≡ Less → is_lt (row_cmp x w) ≡ false → ⊥
      not_lt w less other = true≢false (sym (ap is_lt less) ∙ other)

  pub cut_turn : (front : List Row) → front ≡ subtracted (take seen rows) gone ++ subtracted (slice_range rows seen next) (x ∷ []) → front ≡ subtracted (take next rows) gone
  cut_turn front e =
      let p = λ (z : Row). not (has row_cmp gone z) in
      e
      ∙ (ap (λ (rs : List Row). subtracted (take seen rows) gone ++ rs) (tests_same (λ z. not (has row_cmp (x ∷ []) z)) p (slice_range rows seen next) (λ z i. ap not (only z i)))
      ∙ (sym (filter-append p (take seen rows) (slice_range rows seen next)) ∙ ap (λ (rs : List Row). subtracted rs gone) (sym (seen_all rows seen seen next refl le))))

  pub cut_apart : (z : Row) → In z (drop next rows) → In z (take (j + 1) gone) → ⊥
  cut_apart z i k =
      let split = In-append z (take j gone) (x ∷ []) in
      elim (split.0 (subst (λ (rs : List Row). In z rs) (sym (one_more gone j x l is)) k)) [
        | inl done ↦ apart z (further rows seen next z le i) done
        | inr one ↦ elim one [
          | inl s ↦ not_before_itself row_cmp row_total x (subst (λ (w : Row). row_cmp x w ≡ Less) s (in_rest (λ z. row_cmp x z ≡ Less) rows next z behind i))
          | inr n ↦ absurd n
        ]
      ]

pub cut_end : (rows gone front : List Row) (j seen end : ℕ) → length gone ≤ j → seen ≤ end → length rows ≤ end → ((z : Row) → In z (drop seen rows) → In z (take j gone) → ⊥)
    → front ≡ subtracted (take seen rows) gone ++ slice_range rows seen end → front ≡ subtracted rows gone
cut_end rows gone front j seen end all le most apart e =
    let p = λ (z : Row). not (has row_cmp gone z) in
    let whole : take end rows ≡ rows = take_all end rows most in
    let stay = none_among (slice_range rows seen end) gone (λ z i k. apart z (from_rest rows seen (end - seen) z i) (subst (λ (rs : List Row). In z rs) (sym (take_all j gone all)) k)) in
    e
    ∙ (ap (λ (rs : List Row). subtracted (take seen rows) gone ++ rs) stay
    ∙ (sym (filter-append p (take seen rows) (slice_range rows seen end))
    ∙ ap (λ (rs : List Row). subtracted rs gone) (sym (seen_all rows seen seen end refl le) ∙ whole)))

-- rows that are the same from a place on are so from a later one on
pub further_rest : (rows old : List Row) (i j : ℕ) → i ≤ j → drop i rows ≡ drop i old → drop j rows ≡ drop j old
further_rest rows old i j le e =
    let there : i + (j - i) ≡ j = omega (arith, le) in
    ap (λ (n : ℕ). drop n rows) (sym there)
    ∙ (sym (drop-drop (j - i) i rows) ∙ (ap (λ (rs : List Row). drop (j - i) rs) e ∙ (drop-drop (j - i) i old ∙ ap (λ (n : ℕ). drop n old) there)))
