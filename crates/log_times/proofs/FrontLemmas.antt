-- Rows in order, by their values in front of a place.
--     less_by_front, fronts_sorted      they are in the order of these values
--     behind_front      those with greater ones than a row stand behind
--     front-unstamped      a row without its interval has the same
--     lost_split      what a log loses, by the first of the rows that go
use Rattle.std.proofs.Common.{◌≡◌, inl, inr, ℕ, zero, suc, ◌+◌, ◌<◌, ◌≤◌, Bool, true, false, cond, List, [], ◌∷◌, ◌++◌, append_assoc, length, get_or, take, drop, refl, sym, ap, ap₂, ◌∙◌, subst, arith, Ordering, Less, Equal, Greater}
use Rattle.std.specs.Bool.{IsTrue}
use Rattle.std.specs.List.{All, AllWithin, filter}
use Rattle.std.specs.List.Sorted.{IsSortedByKey, IsStrictlySortedBy}
use Rattle.std.specs.Ordering.{is_lt, is_eq, is_gt, ordering_then, ordering_reverse}
use Rattle.std.proofs.lemmas.Bool.{and_parts, and_from, true≢false}
use Rattle.std.proofs.lemmas.Cmp.{tied_itself}
use Rattle.std.proofs.lemmas.List.{get_or-drop}
use Rattle.base_core.specs.Sets.{has}
use Rattle.base_core.proofs.ListLemmas.{All-In}
use Rattle.base_core.proofs.MemberLemmas.{In-append, In-filter}
use Rattle.base_core.proofs.OrderingLemmas.{is_eq-Equal, not_before_itself}
use Rattle.base_core.proofs.SetLemmas.{In, Ascends, Ascends-from_sorted, in_after}
use Rattle.base_core.proofs.SetOperatorLemmas.{Ascends-filter, Ascends-append}
use Rattle.value_core.proofs.RelationLemmas.{sorted_from_ascending}
use Rattle.value_core.specs.Order.{row_total, row_separates}
use Rattle.value_core.specs.Values.{Row, row_cmp, value_cmp}
use Rattle.relation_core.proofs.FilterLemmas.{filter_first, length-filter_at_most}
use Rattle.row_removal.proofs.LeavingLemmas.{later}
use Rattle.log_times.specs.Logs.{unstamped, is_standing, HasStatements}
use Rattle.log_times.specs.Turns.{goes, lost}
use Rattle.log_times.specs.Fronts.{has_front, is_behind}
use Rattle.log_times.proofs.OrderLemmas.{all_In}
use Rattle.log_times.proofs.TurnLemmas.{has_In, one_set, lost_none}

-- ---- the order of the values in front

less_then : (r s t : Ordering) → (s ≡ Less → t ≡ Less) → ordering_then r s ≡ Less → ordering_then r t ≡ Less
less_then Less s t h e = refl
less_then Equal s t h e = h e
less_then Greater s t h e = cc

-- a row with lesser values in front is less
pub less_by_front : (side : ℕ) (x y : Row) → row_cmp (take side x) (take side y) ≡ Less → row_cmp x y ≡ Less
less_by_front zero x y e = absurd cc
less_by_front (suc side) [] [] e = absurd cc
less_by_front (suc side) [] (w ∷ y) e = refl
less_by_front (suc side) (v ∷ x) [] e = absurd cc
less_by_front (suc side) (v ∷ x) (w ∷ y) e = less_then (value_cmp v w) (row_cmp (take side x) (take side y)) (row_cmp x y) (less_by_front side x y) e

one_way : (x y : Row) → row_cmp x y ≡ Less → row_cmp y x ≡ Less → ⊥
one_way x y e f = let turned = sym e ∙ (row_total.antisymm x y ∙ ap ordering_reverse f) in absurd cc

-- a greater row has no lesser ones
no_lower : (side : ℕ) (x y : Row) → row_cmp x y ≡ Less → is_lt (row_cmp (take side y) (take side x)) ≡ false
no_lower side x y e =
    elim (row_cmp (take side y) (take side x)) as (λ r. row_cmp (take side y) (take side x) ≡ r → is_lt r ≡ false) [
      | Less ↦ λ h. absurd (one_way x y e (less_by_front side y x h))
      | Equal ↦ λ h. refl
      | Greater ↦ λ h. refl
    ] refl

pub fronts_sorted : (side : ℕ) (rows : List Row) → Ascends row_cmp rows → IsSortedByKey (λ (x : Row). take side x) row_cmp rows
fronts_sorted side rows up i d low l = no_lower side (get_or rows i d) (get_or rows (i + 1) d) (later rows i (i + 1) d up (omega arith) (omega (arith, l)))

-- ---- members behind a place

module _ {E : Type 0} (r : E → Bool) where
  every : (xs : List E) → AllWithin (λ e. r e ≡ true) xs 0 (length xs) → filter r xs ≡ xs
  every [] h = refl
  every (x ∷ xs) h =
      ap (λ b. cond b (x ∷ filter r xs) (filter r xs)) (h zero x (omega arith) (omega arith)) ∙ ap (λ zs. x ∷ zs) (every xs (λ i d l m. h (suc i) d (omega arith) (omega (arith, m))))

  drop_passes : (xs : List E) (n : ℕ) → AllWithin (λ e. r e ≡ false) xs 0 n → AllWithin (λ e. r e ≡ true) xs n (length xs) → drop n xs ≡ filter r xs
  drop_passes [] zero h k = refl
  drop_passes [] (suc n) h k = refl
  drop_passes (x ∷ xs) zero h k = sym (every (x ∷ xs) k)
  drop_passes (x ∷ xs) (suc n) h k =
      drop_passes xs n (λ i d a b. h (suc i) d (omega arith) (omega (arith, b))) (λ i d a b. k (suc i) d (omega (arith, a)) (omega (arith, b)))
      ∙ sym (filter_first r x xs false (h zero x (omega arith) (omega arith)))

  behind_is : (xs rest : List E) (b n : ℕ) → rest ≡ drop b xs → AllWithin (λ e. r e ≡ false) xs 0 b → AllWithin (λ e. r e ≡ false) rest 0 n → AllWithin (λ e. r e ≡ true) rest n (length rest)
      → drop n rest ≡ filter r xs
  behind_is xs rest zero n is low at high = drop_passes rest n at high ∙ ap (λ zs. filter r zs) is
  behind_is [] rest (suc b) n is low at high = drop_passes rest n at high ∙ ap (λ zs. filter r zs) is
  behind_is (x ∷ xs) rest (suc b) n is low at high =
      behind_is xs rest b n is (λ i d l m. low (suc i) d (omega arith) (omega (arith, m))) at high ∙ sym (filter_first r x xs false (low zero x (omega arith) (omega arith)))

less_not_greater : (r : Ordering) → is_lt r ≡ true → is_gt r ≡ false
less_not_greater Less e = refl
less_not_greater Equal e = refl
less_not_greater Greater e = absurd (true≢false (sym e))

same_not_greater : (r : Ordering) → is_eq r ≡ true → is_gt r ≡ false
same_not_greater Less e = refl
same_not_greater Equal e = refl
same_not_greater Greater e = absurd (true≢false (sym e))

else_greater : (r : Ordering) → is_lt r ≡ false → is_eq r ≡ false → is_gt r ≡ true
else_greater Less e f = absurd (true≢false e)
else_greater Equal e f = absurd (true≢false f)
else_greater Greater e f = refl

greater_is : (r : Ordering) → is_gt r ≡ true → r ≡ Greater
greater_is Less e = absurd (true≢false (sym e))
greater_is Equal e = absurd (true≢false (sym e))
greater_is Greater e = refl

-- behind the rows with the values of one row in front stand those with greater ones
pub behind_front : (side : ℕ) (one : Row) (rows rest : List Row) (b n : ℕ) → rest ≡ drop b rows → length rest + b ≡ length rows
    → AllWithin (λ x. is_lt (row_cmp (take side x) (take side one)) ≡ true) rows 0 b → AllWithin (λ x. is_lt (row_cmp (take side x) (take side one)) ≡ false) rows b (length rows)
    → AllWithin (λ x. has_front side one x ≡ true) rest 0 n → AllWithin (λ x. has_front side one x ≡ false) rest n (length rest) → drop n rest ≡ filter (is_behind side one) rows
behind_front side one rows rest b n is size low above at high =
    let order : Row → Ordering = λ x. row_cmp (take side x) (take side one) in
    let no_less : (i : ℕ) (d : Row) → i < length rest → is_lt (order (get_or rest i d)) ≡ false = λ i d l.
    ap (λ (z : Row). is_lt (order z)) (ap (λ (zs : List Row). get_or zs i d) is ∙ get_or-drop b rows i d) ∙ above (b + i) d (omega arith) (omega (arith, l, size)) in
    behind_is (is_behind side one) rows rest b n is (λ i d l m. less_not_greater (order (get_or rows i d)) (low i d l m)) (λ i d l m. same_not_greater (order (get_or rest i d)) (at i d l m))
    (λ i d l m. else_greater (order (get_or rest i d)) (no_less i d m) (high i d l m))

-- ---- some of the rows

pub some_have : (p : Row → Bool) (side : ℕ) (rows some : List Row) → some ≡ filter p rows → All (HasStatements side) rows → All (HasStatements side) some
some_have p side rows some is all = subst (λ (rs : List Row). All (HasStatements side) rs) (sym is) (All-In (HasStatements side) (filter p rows) (λ x i. all_In (HasStatements side) rows all x ((In-filter p x rows).0 i).0))

pub some_sorted : (p : Row → Bool) (rows some : List Row) → some ≡ filter p rows → IsStrictlySortedBy row_cmp rows → IsStrictlySortedBy row_cmp some
some_sorted p rows some is up =
    subst (λ (rs : List Row). IsStrictlySortedBy row_cmp rs) (sym is) (sorted_from_ascending (filter p rows) (Ascends-filter row_cmp p rows (Ascends-from_sorted row_cmp rows up)))

-- the rows behind the first are fewer
pub fewer_behind : (side : ℕ) (gone others behind : List Row) (first : Row) → gone ≡ first ∷ others → behind ≡ filter (is_behind side first) gone → length behind < length gone
fewer_behind side gone others behind first is e =
    let out : is_behind side first first ≡ false = ap is_gt (tied_itself row_total (take side first)) in
    let less : behind ≡ filter (is_behind side first) others = e ∙ (ap (λ (rs : List Row). filter (is_behind side first) rs) is ∙ filter_first (is_behind side first) first others false out) in
    let size : length behind ≡ length (filter (is_behind side first) others) = ap (λ (rs : List Row). length rs) less in
    let whole : length gone ≡ suc (length others) = ap (λ (rs : List Row). length rs) is in
    let most = length-filter_at_most (is_behind side first) others in
    omega (arith, size, whole, most)

-- ---- what a log loses

pub front-unstamped : (side : ℕ) (x : Row) → side ≤ length x → take side (unstamped side x) ≡ take side x
front-unstamped zero x l = refl
front-unstamped (suc side) [] l = absurd (omega (arith, l))
front-unstamped (suc side) (v ∷ x) l = ap (λ (vs : Row). v ∷ vs) (front-unstamped side x (omega (arith, l)))

-- by a test of the rows that go, and of the rows of the log
module _ (side : ℕ) (gone log : List Row) (p : Row → Bool) where
  lost_part : (x : Row) → p (unstamped side x) ≡ p x → In x (lost side gone log) → IsTrue (p x) → In x (lost side (filter p gone) (filter p log))
  lost_part x same h e =
      let f = (In-filter (goes side gone) x log).0 h in
      let w = and_parts (is_standing side x) (has row_cmp gone (unstamped side x)) f.1 in
      let there = (In-filter p (unstamped side x) gone).1 ((has_In gone (unstamped side x)).0 w.1, same ∙ e) in
      (In-filter (goes side (filter p gone)) x (filter p log)).1 (
        (In-filter p x log).1 (f.0, e),
        and_from (is_standing side x) (has row_cmp (filter p gone) (unstamped side x)) w.0 ((has_In (filter p gone) (unstamped side x)).1 there),
      )

  part_passes : (x : Row) → In x (lost side (filter p gone) (filter p log)) → IsTrue (p x)
  part_passes x h = ((In-filter p x log).0 ((In-filter (goes side (filter p gone)) x (filter p log)).0 h).0).1

  part_lost : (x : Row) → In x (lost side (filter p gone) (filter p log)) → In x (lost side gone log)
  part_lost x h =
      let f = (In-filter (goes side (filter p gone)) x (filter p log)).0 h in
      let w = and_parts (is_standing side x) (has row_cmp (filter p gone) (unstamped side x)) f.1 in
      let there = (In-filter p (unstamped side x) gone).0 ((has_In (filter p gone) (unstamped side x)).0 w.1) in
      (In-filter (goes side gone) x log).1 (
        ((In-filter p x log).0 f.0).0,
        and_from (is_standing side x) (has row_cmp gone (unstamped side x)) w.0 ((has_In gone (unstamped side x)).1 there.0),
      )

  part_ascends : Ascends row_cmp log → Ascends row_cmp (lost side (filter p gone) (filter p log))
  part_ascends up = Ascends-filter row_cmp (goes side (filter p gone)) (filter p log) (Ascends-filter row_cmp p log up)

-- of rows that go the first has the least values in front
module _ (side : ℕ) (gone others log : List Row) (first : Row) (is : gone ≡ first ∷ others) (up : Ascends row_cmp gone) (rising : Ascends row_cmp log) (long : (x : Row) → In x log → side ≤ length x) where
  abbrev same : Row → Bool
  same = has_front side first

  abbrev behind : Row → Bool
  behind = is_behind side first

  lowest : (u : Row) → In u gone → row_cmp (take side u) (take side first) ≡ Less → ⊥
  lowest u i e =
      let ordered : Ascends row_cmp (first ∷ others) = subst (λ (rs : List Row). Ascends row_cmp rs) is up in
      elim (subst (λ (rs : List Row). In u rs) is i) [
        | inl s ↦ not_before_itself row_cmp row_total (take side first) (subst (λ (z : Row). row_cmp (take side z) (take side first) ≡ Less) s e)
        | inr j ↦ one_way first u (in_after row_cmp row_total row_separates first u others ordered.0 j) (less_by_front side u first e)
      ]

  forward : (x : Row) → In x (lost side gone log) → In x (lost side (filter same gone) (filter same log) ++ lost side (filter behind gone) (filter behind log))
  forward x h =
      let f = (In-filter (goes side gone) x log).0 h in
      let w = and_parts (is_standing side x) (has row_cmp gone (unstamped side x)) f.1 in
      let u : In (unstamped side x) gone = (has_In gone (unstamped side x)).0 w.1 in
      let front : take side (unstamped side x) ≡ take side x = front-unstamped side x (long x f.0) in
      let both = In-append x (lost side (filter same gone) (filter same log)) (lost side (filter behind gone) (filter behind log)) in
      elim (row_cmp (take side x) (take side first)) as (λ r. row_cmp (take side x) (take side first) ≡ r → In x (lost side (filter same gone) (filter same log) ++ lost side (filter behind gone) (filter behind log))) [
        | Less ↦ λ e. absurd (lowest (unstamped side x) u (ap (λ (z : Row). row_cmp z (take side first)) front ∙ e))
        | Equal ↦ λ e. both.1 (inl (lost_part side gone log same x (ap (λ (z : Row). is_eq (row_cmp z (take side first))) front) h (ap is_eq e)))
        | Greater ↦ λ e. both.1 (inr (lost_part side gone log behind x (ap (λ (z : Row). is_gt (row_cmp z (take side first))) front) h (ap is_gt e)))
      ] refl

  backward : (x : Row) → In x (lost side (filter same gone) (filter same log) ++ lost side (filter behind gone) (filter behind log)) → In x (lost side gone log)
  backward x h = elim ((In-append x (lost side (filter same gone) (filter same log)) (lost side (filter behind gone) (filter behind log))).0 h) [
    | inl i ↦ part_lost side gone log same x i
    | inr i ↦ part_lost side gone log behind x i
  ]

  across : (x y : Row) → In x (lost side (filter same gone) (filter same log)) → In y (lost side (filter behind gone) (filter behind log)) → row_cmp x y ≡ Less
  across x y i j =
      let one : take side x ≡ take side first = row_separates (take side x) (take side first) (is_eq-Equal (row_cmp (take side x) (take side first)) (part_passes side gone log same x i)) in
      let more : row_cmp (take side y) (take side first) ≡ Greater = greater_is (row_cmp (take side y) (take side first)) (part_passes side gone log behind y j) in
      let less : row_cmp (take side first) (take side y) ≡ Less = row_total.antisymm (take side first) (take side y) ∙ ap ordering_reverse more in
      less_by_front side x y (ap (λ (z : Row). row_cmp z (take side y)) one ∙ less)

  -- the rows with its values in front are lost by the rows that go with them, and those behind by the others
  pub lost_split : lost side gone log ≡ lost side (filter same gone) (filter same log) ++ lost side (filter behind gone) (filter behind log)
  lost_split =
      one_set (lost side gone log) (lost side (filter same gone) (filter same log) ++ lost side (filter behind gone) (filter behind log)) (Ascends-filter row_cmp (goes side gone) log rising)
      (Ascends-append row_cmp (lost side (filter same gone) (filter same log)) (lost side (filter behind gone) (filter behind log)) (part_ascends side gone log same rising) (part_ascends side gone log behind rising) across)
      (λ x. (forward x, backward x))

-- ---- one turn of the search

pub lost_turn : (side : ℕ) (gone others same behind rest run after old now whole : List Row) (first : Row) → gone ≡ first ∷ others → IsStrictlySortedBy row_cmp gone → IsStrictlySortedBy row_cmp rest → All (HasStatements side) rest
    → run ≡ filter (has_front side first) rest → after ≡ filter (is_behind side first) rest → same ≡ filter (has_front side first) gone → behind ≡ filter (is_behind side first) gone
    → old ++ lost side gone rest ≡ whole → now ≡ old ++ lost side same run → now ++ lost side behind after ≡ whole
lost_turn side gone others same behind rest run after old now whole first is up rising all r a s b before e =
    let long : (x : Row) → In x rest → side ≤ length x = λ x i. (let within = (all_In (HasStatements side) rest all x i).within in omega (arith, within)) in
    let parts = lost_split side gone others rest first is (Ascends-from_sorted row_cmp gone up) (Ascends-from_sorted row_cmp rest rising) long in
    let these : lost side same run ++ lost side behind after ≡ lost side gone rest = ap₂ (λ (l k : List Row). l ++ k) (ap₂ (λ (g l : List Row). lost side g l) s r) (ap₂ (λ (g l : List Row). lost side g l) b a) ∙ sym parts in
    ap (λ (l : List Row). l ++ lost side behind after) e ∙ (append_assoc old (lost side same run) (lost side behind after) ∙ (ap (λ (l : List Row). old ++ l) these ∙ before))

append_none : (xs : List Row) → xs ++ [] ≡ xs
append_none [] = refl
append_none (x ∷ xs) = ap (λ (l : List Row). x ∷ l) (append_none xs)

-- where none is left
pub lost_done : (side : ℕ) (gone rest list whole : List Row) → length gone ≡ 0 → list ++ lost side gone rest ≡ whole → list ≡ whole
lost_done side [] rest list whole none all = sym (ap (λ (l : List Row). list ++ l) (lost_none side rest) ∙ append_none list) ∙ all
lost_done side (x ∷ gone) rest list whole none all = absurd (omega (arith, none))
