-- How many rows logs have where a base relvar has gained and lost rows.
--     fewer_among      a set has no more members than a list that has them all
--     moved_few      a log after one statement more has no more rows than it had, and those that came
--     turned_room      the rows of all logs then, and of each
use Rattle.std.proofs.Common.{◌≡◌, ◌⊎◌, inl, inr, ℕ, ◌+◌, ◌≤◌, ℤ, pos, ◌+ℤ◌, ◌-ℤ◌, ◌≤ℤ◌, Bool, true, false, not, cond, nat_le, List, [], ◌∷◌, ◌++◌, map, filter, length, refl, sym, ap, subst, ◌∙◌, arith, length-append}
use Rattle.std.specs.Cmp.{signed_Decides}
use Rattle.std.specs.List.{All}
use Rattle.std.specs.Ordering.{int_eq}
use Rattle.std.proofs.lemmas.Bool.{and_parts, and_from, both_ways, not-true}
use Rattle.std.proofs.lemmas.Bool.Decides.{nat_tests}
use Rattle.std.proofs.lemmas.Int.{ints}
use Rattle.std.proofs.lemmas.List.{length-map}
use Rattle.std.proofs.lemmas.List.Elements.{All-head, All-tail}
use Rattle.base_core.specs.Sets.{has}
use Rattle.base_core.proofs.MemberLemmas.{In-map, In-filter, list_any-In}
use Rattle.base_core.proofs.SetLemmas.{In, Ascends, In-in_order}
use Rattle.base_core.proofs.SetOperatorLemmas.{Ascends-filter, In-union_of, In-difference_of, Ascends-union_of, Ascends-difference_of, length-in_order}
use Rattle.interval_core.specs.Members.{at_point, has_member}
use Rattle.interval_core.proofs.MembersLemmas.{has_member-between}
use Rattle.value_core.specs.Order.{row_total, row_separates}
use Rattle.value_core.specs.Values.{Name, Row, Relation, row_cmp, rows_of, most_rows}
use Rattle.relation_core.specs.Operators.{united}
use Rattle.relation_core.proofs.FilterLemmas.{length-filter_at_most}
use Rattle.log_times.specs.Logs.{stamped, unstamped, statements, goes_on, prolonged, stood_at, moved}
use Rattle.log_times.specs.Told.{value_after}
use Rattle.log_times.specs.Turns.{exchanged}
use Rattle.log_times.proofs.OrderLemmas.{all_In}
use Rattle.log_times.proofs.TurnLemmas.{has_In, one_set, rows_ascend}
use Rattle.tree_core.specs.Relvars.{PlainRelvar, base, view, log, Entries, relvar_named}
use Rattle.meaning_core.specs.Logs.{base_rows, turned_relvar, turned_logs}
use Rattle.relvar_logs.specs.LoggedChanges.{is_log_of, logs_of, IsChangeOf, AreChanging, HasEnded}
use Rattle.relvar_logs.specs.Room.{are_each_few, log_count, rows_of_logs}
use Rattle.relvar_logs.proofs.FittingLemmas.{few_test}

-- ---- sets of rows

-- a set has no more members than a list that has them all
pub fewer_among : (xs ys : List Row) → Ascends row_cmp xs → ((x : Row) → In x xs → In x ys) → length xs ≤ length ys
fewer_among xs ys up within =
    let part : filter (has row_cmp xs) (rows_of ys) ≡ xs = one_set (filter (has row_cmp xs) (rows_of ys)) xs (Ascends-filter row_cmp (has row_cmp xs) (rows_of ys) (rows_ascend ys)) up (λ x.
    let f = In-filter (has row_cmp xs) x (rows_of ys) in
    let o = In-in_order row_cmp row_total row_separates x ys in
    (λ h. (has_In xs x).0 (f.0 h).1, λ i. f.1 (o.1 (within x i), (has_In xs x).1 i))) in
    let size = ap (λ (l : List Row). length l) part in
    let less = length-filter_at_most (has row_cmp xs) (rows_of ys) in
    let once = length-in_order row_cmp ys in
    omega (arith, size, less, once)

-- a row after some have come and others have gone was there or came
there_or_come : (rows come gone : List Row) (x : Row) → In x (exchanged rows come gone) → In x rows ⊎ In x come
there_or_come rows come gone x i =
    (In-union_of row_cmp row_total row_separates x rows come).0 ((In-difference_of row_cmp row_total row_separates x (united rows come) gone).0 i).0

-- ---- one log

module _ (side : ℕ) (last : ℤ) (rows : List Row) (ended : All (λ (row : Row). (statements side row).1 ≤ℤ last) rows) where
  -- what the log tells of its last statement stood then
  told_stood : (x : Row) → In x (value_after side last rows) → stood_at side last rows x ≡ true
  told_stood x i =
      let m = (In-map (unstamped side) x (filter (λ (row : Row). has_member (statements side row) last) rows)).0
      ((In-in_order row_cmp row_total row_separates x (map (unstamped side) (filter (λ (row : Row). has_member (statements side row) last) rows))).0 i) in
      let f = (In-filter (λ (row : Row). has_member (statements side row) last) m.0 rows).0 m.1 in
      let low : (statements side m.0).1 ≤ℤ last = all_In (λ (row : Row). (statements side row).1 ≤ℤ last) rows ended m.0 f.0 in
      let high = ((has_member-between (statements side m.0) last).0 f.1).1 in
      let end : int_eq (statements side m.0).1 last ≡ true = (signed_Decides (statements side m.0).1 last).1 (omega (arith, ints, low, high)) in
      let rest : has row_cmp (x ∷ []) (unstamped side m.0) ≡ true = (has_In (x ∷ []) (unstamped side m.0)).1 (inl (sym m.2)) in
      (list_any-In (goes_on side last (x ∷ [])) rows).1 (m.0, f.0, and_from (int_eq (statements side m.0).1 last) (has row_cmp (x ∷ []) (unstamped side m.0)) end rest)

  abbrev begins : List Row → List Row
  begins now = filter (λ x. not (stood_at side ((last +ℤ pos 1) -ℤ pos 1) rows x)) now

  begins_come : (now come : List Row) → ((x : Row) → In x now → In x (value_after side last rows) ⊎ In x come) → (x : Row) → In x (begins now) → In x come
  begins_come now come either x i =
      let f = (In-filter (λ x. not (stood_at side ((last +ℤ pos 1) -ℤ pos 1) rows x)) x now).0 i in
      let prior : ((last +ℤ pos 1) -ℤ pos 1) ≡ last = omega (arith, ints) in
      let gone : stood_at side last rows x ≡ false = ap (λ (k : ℤ). stood_at side k rows x) (sym prior) ∙ not-true (stood_at side ((last +ℤ pos 1) -ℤ pos 1) rows x) f.1 in
      elim (either x f.0) [
        | inl told ↦ absurd (both_ways (stood_at side last rows x) gone (told_stood x told))
        | inr came ↦ came
      ]

  pub moved_few : (now come : List Row) → Ascends row_cmp now → ((x : Row) → In x now → In x (value_after side last rows) ⊎ In x come) → length (moved side (last +ℤ pos 1) now rows) ≤ length rows + length come
  moved_few now come up either =
      let old : List Row = map (prolonged side (last +ℤ pos 1) now) rows in
      let new : List Row = map (stamped side (at_point (last +ℤ pos 1))) (begins now) in
      let once = length-in_order row_cmp (old ++ new) in
      let both = length-append old new in
      let kept = length-map rows (prolonged side (last +ℤ pos 1) now) in
      let begun = length-map (begins now) (stamped side (at_point (last +ℤ pos 1))) in
      let few = fewer_among (begins now) come (Ascends-filter row_cmp (λ x. not (stood_at side ((last +ℤ pos 1) -ℤ pos 1) rows x)) now up) (begins_come now come either) in
      omega (arith, once, both, kept, begun, few)

-- ---- one entry

module _ (n : ℤ) (all : Entries) (name : Name) (come gone : Relation) where
  -- an entry that is no log of the name has no more rows
  stays_few : (r : PlainRelvar) → IsChangeOf n all name come gone r → HasEnded r → is_log_of name r ≡ false → log_count (turned_relvar all r) ≤ log_count r
  stays_few (base value constraints) is ended other = omega arith
  stays_few (view t kind) is ended other = omega arith
  stays_few (log of side last value) is ended other =
      let same : value_after side last value.rows ≡ base_rows (relvar_named all of) = (is.1 other).1 in
      let more = moved_few side last value.rows ended (base_rows (relvar_named all of)) []
      (subst (Ascends row_cmp) same (rows_ascend (map (unstamped side) (filter (λ (row : Row). has_member (statements side row) last) value.rows))))
      (λ x i. inl (subst (In x) (sym same) i)) in
      omega (arith, more)

  -- the log of the name has at most those rows more that came, and no more than it may have
  changes_few : (r : PlainRelvar) → IsChangeOf n all name come gone r → HasEnded r → is_log_of name r ≡ true → (log_count (turned_relvar all r) ≤ log_count r + length come.rows) × (log_count (turned_relvar all r) ≤ most_rows)
  changes_few (base value constraints) is ended own = absurd (cc)
  changes_few (view t kind) is ended own = absurd (cc)
  changes_few (log of side last value) is ended own =
      let change = is.0 own in
      let before : List Row = value_after side last value.rows in
      let same : base_rows (relvar_named all of) ≡ exchanged (value_after side last value.rows) come.rows gone.rows = change.changed in
      let more = moved_few side last value.rows ended (base_rows (relvar_named all of)) come.rows
      (subst (Ascends row_cmp) (sym same) (Ascends-difference_of row_cmp row_total row_separates (united before come.rows) gone.rows (Ascends-union_of row_cmp row_total row_separates before come.rows)))
      (λ x i. there_or_come before come.rows gone.rows x (subst (In x) same i)) in
      let few = change.few in
      (more, omega (arith, more, few))

  -- ---- all entries

  abbrev turned : Entries → Entries
  turned es = map (λ r. (r.0, turned_relvar all r.1)) es

  none_more : (es : Entries) → AreChanging n all name come gone es → All (λ r. HasEnded r.1) es → length (logs_of name es) ≤ 0 → rows_of_logs (turned es) ≤ rows_of_logs es
  none_more [] are ended none = omega arith
  none_more (e ∷ es) are ended none =
      by (is_log_of name e.1) refl (none_more es (All-tail (λ r. IsChangeOf n all name come gone r.1) e es are) (All-tail (λ r. HasEnded r.1) e es ended)) none
    where
      by : (b : Bool) → is_log_of name e.1 ≡ b → (length (logs_of name es) ≤ 0 → rows_of_logs (turned es) ≤ rows_of_logs es) → length (cond b (e ∷ logs_of name es) (logs_of name es)) ≤ 0
          → rows_of_logs (turned (e ∷ es)) ≤ rows_of_logs (e ∷ es)
      by true q rest l = absurd (omega (arith, l))
      by false q rest l =
          let one = stays_few e.1 (All-head (λ r. IsChangeOf n all name come gone r.1) e es are) (All-head (λ r. HasEnded r.1) e es ended) q in
          let more = rest l in
          omega (arith, one, more)

  once_more : (es : Entries) → AreChanging n all name come gone es → All (λ r. HasEnded r.1) es → length (logs_of name es) ≤ 1 → rows_of_logs (turned es) ≤ rows_of_logs es + length come.rows
  once_more [] are ended once = omega arith
  once_more (e ∷ es) are ended once =
      let left = All-tail (λ r. IsChangeOf n all name come gone r.1) e es are in
      let past = All-tail (λ r. HasEnded r.1) e es ended in
      by (is_log_of name e.1) refl (none_more es left past) (once_more es left past) once
    where
      by : (b : Bool) → is_log_of name e.1 ≡ b → (length (logs_of name es) ≤ 0 → rows_of_logs (turned es) ≤ rows_of_logs es)
          → (length (logs_of name es) ≤ 1 → rows_of_logs (turned es) ≤ rows_of_logs es + length come.rows) → length (cond b (e ∷ logs_of name es) (logs_of name es)) ≤ 1
          → rows_of_logs (turned (e ∷ es)) ≤ rows_of_logs (e ∷ es) + length come.rows
      by true q none rest l =
          let one = (changes_few e.1 (All-head (λ r. IsChangeOf n all name come gone r.1) e es are) (All-head (λ r. HasEnded r.1) e es ended) q).0 in
          let more = none (omega (arith, l)) in
          omega (arith, one, more)
      by false q none rest l =
          let one = stays_few e.1 (All-head (λ r. IsChangeOf n all name come gone r.1) e es are) (All-head (λ r. HasEnded r.1) e es ended) q in
          let more = rest l in
          omega (arith, one, more)

  test_few : (k : ℕ) → nat_le k most_rows ≡ true → k ≤ most_rows
  test_few k e = grind (arith, nat_tests)

  each_few : (es : Entries) → AreChanging n all name come gone es → All (λ r. HasEnded r.1) es → are_each_few es ≡ true → are_each_few (turned es) ≡ true
  each_few [] are ended few = refl
  each_few (e ∷ es) are ended few =
      let parts = and_parts (nat_le (log_count e.1) most_rows) (are_each_few es) few in
      let before : log_count e.1 ≤ most_rows = test_few (log_count e.1) parts.0 in
      let more = each_few es (All-tail (λ r. IsChangeOf n all name come gone r.1) e es are) (All-tail (λ r. HasEnded r.1) e es ended) parts.1 in
      and_from (nat_le (log_count (turned_relvar all e.1)) most_rows) (are_each_few (turned es)) (few_test (log_count (turned_relvar all e.1)) (by (is_log_of name e.1) refl before)) more
    where
      by : (b : Bool) → is_log_of name e.1 ≡ b → log_count e.1 ≤ most_rows → log_count (turned_relvar all e.1) ≤ most_rows
      by true q l = (changes_few e.1 (All-head (λ r. IsChangeOf n all name come gone r.1) e es are) (All-head (λ r. HasEnded r.1) e es ended) q).1
      by false q l =
          let one = stays_few e.1 (All-head (λ r. IsChangeOf n all name come gone r.1) e es are) (All-head (λ r. HasEnded r.1) e es ended) q in
          omega (arith, one, l)

-- the relvar of the name has its new value, and no log is turned yet: the rows of all logs when they are, and whether each has few enough
pub turned_room : (n : ℤ) (es : Entries) (name : Name) (come gone : Relation) → AreChanging n es name come gone es → length (logs_of name es) ≤ 1 → All (λ r. HasEnded r.1) es → are_each_few es ≡ true
    → (rows_of_logs (turned_logs es) ≤ rows_of_logs es + length come.rows) × (are_each_few (turned_logs es) ≡ true)
turned_room n es name come gone are once ended few = (once_more n es name come gone es are ended once, each_few n es name come gone es are ended few)
