-- What a stored log gains and loses at a statement gives the log after it.
use Rattle.std.proofs.Common.{◌≡◌, ◌↔◌, ◌⊎◌, inl, inr, ℕ, ◌<◌, ◌≤◌, ℤ, pos, ◌+ℤ◌, ◌-ℤ◌, ◌<ℤ◌, ◌≤ℤ◌, Bool, true, false, ◌&&◌, not, List, [], ◌∷◌, ◌++◌, length, map, refl, sym, ap, ap₂, ◌∙◌, subst, arith, if◌then◌else◌}
use Rattle.std.specs.Bool.{IsTrue}
use Rattle.std.specs.Cmp.{signed_Decides}
use Rattle.std.specs.List.{filter}
use Rattle.std.specs.Ordering.{int_eq}
use Rattle.std.proofs.Math.Bool.{and-false}
use Rattle.std.proofs.lemmas.Bool.{true≢false, and_parts, and_from, not-true, not_from_false, false_from_ne_true, both_ways}
use Rattle.std.proofs.lemmas.Int.{ints}
use Rattle.std.proofs.lemmas.List.{length-set}
use Rattle.base_core.specs.Sets.{has}
use Rattle.base_core.proofs.IntLemmas.{le_itself}
use Rattle.base_core.proofs.ListLemmas.{All-In}
use Rattle.base_core.proofs.MemberLemmas.{In-append, In-map, In-filter, list_any-In, has-In}
use Rattle.base_core.proofs.SetLemmas.{In, Ascends, In-in_order, Ascends-in_order, same_by_members}
use Rattle.base_core.proofs.SetOperatorLemmas.{same_tests, In-union_of, In-difference_of, Ascends-union_of, Ascends-difference_of}
use Rattle.interval_core.specs.Members.{Span, at_point}
use Rattle.point_core.specs.Points.{integers}
use Rattle.value_core.specs.Attributes.{value_at, with_span, put_span}
use Rattle.value_core.specs.Order.{row_total, row_separates}
use Rattle.value_core.specs.Values.{Row, interval, row_cmp, rows_of}
use Rattle.relation_core.specs.Operators.{united}
use Rattle.log_times.specs.Logs.{stamped, unstamped, statements, goes_on, prolonged, stood_at, moved, open_end, is_standing, standing, closed_row, closed, IsStoredRow, IsStored}
use Rattle.log_times.specs.Turns.{begun, goes, lost, gained, exchanged, IsExact, IsTurned}
use Rattle.log_times.proofs.OrderLemmas.{all_In, less_is_le, closed_ascends}
use Rattle.log_times.proofs.RowLemmas.{unstamped-stamped, value-stamped, length-stamped, put-put, put-stamped, statements-stamped, line-put, statements-put, stands, int_eq-false, has_ended, closed-standing, closed-ended, unstamped-closed}

-- ---- sets of rows

pub has_In : (xs : List Row) (x : Row) → IsTrue (has row_cmp xs x) ↔ In x xs
has_In xs x = has-In row_cmp row_total row_separates xs x

has_not : (xs : List Row) (x : Row) → (In x xs → ⊥) → has row_cmp xs x ≡ false
has_not xs x n = false_from_ne_true (has row_cmp xs x) (λ e. n ((has_In xs x).0 e))

not_In : (xs : List Row) (x : Row) → has row_cmp xs x ≡ false → In x xs → ⊥
not_In xs x f i = both_ways (has row_cmp xs x) f ((has_In xs x).1 i)

pub one_set : (xs ys : List Row) → Ascends row_cmp xs → Ascends row_cmp ys → ((x : Row) → In x xs ↔ In x ys) → xs ≡ ys
one_set xs ys a b h = same_by_members row_cmp row_total row_separates xs ys a b h

pub rows_ascend : (xs : List Row) → Ascends row_cmp (rows_of xs)
rows_ascend xs = Ascends-in_order row_cmp row_total row_separates xs

In_rows : (x : Row) (xs : List Row) → In x (rows_of xs) ↔ In x xs
In_rows x xs = In-in_order row_cmp row_total row_separates x xs

exchanged_ascends : (rows come gone : List Row) → Ascends row_cmp (exchanged rows come gone)
exchanged_ascends rows come gone = Ascends-difference_of row_cmp row_total row_separates (united rows come) gone (Ascends-union_of row_cmp row_total row_separates rows come)

In_exchanged : (rows come gone : List Row) (x : Row) → In x (exchanged rows come gone) ↔ ((In x rows ⊎ In x come) × (In x gone → ⊥))
In_exchanged rows come gone x =
    let d = In-difference_of row_cmp row_total row_separates x (united rows come) gone in
    let u = In-union_of row_cmp row_total row_separates x rows come in
    (λ h. let k = d.0 h in (u.0 k.0, k.1), λ h. d.1 (u.1 h.0, h.1))

-- nothing comes or goes
pub exchanged_none : (rows : List Row) → Ascends row_cmp rows → exchanged rows [] [] ≡ rows
exchanged_none rows up = one_set (exchanged rows [] []) rows (exchanged_ascends rows [] []) up (λ x.
    let e = In_exchanged rows [] [] x in
    (λ h. elim (e.0 h).0 [ inl i ↦ i | inr i ↦ absurd i ], λ i. e.1 (inl i, λ g. g)))

-- all come
pub exchanged_all : (rows : List Row) → Ascends row_cmp rows → exchanged [] rows [] ≡ rows
exchanged_all rows up = one_set (exchanged [] rows []) rows (exchanged_ascends [] rows []) up (λ x.
    let e = In_exchanged [] rows [] x in
    (λ h. elim (e.0 h).0 [ inl i ↦ absurd i | inr i ↦ i ], λ i. e.1 (inr i, λ g. g)))

-- ---- the words of a log, by members

abbrev StandsAs : ℕ → List Row → Row → Type 0
StandsAs side rows x = (r : Row) × In r rows × IsTrue (is_standing side r) × (x ≡ unstamped side r)

pub In_standing : (side : ℕ) (rows : List Row) (x : Row) → In x (standing side rows) ↔ StandsAs side rows x
In_standing side rows x = (
  λ h.
      let m = (In-map (unstamped side) x (filter (is_standing side) rows)).0 ((In_rows x (map (unstamped side) (filter (is_standing side) rows))).0 h) in
      let f = (In-filter (is_standing side) m.0 rows).0 m.1 in
      (m.0, f.0, f.1, m.2),
  λ h. (In_rows x (map (unstamped side) (filter (is_standing side) rows))).1 ((In-map (unstamped side) x (filter (is_standing side) rows)).1 (h.0, (In-filter (is_standing side) h.0 rows).1 (h.1, h.2), h.3)),
)

abbrev IsProlonged : ℕ → ℤ → List Row → List Row → Row → Type 0
IsProlonged side n now log y = (r : Row) × In r log × (y ≡ prolonged side n now r)

abbrev IsNew : ℕ → ℤ → List Row → List Row → Row → Type 0
IsNew side n now log y = (x : Row) × In x now × (stood_at side (n -ℤ pos 1) log x ≡ false) × (y ≡ stamped side (at_point n) x)

In_moved : (side : ℕ) (n : ℤ) (now log : List Row) (y : Row) → In y (moved side n now log) ↔ (IsProlonged side n now log y ⊎ IsNew side n now log y)
In_moved side n now log y =
    let old : List Row = map (prolonged side n now) log in
    let test : Row → Bool = λ x. not (stood_at side (n -ℤ pos 1) log x) in
    let new : List Row = map (stamped side (at_point n)) (filter test now) in
    let both = In-append y old new in
    let first = In-map (prolonged side n now) y log in
    let second = In-map (stamped side (at_point n)) y (filter test now) in (
      λ h. elim (both.0 ((In_rows y (old ++ new)).0 h)) [
        | inl i ↦ inl (first.0 i)
        | inr i ↦ let m = second.0 i in let f = (In-filter test m.0 now).0 m.1 in inr (m.0, f.0, not-true (stood_at side (n -ℤ pos 1) log m.0) f.1, m.2)
      ],
      λ h. (In_rows y (old ++ new)).1 (both.1 (elim h [
        | inl k ↦ inl (first.1 k)
        | inr k ↦ inr (second.1 (k.0, (In-filter test k.0 now).1 (k.1, not_from_false (stood_at side (n -ℤ pos 1) log k.0) k.2), k.3))
      ])),
    )

moved_ascends : (side : ℕ) (n : ℤ) (now log : List Row) → Ascends row_cmp (moved side n now log)
moved_ascends side n now log = rows_ascend (map (prolonged side n now) log ++ map (stamped side (at_point n)) (filter (λ x. not (stood_at side (n -ℤ pos 1) log x)) now))

abbrev IsEnded : ℕ → ℤ → List Row → List Row → Row → Type 0
IsEnded side n gone log y = (r : Row) × In r log × IsTrue (goes side gone r) × (y ≡ closed_row side (n -ℤ pos 1) r)

abbrev IsBegun : ℕ → ℤ → List Row → Row → Type 0
IsBegun side n come y = (x : Row) × In x come × (y ≡ stamped side (n, open_end) x)

In_gained : (side : ℕ) (n : ℤ) (come gone log : List Row) (y : Row) → In y (gained side n come gone log) ↔ (IsEnded side n gone log y ⊎ IsBegun side n come y)
In_gained side n come gone log y =
    let ended : List Row = closed side (n -ℤ pos 1) (lost side gone log) in
    let both = In-append y ended (begun side n come) in
    let first = In-map (closed_row side (n -ℤ pos 1)) y (lost side gone log) in
    let second = In-map (stamped side (n, open_end)) y come in (
      λ h. elim (both.0 ((In_rows y (ended ++ begun side n come)).0 h)) [
        | inl i ↦ let m = first.0 i in let f = (In-filter (goes side gone) m.0 log).0 m.1 in inl (m.0, f.0, f.1, m.2)
        | inr i ↦ inr (second.0 i)
      ],
      λ h. (In_rows y (ended ++ begun side n come)).1 (both.1 (elim h [
        | inl k ↦ inl (first.1 (k.0, (In-filter (goes side gone) k.0 log).1 (k.1, k.2), k.3))
        | inr k ↦ inr (second.1 k)
      ])),
    )

-- ---- numbers

before_itself : (a b : ℤ) → a ≡ b → a <ℤ b → ⊥
before_itself a b e l = absurd (omega (arith, ints, e, l))

not_before : (n : ℤ) → n ≤ℤ (n -ℤ pos 1) → ⊥
not_before n l = absurd (omega (arith, ints, l))

one_less : (n m : ℤ) → n <ℤ m → (n -ℤ pos 1) <ℤ m
one_less n m l = omega (arith, ints, l)

up_to : (a n : ℤ) → a ≤ℤ (n -ℤ pos 1) → a ≤ℤ n
up_to a n l = omega (arith, ints, l)

below_next : (a n : ℤ) → a <ℤ (n -ℤ pos 1) → a <ℤ n
below_next a n l = omega (arith, ints, l)

prior_below : (n : ℤ) → (n -ℤ pos 1) <ℤ n
prior_below n = omega (arith, ints)

-- ---- one stored row

module _ (side : ℕ) (n : ℤ) (below : n <ℤ open_end) (r : Row) (s : IsStoredRow side (n -ℤ pos 1) r) where
  -- it is stored still, if it is not touched
  later_stored : IsStoredRow side n r
  later_stored = record {
    interval = s.interval;
    begun = up_to (statements side r).0 n s.begun;
    ended = λ f. below_next (statements side r).1 n (s.ended f);
  }

  -- where it stands and its row goes, it ends
  module _ (stood : is_standing side r ≡ true) where
    end_row : closed_row side (n -ℤ pos 1) r ≡ put_span r side ((statements side r).0, (n -ℤ pos 1))
    end_row = closed-standing side (n -ℤ pos 1) r stood

    end_statements : statements side (closed_row side (n -ℤ pos 1) r) ≡ ((statements side r).0, (n -ℤ pos 1))
    end_statements = ap (statements side) end_row ∙ statements-put side ((statements side r).0, (n -ℤ pos 1)) r s.interval.line

    end_end : (statements side (closed_row side (n -ℤ pos 1) r)).1 ≡ (n -ℤ pos 1)
    end_end = ap (λ (i : Span). i.1) end_statements

    end_not : is_standing side (closed_row side (n -ℤ pos 1) r) ≡ false
    end_not = has_ended side (closed_row side (n -ℤ pos 1) r) (subst (λ e. e <ℤ open_end) (sym end_end) (one_less n open_end below))

    end_stored : IsStoredRow side n (closed_row side (n -ℤ pos 1) r)
    end_stored =
        let i : Span = ((statements side r).0, (n -ℤ pos 1)) in
        let y : Row = put_span r side i in
        let line : value_at y side ≡ interval integers i = line-put side i r s.interval.line in
        let same : statements side y ≡ i = statements-put side i r s.interval.line in
        let put : IsStoredRow side n y = record {
          interval = record {
            within = subst (λ k. side < k) (sym (length-set r side (with_span (value_at r side) i))) s.interval.within;
            line = line ∙ ap (interval integers) (sym same);
            ordered = subst (λ (j : Span). j.0 ≤ℤ j.1) (sym same) s.begun;
          };
          begun = subst (λ (j : Span). j.0 ≤ℤ n) (sym same) (up_to (statements side r).0 n s.begun);
          ended = λ f. subst (λ (j : Span). j.1 <ℤ n) (sym same) (prior_below n);
        } in
        subst (IsStoredRow side n) (sym end_row) put

  -- the statement before it did not end it, if it does not stand
  old_end : is_standing side r ≡ false → int_eq (statements side r).1 (n -ℤ pos 1) ≡ false
  old_end f = int_eq-false (statements side r).1 (n -ℤ pos 1) (λ e. before_itself (statements side r).1 (n -ℤ pos 1) e (s.ended f))

  -- ---- the same row in the log, at the next statement

  module _ (now : List Row) where
    is_prolonged : goes_on side (n -ℤ pos 1) now (closed_row side (n -ℤ pos 1) r) ≡ true
        → prolonged side n now (closed_row side (n -ℤ pos 1) r) ≡ put_span (closed_row side (n -ℤ pos 1) r) side ((statements side (closed_row side (n -ℤ pos 1) r)).0, n)
    is_prolonged h = ap (λ b. if b then put_span (closed_row side (n -ℤ pos 1) r) side ((statements side (closed_row side (n -ℤ pos 1) r)).0, n) else closed_row side (n -ℤ pos 1) r) h

    is_left : goes_on side (n -ℤ pos 1) now (closed_row side (n -ℤ pos 1) r) ≡ false → prolonged side n now (closed_row side (n -ℤ pos 1) r) ≡ closed_row side (n -ℤ pos 1) r
    is_left h = ap (λ b. if b then put_span (closed_row side (n -ℤ pos 1) r) side ((statements side (closed_row side (n -ℤ pos 1) r)).0, n) else closed_row side (n -ℤ pos 1) r) h

    -- it stands, and its row is still there
    stays : is_standing side r ≡ true → has row_cmp now (unstamped side r) ≡ true → prolonged side n now (closed_row side (n -ℤ pos 1) r) ≡ closed_row side n r
    stays stood there =
        let y : Row = closed_row side (n -ℤ pos 1) r in
        let rest : has row_cmp now (unstamped side y) ≡ true = ap (has row_cmp now) (unstamped-closed side (n -ℤ pos 1) r) ∙ there in
        let end : int_eq (statements side y).1 (n -ℤ pos 1) ≡ true = (signed_Decides (statements side y).1 (n -ℤ pos 1)).1 (end_end stood) in
        let on : goes_on side (n -ℤ pos 1) now y ≡ true = and_from (int_eq (statements side y).1 (n -ℤ pos 1)) (has row_cmp now (unstamped side y)) end rest in
        let begin : (statements side y).0 ≡ (statements side r).0 = ap (λ (i : Span). i.0) (end_statements stood) in
        is_prolonged on ∙ (ap₂ (λ (z : Row) b. put_span z side (b, n)) (end_row stood) begin ∙ (put-put side ((statements side r).0, (n -ℤ pos 1)) ((statements side r).0, n) r ∙ sym (closed-standing side n r stood)))

    -- its row is not there
    ends : has row_cmp now (unstamped side r) ≡ false → prolonged side n now (closed_row side (n -ℤ pos 1) r) ≡ closed_row side (n -ℤ pos 1) r
    ends none =
        let y : Row = closed_row side (n -ℤ pos 1) r in
        let rest : has row_cmp now (unstamped side y) ≡ false = ap (has row_cmp now) (unstamped-closed side (n -ℤ pos 1) r) ∙ none in
        is_left (ap (λ b. int_eq (statements side y).1 (n -ℤ pos 1) && b) rest ∙ and-false (int_eq (statements side y).1 (n -ℤ pos 1)))

    -- it has ended
    stays_ended : is_standing side r ≡ false → prolonged side n now (closed_row side (n -ℤ pos 1) r) ≡ closed_row side (n -ℤ pos 1) r
    stays_ended f =
        let y : Row = closed_row side (n -ℤ pos 1) r in
        let end : int_eq (statements side y).1 (n -ℤ pos 1) ≡ false = ap (λ (z : Row). int_eq (statements side z).1 (n -ℤ pos 1)) (closed-ended side (n -ℤ pos 1) r f) ∙ old_end f in
        is_left (ap (λ b. b && has row_cmp now (unstamped side y)) end)

-- ---- a row that comes

module _ (side : ℕ) (n : ℤ) (below : n <ℤ open_end) (x : Row) (long : side ≤ length x) where
  begin_stands : is_standing side (stamped side (n, open_end) x) ≡ true
  begin_stands = stands side (stamped side (n, open_end) x) (ap (λ (i : Span). i.1) (statements-stamped side (n, open_end) x long))

  begin_closed : closed_row side n (stamped side (n, open_end) x) ≡ stamped side (at_point n) x
  begin_closed =
      let y : Row = stamped side (n, open_end) x in
      let begin : (statements side y).0 ≡ n = ap (λ (i : Span). i.0) (statements-stamped side (n, open_end) x long) in
      closed-standing side n y begin_stands ∙ (ap (λ b. put_span y side (b, n)) begin ∙ put-stamped side (n, open_end) (n, n) x long)

  begin_stored : IsStoredRow side n (stamped side (n, open_end) x)
  begin_stored =
      let y : Row = stamped side (n, open_end) x in
      let same : statements side y ≡ (n, open_end) = statements-stamped side (n, open_end) x long in
      record {
        interval = record {
          within = subst (λ k. side < k) (sym (length-stamped side (n, open_end) x)) (omega (arith, long));
          line = value-stamped side (n, open_end) x long ∙ ap (interval integers) (sym same);
          ordered = subst (λ (j : Span). j.0 ≤ℤ j.1) (sym same) (less_is_le n open_end below);
        };
        begun = subst (λ (j : Span). j.0 ≤ℤ n) (sym same) (le_itself n);
        ended = λ f. absurd (both_ways (is_standing side y) f begin_stands);
      }

-- ---- one statement

module _ (side : ℕ) (n : ℤ) (come gone log : List Row) (stored : IsStored side (n -ℤ pos 1) log) (below : n <ℤ open_end) (long : (x : Row) → In x come → side ≤ length x) where
  stored_at : (r : Row) → In r log → IsStoredRow side (n -ℤ pos 1) r
  stored_at = all_In (IsStoredRow side (n -ℤ pos 1)) log stored.rows

  goes_parts : (r : Row) → IsTrue (goes side gone r) → (is_standing side r ≡ true) × (has row_cmp gone (unstamped side r) ≡ true)
  goes_parts r g = and_parts (is_standing side r) (has row_cmp gone (unstamped side r)) g

  -- what it gains is not there
  gained_new : (y : Row) → In y (gained side n come gone log) → In y log → ⊥
  gained_new y g i =
      let s = stored_at y i in
      elim ((In_gained side n come gone log y).0 g) [
        | inl k ↦
            let stood = (goes_parts k.0 k.2).0 in
            let t = stored_at k.0 k.1 in
            let end : (statements side y).1 ≡ (n -ℤ pos 1) = ap (λ (z : Row). (statements side z).1) k.3 ∙ end_end side n below k.0 t stood in
            let over : is_standing side y ≡ false = ap (is_standing side) k.3 ∙ end_not side n below k.0 t stood in
            before_itself (statements side y).1 (n -ℤ pos 1) end (s.ended over)
        | inr k ↦
            let begin : (statements side y).0 ≡ n = ap (λ (z : Row). (statements side z).0) k.2 ∙ ap (λ (i : Span). i.0) (statements-stamped side (n, open_end) k.0 (long k.0 k.1)) in
            not_before n (subst (λ b. b ≤ℤ (n -ℤ pos 1)) begin s.begun)
      ]

  pub turn_exact : IsExact log (gained side n come gone log) (lost side gone log)
  turn_exact = record {
    new = λ x h. has_not log x (gained_new x ((has_In (gained side n come gone log) x).0 h));
    there = λ x h. (has_In log x).1 ((In-filter (goes side gone) x log).0 ((has_In (lost side gone log) x).0 h)).0;
  }

  -- a row that stays, or is gained
  abbrev Remains : Row → Type 0
  Remains y = (In y log × (goes side gone y ≡ false)) ⊎ In y (gained side n come gone log)

  In_after : (y : Row) → In y (exchanged log (gained side n come gone log) (lost side gone log)) ↔ Remains y
  In_after y =
      let e = In_exchanged log (gained side n come gone log) (lost side gone log) y in
      let f = In-filter (goes side gone) y log in (
        λ h. let k = e.0 h in elim k.0 [ inl i ↦ inl (i, false_from_ne_true (goes side gone y) (λ t. k.1 (f.1 (i, t)))) | inr g ↦ inr g ],
        λ h. elim h [
          | inl k ↦ e.1 (inl k.0, λ l. both_ways (goes side gone y) k.1 (f.0 l).1)
          | inr g ↦ e.1 (inr g, λ l. gained_new y g (f.0 l).0)
        ],
      )

  pub turn_stored : IsStored side n (exchanged log (gained side n come gone log) (lost side gone log))
  turn_stored = record {
    rows = All-In (IsStoredRow side n) (exchanged log (gained side n come gone log) (lost side gone log)) (λ y h. elim ((In_after y).0 h) [
      | inl k ↦ later_stored side n below y (stored_at y k.0)
      | inr g ↦ elim ((In_gained side n come gone log y).0 g) [
        | inl k ↦ subst (IsStoredRow side n) (sym k.3) (end_stored side n below k.0 (stored_at k.0 k.1) (goes_parts k.0 k.2).0)
        | inr k ↦ subst (IsStoredRow side n) (sym k.2) (begin_stored side n below k.0 (long k.0 k.1))
      ]
    ]);
    before = below;
  }

  module _ (exact : IsExact (standing side log) come gone) where
    In_now : (x : Row) → In x (exchanged (standing side log) come gone) ↔ ((In x (standing side log) ⊎ In x come) × (In x gone → ⊥))
    In_now x = In_exchanged (standing side log) come gone x

    -- what comes did not stand, and does not go
    come_new : (x : Row) → In x come → In x (standing side log) → ⊥
    come_new x c = not_In (standing side log) x (exact.new x ((has_In come x).1 c))

    come_stays : (x : Row) → In x come → In x gone → ⊥
    come_stays x c g = come_new x c ((has_In (standing side log) x).0 (exact.there x ((has_In gone x).1 g)))

    come_now : (x : Row) → In x come → In x (exchanged (standing side log) come gone)
    come_now x c = (In_now x).1 (inr c, come_stays x c)

    -- a row that stands: it goes, or is there afterwards
    standing_here : (r : Row) → In r log → is_standing side r ≡ true → In (unstamped side r) (standing side log)
    standing_here r i stood = (In_standing side log (unstamped side r)).1 (r, i, stood, refl)

    stays_now : (r : Row) → In r log → is_standing side r ≡ true → has row_cmp gone (unstamped side r) ≡ false → has row_cmp (exchanged (standing side log) come gone) (unstamped side r) ≡ true
    stays_now r i stood left =
        (has_In (exchanged (standing side log) come gone) (unstamped side r)).1 ((In_now (unstamped side r)).1 (inl (standing_here r i stood), not_In gone (unstamped side r) left))

    gone_now : (r : Row) → has row_cmp gone (unstamped side r) ≡ true → has row_cmp (exchanged (standing side log) come gone) (unstamped side r) ≡ false
    gone_now r g = has_not (exchanged (standing side log) come gone) (unstamped side r) (λ i. ((In_now (unstamped side r)).0 i).1 ((has_In gone (unstamped side r)).0 g))

    -- a row that does not go, though it stands
    left_rest : (r : Row) → is_standing side r ≡ true → goes side gone r ≡ false → has row_cmp gone (unstamped side r) ≡ false
    left_rest r stood f = sym (ap (λ b. b && has row_cmp gone (unstamped side r)) stood) ∙ f

    ended_goes : (r : Row) → is_standing side r ≡ false → goes side gone r ≡ false
    ended_goes r f = ap (λ b. b && has row_cmp gone (unstamped side r)) f

    rest_goes : (r : Row) → is_standing side r ≡ true → (b : Bool) → has row_cmp gone (unstamped side r) ≡ b → goes side gone r ≡ b
    rest_goes r stood b e = ap (λ t. t && has row_cmp gone (unstamped side r)) stood ∙ e

    -- ---- the rows that stand

    pub turn_standing : standing side (exchanged log (gained side n come gone log) (lost side gone log)) ≡ exchanged (standing side log) come gone
    turn_standing =
        one_set (standing side (exchanged log (gained side n come gone log) (lost side gone log))) (exchanged (standing side log) come gone)
        (rows_ascend (map (unstamped side) (filter (is_standing side) (exchanged log (gained side n come gone log) (lost side gone log)))))
        (exchanged_ascends (standing side log) come gone) (λ x. (forward x, backward x))
      where
        forward : (x : Row) → In x (standing side (exchanged log (gained side n come gone log) (lost side gone log))) → In x (exchanged (standing side log) come gone)
        forward x h =
            let w = (In_standing side (exchanged log (gained side n come gone log) (lost side gone log)) x).0 h in
            elim ((In_after w.0).0 w.1) [
              | inl k ↦
                  let left = left_rest w.0 w.2 k.1 in
                  (has_In (exchanged (standing side log) come gone) x).0 (ap (has row_cmp (exchanged (standing side log) come gone)) w.3 ∙ stays_now w.0 k.0 w.2 left)
              | inr g ↦ elim ((In_gained side n come gone log w.0).0 g) [
                | inl k ↦ absurd (both_ways (is_standing side w.0) (ap (is_standing side) k.3 ∙ end_not side n below k.0 (stored_at k.0 k.1) (goes_parts k.0 k.2).0) w.2)
                | inr k ↦
                    let same : x ≡ k.0 = w.3 ∙ (ap (unstamped side) k.2 ∙ unstamped-stamped side (n, open_end) k.0 (long k.0 k.1)) in
                    come_now x (subst (λ z. In z come) (sym same) k.1)
              ]
            ]

        backward : (x : Row) → In x (exchanged (standing side log) come gone) → In x (standing side (exchanged log (gained side n come gone log) (lost side gone log)))
        backward x h =
            let w = (In_now x).0 h in
            elim w.0 [
              | inl s ↦
                  let k = (In_standing side log x).0 s in
                  let left : has row_cmp gone (unstamped side k.0) ≡ false = has_not gone (unstamped side k.0) (λ g. w.1 (subst (λ z. In z gone) (sym k.3) g)) in
                  (In_standing side (exchanged log (gained side n come gone log) (lost side gone log)) x).1 (k.0, (In_after k.0).1 (inl (k.1, rest_goes k.0 k.2 false left)), k.2, k.3)
              | inr c ↦
                  let y : Row = stamped side (n, open_end) x in
                  (In_standing side (exchanged log (gained side n come gone log) (lost side gone log)) x).1
                  (y, (In_after y).1 (inr ((In_gained side n come gone log y).1 (inr (x, c, refl)))), begin_stands side n below x (long x c), sym (unstamped-stamped side (n, open_end) x (long x c)))
            ]

    -- ---- the log after it

    -- what stood, by the log before
    stood_before : (x : Row) → stood_at side (n -ℤ pos 1) (closed side (n -ℤ pos 1) log) x ≡ has row_cmp (standing side log) x
    stood_before x = same_tests (stood_at side (n -ℤ pos 1) (closed side (n -ℤ pos 1) log) x) (has row_cmp (standing side log) x) (forward, backward)
      where
        here : (r : Row) → In r log → (b : Bool) → is_standing side r ≡ b → IsTrue (goes_on side (n -ℤ pos 1) (x ∷ []) (closed_row side (n -ℤ pos 1) r)) → In x (standing side log)
        here r i true stood g =
            let y : Row = closed_row side (n -ℤ pos 1) r in
            let parts = and_parts (int_eq (statements side y).1 (n -ℤ pos 1)) (has row_cmp (x ∷ []) (unstamped side y)) g in
            let same : unstamped side y ≡ x = elim ((has_In (x ∷ []) (unstamped side y)).0 parts.1) [ inl e ↦ e | inr k ↦ absurd k ] in
            subst (λ z. In z (standing side log)) (sym (unstamped-closed side (n -ℤ pos 1) r) ∙ same) (standing_here r i stood)
        here r i false f g =
            let y : Row = closed_row side (n -ℤ pos 1) r in
            let parts = and_parts (int_eq (statements side y).1 (n -ℤ pos 1)) (has row_cmp (x ∷ []) (unstamped side y)) g in
            let end : int_eq (statements side y).1 (n -ℤ pos 1) ≡ false = ap (λ (z : Row). int_eq (statements side z).1 (n -ℤ pos 1)) (closed-ended side (n -ℤ pos 1) r f) ∙ old_end side n below r (stored_at r i) f in
            absurd (both_ways (int_eq (statements side y).1 (n -ℤ pos 1)) end parts.0)

        forward : IsTrue (stood_at side (n -ℤ pos 1) (closed side (n -ℤ pos 1) log) x) → IsTrue (has row_cmp (standing side log) x)
        forward e =
            let w = (list_any-In (goes_on side (n -ℤ pos 1) (x ∷ [])) (closed side (n -ℤ pos 1) log)).0 e in
            let m = (In-map (closed_row side (n -ℤ pos 1)) w.0 log).0 w.1 in
            (has_In (standing side log) x).1 (here m.0 m.1 (is_standing side m.0) refl (subst (λ z. IsTrue (goes_on side (n -ℤ pos 1) (x ∷ []) z)) m.2 w.2))

        backward : IsTrue (has row_cmp (standing side log) x) → IsTrue (stood_at side (n -ℤ pos 1) (closed side (n -ℤ pos 1) log) x)
        backward e =
            let k = (In_standing side log x).0 ((has_In (standing side log) x).0 e) in
            let y : Row = closed_row side (n -ℤ pos 1) k.0 in
            let end : int_eq (statements side y).1 (n -ℤ pos 1) ≡ true = (signed_Decides (statements side y).1 (n -ℤ pos 1)).1 (end_end side n below k.0 (stored_at k.0 k.1) k.2) in
            let rest : has row_cmp (x ∷ []) (unstamped side y) ≡ true = (has_In (x ∷ []) (unstamped side y)).1 (inl (unstamped-closed side (n -ℤ pos 1) k.0 ∙ sym k.3)) in
            (list_any-In (goes_on side (n -ℤ pos 1) (x ∷ [])) (closed side (n -ℤ pos 1) log)).1
            (y, (In-map (closed_row side (n -ℤ pos 1)) y log).1 (k.0, k.1, refl), and_from (int_eq (statements side y).1 (n -ℤ pos 1)) (has row_cmp (x ∷ []) (unstamped side y)) end rest)

    -- a row of the log before, at the next statement
    abbrev IsOld : Row → Type 0
    IsOld y = IsProlonged side n (exchanged (standing side log) come gone) (closed side (n -ℤ pos 1) log) y

    old_row : (r : Row) → In r log → (y : Row) → y ≡ prolonged side n (exchanged (standing side log) come gone) (closed_row side (n -ℤ pos 1) r) → IsOld y
    old_row r i y e = (closed_row side (n -ℤ pos 1) r, (In-map (closed_row side (n -ℤ pos 1)) (closed_row side (n -ℤ pos 1) r) log).1 (r, i, refl), e)

    -- a stored row that stays
    stays_old : (r : Row) → In r log → goes side gone r ≡ false → (b : Bool) → is_standing side r ≡ b → closed_row side n r ≡ prolonged side n (exchanged (standing side log) come gone) (closed_row side (n -ℤ pos 1) r)
    stays_old r i f true stood = sym (stays side n below r (stored_at r i) (exchanged (standing side log) come gone) stood (stays_now r i stood (left_rest r stood f)))
    stays_old r i f false over =
        closed-ended side n r over ∙ (sym (closed-ended side (n -ℤ pos 1) r over) ∙ sym (stays_ended side n below r (stored_at r i) (exchanged (standing side log) come gone) over))

    -- one that goes
    goes_old : (r : Row) → In r log → is_standing side r ≡ true → has row_cmp gone (unstamped side r) ≡ true
        → closed_row side n (closed_row side (n -ℤ pos 1) r) ≡ prolonged side n (exchanged (standing side log) come gone) (closed_row side (n -ℤ pos 1) r)
    goes_old r i stood g =
        closed-ended side n (closed_row side (n -ℤ pos 1) r) (end_not side n below r (stored_at r i) stood) ∙ sym (ends side n below r (stored_at r i) (exchanged (standing side log) come gone) (gone_now r g))

    abbrev IsClosed : Row → Type 0
    IsClosed y = (r : Row) × In r (exchanged log (gained side n come gone log) (lost side gone log)) × (y ≡ closed_row side n r)

    closed_moved : (y : Row) → IsClosed y → IsOld y ⊎ IsNew side n (exchanged (standing side log) come gone) (closed side (n -ℤ pos 1) log) y
    closed_moved y c =
        elim ((In_after c.0).0 c.1) [
          | inl k ↦ inl (old_row c.0 k.0 y (c.2 ∙ stays_old c.0 k.0 k.1 (is_standing side c.0) refl))
          | inr g ↦ elim ((In_gained side n come gone log c.0).0 g) [
            | inl k ↦ let parts = goes_parts k.0 k.2 in inl (old_row k.0 k.1 y (c.2 ∙ (ap (closed_row side n) k.3 ∙ goes_old k.0 k.1 parts.0 parts.1)))
            | inr k ↦ inr (
              k.0,
              come_now k.0 k.1,
              stood_before k.0 ∙ has_not (standing side log) k.0 (come_new k.0 k.1),
              c.2 ∙ (ap (closed_row side n) k.2 ∙ begin_closed side n below k.0 (long k.0 k.1)),
            )
          ]
        ]

    moved_old : (r : Row) → In r log → (y : Row) → y ≡ prolonged side n (exchanged (standing side log) come gone) (closed_row side (n -ℤ pos 1) r) → (b c : Bool) → is_standing side r ≡ b → has row_cmp gone (unstamped side r) ≡ c → IsClosed y
    moved_old r i y e false c over g = let f = ended_goes r over in (r, (In_after r).1 (inl (i, f)), e ∙ sym (stays_old r i f false over))
    moved_old r i y e true false stood g = let f = rest_goes r stood false g in (r, (In_after r).1 (inl (i, f)), e ∙ sym (stays_old r i f true stood))
    moved_old r i y e true true stood g =
        let z : Row = closed_row side (n -ℤ pos 1) r in
        (z, (In_after z).1 (inr ((In_gained side n come gone log z).1 (inl (r, i, rest_goes r stood true g, refl)))), e ∙ sym (goes_old r i stood g))

    moved_closed : (y : Row) → IsOld y ⊎ IsNew side n (exchanged (standing side log) come gone) (closed side (n -ℤ pos 1) log) y → IsClosed y
    moved_closed y h = elim h [
      | inl k ↦
          let m = (In-map (closed_row side (n -ℤ pos 1)) k.0 log).0 k.1 in
          moved_old m.0 m.1 y (k.2 ∙ ap (prolonged side n (exchanged (standing side log) come gone)) m.2) (is_standing side m.0) (has row_cmp gone (unstamped side m.0)) refl refl
      | inr k ↦
          let w = (In_now k.0).0 k.1 in
          let c : In k.0 come = elim w.0 [ inl s ↦ absurd (not_In (standing side log) k.0 (sym (stood_before k.0) ∙ k.2) s) | inr c ↦ c ] in
          let z : Row = stamped side (n, open_end) k.0 in
          (z, (In_after z).1 (inr ((In_gained side n come gone log z).1 (inr (k.0, c, refl)))), k.3 ∙ sym (begin_closed side n below k.0 (long k.0 c)))
    ]

    pub turn_closed : closed side n (exchanged log (gained side n come gone log) (lost side gone log)) ≡ moved side n (exchanged (standing side log) come gone) (closed side (n -ℤ pos 1) log)
    turn_closed =
        one_set (closed side n (exchanged log (gained side n come gone log) (lost side gone log))) (moved side n (exchanged (standing side log) come gone) (closed side (n -ℤ pos 1) log))
        (closed_ascends side n (exchanged log (gained side n come gone log) (lost side gone log)) turn_stored (exchanged_ascends log (gained side n come gone log) (lost side gone log))) (moved_ascends side n (exchanged (standing side log) come gone) (closed side (n -ℤ pos 1) log)) (λ y.
        let m = In-map (closed_row side n) y (exchanged log (gained side n come gone log) (lost side gone log)) in
        let v = In_moved side n (exchanged (standing side log) come gone) (closed side (n -ℤ pos 1) log) y in
        (λ h. v.1 (closed_moved y (m.0 h)), λ h. m.1 (moved_closed y (v.0 h))))

    pub turn : IsTurned side n come gone log (gained side n come gone log) (lost side gone log)
    turn = record {
      more = refl;
      less = refl;
      exact = turn_exact;
      stored = turn_stored;
      stands = turn_standing;
      reads = turn_closed;
    }

-- ---- nothing comes or goes

pub lost_none : (side : ℕ) (rows : List Row) → lost side [] rows ≡ []
lost_none side [] = refl
lost_none side (r ∷ rows) = ap (λ b. if b then r ∷ lost side [] rows else lost side [] rows) (and-false (is_standing side r)) ∙ lost_none side rows

none_exact : (rows : List Row) → IsExact rows [] []
none_exact rows = record { new = λ x h. absurd (true≢false (sym h)); there = λ x h. absurd (true≢false (sym h)) }

next_prior : (n : ℤ) → ((n +ℤ pos 1) -ℤ pos 1) ≡ n
next_prior n = omega (arith, ints)

-- after an idle statement the stored log says that the rows which stand stood once more
pub idle : (side : ℕ) (n : ℤ) (rows : List Row) → Ascends row_cmp rows → IsStored side n rows → (n +ℤ pos 1) <ℤ open_end
    → IsStored side (n +ℤ pos 1) rows × (closed side (n +ℤ pos 1) rows ≡ moved side (n +ℤ pos 1) (standing side rows) (closed side n rows))
idle side n rows up stored below =
    let m : ℤ = n +ℤ pos 1 in
    let before : IsStored side (m -ℤ pos 1) rows = subst (λ k. IsStored side k rows) (sym (next_prior n)) stored in
    let t = turn side m [] [] rows before below (λ x i. absurd i) (none_exact (standing side rows)) in
    let less : lost side [] rows ≡ [] = lost_none side rows in
    let more : gained side m [] [] rows ≡ [] = ap (λ (l : List Row). rows_of (closed side (m -ℤ pos 1) l ++ [])) less in
    let same : exchanged rows (gained side m [] [] rows) (lost side [] rows) ≡ rows = ap₂ (λ (l k : List Row). exchanged rows l k) more less ∙ exchanged_none rows up in
    let now : exchanged (standing side rows) [] [] ≡ standing side rows = exchanged_none (standing side rows) (rows_ascend (map (unstamped side) (filter (is_standing side) rows))) in (
      subst (λ l. IsStored side m l) same t.stored,
      sym (ap (closed side m) same) ∙ (t.reads ∙ ap₂ (λ (l : List Row) k. moved side m l (closed side k rows)) now (next_prior n)),
    )

-- ---- the first statement

pub record IsFirst (side : ℕ) (n : ℤ) (now rows : List Row) : Type 0 where
  pub stored : IsStored side n rows
  pub stands : standing side rows ≡ now
  pub reads : closed side n rows ≡ moved side n now []

none_stored : (side : ℕ) (n : ℤ) → n <ℤ open_end → IsStored side n []
none_stored side n below = record { rows = All-In (IsStoredRow side n) [] (λ x i. absurd i); before = below }

none_there : (rows : List Row) → IsExact [] rows []
none_there rows = record { new = λ x h. refl; there = λ x h. absurd (true≢false (sym h)) }

pub first : (side : ℕ) (n : ℤ) (now : List Row) → Ascends row_cmp now → n <ℤ open_end → ((x : Row) → In x now → side ≤ length x) → IsFirst side n now (rows_of (begun side n now))
first side n now up below long =
    let t = turn side n now [] [] (none_stored side (n -ℤ pos 1) (one_less n open_end below)) below long (none_there now) in
    let same : exchanged [] (rows_of (begun side n now)) [] ≡ rows_of (begun side n now) = exchanged_all (rows_of (begun side n now)) (rows_ascend (begun side n now)) in
    let all : exchanged [] now [] ≡ now = exchanged_all now up in
    record {
      stored = subst (λ l. IsStored side n l) same t.stored;
      stands = sym (ap (standing side) same) ∙ (t.stands ∙ all);
      reads = sym (ap (closed side n) same) ∙ (t.reads ∙ ap (λ (l : List Row). moved side n l []) all);
    }
