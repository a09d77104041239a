-- What stands in a stored log is what the log tells of its last statement.
use Rattle.std.proofs.Common.{◌≡◌, ℕ, ℤ, Bool, true, false, cond, List, [], ◌∷◌, map, filter, refl, ap, ◌∙◌, arith}
use Rattle.std.specs.List.{All}
use Rattle.std.proofs.lemmas.Bool.{false_from_ne_true}
use Rattle.std.proofs.lemmas.Int.{ints}
use Rattle.std.proofs.lemmas.List.Elements.{All-head, All-tail}
use Rattle.interval_core.specs.Members.{Span, has_member}
use Rattle.interval_core.proofs.MembersLemmas.{has_member-between}
use Rattle.value_core.specs.Values.{Row, rows_of}
use Rattle.log_times.specs.Kept.{PlainLog, log_relation, IsLog}
use Rattle.log_times.specs.Logs.{unstamped, statements, standing, is_standing, closed, closed_row, IsStoredRow}
use Rattle.log_times.specs.Told.{value_after}
use Rattle.log_times.proofs.RowLemmas.{closed-standing, closed-ended, statements-put, unstamped-closed}

module _ (side : ℕ) (n : ℤ) where
  -- whether the relvar's row was there after the statement
  abbrev is_there : Row → Bool
  is_there row = has_member (statements side row) n

  there-closed : (r : Row) (b : Bool) → IsStoredRow side n r → is_standing side r ≡ b → is_there (closed_row side n r) ≡ b
  there-closed r true is e =
      let put : statements side (closed_row side n r) ≡ ((statements side r).0, n) =
      ap (statements side) (closed-standing side n r e) ∙ statements-put side ((statements side r).0, n) r is.interval.line in
      let begun = is.begun in
      ap (λ (i : Span). has_member i n) put ∙ (has_member-between ((statements side r).0, n) n).1 (begun, omega (arith, ints))
  there-closed r false is e =
      let before = is.ended e in
      ap is_there (closed-ended side n r e)
      ∙ false_from_ne_true (is_there r) (λ h. let high = ((has_member-between (statements side r) n).0 h).1 in absurd (omega (arith, ints, before, high)))

  told-standing : (rows : List Row) → All (IsStoredRow side n) rows → map (unstamped side) (filter is_there (closed side n rows)) ≡ map (unstamped side) (filter (is_standing side) rows)
  told-standing [] all = refl
  told-standing (r ∷ rows) all =
      let c : Row = closed_row side n r in
      let there : List Row = filter is_there (closed side n rows) in
      let stand : List Row = filter (is_standing side) rows in
      let more : map (unstamped side) there ≡ map (unstamped side) stand = told-standing rows (All-tail (IsStoredRow side n) r rows all) in
      let same : is_there c ≡ is_standing side r = there-closed r (is_standing side r) (All-head (IsStoredRow side n) r rows all) refl in
      ap (λ (b : Bool). map (unstamped side) (cond b (c ∷ there) there)) same
      ∙ (elim (is_standing side r) as (λ (b : Bool). map (unstamped side) (cond b (c ∷ there) there) ≡ map (unstamped side) (cond b (r ∷ stand) stand)) [
        | true ↦ λ i. unstamped-closed side n r i ∷ more i
        | false ↦ more
      ])

pub value-standing : (l : PlainLog) → IsLog l → value_after l.side l.last (log_relation l).rows ≡ standing l.side l.stored.rows
value-standing l is = ap rows_of (told-standing l.side l.last l.stored.rows is.rows.rows)
