-- A log whose relvar gained and lost rows, and one that is brought to a statement.
--     exact_standing      rows that come are not among those that stand, and rows that go are
--     changed_after      the log that tells of them
--     changed_turned, changed_step      it is the log after one statement more
--     brought_now, brought_before      a log that stays, and one that is there already
--     same_brought      an entry that is no log
--     rows_counted      how many rows a log has, each of which ended by its last statement
use Rattle.std.proofs.Common.{◌≡◌, inl, inr, ℕ, ℤ, pos, ◌+ℤ◌, ◌-ℤ◌, ◌<ℤ◌, ◌≤ℤ◌, Bool, true, false, List, length, refl, sym, ap, subst, ◌∙◌, arith}
use Rattle.std.proofs.lemmas.Int.{ints}
use Rattle.std.proofs.lemmas.List.{length-map}
use Rattle.base_core.proofs.ListLemmas.{All-In}
use Rattle.base_core.proofs.MemberLemmas.{In-map}
use Rattle.value_core.specs.Values.{Name, Row, Relation, IsRelation}
use Rattle.log_times.specs.Kept.{PlainLog, log_relation, IsLog}
use Rattle.log_times.specs.Logs.{statements, standing, is_standing, closed, closed_row, open_end, IsStoredRow}
use Rattle.log_times.specs.Told.{value_after}
use Rattle.log_times.specs.Turns.{exchanged, IsExact}
use Rattle.log_times.proofs.OrderLemmas.{all_In}
use Rattle.log_times.proofs.RowLemmas.{closed-standing, closed-ended, statements-put}
use Rattle.log_turns.specs.Turned.{IsAfter}
use Rattle.log_turns.proofs.ValueLemmas.{value-standing}
use Rattle.tree_core.specs.Relvars.{PlainRelvar, log, Entries}
use Rattle.meaning_core.specs.Logs.{turned_relvar, IsInStep}
use Rattle.relvar_logs.specs.Fitting.{IsCounted}
use Rattle.relvar_logs.specs.LoggedChanges.{IsChanging}
use Rattle.relvar_logs.specs.Passed.{IsBrought, IsChanged, IsOnTheWay}
use Rattle.relvar_logs.specs.Turning.{IsReadyLog}
use Rattle.relvar_logs.proofs.NextLemmas.{ready_log}
use Rattle.relvar_logs.proofs.TurningLemmas.{idle_turned, idle_step}

-- ---- rows that are gained and lost

pub exact_standing : (l : PlainLog) (come gone : List Row) → IsLog l → IsExact (value_after l.side l.last (log_relation l).rows) come gone → IsExact (standing l.side l.stored.rows) come gone
exact_standing l come gone is exact = subst (λ (rows : List Row). IsExact rows come gone) (value-standing l is) exact

pub changed_after : (l t : PlainLog) (come gone : Relation) (n : ℤ) → IsLog l → IsLog t → IsAfter l (record { heading = come.heading; rows = exchanged (standing l.side l.stored.rows) come.rows gone.rows }) n t
    → IsChanged l come gone n t
changed_after l t come gone n was is after = record {
  after = subst (λ (v : List Row). IsAfter l (record { heading = come.heading; rows = exchanged v come.rows gone.rows }) n t) (sym (value-standing l was)) after;
  is = is;
}

module _ (n : ℤ) (all : Entries) (come gone : Relation) (of : Name) (l t : PlainLog) (changing : IsChanging (n -ℤ pos 1) all come gone of l.side l.last (log_relation l)) (changed : IsChanged l come gone n t) where
  back : ((n -ℤ pos 1) +ℤ pos 1) ≡ n
  back = omega (arith, ints)

  ready : IsReadyLog (n -ℤ pos 1) all (log of l.side l.last (log_relation l)) (log of t.side t.last (log_relation t))
  ready =
      let now : Relation = record { heading = come.heading; rows = exchanged (value_after l.side l.last (log_relation l).rows) come.rows gone.rows } in
      ready_log (n -ℤ pos 1) all of l changing.last_is now t changing.changed (subst (λ (k : ℤ). IsAfter l now k t) (sym back) changed.after) changed.is

  pub changed_turned : log of t.side t.last (log_relation t) ≡ turned_relvar all (log of l.side l.last (log_relation l))
  changed_turned = ready.is

  pub changed_step : IsInStep n all (log of t.side t.last (log_relation t))
  changed_step = subst (λ (k : ℤ). IsInStep k all (log of t.side t.last (log_relation t))) back ready.step

-- ---- a log that is brought to a statement

module _ (n : ℤ) (all : Entries) (of : Name) (before : PlainRelvar) (l : PlainLog) (way : IsOnTheWay n all before (log of l.side l.last (log_relation l))) where
  -- its relvar stays
  pub brought_now : IsLog l → IsRelation l.stored → n <ℤ open_end → l.last <ℤ n → (t : PlainLog) → t ≡ record { side = l.side; last = n; stored = l.stored } → IsBrought n all before (log of t.side t.last (log_relation t))
  brought_now is relation below less t same = elim way [
    | inl h ↦
        let step : IsInStep (n -ℤ pos 1) all (log of l.side l.last (log_relation l)) = subst (IsInStep (n -ℤ pos 1) all) (sym h.0) h.1 in
        record {
          is = ap (λ (k : PlainLog). log of k.side k.last (log_relation k)) same ∙ (idle_turned all of l n is relation below step ∙ ap (turned_relvar all) h.0);
          step = subst (λ (k : PlainLog). IsInStep n all (log of k.side k.last (log_relation k))) (sym same) (idle_step all of l n is relation below step);
        }
    | inr h ↦ let last : l.last ≡ n = h.step.0 in absurd (omega (arith, ints, less, last))
  ]

  -- it is there already
  pub brought_before : (l.last <ℤ n → ⊥) → IsBrought n all before (log of l.side l.last (log_relation l))
  brought_before late = elim way [
    | inl h ↦
        let step : IsInStep (n -ℤ pos 1) all (log of l.side l.last (log_relation l)) = subst (IsInStep (n -ℤ pos 1) all) (sym h.0) h.1 in
        let last : l.last ≡ (n -ℤ pos 1) = step.0 in
        absurd (late (omega (arith, ints, last)))
    | inr h ↦ h
  ]

pub same_brought : (n : ℤ) (all : Entries) (before r : PlainRelvar) → turned_relvar all r ≡ r → IsInStep n all r → IsOnTheWay n all before r → IsBrought n all before r
same_brought n all before r same step way = elim way [
  | inl h ↦ record { is = sym same ∙ ap (turned_relvar all) h.0; step = step }
  | inr h ↦ h
]

-- ---- how many rows it has

closed_by : (side : ℕ) (n : ℤ) (r : Row) (b : Bool) → IsStoredRow side n r → is_standing side r ≡ b → (statements side (closed_row side n r)).1 ≤ℤ n
closed_by side n r true is e =
    let end : (statements side (closed_row side n r)).1 ≡ n =
    ap (λ (x : Row). (statements side x).1) (closed-standing side n r e) ∙ ap (λ i. i.1) (statements-put side ((statements side r).0, n) r is.interval.line) in
    omega (arith, ints, end)
closed_by side n r false is e =
    let same : (statements side (closed_row side n r)).1 ≡ (statements side r).1 = ap (λ (x : Row). (statements side x).1) (closed-ended side n r e) in
    let before = is.ended e in
    omega (arith, ints, same, before)

pub rows_counted : (of : Name) (l : PlainLog) (count : ℕ) → IsLog l → IsRelation l.stored → count ≡ length l.stored.rows → IsCounted count (log of l.side l.last (log_relation l))
rows_counted of l count is relation e =
    let few = relation.few in
    record {
      is = e ∙ sym (length-map l.stored.rows (closed_row l.side l.last));
      few = omega (arith, e, few);
      ended = All-In (λ (row : Row). (statements l.side row).1 ≤ℤ l.last) (closed l.side l.last l.stored.rows) (λ y i.
          let m = (In-map (closed_row l.side l.last) y l.stored.rows).0 i in
          subst (λ (z : Row). (statements l.side z).1 ≤ℤ l.last) (sym m.2)
          (closed_by l.side l.last m.0 (is_standing l.side m.0) (all_In (IsStoredRow l.side l.last) l.stored.rows is.rows.rows m.0 m.1) refl));
    }
