-- What a log's turn answers.
--     left_refused      rows without those that go are no more
--     exact_as, turn_answer      what a stored log gains and loses, where they are the differences of two values of its relvar
use Rattle.std.proofs.Common.{◌≡◌, ℕ, ◌≤◌, ℤ, pos, ◌-ℤ◌, ◌<ℤ◌, List, ◌++◌, length, refl, sym, ap, ap₂, ◌∙◌, subst, arith, Result, Ok, Err, MatchResult}
use Rattle.std.proofs.lemmas.List.{length-map}
use Rattle.base_core.proofs.SetLemmas.{Ascends, Ascends-from_sorted}
use Rattle.point_core.specs.Whole.{least_whole}
use Rattle.value_core.specs.Values.{Row, Relation, IsRelation, row_cmp, most_rows}
use Rattle.value_core.specs.declared.refuse.RowsRefuse.{RowsRefuse}
use Rattle.value_core.specs.declared.refuse.RowsRefuse.TheVariants.{TooMany, Memory}
use Rattle.relation_core.specs.Answers.{IsRefusal}
use Rattle.relation_core.specs.Operators.{subtracted}
use Rattle.log_times.specs.Answers.{IsTurnOf}
use Rattle.log_times.specs.Kept.{PlainLog, IsLog, log_relation}
use Rattle.log_times.specs.Logs.{closed_row, closed, moved, standing, open_end, IsStored}
use Rattle.log_times.specs.Turns.{without, begun, lost, gained, exchanged, IsExact, IsTurned}
use Rattle.log_times.specs.declared.turning.Turn.{Turn}
use Rattle.log_times.proofs.AnswerLemmas.{turn_is}
use Rattle.log_times.proofs.TurnLemmas.{rows_ascend}
use Rattle.log_turns.specs.Turned.{IsTurnTo}
use Rattle.log_turns.proofs.ExchangeLemmas.{differ_exact, exchanged_to, fewer_come, fewer_left}

answered : {A E : Type 0} (P Q : A → Type 0) (R S : E → Type 0) (result : Result A E) → ((x : A) → P x → Q x) → ((e : E) → R e → S e) → MatchResult result P R → MatchResult result Q S
answered P Q R S (Ok x) f g h = f x h
answered P Q R S (Err e) f g h = g e h

-- more rows are refused all the more
refused_more : (rows more : List Row) → length rows ≤ length more → (e : RowsRefuse) → IsRefusal rows e → IsRefusal more e
refused_more rows more less TooMany h = omega (arith, less, h)
refused_more rows more less Memory h = h

-- rows that are few enough are not refused where some are taken out
pub left_refused : (rows gone other : List Row) → length rows ≤ most_rows → (e : RowsRefuse) → IsRefusal (subtracted rows gone) e → IsRefusal other e
left_refused rows gone other few TooMany h = absurd (fewer_left most_rows rows gone few h)
left_refused rows gone other few Memory h = h

-- the log has as many rows as are stored
as_many : (side : ℕ) (n : ℤ) (rows moved_rows : List Row) → closed side n rows ≡ moved_rows → length rows ≡ length moved_rows
as_many side n rows moved_rows reads = sym (length-map rows (closed_row side n)) ∙ ap (λ (l : List Row). length l) reads

-- ---- what it gains and loses

module _ (l : PlainLog) (now : Relation) (n : ℤ) (come gone : Relation) (up : Ascends row_cmp now.rows) (next : l.last ≡ (n -ℤ pos 1))
    (came : come.rows ≡ subtracted now.rows (standing l.side l.stored.rows)) (went : gone.rows ≡ subtracted (standing l.side l.stored.rows) now.rows) where
  value_now : exchanged (standing l.side l.stored.rows) come.rows gone.rows ≡ now.rows
  value_now = ap₂ (λ (c g : List Row). exchanged (standing l.side l.stored.rows) c g) came went ∙ exchanged_to (standing l.side l.stored.rows) now.rows up

  log_before : closed l.side (n -ℤ pos 1) l.stored.rows ≡ (log_relation l).rows
  log_before = ap (λ m. closed l.side m l.stored.rows) (sym next)

  reads_now : (gains losses : List Row) → IsTurned l.side n come.rows gone.rows l.stored.rows gains losses → closed l.side n (exchanged l.stored.rows gains losses) ≡ moved l.side n now.rows (log_relation l).rows
  reads_now gains losses t = t.reads ∙ ap₂ (λ (v : List Row) k. moved l.side n v k) value_now log_before

  is_turn : IsRelation l.stored → (t : Turn) → IsTurnOf l.side n come gone l.stored t → IsTurnTo l now n t
  is_turn relation t is = record {
    relation = relation;
    come = is.come;
    gone = is.gone;
    exact = is.rows.exact;
    stored = is.rows.stored;
    stands = is.rows.stands ∙ value_now;
    reads = reads_now t.come.rows t.gone.rows is.rows;
  }

  turn_refused : IsTurned l.side n come.rows gone.rows l.stored.rows (gained l.side n come.rows gone.rows l.stored.rows) (lost l.side gone.rows l.stored.rows)
      → (e : RowsRefuse) → IsRefusal (gained l.side n come.rows gone.rows l.stored.rows) e → IsRefusal (moved l.side n now.rows (log_relation l).rows) e
  turn_refused t =
      let gains : List Row = gained l.side n come.rows gone.rows l.stored.rows in
      let losses : List Row = lost l.side gone.rows l.stored.rows in
      let ascends : Ascends row_cmp (gained l.side n come.rows gone.rows l.stored.rows) = rows_ascend (closed l.side (n -ℤ pos 1) (lost l.side gone.rows l.stored.rows) ++ begun l.side n come.rows) in
      let more : length (gained l.side n come.rows gone.rows l.stored.rows) ≤ length (exchanged l.stored.rows gains losses) = fewer_come l.stored.rows gains losses t.exact ascends in
      let same : length (exchanged l.stored.rows gains losses) ≡ length (moved l.side n now.rows (log_relation l).rows) = as_many l.side n (exchanged l.stored.rows gains losses) (moved l.side n now.rows (log_relation l).rows) (reads_now gains losses t) in
      refused_more gains (moved l.side n now.rows (log_relation l).rows) (omega (arith, more, same))

-- the rows that come and go, got one by one
pub exact_as : (before value now come gone : List Row) → come ≡ subtracted now before → gone ≡ subtracted before now → before ≡ value → IsExact value come gone
exact_as before value now come gone c g e =
    subst (λ (v : List Row). IsExact v come gone) e
    (subst (λ (l : List Row). IsExact before come l) (sym g) (subst (λ (l : List Row). IsExact before l (subtracted before now)) (sym c) (differ_exact before now)))

module _ (l : PlainLog) (now : Relation) (n : ℤ) (come gone : Relation) (is : IsLog l) (relation : IsRelation l.stored) (fits : IsRelation now) (came : IsRelation come)
    (heading : now.heading ≡ without l.side l.stored.heading) (same : come.heading ≡ now.heading) (low : least_whole <ℤ n) (next : l.last ≡ (n -ℤ pos 1)) (below : n <ℤ open_end)
    (comes : come.rows ≡ subtracted now.rows (standing l.side l.stored.rows)) (goes : gone.rows ≡ subtracted (standing l.side l.stored.rows) now.rows) where
  its_turn : IsTurned l.side n come.rows gone.rows l.stored.rows (gained l.side n come.rows gone.rows l.stored.rows) (lost l.side gone.rows l.stored.rows)
  its_turn =
      let stored : IsStored l.side (n -ℤ pos 1) l.stored.rows = subst (λ m. IsStored l.side m l.stored.rows) next is.rows in
      let exact = exact_as (standing l.side l.stored.rows) (standing l.side l.stored.rows) now.rows come.rows gone.rows comes goes refl in
      turn_is l.stored come gone l.side n relation came is.heading (same ∙ heading) stored low below exact (gained l.side n come.rows gone.rows l.stored.rows) (lost l.side gone.rows l.stored.rows) refl refl

  pub turn_answer : (result : Result Turn RowsRefuse) → MatchResult result (IsTurnOf l.side n come gone l.stored) (IsRefusal (gained l.side n come.rows gone.rows l.stored.rows))
      → MatchResult result (IsTurnTo l now n) (IsRefusal (moved l.side n now.rows (log_relation l).rows))
  turn_answer result =
      let up : Ascends row_cmp now.rows = Ascends-from_sorted row_cmp now.rows fits.ascending in
      answered (IsTurnOf l.side n come gone l.stored) (IsTurnTo l now n) (IsRefusal (gained l.side n come.rows gone.rows l.stored.rows)) (IsRefusal (moved l.side n now.rows (log_relation l).rows)) result
      (is_turn l now n come gone up next comes goes relation) (turn_refused l now n come gone up next comes goes its_turn)
