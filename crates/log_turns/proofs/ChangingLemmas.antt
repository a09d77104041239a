-- Rows that come to a log's relvar and others that go from it.
--     gains_few      what the log gains is no more than what it loses and what comes
--     fewer_kept      what a test takes out of some rows and what is left are no more than they
--     no_refusal, few_together      there is room for what the log gains
--     is_change      it gains and loses the stored rows of those that come and go
use Rattle.std.proofs.Common.{◌≡◌, inl, inr, ℕ, ◌+◌, ◌≤◌, ℤ, pos, ◌-ℤ◌, Bool, true, false, not, cond, List, [], ◌∷◌, ◌++◌, length, refl, sym, ap, ap₂, ◌∙◌, subst, arith, length-append, IsTrue}
use Rattle.std.specs.List.{filter}
use Rattle.std.proofs.lemmas.Bool.{true≢false}
use Rattle.std.proofs.lemmas.List.{length-map}
use Rattle.base_core.specs.Sets.{has}
use Rattle.base_core.proofs.MemberLemmas.{In-filter}
use Rattle.base_core.proofs.SetLemmas.{In}
use Rattle.base_core.proofs.SetOperatorLemmas.{length-in_order}
use Rattle.value_core.specs.Values.{Row, Relation, row_cmp, most_rows}
use Rattle.value_core.specs.declared.refuse.RowsRefuse.TheVariants.{TooMany}
use Rattle.relation_core.specs.Answers.{IsRefusal}
use Rattle.relation_core.specs.Operators.{united, subtracted}
use Rattle.relation_core.proofs.FilterLemmas.{length-filter_at_most}
use Rattle.log_times.specs.Answers.{IsTurnOf}
use Rattle.log_times.specs.Kept.{PlainLog, log_relation}
use Rattle.log_times.specs.Logs.{stamped, closed_row, closed, moved, standing, open_end}
use Rattle.log_times.specs.Turns.{begun, goes, lost, gained, exchanged, IsExact}
use Rattle.log_times.specs.declared.turning.Turn.{Turn}
use Rattle.log_times.proofs.TurnLemmas.{has_In}
use Rattle.log_turns.specs.Changed.{with_change, IsChangeBy}
use Rattle.log_turns.proofs.ExchangeLemmas.{exchanged_after}

-- ---- what a test takes out, and what is left

one_kept : (b c : Bool) (x : Row) (kept out rows : List Row) → (IsTrue b → IsTrue c) → length kept + length out ≤ length rows
    → length (cond (not c) (x ∷ kept) kept) + length (cond b (x ∷ out) out) ≤ length (x ∷ rows)
one_kept true true x kept out rows h l = omega (arith, l)
one_kept true false x kept out rows h l = absurd (true≢false (sym (h refl)))
one_kept false true x kept out rows h l = omega (arith, l)
one_kept false false x kept out rows h l = omega (arith, l)

fewer_without : (p q : Row → Bool) (rows : List Row) → ((x : Row) → In x rows → IsTrue (p x) → IsTrue (q x)) → length (filter (λ x. not (q x)) rows) + length (filter p rows) ≤ length rows
fewer_without p q [] h = omega arith
fewer_without p q (x ∷ rows) h =
    one_kept (p x) (q x) x (filter (λ z. not (q z)) rows) (filter p rows) rows (h x (inl refl)) (fewer_without p q rows (λ z i. h z (inr i)))

pub fewer_kept : (p : Row → Bool) (rows : List Row) → length (subtracted rows (filter p rows)) + length (filter p rows) ≤ length rows
fewer_kept p rows = fewer_without p (has row_cmp (filter p rows)) rows (λ x i t. (has_In (filter p rows) x).1 ((In-filter p x rows).1 (i, t)))

-- ---- room

module _ (side : ℕ) (n : ℤ) (come gone log : List Row) where
  pub gains_few : length (gained side n come gone log) ≤ length (lost side gone log) + length come
  gains_few =
      let whole = length-in_order row_cmp (closed side (n -ℤ pos 1) (lost side gone log) ++ begun side n come) in
      let sum = length-append (closed side (n -ℤ pos 1) (lost side gone log)) (begun side n come) in
      let ended = length-map (lost side gone log) (closed_row side (n -ℤ pos 1)) in
      let begins = length-map come (stamped side (n, open_end)) in
      omega (arith, whole, sum, ended, begins)

  pub no_refusal : length log + length come ≤ most_rows → IsRefusal (gained side n come gone log) TooMany → ⊥
  no_refusal few many =
      let gains = gains_few in
      let less = length-filter_at_most (goes side gone) log in
      absurd (omega (arith, few, many, gains, less))

  has_room : length log + length come ≤ most_rows → IsExact log (gained side n come gone log) (lost side gone log) → length (exchanged log (gained side n come gone log) (lost side gone log)) ≤ most_rows
  has_room few exact =
      let gains = gains_few in
      let less = fewer_kept (goes side gone) log in
      let same = ap (λ (l : List Row). length l) (exchanged_after log (gained side n come gone log) (lost side gone log) exact) in
      let together = length-in_order row_cmp (subtracted log (lost side gone log) ++ gained side n come gone log) in
      let sum = length-append (subtracted log (lost side gone log)) (gained side n come gone log) in
      omega (arith, few, gains, less, same, together, sum)

-- rows that are few enough together
pub few_together : (rows more : List Row) → length rows + length more ≤ most_rows → length (united rows more) ≤ most_rows
few_together rows more few =
    let together = length-in_order row_cmp (rows ++ more) in
    let sum = length-append rows more in
    omega (arith, few, together, sum)

-- ---- what it gains and loses

module _ (l : PlainLog) (come gone : Relation) (n : ℤ) (next : l.last ≡ (n -ℤ pos 1)) (few : length l.stored.rows + length come.rows ≤ most_rows) where
  pub is_change : (t : Turn) → IsTurnOf l.side n come gone l.stored t → IsChangeBy l come gone n t
  is_change t is =
      let before : closed l.side (n -ℤ pos 1) l.stored.rows ≡ (log_relation l).rows = ap (λ m. closed l.side m l.stored.rows) (sym next) in
      let exact : IsExact l.stored.rows (gained l.side n come.rows gone.rows l.stored.rows) (lost l.side gone.rows l.stored.rows) =
      subst (λ (k : List Row). IsExact l.stored.rows (gained l.side n come.rows gone.rows l.stored.rows) k) is.rows.less
      (subst (λ (k : List Row). IsExact l.stored.rows k t.gone.rows) is.rows.more is.rows.exact) in
      let same : exchanged l.stored.rows t.come.rows t.gone.rows ≡ exchanged l.stored.rows (gained l.side n come.rows gone.rows l.stored.rows) (lost l.side gone.rows l.stored.rows) =
      ap₂ (λ (c g : List Row). exchanged l.stored.rows c g) is.rows.more is.rows.less in
      let room = has_room l.side n come.rows gone.rows l.stored.rows few exact in
      record {
        come = is.come;
        gone = is.gone;
        exact = is.rows.exact;
        few = subst (λ (k : List Row). length k ≤ most_rows) (sym same) room;
        stored = is.rows.stored;
        stands = is.rows.stands;
        reads = is.rows.reads ∙ ap (λ (k : List Row). moved l.side n (with_change l come gone).rows k) before;
      }
