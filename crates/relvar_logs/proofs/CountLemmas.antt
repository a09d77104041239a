-- Rows of logs, counted entry by entry.
use Rattle.std.proofs.Common.{◌≡◌, inl, inr, subst, ℕ, zero, suc, ◌+◌, ◌-◌, ◌<◌, ◌≤◌, ℤ, pos, ◌+ℤ◌, ◌-ℤ◌, ◌<ℤ◌, Bool, true, false, cond, nat_le, List, [], ◌∷◌, map, drop, get_or, length, refl, sym, ap, ◌∙◌, arith, Option, Some, None}
use Rattle.std.specs.Prelude.{◌&&◌}
use Rattle.std.proofs.lemmas.Bool.{cases_lt}
use Rattle.std.proofs.lemmas.Bool.Decides.{nat_tests}
use Rattle.std.proofs.lemmas.Int.{ints}
use Rattle.std.proofs.lemmas.List.{length-map}
use Rattle.value_core.specs.Values.{Name, IsRelation, most_rows}
use Rattle.log_times.specs.Kept.{PlainLog, log_relation, IsLog}
use Rattle.log_times.specs.Logs.{closed_row, open_end}
use Rattle.tree_core.specs.Relvars.{PlainRelvar, log, Entries}
use Rattle.meaning_core.specs.Logs.{turned_relvar, IsInStep}
use Rattle.relvar_logs.specs.Room.{are_each_few, left_of, log_count, rows_of_logs, IsCountedAs}
use Rattle.relvar_logs.specs.Changes.{IsSoAt}
use Rattle.relvar_logs.specs.Turning.{IsReadyLog}
use Rattle.relvar_logs.proofs.TurningLemmas.{idle_turned}

-- ---- what is left

left-less : (room count n : ℕ) (b d : Bool) → count ≤ room → nat_le (count + n) room ≡ b → nat_le n (room - count) ≡ d → cond b (Some (room - (count + n))) None ≡ cond d (Some ((room - count) - n)) None
left-less room count n true true l e f = ap Some (omega (arith, l))
left-less room count n false false l e f = refl
left-less room count n true false l e f =
    let m : (count + n) ≤ room = grind (arith, nat_tests) in
    let k : (room - count) < n = grind (arith, nat_tests) in
    absurd (omega (arith, l, m, k))
left-less room count n false true l e f =
    let m : room < (count + n) = grind (arith, nat_tests) in
    let k : n ≤ (room - count) = grind (arith, nat_tests) in
    absurd (omega (arith, l, m, k))

left-none : (room count n : ℕ) (b : Bool) → room < count → nat_le (count + n) room ≡ b → cond b (Some (room - (count + n))) None ≡ None
left-none room count n false l e = refl
left-none room count n true l e = let m : (count + n) ≤ room = grind (arith, nat_tests) in absurd (omega (arith, l, m))

left-all : (room : ℕ) (b : Bool) → nat_le 0 room ≡ b → cond b (Some (room - 0)) None ≡ Some room
left-all room true e = ap Some (omega arith)
left-all room false e = let m : room < 0 = grind (arith, nat_tests) in absurd (omega (arith, m))

-- ---- the rows of the entries from a place on

module _ (all : Entries) where
  abbrev pub IsFew : PlainRelvar → Type 0
  IsFew r = nat_le (log_count (turned_relvar all r)) most_rows ≡ true

  abbrev turned : Entries → Entries
  turned es = map (λ r. (r.0, turned_relvar all r.1)) es

  rows-there : (es : Entries) (i count : ℕ) → IsSoAt i (IsCountedAs all count) es → rows_of_logs (drop i (turned es)) ≡ count + rows_of_logs (drop (suc i) (turned es))
  rows-there [] i count h = absurd h
  rows-there (e ∷ es) zero count h = ap (λ n. n + rows_of_logs (turned es)) (sym h.is)
  rows-there (e ∷ es) (suc i) count h = rows-there es i count h

  none-there : (es : Entries) (i : ℕ) → length es ≤ i → rows_of_logs (drop i (turned es)) ≡ 0
  none-there [] zero l = refl
  none-there [] (suc i) l = refl
  none-there (e ∷ es) zero l = absurd (omega (arith, l))
  none-there (e ∷ es) (suc i) l = none-there es i (omega (arith, l))

  few-there : (es : Entries) (i count : ℕ) → IsSoAt i (IsCountedAs all count) es → IsSoAt i IsFew es
  few-there [] i count h = absurd h
  few-there (e ∷ es) zero count h =
      let few = h.few in
      let is = h.is in
      by (nat_le (log_count (turned_relvar all e.1)) most_rows) refl (omega (arith, is, few))
    where
      by : (b : Bool) → nat_le (log_count (turned_relvar all e.1)) most_rows ≡ b → log_count (turned_relvar all e.1) ≤ most_rows → nat_le (log_count (turned_relvar all e.1)) most_rows ≡ true
      by true q l = q
      by false q l = let m : most_rows < log_count (turned_relvar all e.1) = grind (arith, nat_tests) in absurd (omega (arith, l, m))
  few-there (e ∷ es) (suc i) count h = few-there es i count h

  few-all : (es : Entries) → ((k : ℕ) → k < length es → IsSoAt k IsFew es) → are_each_few (turned es) ≡ true
  few-all [] h = refl
  few-all (e ∷ es) h = (λ i. h 0 (omega arith) i && few-all es (λ k l. h (suc k) (omega (arith, l))) i)

  module _ (es : Entries) (most : ℕ) where
    pub too_many : (i room count : ℕ) → left_of most (rows_of_logs (turned es)) ≡ left_of room (rows_of_logs (drop i (turned es)))
        → IsSoAt i (IsCountedAs all count) es → room < count → None ≡ left_of most (rows_of_logs (turned es))
    too_many i room count e h l =
        let n = rows_of_logs (drop (suc i) (turned es)) in
        sym (e ∙ (ap (left_of room) (rows-there es i count h) ∙ left-none room count n (nat_le (count + n) room) l refl))

    pub next_room : (i room count : ℕ) → left_of most (rows_of_logs (turned es)) ≡ left_of room (rows_of_logs (drop i (turned es)))
        → IsSoAt i (IsCountedAs all count) es → count ≤ room
        → left_of most (rows_of_logs (turned es)) ≡ left_of (room - count) (rows_of_logs (drop (suc i) (turned es)))
    next_room i room count e h l =
        let n = rows_of_logs (drop (suc i) (turned es)) in
        e ∙ (ap (left_of room) (rows-there es i count h) ∙ left-less room count n (nat_le (count + n) room) (nat_le n (room - count)) l refl refl)

    pub room_left : (i room : ℕ) → left_of most (rows_of_logs (turned es)) ≡ left_of room (rows_of_logs (drop i (turned es))) → length es ≤ i
        → Some room ≡ left_of most (rows_of_logs (turned es))
    room_left i room e l = sym (e ∙ (ap (left_of room) (none-there es i l) ∙ left-all room (nat_le 0 room) refl))

    -- whether each log is small enough, where so many have been looked at
    pub few_more : (i count : ℕ) → ((k : ℕ) → k < i → IsSoAt k IsFew es) → IsSoAt i (IsCountedAs all count) es → (k : ℕ) → k < suc i → IsSoAt k IsFew es
    few_more i count h one k l =
        elim (cases_lt k i) [
          | inl lt ↦ h k lt
          | inr le ↦ subst (λ (j : ℕ). IsSoAt j IsFew es) (let same : i ≡ k = omega (arith, l, le) in same) (few-there es i count one)
        ]

    pub all_few : (i : ℕ) → ((k : ℕ) → k < i → IsSoAt k IsFew es) → length es ≤ i → are_each_few (turned es) ≡ true
    all_few i h l = few-all es (λ k m. h k (omega (arith, l, m)))

-- ---- what stands ready at a place

pub ready_here : (ts : List (Option PlainLog)) (i : ℕ) (t : Option PlainLog) → i < length ts → t ≡ get_or ts i t → get_or ts i None ≡ t
ready_here [] i t l e = absurd (omega (arith, l))
ready_here (u ∷ ts) zero t l e = sym e
ready_here (u ∷ ts) (suc i) t l e = ready_here ts i t (omega (arith, l)) e

pub none_here : (ts : List (Option PlainLog)) (i : ℕ) → length ts ≤ i → get_or ts i None ≡ None
none_here [] zero l = refl
none_here [] (suc i) l = refl
none_here (u ∷ ts) zero l = absurd (omega (arith, l))
none_here (u ∷ ts) (suc i) l = none_here ts i (omega (arith, l))

-- ---- one log

pub none_counted : (all : Entries) (r : PlainRelvar) (count : ℕ) → log_count (turned_relvar all r) ≡ 0 → count ≡ 0 → IsCountedAs all count r
none_counted all r count e d = record { is = d ∙ sym e; few = omega (arith, d) }

pub ready_counted : (n : ℤ) (all : Entries) (r : PlainRelvar) (of : Name) (t : PlainLog) (count : ℕ) → IsReadyLog n all r (log of t.side t.last (log_relation t)) → IsRelation t.stored
    → count ≡ length t.stored.rows → IsCountedAs all count r
ready_counted n all r of t count is relation e =
    let few = relation.few in
    record { is = e ∙ (sym (length-map t.stored.rows (closed_row t.side t.last)) ∙ ap log_count is.is); few = omega (arith, e, few) }

pub idle_counted : (n : ℤ) (all : Entries) (of : Name) (l : PlainLog) (count : ℕ) → IsLog l → IsRelation l.stored → (n +ℤ pos 1) <ℤ open_end
    → IsInStep n all (log of l.side l.last (log_relation l)) → count ≡ length l.stored.rows → IsCountedAs all count (log of l.side l.last (log_relation l))
idle_counted n all of l count is relation below step e =
    let few = relation.few in
    let back : n ≡ ((n +ℤ pos 1) -ℤ pos 1) = omega (arith, ints) in
    let before : IsInStep ((n +ℤ pos 1) -ℤ pos 1) all (log of l.side l.last (log_relation l)) = subst (λ (k : ℤ). IsInStep k all (log of l.side l.last (log_relation l))) back step in
    record {
      is = e ∙ (sym (length-map l.stored.rows (closed_row l.side (n +ℤ pos 1))) ∙ ap log_count (idle_turned all of l (n +ℤ pos 1) is relation below before));
      few = omega (arith, e, few);
    }
