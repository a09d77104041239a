-- Entries among which a log is to be told of rows, counted one by one.
--     few_test      a number that is small enough
--     IsFit      what is so of each
--     rows_more, logs_more      one more is counted
--     fit_more      and has been looked at
--     all_fit_in      all have been
--     fit_put      the entry at a place is looked at
use Rattle.std.proofs.Common.{◌≡◌, inl, inr, ℕ, zero, suc, ◌+◌, ◌<◌, ◌≤◌, Bool, true, false, cond, nat_le, List, [], ◌∷◌, map, take, length, refl, ap, subst, arith, Option, Some, None}
use Rattle.std.specs.Prelude.{◌&&◌, slice_get, IfSome}
use Rattle.std.specs.List.{All}
use Rattle.std.proofs.lemmas.Bool.{cases_lt}
use Rattle.std.proofs.lemmas.Bool.Decides.{nat_tests}
use Rattle.std.proofs.lemmas.List.Elements.{All-head, All-tail}
use Rattle.value_core.specs.Values.{Name, most_rows}
use Rattle.tree_core.specs.declared.relvar.Relvar.{Relvar}
use Rattle.tree_core.specs.Relvars.{PlainRelvar, Entries, read_entry, read_relvar}
use Rattle.relvar_logs.specs.Changes.{IsSoAt}
use Rattle.relvar_logs.specs.Fitting.{IsFitting}
use Rattle.relvar_logs.specs.LoggedChanges.{is_log_of, logs_of, HasEnded, HasRoomForChange}
use Rattle.relvar_logs.specs.Room.{are_each_few, log_count, rows_of_logs}
use Rattle.relvar_logs.proofs.EntryLemmas.{so_put, so_weaker}
use Rattle.relvar_logs.proofs.TurningLemmas.{all_there}

-- so many rows a log may have
pub few_test : (k : ℕ) → k ≤ most_rows → nat_le k most_rows ≡ true
few_test k l = by (nat_le k most_rows) refl
  where
    by : (b : Bool) → nat_le k most_rows ≡ b → nat_le k most_rows ≡ true
    by true q = q
    by false q = let m : most_rows < k = grind (arith, nat_tests) in absurd (omega (arith, l, m))

module _ (name : Name) (more : ℕ) where
  -- an entry has been looked at
  pub record IsFit (r : PlainRelvar) : Type 0 where
    pub few : log_count r ≤ most_rows
    pub own : is_log_of name r ≡ true → log_count r + more ≤ most_rows
    pub ended : HasEnded r

  pub rows_more : (es : Entries) (i count : ℕ) → IsSoAt i (IsFitting name more count) es → rows_of_logs (take (suc i) es) ≡ rows_of_logs (take i es) + count
  rows_more [] i count h = absurd h
  rows_more (e ∷ es) zero count h = let is = h.counted.is in omega (arith, is)
  rows_more (e ∷ es) (suc i) count h = let ih = rows_more es i count h in omega (arith, ih)

  pub logs_more : (es : Entries) (i one : ℕ) → IsSoAt i (λ r. is_log_of name r ≡ true → 1 ≤ one) es → length (logs_of name (take (suc i) es)) ≤ length (logs_of name (take i es)) + one
  logs_more [] i one h = absurd h
  logs_more (e ∷ es) zero one h = by (is_log_of name e.1) h
    where
      by : (b : Bool) → (b ≡ true → 1 ≤ one) → length (cond b (e ∷ []) []) ≤ 0 + one
      by true l = let k = l refl in omega (arith, k)
      by false l = omega arith
  logs_more (e ∷ es) (suc i) one h = by (is_log_of name e.1) (logs_more es i one h)
    where
      by : (b : Bool) → length (logs_of name (take (suc i) es)) ≤ length (logs_of name (take i es)) + one
          → length (cond b (e ∷ logs_of name (take (suc i) es)) (logs_of name (take (suc i) es))) ≤ length (cond b (e ∷ logs_of name (take i es)) (logs_of name (take i es))) + one
      by true l = omega (arith, l)
      by false l = l

  fit_here : (count : ℕ) (r : PlainRelvar) → IsFitting name more count r → IsFit r
  fit_here count r h =
      let is = h.counted.is in
      let few = h.counted.few in
      record { few = omega (arith, is, few); own = λ q. let k = h.own q in omega (arith, is, k); ended = h.counted.ended }

  pub fit_more : (es : Entries) (i count : ℕ) → ((k : ℕ) → k < i → IsSoAt k IsFit es) → IsSoAt i (IsFitting name more count) es → (k : ℕ) → k < suc i → IsSoAt k IsFit es
  fit_more es i count h one k l =
      elim (cases_lt k i) [
        | inl lt ↦ h k lt
        | inr le ↦ subst (λ (j : ℕ). IsSoAt j IsFit es) (let same : i ≡ k = omega (arith, l, le) in same) (so_weaker es i (IsFitting name more count) IsFit (fit_here count) one)
      ]

  all_few : (es : Entries) → All (λ r. IsFit r.1) es → are_each_few es ≡ true
  all_few [] all = refl
  all_few (e ∷ es) all =
      let one = All-head (λ r. IsFit r.1) e es all in
      (λ i. few_test (log_count e.1) one.few i && all_few es (All-tail (λ r. IsFit r.1) e es all) i)

  take_all : (es : Entries) (i : ℕ) → length es ≤ i → take i es ≡ es
  take_all [] zero l = refl
  take_all [] (suc i) l = refl
  take_all (e ∷ es) zero l = absurd (omega (arith, l))
  take_all (e ∷ es) (suc i) l = ap (λ (z : Entries). e ∷ z) (take_all es i (omega (arith, l)))

  pub all_fit_in : (es : Entries) (i most room own : ℕ) → length es ≤ i → ((k : ℕ) → k < i → IsSoAt k IsFit es) → rows_of_logs (take i es) + more + room ≤ most → length (logs_of name (take i es)) ≤ own → own ≤ 1
      → HasRoomForChange name more most room es
  all_fit_in es i most room own l fit rows logs one =
      let whole = take_all es i l in
      let size = ap rows_of_logs whole in
      let count = ap (λ (z : Entries). length (logs_of name z)) whole in
      let all : All (λ r. IsFit r.1) es = all_there IsFit es (λ k m. fit k (omega (arith, l, m))) in
      record {
        once = omega (arith, count, logs, one);
        fits = omega (arith, size, rows);
        few = λ k d m. (all k d m).own;
        each = all_few es all;
        ended = λ k d m. (all k d m).ended;
      }

  pub fit_put : (es : List (Name × Relvar)) (i : ℕ) (k : Name) (r : Relvar) (result : Option ℕ) → slice_get es i ≡ Some (k, r) → IfSome result (λ count. IsFitting name more count (read_relvar r))
      → IfSome result (λ count. IsSoAt i (IsFitting name more count) (map read_entry es))
  fit_put es i k r (Some count) is h = so_put es i (IsFitting name more count) k r is h
  fit_put es i k r None is h = h
