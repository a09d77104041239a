-- Stretches of statements after which a row was there.
--     around      each statement after which it was there lies in one
--     one_stretch      two that meet or overlap are one
--     kept, longer, begun      those after one statement more, from those before
--     earlier, ended, shorter, new      and back
use Rattle.std.proofs.Common.{◌≡◌, inl, inr, ℕ, zero, suc, ◌+◌, ◌-◌, ◌<◌, ◌≤◌, true, false, List, [], ◌∷◌, ◌++◌, length, sym, ap, ◌∙◌, subst, arith, refl, eq-or-lt_of_le}
use Rattle.std.proofs.Math.Seq.{get_or-append_seam}
use Rattle.std.proofs.lemmas.Bool.{true≢false, cases_lt}
use Rattle.std.proofs.lemmas.List.{get_or_append_left}
use Rattle.base_core.specs.Sets.{has}
use Rattle.base_core.proofs.ListLemmas.{length_more}
use Rattle.value_core.specs.Values.{Row, row_cmp}
use Rattle.log_times.specs.Logs.{after, IsStretch}

-- ---- where a stretch begins, and where it ends

pub record Begins (values : List (List Row)) (x : Row) (b k : ℕ) : Type 0 where
  pub ordered : b ≤ k
  pub stood : (j : ℕ) → b ≤ j → j ≤ k → has row_cmp (after values j) x ≡ true
  pub first : (j : ℕ) → suc j ≡ b → has row_cmp (after values j) x ≡ false

pub record Ends (values : List (List Row)) (x : Row) (k e : ℕ) : Type 0 where
  pub ordered : k ≤ e
  pub within : e < length values
  pub stood : (j : ℕ) → k ≤ j → j ≤ e → has row_cmp (after values j) x ≡ true
  pub last : suc e < length values → has row_cmp (after values (suc e)) x ≡ false

module _ (values : List (List Row)) (x : Row) where
  at_one : (j k : ℕ) → j ≡ k → has row_cmp (after values k) x ≡ true → has row_cmp (after values j) x ≡ true
  at_one j k e h = subst (λ i. has row_cmp (after values i) x ≡ true) (sym e) h

  begins : (k : ℕ) → has row_cmp (after values k) x ≡ true → (b : ℕ) × Begins values x b k
  begins zero h = (
    zero,
    record {
      ordered = omega arith;
      stood = λ j l m. at_one j zero (omega (arith, m)) h;
      first = λ j e. absurd (omega (arith, e));
    },
  )
  begins (suc k) h =
      elim (has row_cmp (after values k) x) as (λ a. has row_cmp (after values k) x ≡ a → (b : ℕ) × Begins values x b (suc k)) [
        | true ↦ λ e. let w = begins k e in
            let before : w.0 ≤ k = w.1.ordered in (
              w.0,
              record {
                ordered = omega (arith, before);
                stood = λ j l m. elim (eq-or-lt_of_le m) [ inl s ↦ at_one j (suc k) s h | inr s ↦ w.1.stood j l (omega (arith, s)) ];
                first = w.1.first;
              },
            )
        | false ↦ λ e. (
          suc k,
          record {
            ordered = omega arith;
            stood = λ j l m. at_one j (suc k) (omega (arith, l, m)) h;
            first = λ j s. let i : k ≡ j = omega (arith, s) in subst (λ i. has row_cmp (after values i) x ≡ false) i e;
          },
        )
      ] refl

  -- of the statements behind k there are d
  ends : (d k : ℕ) → suc k + d ≡ length values → has row_cmp (after values k) x ≡ true → (e : ℕ) × Ends values x k e
  ends zero k n h = (
    k,
    record {
      ordered = omega arith;
      within = omega (arith, n);
      stood = λ j l m. at_one j k (omega (arith, l, m)) h;
      last = λ l. absurd (omega (arith, l, n));
    },
  )
  ends (suc d) k n h =
      elim (has row_cmp (after values (suc k)) x) as (λ a. has row_cmp (after values (suc k)) x ≡ a → (e : ℕ) × Ends values x k e) [
        | true ↦ λ s. let w = ends d (suc k) (omega (arith, n)) s in
            let behind : suc k ≤ w.0 = w.1.ordered in (
              w.0,
              record {
                ordered = omega (arith, behind);
                within = w.1.within;
                stood = λ j l m. elim (eq-or-lt_of_le l) [ inl i ↦ at_one j k (sym i) h | inr i ↦ w.1.stood j (omega (arith, i)) m ];
                last = w.1.last;
              },
            )
        | false ↦ λ s. (
          k,
          record {
            ordered = omega arith;
            within = omega (arith, n);
            stood = λ j l m. at_one j k (omega (arith, l, m)) h;
            last = λ l. s;
          },
        )
      ] refl

  pub around : (k : ℕ) → k < length values → has row_cmp (after values k) x ≡ true → (b : ℕ) × (e : ℕ) × (b ≤ k) × (k ≤ e) × IsStretch values x b e
  around k l h =
      let front = begins k h in
      let back = ends (length values - suc k) k (omega (arith, l)) h in
      let before : front.0 ≤ k = front.1.ordered in
      let behind : k ≤ back.0 = back.1.ordered in (
        front.0,
        back.0,
        before,
        behind,
        record {
          ordered = omega (arith, before, behind);
          within = back.1.within;
          stood = λ j m n. elim (cases_lt j k) [ inl i ↦ front.1.stood j m (omega (arith, i)) | inr i ↦ back.1.stood j i n ];
          first = front.1.first;
          last = back.1.last;
        },
      )

  -- ---- two stretches of one row

  not_later : (b e c f : ℕ) → IsStretch values x b e → IsStretch values x c f → c ≤ suc e → b < c → ⊥
  not_later b e zero f s t l m = absurd (omega (arith, m))
  not_later b e (suc k) f s t l m = true≢false (sym (s.stood k (omega (arith, m)) (omega (arith, l))) ∙ t.first k refl)

  not_longer : (b e c f : ℕ) → IsStretch values x b e → IsStretch values x c f → c ≤ suc e → e < f → ⊥
  not_longer b e c f s t l m =
      let within : f < length values = t.within in
      true≢false (sym (t.stood (suc e) l (omega (arith, m))) ∙ s.last (omega (arith, m, within)))

  same_number : (b c : ℕ) → (b < c → ⊥) → (c < b → ⊥) → b ≡ c
  same_number b c p q = elim (cases_lt b c) [
    | inl l ↦ absurd (p l)
    | inr l ↦ elim (eq-or-lt_of_le l) [ inl e ↦ sym e | inr m ↦ absurd (q m) ]
  ]

  -- two stretches that meet or overlap are one
  pub one_stretch : (b e c f : ℕ) → IsStretch values x b e → IsStretch values x c f → c ≤ suc e → b ≤ suc f → (b ≡ c) × (e ≡ f)
  one_stretch b e c f s t l m = (
    same_number b c (not_later b e c f s t l) (not_later c f b e t s m),
    same_number e f (not_longer b e c f s t l) (not_longer c f b e t s m),
  )

-- ---- one statement more

module _ (past : List (List Row)) (now : List Row) (x : Row) where
  earlier_value : (k : ℕ) → k < length past → has row_cmp (after (past ++ now ∷ []) k) x ≡ has row_cmp (after past k) x
  earlier_value k l = ap (λ (rows : List Row). has row_cmp rows x) (get_or_append_left past (now ∷ []) [] k l)

  last_value : has row_cmp (after (past ++ now ∷ []) (length past)) x ≡ has row_cmp now x
  last_value = ap (λ (rows : List Row). has row_cmp rows x) (get_or-append_seam past now [] [])

  last_at : (k : ℕ) → k ≡ length past → has row_cmp (after (past ++ now ∷ []) k) x ≡ has row_cmp now x
  last_at k e = ap (λ i. has row_cmp (after (past ++ now ∷ []) i) x) e ∙ last_value

  -- one that does not go on
  pub kept : (b e : ℕ) → IsStretch past x b e → (suc e ≡ length past → has row_cmp now x ≡ false) → IsStretch (past ++ now ∷ []) x b e
  kept b e s ends =
      let size = length_more past now in
      let ordered : b ≤ e = s.ordered in
      let within : e < length past = s.within in
      record {
        ordered = ordered;
        within = omega (arith, size, within);
        stood = λ k l m. earlier_value k (omega (arith, m, within)) ∙ s.stood k l m;
        first = λ k i. earlier_value k (omega (arith, i, ordered, within)) ∙ s.first k i;
        last = λ l. elim (eq-or-lt_of_le within) [
          | inl i ↦ last_at (suc e) i ∙ ends i
          | inr i ↦ earlier_value (suc e) i ∙ s.last i
        ];
      }

  -- one that goes on
  pub longer : (b e : ℕ) → IsStretch past x b e → suc e ≡ length past → has row_cmp now x ≡ true → IsStretch (past ++ now ∷ []) x b (length past)
  longer b e s end here =
      let size = length_more past now in
      let ordered : b ≤ e = s.ordered in
      record {
        ordered = omega (arith, ordered, end);
        within = omega (arith, size);
        stood = λ k l m. elim (eq-or-lt_of_le m) [
          | inl i ↦ last_at k i ∙ here
          | inr i ↦ earlier_value k i ∙ s.stood k l (omega (arith, i, end))
        ];
        first = λ k i. earlier_value k (omega (arith, i, ordered, end)) ∙ s.first k i;
        last = λ l. absurd (omega (arith, l, size));
      }

  -- one that begins
  pub begun : has row_cmp now x ≡ true → ((k : ℕ) → suc k ≡ length past → has row_cmp (after past k) x ≡ false) → IsStretch (past ++ now ∷ []) x (length past) (length past)
  begun here before =
      let size = length_more past now in
      record {
        ordered = omega arith;
        within = omega (arith, size);
        stood = λ k l m. last_at k (omega (arith, l, m)) ∙ here;
        first = λ k i. earlier_value k (omega (arith, i)) ∙ before k i;
        last = λ l. absurd (omega (arith, l, size));
      }

  -- one that ends before the last statement, and one that ends right before it
  pub earlier : (b e : ℕ) → IsStretch (past ++ now ∷ []) x b e → e < length past → IsStretch past x b e
  earlier b e s within =
      let size = length_more past now in
      let ordered : b ≤ e = s.ordered in
      record {
        ordered = ordered;
        within = within;
        stood = λ k l m. sym (earlier_value k (omega (arith, m, within))) ∙ s.stood k l m;
        first = λ k i. sym (earlier_value k (omega (arith, i, ordered, within))) ∙ s.first k i;
        last = λ l. sym (earlier_value (suc e) l) ∙ s.last (omega (arith, l, size));
      }

  pub ended : (b e : ℕ) → IsStretch (past ++ now ∷ []) x b e → suc e ≡ length past → has row_cmp now x ≡ false
  ended b e s end = let size = length_more past now in sym (last_at (suc e) end) ∙ s.last (omega (arith, end, size))

  -- one that ends at the last statement
  pub still : (b e : ℕ) → IsStretch (past ++ now ∷ []) x b e → e ≡ length past → has row_cmp now x ≡ true
  still b e s end = sym (last_at e end) ∙ s.stood e s.ordered (omega arith)

  pub shorter : (b k e : ℕ) → IsStretch (past ++ now ∷ []) x b e → e ≡ length past → suc k ≡ length past → b ≤ k → IsStretch past x b k
  shorter b k e s end near ordered = record {
    ordered = ordered;
    within = omega (arith, near);
    stood = λ j l m. sym (earlier_value j (omega (arith, m, near))) ∙ s.stood j l (omega (arith, m, near, end));
    first = λ j i. sym (earlier_value j (omega (arith, i, ordered, near))) ∙ s.first j i;
    last = λ l. absurd (omega (arith, l, near));
  }

  -- one that begins at the last statement
  pub new : (b e : ℕ) → IsStretch (past ++ now ∷ []) x b e → b ≡ length past → (k : ℕ) → suc k ≡ length past → has row_cmp (after past k) x ≡ false
  new b e s begin k near = sym (earlier_value k (omega (arith, near))) ∙ s.first k (near ∙ sym begin)
