-- Rows in order of their values, as rows come and go, and the extreme values.
--     ordered_in, ordered_out      one row more, and one less
--     least_is, greatest_is      the value of the first pair, and that of the last
use Rattle.std.proofs.Common.{◌≡◌, ◌⊎◌, inl, inr, ℕ, zero, suc, ◌<◌, ◌≤◌, Bool, true, false, cond, List, [], ◌∷◌, set, length, get_or, Option, Some, None, ℤ, pos, int_lt, arith, refl, sym, ap, ap₂, ◌∙◌, subst}
use Rattle.std.specs.Bool.{IsTrue}
use Rattle.std.specs.BTreeMap.{is_at}
use Rattle.std.specs.BTreeSet.{BTreeSet, contains, btree_set_len, IsLowerBound, IsUpperBound}
use Rattle.std.specs.Cmp.{IsTotalOrder}
use Rattle.std.specs.Ordering.{int_cmp, nat_cmp, is_eq, is_lt, is_gt, ordering_then, ordering_reverse}
use Rattle.std.specs.declared.cmp.Ordering.{Ordering}
use Rattle.std.specs.declared.cmp.Ordering.TheVariants.{Less, Equal, Greater}
use Rattle.std.proofs.lemmas.Bool.{true≢false, false_from_ne_true}
use Rattle.std.proofs.lemmas.Cmp.{int_cmp_total, nat_cmp_total, on_total, then_total, tied_itself}
use Rattle.std.proofs.lemmas.List.{get_or-set_other, get_or-set_same, length-set}
use Rattle.std.proofs.lemmas.Map.Lookups.{exact_pairs, exact_signed, exact_unsigned}
use Rattle.cell_boxes.specs.Tallies.{IsIn}
use Rattle.cell_boxes.proofs.TallyLemmas.{equal_or}
use Rattle.u_summarize.specs.Extremes.{pair_cmp, AreOrdered, better, best_flagged, or_zero, least_of, greatest_of}

-- ---- pairs

pair_total : IsTotalOrder pair_cmp
pair_total = then_total (on_total (λ (p : ℤ × ℕ). p.0) int_cmp_total) (on_total (λ (p : ℤ × ℕ). p.1) nat_cmp_total)

abbrev is_pair : ℤ × ℕ → ℤ × ℕ → Bool
is_pair p q = is_at (pair_cmp p) q

pair_itself : (p : ℤ × ℕ) → is_pair p p ≡ true
pair_itself p = ap is_eq (tied_itself pair_total p)

pair_same : (p q : ℤ × ℕ) → is_pair p q ≡ true → p ≡ q
pair_same p q e = exact_pairs int_cmp nat_cmp exact_signed exact_unsigned p q (equal (pair_cmp p q) e)
  where
    equal : (o : Ordering) → is_eq o ≡ true → o ≡ Equal
    equal Less h = absurd (true≢false (sym h))
    equal Equal h = refl
    equal Greater h = absurd (true≢false (sym h))

chosen : (b a x : Bool) → cond b a x ≡ true → ((b ≡ true) × (a ≡ true)) ⊎ (x ≡ true)
chosen true a x e = inl (refl, e)
chosen false a x e = inr e

choose_new : (b x : Bool) → b ≡ true → cond b true x ≡ true
choose_new true x e = refl
choose_new false x e = absurd (true≢false (sym e))

choose_old : (b x : Bool) → x ≡ true → cond b true x ≡ true
choose_old true x e = refl
choose_old false x e = e

keep_old : (b x : Bool) → (b ≡ true → ⊥) → x ≡ true → cond b false x ≡ true
keep_old true x n e = absurd (n refl)
keep_old false x n e = e

kept_old : (b x : Bool) → cond b false x ≡ true → (b ≡ true → ⊥) × (x ≡ true)
kept_old true x e = absurd (true≢false (sym e))
kept_old false x e = (λ h. true≢false (sym h), e)

-- ---- rows come and go

module _ (values : List ℤ) (s n : BTreeSet (ℤ × ℕ)) (f : List Bool) (row : ℕ) (v : ℤ) (is : AreOrdered values s f) (inside : row < length f) (own : v ≡ get_or values row (pos 0)) where
  pair_of : (w : ℤ) (r : ℕ) → r ≡ row → w ≡ get_or values r (pos 0) → is_pair (v, row) (w, r) ≡ true
  pair_of w r e q = subst (λ p. is_pair (v, row) p ≡ true) (ap₂ (λ (x : ℤ) (y : ℕ). (x, y)) (own ∙ ap (λ i. get_or values i (pos 0)) (sym e) ∙ sym q) (sym e)) (pair_itself (v, row))

  pub ordered_in : ((q : ℤ × ℕ) → contains pair_cmp n q ≡ cond (is_pair (v, row) q) true (contains pair_cmp s q)) → AreOrdered values n (set f row true)
  ordered_in made = record {
    within = let w = is.within in let e : length (set f row true) ≡ length f = length-set f row true in omega (arith, w, e);
    flagged = λ w r. (
      λ h. elim (chosen (is_pair (v, row) (w, r)) true (contains pair_cmp s (w, r)) (sym (made (w, r)) ∙ h)) [
        | inl e ↦
            let p = pair_same (v, row) (w, r) e.0 in
            let at : row ≡ r = ap (λ (x : ℤ × ℕ). x.1) p in
            (subst (IsIn (set f row true)) at (get_or-set_same f row true false inside), sym (ap (λ (x : ℤ × ℕ). x.0) p) ∙ own ∙ ap (λ i. get_or values i (pos 0)) at)
        | inr m ↦ let o = (is.flagged w r).0 m in (still r o.0, o.1)
      ],
      λ h. made (w, r) ∙ elim (equal_or r row) [
        | inl e ↦ choose_new (is_pair (v, row) (w, r)) (contains pair_cmp s (w, r)) (pair_of w r e h.1)
        | inr ne ↦ choose_old (is_pair (v, row) (w, r)) (contains pair_cmp s (w, r)) ((is.flagged w r).1 (sym (get_or-set_other f row r true false ne) ∙ h.0, h.1))
      ],
    );
  }
    where
      still : (r : ℕ) → IsIn f r → IsIn (set f row true) r
      still r m = elim (equal_or r row) [
        | inl e ↦ subst (IsIn (set f row true)) (sym e) (get_or-set_same f row true false inside)
        | inr ne ↦ get_or-set_other f row r true false ne ∙ m
      ]

  pub ordered_out : ((q : ℤ × ℕ) → contains pair_cmp n q ≡ cond (is_pair (v, row) q) false (contains pair_cmp s q)) → AreOrdered values n (set f row false)
  ordered_out made = record {
    within = let w = is.within in let e : length (set f row false) ≡ length f = length-set f row false in omega (arith, w, e);
    flagged = λ w r. (
      λ h.
          let k = kept_old (is_pair (v, row) (w, r)) (contains pair_cmp s (w, r)) (sym (made (w, r)) ∙ h) in
          let o = (is.flagged w r).0 k.1 in
          (get_or-set_other f row r false false (λ e. k.0 (pair_of w r e o.1)) ∙ o.0, o.1),
      λ h.
          let ne : r ≡ row → ⊥ = λ e. true≢false (sym (subst (IsIn (set f row false)) e h.0) ∙ get_or-set_same f row false false inside) in
          made (w, r) ∙ keep_old (is_pair (v, row) (w, r)) (contains pair_cmp s (w, r)) (λ e. ne (sym (ap (λ (x : ℤ × ℕ). x.1) (pair_same (v, row) (w, r) e))))
          ((is.flagged w r).1 (sym (get_or-set_other f row r false false ne) ∙ h.0, h.1)),
    );
  }

-- ---- the extreme value

attained : (beats : ℤ → ℤ → Bool) (vs : List ℤ) (f : List Bool) (w : ℤ) → best_flagged beats vs f ≡ Some w → (r : ℕ) × IsIn f r × (w ≡ get_or vs r (pos 0))
attained beats [] f w e = absurd cc
attained beats (v ∷ vs) [] w e = absurd cc
attained beats (v ∷ vs) (false ∷ fs) w e = let h = attained beats vs fs w e in (suc h.0, h.1, h.2)
attained beats (v ∷ vs) (true ∷ fs) w e = go (best_flagged beats vs fs) (λ u q. attained beats vs fs u q) (let q : better beats v (best_flagged beats vs fs) ≡ w = cc in q)
  where
    go : (m : Option ℤ) → ((u : ℤ) → m ≡ Some u → (r : ℕ) × IsIn fs r × (u ≡ get_or vs r (pos 0))) → better beats v m ≡ w → (r : ℕ) × IsIn (true ∷ fs) r × (w ≡ get_or (v ∷ vs) r (pos 0))
    go None h q = (zero, refl, sym q)
    go (Some u) h q = let k = h u refl in elim (beats u v) as (λ b. cond b u v ≡ w → (r : ℕ) × IsIn (true ∷ fs) r × (w ≡ get_or (v ∷ vs) r (pos 0))) [
      | true ↦ λ z. (suc k.0, k.1, sym z ∙ k.2)
      | false ↦ λ z. (zero, refl, sym z)
    ] q

module _ (beats : ℤ → ℤ → Bool) (tie : (a b : ℤ) → beats a b ≡ false → beats b a ≡ false → a ≡ b) where
  pub best_is : (vs : List ℤ) (f : List Bool) → length f ≤ length vs → (z : ℤ) (r : ℕ) → IsIn f r → z ≡ get_or vs r (pos 0) → ((s : ℕ) → IsIn f s → beats (get_or vs s (pos 0)) z ≡ false) → best_flagged beats vs f ≡ Some z
  best_is [] [] l z r m e top = absurd (true≢false (sym m))
  best_is [] (b ∷ fs) l z r m e top = absurd (omega (arith, l))
  best_is (v ∷ vs) [] l z r m e top = absurd (true≢false (sym m))
  best_is (v ∷ vs) (false ∷ fs) l z zero m e top = absurd (true≢false (sym m))
  best_is (v ∷ vs) (false ∷ fs) l z (suc r) m e top = best_is vs fs (omega (arith, l)) z r m e (λ s. top (suc s))
  best_is (v ∷ vs) (true ∷ fs) l z zero m e top = ap (λ w. Some w) (first (best_flagged beats vs fs) (λ w q. attained beats vs fs w q))
    where
      first : (o : Option ℤ) → ((w : ℤ) → o ≡ Some w → (r : ℕ) × IsIn fs r × (w ≡ get_or vs r (pos 0))) → better beats v o ≡ z
      first None h = sym e
      first (Some w) h =
          let k = h w refl in
          let n : beats w v ≡ false = ap₂ beats k.2 (sym e) ∙ top (suc k.0) k.1 in
          ap (λ b. cond b w v) n ∙ sym e
  best_is (v ∷ vs) (true ∷ fs) l z (suc r) m e top =
      let rest = best_is vs fs (omega (arith, l)) z r m e (λ s. top (suc s)) in
      ap (λ o. Some (better beats v o)) rest ∙ ap (λ w. Some w) (elim (beats z v) as (λ b. beats z v ≡ b → cond b z v ≡ z) [
        | true ↦ λ q. refl
        | false ↦ λ q. tie v z (top zero refl) q
      ] refl)

best_none : (beats : ℤ → ℤ → Bool) (vs : List ℤ) (f : List Bool) → ((r : ℕ) → IsIn f r → ⊥) → best_flagged beats vs f ≡ None
best_none beats [] f h = refl
best_none beats (v ∷ vs) [] h = refl
best_none beats (v ∷ vs) (true ∷ fs) h = absurd (h zero refl)
best_none beats (v ∷ vs) (false ∷ fs) h = best_none beats vs fs (λ r. h (suc r))

-- ---- the first pair and the last

abbrev pub is_more : ℤ → ℤ → Bool
is_more v w = int_lt w v

pub less_tie : (a b : ℤ) → int_lt a b ≡ false → int_lt b a ≡ false → a ≡ b
less_tie a b e f = exact_signed a b (ap₂ (λ (x y : Bool). cond x Less (cond y Greater Equal)) e f)

less_cmp : (a b : ℤ) → int_lt a b ≡ true → int_cmp a b ≡ Less
less_cmp a b e = ap (λ (x : Bool). cond x Less (cond (int_lt b a) Greater Equal)) e

none_below : (p q : ℤ × ℕ) → is_gt (pair_cmp p q) ≡ false → int_lt q.0 p.0 ≡ false
none_below p q e = false_from_ne_true (int_lt q.0 p.0) (λ h.
    let back : int_cmp p.0 q.0 ≡ Greater = int_cmp_total.antisymm p.0 q.0 ∙ ap ordering_reverse (less_cmp q.0 p.0 h) in
    true≢false (sym (ap (λ o. is_gt (ordering_then o (nat_cmp p.1 q.1))) back) ∙ e))

none_above : (p q : ℤ × ℕ) → is_lt (pair_cmp p q) ≡ false → int_lt p.0 q.0 ≡ false
none_above p q e = false_from_ne_true (int_lt p.0 q.0) (λ h. true≢false (sym (ap (λ o. is_lt (ordering_then o (nat_cmp p.1 q.1))) (less_cmp p.0 q.0 h)) ∙ e))

module _ (values : List ℤ) (s : BTreeSet (ℤ × ℕ)) (f : List Bool) (is : AreOrdered values s f) where
  there : (r : ℕ) → IsIn f r → IsTrue (contains pair_cmp s (get_or values r (pos 0), r))
  there r m = (is.flagged (get_or values r (pos 0)) r).1 (m, refl)

  no_rows : (0 < btree_set_len s → ⊥) → (r : ℕ) → IsIn f r → ⊥
  no_rows n r m = some s.keys n (there r m)
    where
      some : (ks : List (ℤ × ℕ)) → (0 < length ks → ⊥) → contains pair_cmp (record { keys = ks }) (get_or values r (pos 0), r) ≡ true → ⊥
      some [] h e = true≢false (sym e)
      some (k ∷ ks) h e = h (omega arith)

  pub least_is : (p : ℤ × ℕ) → IsTrue (contains pair_cmp s p) → IsLowerBound pair_cmp s p → p.0 ≡ least_of values f
  least_is p m low =
      let w = (is.flagged p.0 p.1).0 m in
      sym (ap or_zero (best_is int_lt less_tie values f is.within p.0 p.1 w.0 w.1 (λ r i. none_below p (get_or values r (pos 0), r) (low (get_or values r (pos 0), r) (there r i)))))

  pub greatest_is : (p : ℤ × ℕ) → IsTrue (contains pair_cmp s p) → IsUpperBound pair_cmp s p → p.0 ≡ greatest_of values f
  greatest_is p m high =
      let w = (is.flagged p.0 p.1).0 m in
      sym (ap or_zero (best_is is_more (λ a b e h. less_tie a b h e) values f is.within p.0 p.1 w.0 w.1 (λ r i. none_above p (get_or values r (pos 0), r) (high (get_or values r (pos 0), r) (there r i)))))

  pub least_none : (0 < btree_set_len s → ⊥) → pos 0 ≡ least_of values f
  least_none n = sym (ap or_zero (best_none int_lt values f (no_rows n)))

  pub greatest_none : (0 < btree_set_len s → ⊥) → pos 0 ≡ greatest_of values f
  greatest_none n = sym (ap or_zero (best_none is_more values f (no_rows n)))
