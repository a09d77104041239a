-- What is asked of the rows of a group is the same of the flags that stand for their labels.
--     over      a sum over the rows of a list
--     picked_sum      it is that over the flags
--     picked_best      and so is the number of a row that no other one beats
use Rattle.std.proofs.Common.{◌≡◌, ℕ, zero, suc, ◌<◌, ◌≤◌, Bool, true, false, List, [], ◌∷◌, set, length, get_or, Some, inl, inr, arith, sym, ap, subst, refl, ◌∙◌, ℤ, pos, ◌+ℤ◌}
use Rattle.std.proofs.lemmas.Bool.{true≢false}
use Rattle.std.proofs.lemmas.Int.{ints}
use Rattle.std.proofs.lemmas.List.{get_or-set_other, get_or-set_same, length-set}
use Rattle.value_core.specs.Values.{Row}
use Rattle.cell_packing.specs.Covering.{Among}
use Rattle.cell_sweep.specs.Rows.{AreRows}
use Rattle.cell_boxes.specs.Tallies.{IsIn}
use Rattle.cell_boxes.specs.Totals.{sum_of}
use Rattle.cell_boxes.proofs.TallyLemmas.{equal_or}
use Rattle.u_summarize.specs.Extremes.{best_flagged}
use Rattle.u_summarize.specs.Picked.{ArePicked}
use Rattle.u_summarize.proofs.ExtremeLemmas.{best_is}
use Rattle.cell_boxes.proofs.TotalLemmas.{no_sum}

abbrev pub over : (ℕ → ℤ) → List ℕ → ℤ
over w [] = pos 0
over w (r ∷ rs) = w r +ℤ over w rs

sum_less : (vs : List ℤ) (f : List Bool) (row : ℕ) → row < length f → length f ≤ length vs → get_or f row false ≡ true → sum_of vs f ≡ get_or vs row (pos 0) +ℤ sum_of vs (set f row false)
sum_less [] f row l n h = absurd (omega (arith, l, n))
sum_less (v ∷ vs) [] row l n h = absurd (omega arith)
sum_less (v ∷ vs) (true ∷ fs) zero l n h = refl
sum_less (v ∷ vs) (false ∷ fs) zero l n h = absurd (true≢false (sym h))
sum_less (v ∷ vs) (true ∷ fs) (suc row) l n h = let e = sum_less vs fs row (omega (arith, l)) (omega (arith, n)) h in omega (arith, ints, e)
sum_less (v ∷ vs) (false ∷ fs) (suc row) l n h = sum_less vs fs row (omega (arith, l)) (omega (arith, n)) h

flagged_below : (f : List Bool) (r : ℕ) → IsIn f r → r < length f
flagged_below [] r h = absurd (true≢false (sym h))
flagged_below (x ∷ xs) zero h = omega arith
flagged_below (x ∷ xs) (suc r) h = let l = flagged_below xs r h in omega (arith, l)

abbrev Apart : (ℕ → Row) → List ℕ → Type 0
Apart label [] = Unit {0}
Apart label (r ∷ rs) = ((s : ℕ) → Among s rs → label s ≡ label r → ⊥) × Apart label rs

record Matched (label : ℕ → Row) (a : List ℕ) (f : List Bool) : Type 0 where
  apart : Apart label a
  once : (r s : ℕ) → IsIn f r → IsIn f s → label r ≡ label s → r ≡ s
  to : (r : ℕ) → Among r a → (s : ℕ) × IsIn f s × (label s ≡ label r)
  from : (s : ℕ) → IsIn f s → (r : ℕ) × Among r a × (label r ≡ label s)

-- one mark less
kept_flag : (f : List Bool) (row s : ℕ) → IsIn (set f row false) s → row < length f → IsIn f s × (s ≡ row → ⊥)
kept_flag f row s h l = elim (equal_or s row) [
  | inl e ↦ absurd (true≢false (sym (subst (IsIn (set f row false)) e h) ∙ get_or-set_same f row false false l))
  | inr ne ↦ (sym (get_or-set_other f row s false false ne) ∙ h, ne)
]

other_flag : (f : List Bool) (row s : ℕ) → IsIn f s → (s ≡ row → ⊥) → IsIn (set f row false) s
other_flag f row s h ne = get_or-set_other f row s false false ne ∙ h

matched_sum : (label : ℕ → Row) (vs : List ℤ) (a : List ℕ) (f : List Bool) → length f ≤ length vs → Matched label a f
    → ((r s : ℕ) → Among r a → IsIn f s → label r ≡ label s → get_or vs r (pos 0) ≡ get_or vs s (pos 0)) → over (λ r. get_or vs r (pos 0)) a ≡ sum_of vs f
matched_sum label vs [] f n m same = sym (no_sum vs f (λ s h. let w = m.from s h in w.1))
matched_sum label vs (r ∷ rs) f n m same =
    let w = m.to r (inl refl) in
    let s = w.0 in
    let l = flagged_below f s w.1 in
    let long : length (set f s false) ≡ length f = length-set f s false in
    let less : Matched label rs (set f s false) = record {
      apart = m.apart.1;
      once = λ p q hp hq e. m.once p q (kept_flag f s p hp l).0 (kept_flag f s q hq l).0 e;
      to = λ q k.
          let v = m.to q (inr k) in
          (v.0, other_flag f s v.0 v.1 (λ e. m.apart.0 q k (sym v.2 ∙ ap label e ∙ w.2)), v.2);
      from = λ q h.
          let k = kept_flag f s q h l in
          let v = m.from q k.0 in
          elim v.1 [
            | inl e ↦ absurd (k.1 (m.once q s k.0 w.1 (sym v.2 ∙ ap label (sym e) ∙ sym w.2)))
            | inr i ↦ (v.0, i, v.2)
          ];
    } in
    let rest = matched_sum label vs rs (set f s false) (omega (arith, long, n)) less (λ p q i h e. same p q (inr i) (kept_flag f s q h l).0 e) in
    let first : get_or vs r (pos 0) ≡ get_or vs s (pos 0) = same r s (inl refl) w.1 (sym w.2) in
    ap (λ z. z +ℤ over (λ q. get_or vs q (pos 0)) rs) first ∙ ap (λ z. get_or vs s (pos 0) +ℤ z) rest ∙ sym (sum_less vs f s l n w.1)

rows_apart : (label : ℕ → Row) (n b : ℕ) (a : List ℕ) → AreRows b n a → ((r s : ℕ) → Among r a → Among s a → label r ≡ label s → r ≡ s) → Apart label a
rows_apart label n b [] up h = tt
rows_apart label n b (r ∷ rs) up h = (
  λ s m e. let q : s ≡ r = h s r (inr m) (inl refl) e in let l = after (suc r) rs up.2 s m in omega (arith, q, l),
  rows_apart label n (suc r) rs up.2 (λ p q i j e. h p q (inr i) (inr j) e),
)
  where
    after : (c : ℕ) (xs : List ℕ) → AreRows c n xs → (s : ℕ) → Among s xs → c ≤ s
    after c [] u s m = absurd m
    after c (x ∷ xs) u s m =
        let k = u.0 in
        elim m [
          | inl e ↦ omega (arith, e, k)
          | inr i ↦ let w = after (suc x) xs u.2 s i in omega (arith, w, k)
        ]

-- where rows of one label have one value
pub picked_sum : (by : List ℕ) (labels : List Row) (key : Row) (a : List ℕ) (f : List Bool) → ArePicked by labels key a f → (vs : List ℤ) → length vs ≡ length labels
    → ((r s : ℕ) → Among r a → s < length labels → get_or labels r [] ≡ get_or labels s [] → get_or vs r (pos 0) ≡ get_or vs s (pos 0)) → over (λ r. get_or vs r (pos 0)) a ≡ sum_of vs f
picked_sum by labels key a f p vs long same =
    let count = p.count in
    matched_sum (λ r. get_or labels r []) vs a f (omega (arith, count, long))
    (record { apart = rows_apart (λ r. get_or labels r []) (length labels) 0 a p.order p.apart; once = p.once; to = p.to; from = p.from })
    (λ r s m h e. same r s m (subst (λ k. s < k) count (flagged_below f s h)) e)

-- where rows of one label have one value
pub picked_best : (by : List ℕ) (labels : List Row) (key : Row) (a : List ℕ) (f : List Bool) → ArePicked by labels key a f → (beats : ℤ → ℤ → Bool) → ((v w : ℤ) → beats v w ≡ false → beats w v ≡ false → v ≡ w)
    → (vs : List ℤ) → length vs ≡ length labels → ((r s : ℕ) → Among r a → s < length labels → get_or labels r [] ≡ get_or labels s [] → get_or vs r (pos 0) ≡ get_or vs s (pos 0))
    → (z : ℤ) (r : ℕ) → Among r a → z ≡ get_or vs r (pos 0) → ((s : ℕ) → Among s a → beats (get_or vs s (pos 0)) z ≡ false) → best_flagged beats vs f ≡ Some z
picked_best by labels key a f p beats tie vs long same z r m e top =
    let count = p.count in
    let low : (s : ℕ) → IsIn f s → s < length labels = λ s h. subst (λ k. s < k) count (flagged_below f s h) in
    let w = p.to r m in
    best_is beats tie vs f (omega (arith, count, long)) z w.0 w.1 (e ∙ same r w.0 m (low w.0 w.1) (sym w.2))
    (λ s h. let q = p.from s h in ap (λ v. beats v z) (sym (same q.0 s q.1 (low s h) q.2)) ∙ top q.0 q.1)
