-- How many marked rows have a number, as rows come and go.
use Rattle.std.proofs.Common.{◌≡◌, ◌↔◌, inl, inr, ℕ, zero, suc, ◌+◌, ◌^◌, ◌<◌, ◌≤◌, Bool, true, false, List, [], ◌∷◌, set, length, get_or, arith, refl, sym, ap, ◌∙◌, subst}
use Rattle.std.specs.Prelude.{ltb, eqb}
use Rattle.std.specs.List.{All}
use Rattle.std.proofs.lemmas.Bool.{true≢false, cases_lt, eqb-true}
use Rattle.std.proofs.lemmas.Bool.Decides.{nat_tests}
use Rattle.std.proofs.lemmas.List.{get_or-set_other, get_or-set_same, length-set, get_or_default}
use Rattle.cell_boxes.specs.Tallies.{IsIn}
use Rattle.cell_boxes.proofs.TallyLemmas.{equal_or}
use Rattle.u_summarize.specs.Counts.{one, weigh, any, tests_from, image, IsCounted}

-- ---- flags one by one

pub weigh_in : (t : ℕ → Bool) (numbers : List ℕ) (f : List Bool) (i m : ℕ) → i < length f → length f ≡ length numbers → get_or numbers i m ≡ m → get_or f i true ≡ false
    → weigh t numbers (set f i true) ≡ weigh t numbers f + one (t m)
weigh_in t [] f i m l n e h = absurd (omega (arith, l, n))
weigh_in t (x ∷ xs) [] i m l n e h = absurd (omega arith)
weigh_in t (x ∷ xs) (true ∷ fs) zero m l n e h = absurd (true≢false h)
weigh_in t (x ∷ xs) (false ∷ fs) zero m l n e h = let q : one (t x) ≡ one (t m) = ap (λ y. one (t y)) e in omega (arith, q)
weigh_in t (x ∷ xs) (true ∷ fs) (suc i) m l n e h = let q = weigh_in t xs fs i m (omega (arith, l)) (omega (arith, n)) e h in omega (arith, q)
weigh_in t (x ∷ xs) (false ∷ fs) (suc i) m l n e h = weigh_in t xs fs i m (omega (arith, l)) (omega (arith, n)) e h

pub weigh_out : (t : ℕ → Bool) (numbers : List ℕ) (f : List Bool) (i m : ℕ) → i < length f → length f ≡ length numbers → get_or numbers i m ≡ m → get_or f i false ≡ true
    → weigh t numbers f ≡ weigh t numbers (set f i false) + one (t m)
weigh_out t [] f i m l n e h = absurd (omega (arith, l, n))
weigh_out t (x ∷ xs) [] i m l n e h = absurd (omega arith)
weigh_out t (x ∷ xs) (false ∷ fs) zero m l n e h = absurd (true≢false (sym h))
weigh_out t (x ∷ xs) (true ∷ fs) zero m l n e h = let q : one (t x) ≡ one (t m) = ap (λ y. one (t y)) e in omega (arith, q)
weigh_out t (x ∷ xs) (true ∷ fs) (suc i) m l n e h = let q = weigh_out t xs fs i m (omega (arith, l)) (omega (arith, n)) e h in omega (arith, q)
weigh_out t (x ∷ xs) (false ∷ fs) (suc i) m l n e h = weigh_out t xs fs i m (omega (arith, l)) (omega (arith, n)) e h

one_most : (b : Bool) → one b ≤ 1
one_most true = omega arith
one_most false = omega arith

pub weigh_most : (t : ℕ → Bool) (numbers : List ℕ) (f : List Bool) → weigh t numbers f ≤ length f
weigh_most t [] f = omega arith
weigh_most t (x ∷ xs) [] = omega arith
weigh_most t (x ∷ xs) (true ∷ fs) = let a = one_most (t x) in let b = weigh_most t xs fs in omega (arith, a, b)
weigh_most t (x ∷ xs) (false ∷ fs) = let b = weigh_most t xs fs in omega (arith, b)

-- a row that is in has its weight
pub weigh_some : (t : ℕ → Bool) (numbers : List ℕ) (f : List Bool) (i m : ℕ) → i < length numbers → get_or numbers i m ≡ m → IsIn f i → t m ≡ true → 0 < weigh t numbers f
weigh_some t [] f i m l e h p = absurd (omega (arith, l))
weigh_some t (x ∷ xs) [] i m l e h p = absurd (true≢false (sym h))
weigh_some t (x ∷ xs) (true ∷ fs) zero m l e h p = let q : one (t x) ≡ 1 = ap (λ y. one (t y)) e ∙ ap one p in omega (arith, q)
weigh_some t (x ∷ xs) (false ∷ fs) zero m l e h p = absurd (true≢false (sym h))
weigh_some t (x ∷ xs) (true ∷ fs) (suc i) m l e h p = let q = weigh_some t xs fs i m (omega (arith, l)) e h p in omega (arith, q)
weigh_some t (x ∷ xs) (false ∷ fs) (suc i) m l e h p = weigh_some t xs fs i m (omega (arith, l)) e h p

pub some_weigh : (t : ℕ → Bool) (numbers : List ℕ) (f : List Bool) → 0 < weigh t numbers f → (i : ℕ) × (m : ℕ) × (i < length numbers) × (get_or numbers i m ≡ m) × IsIn f i × (t m ≡ true)
some_weigh t [] f l = absurd (omega (arith, l))
some_weigh t (x ∷ xs) [] l = absurd (omega (arith, l))
some_weigh t (x ∷ xs) (true ∷ fs) l = elim (t x) as (λ b. t x ≡ b → (i : ℕ) × (m : ℕ) × (i < length (x ∷ xs)) × (get_or (x ∷ xs) i m ≡ m) × IsIn (true ∷ fs) i × (t m ≡ true)) [
  | true ↦ λ e. (0, x, omega arith, refl, refl, e)
  | false ↦ λ e.
      let q : one (t x) ≡ 0 = ap one e in
      let w = some_weigh t xs fs (omega (arith, l, q)) in
      let b = w.2 in (suc w.0, w.1, omega (arith, b), w.3, w.4, w.5)
] refl
some_weigh t (x ∷ xs) (false ∷ fs) l =
    let w = some_weigh t xs fs l in
    let b = w.2 in (suc w.0, w.1, omega (arith, b), w.3, w.4, w.5)

-- ---- the numbers that some have

pub length_tests : (n a : ℕ) (t : ℕ → Bool) → length (tests_from n a t) ≡ n
length_tests zero a t = refl
length_tests (suc n) a t = ap suc (length_tests n (suc a) t)

pub get_tests : (n a : ℕ) (t : ℕ → Bool) (r : ℕ) (d : Bool) → r < n → get_or (tests_from n a t) r d ≡ t (a + r)
get_tests zero a t r d l = absurd (omega (arith, l))
get_tests (suc n) a t zero d l = let e : a ≡ a + 0 = omega arith in ap t e
get_tests (suc n) a t (suc r) d l = let e : suc a + r ≡ a + suc r = omega arith in get_tests n (suc a) t r d (omega (arith, l)) ∙ ap t e

get_test : (n : ℕ) (t : ℕ → Bool) (r : ℕ) (d : Bool) → r < n → get_or (tests_from n 0 t) r d ≡ t r
get_test n t r d l = let e : 0 + r ≡ r = omega arith in get_tests n 0 t r d l ∙ ap t e

past_tests : (n a : ℕ) (t : ℕ → Bool) (r : ℕ) (d : Bool) → n ≤ r → get_or (tests_from n a t) r d ≡ d
past_tests zero a t r d l = refl
past_tests (suc n) a t zero d l = absurd (omega (arith, l))
past_tests (suc n) a t (suc r) d l = past_tests n (suc a) t r d (omega (arith, l))

pub same_flags : (f g : List Bool) → length f ≡ length g → ((r : ℕ) → r < length f → get_or f r false ≡ get_or g r false) → f ≡ g
same_flags [] [] n h = refl
same_flags [] (y ∷ ys) n h = absurd (omega (arith, n))
same_flags (x ∷ xs) [] n h = absurd (omega (arith, n))
same_flags (x ∷ xs) (y ∷ ys) n h = λ i. h 0 (omega arith) i ∷ same_flags xs ys (omega (arith, n)) (λ r l. h (suc r) (omega (arith, l))) i

positive : (w : ℕ) → ltb 0 w ≡ true → 0 < w
positive w e = grind (arith, nat_tests)

is_positive : (w : ℕ) → 0 < w → ltb 0 w ≡ true
is_positive w e = grind (arith, nat_tests)

not_positive : (w : ℕ) → w ≡ 0 → ltb 0 w ≡ false
not_positive w e = ap (ltb 0) e

eqb_same : (m : ℕ) → eqb m m ≡ true
eqb_same m = grind (arith, nat_tests)

eqb_other : (m k : ℕ) → (m ≡ k → ⊥) → eqb m k ≡ false
eqb_other m k e = grind (arith, nat_tests)

-- a number is marked just where some marked row has it
pub in_image : (n : ℕ) (numbers : List ℕ) (f : List Bool) (m : ℕ) → IsIn (image n numbers f) m ↔ ((i : ℕ) × (m < n) × (i < length numbers) × (get_or numbers i m ≡ m) × IsIn f i)
in_image n numbers f m = (
  λ h. elim (cases_lt m n) [
    | inl l ↦
        let p = positive (weigh (eqb m) numbers f) (sym (get_test n (λ k. ltb 0 (weigh (eqb k) numbers f)) m false l) ∙ h) in
        let w = some_weigh (eqb m) numbers f p in
        let e : m ≡ w.1 = eqb-true m w.1 w.5 in
        (w.0, l, w.2, get_or_default numbers w.0 m w.1 w.2 ∙ w.3 ∙ sym e, w.4)
    | inr l ↦ absurd (true≢false (sym h ∙ past_tests n 0 (λ k. ltb 0 (weigh (eqb k) numbers f)) m false (omega (arith, l))))
  ],
  λ h. get_test n (λ k. ltb 0 (weigh (eqb k) numbers f)) m false h.1 ∙ is_positive (weigh (eqb m) numbers f) (weigh_some (eqb m) numbers f h.0 m h.2 h.3 h.4 (eqb_same m)),
)

-- ---- the counts of marked rows

module _ (n : ℕ) (numbers : List ℕ) (f : List Bool) (i m : ℕ) (inside : i < length f) (rows : length f ≡ length numbers) (own : get_or numbers i m ≡ m) (low : m < n) where
  module _ (out : get_or f i true ≡ false) where
    abbrev more : List Bool
    more = set f i true

    pub own_in : weigh (eqb m) numbers more ≡ weigh (eqb m) numbers f + 1
    own_in = weigh_in (eqb m) numbers f i m inside rows own out ∙ ap (λ b. weigh (eqb m) numbers f + one b) (eqb_same m)

    pub other_in : (k : ℕ) → (k ≡ m → ⊥) → weigh (eqb k) numbers more ≡ weigh (eqb k) numbers f
    other_in k ne = weigh_in (eqb k) numbers f i m inside rows own out ∙ ap (λ b. weigh (eqb k) numbers f + one b) (eqb_other k m ne) ∙ (let e : weigh (eqb k) numbers f + 0 ≡ weigh (eqb k) numbers f = omega arith in e)

    pub total_in : weigh any numbers more ≡ weigh any numbers f + 1
    total_in = weigh_in any numbers f i m inside rows own out

    pub room_in : (t : ℕ → Bool) → length f < 2 ^ 64 → t m ≡ true → weigh t numbers f + 1 < 2 ^ 64
    room_in t short p =
        let a = weigh_in t numbers f i m inside rows own out in
        let b = weigh_most t numbers more in
        let c : length more ≡ length f = length-set f i true in
        let d : one (t m) ≡ 1 = ap one p in
        omega (arith, a, b, c, d, short)

    -- where no marked row had the number, it is marked besides
    pub image_new : weigh (eqb m) numbers f ≡ 0 → image n numbers more ≡ set (image n numbers f) m true
    image_new z = same_flags (image n numbers more) (set (image n numbers f) m true) len (λ r l. elim (equal_or r m) [
      | inl e ↦
          let w = own_in in
          let p : 0 < weigh (eqb m) numbers more = omega (arith, w) in
          let lm : m < length (image n numbers f) = let q = length_tests n 0 (λ k. ltb 0 (weigh (eqb k) numbers f)) in omega (arith, q, low) in
          ap (λ q. get_or (image n numbers more) q false) e ∙ get_test n (λ k. ltb 0 (weigh (eqb k) numbers more)) m false low ∙ is_positive (weigh (eqb m) numbers more) p
          ∙ sym (get_or-set_same (image n numbers f) m true false lm) ∙ ap (λ q. get_or (set (image n numbers f) m true) q false) (sym e)
      | inr ne ↦ same_at r (lr r l) ne ∙ sym (get_or-set_other (image n numbers f) m r true false ne)
    ])
      where
        len : length (image n numbers more) ≡ length (set (image n numbers f) m true)
        len = length_tests n 0 (λ k. ltb 0 (weigh (eqb k) numbers more)) ∙ sym (length_tests n 0 (λ k. ltb 0 (weigh (eqb k) numbers f))) ∙ sym (length-set (image n numbers f) m true)

        lr : (r : ℕ) → r < length (image n numbers more) → r < n
        lr r l = subst (λ k. r < k) (length_tests n 0 (λ k. ltb 0 (weigh (eqb k) numbers more))) l

        same_at : (r : ℕ) → r < n → (r ≡ m → ⊥) → get_or (image n numbers more) r false ≡ get_or (image n numbers f) r false
        same_at r l ne = get_test n (λ k. ltb 0 (weigh (eqb k) numbers more)) r false l ∙ ap (ltb 0) (other_in r ne) ∙ sym (get_test n (λ k. ltb 0 (weigh (eqb k) numbers f)) r false l)

    -- where some had it, no other is
    pub image_old : 0 < weigh (eqb m) numbers f → image n numbers more ≡ image n numbers f
    image_old p = same_flags (image n numbers more) (image n numbers f) (length_tests n 0 (λ k. ltb 0 (weigh (eqb k) numbers more)) ∙ sym (length_tests n 0 (λ k. ltb 0 (weigh (eqb k) numbers f))))
        (λ r l.
        let b : r < n = subst (λ k. r < k) (length_tests n 0 (λ k. ltb 0 (weigh (eqb k) numbers more))) l in
        get_test n (λ k. ltb 0 (weigh (eqb k) numbers more)) r false b ∙ alike r ∙ sym (get_test n (λ k. ltb 0 (weigh (eqb k) numbers f)) r false b))
      where
        alike : (r : ℕ) → ltb 0 (weigh (eqb r) numbers more) ≡ ltb 0 (weigh (eqb r) numbers f)
        alike r = elim (equal_or r m) [
          | inl e ↦
              let w = own_in in
              let q : 0 < weigh (eqb m) numbers more = omega (arith, w) in
              ap (λ k. ltb 0 (weigh (eqb k) numbers more)) e ∙ is_positive (weigh (eqb m) numbers more) q ∙ sym (is_positive (weigh (eqb m) numbers f) p) ∙ ap (λ k. ltb 0 (weigh (eqb k) numbers f)) (sym e)
          | inr ne ↦ ap (ltb 0) (other_in r ne)
        ]

    pub counted_in : (total : ℕ) (counts : List ℕ) → IsCounted n numbers total counts f → (c : ℕ) → c ≡ weigh (eqb m) numbers f + 1 → IsCounted n numbers (total + 1) (set counts m c) more
    counted_in total counts is c e = record {
      rows = length-set f i true ∙ rows;
      short = let s = is.short in let q : length more ≡ length f = length-set f i true in subst (λ k. k < 2 ^ 64) (sym q) s;
      many = length-set counts m c ∙ is.many;
      all = ap (λ k. k + 1) is.all ∙ sym total_in;
      each = λ k l. elim (equal_or k m) [
        | inl q ↦
            let b : m < length counts = subst (λ j. m < j) (sym is.many) low in
            ap (λ j. get_or (set counts m c) j 0) q ∙ get_or-set_same counts m c 0 b ∙ e ∙ sym own_in ∙ ap (λ j. weigh (eqb j) numbers more) (sym q)
        | inr ne ↦ get_or-set_other counts m k c 0 ne ∙ is.each k l ∙ sym (other_in k ne)
      ];
    }

  module _ (into : get_or f i false ≡ true) where
    abbrev less : List Bool
    less = set f i false

    pub own_out : weigh (eqb m) numbers f ≡ weigh (eqb m) numbers less + 1
    own_out = weigh_out (eqb m) numbers f i m inside rows own into ∙ ap (λ b. weigh (eqb m) numbers less + one b) (eqb_same m)

    pub other_out : (k : ℕ) → (k ≡ m → ⊥) → weigh (eqb k) numbers less ≡ weigh (eqb k) numbers f
    other_out k ne =
        let e : weigh (eqb k) numbers less + 0 ≡ weigh (eqb k) numbers less = omega arith in
        sym (weigh_out (eqb k) numbers f i m inside rows own into ∙ ap (λ b. weigh (eqb k) numbers less + one b) (eqb_other k m ne) ∙ e)

    pub total_out : weigh any numbers f ≡ weigh any numbers less + 1
    total_out = weigh_out any numbers f i m inside rows own into

    -- where just this marked row had the number, it is marked no more
    pub image_gone : weigh (eqb m) numbers f ≡ 1 → image n numbers less ≡ set (image n numbers f) m false
    image_gone z = same_flags (image n numbers less) (set (image n numbers f) m false) len (λ r l. elim (equal_or r m) [
      | inl e ↦
          let w = own_out in
          let p : weigh (eqb m) numbers less ≡ 0 = omega (arith, w, z) in
          let lm : m < length (image n numbers f) = let q = length_tests n 0 (λ k. ltb 0 (weigh (eqb k) numbers f)) in omega (arith, q, low) in
          ap (λ q. get_or (image n numbers less) q false) e ∙ get_test n (λ k. ltb 0 (weigh (eqb k) numbers less)) m false low ∙ not_positive (weigh (eqb m) numbers less) p
          ∙ sym (get_or-set_same (image n numbers f) m false false lm) ∙ ap (λ q. get_or (set (image n numbers f) m false) q false) (sym e)
      | inr ne ↦ same_at r (lr r l) ne ∙ sym (get_or-set_other (image n numbers f) m r false false ne)
    ])
      where
        len : length (image n numbers less) ≡ length (set (image n numbers f) m false)
        len = length_tests n 0 (λ k. ltb 0 (weigh (eqb k) numbers less)) ∙ sym (length_tests n 0 (λ k. ltb 0 (weigh (eqb k) numbers f))) ∙ sym (length-set (image n numbers f) m false)

        lr : (r : ℕ) → r < length (image n numbers less) → r < n
        lr r l = subst (λ k. r < k) (length_tests n 0 (λ k. ltb 0 (weigh (eqb k) numbers less))) l

        same_at : (r : ℕ) → r < n → (r ≡ m → ⊥) → get_or (image n numbers less) r false ≡ get_or (image n numbers f) r false
        same_at r l ne = get_test n (λ k. ltb 0 (weigh (eqb k) numbers less)) r false l ∙ ap (ltb 0) (other_out r ne) ∙ sym (get_test n (λ k. ltb 0 (weigh (eqb k) numbers f)) r false l)

    -- where more had it, it stays
    pub image_stays : 1 < weigh (eqb m) numbers f → image n numbers less ≡ image n numbers f
    image_stays p = same_flags (image n numbers less) (image n numbers f) (length_tests n 0 (λ k. ltb 0 (weigh (eqb k) numbers less)) ∙ sym (length_tests n 0 (λ k. ltb 0 (weigh (eqb k) numbers f))))
        (λ r l.
        let b : r < n = subst (λ k. r < k) (length_tests n 0 (λ k. ltb 0 (weigh (eqb k) numbers less))) l in
        get_test n (λ k. ltb 0 (weigh (eqb k) numbers less)) r false b ∙ alike r ∙ sym (get_test n (λ k. ltb 0 (weigh (eqb k) numbers f)) r false b))
      where
        alike : (r : ℕ) → ltb 0 (weigh (eqb r) numbers less) ≡ ltb 0 (weigh (eqb r) numbers f)
        alike r = elim (equal_or r m) [
          | inl e ↦
              let w = own_out in
              let q : 0 < weigh (eqb m) numbers less = omega (arith, w, p) in
              let d : 0 < weigh (eqb m) numbers f = omega (arith, p) in
              ap (λ k. ltb 0 (weigh (eqb k) numbers less)) e ∙ is_positive (weigh (eqb m) numbers less) q ∙ sym (is_positive (weigh (eqb m) numbers f) d) ∙ ap (λ k. ltb 0 (weigh (eqb k) numbers f)) (sym e)
          | inr ne ↦ ap (ltb 0) (other_out r ne)
        ]

    pub counted_out : (total : ℕ) (counts : List ℕ) → IsCounted n numbers total counts f → (t c : ℕ) → t + 1 ≡ total → c + 1 ≡ weigh (eqb m) numbers f → IsCounted n numbers t (set counts m c) less
    counted_out total counts is t c d e = record {
      rows = length-set f i false ∙ rows;
      short = let s = is.short in let q : length less ≡ length f = length-set f i false in subst (λ k. k < 2 ^ 64) (sym q) s;
      many = length-set counts m c ∙ is.many;
      all = let a = is.all in let b = total_out in omega (arith, a, b, d);
      each = λ k l. elim (equal_or k m) [
        | inl q ↦
            let b : m < length counts = subst (λ j. m < j) (sym is.many) low in
            let w = own_out in
            let v : c ≡ weigh (eqb m) numbers less = omega (arith, w, e) in
            ap (λ j. get_or (set counts m c) j 0) q ∙ get_or-set_same counts m c 0 b ∙ v ∙ ap (λ j. weigh (eqb j) numbers less) (sym q)
        | inr ne ↦ get_or-set_other counts m k c 0 ne ∙ is.each k l ∙ sym (other_out k ne)
      ];
    }

-- ---- the counts of no rows

pub weigh_none : (t : ℕ → Bool) (numbers : List ℕ) (f : List Bool) → ((r : ℕ) → IsIn f r → ⊥) → weigh t numbers f ≡ 0
weigh_none t [] f h = refl
weigh_none t (x ∷ xs) [] h = refl
weigh_none t (x ∷ xs) (true ∷ fs) h = absurd (h 0 refl)
weigh_none t (x ∷ xs) (false ∷ fs) h = weigh_none t xs fs (λ r. h (suc r))

pub counted_none : (n : ℕ) (numbers counts : List ℕ) (f : List Bool) → length f ≡ length numbers → length f < 2 ^ 64 → length counts ≡ n → ((m : ℕ) → get_or counts m 0 ≡ 0) → ((r : ℕ) → IsIn f r → ⊥) → IsCounted n numbers 0 counts f
counted_none n numbers counts f rows short many zeros none = record {
  rows = rows;
  short = short;
  many = many;
  all = sym (weigh_none any numbers f none);
  each = λ m l. zeros m ∙ sym (weigh_none (eqb m) numbers f none);
}

pub image_none : (n : ℕ) (numbers : List ℕ) (f : List Bool) → ((r : ℕ) → IsIn f r → ⊥) → (m : ℕ) → IsIn (image n numbers f) m → ⊥
image_none n numbers f none m h = let w = (in_image n numbers f m).0 h in none w.0 w.4

pub length_image : (n : ℕ) (numbers : List ℕ) (f : List Bool) → length (image n numbers f) ≡ n
length_image n numbers f = length_tests n 0 (λ k. ltb 0 (weigh (eqb k) numbers f))

-- whether the number is marked
pub image_at : (n : ℕ) (numbers : List ℕ) (f : List Bool) (m : ℕ) (d : Bool) → m < n → get_or (image n numbers f) m d ≡ ltb 0 (weigh (eqb m) numbers f)
image_at n numbers f m d l = get_test n (λ k. ltb 0 (weigh (eqb k) numbers f)) m d l

pub unmarked : (n : ℕ) (numbers : List ℕ) (f : List Bool) (m : ℕ) (d : Bool) → m < n → weigh (eqb m) numbers f ≡ 0 → get_or (image n numbers f) m d ≡ false
unmarked n numbers f m d l e = image_at n numbers f m d l ∙ not_positive (weigh (eqb m) numbers f) e

pub flagged : (n : ℕ) (numbers : List ℕ) (f : List Bool) (m : ℕ) (d : Bool) → m < n → 0 < weigh (eqb m) numbers f → get_or (image n numbers f) m d ≡ true
flagged n numbers f m d l e = image_at n numbers f m d l ∙ is_positive (weigh (eqb m) numbers f) e

-- ---- a row that enters or leaves

module _ (n : ℕ) (numbers : List ℕ) (total : ℕ) (counts : List ℕ) (f : List Bool) (is : IsCounted n numbers total counts f) (all : All (λ (k : ℕ). k < n) numbers)
    (row m before : ℕ) (inside : row < length f) (own : m ≡ get_or numbers row m) (read : before ≡ get_or counts m before) where
  pub number_low : m < n
  number_low = let e = is.rows in subst (λ k. k < n) (sym own) (all row m (omega (arith, e, inside)))

  pub before_is : before ≡ weigh (eqb m) numbers f
  before_is = let e = is.many in let l = number_low in read ∙ get_or_default counts m before 0 (omega (arith, e, l)) ∙ is.each m l

  pub enter_room : get_or f row true ≡ false → before + 1 < 2 ^ 64
  enter_room out = subst (λ k. k + 1 < 2 ^ 64) (sym before_is) (room_in n numbers f row m inside is.rows (sym own) number_low out (eqb m) is.short (eqb_same m))

  pub total_room : get_or f row true ≡ false → total + 1 < 2 ^ 64
  total_room out = subst (λ k. k + 1 < 2 ^ 64) (sym is.all) (room_in n numbers f row m inside is.rows (sym own) number_low out any is.short refl)

  pub entered : get_or f row true ≡ false → IsCounted n numbers (total + 1) (set counts m (before + 1)) (set f row true)
  entered out = counted_in n numbers f row m inside is.rows (sym own) number_low out total counts is (before + 1) (ap (λ k. k + 1) before_is)

  pub enter_old : get_or f row true ≡ false → 0 < before → image n numbers (set f row true) ≡ image n numbers f
  enter_old out p = image_old n numbers f row m inside is.rows (sym own) number_low out (subst (λ k. 0 < k) before_is p)

  pub enter_new : get_or f row true ≡ false → before ≤ 0 → image n numbers (set f row true) ≡ set (image n numbers f) m true
  enter_new out p = let e = before_is in image_new n numbers f row m inside is.rows (sym own) number_low out (omega (arith, e, p))

  pub not_yet : before ≤ 0 → get_or (image n numbers f) m true ≡ false
  not_yet p = let e = before_is in unmarked n numbers f m true number_low (omega (arith, e, p))

  pub in_image_length : m < length (image n numbers f)
  in_image_length = subst (λ k. m < k) (sym (length_image n numbers f)) number_low

  pub leave_room : get_or f row false ≡ true → 0 < before
  leave_room into = let e = before_is in let w = own_out n numbers f row m inside is.rows (sym own) number_low into in omega (arith, e, w)

  pub total_some : get_or f row false ≡ true → 0 < total
  total_some into = let e = is.all in let w = total_out n numbers f row m inside is.rows (sym own) number_low into in omega (arith, e, w)

  pub left : get_or f row false ≡ true → (t c : ℕ) → t + 1 ≡ total → c + 1 ≡ before → IsCounted n numbers t (set counts m c) (set f row false)
  left into t c d e = counted_out n numbers f row m inside is.rows (sym own) number_low into total counts is t c d (e ∙ before_is)

  pub leave_more : get_or f row false ≡ true → 1 < before → image n numbers (set f row false) ≡ image n numbers f
  leave_more into p = image_stays n numbers f row m inside is.rows (sym own) number_low into (subst (λ k. 1 < k) before_is p)

  pub leave_last : get_or f row false ≡ true → before ≤ 1 → image n numbers (set f row false) ≡ set (image n numbers f) m false
  leave_last into p =
      let e = before_is in
      let w = own_out n numbers f row m inside is.rows (sym own) number_low into in
      image_gone n numbers f row m inside is.rows (sym own) number_low into (omega (arith, e, p, w))

  pub still_in : get_or f row false ≡ true → get_or (image n numbers f) m false ≡ true
  still_in into = let w = own_out n numbers f row m inside is.rows (sym own) number_low into in flagged n numbers f m false number_low (omega (arith, w))
