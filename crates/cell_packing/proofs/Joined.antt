-- Pieces in order and apart are the longest runs of what they cover.
use Rattle.std.proofs.Common.{◌≡◌, ℕ, zero, suc, ◌<◌, ◌≤◌, List, [], ◌∷◌, ◌++◌, length, take, set, get_or, ◌↔◌, ◌⊎◌, inl, inr, arith, sym, ap, subst, refl, ◌∙◌, Ordering, max}
use Rattle.std.specs.declared.cmp.Ordering.TheVariants.{Equal}
use Rattle.std.specs.Cmp.{IsTotalOrder}
use Rattle.std.specs.List.{AllByRecursion}
use Rattle.std.proofs.lemmas.Bool.{cases_lt}
use Rattle.std.proofs.lemmas.Cmp.{tied_back, alike_right}
use Rattle.base_core.proofs.OrderingLemmas.{tied-not_Less}
use Rattle.base_core.proofs.ListLemmas.{AllByRecursion-push}
use Rattle.cell_packing.specs.Covering.{Among}
use Rattle.cell_packing.specs.Packed.{IsIndexRun}
use Rattle.cell_packing.specs.declared.Piece.{Piece}
use Rattle.cell_packing.specs.Pieces.{CoversOne, Covers, HasPiece, Apart, AreApart, NotAfter, AllNotAfter, Meets}

pub IsIndexRun-iff : (P Q : ℕ → Type 0) → ((i : ℕ) → P i ↔ Q i) → (a z : ℕ) → IsIndexRun P a z → IsIndexRun Q a z
IsIndexRun-iff P Q e a z r = record {
  some = r.some;
  each = λ i f g. (e i).0 (r.each i f g);
  before = λ i f q. r.before i f ((e i).1 q);
  after = λ q. r.after ((e _).1 q);
}

first_of_runs : (P : ℕ → Type 0) (a z b w p : ℕ) → IsIndexRun P a z → IsIndexRun P b w → a ≤ p → p < w → a ≤ b
first_of_runs P zero z b w p r s h g = omega arith
first_of_runs P (suc a) z b w p r s h g =
    elim (cases_lt a b) [
      | inl l ↦ l
      | inr l ↦ absurd (r.before a refl (s.each a l (omega arith)))
    ]

last_of_runs : (P : ℕ → Type 0) (a z b w p : ℕ) → IsIndexRun P a z → IsIndexRun P b w → p < z → b ≤ p → w ≤ z
last_of_runs P a z b w p r s h g =
    elim (cases_lt z w) [
      | inl l ↦ absurd (r.after (s.each z (omega arith) l))
      | inr l ↦ l
    ]

-- two runs that share a cell are one
pub IsIndexRun-one : (P : ℕ → Type 0) (a z b w p : ℕ) → IsIndexRun P a z → IsIndexRun P b w → a ≤ p → p < z → b ≤ p → p < w → (a ≡ b) × (z ≡ w)
IsIndexRun-one P a z b w p r s f g h k =
    let x = first_of_runs P a z b w p r s f k in
    let x' = first_of_runs P b w a z p s r h g in
    let y = last_of_runs P a z b w p r s g h in
    let y' = last_of_runs P b w a z p s r k f in
    (omega arith, omega arith)

-- l, with x gone into it
abbrev pub joined : {K : Type 0} → Piece K → Piece K → Piece K
joined l x = record { key = l.key; begin = l.begin; end = max l.end x.end }

all_at : {X : Type 0} (P : X → Type 0) (xs : List X) (x : X) → AllByRecursion P xs → Among x xs → P x
all_at P [] x h g = absurd g
all_at P (y ∷ ys) x h g = elim g [ inl e ↦ subst P e h.0 | inr m ↦ all_at P ys x h.1 m ]

all_prefix : {X : Type 0} (P : X → Type 0) (xs ys : List X) → AllByRecursion P (xs ++ ys) → AllByRecursion P xs × AllByRecursion P ys
all_prefix P [] ys h = (tt, h)
all_prefix P (x ∷ xs) ys h = let w = all_prefix P xs ys h.1 in ((h.0, w.0), w.1)

all_weaker : {X : Type 0} (P Q : X → Type 0) (xs : List X) → ((x : X) → P x → Q x) → AllByRecursion P xs → AllByRecursion Q xs
all_weaker P Q [] e h = tt
all_weaker P Q (x ∷ xs) e h = (e x h.0, all_weaker P Q xs e h.1)

-- a list by its last element
split_last : {X : Type 0} (xs : List X) (m : ℕ) (d : X) → suc m ≡ length xs → xs ≡ take m xs ++ get_or xs m d ∷ []
split_last [] m d h = absurd (omega arith)
split_last (x ∷ []) zero d h = refl
split_last (x ∷ y ∷ ys) zero d h = absurd (omega arith)
split_last (x ∷ []) (suc m) d h = absurd (omega arith)
split_last (x ∷ y ∷ ys) (suc m) d h = ap (λ zs. x ∷ zs) (split_last (y ∷ ys) m d (omega arith))

set_last : {X : Type 0} (xs : List X) (m : ℕ) (v : X) → suc m ≡ length xs → set xs m v ≡ take m xs ++ v ∷ []
set_last [] m v h = absurd (omega arith)
set_last (x ∷ []) zero v h = refl
set_last (x ∷ y ∷ ys) zero v h = absurd (omega arith)
set_last (x ∷ []) (suc m) v h = absurd (omega arith)
set_last (x ∷ y ∷ ys) (suc m) v h = ap (λ zs. x ∷ zs) (set_last (y ∷ ys) m v (omega arith))

at_last : {X : Type 0} (xs : List X) (m : ℕ) (l : X) → suc m ≡ length xs → l ≡ get_or xs m l → xs ≡ take m xs ++ l ∷ []
at_last xs m l h e = split_last xs m l h ∙ ap (λ v. take m xs ++ v ∷ []) (sym e)

pub same_read : {X : Type 0} (xs : List X) (m : ℕ) (a b : X) → m < length xs → a ≡ get_or xs m a → b ≡ get_or xs m b → a ≡ b
same_read [] m a b h e f = absurd (omega arith)
same_read (x ∷ xs) zero a b h e f = e ∙ sym f
same_read (x ∷ xs) (suc m) a b h e f = same_read xs m a b (omega arith) e f

module _ {K : Type 0} (R : K → K → Ordering) (o : IsTotalOrder R) where
  -- keys that compare Equal
  eq_back : (x y : K) → R x y ≡ Equal → R y x ≡ Equal
  eq_back x y h = tied_back o x y h

  eq_trans : (x y z : K) → R x y ≡ Equal → R y z ≡ Equal → R x z ≡ Equal
  eq_trans x y z h g = o.congr x y z h ∙ g

  pub covers_by : (xs : List (Piece K)) (k : K) (i : ℕ) → Covers R xs k i → (x : Piece K) × Among x xs × (R x.key k ≡ Equal) × (x.begin ≤ i) × (i < x.end)
  covers_by [] k i h = absurd h
  covers_by (x ∷ xs) k i h =
      elim h [
        | inl w ↦ (x, inl refl, w.0, w.1, w.2)
        | inr w ↦ let r = covers_by xs k i w in (r.0, inr r.1, r.2, r.3, r.4)
      ]

  pub covers_from : (xs : List (Piece K)) (x : Piece K) (k : K) (i : ℕ) → Among x xs → R x.key k ≡ Equal → x.begin ≤ i → i < x.end → Covers R xs k i
  covers_from [] x k i m e h g = absurd m
  covers_from (y ∷ ys) x k i m e h g =
      elim m [
        | inl q ↦ inl (subst (λ (w : Piece K). (R w.key k ≡ Equal) × (w.begin ≤ i) × (i < w.end)) (sym q) (e, h, g))
        | inr w ↦ inr (covers_from ys x k i w e h g)
      ]

  has_from : (xs : List (Piece K)) (x : Piece K) (k : K) (a z : ℕ) → Among x xs → R x.key k ≡ Equal → x.begin ≡ a → x.end ≡ z → HasPiece R xs k a z
  has_from [] x k a z m e h g = absurd m
  has_from (y ∷ ys) x k a z m e h g =
      elim m [
        | inl q ↦ inl (subst (λ (w : Piece K). (R w.key k ≡ Equal) × (w.begin ≡ a) × (w.end ≡ z)) (sym q) (e, h, g))
        | inr w ↦ inr (has_from ys x k a z w e h g)
      ]

  has_by : (xs : List (Piece K)) (k : K) (a z : ℕ) → HasPiece R xs k a z → (x : Piece K) × Among x xs × (R x.key k ≡ Equal) × (x.begin ≡ a) × (x.end ≡ z)
  has_by [] k a z h = absurd h
  has_by (x ∷ xs) k a z h =
      elim h [
        | inl w ↦ (x, inl refl, w.0, w.1, w.2)
        | inr w ↦ let r = has_by xs k a z w in (r.0, inr r.1, r.2, r.3, r.4)
      ]

  -- a piece of one key is the same, or ends before, or begins after
  beside : (xs : List (Piece K)) (x y : Piece K) → AreApart R xs → Among x xs → Among y xs → R x.key y.key ≡ Equal → (x ≡ y) ⊎ ((x.end < y.begin) ⊎ (y.end < x.begin))
  beside [] x y h m n e = absurd m
  beside (w ∷ ws) x y h m n e =
      elim m [
        | inl p ↦ elim n [
          | inl q ↦ inl (sym p ∙ q)
          | inr q ↦ inr (elim (subst (λ v. Apart R v y) p (all_at _ ws y h.1 q)) [ inl l ↦ absurd (tied-not_Less R _ _ e l) | inr l ↦ inl l.1 ])
        ]
        | inr p ↦ elim n [
          | inl q ↦ inr (elim (subst (λ v. Apart R v x) q (all_at _ ws x h.1 p)) [ inl l ↦ absurd (tied-not_Less R _ _ (eq_back _ _ e) l) | inr l ↦ inr l.1 ])
          | inr q ↦ beside ws x y h.2 p q e
        ]
      ]

  pub room : (xs : List (Piece K)) (x : Piece K) → AreApart R xs → Among x xs → x.begin < x.end
  room [] x h m = absurd m
  room (y ∷ ys) x h m = elim m [ inl e ↦ subst (λ (v : Piece K). v.begin < v.end) e h.0 | inr w ↦ room ys x h.2 w ]

  run_of : (xs : List (Piece K)) (x : Piece K) (k : K) → AreApart R xs → Among x xs → R x.key k ≡ Equal → IsIndexRun (Covers R xs k) x.begin x.end
  run_of xs x k h m q = record {
    some = room xs x h m;
    each = λ i f g. covers_from xs x k i m q f g;
    before = λ i e c. let y = covers_by xs k i c in let b = room xs x h m in
        elim (beside xs x y.0 h m y.1 (eq_trans _ _ _ q (eq_back _ _ y.2))) [
          | inl p ↦ let q : x.begin ≡ (y.0).begin = ap (λ (v : Piece K). v.begin) p in absurd (omega (arith, y.3))
          | inr s ↦ elim s [ inl l ↦ absurd (omega (arith, y.3)) | inr l ↦ absurd (omega (arith, y.4)) ]
        ];
    after = λ c. let y = covers_by xs k x.end c in
        elim (beside xs x y.0 h m y.1 (eq_trans _ _ _ q (eq_back _ _ y.2))) [
          | inl p ↦ let q : x.end ≡ (y.0).end = ap (λ (v : Piece K). v.end) p in absurd (omega (arith, y.4))
          | inr s ↦ elim s [ inl l ↦ absurd (omega (arith, y.3)) | inr l ↦ let b = room xs x h m in absurd (omega (arith, y.4)) ]
        ];
  }

  -- pieces that are apart are the longest runs of what they cover
  pub run_from_apart : (xs : List (Piece K)) (k : K) (a z : ℕ) → AreApart R xs → HasPiece R xs k a z → IsIndexRun (Covers R xs k) a z
  run_from_apart xs k a z h m =
      let y = has_by xs k a z m in
      subst (λ b. IsIndexRun (Covers R xs k) b z) y.3 (subst (λ b. IsIndexRun (Covers R xs k) (y.0).begin b) y.4 (run_of xs y.0 k h y.1 y.2))

  pub apart_from_run : (xs : List (Piece K)) (k : K) (a z : ℕ) → AreApart R xs → IsIndexRun (Covers R xs k) a z → HasPiece R xs k a z
  apart_from_run xs k a z h r =
      let y = covers_by xs k a (r.each a (omega arith) r.some) in
      let e = IsIndexRun-one (Covers R xs k) a z (y.0).begin (y.0).end a r (run_of xs y.0 k h y.1 y.2) (omega arith) r.some y.3 y.4 in
      has_from xs y.0 k a z y.1 y.2 (sym e.0) (sym e.1)

  pub covers_append : (xs ys : List (Piece K)) (k : K) (i : ℕ) → Covers R (xs ++ ys) k i ↔ Covers R xs k i ⊎ Covers R ys k i
  covers_append [] ys k i = (λ h. inr h, λ h. elim h [ inl w ↦ absurd w | inr w ↦ w ])
  covers_append (x ∷ xs) ys k i =
      let ih = covers_append xs ys k i in (
        λ h. elim h [ inl w ↦ inl (inl w) | inr w ↦ elim (ih.0 w) [ inl v ↦ inl (inr v) | inr v ↦ inr v ] ],
        λ h. elim h [ inl w ↦ elim w [ inl v ↦ inl v | inr v ↦ inr (ih.1 (inl v)) ] | inr w ↦ inr (ih.1 (inr w)) ],
      )

  apart_push : (xs : List (Piece K)) (x : Piece K) → AreApart R xs → x.begin < x.end → AllByRecursion (λ y. Apart R y x) xs → AreApart R (xs ++ x ∷ [])
  apart_push [] x h l a = (l, tt, tt)
  apart_push (y ∷ ys) x h l a = (h.0, AllByRecursion-push (Apart R y) ys x h.1 a.0, apart_push ys x h.2 l a.1)

  apart_prefix : (xs : List (Piece K)) (x : Piece K) → AreApart R (xs ++ x ∷ []) → AreApart R xs × (x.begin < x.end) × AllByRecursion (λ y. Apart R y x) xs
  apart_prefix [] x h = (tt, h.0, tt)
  apart_prefix (y ∷ ys) x h = let w = apart_prefix ys x h.2 in let v = all_prefix (Apart R y) ys (x ∷ []) h.1 in ((h.0, v.0, w.0), w.1, (v.1.0, w.2))

  covers_joined : (xs : List (Piece K)) (l x : Piece K) → R l.key x.key ≡ Equal → l.begin ≤ x.begin → x.begin ≤ l.end → (k : K) (i : ℕ) → Covers R (xs ++ joined l x ∷ []) k i ↔ Covers R (xs ++ l ∷ []) k i ⊎ CoversOne R x k i
  covers_joined xs l x e f g k i =
      let a = covers_append xs (joined l x ∷ []) k i in
      let b = covers_append xs (l ∷ []) k i in (
        λ h. elim (a.0 h) [
          | inl w ↦ inl (b.1 (inl w))
          | inr w ↦ elim w [
            | inl v ↦ elim (cases_lt i l.end) [
              | inl u ↦ inl (b.1 (inr (inl (v.0, v.1, u))))
              | inr u ↦ inr (eq_trans _ _ _ (eq_back _ _ e) v.0, omega arith, omega (arith, v.2))
            ]
            | inr v ↦ absurd v
          ]
        ],
        λ h. elim h [
          | inl w ↦ elim (b.0 w) [
            | inl v ↦ a.1 (inl v)
            | inr v ↦ elim v [ inl u ↦ a.1 (inr (inl (u.0, u.1, omega (arith, u.2)))) | inr u ↦ absurd u ]
          ]
          | inr w ↦ a.1 (inr (inl (eq_trans _ _ _ e w.0, omega (arith, w.1), omega (arith, w.2))))
        ],
      )

  behind : (y l x : Piece K) → Apart R y l → l.begin < l.end → Apart R l x → Apart R y x
  behind y l x a s b =
      elim a [
        | inl p ↦ elim b [
          | inl q ↦ inl (o.trans _ _ _ p q)
          | inr q ↦ inl (sym (alike_right o l.key x.key y.key q.0) ∙ p)
        ]
        | inr p ↦ elim b [
          | inl q ↦ inl (o.congr y.key l.key x.key p.0 ∙ q)
          | inr q ↦ inr (eq_trans _ _ _ p.0 q.0, omega (arith, p.1, q.1))
        ]
      ]

  pub covers_pushed : (xs : List (Piece K)) (x : Piece K) (k : K) (i : ℕ) → Covers R (xs ++ x ∷ []) k i ↔ Covers R xs k i ⊎ CoversOne R x k i
  covers_pushed xs x k i =
      let a = covers_append xs (x ∷ []) k i in (
        λ h. elim (a.0 h) [ inl w ↦ inl w | inr w ↦ elim w [ inl v ↦ inr v | inr v ↦ absurd v ] ],
        λ h. elim h [ inl w ↦ a.1 (inl w) | inr w ↦ a.1 (inr (inl w)) ],
      )

  -- a step of the loop: the next piece meets the last, which stands at m, and goes into it
  pub apart_set : (xs : List (Piece K)) (m : ℕ) (l x : Piece K) → suc m ≡ length xs → l ≡ get_or xs m l → AreApart R xs → AreApart R (set xs m (joined l x))
  apart_set xs m l x h e a =
      let w = apart_prefix (take m xs) l (subst (AreApart R) (at_last xs m l h e) a) in
      let some = w.1 in
      subst (AreApart R) (sym (set_last xs m (joined l x) h))
      (apart_push (take m xs) (joined l x) w.0 (omega arith) (all_weaker (λ y. Apart R y l) _ (take m xs) (λ y b. b) w.2))

  pub covers_set : (xs : List (Piece K)) (m : ℕ) (l x : Piece K) → suc m ≡ length xs → l ≡ get_or xs m l → Meets R l x → l.begin ≤ x.begin → (k : K) (i : ℕ) → Covers R (set xs m (joined l x)) k i ↔ Covers R xs k i ⊎ CoversOne R x k i
  covers_set xs m l x h e met q k i =
      subst (λ ys. Covers R ys k i ↔ Covers R xs k i ⊎ CoversOne R x k i) (sym (set_last xs m (joined l x) h))
      (subst (λ ys. Covers R (take m xs ++ joined l x ∷ []) k i ↔ Covers R ys k i ⊎ CoversOne R x k i) (sym (at_last xs m l h e)) (covers_joined (take m xs) l x met.0 q met.1 k i))

  -- the next piece is apart from the last, and goes behind it
  pub apart_push_last : (xs : List (Piece K)) (m : ℕ) (l x : Piece K) → suc m ≡ length xs → l ≡ get_or xs m l → AreApart R xs → x.begin < x.end → Apart R l x → AreApart R (xs ++ x ∷ [])
  apart_push_last xs m l x h e a s b =
      let f = at_last xs m l h e in
      let a' = subst (AreApart R) f a in
      let w = apart_prefix (take m xs) l a' in
      subst (λ ys. AreApart R (ys ++ x ∷ [])) (sym f)
      (apart_push (take m xs ++ l ∷ []) x a' s (AllByRecursion-push (λ y. Apart R y x) (take m xs) l (all_weaker (λ y. Apart R y l) (λ y. Apart R y x) (take m xs) (λ y c. behind y l x c w.1 b) w.2) b))

  pub apart_first : (xs : List (Piece K)) (x : Piece K) → length xs ≡ 0 → x.begin < x.end → AreApart R (xs ++ x ∷ [])
  apart_first [] x e s = (s, tt, tt)
  apart_first (y ∷ ys) x e s = absurd (omega arith)

  -- the last does not begin after x
  pub last_not_after : (xs : List (Piece K)) (m : ℕ) (l x : Piece K) → suc m ≡ length xs → l ≡ get_or xs m l → AllNotAfter R xs x → NotAfter R l x
  last_not_after xs m l x h e a =
      (all_prefix (λ y. NotAfter R y x) (take m xs) (l ∷ []) (subst (λ ys. AllNotAfter R ys x) (at_last xs m l h e) a)).1.0

  pub apart_where_not_meets : (l x : Piece K) → NotAfter R l x → (Meets R l x → ⊥) → Apart R l x
  apart_where_not_meets l x n h =
      elim n [
        | inl p ↦ inl p
        | inr p ↦ elim (cases_lt l.end x.begin) [ inl u ↦ inr (p.0, u) | inr u ↦ absurd (h (p.0, u)) ]
      ]

  pub begin_where_meets : (l x : Piece K) → NotAfter R l x → Meets R l x → l.begin ≤ x.begin
  begin_where_meets l x n m = elim n [ inl p ↦ absurd (tied-not_Less R _ _ m.0 p) | inr p ↦ p.1 ]

  pub covers_more : (ys : List (Piece K)) (x : Piece K) (out new : List (Piece K)) → ((k : K) (j : ℕ) → Covers R new k j ↔ Covers R out k j ⊎ CoversOne R x k j) → ((k : K) (j : ℕ) → Covers R out k j ↔ Covers R ys k j) → (k : K) (j : ℕ) → Covers R new k j ↔ Covers R (ys ++ x ∷ []) k j
  covers_more ys x out new n e k j =
      let a = n k j in
      let b = e k j in
      let c = covers_pushed ys x k j in (
        λ w. c.1 (elim (a.0 w) [ inl v ↦ inl (b.0 v) | inr v ↦ inr v ]),
        λ w. a.1 (elim (c.0 w) [ inl v ↦ inl (b.1 v) | inr v ↦ inr v ]),
      )
