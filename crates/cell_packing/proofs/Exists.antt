-- Each place of a bounded set that can be tested lies in a packed box, so to unpack the packed form gives the set back.
use Rattle.std.proofs.Common.{◌≡◌, ℕ, zero, suc, ℤ, pos, negsuc, ◌+ℤ◌, ◌-ℤ◌, ◌≤ℤ◌, List, [], ◌∷◌, ◌↔◌, arith, subst, refl}
use Rattle.std.proofs.lemmas.Int.{ints, by_lt_z}
use Rattle.interval_core.specs.Members.{Span}
use Rattle.cell_packing.specs.Packed.{IsRun, IsPacked, Has}
use Rattle.cell_packing.proofs.Runs.{IsPacked-points}

-- how far b is above a
gap : (a b : ℤ) → a ≤ℤ b → (n : ℕ) × (b ≡ a +ℤ pos n)
gap a b h = go (b -ℤ a) refl
  where
    go : (d : ℤ) → b -ℤ a ≡ d → (n : ℕ) × (b ≡ a +ℤ pos n)
    go (pos n) e = (n, omega (arith, ints))
    go (negsuc n) e = absurd (omega (arith, ints))

module _ (P : ℤ → Type 0) (test : (p : ℤ) → Dec (P p)) where
  -- whether P holds of n + 1 numbers from b on
  dec_each : (n : ℕ) (b : ℤ) → Dec ((p : ℤ) → b ≤ℤ p → p ≤ℤ (b +ℤ pos n) → P p)
  dec_each zero b =
      elim (test b) [
        | yes h ↦ yes (λ p f g. let e : b ≡ p = omega (arith, ints) in subst P e h)
        | no h ↦ no (λ w. h (w b (omega (arith, ints)) (omega (arith, ints))))
      ]
  dec_each (suc n) b =
      elim (test b) [
        | yes h ↦ elim (dec_each n (b +ℤ pos 1)) [
          | yes w ↦ yes (λ p f g. by_lt_z b p (λ l. w p (omega (arith, ints)) (omega (arith, ints))) (λ l. let e : b ≡ p = omega (arith, ints) in subst P e h))
          | no k ↦ no (λ w. k (λ p f g. w p (omega (arith, ints)) (omega (arith, ints))))
        ]
        | no h ↦ no (λ w. h (w b (omega (arith, ints)) (omega (arith, ints))))
      ]

  pub dec_run : (i : Span) → Dec (IsRun P i)
  dec_run i = by_lt_z i.1 i.0 (λ l. no (λ r. let s = r.some in omega (arith, ints))) (λ l. go l (test (i.0 -ℤ pos 1)) (test (i.1 +ℤ pos 1)))
    where
      go : i.0 ≤ℤ i.1 → Dec (P (i.0 -ℤ pos 1)) → Dec (P (i.1 +ℤ pos 1)) → Dec (IsRun P i)
      go l (yes h) d = no (λ r. r.before h)
      go l (no h) (yes k) = no (λ r. r.after k)
      go l (no h) (no k) =
          let w = gap i.0 i.1 l in
          let e : i.1 ≡ i.0 +ℤ pos w.0 = w.1 in
          elim (dec_each w.0 i.0) [
            | yes a ↦ yes (record { some = l; each = λ p f g. a p f (omega (arith, ints)); before = h; after = k })
            | no a ↦ no (λ r. a (λ p f g. r.each p f (omega (arith, ints))))
          ]

  down : (n : ℕ) (p : ℤ) → P p → ¬ (P (p -ℤ pos n)) → (b : ℤ) × (b ≤ℤ p) × ((q : ℤ) → b ≤ℤ q → q ≤ℤ p → P q) × ¬ (P (b -ℤ pos 1))
  down zero p h k = let e : p ≡ p -ℤ pos 0 = omega (arith, ints) in absurd (k (subst P e h))
  down (suc n) p h k =
      elim (test (p -ℤ pos 1)) [
        | yes g ↦
            let e : p -ℤ pos 1 -ℤ pos n ≡ p -ℤ pos (suc n) = omega (arith, ints) in
            let w = down n (p -ℤ pos 1) g (λ v. k (subst P e v)) in
            let b : ℤ = w.0 in
            let l : b ≤ℤ (p -ℤ pos 1) = w.1 in
            (b, omega (arith, ints), (λ q f v. by_lt_z q p (λ u. w.2 q f (omega (arith, ints))) (λ u. let s : p ≡ q = omega (arith, ints) in subst P s h)), w.3)
        | no g ↦ (p, omega (arith, ints), (λ q f v. let s : p ≡ q = omega (arith, ints) in subst P s h), g)
      ]

  up : (n : ℕ) (p : ℤ) → P p → ¬ (P (p +ℤ pos n)) → (b : ℤ) × (p ≤ℤ b) × ((q : ℤ) → p ≤ℤ q → q ≤ℤ b → P q) × ¬ (P (b +ℤ pos 1))
  up zero p h k = let e : p ≡ p +ℤ pos 0 = omega (arith, ints) in absurd (k (subst P e h))
  up (suc n) p h k =
      elim (test (p +ℤ pos 1)) [
        | yes g ↦
            let e : p +ℤ pos 1 +ℤ pos n ≡ p +ℤ pos (suc n) = omega (arith, ints) in
            let w = up n (p +ℤ pos 1) g (λ v. k (subst P e v)) in
            let b : ℤ = w.0 in
            let l : (p +ℤ pos 1) ≤ℤ b = w.1 in
            (b, omega (arith, ints), (λ q f v. by_lt_z p q (λ u. w.2 q (omega (arith, ints)) v) (λ u. let s : p ≡ q = omega (arith, ints) in subst P s h)), w.3)
        | no g ↦ (p, omega (arith, ints), (λ q f v. let s : p ≡ q = omega (arith, ints) in subst P s h), g)
      ]

  -- a number of P lies in a run, where P holds between two bounds only
  pub run_at : (low high p : ℤ) → ((q : ℤ) → P q → (low ≤ℤ q) × (q ≤ℤ high)) → P p → (i : Span) × (i.0 ≤ℤ p) × (p ≤ℤ i.1) × IsRun P i
  run_at low high p within h =
      let c = within p h in
      let d = gap (low -ℤ pos 1) p (omega (arith, ints)) in
      let u = gap p (high +ℤ pos 1) (omega (arith, ints)) in
      let de : p ≡ low -ℤ pos 1 +ℤ pos d.0 = d.1 in
      let ue : high +ℤ pos 1 ≡ p +ℤ pos u.0 = u.1 in
      let f = down d.0 p h (λ v. let w = within _ v in omega (arith, ints)) in
      let g = up u.0 p h (λ v. let w = within _ v in omega (arith, ints)) in
      let a : f.0 ≤ℤ p = f.1 in
      let b : p ≤ℤ g.0 = g.1 in (
        (f.0, g.0),
        a,
        b,
        record {
          some = omega (arith, ints);
          each = λ q v w. by_lt_z p q (λ l. g.2 q (omega (arith, ints)) w) (λ l. f.2 q v l);
          before = f.3;
          after = g.3;
        },
      )

pub dec_packed : (S : List ℤ → Type 0) → ((ps : List ℤ) → Dec (S ps)) → (is : List Span) → Dec (IsPacked S is)
dec_packed S test [] = test []
dec_packed S test (i ∷ is) = dec_run _ (λ p. dec_packed (λ ps. S (p ∷ ps)) (λ ps. test (p ∷ ps)) is) i

-- the set is within the bounds, one for each side
abbrev pub IsWithin : List Span → (List ℤ → Type 0) → Type 0
IsWithin [] S = (p : ℤ) (ps : List ℤ) → ¬ (S (p ∷ ps))
IsWithin (b ∷ bs) S = (¬ (S [])) × ((p : ℤ) (ps : List ℤ) → S (p ∷ ps) → (b.0 ≤ℤ p) × (p ≤ℤ b.1)) × ((p : ℤ) → IsWithin bs (λ ps. S (p ∷ ps)))

pub some_grid_point : (S : List ℤ → Type 0) (is : List Span) → IsPacked S is → (ps : List ℤ) × S ps
some_grid_point S [] h = ([], h)
some_grid_point S (i ∷ is) h = let some = h.some in let w = some_grid_point _ is (h.each i.0 (omega (arith, ints)) some) in (i.0 ∷ w.0, w.1)

-- each place of the set lies in a packed box
pub box_at : (bs : List Span) (S : List ℤ → Type 0) → ((ps : List ℤ) → Dec (S ps)) → IsWithin bs S → (ps : List ℤ) → S ps → (is : List Span) × Has is ps × IsPacked S is
box_at [] S test w [] h = ([], tt, h)
box_at [] S test w (p ∷ ps) h = absurd (w p ps h)
box_at (b ∷ bs) S test w [] h = absurd (w.0 h)
box_at (b ∷ bs) S test w (p ∷ ps) h =
    let v = box_at bs (λ qs. S (p ∷ qs)) (λ qs. test (p ∷ qs)) (w.2 p) ps h in
    let is : List Span = v.0 in
    let r = run_at (λ q. IsPacked (λ qs. S (q ∷ qs)) is) (λ q. dec_packed (λ qs. S (q ∷ qs)) (λ qs. test (q ∷ qs)) is) b.0 b.1 p (λ q g. let s = some_grid_point _ is g in w.1 q s.0 s.1) v.2 in
    (r.0 ∷ is, (r.1, r.2, v.1), r.3)

-- to unpack the packed form gives the set back
pub unpack_packed : (bs : List Span) (S : List ℤ → Type 0) → ((ps : List ℤ) → Dec (S ps)) → IsWithin bs S → (ps : List ℤ) → ((is : List Span) × Has is ps × IsPacked S is) ↔ S ps
unpack_packed bs S test w ps = (λ h. IsPacked-points S h.0 ps h.2 h.1, box_at bs S test w ps)

-- two sets with one packed form are one
pub same_from_packed : (bs cs : List Span) (S S' : List ℤ → Type 0) → ((ps : List ℤ) → Dec (S ps)) → ((ps : List ℤ) → Dec (S' ps)) → IsWithin bs S → IsWithin cs S' → ((is : List Span) → IsPacked S is ↔ IsPacked S' is) → (ps : List ℤ) → S ps ↔ S' ps
same_from_packed bs cs S S' test test' w w' e ps = (
  λ h. let v = box_at bs S test w ps h in IsPacked-points S' v.0 ps ((e v.0).0 v.2) v.1,
  λ h. let v = box_at cs S' test' w' ps h in IsPacked-points S v.0 ps ((e v.0).1 v.2) v.1,
)
