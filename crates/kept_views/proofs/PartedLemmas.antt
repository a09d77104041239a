-- Unpacking and packing part by part: what passes a test that sees no listed interval is unpacked, and packed, by itself.
--     parted      of what a function gives of each member of a list
--     unpack_parted, pack_parted      of what is unpacked, and packed, on sides that the test does not see
use Rattle.std.proofs.Common.{◌≡◌, ◌⊎◌, ◌↔◌, inl, inr, ℤ, pos, ◌-ℤ◌, ◌+ℤ◌, Bool, false, not, ◌&&◌, List, [], ◌∷◌, map, refl, sym, ap, ◌∙◌, subst, Ordering}
use Rattle.std.specs.Bool.{IsTrue}
use Rattle.std.specs.Cmp.{IsTotalOrder}
use Rattle.std.specs.Int.RustNames.{int_le}
use Rattle.std.specs.List.{filter, flat_map, list_all}
use Rattle.std.proofs.lemmas.Bool.{and_parts, not-true, true≢false}
use Rattle.base_core.specs.Sets.{in_order, has}
use Rattle.base_core.proofs.IntLemmas.{int_le-le, le_itself}
use Rattle.base_core.proofs.MemberLemmas.{In-map, In-flat_map, In-filter, list_all-In, has-In}
use Rattle.base_core.proofs.SetLemmas.{In, Separates, in_order_by_members}
use Rattle.base_core.proofs.SetOperatorLemmas.{same_tests, in_order-filter}
use Rattle.interval_core.specs.Members.{Span, at_point, members}
use Rattle.interval_core.specs.Packing.{Side, unpack1, unpack, pack1, pack_each, pack, is_longest, has_at, spanned}
use Rattle.interval_core.proofs.MembersLemmas.{In-members}

-- the test does not see the side; and its interval is the one that was put, or there is none to be put
pub record IsUnseen {X : Type 0} (p : X → Bool) (a : Side X) : Type 0 where
  pub unseen : (x : X) (i : Span) → p (a.put x i) ≡ p x
  pub held : (x : X) → ((i : Span) → a.of (a.put x i) ≡ i) ⊎ ((i : Span) → a.put x i ≡ x)

abbrev pub AreUnseen : {X : Type 0} → (X → Bool) → List (Side X) → Type 0
AreUnseen p [] = Unit {0}
AreUnseen p (a ∷ rest) = IsUnseen p a × AreUnseen p rest

module _ {X : Type 0} (cmp : X → X → Ordering) (o : IsTotalOrder cmp) (same : Separates cmp) (p : X → Bool) where
  -- what two functions give of the members of a list, of which the second is asked only of those that pass a test of their own
  pub parted : {Y : Type 0} (f g : Y → List X) (q : Y → Bool) (ys : List Y) → ((y : Y) → In y ys → (x : X) → In x (f y) → p x ≡ q y)
      → ((y : Y) → In y ys → IsTrue (q y) → (x : X) → In x (f y) ↔ In x (g y))
      → filter p (in_order cmp (flat_map f ys)) ≡ in_order cmp (flat_map g (filter q ys))
  parted f g q ys tells alike =
      sym (in_order-filter cmp o same p (flat_map f ys))
      ∙ in_order_by_members cmp o same (filter p (flat_map f ys)) (flat_map g (filter q ys)) (λ x.
      let a = In-filter p x (flat_map f ys) in
      let b = In-flat_map f x ys in
      let c = In-flat_map g x (filter q ys) in (
        λ h.
            let w = a.0 h in
            let v = b.0 w.0 in
            let t : IsTrue (q v.0) = sym (tells v.0 v.1 x v.2) ∙ w.1 in
            c.1 (v.0, (In-filter q v.0 ys).1 (v.1, t), (alike v.0 v.1 t x).0 v.2),
        λ h.
            let v = c.0 h in
            let w = (In-filter q v.0 ys).0 v.1 in
            let i = (alike v.0 w.0 w.1 x).1 v.2 in
            a.1 (b.1 (v.0, w.0, i), tells v.0 w.0 x i ∙ w.1),
      ))

  -- a member that passes is one of those that pass
  pub has_passing : (r : List X) (x : X) → IsTrue (p x) → has cmp (filter p r) x ≡ has cmp r x
  has_passing r x t =
      let a = has-In cmp o same (filter p r) x in
      let b = has-In cmp o same r x in
      let c = In-filter p x r in
      same_tests (has cmp (filter p r) x) (has cmp r x) (λ h. b.1 (c.0 (a.0 h)).0, λ h. a.1 (c.1 (b.0 h, t)))

  -- ---- one side

  module _ (a : Side X) (u : IsUnseen p a) where
    unpack1_parted : (r : List X) → filter p (unpack1 cmp a r) ≡ unpack1 cmp a (filter p r)
    unpack1_parted r =
        let f : X → List X = λ x. map (λ n. a.put x (at_point n)) (members (a.of x)) in
        parted f f p r (λ y i x m.
        let w = (In-map (λ n. a.put y (at_point n)) x (members (a.of y))).0 m in
        ap p w.2 ∙ u.unseen y (at_point w.0)) (λ y i t x. (λ m. m, λ m. m))

    has_at_passing : (r : List X) (y : X) → IsTrue (p y) → (n : ℤ) → has_at cmp a (filter p r) y n ≡ has_at cmp a r y n
    has_at_passing r y t n = has_passing r (a.put y (at_point n)) (u.unseen y (at_point n) ∙ t)

    longest_passing : (r : List X) (y : X) → IsTrue (p y) → is_longest cmp a (filter p r) y ≡ is_longest cmp a r y
    longest_passing r y t =
        let e = has_at_passing r y t in
        λ k. int_le (a.of y).0 (a.of y).1 && (list_all (λ n. e n k) (members (a.of y)) && (not (e ((a.of y).0 -ℤ pos 1) k) && not (e ((a.of y).1 +ℤ pos 1) k)))

    -- what a longest run has
    record Run (r : List X) (y : X) : Type 0 where
      first : IsTrue (has_at cmp a r y (a.of y).0)
      last : IsTrue (has_at cmp a r y (a.of y).1)
      before : has_at cmp a r y ((a.of y).0 -ℤ pos 1) ≡ false

    run_of : (r : List X) (y : X) → IsTrue (is_longest cmp a r y) → Run r y
    run_of r y h =
        let i = (a.of y).0 in
        let j = (a.of y).1 in
        let outer : Bool = not (has_at cmp a r y (i -ℤ pos 1)) && not (has_at cmp a r y (j +ℤ pos 1)) in
        let w = and_parts (int_le i j) (list_all (has_at cmp a r y) (members (a.of y)) && outer) h in
        let v = and_parts (list_all (has_at cmp a r y) (members (a.of y))) outer w.1 in
        let z = and_parts (not (has_at cmp a r y (i -ℤ pos 1))) (not (has_at cmp a r y (j +ℤ pos 1))) v.1 in
        let l = int_le-le i j w.0 in
        let all = (list_all-In (has_at cmp a r y) (members (a.of y))).0 v.0 in
        record {
          first = all i ((In-members (a.of y) i).1 (le_itself i, l));
          last = all j ((In-members (a.of y) j).1 (l, le_itself j));
          before = not-true (has_at cmp a r y (i -ℤ pos 1)) z.0;
        }

    -- where no interval is put there is no longest run
    unput : (r : List X) (y : X) → ((i : Span) → a.put y i ≡ y) → IsTrue (is_longest cmp a r y) → ⊥
    unput r y none h =
        let w = run_of r y h in
        let own : (n : ℤ) → has_at cmp a r y n ≡ has cmp r y = λ n. ap (has cmp r) (none (at_point n)) in
        true≢false (sym w.first ∙ own (a.of y).0 ∙ sym (own ((a.of y).0 -ℤ pos 1)) ∙ w.before)

    In-spanned : (r : List X) (y : X) → In y (spanned cmp a r) ↔ ((x : X) × In x r × ((z : X) × In z r × (y ≡ a.put x ((a.of x).0, (a.of z).1))))
    In-spanned r y =
        let f : X → List X = λ x. map (λ z. a.put x ((a.of x).0, (a.of z).1)) r in
        let b = In-flat_map f y r in (
          λ h. let w = b.0 h in let v = (In-map (λ z. a.put w.0 ((a.of w.0).0, (a.of z).1)) y r).0 w.2 in (w.0, w.1, v),
          λ h. b.1 (h.0, h.1, (In-map (λ z. a.put h.0 ((a.of h.0).0, (a.of z).1)) y r).1 h.2),
        )

    -- a longest run that passes has its last point among what passes
    last_passing : (r : List X) (y x z : X) → IsTrue (p y) → IsTrue (is_longest cmp a r y) → y ≡ a.put x ((a.of x).0, (a.of z).1)
        → (w : X) × In w (filter p r) × (y ≡ a.put x ((a.of x).0, (a.of w).1))
    last_passing r y x z t h e =
        elim (u.held y) [
          | inr none ↦ absurd (unput r y none h)
          | inl back ↦ elim (u.held x) [
            | inr none ↦
                let is : y ≡ x = e ∙ none ((a.of x).0, (a.of z).1) in
                absurd (unput r y (λ i. subst (λ q. a.put q i ≡ q) (sym is) (none i)) h)
            | inl own ↦
                let at : Span = at_point (a.of y).1 in
                let w : X = a.put y at in
                let there : In w r = (has-In cmp o same r w).0 (run_of r y h).last in
                let ends : (a.of w).1 ≡ (a.of z).1 = ap (λ (s : Span). s.1) (back at) ∙ ap (λ (s : Span). s.1) (ap a.of e ∙ own ((a.of x).0, (a.of z).1)) in
                (w, (In-filter p w r).1 (there, u.unseen y at ∙ t), e ∙ (λ k. a.put x ((a.of x).0, sym ends k)))
          ]
        ]

    pack1_parted : (r : List X) → filter p (pack1 cmp a r) ≡ pack1 cmp a (filter p r)
    pack1_parted r =
        let few : List X = filter p r in
        let all : List X = filter (is_longest cmp a r) (spanned cmp a r) in
        sym (in_order-filter cmp o same p all)
        ∙ in_order_by_members cmp o same (filter p all) (filter (is_longest cmp a few) (spanned cmp a few)) (λ y.
        let b = In-filter p y all in
        let c = In-filter (is_longest cmp a r) y (spanned cmp a r) in
        let d = In-filter (is_longest cmp a few) y (spanned cmp a few) in (
          λ h.
              let w = b.0 h in
              let v = c.0 w.0 in
              let s = (In-spanned r y).0 v.0 in
              let own : IsTrue (p s.0) = sym (u.unseen s.0 ((a.of s.0).0, (a.of s.2.0).1)) ∙ ap p (sym s.2.2) ∙ w.1 in
              let z = last_passing r y s.0 s.2.0 w.1 v.1 s.2.2 in
              d.1 ((In-spanned few y).1 (s.0, (In-filter p s.0 r).1 (s.1, own), z), longest_passing r y w.1 ∙ v.1),
          λ h.
              let v = d.0 h in
              let s = (In-spanned few y).0 v.0 in
              let x = (In-filter p s.0 r).0 s.1 in
              let z = (In-filter p s.2.0 r).0 s.2.1 in
              let t : IsTrue (p y) = ap p s.2.2 ∙ u.unseen s.0 ((a.of s.0).0, (a.of s.2.0).1) ∙ x.1 in
              b.1 (c.1 ((In-spanned r y).1 (s.0, x.0, (s.2.0, z.0, s.2.2)), sym (longest_passing r y t) ∙ v.1), t),
        ))

  -- ---- all sides

  pub unpack_parted : (sides : List (Side X)) → AreUnseen p sides → (r : List X) → filter p (unpack cmp sides r) ≡ unpack cmp sides (filter p r)
  unpack_parted [] u r = refl
  unpack_parted (a ∷ rest) u r = unpack_parted rest u.1 (unpack1 cmp a r) ∙ ap (unpack cmp rest) (unpack1_parted a u.0 r)

  each_parted : (sides : List (Side X)) → AreUnseen p sides → (r : List X) → filter p (pack_each cmp sides r) ≡ pack_each cmp sides (filter p r)
  each_parted [] u r = refl
  each_parted (a ∷ rest) u r = each_parted rest u.1 (pack1 cmp a r) ∙ ap (pack_each cmp rest) (pack1_parted a u.0 r)

  pub pack_parted : (sides : List (Side X)) → AreUnseen p sides → (r : List X) → filter p (pack cmp sides r) ≡ pack cmp sides (filter p r)
  pack_parted sides u r = each_parted sides u (unpack cmp sides r) ∙ ap (pack_each cmp sides) (unpack_parted sides u r)
