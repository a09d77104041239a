-- Lists unpacked and packed alike: where a function goes along with each interval attribute, it takes what is unpacked and packed
-- of one list to what is unpacked and packed of the other.
use Rattle.std.proofs.Common.{◌≡◌, ◌↔◌, inl, inr, suc, not, ◌&&◌, ℤ, pos, ◌+ℤ◌, ◌-ℤ◌, List, [], ◌∷◌, length, map, refl, sym, ap, ◌∙◌, subst, Ordering}
use Rattle.std.specs.Bool.{IsTrue}
use Rattle.std.specs.Cmp.{IsTotalOrder}
use Rattle.std.specs.Int.RustNames.{int_le}
use Rattle.std.specs.List.{filter, flat_map, list_all}
use Rattle.std.proofs.lemmas.List.{length-map}
use Rattle.base_core.specs.Sets.{in_order, is_within, are_same}
use Rattle.base_core.proofs.SetLemmas.{In, Ascends, Separates, In-in_order, Ascends-in_order, in_after, same_by_members}
use Rattle.base_core.proofs.MemberLemmas.{In-map, In-flat_map, In-filter, has-In}
use Rattle.base_core.proofs.SetOperatorLemmas.{same_tests, is_within-In}
use Rattle.base_core.proofs.OrderingLemmas.{not_before_itself}
use Rattle.interval_core.specs.Members.{Span, at_point, members}
use Rattle.interval_core.specs.Packing.{Side, unpack1, has_at, is_longest, spanned, pack1, unpack, pack_each, pack}
use Rattle.cell_core.proofs.Listing.{Distinct, put_longer}
use Rattle.cell_core.proofs.UnpackedLemmas.{unpack_ascends}

-- f goes along with an interval attribute, of what is shaped so
pub record Alike {X Y : Type 0} (Shaped : X → Type 0) (f : X → Y) (a : Side X) (b : Side Y) : Type 0 where
  pub of : (x : X) → Shaped x → b.of (f x) ≡ a.of x
  pub put : (x : X) (i : Span) → Shaped x → f (a.put x i) ≡ b.put (f x) i
  pub keeps : (x : X) (i : Span) → Shaped x → Shaped (a.put x i)

-- and with each of a list
abbrev pub AllAlike : {X Y : Type 0} → (X → Type 0) → (X → Y) → List (Side X) → List (Side Y) → Type 0
AllAlike Shaped f [] [] = Unit {0}
AllAlike Shaped f [] (b ∷ bs) = ⊥
AllAlike Shaped f (a ∷ rest) [] = ⊥
AllAlike Shaped f (a ∷ rest) (b ∷ bs) = Alike Shaped f a b × AllAlike Shaped f rest bs

-- s has what f makes of the members of r, which are shaped so, and nothing else
pub record IsImage {X Y : Type 0} (Shaped : X → Type 0) (f : X → Y) (r : List X) (s : List Y) : Type 0 where
  pub shaped : (x : X) → In x r → Shaped x
  pub to : (x : X) → In x r → In (f x) s
  pub from : (y : Y) → In y s → (x : X) × In x r × (y ≡ f x)

-- ---- what is in an unpacked and in a packed list

module _ {X : Type 0} (cmp : X → X → Ordering) (o : IsTotalOrder cmp) (same : Separates cmp) where
  pub In-unpack1 : (a : Side X) (r : List X) (y : X)
      → In y (unpack1 cmp a r) ↔ ((x : X) × (p : ℤ) × In x r × In p (members (a.of x)) × (y ≡ a.put x (at_point p)))
  In-unpack1 a r y =
      let each : X → List X = λ x. map (λ p. a.put x (at_point p)) (members (a.of x)) in
      let set = In-in_order cmp o same y (flat_map each r) in
      let all = In-flat_map each y r in (
        λ i. let w = all.0 (set.0 i) in
            let v = (In-map (λ p. a.put w.0 (at_point p)) y (members (a.of w.0))).0 w.2 in
            (w.0, v.0, w.1, v.1, v.2),
        λ h. set.1 (all.1 (h.0, h.2, (In-map (λ p. a.put h.0 (at_point p)) y (members (a.of h.0))).1 (h.1, h.3, h.4))),
      )

  pub In-spanned : (a : Side X) (r : List X) (y : X)
      → In y (spanned cmp a r) ↔ ((x : X) × (z : X) × In x r × In z r × (y ≡ a.put x ((a.of x).0, (a.of z).1)))
  In-spanned a r y =
      let each : X → List X = λ x. map (λ z. a.put x ((a.of x).0, (a.of z).1)) r in
      let all = In-flat_map each y r in (
        λ i. let w = all.0 i in
            let v = (In-map (λ z. a.put w.0 ((a.of w.0).0, (a.of z).1)) y r).0 w.2 in
            (w.0, v.0, w.1, v.1, v.2),
        λ h. all.1 (h.0, h.2, (In-map (λ z. a.put h.0 ((a.of h.0).0, (a.of z).1)) y r).1 (h.1, h.3, h.4)),
      )

  pub In-pack1 : (a : Side X) (r : List X) (y : X) → In y (pack1 cmp a r) ↔ (In y (spanned cmp a r) × IsTrue (is_longest cmp a r y))
  In-pack1 a r y =
      let set = In-in_order cmp o same y (filter (is_longest cmp a r) (spanned cmp a r)) in
      let kept = In-filter (is_longest cmp a r) y (spanned cmp a r) in
      (λ i. kept.0 (set.0 i), λ h. set.1 (kept.1 h))

  -- ---- both are in order

  pub Ascends-pack_each : (sides : List (Side X)) (r : List X) → Ascends cmp r → Ascends cmp (pack_each cmp sides r)
  Ascends-pack_each [] r h = h
  Ascends-pack_each (a ∷ rest) r h =
      Ascends-pack_each rest (pack1 cmp a r) (Ascends-in_order cmp o same (filter (is_longest cmp a r) (spanned cmp a r)))

  pub Ascends-pack : (sides : List (Side X)) (r : List X) → Ascends cmp r → Ascends cmp (pack cmp sides r)
  Ascends-pack sides r h = Ascends-pack_each sides (unpack cmp sides r) (unpack_ascends cmp o same sides r h)

-- ---- the number of a set's members

module _ {X : Type 0} (cmp : X → X → Ordering) (o : IsTotalOrder cmp) (same : Separates cmp) where
  length_distinct : (xs : List X) → Distinct xs → length (in_order cmp xs) ≡ length xs
  length_distinct [] h = refl
  length_distinct (x ∷ xs) h =
      put_longer cmp same x (in_order cmp xs) (λ i. h.0 ((In-in_order cmp o same x xs).0 i)) ∙ ap suc (length_distinct xs h.1)

  -- what a function that tells members apart makes of a list in order
  distinct_map : {Y : Type 0} (f : X → Y) (xs : List X) → ((x z : X) → In x xs → In z xs → f x ≡ f z → x ≡ z) → Ascends cmp xs → Distinct (map f xs)
  distinct_map f [] one h = tt
  distinct_map f (x ∷ xs) one h = (
    λ i. let w = (In-map f (f x) xs).0 i in
        let e : x ≡ w.0 = one x w.0 (inl refl) (inr w.1) w.2 in
        not_before_itself cmp o x (in_after cmp o same x x xs h.0 (subst (λ z. In z xs) (sym e) w.1)),
    distinct_map f xs (λ y z i j. one y z (inr i) (inr j)) h.1,
  )

-- ---- unpacked and packed alike

module _ {X Y : Type 0} (cmp : X → X → Ordering) (o : IsTotalOrder cmp) (same : Separates cmp) (cmp' : Y → Y → Ordering) (o' : IsTotalOrder cmp') (same' : Separates cmp')
    (Shaped : X → Type 0) (f : X → Y) (g : Y → X) (back : (x : X) → Shaped x → g (f x) ≡ x) where
  one : (x z : X) → Shaped x → Shaped z → f x ≡ f z → x ≡ z
  one x z h k e = sym (back x h) ∙ ap g e ∙ back z k

  -- what is shaped so is in r where its image is in s
  In-back : (r : List X) (s : List Y) → IsImage Shaped f r s → (x : X) → Shaped x → In (f x) s → In x r
  In-back r s h x shaped i =
      let w = h.from (f x) i in
      let e : w.0 ≡ x = one w.0 x (h.shaped w.0 w.1) shaped (sym w.2) in
      subst (λ z. In z r) e w.1

  pub In-image : (r : List X) (s : List Y) → IsImage Shaped f r s → (x : X) → Shaped x → In x r ↔ In (f x) s
  In-image r s h x shaped = (h.to x, In-back r s h x shaped)

  image-unpack1 : (a : Side X) (b : Side Y) → Alike Shaped f a b → (r : List X) (s : List Y) → IsImage Shaped f r s → IsImage Shaped f (unpack1 cmp a r) (unpack1 cmp' b s)
  image-unpack1 a b k r s h = record {
    shaped = λ y i.
        let w = (In-unpack1 cmp o same a r y).0 i in
        subst Shaped (sym w.4) (k.keeps w.0 (at_point w.1) (h.shaped w.0 w.2));
    to = λ y i.
        let w = (In-unpack1 cmp o same a r y).0 i in
        let shaped : Shaped w.0 = h.shaped w.0 w.2 in
        let m : In w.1 (members (b.of (f w.0))) = subst (λ j. In w.1 (members j)) (sym (k.of w.0 shaped)) w.3 in
        (In-unpack1 cmp' o' same' b s (f y)).1 (f w.0, w.1, h.to w.0 w.2, m, ap f w.4 ∙ k.put w.0 (at_point w.1) shaped);
    from = λ y i.
        let w = (In-unpack1 cmp' o' same' b s y).0 i in
        let v = h.from w.0 w.2 in
        let shaped : Shaped v.0 = h.shaped v.0 v.1 in
        let x : X = a.put v.0 (at_point w.1) in
        let m : In w.1 (members (a.of v.0)) = subst (λ j. In w.1 (members j)) (ap b.of v.2 ∙ k.of v.0 shaped) w.3 in
        (x, (In-unpack1 cmp o same a r x).1 (v.0, w.1, v.1, m, refl), w.4 ∙ ap (λ z. b.put z (at_point w.1)) v.2 ∙ sym (k.put v.0 (at_point w.1) shaped));
  }

  longest-alike : (a : Side X) (b : Side Y) → Alike Shaped f a b → (r : List X) (s : List Y) → IsImage Shaped f r s → (x : X) → Shaped x → is_longest cmp' b s (f x) ≡ is_longest cmp a r x
  longest-alike a b k r s h x shaped =
      let at : (p : ℤ) → has_at cmp' b s (f x) p ≡ has_at cmp a r x p = λ p.
      let z : X = a.put x (at_point p) in
      let e : f z ≡ b.put (f x) (at_point p) = k.put x (at_point p) shaped in
      let u = has-In cmp o same r z in
      let v = has-In cmp' o' same' s (b.put (f x) (at_point p)) in
      same_tests (has_at cmp' b s (f x) p) (has_at cmp a r x p) (
        λ t. u.1 (In-back r s h z (k.keeps x (at_point p) shaped) (subst (λ y. In y s) (sym e) (v.0 t))),
        λ t. v.1 (subst (λ y. In y s) e (h.to z (u.0 t))),
      ) in
      let i = k.of x shaped in
      λ t. int_le (i t).0 (i t).1 && (list_all (λ p. at p t) (members (i t)) && (not (at ((i t).0 -ℤ pos 1) t) && not (at ((i t).1 +ℤ pos 1) t)))

  image-pack1 : (a : Side X) (b : Side Y) → Alike Shaped f a b → (r : List X) (s : List Y) → IsImage Shaped f r s → IsImage Shaped f (pack1 cmp a r) (pack1 cmp' b s)
  image-pack1 a b k r s h =
      let all : (y : X) → In y (spanned cmp a r) → Shaped y = λ y i.
      let v = (In-spanned cmp o same a r y).0 i in
      subst Shaped (sym v.4) (k.keeps v.0 ((a.of v.0).0, (a.of v.1).1) (h.shaped v.0 v.2)) in
      record {
        shaped = λ y i. all y ((In-pack1 cmp o same a r y).0 i).0;
        to = λ y i.
            let w = (In-pack1 cmp o same a r y).0 i in
            let v = (In-spanned cmp o same a r y).0 w.0 in
            let begin = sym (k.of v.0 (h.shaped v.0 v.2)) in
            let end = sym (k.of v.1 (h.shaped v.1 v.3)) in
            let e : f y ≡ b.put (f v.0) ((b.of (f v.0)).0, (b.of (f v.1)).1) =
            ap f v.4 ∙ k.put v.0 ((a.of v.0).0, (a.of v.1).1) (h.shaped v.0 v.2) ∙ (λ t. b.put (f v.0) ((begin t).0, (end t).1)) in
            (In-pack1 cmp' o' same' b s (f y)).1 (
              (In-spanned cmp' o' same' b s (f y)).1 (f v.0, f v.1, h.to v.0 v.2, h.to v.1 v.3, e),
              longest-alike a b k r s h y (all y w.0) ∙ w.1,
            );
        from = λ y i.
            let w = (In-pack1 cmp' o' same' b s y).0 i in
            let v = (In-spanned cmp' o' same' b s y).0 w.0 in
            let x = h.from v.0 v.2 in
            let z = h.from v.1 v.3 in
            let first = h.shaped x.0 x.1 in
            let begin : b.of v.0 ≡ a.of x.0 = ap b.of x.2 ∙ k.of x.0 first in
            let end : b.of v.1 ≡ a.of z.0 = ap b.of z.2 ∙ k.of z.0 (h.shaped z.0 z.1) in
            let i : Span = ((a.of x.0).0, (a.of z.0).1) in
            let m : X = a.put x.0 i in
            let e : y ≡ f m = v.4 ∙ (λ t. b.put (x.2 t) ((begin t).0, (end t).1)) ∙ sym (k.put x.0 i first) in
            let longest : IsTrue (is_longest cmp a r m) = sym (longest-alike a b k r s h m (k.keeps x.0 i first)) ∙ ap (is_longest cmp' b s) (sym e) ∙ w.1 in
            (m, (In-pack1 cmp o same a r m).1 ((In-spanned cmp o same a r m).1 (x.0, z.0, x.1, z.1, refl), longest), e);
      }

  pub image-unpack : (sides : List (Side X)) (others : List (Side Y)) → AllAlike Shaped f sides others → (r : List X) (s : List Y) → IsImage Shaped f r s → IsImage Shaped f (unpack cmp sides r) (unpack cmp' others s)
  image-unpack [] [] k r s h = h
  image-unpack [] (b ∷ bs) k r s h = absurd k
  image-unpack (a ∷ rest) [] k r s h = absurd k
  image-unpack (a ∷ rest) (b ∷ bs) k r s h = image-unpack rest bs k.1 (unpack1 cmp a r) (unpack1 cmp' b s) (image-unpack1 a b k.0 r s h)

  image-pack_each : (sides : List (Side X)) (others : List (Side Y)) → AllAlike Shaped f sides others → (r : List X) (s : List Y) → IsImage Shaped f r s → IsImage Shaped f (pack_each cmp sides r) (pack_each cmp' others s)
  image-pack_each [] [] k r s h = h
  image-pack_each [] (b ∷ bs) k r s h = absurd k
  image-pack_each (a ∷ rest) [] k r s h = absurd k
  image-pack_each (a ∷ rest) (b ∷ bs) k r s h = image-pack_each rest bs k.1 (pack1 cmp a r) (pack1 cmp' b s) (image-pack1 a b k.0 r s h)

  pub image-pack : (sides : List (Side X)) (others : List (Side Y)) → AllAlike Shaped f sides others → (r : List X) (s : List Y) → IsImage Shaped f r s → IsImage Shaped f (pack cmp sides r) (pack cmp' others s)
  image-pack sides others k r s h = image-pack_each sides others k (unpack cmp sides r) (unpack cmp' others s) (image-unpack sides others k r s h)

  -- ---- what an image says of the two lists

  -- the one list comes back from the other, put in its own order
  pub list_back : (r : List X) (s : List Y) → Ascends cmp r → IsImage Shaped f r s → r ≡ in_order cmp (map g s)
  list_back r s up h =
      same_by_members cmp o same r (in_order cmp (map g s)) up (Ascends-in_order cmp o same (map g s)) (λ x.
      let set = In-in_order cmp o same x (map g s) in
      let all = In-map g x s in (
        λ i. set.1 (all.1 (f x, h.to x i, sym (back x (h.shaped x i)))),
        λ i. let w = all.0 (set.0 i) in
            let v = h.from w.0 w.1 in
            let e : v.0 ≡ x = sym (back v.0 (h.shaped v.0 v.1)) ∙ ap g (sym v.2) ∙ sym w.2 in
            subst (λ z. In z r) e v.1,
      ))

  -- and it has as many members
  pub same_length : (r : List X) (s : List Y) → Ascends cmp r → Ascends cmp' s → IsImage Shaped f r s → length r ≡ length s
  same_length r s up up' h =
      let is : in_order cmp' (map f r) ≡ s =
      same_by_members cmp' o' same' (in_order cmp' (map f r)) s (Ascends-in_order cmp' o' same' (map f r)) up' (λ y.
      let set = In-in_order cmp' o' same' y (map f r) in
      let all = In-map f y r in (
        λ i. let w = all.0 (set.0 i) in subst (λ z. In z s) (sym w.2) (h.to w.0 w.1),
        λ i. set.1 (all.1 (h.from y i)),
      )) in
      let distinct : Distinct (map f r) = distinct_map cmp o same f r (λ x z i j. one x z (h.shaped x i) (h.shaped z j)) up in
      sym (length-map r f) ∙ sym (length_distinct cmp' o' same' (map f r) distinct) ∙ ap length is

  -- ---- two lists and two others compare alike

  pub within_alike : (r r' : List X) (s s' : List Y) → IsImage Shaped f r s → IsImage Shaped f r' s' → is_within cmp' s s' ≡ is_within cmp r r'
  within_alike r r' s s' h h' =
      let u = is_within-In cmp o same r r' in
      let v = is_within-In cmp' o' same' s s' in
      same_tests (is_within cmp' s s') (is_within cmp r r') (
        λ t. u.1 (λ x i. In-back r' s' h' x (h.shaped x i) (v.0 t (f x) (h.to x i))),
        λ t. v.1 (λ y i. let w = h.from y i in subst (λ z. In z s') (sym w.2) (h'.to w.0 (u.0 t w.0 w.1))),
      )

  pub same_alike : (r r' : List X) (s s' : List Y) → IsImage Shaped f r s → IsImage Shaped f r' s' → are_same cmp' s s' ≡ are_same cmp r r'
  same_alike r r' s s' h h' =
      let one_way = within_alike r r' s s' h h' in
      let other_way = within_alike r' r s' s h' h in
      λ t. one_way t && other_way t
