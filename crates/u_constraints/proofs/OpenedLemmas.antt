-- Unpacking takes each member for itself, and keeps what its sides do not change.
--     Opens      the one is the other at a point of each side
--     in_unpack      what is in an unpacked list
--     unpack_within      what is in a greater one
--     AllKeep, opens_keeps      what no side changes
--     touched_unpack      unpacked, what is touched is touched
use Rattle.std.proofs.Common.{◌≡◌, ◌↔◌, ℤ, Bool, List, [], ◌∷◌, refl, sym, ap, ◌∙◌, subst, Ordering}
use Rattle.std.specs.Cmp.{IsTotalOrder}
use Rattle.base_core.proofs.SetLemmas.{In, Separates}
use Rattle.interval_core.specs.Members.{Span, at_point, members}
use Rattle.interval_core.specs.Packing.{Side, unpack1, unpack}
use Rattle.u_set.proofs.ImageLemmas.{In-unpack1}
use Rattle.u_constraints.proofs.TouchedLemmas.{IsTouched}

-- y is x at a point of each of the sides
abbrev pub Opens : {X : Type 0} → List (Side X) → X → X → Type 0
Opens [] x y = x ≡ y
Opens (a ∷ rest) x y = (p : ℤ) × In p (members (a.of x)) × Opens rest (a.put x (at_point p)) y

-- f is the same whatever the sides are
abbrev pub AllKeep : {X Y : Type 0} → (X → Y) → List (Side X) → Type 0
AllKeep f [] = Unit {0}
AllKeep {X = X} f (a ∷ rest) = ((x : X) (i : Span) → f (a.put x i) ≡ f x) × AllKeep f rest

pub opens_keeps : {X Y : Type 0} (f : X → Y) (sides : List (Side X)) → AllKeep f sides → (x y : X) → Opens sides x y → f y ≡ f x
opens_keeps f [] k x y w = ap f (sym w)
opens_keeps f (a ∷ rest) k x y w = opens_keeps f rest k.1 (a.put x (at_point w.0)) y w.2 ∙ k.0 x (at_point w.0)

module _ {X : Type 0} (cmp : X → X → Ordering) (o : IsTotalOrder cmp) (same : Separates cmp) where
  pub in_unpack : (sides : List (Side X)) (r : List X) (y : X) → In y (unpack cmp sides r) ↔ ((x : X) × In x r × Opens sides x y)
  in_unpack [] r y = (λ i. (y, i, refl), λ w. subst (λ z. In z r) w.2 w.1)
  in_unpack (a ∷ rest) r y =
      let more = in_unpack rest (unpack1 cmp a r) y in (
        λ i.
            let w = more.0 i in
            let v = (In-unpack1 cmp o same a r w.0).0 w.1 in
            (v.0, v.2, (v.1, v.3, subst (λ z. Opens rest z y) v.4 w.2)),
        λ w.
            let z : X = a.put w.0 (at_point w.2.0) in
            more.1 (z, (In-unpack1 cmp o same a r z).1 (w.0, w.2.0, w.1, w.2.1, refl), w.2.2),
      )

  pub unpack_within : (sides : List (Side X)) (r s : List X) → ((x : X) → In x r → In x s) → (y : X) → In y (unpack cmp sides r) → In y (unpack cmp sides s)
  unpack_within sides r s h y i = let w = (in_unpack sides r y).0 i in (in_unpack sides s y).1 (w.0, h w.0 w.1, w.2)

  -- unpacked, what is touched is touched
  pub touched_unpack : {Y : Type 0} (f : X → Y) (test : Y → Bool) (sides : List (Side X)) → AllKeep f sides → (old all few : List X) → IsTouched f test old all few
      → IsTouched f test (unpack cmp sides old) (unpack cmp sides all) (unpack cmp sides few)
  touched_unpack f test sides keep old all few is = record {
    touched = λ y. (
      λ i.
          let w = (in_unpack sides few y).0 i in
          let v = (is.touched w.0).0 w.1 in
          ((in_unpack sides all y).1 (w.0, v.0, w.2), ap test (opens_keeps f sides keep w.0 y w.2) ∙ v.1),
      λ t.
          let w = (in_unpack sides all y).0 t.0 in
          (in_unpack sides few y).1 (w.0, (is.touched w.0).1 (w.1, ap test (sym (opens_keeps f sides keep w.0 y w.2)) ∙ t.1), w.2),
    );
    rest = λ y i t.
        let w = (in_unpack sides all y).0 i in
        (in_unpack sides old y).1 (w.0, is.rest w.0 w.1 (ap test (sym (opens_keeps f sides keep w.0 y w.2)) ∙ t), w.2);
  }
