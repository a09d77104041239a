-- Typing that is made of parts is E06 only where one of them is.
use Rattle.std.proofs.Common.{◌≡◌, Bool, true, false, ◌&&◌, ◌||◌, not, List, Option, Some, None, Ok, Err, if◌then◌else◌, refl}
use Rattle.point_core.specs.declared.fault.Place.{Place}
use Rattle.point_core.specs.declared.fault.Code.{Code}
use Rattle.point_core.specs.declared.fault.Code.TheVariants.{E06}
use Rattle.point_core.specs.Faults.{OrFault}
use Rattle.scalar_typing.specs.Typings.{◌>>=◌, value_or, refused}
use Rattle.type_check.specs.Refusals.{IsNotE06}

pub then-fine : {X Y : Type 0} (x : OrFault X) (f : X → OrFault Y) → IsNotE06 x → ((a : X) → IsNotE06 (f a)) → IsNotE06 (x >>= f)
then-fine (Ok a) f h g = g a
then-fine (Err e) f h g = h

pub two-fine : {X Y Z : Type 0} (x : OrFault X) (y : OrFault Y) (f : X → Y → OrFault Z) → IsNotE06 x → IsNotE06 y → ((a : X) (b : Y) → IsNotE06 (f a b)) → IsNotE06 (x >>= (λ a. y >>= f a))
two-fine (Ok a) y f h g k = then-fine y (f a) g (k a)
two-fine (Err e) y f h g k = h

pub value-fine : {X : Type 0} (place : Place) (code : Code) → (code ≡ E06 → ⊥) → (o : Option X) → IsNotE06 (value_or place code o)
value-fine place code other None = other
value-fine place code other (Some x) = tt

-- a value that is there
pub there-fine : {X : Type 0} (place : Place) (code : Code) (b : Bool) (x : X) → b ≡ true → IsNotE06 (value_or place code (if b then Some x else None))
there-fine place code true x e = tt
there-fine place code false x e = cc

pub if-fine : {X : Type 0} (place : Place) (code : Code) → (code ≡ E06 → ⊥) → (b : Bool) (x : X) → IsNotE06 (if b then Ok x else refused place code)
if-fine place code other true x = tt
if-fine place code other false x = other

pub unless-fine : {X : Type 0} (place : Place) (code : Code) → (code ≡ E06 → ⊥) → (b : Bool) (x : X) → IsNotE06 (if b then refused place code else Ok x)
unless-fine place code other true x = other
unless-fine place code other false x = tt

pub holds-fine : {X : Type 0} (place : Place) (code : Code) (b : Bool) (x : X) → b ≡ true → IsNotE06 (if b then Ok x else refused place code)
holds-fine place code true x e = tt
holds-fine place code false x e = cc

pub choice-fine : {X : Type 0} (b : Bool) (x y : OrFault X) → IsNotE06 x → IsNotE06 y → IsNotE06 (if b then x else y)
choice-fine true x y h g = h
choice-fine false x y h g = g

-- ---- truth values

pub or-right : (a b : Bool) → (a || b) ≡ false → b ≡ false
or-right true b e = cc
or-right false b e = e

pub not-left : (a b : Bool) → not (a && b) ≡ false → a ≡ true
not-left true b e = refl
not-left false b e = cc

pub not-right : (a b : Bool) → not (a && b) ≡ false → b ≡ true
not-right true true e = refl
not-right true false e = cc
not-right false b e = cc

pub not-false : (a : Bool) → not a ≡ false → a ≡ true
not-false true e = refl
not-false false e = cc
