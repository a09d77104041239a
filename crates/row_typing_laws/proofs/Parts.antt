-- Outcomes that are made of parts, taken apart and put together.
--     parts-of, joined-of      what was given on the way to a value, and the value from what is given
--     value-given, value-again      a value that was there
--     check-holds, check-given, check-again, check-gives      a test that held, also where its refusal stands elsewhere
--     unless-again, unless-gives      a test that is to fail
--     then-follows, given-follows, value-follows, if-follows      one outcome follows another, part by part
use Rattle.std.proofs.Common.{◌≡◌, Bool, true, false, Option, Some, None, Ok, Err, if◌then◌else◌, refl, ap, ◌∙◌}
use Rattle.std.specs.Prelude.{option_map}
use Rattle.base_core.specs.Outcomes.{then_give}
use Rattle.point_core.specs.declared.fault.Code.{Code}
use Rattle.point_core.specs.declared.fault.Place.{Place}
use Rattle.point_core.specs.Faults.{OrFault}
use Rattle.scalar_typing.specs.Typings.{refused, value_or}
use Rattle.row_typing_laws.specs.Followings.{Follows}

-- ---- one part and what comes of it

pub parts-of : {A B : Type 0} → (m : OrFault A) (g : A → OrFault B) (b : B) → then_give m g ≡ Ok b → (a : A) × (m ≡ Ok a) × (g a ≡ Ok b)
parts-of (Ok a) g b h = (a, refl, h)
parts-of (Err e) g b h = absurd cc

pub joined-of : {A B : Type 0} → (m : OrFault A) (g : A → OrFault B) (a : A) (b : B) → m ≡ Ok a → g a ≡ Ok b → then_give m g ≡ Ok b
joined-of m g a b given more = ap (λ (r : OrFault _). then_give r g) given ∙ more

-- ---- values that may be missing

pub value-given : {A : Type 0} → (p : Place) (c : Code) (o : Option A) (a : A) → value_or p c o ≡ Ok a → o ≡ Some a
value-given p c None a h = absurd cc
value-given p c (Some x) a h = cc

pub value-again : {A : Type 0} → (p : Place) (c : Code) (o : Option A) (a : A) → o ≡ Some a → value_or p c o ≡ Ok a
value-again p c o a h = ap (λ (x : Option _). value_or p c x) h

-- ---- tests

pub check-holds : {A : Type 0} → (p : Place) (c : Code) (b : Bool) (x a : A) → (if b then Ok x else refused p c) ≡ Ok a → b ≡ true
check-holds p c true x a h = refl
check-holds p c false x a h = absurd cc

pub check-given : {A : Type 0} → (p : Place) (c : Code) (b : Bool) (x : A) → b ≡ true → (if b then Ok x else refused p c) ≡ Ok x
check-given p c b x h = ap (λ (t : Bool). if t then Ok x else refused p c) h

pub check-again : {A : Type 0} → (p q : Place) (c : Code) (b : Bool) (x a : A) → (if b then Ok x else refused p c) ≡ Ok a → (if b then Ok x else refused q c) ≡ Ok a
check-again p q c true x a h = h
check-again p q c false x a h = absurd cc

-- what a test gives is what it was to give
pub check-gives : {A : Type 0} → (p : Place) (c : Code) (b : Bool) (x a : A) → (if b then Ok x else refused p c) ≡ Ok a → a ≡ x
check-gives p c true x a h = cc
check-gives p c false x a h = absurd cc

pub unless-again : {A : Type 0} → (p q : Place) (c : Code) (b : Bool) (x a : A) → (if b then refused p c else Ok x) ≡ Ok a → (if b then refused q c else Ok x) ≡ Ok a
unless-again p q c true x a h = absurd cc
unless-again p q c false x a h = h

pub unless-gives : {A : Type 0} → (p : Place) (c : Code) (b : Bool) (x a : A) → (if b then refused p c else Ok x) ≡ Ok a → a ≡ x
unless-gives p c true x a h = absurd cc
unless-gives p c false x a h = cc

-- ---- outcomes that follow others

-- what is given is moved
moved_outcome : {A B : Type 0} → (A → B) → OrFault A → OrFault B
moved_outcome move (Ok a) = Ok (move a)
moved_outcome move (Err e) = Err e

pub given-follows : {A B : Type 0} → (move : A → B) (x : A) → Follows move (Ok x) (Ok (move x))
unfolding moved_outcome
given-follows move x a h = ap (moved_outcome move) h

pub then-follows : {A B C D : Type 0} → (first : A → C) (move : B → D) (m : OrFault A) (n : OrFault C) (g : A → OrFault B) (k : C → OrFault D) → Follows first m n
    → ((a : A) → Follows move (g a) (k (first a))) → Follows move (then_give m g) (then_give n k)
then-follows first move (Ok a) n g k given more b h = ap (λ (r : OrFault _). then_give r k) (given a refl) ∙ more a b h
then-follows first move (Err e) n g k given more b h = absurd cc

pub value-follows : {A B : Type 0} → (move : A → B) (p q : Place) (c : Code) (o : Option A) → Follows move (value_or p c o) (value_or q c (option_map move o))
value-follows move p q c None a h = absurd cc
value-follows move p q c (Some x) a h = given-follows move x a h

pub if-follows : {A B : Type 0} → (move : A → B) (p q : Place) (c : Code) (b : Bool) (x : A) → Follows move (if b then Ok x else refused p c) (if b then Ok (move x) else refused q c)
if-follows move p q c true x a h = given-follows move x a h
if-follows move p q c false x a h = absurd cc
