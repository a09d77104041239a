-- The positions of named attributes, in the heading of a relvar and in that of a relvar it references.
use Rattle.std.specs.Prelude.{◌≡◌, ◌<◌, ℕ, zero, suc, Bool, true, false, not, ◌||◌, List, [], ◌∷◌, ◌++◌, map, length, get_or, nat_eq, Some, None, Ok, Err, IfOk, IsTrue, refl, if◌then◌else◌}
use Rattle.std.proofs.Common.{arith, sym, ◌∙◌, ap, subst, append_assoc}
use Rattle.std.specs.List.{All, AllByRecursion, IsDistinct}
use Rattle.std.specs.Str.{bytes_eq}
use Rattle.std.proofs.lemmas.Bool.{true≢false, false_from_ne_true, not-true, eqb-true, eq-eqb}
use Rattle.std.proofs.lemmas.List.{append-nil}
use Rattle.base_core.proofs.ListLemmas.{IsDistinct-push}
use Rattle.point_core.specs.declared.fault.Place.{Place}
use Rattle.point_core.specs.declared.fault.Code.{Code}
use Rattle.point_core.specs.declared.fault.Code.TheVariants.{E12, E14, E15}
use Rattle.point_core.specs.Faults.{OrFault}
use Rattle.value_core.specs.Attributes.{among}
use Rattle.utd_syntax.specs.Plain.{Word}
use Rattle.value_core.specs.Headings.{has_name}
use Rattle.value_core.specs.Values.{Name, Heading}
use Rattle.scalar_core.specs.KindOf.{same_kind}
use Rattle.scalar_core.proofs.KindOfLemmas.{same_kind-same}
use Rattle.scalar_typing.specs.Typings.{value_or}
use Rattle.scalar_typing.proofs.SoundLemmas.{then-sound}
use Rattle.relation_core.specs.Agreement.{position_of}
use Rattle.relation_core.specs.Parts.{no_attribute}
use Rattle.meaning_core.specs.WellMade.{AreDifferent, AreAlike}
use Rattle.meaning_core.proofs.MadeLemmas.{same_name}
use Rattle.node_typing.specs.Positions.{check, position_typed, new_position, positions_typed}
use Rattle.node_typing.specs.Lists.{kind_named}
use Rattle.declaration_typing.specs.Constraints.{position_there, positions_there}
use Rattle.declaration_typing.proofs.DistinctLemmas.{no-distinct, all-push, not-among}

-- what is checked holds
pub held : (place : Place) (code : Code) (b : Bool) → IfOk (check place code b) (λ _. IsTrue b)
held place code true = refl
held place code false = tt

-- the position of a name that an attribute has lies in the heading, and has that name
pub position-named : (h : Heading) (name : Name) → IsTrue (has_name h name) → (position_of h name < length h) × ((get_or h (position_of h name) no_attribute).0 ≡ name)
position-named [] name e = absurd (true≢false (sym e))
position-named (a ∷ rest) name e = by-test (bytes_eq a.0 name) refl (position-named rest name) e
  where
    by-test : (b : Bool) → bytes_eq a.0 name ≡ b
        → (IsTrue (has_name rest name) → (position_of rest name < length rest) × ((get_or rest (position_of rest name) no_attribute).0 ≡ name))
        → IsTrue (b || has_name rest name)
        → ((if b then 0 else suc (position_of rest name)) < length (a ∷ rest)) × ((get_or (a ∷ rest) (if b then 0 else suc (position_of rest name)) no_attribute).0 ≡ name)
    by-test true f more e = (omega arith, same_name a.0 name f)
    by-test false f more e = let h = more e in (omega (arith, h.0), h.1)

-- ---- one name

-- the position of the word's attribute, which there is
pub record IsAt (h : Heading) (w : Word) (i : ℕ) : Type 0 where
  pub known : IsTrue (has_name h w.bytes)
  pub place : i ≡ position_of h w.bytes

typed-at : (h : Heading) (w : Word) → IfOk (position_typed h w) (IsAt h w)
typed-at h w = by-test (has_name h w.bytes) refl
  where
    by-test : (b : Bool) → has_name h w.bytes ≡ b → IfOk (value_or w.place E14 (if b then Some (position_of h w.bytes) else None)) (IsAt h w)
    by-test true e = record { known = e; place = refl }
    by-test false e = tt

abbrev IsNewAt : Heading → List ℕ → Word → ℕ → Type 0
IsNewAt h before w i = IsAt h w i × (among before i ≡ false)

new-at : (h : Heading) (before : List ℕ) (w : Word) → IfOk (new_position h before w) (IsNewAt h before w)
new-at h before w =
    then-sound (IsAt h w) (IsNewAt h before w) (position_typed h w) _ (typed-at h w) (λ i at.
    then-sound (λ (_ : Unit {0}). IsTrue (not (among before i))) (IsNewAt h before w) (check w.place E15 (not (among before i))) _ (held w.place E15 (not (among before i))) (λ _ new.
    (at, not-true (among before i) new)))

-- ---- the names of a key

abbrev pub positions_at : Heading → List Word → List ℕ
positions_at h words = map (λ (w : Word). position_of h w.bytes) words

abbrev pub AreKnown : Heading → List Word → Type 0
AreKnown h words = AllByRecursion (λ (w : Word). IsTrue (has_name h w.bytes)) words

-- the positions of the words behind those so far, which differ
pub record AreAt (h : Heading) (before : List ℕ) (words : List Word) (positions : List ℕ) : Type 0 where
  pub known : AreKnown h words
  pub places : positions ≡ before ++ positions_at h words
  pub different : AreDifferent h positions

none-at : (h : Heading) (before : List ℕ) → AreDifferent h before → AreAt h before [] before
none-at h before d = record { known = tt; places = sym (append-nil before); different = d }

more-at : (h : Heading) (before : List ℕ) (w : Word) (words : List Word) (i : ℕ) (positions : List ℕ) → IsAt h w i → AreAt h (before ++ i ∷ []) words positions → AreAt h before (w ∷ words) positions
more-at h before w words i positions at more = record {
  known = (at.known, more.known);
  places = more.places ∙ (append_assoc before (i ∷ []) (positions_at h words) ∙ ap (λ (j : ℕ). before ++ j ∷ positions_at h words) at.place);
  different = more.different;
}

put-different : (h : Heading) (before : List ℕ) (w : Word) (i : ℕ) → AreDifferent h before → IsNewAt h before w i → AreDifferent h (before ++ i ∷ [])
put-different h before w i d new = record {
  within = all-push (λ (j : ℕ). j < length h) before i d.within (subst (λ (j : ℕ). j < length h) (sym new.0.place) (position-named h w.bytes new.0.known).0);
  different = IsDistinct-push nat_eq before i d.different (not-among before i new.1);
}

pub none-different : (h : Heading) → AreDifferent h []
none-different h = record { within = λ k d l. absurd (omega (arith, l)); different = no-distinct nat_eq }

typed-from : (h : Heading) (words : List Word) (before : List ℕ) → AreDifferent h before → IfOk (positions_typed h before words) (AreAt h before words)
typed-from h [] before d = none-at h before d
typed-from h (w ∷ words) before d =
    then-sound (IsNewAt h before w) (AreAt h before (w ∷ words)) (new_position h before w) _ (new-at h before w) (λ i new.
    then-more i new (positions_typed h (before ++ i ∷ []) words) (typed-from h words (before ++ i ∷ []) (put-different h before w i d new)))
  where
    then-more : (i : ℕ) → IsNewAt h before w i → (r : OrFault (List ℕ)) → IfOk r (AreAt h (before ++ i ∷ []) words) → IfOk r (AreAt h before (w ∷ words))
    then-more i new (Ok positions) at = more-at h before w words i positions new.0 at
    then-more i new (Err e) at = tt

pub key-at : (h : Heading) (words : List Word) → IfOk (positions_typed h [] words) (AreAt h [] words)
key-at h words = typed-from h words [] (none-different h)

-- ---- the same names in another heading

-- the word's attribute there, which has the kind of the one here
abbrev IsThere : Heading → Heading → Word → ℕ → Type 0
IsThere h g w i = IsAt g w i × (kind_named h w.bytes ≡ kind_named g w.bytes)

there-at : (h g : Heading) (w : Word) → IfOk (position_there h g w) (IsThere h g w)
there-at h g w =
    then-sound (IsAt g w) (IsThere h g w) (position_typed g w) _ (typed-at g w) (λ i at.
    then-sound (λ (_ : Unit {0}). IsTrue (same_kind (kind_named h w.bytes) (kind_named g w.bytes))) (IsThere h g w) (check w.place E12 (same_kind (kind_named h w.bytes) (kind_named g w.bytes))) _
    (held w.place E12 (same_kind (kind_named h w.bytes) (kind_named g w.bytes))) (λ _ alike.
    (at, same_kind-same (kind_named h w.bytes) (kind_named g w.bytes) alike)))

pub record AreThere (h g : Heading) (before : List ℕ) (words : List Word) (positions : List ℕ) : Type 0 where
  pub known : AreKnown g words
  pub places : positions ≡ before ++ positions_at g words
  pub alike : AllByRecursion (λ (w : Word). kind_named h w.bytes ≡ kind_named g w.bytes) words

pub there-from : (h g : Heading) (words : List Word) (before : List ℕ) → IfOk (positions_there h g before words) (AreThere h g before words)
there-from h g [] before = record { known = tt; places = sym (append-nil before); alike = tt }
there-from h g (w ∷ words) before =
    then-sound (IsThere h g w) (AreThere h g before (w ∷ words)) (position_there h g w) _ (there-at h g w) (λ i at.
    then-more i at (positions_there h g (before ++ i ∷ []) words) (there-from h g words (before ++ i ∷ [])))
  where
    then-more : (i : ℕ) → IsThere h g w i → (r : OrFault (List ℕ)) → IfOk r (AreThere h g (before ++ i ∷ []) words) → IfOk r (AreThere h g before (w ∷ words))
    then-more i at (Ok positions) more = record {
      known = (at.0.known, more.known);
      places = more.places ∙ (append_assoc before (i ∷ []) (positions_at g words) ∙ ap (λ (j : ℕ). before ++ j ∷ positions_at g words) at.0.place);
      alike = (at.1, more.alike);
    }
    then-more i at (Err e) more = tt

-- ---- a key and its positions there

pub are-alike : (h g : Heading) (words : List Word) → AllByRecursion (λ (w : Word). kind_named h w.bytes ≡ kind_named g w.bytes) words
    → AreAlike h (positions_at h words) g (positions_at g words)
are-alike h g [] all = tt
are-alike h g (w ∷ words) all = (all.0, are-alike h g words all.1)

within-there : (g : Heading) (words : List Word) → AreKnown g words → All (λ (i : ℕ). i < length g) (positions_at g words)
within-there g [] known k d l = absurd (omega (arith, l))
within-there g (w ∷ words) known zero d l = (position-named g w.bytes known.0).0
within-there g (w ∷ words) known (suc k) d l = within-there g words known.1 k d (omega (arith, l))

others-differ : (h g : Heading) (n : Name) (words : List Word) → IsTrue (has_name g n) → AreKnown g words
    → AllByRecursion (λ (i : ℕ). nat_eq (position_of h n) i ≡ false) (positions_at h words) → AllByRecursion (λ (i : ℕ). nat_eq (position_of g n) i ≡ false) (positions_at g words)
others-differ h g n [] here known apart = tt
others-differ h g n (w ∷ words) here known apart = (
  false_from_ne_true (nat_eq (position_of g n) (position_of g w.bytes)) (λ e.
      let place : position_of g n ≡ position_of g w.bytes = eqb-true (position_of g n) (position_of g w.bytes) e in
      let one : n ≡ w.bytes = sym (position-named g n here).1 ∙ (ap (λ (i : ℕ). (get_or g i no_attribute).0) place ∙ (position-named g w.bytes known.0).1) in
      let same : nat_eq (position_of h n) (position_of h w.bytes) ≡ true = eq-eqb (position_of h n) (position_of h w.bytes) (ap (position_of h) one) in
      true≢false (sym same ∙ apart.0)),
  others-differ h g n words here known.1 apart.1,
)

differ-there : (h g : Heading) (words : List Word) → AreKnown g words → IsDistinct nat_eq (positions_at h words) → IsDistinct nat_eq (positions_at g words)
unfolding IsDistinct
differ-there h g [] known d = tt
differ-there h g (w ∷ words) known d = (others-differ h g w.bytes words known.0 known.1 d.0, differ-there h g words known.1 d.1)

pub different-there : (h g : Heading) (words : List Word) → AreKnown g words → AreDifferent h (positions_at h words) → AreDifferent g (positions_at g words)
different-there h g words known d = record {
  within = within-there g words known;
  different = differ-there h g words known d.different;
}
