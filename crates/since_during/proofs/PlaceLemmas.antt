-- Where the attributes of one heading stand in another that has them too: at different positions, of the same kinds.
--     are-different, alike      the positions of attributes of different names, and their kinds
--     part-names, part-in, part-named, all-named      the attributes at positions, and all of them
use Rattle.std.specs.Prelude.{◌≡◌, ℕ, ◌<◌, false, List, [], ◌∷◌, length, get_or, nat_eq, refl}
use Rattle.std.proofs.Common.{sym, ap, ◌∙◌, subst, inl, inr}
use Rattle.std.specs.List.{All, AllByRecursion, IsDistinct}
use Rattle.std.specs.Cmp.Lexicographic.{texts_ties}
use Rattle.std.specs.Ordering.{is_eq}
use Rattle.std.specs.Str.{bytes_eq}
use Rattle.std.proofs.lemmas.Bool.{true≢false, false_from_ne_true, eqb-true, eq-eqb}
use Rattle.std.proofs.lemmas.List.Elements.{All-cons, All-nil}
use Rattle.base_core.proofs.MemberLemmas.{In-map}
use Rattle.base_core.proofs.SetLemmas.{In, AllAfter, Ascends}
use Rattle.base_core.proofs.ListLemmas.{In-get_or}
use Rattle.value_core.specs.Values.{Name, Heading, attribute_cmp}
use Rattle.relation_core.specs.Agreement.{names_of, position_of}
use Rattle.relation_core.specs.Parts.{no_attribute, attributes_at}
use Rattle.relation_core.proofs.AttributeLemmas.{name_is}
use Rattle.relation_core.proofs.HeadingLemmas.{within_by_members}
use Rattle.meaning_core.specs.Meanings.{positions_of, names_at}
use Rattle.meaning_core.specs.WellMade.{AreDifferent, AreAlike}
use Rattle.meaning_core.proofs.MadeLemmas.{Attribute, own_name}
use Rattle.meaning_core.proofs.PositionLemmas.{position-back}
use Rattle.since_during.proofs.MoreLemmas.{stands}

-- ---- lists

pub each-from : {X : Type 0} (P : X → Type 0) (xs : List X) → ((x : X) → In x xs → P x) → AllByRecursion P xs
each-from P [] h = tt
each-from P (x ∷ xs) h = (h x (inl refl), each-from P xs (λ y i. h y (inr i)))

-- ---- attributes of different names

abbrev pub AreNamed : Heading → Type 0
AreNamed attributes = IsDistinct (λ (a b : Attribute). bytes_eq a.0 b.0) attributes

names-after : (a : Attribute) (rest : Heading) → AllAfter attribute_cmp a rest → AllByRecursion (λ (b : Attribute). bytes_eq a.0 b.0 ≡ false) rest
names-after a [] after = tt
names-after a (b ∷ rest) after = (texts_ties a.0 b.0 ∙ ap is_eq after.0, names-after a rest after.1)

-- all of a heading
pub all-named : (h : Heading) → Ascends attribute_cmp h → AreNamed h
unfolding IsDistinct
all-named [] up = tt
all-named (a ∷ rest) up = (names-after a rest up.0, all-named rest up.1)

-- and those at different positions
module _ (h : Heading) (up : Ascends attribute_cmp h) where
  pub part-names : (key : List ℕ) → names_of (attributes_at key h) ≡ names_at h key
  part-names [] = refl
  part-names (i ∷ is) = ap (λ (names : List Name). (get_or h i no_attribute).0 ∷ names) (part-names is)

  pub part-in : (key : List ℕ) → All (λ (i : ℕ). i < length h) key → (a : Attribute) → In a (attributes_at key h) → In a h
  part-in key within a m =
      let w = (In-map (λ (i : ℕ). get_or h i no_attribute) a key).0 m in
      subst (λ (z : Attribute). In z h) (sym w.2) (In-get_or h w.0 no_attribute (within_by_members (length h) key within w.0 w.1))

  abbrev AreWithin : List ℕ → Type 0
  AreWithin key = (i : ℕ) → In i key → i < length h

  names-apart : (i j : ℕ) → i < length h → j < length h → nat_eq i j ≡ false → bytes_eq (get_or h i no_attribute).0 (get_or h j no_attribute).0 ≡ false
  names-apart i j l m off =
      let a : Attribute = get_or h i no_attribute in
      let b : Attribute = get_or h j no_attribute in
      false_from_ne_true (bytes_eq a.0 b.0) (λ e.
      let same : i ≡ j = sym (position-back h i no_attribute up l) ∙ (ap (position_of h) (name_is a.0 b.0 e) ∙ position-back h j no_attribute up m) in
      true≢false (sym (eq-eqb i j same) ∙ off))

  names-other : (i : ℕ) (key : List ℕ) → i < length h → AreWithin key → AllByRecursion (λ j. nat_eq i j ≡ false) key
      → AllByRecursion (λ (b : Attribute). bytes_eq (get_or h i no_attribute).0 b.0 ≡ false) (attributes_at key h)
  names-other i [] l within off = tt
  names-other i (j ∷ key) l within off = (names-apart i j l (within j (inl refl)) off.0, names-other i key l (λ n m. within n (inr m)) off.1)

  part-distinct : (key : List ℕ) → AreWithin key → IsDistinct nat_eq key → AreNamed (attributes_at key h)
  unfolding IsDistinct
  part-distinct [] within d = tt
  part-distinct (i ∷ key) within d = (names-other i key (within i (inl refl)) (λ n m. within n (inr m)) d.0, part-distinct key (λ n m. within n (inr m)) d.1)

  pub part-named : (key : List ℕ) → AreDifferent h key → AreNamed (attributes_at key h)
  part-named key d = part-distinct key (within_by_members (length h) key d.within) d.different

-- ---- where they stand

-- they are all in the heading
abbrev pub AreIn : Heading → Heading → Type 0
AreIn attributes g = (a : Attribute) → In a attributes → In a g

-- the positions of the attributes in a heading
abbrev pub places_in : Heading → Heading → List ℕ
places_in g attributes = positions_of g (names_of attributes)

module _ (g : Heading) (up : Ascends attribute_cmp g) where
  pub places-within : (attributes : Heading) → AreIn attributes g → All (λ (i : ℕ). i < length g) (places_in g attributes)
  places-within [] each = All-nil (λ (i : ℕ). i < length g)
  places-within (a ∷ rest) each =
      All-cons (λ (i : ℕ). i < length g) (position_of g a.0) (places_in g rest) (stands g a up (each a (inl refl))).0 (places-within rest (λ b i. each b (inr i)))

  place-apart : (a b : Attribute) → In a g → In b g → bytes_eq a.0 b.0 ≡ false → nat_eq (position_of g a.0) (position_of g b.0) ≡ false
  place-apart a b i j off =
      false_from_ne_true (nat_eq (position_of g a.0) (position_of g b.0)) (λ e.
      let one : position_of g a.0 ≡ position_of g b.0 = eqb-true (position_of g a.0) (position_of g b.0) e in
      let same : a ≡ b = sym (stands g a up i).1 ∙ (ap (λ (n : ℕ). get_or g n no_attribute) one ∙ (stands g b up j).1) in
      true≢false (sym (ap (λ (z : Attribute). bytes_eq a.0 z.0) (sym same) ∙ own_name a.0) ∙ off))

  places-other : (a : Attribute) (rest : Heading) → In a g → AreIn rest g → AllByRecursion (λ (b : Attribute). bytes_eq a.0 b.0 ≡ false) rest
      → AllByRecursion (λ j. nat_eq (position_of g a.0) j ≡ false) (places_in g rest)
  places-other a [] i each off = tt
  places-other a (b ∷ rest) i each off = (place-apart a b i (each b (inl refl)) off.0, places-other a rest i (λ c j. each c (inr j)) off.1)

  places-differ : (attributes : Heading) → AreIn attributes g → AreNamed attributes → IsDistinct nat_eq (places_in g attributes)
  unfolding IsDistinct
  places-differ [] each d = tt
  places-differ (a ∷ rest) each d = (places-other a rest (each a (inl refl)) (λ b i. each b (inr i)) d.0, places-differ rest (λ b i. each b (inr i)) d.1)

  pub are-different : (attributes : Heading) → AreIn attributes g → AreNamed attributes → AreDifferent g (places_in g attributes)
  are-different attributes each d = record { within = places-within attributes each; different = places-differ attributes each d }

  pub kind-there : (a : Attribute) → In a g → (get_or g (position_of g a.0) no_attribute).1 ≡ a.1
  kind-there a i = ap (λ (z : Attribute). z.1) (stands g a up i).1

pub alike : (h g : Heading) → Ascends attribute_cmp h → Ascends attribute_cmp g → (attributes : Heading) → AreIn attributes h → AreIn attributes g → AreAlike h (places_in h attributes) g (places_in g attributes)
alike h g up up' [] here there = tt
alike h g up up' (a ∷ rest) here there =
    (kind-there h up a (here a (inl refl)) ∙ sym (kind-there g up' a (there a (inl refl))), alike h g up up' rest (λ b i. here b (inr i)) (λ b i. there b (inr i)))
