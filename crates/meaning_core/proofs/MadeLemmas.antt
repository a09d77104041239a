-- Rows with made values fit the heading that these make with another one.
use Rattle.std.proofs.Common.{◌≡◌, ◌⊎◌, inl, inr, ℕ, suc, Bool, true, false, List, [], ◌∷◌, ◌++◌, get_or, refl, sym, ap, ap₂, ◌∙◌, subst, cond, IsTrue, Less, Equal, Ok, Err, not}
use Rattle.std.specs.Str.{bytes_eq}
use Rattle.std.specs.List.{list_any}
use Rattle.std.proofs.lemmas.List.{map-append, append-nil}
use Rattle.std.proofs.lemmas.List.Sorted.{IsPermutation-sym}
use Rattle.std.proofs.lemmas.Bool.{true≢false, and_parts, and_from}
use Rattle.std.proofs.lemmas.Slice.Eq.{bytes_eq-Decides}
use Rattle.std.specs.Cmp.{tied_itself}
use Rattle.base_core.proofs.SetLemmas.{In, Ascends}
use Rattle.base_core.specs.Outcomes.{then_give, both}
use Rattle.base_core.proofs.MemberLemmas.{In-append, In-filter}
use Rattle.point_core.specs.Faults.{OrFault}
use Rattle.base_core.proofs.SetOperatorLemmas.{AllAfter-In, In-permutation}
use Rattle.value_core.specs.Headings.{IsHeadingOf}
use Rattle.value_core.specs.Values.{Name, Row, Heading, Value, truth, is_heading, fits, fits_heading, attribute_cmp}
use Rattle.value_core.specs.declared.kind.Kind.{Kind}
use Rattle.value_core.proofs.HeadingLemmas.{attribute_total}
use Rattle.relation_core.specs.Agreement.{names_of, position_of, part_of}
use Rattle.relation_core.proofs.HeadingLemmas.{heading_ascends}
use Rattle.scalar_core.specs.ScalarValues.{value}
use Rattle.scalar_core.proofs.KindLemmas.{value-fits}
use Rattle.relation_core.proofs.JoinLemmas.{fits_both}
use Rattle.tree_core.specs.Trees.{PlainSets}
use Rattle.meaning_core.specs.Places.{place_among, places}
use Rattle.meaning_core.specs.Rows.{set_names, values_on, extended_at}
use Rattle.meaning_core.specs.Scalars.{AreTypedOver}
use Rattle.meaning_core.specs.Typing.{Makes, IsTuple, IsExtension, not_named}

abbrev pub Attribute : Type 0
Attribute = Name × Kind

-- ---- names

pub same_name : (a b : Name) → bytes_eq a b ≡ true → a ≡ b
same_name a b e = (bytes_eq-Decides a b).0 e

pub own_name : (a : Name) → bytes_eq a a ≡ true
own_name a = (bytes_eq-Decides a a).1 refl

pub place-position : (heading : Heading) (name : Name) → place_among (names_of heading) name ≡ position_of heading name
place-position [] name = refl
place-position (a ∷ rest) name = ap (λ n. cond (bytes_eq a.0 name) 0 (suc n)) (place-position rest name)

-- ---- the first attribute of a name

-- the first attribute with the name of a is a
abbrev pub IsFirst : Attribute → Heading → Type 0
IsFirst a [] = ⊥
IsFirst a (b ∷ rest) = ((bytes_eq b.0 a.0 ≡ true) × (b ≡ a)) ⊎ ((bytes_eq b.0 a.0 ≡ false) × IsFirst a rest)

-- an attribute whose name others have only where they are the same
abbrev pub IsAlone : Attribute → Heading → Type 0
IsAlone a heading = (b : Attribute) → In b heading → bytes_eq b.0 a.0 ≡ true → b ≡ a

first_by : (r : Bool) (a b : Attribute) (rest : Heading) → bytes_eq b.0 a.0 ≡ r → (r ≡ true → b ≡ a) → (r ≡ false → IsFirst a rest) → IsFirst a (b ∷ rest)
first_by true a b rest e here there = inl (e, here refl)
first_by false a b rest e here there = inr (e, there refl)

pub first_append : (a : Attribute) (heading more : Heading) → IsAlone a heading → (In a heading ⊎ IsFirst a more) → IsFirst a (heading ++ more)
first_append a [] more alone h = elim h [ inl i ↦ absurd i | inr f ↦ f ]
first_append a (b ∷ rest) more alone h =
    first_by (bytes_eq b.0 a.0) a b (rest ++ more) refl (alone b (inl refl))
    (λ e. first_append a rest more (λ c i. alone c (inr i)) (elim h [ inl i ↦ elim i [ inl s ↦ absurd (apart e s) | inr j ↦ inl j ] | inr f ↦ inr f ]))
  where
    apart : bytes_eq b.0 a.0 ≡ false → a ≡ b → ⊥
    apart e s = true≢false (sym (own_name b.0) ∙ ap (λ (z : Attribute). bytes_eq b.0 z.0) (sym s) ∙ e)

pub first_in : (a : Attribute) (heading : Heading) → IsAlone a heading → In a heading → IsFirst a heading
first_in a [] alone i = absurd i
first_in a (b ∷ rest) alone i =
    first_by (bytes_eq b.0 a.0) a b rest refl (alone b (inl refl))
    (λ e. elim i [ inl s ↦ absurd (apart e s) | inr j ↦ first_in a rest (λ c k. alone c (inr k)) j ])
  where
    apart : bytes_eq b.0 a.0 ≡ false → a ≡ b → ⊥
    apart e s = true≢false (sym (own_name b.0) ∙ ap (λ (z : Attribute). bytes_eq b.0 z.0) (sym s) ∙ e)

-- ---- attributes in order

pub one_in_order : (xs : Heading) (a b : Attribute) → Ascends attribute_cmp xs → In a xs → In b xs → bytes_eq b.0 a.0 ≡ true → b ≡ a
one_in_order [] a b up i j e = absurd i
one_in_order (x ∷ xs) a b up i j e =
    elim i [
      | inl s ↦ elim j [
        | inl t ↦ t ∙ sym s
        | inr t ↦ absurd (before a b e (subst (λ z. attribute_cmp z b ≡ Less) (sym s) ((AllAfter-In attribute_cmp x xs).0 up.0 b t)))
      ]
      | inr s ↦ elim j [
        | inl t ↦ absurd (after a b e (subst (λ z. attribute_cmp z a ≡ Less) (sym t) ((AllAfter-In attribute_cmp x xs).0 up.0 a s)))
        | inr t ↦ one_in_order xs a b up.1 s t e
      ]
    ]
  where
    tied : (a b : Attribute) → bytes_eq b.0 a.0 ≡ true → attribute_cmp a b ≡ Equal
    tied a b e = ap (λ (n : Name). attribute_cmp a (n, b.1)) (same_name b.0 a.0 e) ∙ tied_itself attribute_total a

    back : (a b : Attribute) → bytes_eq b.0 a.0 ≡ true → attribute_cmp b a ≡ Equal
    back a b e = ap (λ (n : Name). attribute_cmp (n, b.1) a) (same_name b.0 a.0 e) ∙ tied_itself attribute_total a

    before : (a b : Attribute) → bytes_eq b.0 a.0 ≡ true → attribute_cmp a b ≡ Less → ⊥
    before a b e l = let k = tied a b e in cc

    after : (a b : Attribute) → bytes_eq b.0 a.0 ≡ true → attribute_cmp b a ≡ Less → ⊥
    after a b e l = let k = back a b e in cc

-- in a list of which a heading is made, each attribute is the only one of its name
pub alone_in : (list heading : Heading) (a : Attribute) → IsHeadingOf list heading → In a list → IsAlone a list
alone_in list heading a h i b j e =
    one_in_order heading a b (heading_ascends heading h.ordered) (In-permutation list heading a h.same i) (In-permutation list heading b h.same j) e

-- ---- values

pub value_of_first : (a : Attribute) (heading : Heading) (row : Row) → IsFirst a heading → IsTrue (fits_heading heading row)
    → IsTrue (fits a.1 (get_or row (position_of heading a.0) (truth false)))
value_of_first a [] row f h = absurd f
value_of_first a (b ∷ rest) [] f h = absurd (true≢false (sym h))
value_of_first a (b ∷ rest) (v ∷ vs) f h =
    let both = and_parts (fits b.1 v) (fits_heading rest vs) h in
    elim f [
      | inl e ↦ subst (λ (r : Bool). IsTrue (fits a.1 (get_or (v ∷ vs) (cond r 0 (suc (position_of rest a.0))) (truth false)))) (sym e.0)
          (subst (λ (z : Attribute). IsTrue (fits z.1 v)) e.1 both.0)
      | inr e ↦ subst (λ (r : Bool). IsTrue (fits a.1 (get_or (v ∷ vs) (cond r 0 (suc (position_of rest a.0))) (truth false)))) (sym e.0)
          (value_of_first a rest vs e.1 both.1)
    ]

-- the row at the places of first attributes fits these
pub picked_fits : (to heading : Heading) (row : Row) → ((a : Attribute) → In a to → IsFirst a heading) → IsTrue (fits_heading heading row)
    → IsTrue (fits_heading to (part_of (places (names_of heading) to) row))
picked_fits [] heading row f h = refl
picked_fits (a ∷ to) heading row f h =
    let at : ℕ → Type 0 = λ i. IsTrue (fits a.1 (get_or row i (truth false))) in
    and_from (fits a.1 (get_or row (place_among (names_of heading) a.0) (truth false))) (fits_heading to (part_of (places (names_of heading) to) row))
    (subst at (sym (place-position heading a.0)) (value_of_first a heading row (f a (inl refl)) h))
    (picked_fits to heading row (λ b i. f b (inr i)) h)

-- ---- items

pub given_names : (sizes : List ℕ) (from : Heading) (sets : PlainSets) (made : Heading) → Makes sizes from sets made → set_names sets ≡ names_of made
given_names sizes from [] [] h = refl
given_names sizes from [] (a ∷ made) h = absurd h
given_names sizes from (s ∷ sets) [] h = absurd h
given_names sizes from (s ∷ sets) (a ∷ made) h = ap₂ (λ (n : Name) (ns : List Name). n ∷ ns) h.0 (given_names sizes from sets made h.2)

pub given_typed : (sizes : List ℕ) (from : Heading) (sets : PlainSets) (made : Heading) (row : Row) → Makes sizes from sets made → IsTrue (fits_heading from row) → AreTypedOver row sets
given_typed sizes from [] made row h fit = tt
given_typed sizes from (s ∷ sets) [] row h fit = absurd h
given_typed sizes from (s ∷ sets) (a ∷ made) row h fit = ((from, a.1, fit, h.1.typed), given_typed sizes from sets made row h.2 fit)

pub one_more : (v : OrFault Value) (rest : OrFault (List Value)) (all : List Value) → both v rest (λ w ws. Ok (w ∷ ws)) ≡ Ok all
    → (w : Value) × (ws : List Value) × (v ≡ Ok w) × (rest ≡ Ok ws) × (w ∷ ws ≡ all)
one_more (Ok w) (Ok ws) all e = (w, ws, refl, refl, let same : w ∷ ws ≡ all = cc in same)
one_more (Ok w) (Err d) all e = absurd (cc)
one_more (Err d) rest all e = absurd (cc)

pub given_fits : (sizes : List ℕ) (from : Heading) (sets : PlainSets) (made : Heading) (row values : Row) → Makes sizes from sets made → IsTrue (fits_heading from row)
    → values_on row sets ≡ Ok values → IsTrue (fits_heading made values)
given_fits sizes from [] [] row values h fit e = subst (λ (vs : Row). IsTrue (fits_heading [] vs)) (let same : [] ≡ values = cc in same) refl
given_fits sizes from [] (a ∷ made) row values h fit e = absurd h
given_fits sizes from (s ∷ sets) [] row values h fit e = absurd h
given_fits sizes from (s ∷ sets) (a ∷ made) row values h fit e =
    let parts = one_more (value s.1 row) (values_on row sets) values e in
    subst (λ (vs : Row). IsTrue (fits_heading (a ∷ made) vs)) parts.4
    (and_from (fits a.1 parts.0) (fits_heading made parts.1) (value-fits from row s.1 a.1 parts.0 fit h.1.typed parts.2)
    (given_fits sizes from sets made row parts.1 h.2 fit parts.3))

-- each attribute of the new heading is the first of its name
pub first_of_extension : (from to made : Heading) (a : Attribute) → IsTrue (is_heading from) → IsHeadingOf (made ++ not_named (names_of made) from) to → In a to
    → IsFirst a (made ++ from)
first_of_extension from to made a headed h i =
    let kept = not_named (names_of made) from in
    let list = made ++ kept in
    let j : In a list = In-permutation to list a (IsPermutation-sym list to h.same) i in
    let alone : IsAlone a list = alone_in list to a h j in
    first_append a made from (λ b k. alone b ((In-append b made kept).1 (inl k))) (
    elim ((In-append a made kept).0 j) [
      | inl k ↦ inl k
      | inr k ↦ inr (
          let l = ((In-filter (λ (b : Attribute). not (list_any (bytes_eq b.0) (names_of made))) a from).0 k).0 in
          first_in a from (λ b m. one_in_order from a b (heading_ascends from headed) l m) l
          )
    ]
    )

pub split_ok : {X Y : Type 0} (r : OrFault X) (f : X → Y) (y : Y) → then_give r (λ x. Ok (f x)) ≡ Ok y → (x : X) × (r ≡ Ok x) × (f x ≡ y)
split_ok (Ok x) f y e = (x, refl, let same : f x ≡ y = cc in same)
split_ok (Err d) f y e = absurd (cc)

pub extended_fits : (sizes : List ℕ) (from to : Heading) (sets : PlainSets) (at : List ℕ) (x y : Row) → IsTrue (is_heading from) → IsExtension sizes from to sets
    → at ≡ places (set_names sets ++ names_of from) to → IsTrue (fits_heading from x) → extended_at at sets x ≡ Ok y → IsTrue (fits_heading to y)
extended_fits sizes from to sets at x y headed h is fit e =
    let parts = split_ok (values_on x sets) (λ (made : Row). part_of at (made ++ x)) y e in
    let names : set_names sets ++ names_of from ≡ names_of (h.made ++ from) = ap (λ (ns : List Name). ns ++ names_of from) (given_names sizes from sets h.made h.makes) ∙ sym (map-append (λ (a : Attribute). a.0) h.made from) in
    let made = given_fits sizes from sets h.made x parts.0 h.makes fit parts.1 in
    let all : IsTrue (fits_heading to (part_of (places (names_of (h.made ++ from)) to) (parts.0 ++ x))) =
    picked_fits to (h.made ++ from) (parts.0 ++ x) (λ a i. first_of_extension from to h.made a headed h.headed i) (fits_both h.made from parts.0 x made fit) in
    subst (λ (z : Row). IsTrue (fits_heading to z)) (ap (λ (ns : List Name). part_of (places ns to) (parts.0 ++ x)) (sym names) ∙ ap (λ (ps : List ℕ). part_of ps (parts.0 ++ x)) (sym is) ∙ parts.2) all

-- ---- tuples

-- a tuple extends the row without attributes
pub tuple_extends : (sizes : List ℕ) (heading : Heading) (tuple : PlainSets) → IsTuple sizes heading tuple → IsExtension sizes [] heading tuple
tuple_extends sizes heading tuple h = record {
  made = h.made;
  makes = h.makes;
  headed = subst (λ (l : Heading). IsHeadingOf l heading) (sym (append-nil h.made)) h.headed;
}
