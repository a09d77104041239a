-- Attributes by their names: where they stand, and which of them are listed.
use Rattle.std.proofs.Common.{◌≡◌, ◌↔◌, inl, inr, ℕ, zero, suc, ◌+◌, ◌<◌, ◌≤◌, Bool, true, false, not, ◌||◌, List, [], ◌∷◌, ◌++◌, map, length, get_or, refl, sym, ap, ◌∙◌, subst, arith, if◌then◌else◌, cond}
use Rattle.std.specs.Bool.{IsTrue}
use Rattle.std.specs.Cmp.Lexicographic.{texts_ties, nat_list_eq_equiv}
use Rattle.std.specs.List.{filter}
use Rattle.std.specs.Ordering.{is_eq}
use Rattle.std.specs.Str.{bytes_eq}
use Rattle.std.proofs.lemmas.Bool.{true≢false}
use Rattle.std.proofs.lemmas.List.{length-map}
use Rattle.base_core.proofs.SetLemmas.{In, Ascends}
use Rattle.base_core.proofs.MemberLemmas.{In-map}
use Rattle.base_core.proofs.SetOperatorLemmas.{AllAfter-In}
use Rattle.value_core.specs.Attributes.{among}
use Rattle.value_core.specs.Headings.{has_name}
use Rattle.value_core.specs.Values.{Name, Heading, Row, truth, attribute_cmp}
use Rattle.value_core.specs.declared.kind.Kind.{Kind}
use Rattle.relation_core.specs.Agreement.{position_of, part_of}
use Rattle.relation_core.specs.Parts.{no_attribute}
use Rattle.relation_core.proofs.AttributeLemmas.{name_is}
use Rattle.relation_core.proofs.JoinLemmas.{value_of}
use Rattle.u_set.specs.Boxes.{others}
use Rattle.u_row.specs.Kept.{place_in_label, unlisted, inner}
use Rattle.u_row.proofs.BeneathLemmas.{among_in, in_among}
use Rattle.u_row.proofs.LabelLemmas.{map_twice, inner_values}

-- ---- where a name stands

pub name_back : (heading : Heading) (n : Name) → IsTrue (has_name heading n) → (get_or heading (position_of heading n) no_attribute).0 ≡ n
name_back [] n e = absurd (true≢false (sym e))
name_back (a ∷ rest) n e =
    (elim (bytes_eq a.0 n) as (λ b. bytes_eq a.0 n ≡ b → IsTrue (b || has_name rest n) → (get_or (a ∷ rest) (if b then 0 else suc (position_of rest n)) no_attribute).0 ≡ n) [
      | true ↦ λ h k. name_is a.0 n h
      | false ↦ λ h k. name_back rest n k
    ]) refl e

pub one_name : (heading : Heading) (m n : Name) → IsTrue (has_name heading m) → IsTrue (has_name heading n) → position_of heading m ≡ position_of heading n → m ≡ n
one_name heading m n g h e = sym (name_back heading m g) ∙ ap (λ i. (get_or heading i no_attribute).0) e ∙ name_back heading n h

-- a name of an ascending heading stands where it was read
pub position_at : (heading : Heading) (i : ℕ) → Ascends attribute_cmp heading → i < length heading → position_of heading (get_or heading i no_attribute).0 ≡ i
position_at [] i up l = absurd (omega arith)
position_at (a ∷ rest) zero up l = ap (λ (b : Bool). if b then 0 else suc (position_of rest a.0)) (nat_list_eq_equiv.refl a.0)
position_at (a ∷ rest) (suc i) up l =
    let b : Name × Kind = get_or rest i no_attribute in
    let less = (AllAfter-In attribute_cmp a rest).0 up.0 b (member rest i (omega arith)) in
    let apart : bytes_eq a.0 b.0 ≡ false = texts_ties a.0 b.0 ∙ ap is_eq less in
    ap (λ (t : Bool). if t then 0 else suc (position_of rest b.0)) apart ∙ ap suc (position_at rest i up.1 (omega arith))
  where
    member : (xs : Heading) (j : ℕ) → j < length xs → In (get_or xs j no_attribute) xs
    member [] j m = absurd (omega arith)
    member (x ∷ xs) zero m = inl refl
    member (x ∷ xs) (suc j) m = inr (member xs j (omega arith))

-- behind another heading
pub position_prefix : (left right : Heading) (n : Name) → IsTrue (has_name left n) → position_of (left ++ right) n ≡ position_of left n
position_prefix [] right n e = absurd (true≢false (sym e))
position_prefix (a ∷ rest) right n e =
    (elim (bytes_eq a.0 n) as (λ b. IsTrue (b || has_name rest n) → (if b then 0 else suc (position_of (rest ++ right) n)) ≡ (if b then 0 else suc (position_of rest n))) [
      | true ↦ λ k. refl
      | false ↦ λ k. ap suc (position_prefix rest right n k)
    ]) e

pub position_behind : (left right : Heading) (n : Name) → has_name left n ≡ false → position_of (left ++ right) n ≡ length left + position_of right n
position_behind [] right n e = omega arith
position_behind (a ∷ rest) right n e =
    (elim (bytes_eq a.0 n) as (λ b. (b || has_name rest n) ≡ false → (if b then 0 else suc (position_of (rest ++ right) n)) ≡ suc (length rest) + position_of right n) [
      | true ↦ λ k. absurd (true≢false k)
      | false ↦ λ k. let w = position_behind rest right n k in omega (arith, w)
    ]) e

-- the same by where the name stands in the first
pub position_first : (left right : Heading) (n : Name) → position_of left n < length left → position_of (left ++ right) n ≡ position_of left n
position_first [] right n l = absurd (omega arith)
position_first (a ∷ rest) right n l =
    (elim (bytes_eq a.0 n) as (λ b. (if b then 0 else suc (position_of rest n)) < suc (length rest) → (if b then 0 else suc (position_of (rest ++ right) n)) ≡ (if b then 0 else suc (position_of rest n))) [
      | true ↦ λ k. refl
      | false ↦ λ k. ap suc (position_first rest right n (omega (arith, k)))
    ]) l

pub position_second : (left right : Heading) (n : Name) → length left ≤ position_of left n → position_of (left ++ right) n ≡ length left + position_of right n
position_second [] right n l = omega arith
position_second (a ∷ rest) right n l =
    (elim (bytes_eq a.0 n) as (λ b. suc (length rest) ≤ (if b then 0 else suc (position_of rest n)) → (if b then 0 else suc (position_of (rest ++ right) n)) ≡ suc (length rest) + position_of right n) [
      | true ↦ λ k. absurd (omega (arith, k))
      | false ↦ λ k. let w = position_second rest right n (omega (arith, k)) in omega (arith, w)
    ]) l

-- ---- lists made alike

pub maps_agree : {X Y : Type 0} (f g : X → Y) (xs : List X) → map f xs ≡ map g xs → (x : X) → In x xs → f x ≡ g x
maps_agree f g [] e x i = absurd i
maps_agree f g (y ∷ ys) e x i =
    let first : f y ≡ g y = ap (λ vs. get_or vs 0 (f y)) e in
    let rest : map f ys ≡ map g ys = ap tail e in
    elim i [ inl k ↦ ap f k ∙ (first ∙ ap g (sym k)) | inr j ↦ maps_agree f g ys rest x j ]
  where
    tail : {Z : Type 0} → List Z → List Z
    tail [] = []
    tail (z ∷ zs) = zs

filter_map : {X Y : Type 0} (p : Y → Bool) (f : X → Y) (xs : List X) → filter p (map f xs) ≡ map f (filter (λ x. p (f x)) xs)
filter_map p f [] = refl
filter_map p f (x ∷ xs) =
    let more = filter_map p f xs in
    elim (p (f x)) as (λ b. cond b (f x ∷ filter p (map f xs)) (filter p (map f xs)) ≡ map f (cond b (x ∷ filter (λ y. p (f y)) xs) (filter (λ y. p (f y)) xs))) [
      | true ↦ ap (λ ys. f x ∷ ys) more
      | false ↦ more
    ]

-- ---- values and positions by name

pub by_names : (heading : Heading) (row : Row) (names : List Name) → part_of (map (position_of heading) names) row ≡ map (value_of heading row) names
by_names heading row names = map_twice (λ i. get_or row i (truth false)) (position_of heading) names

-- the names that are not listed, where the listed ones stand at these positions
abbrev pub new_names : List ℕ → Heading → List Name → List Name
new_names commalist heading names = filter (λ n. not (among commalist (position_of heading n))) names

-- they are as many as their positions that are not listed
pub count_new : (commalist : List ℕ) (heading : Heading) (names : List Name) → length (inner commalist (map (position_of heading) names)) ≡ length (new_names commalist heading names)
count_new commalist heading names =
    length-map (unlisted commalist (map (position_of heading) names)) (place_in_label commalist)
    ∙ ap (λ (is : List ℕ). length is) (filter_map (λ i. not (among commalist i)) (position_of heading) names)
    ∙ length-map (new_names commalist heading names) (position_of heading)

-- the label has the values beside the names that are not listed
pub label_by_names : (commalist : List ℕ) (heading : Heading) (row : Row) (names : List Name)
    → part_of (inner commalist (map (position_of heading) names)) (others commalist row) ≡ map (value_of heading row) (new_names commalist heading names)
label_by_names commalist heading row names =
    inner_values commalist (map (position_of heading) names) row (truth false)
    ∙ ap (map (λ i. get_or row i (truth false))) (filter_map (λ i. not (among commalist i)) (position_of heading) names)
    ∙ map_twice (λ i. get_or row i (truth false)) (position_of heading) (new_names commalist heading names)

-- a name is listed by its position
pub listed_name : (heading : Heading) (names : List Name) → ((m : Name) → In m names → IsTrue (has_name heading m)) → (n : Name) → IsTrue (has_name heading n)
    → IsTrue (among (map (position_of heading) names) (position_of heading n)) ↔ In n names
listed_name heading names all n h = (
  λ t.
      let w = (In-map (position_of heading) (position_of heading n) names).0 (among_in (map (position_of heading) names) (position_of heading n) t) in
      subst (λ m. In m names) (sym (one_name heading n w.0 h (all w.0 w.1) w.2)) w.1,
  λ i. in_among (map (position_of heading) names) (position_of heading n) ((In-map (position_of heading) (position_of heading n) names).1 (n, i, refl)),
)
