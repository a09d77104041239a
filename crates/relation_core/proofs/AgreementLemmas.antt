-- Positions of names, parts of rows, and the search for a row that agrees.
use Rattle.std.proofs.Common.{◌≡◌, ℕ, zero, suc, ◌+◌, ◌<◌, List, [], ◌∷◌, ◌++◌, length, get_or, take, map, refl, sym, ap, ◌∙◌, subst, arith, Bool, true, false, ◌||◌, if◌then◌else◌}
use Rattle.std.specs.Bool.{IsTrue}
use Rattle.std.specs.List.{filter, list_any, list_all, All}
use Rattle.std.specs.Ordering.{eq_by_cmp}
use Rattle.std.specs.Str.{bytes_eq}
use Rattle.std.specs.Cmp.Lexicographic.{nat_list_eq_equiv}
use Rattle.std.proofs.lemmas.Bool.{true≢false, and_parts}
use Rattle.std.proofs.lemmas.List.{take_more, map-append}
use Rattle.std.proofs.lemmas.List.Elements.{filter_more}
use Rattle.base_core.specs.Sets.{has}
use Rattle.base_core.proofs.MemberLemmas.{In-filter, In-map, list_all-In, list_any-In}
use Rattle.base_core.proofs.SetOperatorLemmas.{has-in_order}
use Rattle.value_core.specs.Values.{Name, Row, Heading, truth, fits_heading, row_cmp, rows_of}
use Rattle.value_core.specs.Order.{row_total, row_separates}
use Rattle.value_core.specs.Headings.{has_name}
use Rattle.value_core.specs.Plain.{plain}
use Rattle.value_core.specs.declared.value.Value.{Value}
use Rattle.relation_core.specs.Agreement.{names_of, position_of, common_names, common_positions, part_of, agree, as_wanted, chosen}
use Rattle.relation_core.proofs.FilterLemmas.{filter_same, list_all-filter}

-- ---- lengths

-- a row that fits has a value for each attribute
pub length_of_fit : (heading : Heading) (row : Row) → IsTrue (fits_heading heading row) → length row ≡ length heading
length_of_fit [] [] e = refl
length_of_fit [] (v ∷ vs) e = absurd (true≢false (sym e))
length_of_fit (a ∷ rest) [] e = absurd (true≢false (sym e))
length_of_fit (a ∷ rest) (v ∷ vs) e = let h = length_of_fit rest vs (and_parts _ (fits_heading rest vs) e).1 in omega (arith, h)

position_after : (b : Bool) (rest : Heading) (name : Name) → (IsTrue (has_name rest name) → position_of rest name < length rest) → IsTrue (b || has_name rest name)
    → (if b then 0 else suc (position_of rest name)) < suc (length rest)
position_after true rest name ih e = omega arith
position_after false rest name ih e = let h = ih e in omega (arith, h)

-- a name that is there stands within the heading
pub position_within : (heading : Heading) (name : Name) → IsTrue (has_name heading name) → position_of heading name < length heading
position_within [] name e = absurd (true≢false (sym e))
position_within (a ∷ rest) name e = position_after (bytes_eq a.0 name) rest name (position_within rest name) e

pub positions_within : (heading : Heading) (names : List Name) → IsTrue (list_all (has_name heading) names) → (k d : ℕ) → k < length (map (position_of heading) names) → get_or (map (position_of heading) names) k d < length heading
positions_within heading [] e k d l = absurd (omega arith)
positions_within heading (n ∷ names) e zero d l = position_within heading n (and_parts (has_name heading n) (list_all (has_name heading) names) e).0
positions_within heading (n ∷ names) e (suc k) d l = positions_within heading names (and_parts (has_name heading n) (list_all (has_name heading) names) e).1 k d (omega arith)

all_named : (heading : Heading) → IsTrue (list_all (has_name heading) (names_of heading))
all_named heading = (list_all-In (has_name heading) (names_of heading)).1 (λ n i.
    let a = (In-map (λ b. b.0) n heading).0 i in
    (list_any-In (λ b. bytes_eq b.0 n) heading).1 (a.0, a.1, subst (λ z. bytes_eq a.0.0 z ≡ true) (sym a.2) (nat_list_eq_equiv.refl a.0.0)))

pub left_within : (left right : Heading) → All (λ (i : ℕ). i < length left) (common_positions left left right)
left_within left right k d l = positions_within left (common_names left right) (list_all-filter (has_name left) (has_name right) (names_of left) (all_named left)) k d l

pub right_within : (left right : Heading) → All (λ (i : ℕ). i < length right) (common_positions right left right)
right_within left right k d l =
    positions_within right (common_names left right) ((list_all-In (has_name right) (common_names left right)).1 (λ n i. ((In-filter (has_name right) n (names_of left)).0 i).1)) k d l

-- ---- one value more

get_or-plain : (values : List Value) (p : ℕ) (v : Value) → p < length values → get_or (map plain values) p (truth false) ≡ plain (get_or values p v)
get_or-plain [] p v l = absurd (omega arith)
get_or-plain (x ∷ values) zero v l = refl
get_or-plain (x ∷ values) (suc p) v l = get_or-plain values p v (omega arith)

pub part_more : (all : List Value) (row : Row) (positions : List ℕ) (i d : ℕ) (items : List Value) (v : Value) → map plain all ≡ row → i < length positions → get_or positions i d < length all
    → v ≡ get_or all (get_or positions i d) v → map plain items ≡ part_of (take i positions) row → map plain (items ++ v ∷ []) ≡ part_of (take (i + 1) positions) row
part_more all row positions i d items v same l within is so_far =
    let p = get_or positions i d in
    let f : ℕ → _ = λ k. get_or row k (truth false) in
    let value : get_or row (get_or positions i d) (truth false) ≡ plain v =
    ap (λ (r : Row). get_or r p (truth false)) (sym same) ∙ (get_or-plain all p v within ∙ ap plain (sym is)) in
    let more : part_of (take (i + 1) positions) row ≡ part_of (take i positions) row ++ get_or row (get_or positions i d) (truth false) ∷ [] =
    ap (λ ps. map f ps) (take_more positions i d l) ∙ map-append f (take i positions) (p ∷ []) in
    map-append plain items (v ∷ []) ∙ (ap (λ (r : Row). r ++ plain v ∷ []) so_far ∙ sym (more ∙ ap (λ w. part_of (take i positions) row ++ w ∷ []) value))

-- ---- the search for a part

pub list_any-map : {X Y : Type 0} (p : Y → Bool) (f : X → Y) (xs : List X) → list_any p (map f xs) ≡ list_any (λ x. p (f x)) xs
list_any-map p f [] = refl
list_any-map p f (x ∷ xs) = ap (λ b. p (f x) || b) (list_any-map p f xs)

pub has_part : (positions : List ℕ) (s : List Row) (key : Row) → has row_cmp (rows_of (map (part_of positions) s)) key ≡ list_any (λ y. eq_by_cmp row_cmp key (part_of positions y)) s
has_part positions s key = has-in_order row_cmp row_total row_separates (map (part_of positions) s) key ∙ list_any-map (eq_by_cmp row_cmp key) (part_of positions) s

-- the rows for which the search is as wanted are those chosen
pub chosen_by_search : (wanted : Bool) (left right : Heading) (r s keys : List Row) (here : List ℕ) → here ≡ common_positions left left right → keys ≡ rows_of (map (part_of (common_positions right left right)) s)
    → filter (λ x. as_wanted wanted (has row_cmp keys (part_of here x))) r ≡ chosen wanted left right r s
chosen_by_search wanted left right r s keys here e f =
    filter_same (λ x. as_wanted wanted (has row_cmp keys (part_of here x))) (λ x. as_wanted wanted (list_any (agree left right x) s)) r (λ x i.
    ap (as_wanted wanted)
    (ap (λ (ks : List Row). has row_cmp ks (part_of here x)) f
    ∙ (ap (λ (hs : List ℕ). has row_cmp (rows_of (map (part_of (common_positions right left right)) s)) (part_of hs x)) e
    ∙ has_part (common_positions right left right) s (part_of (common_positions left left right) x))))

-- one row more is looked for
pub keys_more : (wanted : Bool) (keys : List Row) (positions : List ℕ) (rows : List Row) (i : ℕ) (x key : Row) (kept : Bool) (before now : List Row) → i < length rows → x ≡ get_or rows i x
    → key ≡ part_of positions x → kept ≡ as_wanted wanted (has row_cmp keys key) → before ≡ filter (λ z. as_wanted wanted (has row_cmp keys (part_of positions z))) (take i rows)
    → now ≡ before ++ (if kept then x ∷ [] else []) → now ≡ filter (λ z. as_wanted wanted (has row_cmp keys (part_of positions z))) (take (i + 1) rows)
keys_more wanted keys positions rows i x key kept before now l is e f so_far more =
    let p : Row → Bool = λ z. as_wanted wanted (has row_cmp keys (part_of positions z)) in
    let prefix : List Row = filter p (take i rows) in
    let tested : kept ≡ as_wanted wanted (has row_cmp keys (part_of positions x)) = f ∙ ap (λ k. as_wanted wanted (has row_cmp keys k)) e in
    more
    ∙ (ap (λ (b : List Row). b ++ (if kept then x ∷ [] else [])) so_far
    ∙ (ap (λ k. prefix ++ (if k then x ∷ [] else [])) tested
    ∙ (ap (λ z. prefix ++ (if p z then z ∷ [] else [])) is ∙ sym (filter_more p rows i x l))))
