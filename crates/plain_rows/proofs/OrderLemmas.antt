-- Names that stand in the order of their bytes: the heading that they make, and rows that are as they are written.
--     shape-makes      they make themselves as a heading
--     row-stays      and values beside them are in the order of the heading
use Rattle.std.proofs.Common.{◌≡◌, suc, List, [], ◌∷◌, ◌++◌, map, length, Bool, true, false, ◌||◌, Some, None, cond, Less, refl, sym, ◌∙◌, ap, ap₂, arith, append_assoc, bytes_eq}
use Rattle.std.specs.Prelude.{slice_index_or}
use Rattle.std.specs.Ordering.{is_eq, ordering_reverse, match_ordering}
use Rattle.meaning_core.proofs.MadeLemmas.{own_name}
use Rattle.std.specs.Cmp.Lexicographic.{nat_list_cmp_total, texts_ties}
use Rattle.std.specs.BTreeMap.{insert_entry}
use Rattle.std.proofs.lemmas.Bool.{true≢false}
use Rattle.std.proofs.lemmas.List.{append-nil}
use Rattle.plain_rows.specs.Names.{AllBehind, Ascending}
use Rattle.value_core.specs.declared.kind.Kind.{Kind}
use Rattle.value_core.specs.Headings.{has_name}
use Rattle.value_core.specs.Values.{Name, Value, Heading, truth, name_cmp}
use Rattle.meaning_core.specs.Places.{place_among, places}
use Rattle.relation_core.specs.Agreement.{part_of}
use Rattle.relation_typing.specs.Attributes.{is_name, with_attribute}
use Rattle.relation_typing.specs.Shapes.{shape_made}
use Rattle.constant_laws.specs.Insertions.{in_heading}
use Rattle.plain_rows.specs.Tuples.{Shape}

-- the names of the list are before this one
abbrev pub AllBefore : Heading → Name → Type 0
AllBefore [] k = Unit {0}
AllBefore (e ∷ h) k = (name_cmp e.0 k ≡ Less) × AllBefore h k

abbrev pub EachBefore : Heading → Shape → Type 0
EachBefore before [] = Unit {0}
EachBefore before (a ∷ rest) = AllBefore before a.0 × EachBefore before rest

abbrev pub AreNames : Shape → Type 0
AreNames [] = Unit {0}
AreNames (a ∷ rest) = (is_name a.0 ≡ true) × AreNames rest

insert-last : (h : Heading) (k : Name) (v : Kind) → AllBefore h k → insert_entry name_cmp h k v ≡ h ++ (k, v) ∷ []
insert-last [] k v up = refl
insert-last (e ∷ h) k v up =
    ap (λ r. match_ordering r ((k, v) ∷ e ∷ h) ((e.0, v) ∷ h) (e ∷ insert_entry name_cmp h k v)) (nat_list_cmp_total.antisymm k e.0 ∙ ap ordering_reverse up.0)
    ∙ ap (λ (l : Heading). e ∷ l) (insert-last h k v up.1)

either-not : (a b : Bool) → a ≡ false → b ≡ false → (a || b) ≡ false
either-not false b e f = f
either-not true b e f = absurd (true≢false e)

has-none : (h : Heading) (k : Name) → AllBefore h k → has_name h k ≡ false
has-none [] k up = refl
has-none (e ∷ h) k up = either-not (bytes_eq e.0 k) (has_name h k) (texts_ties e.0 k ∙ ap is_eq up.0) (has-none h k up.1)

before-snoc : (h : Heading) (a : Name × Kind) (k : Name) → AllBefore h k → name_cmp a.0 k ≡ Less → AllBefore (h ++ a ∷ []) k
before-snoc [] a k up l = (l, tt)
before-snoc (e ∷ h) a k up l = (up.0, before-snoc h a k up.1 l)

each-snoc : (h : Heading) (a : Name × Kind) (rest : Shape) → EachBefore h rest → AllBehind a rest → EachBefore (h ++ a ∷ []) rest
each-snoc h a [] up after = tt
each-snoc h a (b ∷ rest) up after = (before-snoc h a b.0 up.0 after.0, each-snoc h a rest up.1 after.1)

shape-after : (before : Heading) (rest : Shape) → AreNames rest → EachBefore before rest → Ascending rest → shape_made before rest ≡ Some (before ++ rest)
shape-after before [] names each up = ap Some (sym (append-nil before))
shape-after before (a ∷ rest) names each up =
    ap (λ b. cond b (cond (has_name before a.0) None (shape_made (with_attribute before a.0 a.1) rest)) None) names.0
    ∙ (ap (λ b. cond b None (shape_made (with_attribute before a.0 a.1) rest)) (has-none before a.0 each.0)
    ∙ (ap (λ (z : Heading). shape_made z rest) (insert-last before a.0 a.1 each.0)
    ∙ (shape-after (before ++ a ∷ []) rest names.1 (each-snoc before a rest each.1 up.0) up.1
    ∙ ap Some (append_assoc before (a ∷ []) rest))))

none-before : (rest : Shape) → EachBefore [] rest
none-before [] = tt
none-before (a ∷ rest) = (tt, none-before rest)

pub shape-makes : (shape : Shape) → AreNames shape → Ascending shape → shape_made [] shape ≡ Some shape
shape-makes shape names up = shape-after [] shape names (none-before shape) up

-- ---- rows

-- behind the first name the places are those among the others, and one more
later-places : (a : Name × Kind) (names : List Name) (v : Value) (vs : List Value) (rest : Shape) → AllBehind a rest → part_of (places (a.0 ∷ names) rest) (v ∷ vs) ≡ part_of (places names rest) vs
later-places a names v vs [] up = refl
later-places a names v vs (b ∷ rest) up =
    let apart : bytes_eq a.0 b.0 ≡ false = texts_ties a.0 b.0 ∙ ap is_eq up.0 in
    ap₂ (λ (x : Value) (xs : List Value). x ∷ xs) (ap (λ t. slice_index_or (v ∷ vs) (cond t 0 (suc (place_among names b.0))) (truth false)) apart) (later-places a names v vs rest up.1)

pub row-stays : (shape : Shape) (vs : List Value) → Ascending shape → length vs ≡ length shape → in_heading shape shape vs ≡ vs
row-stays [] [] up e = refl
row-stays [] (v ∷ vs) up e = absurd (omega (arith, e))
row-stays (a ∷ shape) [] up e = absurd (omega (arith, e))
row-stays (a ∷ shape) (v ∷ vs) up e =
    ap₂ (λ (x : Value) (xs : List Value). x ∷ xs) (ap (λ t. slice_index_or (v ∷ vs) (cond t 0 (suc (place_among (map (λ b. b.0) shape) a.0))) (truth false)) (own_name a.0))
    (later-places a (map (λ b. b.0) shape) v vs shape up.0 ∙ row-stays shape vs up.1 (omega (arith, e)))
