-- Texts with commas between them, one by one.
use Rattle.std.proofs.Common.{◌≡◌, ℕ, zero, suc, ◌+◌, ◌<◌, ◌≤◌, List, [], ◌∷◌, ◌++◌, length, take, drop, get_or, map, refl, sym, ◌∙◌, ap, subst, arith, append_assoc, append-nil, take-suc, take_all, length-append, take-append-drop}
use Rattle.std.proofs.lemmas.List.{get_or-map, length-map}
use Rattle.std.proofs.lemmas.Grind.{flat_map-append}
use Rattle.std.specs.List.{flat_map}
use Rattle.value_core.specs.declared.kind.Kind.{Kind}
use Rattle.value_core.specs.declared.list.OrdinalNames.{OrdinalNames}
use Rattle.value_core.specs.declared.value.Value.{Value}
use Rattle.value_core.specs.Values.{Name, Value as PlainValue, Row, Heading}
use Rattle.value_core.specs.Plain.{plain}
use Rattle.value_core.proofs.PlainLemmas.{plain_at}
use Rattle.dump_core.specs.Values.{value_script}
use Rattle.dump_core.specs.Inserts.{comma_at, behind_comma, listed, attribute_scripts, tuple_script}

flat-suc : (ts : List (List ℕ)) (i : ℕ) → i < length ts
    → flat_map behind_comma (take (suc i) ts) ≡ flat_map behind_comma (take i ts) ++ 44 ∷ 32 ∷ get_or ts i []
flat-suc ts i within =
    ap (flat_map behind_comma) (take-suc ts i [] within) ∙ flat_map-append behind_comma (take i ts) (get_or ts i [] ∷ [])
    ∙ ap (λ z. flat_map behind_comma (take i ts) ++ 44 ∷ 32 ∷ z) (append-nil (get_or ts i []))

listed-suc : (ts : List (List ℕ)) (i : ℕ) → i < length ts → listed (take (suc i) ts) ≡ listed (take i ts) ++ comma_at i ++ get_or ts i []
listed-suc [] i within = absurd (omega arith)
listed-suc (t ∷ ts) zero within = append-nil t
listed-suc (t ∷ ts) (suc i) within =
    let front : List ℕ = flat_map behind_comma (take i ts) in
    ap (λ z. t ++ z) (flat-suc ts i (omega arith)) ∙ sym (append_assoc t front (44 ∷ 32 ∷ get_or ts i []))
    ∙ sym (append_assoc (t ++ front) (44 ∷ 32 ∷ []) (get_or ts i []))

-- a text more
pub listed-more : (start out now x : List ℕ) (ts : List (List ℕ)) (i : ℕ) → i < length ts → x ≡ get_or ts i []
    → out ≡ start ++ listed (take i ts) → now ≡ out ++ comma_at i ++ x → now ≡ start ++ listed (take (i + 1) ts)
listed-more start out now x ts i within text is grows =
    let next : suc i ≡ i + 1 = omega arith in
    let front : List ℕ = listed (take i ts) in
    grows ∙ ap (λ z. z ++ comma_at i ++ x) is ∙ ap (λ z. z ++ x) (append_assoc start front (comma_at i)) ∙ append_assoc start (front ++ comma_at i) x
    ∙ ap (λ z. start ++ (front ++ comma_at i ++ z)) text ∙ ap (λ z. start ++ z) (sym (listed-suc ts i within))
    ∙ ap (λ n. start ++ listed (take n ts)) next

-- all texts
pub listed-all : (start out : List ℕ) (ts : List (List ℕ)) (i : ℕ) → length ts ≤ i → out ≡ start ++ listed (take i ts) → out ≡ start ++ listed ts
listed-all start out ts i far is = is ∙ ap (λ (z : List (List ℕ)). start ++ listed z) (take_all i ts far)

-- the first texts are not longer than all
front_within : (ts : List (List ℕ)) (i : ℕ) → length (listed (take i ts)) ≤ length (listed ts)
front_within [] zero = omega arith
front_within [] (suc i) = omega arith
front_within (t ∷ ts) zero = omega arith
front_within (t ∷ ts) (suc i) =
    let all : flat_map behind_comma ts ≡ flat_map behind_comma (take i ts) ++ flat_map behind_comma (drop i ts) =
    ap (flat_map behind_comma) (sym (take-append-drop i ts)) ∙ flat_map-append behind_comma (take i ts) (drop i ts) in
    let long : length (flat_map behind_comma ts) ≡ length (flat_map behind_comma (take i ts)) + length (flat_map behind_comma (drop i ts)) =
    ap length all ∙ length-append (flat_map behind_comma (take i ts)) (flat_map behind_comma (drop i ts)) in
    omega (arith, long, length-append t (flat_map behind_comma (take i ts)), length-append t (flat_map behind_comma ts))

pub longer-yet : (start out : List ℕ) (ts : List (List ℕ)) (i most : ℕ) → out ≡ start ++ listed (take i ts) → most < length out → most < length (start ++ listed ts)
longer-yet start out ts i most is over =
    let long : length out ≡ length (start ++ listed (take i ts)) = ap length is in
    omega (arith, long, over, length-append start (listed (take i ts)), length-append start (listed ts), front_within ts i)

-- ---- the attributes of a row

-- a name, a space and a value behind a comma
pub attribute-behind : (out now spelled name value : List ℕ) (i : ℕ) → spelled ≡ name → now ≡ out ++ comma_at i ++ spelled ++ 32 ∷ value
    → now ≡ out ++ comma_at i ++ (name ++ 32 ∷ value)
attribute-behind out now spelled name value i same is =
    is ∙ append_assoc (out ++ comma_at i) spelled (32 ∷ value) ∙ ap (λ z. out ++ comma_at i ++ (z ++ 32 ∷ value)) same

pub length-attributes : (types : List OrdinalNames) (h : Heading) (row : Row) → length h ≡ length row → length (attribute_scripts types h row) ≡ length row
length-attributes types [] [] e = refl
length-attributes types [] (v ∷ row) e = absurd (omega (arith, e))
length-attributes types (a ∷ h) [] e = absurd (omega (arith, e))
length-attributes types (a ∷ h) (v ∷ row) e = let rest : length h ≡ length row = omega (arith, e) in ap suc (length-attributes types h row rest)

attribute-among : (types : List OrdinalNames) (h : Heading) (row : Row) (i : ℕ) (a : Name × Kind) (d : PlainValue) → i < length h → i < length row
    → get_or (attribute_scripts types h row) i [] ≡ (get_or h i a).0 ++ 32 ∷ value_script types (get_or row i d)
attribute-among types [] row i a d m n = absurd (omega arith)
attribute-among types (b ∷ h) [] i a d m n = absurd (omega arith)
attribute-among types (b ∷ h) (v ∷ row) zero a d m n = refl
attribute-among types (b ∷ h) (v ∷ row) (suc i) a d m n = attribute-among types h row i a d (omega arith) (omega arith)

pub attribute-at : (types : List OrdinalNames) (h : Heading) (values : List Value) (i : ℕ) (a : Name × Kind) (v : Value) → i < length h → i < length values
    → a ≡ get_or h i a → v ≡ get_or values i v → a.0 ++ 32 ∷ value_script types (plain v) ≡ get_or (attribute_scripts types h (map plain values)) i []
attribute-at types h values i a v m n is have =
    ap (λ (b : Name × Kind). b.0 ++ 32 ∷ value_script types (plain v)) is
    ∙ ap (λ (w : PlainValue). (get_or h i a).0 ++ 32 ∷ value_script types w) (plain_at values i v n have)
    ∙ sym (attribute-among types h (map plain values) i a (plain v) m (omega (arith, n, length-map values plain)))

-- ---- rows

-- a row more
pub tuple-more : (types : List OrdinalNames) (h : Heading) (rows : List Row) (values : List Value) (row : Row) (start out between now : List ℕ) (i : ℕ)
    → i < length rows → row ≡ get_or rows i row → map plain values ≡ row → out ≡ start ++ listed (take i (map (tuple_script types h) rows))
    → between ≡ out ++ comma_at i → now ≡ between ++ tuple_script types h (map plain values)
    → now ≡ start ++ listed (take (i + 1) (map (tuple_script types h) rows))
tuple-more types h rows values row start out between now i within here have is comma grows =
    let texts : List (List ℕ) = map (tuple_script types h) rows in
    let text : tuple_script types h (map plain values) ≡ get_or texts i [] =
    ap (tuple_script types h) (have ∙ here) ∙ sym (get_or-map (tuple_script types h) rows i row [] within) in
    listed-more start out now (tuple_script types h (map plain values)) texts i (omega (arith, within, length-map rows (tuple_script types h))) text is
    (grows ∙ ap (λ z. z ++ tuple_script types h (map plain values)) comma)
