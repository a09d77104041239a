-- Names and attributes.
use Rattle.std.specs.Prelude.{◌≡◌, ◌≤◌, Bool, true, false, ◌&&◌, ℕ, List, [], ◌∷◌, length, nat_le, Option, Some, None, is_some, Result, Ok, Err, IfOk, MatchOption, if◌then◌else◌, refl}
use Rattle.std.proofs.Common.{sym, ◌∙◌, ap, subst, eq-eqb}
use Rattle.std.specs.Str.{IsUtf8}
use Rattle.std.specs.Str.Lossy.{utf8_valid_len}
use Rattle.std.proofs.lemmas.Str.{utf8_valid_len-IsUtf8}
use Rattle.std.proofs.lemmas.Bool.{le-leb, leb-true}
use Rattle.value_core.specs.Lengths.{IsNameLength, is_utf8}
use Rattle.std.specs.List.Sorted.{IsStrictlySortedBy}
use Rattle.std.specs.Map.{lookup, keys_of}
use Rattle.std.specs.BTreeMap.{is_at}
use Rattle.std.specs.Str.{bytes_eq}
use Rattle.std.specs.Cmp.Lexicographic.{texts_ties}
use Rattle.base_core.proofs.SetLemmas.{AllAfter, Ascends, Ascends-from_sorted}
use Rattle.base_core.proofs.ListLemmas.{bytes_eq-sym}
use Rattle.value_core.specs.declared.kind.Kind.{Kind}
use Rattle.value_core.specs.Headings.{has_name, IsHeadingOf}
use Rattle.value_core.specs.Limits.{most_attributes, most_name_bytes}
use Rattle.value_core.specs.Values.{Name, Heading, name_cmp, attribute_cmp}
use Rattle.relation_core.proofs.HeadingLemmas.{heading_in_order}
use Rattle.relation_typing.specs.Attributes.{is_name, heading_if_few}

-- a name is taken where it is UTF-8 and of such a length
three : (a b c : Bool) (bytes : List ℕ) → a ≡ true → b ≡ true → c ≡ true → Some bytes ≡ (if a && (b && c) then Some bytes else None)
three true true true bytes e f g = refl
three _ _ _ bytes e f g = absurd cc

not-three : (a b c : Bool) (bytes : List ℕ) → (b ≡ true → c ≡ true → ⊥) → None ≡ (if a && (b && c) then Some bytes else None)
not-three true true true bytes h = absurd (h refl refl)
not-three true true false bytes h = refl
not-three true false c bytes h = refl
not-three false b c bytes h = refl

pub made-name : {E : Type 0} (bytes text : List ℕ) (r : Result (Option (List ℕ)) E) → text ≡ bytes → IsUtf8 bytes →
    IfOk r (λ o. MatchOption o (IsNameLength text → ⊥) (λ n. (n ≡ text) × IsNameLength text)) → IfOk r (λ n. n ≡ (if is_name bytes then Some bytes else None))
made-name bytes text (Ok None) same valid h =
    not-three (is_utf8 bytes) (nat_le 1 (length bytes)) (nat_le (length bytes) most_name_bytes) bytes
    (λ least most. h (subst IsNameLength (sym same) (leb-true 1 (length bytes) least, leb-true (length bytes) most_name_bytes most)))
made-name bytes text (Ok (Some n)) same valid h =
    let long : IsNameLength bytes = subst IsNameLength same h.1 in
    ap Some (h.0 ∙ same) ∙ three (is_utf8 bytes) (nat_le 1 (length bytes)) (nat_le (length bytes) most_name_bytes) bytes
    (eq-eqb (utf8_valid_len bytes) (length bytes) (utf8_valid_len-IsUtf8 bytes valid)) (le-leb 1 (length bytes) long.0) (le-leb (length bytes) most_name_bytes long.1)
made-name bytes text (Err e) same valid h = tt

-- ---- the attributes of a map

-- a name is a key where an attribute has it
found-if : (name : Name) (a : Name × Kind) (rest : Heading) (b : Bool) → is_at (name_cmp name) a.0 ≡ b → bytes_eq a.0 name ≡ b →
    is_some (lookup (is_at (name_cmp name)) rest) ≡ has_name rest name → is_some (lookup (is_at (name_cmp name)) (a ∷ rest)) ≡ has_name (a ∷ rest) name
found-if name a rest true e f h = rw (e, f)
found-if name a rest false e f h = rw (e, f) h

pub has-key : (attributes : Heading) (name : Name) → is_some (lookup (is_at (name_cmp name)) attributes) ≡ has_name attributes name
has-key [] name = refl
has-key (a ∷ rest) name =
    found-if name a rest (bytes_eq a.0 name) (sym (bytes_eq-sym a.0 name ∙ texts_ties name a.0)) refl (has-key rest name)

keys-after : (name : Name) (kind : Kind) (rest : Heading) → AllAfter name_cmp name (keys_of rest) → AllAfter attribute_cmp (name, kind) rest
keys-after name kind [] h = tt
keys-after name kind (a ∷ rest) h = (h.0, keys-after name kind rest h.1)

keys-ascend : (attributes : Heading) → Ascends name_cmp (keys_of attributes) → Ascends attribute_cmp attributes
keys-ascend [] h = tt
keys-ascend (a ∷ rest) h = (keys-after a.0 a.1 rest h.0, keys-ascend rest h.1)

-- attributes in order are a heading
pub in-order : (attributes : Heading) → IsStrictlySortedBy name_cmp (keys_of attributes) → Ascends attribute_cmp attributes
in-order attributes h = keys-ascend attributes (Ascends-from_sorted name_cmp (keys_of attributes) h)

pub few-made : (attributes heading : Heading) → Ascends attribute_cmp attributes → IsHeadingOf attributes heading → length attributes ≤ most_attributes →
    Some heading ≡ heading_if_few attributes
few-made attributes heading up made few =
    let same : heading ≡ attributes = heading_in_order attributes heading up made.same made.ordered in
    rw (le-leb (length attributes) most_attributes few) (ap Some same)
