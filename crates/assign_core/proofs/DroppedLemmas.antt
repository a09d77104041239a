-- The places of stored rows where entries are dropped.
--     none_named      no entry has the name
--     two_left, three_dropped      the entries without one name and another, and the places without three
use Rattle.std.proofs.Common.{◌≡◌, ℕ, zero, suc, ◌<◌, Bool, false, List, [], ◌∷◌, map, length, get_or, refl, sym, ap, ◌∙◌, subst, arith, Option, None}
use Rattle.std.specs.Prelude.{◌||◌}
use Rattle.std.specs.List.{list_any, IsDistinct}
use Rattle.std.specs.Map.{keys_of}
use Rattle.std.specs.Str.{bytes_eq}
use Rattle.indexmap.specs.IndexMap.{shift_remove_entry}
use Rattle.value_core.specs.Values.{Name, Relation}
use Rattle.tree_core.specs.declared.relvar.Relvar.{Relvar}
use Rattle.tree_core.specs.Relvars.{Entries, read_entry}
use Rattle.tree_core.specs.Uses.{is_one_of}
use Rattle.stored_views.specs.Without.{rows_without}
use Rattle.stored_views.proofs.WithoutLemmas.{without_next}
use Rattle.assign_core.proofs.NameLemmas.{distinct_apart, shift_apart, turned}
use Rattle.assign_core.proofs.StateLemmas.{alone_removed}

pub none_named : (es : List (Name × Relvar)) (name : Name)
    → ((k : ℕ) → k < length (map (λ (e : Name × Relvar). e.0) es) → bytes_eq name (get_or (map (λ (e : Name × Relvar). e.0) es) k []) ≡ false)
    → list_any (λ r. is_one_of (name ∷ []) r.0) (map read_entry es) ≡ false
none_named [] name none = refl
none_named (e ∷ es) name none = λ i. (turned name e.0 (none 0 (omega arith)) i || false) || none_named es name (λ k l. none (suc k) (omega arith)) i

pub distinct_next : (es first : List (Name × Relvar)) (name : Name) → IsDistinct bytes_eq (keys_of es) → first ≡ shift_remove_entry (bytes_eq name) es → IsDistinct bytes_eq (keys_of first)
distinct_next es first name different e =
    subst (λ (z : List (Name × Relvar)). IsDistinct bytes_eq (keys_of z)) (sym (e ∙ shift_apart es name different)) (distinct_apart es name different)

pub three_dropped : (es first second : List (Name × Relvar)) (a b c : Name) (rows one two three : List (Option Relation)) → IsDistinct bytes_eq (keys_of es)
    → first ≡ shift_remove_entry (bytes_eq a) es → second ≡ shift_remove_entry (bytes_eq b) first
    → one ≡ rows_without (a ∷ []) (map read_entry es) rows → two ≡ rows_without (b ∷ []) (map read_entry first) one → three ≡ rows_without (c ∷ []) (map read_entry second) two
    → three ≡ rows_without (a ∷ b ∷ c ∷ []) (map read_entry es) rows
three_dropped es first second a b c rows one two three different e f p q r =
    let es1 = alone_removed es first a None different e refl in
    let es2 = alone_removed first second b None (distinct_next es first a different e) f refl in
    r
    ∙ (ap (λ (z : Entries). rows_without (c ∷ []) z two) es2
    ∙ (ap (rows_without (c ∷ []) _) q
    ∙ (sym (without_next b (c ∷ []) (map read_entry first) one)
    ∙ (ap (λ (z : Entries). rows_without (b ∷ c ∷ []) z one) es1
    ∙ (ap (rows_without (b ∷ c ∷ []) _) p
    ∙ sym (without_next a (b ∷ c ∷ []) (map read_entry es) rows))))))
