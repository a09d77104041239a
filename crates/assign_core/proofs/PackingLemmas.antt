-- Insertions into a value that its own constraints keep packed.
--     kept_packed      rows are packed on the list of a constraint that holds
--     target_packed      those of a base relvar of a state that is kept
--     exchanged_apart      rows that go are left out of either part
use Rattle.std.proofs.Common.{◌≡◌, ◌≤◌, ℕ, Bool, true, false, cond, not, ◌||◌, List, [], ◌∷◌, ◌++◌, map, length, refl, sym, ap, subst, ◌∙◌, arith, true≢false, Some, None}
use Rattle.std.specs.Prelude.{slice_get}
use Rattle.std.specs.List.{All, filter, list_any}
use Rattle.std.proofs.lemmas.List.Elements.{All-head, All-tail}
use Rattle.base_core.specs.Sets.{has, in_order}
use Rattle.base_core.proofs.SetLemmas.{Ascends, Ascends-from_sorted}
use Rattle.base_core.proofs.SetOperatorLemmas.{are_same-≡, in_order-filter}
use Rattle.point_core.specs.declared.fault.Code.{Code}
use Rattle.point_core.specs.declared.fault.Code.TheVariants.{E40, E41, E42}
use Rattle.value_core.specs.RowPacking.{packed, unpacked, attribute}
use Rattle.value_core.specs.declared.constraint.Constraint.{Constraint}
use Rattle.value_core.specs.declared.constraint.Constraint.TheVariants.{Key, Packed, WhenUnpacked, UKey, Foreign, History}
use Rattle.value_core.specs.Values.{Name, Row, Relation, row_cmp, IsRelation}
use Rattle.value_core.specs.Order.{row_total, row_separates}
use Rattle.relation_core.specs.Operators.{subtracted, united}
use Rattle.relation_core.proofs.FilterLemmas.{length-filter_at_most}
use Rattle.tree_core.specs.declared.relvar.Relvar.{Relvar}
use Rattle.tree_core.specs.Relvars.{PlainRelvar, base, read_entry, read_relvar}
use Rattle.meaning_core.specs.Names.{IsFirstAt}
use Rattle.meaning_core.proofs.MadeLemmas.{same_name}
use Rattle.u_set.proofs.ImageLemmas.{Ascends-pack}
use Rattle.u_constraints.specs.Constraints.{broken, first_failed, is_key, is_packed}
use Rattle.u_constraints.specs.Growth.{exchanged}
use Rattle.assign_core.specs.Breaches.{first_broken, first_in, rows_named}
use Rattle.assign_core.specs.Insertions.{keeps_packed, is_kept_packed}
use Rattle.assign_core.proofs.TouchLemmas.{held_list, held_entry}
use Rattle.assign_core.proofs.TurnoverLemmas.{first_entry}

-- ---- rows that are kept packed

first_line : (b : Bool) (code : Code) (rest : List (Bool × Code)) → first_failed ((b, code) ∷ rest) ≡ None → b ≡ true
first_line true code rest e = refl
first_line false code rest e = absurd (cc)

of_packed : (commalist : List ℕ) (rows : List Row) → Ascends row_cmp rows → is_packed commalist rows ≡ true → packed commalist rows ≡ rows
of_packed commalist rows up e =
    sym ((are_same-≡ row_cmp row_total row_separates rows (packed commalist rows) up (Ascends-pack row_cmp row_total row_separates (map attribute commalist) rows up)).0 e)

packed_by : (commalist : List ℕ) (rows others : List Row) (c : Constraint) → Ascends row_cmp rows → keeps_packed commalist c ≡ true → broken c rows others ≡ None → packed commalist rows ≡ rows
packed_by commalist rows others (Key k) up e held = absurd (true≢false (sym e))
packed_by commalist rows others (Packed own) up e held =
    subst (λ (l : List ℕ). packed l rows ≡ rows) (same_name own commalist e) (of_packed own rows up (first_line (is_packed own rows) E41 [] held))
packed_by commalist rows others (WhenUnpacked own k) up e held = absurd (true≢false (sym e))
packed_by commalist rows others (UKey own k) up e held =
    subst (λ (l : List ℕ). packed l rows ≡ rows) (same_name own commalist e)
    (of_packed own rows up (first_line (is_packed own rows) E41 ((is_key k (unpacked own rows), E42) ∷ (is_key k rows, E40) ∷ []) held))
packed_by commalist rows others (Foreign own here name there) up e held = absurd (true≢false (sym e))
packed_by commalist rows others (History rule) up e held = absurd (true≢false (sym e))

pub kept_packed : (commalist : List ℕ) (rows : List Row) (named : Constraint → List Row) (cs : List Constraint) → Ascends row_cmp rows → All (λ c. broken c rows (named c) ≡ None) cs
    → list_any (keeps_packed commalist) cs ≡ true → packed commalist rows ≡ rows
kept_packed commalist rows named [] up held e = absurd (true≢false (sym e))
kept_packed commalist rows named (c ∷ cs) up held e =
    by (keeps_packed commalist c) refl (kept_packed commalist rows named cs up (All-tail (λ k. broken k rows (named k) ≡ None) c cs held))
  where
    by : (b : Bool) → keeps_packed commalist c ≡ b → (list_any (keeps_packed commalist) cs ≡ true → packed commalist rows ≡ rows) → packed commalist rows ≡ rows
    by true q later = packed_by commalist rows (named c) c up q (All-head (λ k. broken k rows (named k) ≡ None) c cs held)
    by false q later = later (sym (ap (λ (t : Bool). t || list_any (keeps_packed commalist) cs) q) ∙ e)

-- ---- rows that go

filter-append : (p : Row → Bool) (xs ys : List Row) → filter p xs ++ filter p ys ≡ filter p (xs ++ ys)
filter-append p [] ys = refl
filter-append p (x ∷ xs) ys = by (p x) ∙ ap (λ (zs : List Row). cond (p x) (x ∷ zs) zs) (filter-append p xs ys)
  where
    by : (b : Bool) → cond b (x ∷ filter p xs) (filter p xs) ++ filter p ys ≡ cond b (x ∷ (filter p xs ++ filter p ys)) (filter p xs ++ filter p ys)
    by true = refl
    by false = refl

pub exchanged_apart : (value gone come : List Row) → united (subtracted value gone) (subtracted come gone) ≡ exchanged value gone come
exchanged_apart value gone come =
    let p = λ (x : Row). not (has row_cmp gone x) in
    ap (in_order row_cmp) (filter-append p value come) ∙ in_order-filter row_cmp row_total row_separates p (value ++ come)

-- and what is left is not more than there was
pub few_left : (value gone come : List Row) (most : ℕ) → length (united value come) ≤ most → length (exchanged value gone come) ≤ most
few_left value gone come most few = let less = length-filter_at_most (λ (x : Row). not (has row_cmp gone x)) (united value come) in omega (arith, less, few)

-- ---- the target

-- a base relvar with such a constraint is packed on the list
pub target_packed : (raw : List (Name × Relvar)) (target key : Name) (at : ℕ) (value : Relation) (own : List Constraint) (r : Relvar) (commalist : List ℕ) → IsRelation value
    → first_broken (map read_entry raw) ≡ None → IsFirstAt (map read_entry raw) target at (base value own) → slice_get raw at ≡ Some (key, r) → is_kept_packed commalist (read_relvar r) ≡ true
    → packed commalist value.rows ≡ value.rows
target_packed raw target key at value own r commalist is kept first there told =
    let all = map read_entry raw in
    let here : read_relvar r ≡ base value own = first_entry raw target at (base value own) key r first there in
    let held = subst (λ (x : PlainRelvar). first_in all key x ≡ None) here (held_entry all raw at key r kept there) in
    let list = held_list all key value.rows 1 own held in
    kept_packed commalist value.rows (rows_named all) own (Ascends-from_sorted row_cmp value.rows is.ascending) list (subst (λ (x : PlainRelvar). is_kept_packed commalist x ≡ true) here told)
