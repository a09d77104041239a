-- Rows in parts, and statements of them.
use Rattle.std.proofs.Common.{◌≡◌, ℕ, zero, suc, ◌+◌, ◌-◌, ◌<◌, ◌≤◌, List, [], ◌∷◌, ◌++◌, length, take, drop, get_or, map, Option, Some, None, refl, sym, ◌∙◌, ap, subst, arith, length-drop, false}
use Rattle.std.specs.Prelude.{◌==◌}
use Rattle.std.proofs.lemmas.Bool.{true≢false}
use Rattle.std.proofs.lemmas.List.{get_or-drop, get_or-take, length-take}
use Rattle.value_core.specs.declared.list.OrdinalNames.{OrdinalNames}
use Rattle.value_core.specs.Values.{Name, Row, Heading, Relation, IsRelation}
use Rattle.utd_print.specs.Tables.{AreRows, HaveKinds}
use Rattle.utd_print.proofs.TableLemmas.{relation-has-kinds}
use Rattle.tree_core.specs.Relvars.{Entries, PlainRelvar}
use Rattle.dump_core.specs.Inserts.{parts_in, parts_of, insert_script, parts_inserted, inserts, rows_of_entries}
use Rattle.dump_core.specs.Drafts.{Written, with_statement, with_statements}
use Rattle.dump_core.proofs.DraftLemmas.{one-more, one-refused, then-more, then-refused}

-- ---- parts

no_parts : (most size : ℕ) → parts_in {A = Row} most size [] ≡ []
no_parts zero size = refl
no_parts (suc most) size = refl

-- more turns than are needed give the same parts
enough : (m n size : ℕ) (rows : List Row) → length rows ≤ m → length rows ≤ n → 1 ≤ size → parts_in m size rows ≡ parts_in n size rows
enough m n size [] few fewer some = no_parts m size ∙ sym (no_parts n size)
enough zero n size (r ∷ rows) few fewer some = absurd (omega (arith, few))
enough (suc m) zero size (r ∷ rows) few fewer some = absurd (omega (arith, fewer))
enough (suc m) (suc n) size (r ∷ rows) few fewer some =
    let left = length-drop size (r ∷ rows) in
    ap (λ (z : List (List Row)). take size (r ∷ rows) ∷ z) (enough m n size (drop size (r ∷ rows)) (omega (arith, few, left, some)) (omega (arith, fewer, left, some)) some)

pub parts-more : (size : ℕ) (rows : List Row) → 1 ≤ size → 1 ≤ length rows → parts_of size rows ≡ take size rows ∷ parts_of size (drop size rows)
parts-more size [] some any = absurd (omega (arith, any))
parts-more size (r ∷ rows) some any =
    let behind : List Row = drop size (r ∷ rows) in
    ap (λ (z : List (List Row)). take size (r ∷ rows) ∷ z)
    (enough (length rows) (length behind) size behind (omega (arith, some, length-drop size (r ∷ rows))) (omega arith) some)

pub some-left : (rows : List Row) → (length rows == 0) ≡ false → 1 ≤ length rows
some-left [] e = absurd (true≢false e)
some-left (r ∷ rows) e = omega arith

-- ---- rows of a relation

pub rows-behind : (n k : ℕ) (rows : List Row) → AreRows n rows → AreRows n (drop k rows)
rows-behind n k rows h i d within =
    subst (λ (row : Row). (length row ≡ n) × HaveKinds row) (sym (get_or-drop k rows i d)) (h (k + i) d (omega (arith, within, length-drop k rows)))

pub rows-before : (n k : ℕ) (rows : List Row) → AreRows n rows → AreRows n (take k rows)
rows-before n k rows h i d within =
    let first : i < k = omega (arith, within, length-take k rows) in
    let all : i < length rows = omega (arith, within, length-take k rows) in
    subst (λ (row : Row). (length row ≡ n) × HaveKinds row) (sym (get_or-take k rows i d first)) (h i d all)

-- ---- a statement more

-- what is left of a relation's rows, and the statements that are to come
pub record PartsLeft (types : List OrdinalNames) (name : Name) (value : Relation) (size : ℕ) (before now : Written) (rest : List Row) : Type 0 where
  pub rows : AreRows (length value.heading) rest
  pub left : with_statements (map (insert_script types name value.heading) (parts_of size rest)) now
      ≡ with_statements (parts_inserted types name value size) before

pub parts-begin : (types : List OrdinalNames) (name : Name) (value : Relation) (size : ℕ) (before : Written) → IsRelation value
    → PartsLeft types name value size before before value.rows
parts-begin types name value size before h = record { rows = relation-has-kinds value value.heading value.rows h refl refl; left = refl }

pub part-more : (types : List OrdinalNames) (name : Name) (value : Relation) (size : ℕ) (before now later : Written) (rest : List Row)
    → PartsLeft types name value size before now rest → 1 ≤ size → 1 ≤ length rest
    → with_statement (insert_script types name value.heading (take size rest)) now ≡ Some later
    → PartsLeft types name value size before later (drop size rest)
part-more types name value size before now later rest h some any written =
    let insert : List Row → List ℕ = insert_script types name value.heading in
    record {
      rows = rows-behind (length value.heading) size rest h.rows;
      left = sym (one-more (insert (take size rest)) (map insert (parts_of size (drop size rest))) now later written)
          ∙ ap (λ (parts : List (List Row)). with_statements (map insert parts) now) (sym (parts-more size rest some any)) ∙ h.left;
    }

pub part-refused : (types : List OrdinalNames) (name : Name) (value : Relation) (size : ℕ) (before now : Written) (rest : List Row)
    → PartsLeft types name value size before now rest → 1 ≤ size → 1 ≤ length rest
    → with_statement (insert_script types name value.heading (take size rest)) now ≡ None
    → with_statements (parts_inserted types name value size) before ≡ None
part-refused types name value size before now rest h some any refused =
    let insert : List Row → List ℕ = insert_script types name value.heading in
    sym h.left ∙ ap (λ (parts : List (List Row)). with_statements (map insert parts) now) (parts-more size rest some any)
    ∙ one-refused (insert (take size rest)) (map insert (parts_of size (drop size rest))) now refused

-- ---- a relvar more

pub entries-more : (types : List OrdinalNames) (entries rest : Entries) (name : Name) (r : PlainRelvar) (w x : Written) → entries ≡ (name, r) ∷ rest
    → with_statements (inserts types name r) w ≡ Some x → with_statements (rows_of_entries types rest) x ≡ with_statements (rows_of_entries types entries) w
entries-more types entries rest name r w x is written =
    sym (then-more (inserts types name r) (rows_of_entries types rest) w x written) ∙ ap (λ (es : Entries). with_statements (rows_of_entries types es) w) (sym is)

pub entries-refused : (types : List OrdinalNames) (entries rest : Entries) (name : Name) (r : PlainRelvar) (w : Written) → entries ≡ (name, r) ∷ rest
    → with_statements (inserts types name r) w ≡ None → with_statements (rows_of_entries types entries) w ≡ None
entries-refused types entries rest name r w is refused =
    ap (λ (es : Entries). with_statements (rows_of_entries types es) w) is ∙ then-refused (inserts types name r) (rows_of_entries types rest) w refused
