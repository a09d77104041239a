-- Where no entry is a stored view nothing is asked of the places beside them; and where each stored view has its rows, each means rows.
--     unstored      any rows may stand beside such entries
--     no_rows, no_faults      there are no rows of stored views, and none has too many
--     stored-few      stored views that have their rows have not too many
use Rattle.std.proofs.Common.{◌≡◌, true, false, List, [], ◌∷◌, refl, ap, true≢false, Option, Some, None}
use Rattle.std.specs.Prelude.{◌&&◌, ◌+◌, is_some}
use Rattle.std.proofs.lemmas.Bool.{or_parts}
use Rattle.value_core.specs.Values.{Relation}
use Rattle.tree_core.specs.Relvars.{PlainRelvar, base, view, log, derived, of_history, stored, Entries}
use Rattle.tree_core.specs.Trees.{Tree}
use Rattle.meaning_core.specs.StoredRows.{HasItsRows, HaveTheirRows, AreStored}
use Rattle.stored_views.specs.Stored.{is_stored, has_stored, stored_tree, is_meant, count_if, is_meant_if, rows_among, rows_of_stored, are_meant_among, are_stored_few}

-- ---- no stored view

any_rows : (all : Entries) (r : PlainRelvar) (o : Option Relation) → is_stored r ≡ false → HasItsRows all r o
any_rows all (base value constraints) o e = tt
any_rows all (view t derived) o e = tt
any_rows all (view t (of_history names)) o e = tt
any_rows all (view t stored) o e = absurd (true≢false e)
any_rows all (log of side last value) o e = tt

pub unstored_among : (all es : Entries) (rows : List (Option Relation)) → has_stored es ≡ false → HaveTheirRows all es rows
unstored_among all [] rows none = tt
unstored_among all (e ∷ es) [] none =
    let parts = or_parts (is_stored e.1) (has_stored es) none in
    (any_rows all e.1 None parts.0, unstored_among all es [] parts.1)
unstored_among all (e ∷ es) (o ∷ rows) none =
    let parts = or_parts (is_stored e.1) (has_stored es) none in
    (any_rows all e.1 o parts.0, unstored_among all es rows parts.1)

pub unstored : (es : Entries) (rows : List (Option Relation)) → has_stored es ≡ false → AreStored es rows
unstored es rows none = unstored_among es es rows none

none-counted : (all : Entries) (o : Option Tree) → is_some o ≡ false → count_if all o ≡ 0
none-counted all None e = refl
none-counted all (Some t) e = absurd (true≢false e)

none-faulty : (all : Entries) (o : Option Tree) → is_some o ≡ false → is_meant_if all o ≡ true
none-faulty all None e = refl
none-faulty all (Some t) e = absurd (true≢false e)

pub no_rows_among : (all es : Entries) → has_stored es ≡ false → rows_among all es ≡ 0
no_rows_among all [] none = refl
no_rows_among all (e ∷ es) none =
    let parts = or_parts (is_stored e.1) (has_stored es) none in
    λ i. none-counted all (stored_tree e.1) parts.0 i + no_rows_among all es parts.1 i

pub no_rows : (es : Entries) → has_stored es ≡ false → rows_of_stored es ≡ 0
no_rows es none = no_rows_among es es none

pub no_faults_among : (all es : Entries) → has_stored es ≡ false → are_meant_among all es ≡ true
no_faults_among all [] none = refl
no_faults_among all (e ∷ es) none =
    let parts = or_parts (is_stored e.1) (has_stored es) none in
    λ i. none-faulty all (stored_tree e.1) parts.0 i && no_faults_among all es parts.1 i

pub no_faults : (es : Entries) → has_stored es ≡ false → are_stored_few es ≡ true
no_faults es none = no_faults_among es es none

-- ---- stored views with their rows

its-few : (all : Entries) (r : PlainRelvar) (o : Option Relation) → HasItsRows all r o → is_meant_if all (stored_tree r) ≡ true
its-few all (base value constraints) o h = refl
its-few all (view t derived) o h = refl
its-few all (view t (of_history names)) o h = refl
its-few all (view t stored) None h = absurd h
its-few all (view t stored) (Some rows) h = ap is_meant h.means
its-few all (log of side last value) o h = refl

few-among : (all es : Entries) (rows : List (Option Relation)) → HaveTheirRows all es rows → are_meant_among all es ≡ true
few-among all [] rows h = refl
few-among all (e ∷ es) [] h = λ i. its-few all e.1 None h.0 i && few-among all es [] h.1 i
few-among all (e ∷ es) (o ∷ rows) h = λ i. its-few all e.1 o h.0 i && few-among all es rows h.1 i

pub stored-few : (es : Entries) (rows : List (Option Relation)) → AreStored es rows → are_stored_few es ≡ true
stored-few es rows h = few-among es es rows h
