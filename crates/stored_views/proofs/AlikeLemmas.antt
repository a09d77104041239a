-- Where the relvars that a stored view names have the same values among two lists of entries, its expression means the same among both.
--     IsSameValue, HaveSameValues      a name stands for one value in both, and so does each base relvar of some entries
--     meant_alike      what an expression means that names such relvars alone
--     MeansSame, AreAlike      a stored view means the same in both, and so do all
--     alike_from      those of well made entries do
--     stored_alike, rows_alike, meant_alike_among      so their rows are there, as many, and as few
use Rattle.std.proofs.Common.{◌≡◌, ℕ, Bool, false, not, List, [], ◌∷◌, ◌++◌, refl, sym, ap, ◌∙◌, subst, append_assoc, Option, Some, None}
use Rattle.std.specs.Prelude.{◌&&◌, ◌+◌, IfSome}
use Rattle.value_core.specs.Values.{Name, Relation}
use Rattle.tree_core.specs.Relvars.{PlainRelvar, base, view, log, derived, of_history, stored, Entries, relvar_named}
use Rattle.tree_core.specs.Trees.{Tree}
use Rattle.tree_core.specs.Uses.{names_any}
use Rattle.meaning_core.specs.Meanings.{plainly, known_in, meaning_in}
use Rattle.meaning_core.specs.StoredRows.{IsValueThere, HasItsRows, HaveTheirRows}
use Rattle.meaning_core.specs.WellMade.{IsBase, is_base_in, IsRelvar, AreRelvars}
use Rattle.meaning_core.proofs.ElsewhereLemmas.{meaning-agrees}
use Rattle.relvar_logs.proofs.NextLemmas.{base_before}
use Rattle.stored_views.specs.Operands.{value_if}
use Rattle.stored_views.specs.Stored.{stored_tree, count_meant, is_meant, count_if, is_meant_if, rows_among, are_meant_among}
use Rattle.stored_views.proofs.OperandLemmas.{base_from}
use Rattle.stored_views.proofs.ValueLemmas.{found_value}

-- ---- values

-- the name stands for a base relvar with one value in both
abbrev pub IsSameValue : Entries → Entries → Name → Type 0
IsSameValue a b name = (x : Relation) × (value_if (relvar_named a name) ≡ Some x) × (value_if (relvar_named b name) ≡ Some x)

-- so does the name of each base relvar of some entries
abbrev pub HaveSameValues : Entries → Entries → Entries → Type 0
HaveSameValues some a b = (name : Name) → IsBase (relvar_named some name) → IsSameValue a b name

-- a base relvar has a value
pub value_of_base : (o p : Option PlainRelvar) → IsBase o → value_if p ≡ value_if o → (x : Relation) × (value_if o ≡ Some x) × (value_if p ≡ Some x)
value_of_base None p is e = absurd is
value_of_base (Some (base value constraints)) p is e = (value, refl, e)
value_of_base (Some (view t kind)) p is e = absurd is
value_of_base (Some (log of side last value)) p is e = absurd is

pub meant_alike : (a b : Entries) (other : Name → Bool) → ((name : Name) → other name ≡ false → IsSameValue a b name) → (t : Tree) → names_any other t ≡ false → meaning_in a t ≡ meaning_in b t
meant_alike a b other same t none =
    meaning-agrees other (known_in a) (known_in b) (λ name e. let w = same name e in found_value a name w.0 w.1 ∙ sym (found_value b name w.0 w.2)) plainly t none

-- ---- stored views

-- the expression of a stored view means the same in both
abbrev pub MeansSame : Entries → Entries → PlainRelvar → Type 0
MeansSame a b r = IfSome (stored_tree r) (λ t. meaning_in a t ≡ meaning_in b t)

-- so does each of some entries
abbrev pub AreAlike : Entries → Entries → Entries → Type 0
AreAlike a b [] = Unit {0}
AreAlike a b (r ∷ rest) = MeansSame a b r.1 × AreAlike a b rest

entry_alike : (sizes : List ℕ) (a b before : Entries) (own : Name) (r : PlainRelvar) → HaveSameValues before a b → IsRelvar sizes before own r → MeansSame a b r
entry_alike sizes a b before own (base value constraints) same is = tt
entry_alike sizes a b before own (view t derived) same is = tt
entry_alike sizes a b before own (view t (of_history names)) same is = tt
entry_alike sizes a b before own (view t stored) same is =
    meant_alike a b (λ name. not (is_base_in before name)) (λ name e. same name (base_from (relvar_named before name) e)) t is.1.1
entry_alike sizes a b before own (log of side last value) same is = tt

same_before : (a b before more : Entries) → HaveSameValues (before ++ more) a b → HaveSameValues before a b
same_before a b before more same name is = same name (subst IsBase (sym (base_before before more name is)) is)

alike_behind : (sizes : List ℕ) (a b before es : Entries) → HaveSameValues (before ++ es) a b → AreRelvars sizes before es → AreAlike a b es
alike_behind sizes a b before [] same all = tt
alike_behind sizes a b before (e ∷ es) same all = (
  entry_alike sizes a b before e.0 e.1 (same_before a b before (e ∷ es) same) all.0,
  alike_behind sizes a b (before ++ e ∷ []) es (subst (λ (z : Entries). HaveSameValues z a b) (sym (append_assoc before (e ∷ []) es)) same) all.1,
)

-- the stored views among well made entries, where each base relvar among these has one value in both
pub alike_from : (sizes : List ℕ) (a b es : Entries) → HaveSameValues es a b → AreRelvars sizes [] es → AreAlike a b es
alike_from sizes a b es same all = alike_behind sizes a b [] es same all

-- ---- their rows

there_alike : (a b : Entries) (t : Tree) (o : Option Relation) → meaning_in a t ≡ meaning_in b t → IsValueThere a t o → IsValueThere b t o
there_alike a b t None e h = h
there_alike a b t (Some rows) e h = record { means = sym e ∙ h.means; headed = h.headed }

its_alike : (a b : Entries) (r : PlainRelvar) (o : Option Relation) → MeansSame a b r → HasItsRows a r o → HasItsRows b r o
its_alike a b (base value constraints) o e h = tt
its_alike a b (view t derived) o e h = tt
its_alike a b (view t (of_history names)) o e h = tt
its_alike a b (view t stored) o e h = there_alike a b t o e h
its_alike a b (log of side last value) o e h = tt

pub stored_alike : (a b es : Entries) (rows : List (Option Relation)) → AreAlike a b es → HaveTheirRows a es rows → HaveTheirRows b es rows
stored_alike a b [] rows alike h = tt
stored_alike a b (e ∷ es) [] alike h = (its_alike a b e.1 None alike.0 h.0, stored_alike a b es [] alike.1 h.1)
stored_alike a b (e ∷ es) (o ∷ rows) alike h = (its_alike a b e.1 o alike.0 h.0, stored_alike a b es rows alike.1 h.1)

-- ---- how many they are

count_alike : (a b : Entries) (o : Option Tree) → IfSome o (λ t. meaning_in a t ≡ meaning_in b t) → count_if a o ≡ count_if b o
count_alike a b None e = refl
count_alike a b (Some t) e = ap count_meant e

few_alike : (a b : Entries) (o : Option Tree) → IfSome o (λ t. meaning_in a t ≡ meaning_in b t) → is_meant_if a o ≡ is_meant_if b o
few_alike a b None e = refl
few_alike a b (Some t) e = ap is_meant e

pub rows_alike : (a b es : Entries) → AreAlike a b es → rows_among a es ≡ rows_among b es
rows_alike a b [] alike = refl
rows_alike a b (e ∷ es) alike = λ i. count_alike a b (stored_tree e.1) alike.0 i + rows_alike a b es alike.1 i

pub meant_alike_among : (a b es : Entries) → AreAlike a b es → are_meant_among a es ≡ are_meant_among b es
meant_alike_among a b [] alike = refl
meant_alike_among a b (e ∷ es) alike = λ i. few_alike a b (stored_tree e.1) alike.0 i && meant_alike_among a b es alike.1 i
