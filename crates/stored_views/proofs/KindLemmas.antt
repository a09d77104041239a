-- Which entries are stored views hangs on their kinds alone, which new values of base relvars do not change.
--     same_tree      an entry is a stored view with the same expression
--     has_stored-changed, rows-changed, meant-changed      so it is of all entries
--     stored-changed      their rows stand at the same places
use Rattle.std.proofs.Common.{◌≡◌, List, [], ◌∷◌, refl, Option, Some, None}
use Rattle.std.specs.Prelude.{◌&&◌, ◌||◌, ◌+◌, is_some}
use Rattle.value_core.specs.Values.{Relation}
use Rattle.tree_core.specs.Relvars.{PlainRelvar, base, view, log, Entries}
use Rattle.meaning_core.specs.StoredRows.{HasItsRows, HaveTheirRows}
use Rattle.relvar_logs.specs.Changes.{Changes, changed, changed_relvar}
use Rattle.stored_views.specs.Stored.{stored_tree, has_stored, count_if, is_meant_if, rows_among, are_meant_among}

pub same_tree : (c : Option Relation) (r : PlainRelvar) → stored_tree (changed_relvar c r) ≡ stored_tree r
same_tree None r = refl
same_tree (Some v) (base value constraints) = refl
same_tree (Some v) (view t kind) = refl
same_tree (Some v) (log of side last value) = refl

pub has_stored-changed : (cs : Changes) (es : Entries) → has_stored (changed cs es) ≡ has_stored es
has_stored-changed [] es = refl
has_stored-changed (c ∷ cs) [] = refl
has_stored-changed (c ∷ cs) (e ∷ es) = λ i. is_some (same_tree c e.1 i) || has_stored-changed cs es i

its-changed : (all : Entries) (c : Option Relation) (r : PlainRelvar) (o : Option Relation) → HasItsRows all r o → HasItsRows all (changed_relvar c r) o
its-changed all None r o h = h
its-changed all (Some v) (base value constraints) o h = tt
its-changed all (Some v) (view t kind) o h = h
its-changed all (Some v) (log of side last value) o h = tt

module _ (all : Entries) where
  pub rows-changed : (cs : Changes) (es : Entries) → rows_among all (changed cs es) ≡ rows_among all es
  rows-changed [] es = refl
  rows-changed (c ∷ cs) [] = refl
  rows-changed (c ∷ cs) (e ∷ es) = λ i. count_if all (same_tree c e.1 i) + rows-changed cs es i

  pub meant-changed : (cs : Changes) (es : Entries) → are_meant_among all (changed cs es) ≡ are_meant_among all es
  meant-changed [] es = refl
  meant-changed (c ∷ cs) [] = refl
  meant-changed (c ∷ cs) (e ∷ es) = λ i. is_meant_if all (same_tree c e.1 i) && meant-changed cs es i

  pub stored-changed : (cs : Changes) (es : Entries) (rows : List (Option Relation)) → HaveTheirRows all es rows → HaveTheirRows all (changed cs es) rows
  stored-changed [] es rows h = h
  stored-changed (c ∷ cs) [] rows h = tt
  stored-changed (c ∷ cs) (e ∷ es) [] h = (its-changed all c e.1 None h.0, stored-changed cs es [] h.1)
  stored-changed (c ∷ cs) (e ∷ es) (o ∷ rows) h = (its-changed all c e.1 o h.0, stored-changed cs es rows h.1)
