-- Logs that are brought to the next statement change no stored view.
--     stored-turned      stored views have their rows
--     has_stored-turned, rows-turned, few-turned      which they are, how many rows they have, and whether these are few
use Rattle.std.proofs.Common.{◌≡◌, Bool, true, false, cond, List, [], ◌∷◌, map, refl, sym, ap, ◌∙◌, Option, Some, None}
use Rattle.std.specs.Prelude.{◌&&◌, ◌||◌, ◌+◌, is_some, option_map}
use Rattle.std.specs.Str.{bytes_eq}
use Rattle.value_core.specs.Values.{Name, Relation}
use Rattle.tree_core.specs.Relvars.{PlainRelvar, base, view, log, Entries, State, relvar_named}
use Rattle.meaning_core.specs.Logs.{turned_relvar, turned_logs}
use Rattle.meaning_core.specs.StoredRows.{HasItsRows, HaveTheirRows, AreStored}
use Rattle.meaning_core.specs.WellMade.{sizes_of, IsWellMade}
use Rattle.stored_views.specs.Operands.{value_if}
use Rattle.stored_views.specs.Stored.{stored_tree, has_stored, count_if, is_meant_if, rows_among, rows_of_stored, are_meant_among, are_stored_few}
use Rattle.stored_views.proofs.AlikeLemmas.{HaveSameValues, AreAlike, value_of_base, alike_from, stored_alike, rows_alike, meant_alike_among}

-- ---- entries

module _ (all : Entries) where
  abbrev turned : Entries → Entries
  turned es = map (λ r. (r.0, turned_relvar all r.1)) es

  tree-turned : (r : PlainRelvar) → stored_tree (turned_relvar all r) ≡ stored_tree r
  tree-turned (base value constraints) = refl
  tree-turned (view t kind) = refl
  tree-turned (log of side last value) = refl

  value-turned : (o : Option PlainRelvar) → value_if (option_map (turned_relvar all) o) ≡ value_if o
  value-turned None = refl
  value-turned (Some (base value constraints)) = refl
  value-turned (Some (view t kind)) = refl
  value-turned (Some (log of side last value)) = refl

  named-turned : (es : Entries) (name : Name) → relvar_named (turned es) name ≡ option_map (turned_relvar all) (relvar_named es name)
  named-turned [] name = refl
  named-turned (e ∷ es) name = by (bytes_eq e.0 name) (named-turned es name)
    where
      by : (b : Bool) → relvar_named (turned es) name ≡ option_map (turned_relvar all) (relvar_named es name)
          → cond b (Some (turned_relvar all e.1)) (relvar_named (turned es) name) ≡ option_map (turned_relvar all) (cond b (Some e.1) (relvar_named es name))
      by true h = refl
      by false h = h

  its-turned : (among : Entries) (r : PlainRelvar) (o : Option Relation) → HasItsRows among r o → HasItsRows among (turned_relvar all r) o
  its-turned among (base value constraints) o h = tt
  its-turned among (view t kind) o h = h
  its-turned among (log of side last value) o h = tt

  there-turned : (among es : Entries) (rows : List (Option Relation)) → HaveTheirRows among es rows → HaveTheirRows among (turned es) rows
  there-turned among [] rows h = tt
  there-turned among (e ∷ es) [] h = (its-turned among e.1 None h.0, there-turned among es [] h.1)
  there-turned among (e ∷ es) (o ∷ rows) h = (its-turned among e.1 o h.0, there-turned among es rows h.1)

  rows-same : (among es : Entries) → rows_among among (turned es) ≡ rows_among among es
  rows-same among [] = refl
  rows-same among (e ∷ es) = λ i. count_if among (tree-turned e.1 i) + rows-same among es i

  few-same : (among es : Entries) → are_meant_among among (turned es) ≡ are_meant_among among es
  few-same among [] = refl
  few-same among (e ∷ es) = λ i. is_meant_if among (tree-turned e.1 i) && few-same among es i

  has-same : (es : Entries) → has_stored (turned es) ≡ has_stored es
  has-same [] = refl
  has-same (e ∷ es) = λ i. is_some (tree-turned e.1 i) || has-same es i

-- ---- a well made state

same-turned : (es : Entries) → HaveSameValues es es (turned_logs es)
same-turned es name is = value_of_base _ _ is (ap value_if (named-turned es es name) ∙ value-turned es (relvar_named es name))

alike-turned : (s : State) → IsWellMade s → AreAlike s.relvars (turned_logs s.relvars) s.relvars
alike-turned s made = alike_from (sizes_of s.ordinals) s.relvars (turned_logs s.relvars) s.relvars (same-turned s.relvars) made.relvars

pub stored-turned : (s : State) (rows : List (Option Relation)) → IsWellMade s → AreStored s.relvars rows → AreStored (turned_logs s.relvars) rows
stored-turned s rows made h =
    there-turned s.relvars (turned_logs s.relvars) s.relvars rows (stored_alike s.relvars (turned_logs s.relvars) s.relvars rows (alike-turned s made) h)

pub has_stored-turned : (es : Entries) → has_stored (turned_logs es) ≡ has_stored es
has_stored-turned es = has-same es es

pub rows-turned : (s : State) → IsWellMade s → rows_of_stored (turned_logs s.relvars) ≡ rows_of_stored s.relvars
rows-turned s made =
    rows-same s.relvars (turned_logs s.relvars) s.relvars ∙ sym (rows_alike s.relvars (turned_logs s.relvars) s.relvars (alike-turned s made))

pub few-turned : (s : State) → IsWellMade s → are_stored_few (turned_logs s.relvars) ≡ are_stored_few s.relvars
few-turned s made =
    few-same s.relvars (turned_logs s.relvars) s.relvars ∙ sym (meant_alike_among s.relvars (turned_logs s.relvars) s.relvars (alike-turned s made))
