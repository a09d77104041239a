-- What HISTORY declares: a relvar of what is so since a point, a relvar of what was so during an interval, and their view.
--     IsHistoryData      what a HISTORY is to have: room for two attributes more, and different names
--     declared_history      the two relvars with their constraints, and the view
--     declared_in      the state with what a list declares
--     IsTypedHistory      of what a HISTORY is to have, the part that the state tells: kinds that there are, and free names
use Rattle.std.specs.Prelude.{◌≡◌, ℕ, ◌≤◌, false, List, [], ◌∷◌, ◌++◌, length, fold, Some, IsTrue}
use Rattle.std.specs.List.{AllByRecursion}
use Rattle.std.specs.Str.{bytes_eq}
use Rattle.value_core.specs.declared.constraint.Constraint.{Constraint}
use Rattle.value_core.specs.declared.constraint.Constraint.TheVariants.{Key, UKey, History}
use Rattle.value_core.specs.declared.constraint.HistoryRule.{HistoryRule}
use Rattle.value_core.specs.declared.kind.Kind.TheVariants.{Point, Span}
use Rattle.value_core.specs.Headings.{has_name}
use Rattle.value_core.specs.Values.{Name, Heading}
use Rattle.relation_core.specs.Agreement.{names_of, position_of}
use Rattle.tree_core.specs.declared.declaration.HistoryData.{HistoryData}
use Rattle.tree_core.specs.Relvars.{State, of_history}
use Rattle.tree_core.specs.Trees.{Tree, named}
use Rattle.meaning_core.specs.Declarations.{PlainDeclaration, base_relvar, view_relvar, with_declaration}
use Rattle.meaning_core.specs.Histories.{joined_history, last_point, with_attribute}
use Rattle.meaning_core.specs.Meanings.{names_at, positions_of}
use Rattle.meaning_core.specs.Typing.{is_declared, is_type}
use Rattle.meaning_core.specs.WellMade.{sizes_of, all_names, AreDifferent}

-- the most attributes of the facts of a history
abbrev pub most_facts : ℕ
most_facts = 14

pub record IsHistoryData (h : HistoryData) : Type 0 where
  pub few : length h.heading ≤ most_facts
  pub point : has_name h.heading h.point ≡ false
  pub span : has_name h.heading h.span ≡ false
  pub apart : bytes_eq h.point h.span ≡ false
  pub key : AreDifferent h.heading h.key
  pub since : bytes_eq h.view h.since ≡ false
  pub during : bytes_eq h.view h.during ≡ false
  pub both : bytes_eq h.since h.during ≡ false

-- ---- headings

abbrev pub since_heading : HistoryData → Heading
since_heading h = with_attribute h.heading h.point (Point h.over)

abbrev pub during_heading : HistoryData → Heading
during_heading h = with_attribute h.heading h.span (Span h.over)

-- where the attributes of the key stand in a heading, and where all of the facts do
abbrev pub key_in : HistoryData → Heading → List ℕ
key_in h heading = positions_of heading (names_at h.heading h.key)

abbrev pub all_in : HistoryData → Heading → List ℕ
all_in h heading = positions_of heading (names_of h.heading)

abbrev pub span_of : HistoryData → ℕ
span_of h = position_of (during_heading h) h.span

-- ---- constraints

-- one fact of a key
abbrev pub since_constraints : HistoryData → List Constraint
since_constraints h = Key (key_in h (since_heading h)) ∷ []

-- the rule between relvars of these headings
abbrev pub rule_between : HistoryData → Heading → Heading → HistoryRule
rule_between h since during =
    record {
      since = h.since;
      key_here = key_in h during;
      key_there = key_in h since;
      all_here = all_in h during;
      all_there = all_in h since;
      point_there = position_of since h.point;
      span_here = position_of during h.span;
    }

-- at each point one fact of a key, and the rule between the two
abbrev pub during_constraints : HistoryData → List Constraint
during_constraints h = UKey (span_of h ∷ []) (key_in h (during_heading h) ++ span_of h ∷ []) ∷ History (rule_between h (since_heading h) (during_heading h)) ∷ []

-- ---- the view

abbrev pub view_of : HistoryData → Tree
view_of h =
    joined_history h.place h.place h.over h.point h.span h.during (since_heading h) (during_heading h) (last_point h.place h.over) (named h.place (since_heading h) h.since)

abbrev pub declared_history : HistoryData → List PlainDeclaration
declared_history h =
    base_relvar h.since (since_heading h) (since_constraints h)
    ∷ base_relvar h.during (during_heading h) (during_constraints h)
    ∷ view_relvar h.view (view_of h) (of_history (h.since, h.during))
    ∷ []

-- ---- in a state

-- the state with all that is declared, in the order of the list
abbrev pub declared_in : State → List PlainDeclaration → State
declared_in s list = fold with_declaration s list

-- no ordinal type, relvar, view or database constraint has the name
abbrev pub IsFreeIn : State → Name → Type 0
IsFreeIn s name = AllByRecursion (λ (n : Name). bytes_eq n name ≡ false) (all_names s)

-- kinds that there are, and names that nothing has
pub record IsTypedHistory (s : State) (h : HistoryData) : Type 0 where
  pub given : IsHistoryData h
  pub declared : IsTrue (is_declared (sizes_of s.ordinals) h.heading)
  pub over : IsTrue (is_type (sizes_of s.ordinals) h.over)
  pub view : IsFreeIn s h.view
  pub since : IsFreeIn s h.since
  pub during : IsFreeIn s h.during
