-- The steps of a run that reads a dumped script: what is asked of the state before a statement, and what then comes of it.
--     lacks      whether a name stands for no relvar and no view
--     IsHeld      what is said is not refused: a stored view has room, and a database constraint holds
--     IsStepFor      a kept text can be declared anew
--     Declares      bytes are read as a statement that declares what the text said, with places moved
use Rattle.std.specs.Prelude.{◌≡◌, ℕ, Bool, true, false, is_none, List, ◌++◌, Ok}
use Rattle.point_core.specs.declared.fault.Place.{Place}
use Rattle.value_core.specs.declared.list.OrdinalNames.{OrdinalNames}
use Rattle.value_core.specs.Values.{Name}
use Rattle.tree_core.specs.Relvars.{State, relvar_named}
use Rattle.meaning_core.specs.Logs.{over_log}
use Rattle.meaning_core.specs.Truths.{holds_in}
use Rattle.meaning_core.specs.WellMade.{IsWellMade}
use Rattle.assign_core.specs.Room.{with_stored, stored_in}
use Rattle.dump_core.specs.Texts.{SourceText}
use Rattle.utd_lexer.specs.Gaps.{without_gaps}
use Rattle.utd_syntax.specs.Plain.{StatementP}
use Rattle.type_check.specs.Checks.{checked}
use Rattle.utd_statement.specs.Answers.{Changed, of_tree}
use Rattle.utd_statement.specs.Keeping.{Keeps, keeping_of}
use Rattle.utd_statement.specs.Readings.{Tree as TreeOf, IsText}
use Rattle.meaning_laws.specs.Likeness.{Alike, unknown}
use Rattle.text_laws.specs.Statements.{IsOneStatement}
use Rattle.typing_laws.specs.Saying.{Said, said_ordinal, said_base, said_view, said_stored, said_history, said_rule, moved_said, said_names_any, names_said, plain_of, IsFree, HasRoom, with_said}
use Rattle.dump_laws.specs.Kept.{IsTextOf}

-- the name stands for no relvar and no view
abbrev pub lacks : State → Name → Bool
lacks r name = is_none (relvar_named r.relvars name)

-- A stored view that leaves a well made state must mean rows for which there is room. A database constraint must hold in the state that is
-- to have it.
abbrev pub IsHeld : State → Said → Type 0
IsHeld r (said_ordinal name names) = Unit {0}
IsHeld r (said_base name heading typed) = Unit {0}
IsHeld r (said_view name t) = Unit {0}
IsHeld r (said_stored name t) = IsWellMade (with_stored r name t) → stored_in r name t ≡ Ok (with_stored r name t)
IsHeld r (said_history made) = Unit {0}
IsHeld r (said_rule name t) = holds_in r.relvars t ≡ true

-- The text says this in a state with fewer ordinal types. The state here is well made. What the text names stands for the like here, and
-- for a log or a view over one exactly where it does there. Its names are free, there is room, and it is not refused, wherever its places lie.
pub record IsStepFor (w r : State) (types more : List OrdinalNames) (t : SourceText) (d : Said) : Type 0 where
  pub text : IsTextOf (record w { ordinals = types }) t d
  pub fits : IsWellMade r
  pub ordinals : r.ordinals ≡ types ++ more
  pub alike : Alike (lacks r) w.relvars r.relvars
  pub logs : (name : Name) → unknown (lacks r) w.relvars name ≡ false → over_log w.relvars name ≡ over_log r.relvars name
  pub known : said_names_any (lacks r) d ≡ false
  pub free : IsFree r (names_said d)
  pub room : (f : Place → Place) → HasRoom r (moved_said f d)
  pub held : (f : Place → Place) → IsHeld r (moved_said f d)

-- From this place on the bytes are read as a statement whose text is kept as the same text. It is accepted, and the state has what
-- the text said, with places moved.
pub record Declares (place : Place) (bytes : List ℕ) (r : State) (t : SourceText) (d : Said) : Type 0 where
  pub move : Place → Place
  pub tree : StatementP
  pub text : IsText place bytes (TreeOf tree)
  pub keeping : keeping_of tree ≡ Keeps t.kind t.name
  pub typed : checked r tree ≡ Ok (plain_of (moved_said move d))
  pub answered : of_tree r tree ≡ Changed (with_said r (moved_said move d))
  pub begun : without_gaps bytes ≡ t.bytes
  pub one : IsOneStatement bytes
