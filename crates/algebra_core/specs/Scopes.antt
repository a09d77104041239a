-- The first entries of a state as the scope of names.
--     CanEvaluate      what an expression in a scope keeps
--     CanLookUp      what an entry of a scope keeps
--     known_at, prices_at      what the names of a scope mean, and what steps they take
--     stored_rows      the rows that are stored of a view, and stand for its name
--     entry_meaning, entry_cost      what an entry of a scope means, and what steps its name takes
use Rattle.std.specs.Prelude.{ℕ, ◌+◌, [], take, Option, Some, None, option_map, slice_index_or, if◌then◌else◌}
use Rattle.std.specs.Str.{bytes_eq}
use Rattle.value_core.specs.Values.{Name, Relation}
use Rattle.tree_core.specs.Relvars.{PlainKind, derived, of_history, stored, PlainRelvar, Entries, State, read_relvars}
use Rattle.tree_core.specs.Trees.{Tree}
use Rattle.algebra_core.specs.Costs.{Prices, is_renewed, prices_with, relvar_cost}
use Rattle.algebra_core.specs.declared.scope.Scope.{Scope}
use Rattle.meaning_core.specs.Meanings.{Known, RowsMeant, known_in, relvar_meaning}
use Rattle.meaning_core.specs.Names.{IsFirstAt, given, given_relvar}
use Rattle.meaning_core.specs.Sizes.{nodes, relvar_nodes, weight}
use Rattle.meaning_core.specs.StoredRows.{AreStored}
use Rattle.meaning_core.specs.Typing.{IsTypedTree}
use Rattle.meaning_core.specs.WellMade.{sizes_of, headings_of, AreRelvars, IsGiven}

-- ---- scopes

abbrev pub with_of : Scope → Option Name
with_of s = option_map (λ name. name.now) s.with

abbrev pub value_of : Scope → Option Relation
value_of s = option_map (λ value. value.now) s.value

-- the state of a scope
abbrev pub state_of : Scope → State
state_of s = read_relvars s.relvars.now

-- its entries, all of them and the first ones
abbrev pub all_of : Scope → Entries
all_of s = (state_of s).relvars

abbrev pub first_of : Scope → Entries
first_of s = take s.before (all_of s)

-- what the names of the scope mean
abbrev pub known_at : Scope → Known
known_at s = known_in (take s.before (given (with_of s) (value_of s) (all_of s)))

-- and what they take
abbrev pub prices_at : Scope → Prices
prices_at s = prices_with (with_of s) (take s.before (given (with_of s) (value_of s) (all_of s)))

-- the expression is typed for the scope, the state keeps what declarations keep, and each stored view has its rows
pub record CanEvaluate (s : Scope) (t : Tree) : Type 0 where
  pub relvars : AreRelvars (sizes_of (state_of s).ordinals) [] (all_of s)
  pub given : IsGiven (all_of s) (with_of s) (value_of s)
  pub stored : AreStored (all_of s) s.stored.now
  pub typed : IsTypedTree (sizes_of (state_of s).ordinals) (headings_of (first_of s)) t

-- the scope of the entries before a place
abbrev pub up_to : Scope → ℕ → Scope
up_to s at = record s { before = at }

-- the name stands for the relvar or view at a place
pub record CanLookUp (s : Scope) (name : Name) (at : ℕ) (r : PlainRelvar) : Type 0 where
  pub relvars : AreRelvars (sizes_of (state_of s).ordinals) [] (all_of s)
  pub given : IsGiven (all_of s) (with_of s) (value_of s)
  pub stored : AreStored (all_of s) s.stored.now
  pub first : IsFirstAt (all_of s) name at r

-- the value of a base relvar of this name, or the one that stands for it
abbrev pub current : Option Name → Option Relation → Name → Relation → Relation
current (Some with) (Some value) name old = if bytes_eq name with then value else old
current (Some with) None name old = old
current None value name old = old

-- the rows of a stored view at a place, unless it names the relvar that has another value
abbrev pub unless_renewed : Scope → ℕ → Tree → Option Relation
unless_renewed s at t = if is_renewed (with_of s) t then None else slice_index_or s.stored.now at None

-- what is stored of a view at a place, and stands for its name; of other views nothing is
abbrev pub stored_rows : Scope → ℕ → Tree → PlainKind → Option Relation
stored_rows s at t derived = None
stored_rows s at t (of_history names) = None
stored_rows s at t stored = unless_renewed s at t

-- what a relvar or view at a place means
abbrev pub entry_meaning : Scope → Name → ℕ → PlainRelvar → RowsMeant
entry_meaning s name at r = relvar_meaning (known_at (up_to s at)) (given_relvar (with_of s) (value_of s) name r)

-- what it takes: another value changes no view's expression
abbrev pub entry_cost : Scope → ℕ → PlainRelvar → ℕ
entry_cost s at r = relvar_cost (with_of s) (prices_at (up_to s at)) r

-- what work is left for an expression in a scope, and for an entry
abbrev pub work : Scope → Tree → ℕ
work s t = nodes t + weight (first_of s)

abbrev pub entry_work : Scope → ℕ → PlainRelvar → ℕ
entry_work s at r = relvar_nodes r + weight (take at (all_of s))
