-- What expressions, tests and relvars name.
--     is_one_of      whether a name is one of some names
--     names_any      whether an expression itself names one of some relvars and views
--     test_names_any, relvar_names_any      the same of a test, and of a relvar or view
use Rattle.std.specs.Prelude.{Bool, false, ◌||◌, List}
use Rattle.std.specs.List.{list_any}
use Rattle.std.specs.Str.{bytes_eq}
use Rattle.value_core.specs.declared.constraint.Constraint.{Constraint}
use Rattle.value_core.specs.declared.constraint.Constraint.TheVariants.{Key, Packed, WhenUnpacked, UKey, Foreign, History}
use Rattle.value_core.specs.Values.{Name}
use Rattle.tree_core.specs.Relvars.{PlainRelvar, base, view, log}
use Rattle.tree_core.specs.Trees.{Tree, Test, named, literal, infix_of, project, rename, restrict, extend, summarize, pack, unpack, using, relate, is_empty, is_not_empty}

abbrev pub is_one_of : List Name → Name → Bool
is_one_of names name = list_any (bytes_eq name) names

module _ (some : Name → Bool) where
  -- whether the expression itself names a relvar or view that is one of some
  abbrev pub names_any : Tree → Bool
  names_any (named place h name) = some name
  names_any (literal place h tuples) = false
  names_any (infix_of place h word l r) = names_any l || names_any r
  names_any (project place h kept t) = names_any t
  names_any (rename place h names t) = names_any t
  names_any (restrict place h c t) = names_any t
  names_any (extend place h sets t) = names_any t
  names_any (summarize place h by aggregates t) = names_any t
  names_any (pack place h commalist t) = names_any t
  names_any (unpack place h commalist t) = names_any t
  names_any (using place h commalist t) = names_any t

  -- whether one of the test's expressions does
  abbrev pub test_names_any : Test → Bool
  test_names_any (relate place word commalist l r) = names_any l || names_any r
  test_names_any (is_empty place t) = names_any t
  test_names_any (is_not_empty place t) = names_any t

  -- whether the constraint names such a relvar
  abbrev pub references_any : Constraint → Bool
  references_any (Key k) = false
  references_any (Packed commalist) = false
  references_any (WhenUnpacked commalist k) = false
  references_any (UKey commalist k) = false
  references_any (Foreign commalist k other there) = some other
  references_any (History rule) = some rule.since

  -- whether a relvar's constraint or a view's expression does, or a log is such a relvar's
  abbrev pub relvar_names_any : PlainRelvar → Bool
  relvar_names_any (base value constraints) = list_any references_any constraints
  relvar_names_any (view t kind) = names_any t
  relvar_names_any (log of side last value) = some of
