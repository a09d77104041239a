-- Where the names of expressions are looked up.
--     Scope      a state, and which of its names may not be named
--     scope_of      a state of which each name may be named
--     read_scope      how a scope is read
use Rattle.std.specs.Prelude.{Bool, false, map}
use Rattle.value_core.specs.Values.{Name}
use Rattle.tree_core.specs.Relvars.{State, read_relvars}
use Rattle.tree_core.specs.Uses.{is_one_of}
use Rattle.tree_typing.specs.declared.scopes.Scope.{Scope as Given}

pub record Scope : Type 0 where
  pub state : State
  pub closed : Name → Bool

abbrev pub scope_of : State → Scope
scope_of s = record { state = s; closed = λ name. false }

abbrev pub read_scope : Given → Scope
read_scope scope = record { state = read_relvars scope.relvars.now; closed = is_one_of (map (λ n. n.now) scope.closed.now) }
