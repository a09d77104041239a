-- The state that a database holds.
use Rattle.tree_core.specs.Relvars.{State, read_relvars}
use Rattle.tree_core.specs.declared.relvar.Relvars.{Relvars}

abbrev pub state_of : Relvars → State
state_of database = read_relvars database
