use Rattle.tree_core.specs.Relvars.{read_relvars}
use Rattle.assign_core.specs.InPlace.{changed_in_place}
use Rattle.assign_core.proofs.in_place.perform_prepared.Given as goal

abbrev pub ghost-exchange_in_place : goal.ghost-exchange_in_place
ghost-exchange_in_place g a = changed_in_place a.change (read_relvars a.relvars.now).relvars
