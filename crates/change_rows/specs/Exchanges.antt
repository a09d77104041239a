-- What a relation loses and gains.
--     IsExchange      the rows that go are its own and those that come are not
use Rattle.std.specs.Prelude.{◌≡◌, ◌+◌, length}
use Rattle.value_core.specs.Values.{Relation}
use Rattle.u_constraints.specs.Growth.{exchanged}
use Rattle.change_rows.specs.declared.exchange.Exchange.{Exchange}

-- of a relation's heading, rows that come and are not its own, and rows that go and are
pub record IsExchange (value : Relation) (x : Exchange) : Type 0 where
  pub come : x.come.heading ≡ value.heading
  pub gone : x.gone.heading ≡ value.heading
  pub counted : length (exchanged value.rows x.gone.rows x.come.rows) + length x.gone.rows ≡ length value.rows + length x.come.rows
