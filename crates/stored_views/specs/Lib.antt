pub mod Moves
pub mod NextRows
pub mod Operands
pub mod Rules
pub mod Stored
pub mod ViewMoves
pub mod Without
