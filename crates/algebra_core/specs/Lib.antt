pub mod Costs
pub mod Operands
pub mod Scopes
pub mod Surroundings
