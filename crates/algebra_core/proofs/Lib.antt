pub mod CostLemmas
pub mod EvalLemmas
pub mod LiteralLemmas
pub mod NodeLemmas
pub mod OperandLemmas
pub mod StoredLemmas
pub mod SurroundingLemmas
pub mod TruthLemmas
