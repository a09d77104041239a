mod ConstraintLemmas
mod CountLemmas
mod DistinctLemmas
pub mod PositionLemmas
pub mod FitLemmas
mod StateLemmas
pub mod RelvarLaws
pub mod HistoryLaws
pub mod KeptLaws
pub mod LogLaws
mod OverLemmas
mod MoreTypes
pub mod OrdinalLaws
pub mod ViewLaws
pub mod DropLaws
pub mod RuleLaws
