pub mod NameLemmas
pub mod ConditionLemmas
pub mod PartLemmas
pub mod TypedLemmas
pub mod EndingLemmas
