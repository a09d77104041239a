pub mod CharacterLemmas
pub mod DateLemmas
pub mod IntervalLemmas
pub mod MomentLemmas
pub mod RefusalLemmas
pub mod TableLemmas
