pub mod EntryLemmas
pub mod LoadedLemmas
pub mod RowLemmas
pub mod UnbrokenLemmas
pub mod BaseLemmas
pub mod StepLemmas
pub mod ThroughLemmas
pub mod FilledLemmas
