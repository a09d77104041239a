pub mod CutLemmas
pub mod LeavingLemmas
pub mod RemovalLemmas
