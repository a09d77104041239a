mod AnswerLemmas
mod DifferingLemmas
mod FilterLemmas
mod GroupLemmas
mod HeadingLemmas
mod KeyLemmas
mod LawLemmas
pub mod MovedLemmas
pub mod NameLemmas
mod NarrowLemmas
mod PartLemmas
mod PartedLemmas
mod SortedLemmas
pub mod TouchedLemmas
