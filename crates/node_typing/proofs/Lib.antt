pub mod HeadingLemmas
pub mod KeptLemmas
pub mod ListLemmas
