pub mod AppendingLemmas
pub mod FitLemmas
pub mod HeadingLemmas
pub mod OrderLemmas
pub mod PlacingLemmas
pub mod RelationLemmas
pub mod TextLemmas
pub mod PlainLemmas
