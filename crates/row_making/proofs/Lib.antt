pub mod IntegerLemmas
pub mod ItemLemmas
pub mod PlaceLemmas
pub mod SummaryLemmas
