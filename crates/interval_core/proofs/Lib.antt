pub mod MembersLemmas
pub mod ComparisonLemmas
pub mod OperatorLemmas
pub mod SelectorLemmas
