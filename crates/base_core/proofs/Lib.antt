pub mod SetLemmas
pub mod MemberLemmas
pub mod SetOperatorLemmas
pub mod OutcomeLemmas
pub mod BoolLemmas
pub mod IntLemmas
pub mod OrderingLemmas
pub mod ListLemmas
