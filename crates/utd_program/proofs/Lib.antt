pub mod BackLemmas
pub mod GeneratedLemmas
pub mod SinkLemmas
pub mod WritingLemmas
