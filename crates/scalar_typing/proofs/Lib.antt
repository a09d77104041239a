pub mod LiteralLemmas
pub mod NameLemmas
pub mod DayLemmas
pub mod TypedLemmas
pub mod SoundLemmas
mod Checks
