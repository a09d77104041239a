pub mod Logs
pub mod Turns
pub mod Kept
pub mod Answers
pub mod Told
pub mod Fronts
