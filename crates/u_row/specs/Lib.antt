pub mod Labels
pub mod Cutting
pub mod Rules
pub mod Kept
