pub mod Checks
pub mod Refusals
