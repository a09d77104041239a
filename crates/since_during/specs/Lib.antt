pub mod Sides
pub mod Joinable
pub mod Ended
pub mod Histories
