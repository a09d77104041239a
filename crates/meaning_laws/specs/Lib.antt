pub mod Gives
pub mod Likeness
pub mod Moved
