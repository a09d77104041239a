pub mod Moved
pub mod MovedPieces
pub mod Held
