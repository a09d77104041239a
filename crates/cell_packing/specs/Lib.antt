pub mod Packed
pub mod Covering
pub mod Pieces
pub mod Live
pub mod Boxed
