pub mod Apart
pub mod Boxes
pub mod Coalescing
pub mod Fewer
pub mod FewerCells
