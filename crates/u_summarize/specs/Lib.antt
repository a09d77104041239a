pub mod Asked
pub mod Counts
pub mod Entries
pub mod Extremes
pub mod Figures
pub mod Groups
pub mod Picked
pub mod PointCells
