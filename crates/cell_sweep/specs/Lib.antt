pub mod Rows
pub mod PackedRows
pub mod Sweeps
pub mod Parted
pub mod TwoSides
pub mod Runs
