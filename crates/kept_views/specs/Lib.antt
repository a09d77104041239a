pub mod Differing
pub mod Kept
pub mod Parting
pub mod Sorted
pub mod Touched
