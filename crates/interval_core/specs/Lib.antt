pub mod Members
pub mod Comparisons
pub mod Operators
pub mod Selector
pub mod Packing
