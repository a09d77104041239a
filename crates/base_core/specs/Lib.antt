pub mod Sets
pub mod Outcomes
