pub mod Targets
pub mod Sets
pub mod Changes
pub mod Endings
pub mod Items
