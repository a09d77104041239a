pub mod Drafts
pub mod Dumps
pub mod Inserts
pub mod Texts
pub mod Values
