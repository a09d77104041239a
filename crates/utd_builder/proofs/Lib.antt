pub mod Steps
pub mod ScalarRows
pub mod PartRows
pub mod RelationRows
pub mod StatementRows
pub mod Paths
pub mod Closed
pub mod OneToken
