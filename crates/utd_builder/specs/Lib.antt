pub mod Building
pub mod Choices
pub mod Closing
