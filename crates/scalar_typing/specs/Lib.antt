pub mod Typings
pub mod Literals
pub mod Names
pub mod Operators
pub mod Scalars
