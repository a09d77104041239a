pub mod Elsewhere
pub mod Sayable
pub mod Statements
pub mod Written
