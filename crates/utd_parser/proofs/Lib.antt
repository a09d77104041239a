pub mod Spellings
pub mod Stacks
pub mod Closed
pub mod Verdicts
pub mod Statements
pub mod Trees
pub mod Writings
