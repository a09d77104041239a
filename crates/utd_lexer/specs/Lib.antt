pub mod Cutting
pub mod Gaps
pub mod Prefixes
pub mod Parts
pub mod Reading
pub mod Tokens
