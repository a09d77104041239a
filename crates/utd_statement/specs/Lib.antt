pub mod Readings
pub mod Parsed
pub mod Answers
pub mod Keeping
pub mod Replies
pub mod InRange
pub mod Costs
pub mod Bringing
