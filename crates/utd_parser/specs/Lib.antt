pub mod Tokens
pub mod Forms
pub mod Frames
pub mod Closing
