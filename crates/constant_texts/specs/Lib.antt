pub mod Calm
pub mod Sayable
