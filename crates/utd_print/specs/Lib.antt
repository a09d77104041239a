pub mod Dates
pub mod Lines
pub mod Moments
pub mod Tables
pub mod Widths
