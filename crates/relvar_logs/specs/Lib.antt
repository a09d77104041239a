pub mod Changes
pub mod Fitting
pub mod LoggedChanges
pub mod Opening
pub mod Passed
pub mod Room
pub mod Turning
