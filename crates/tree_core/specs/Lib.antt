pub mod Trees
pub mod Items
pub mod Relvars
pub mod Uses
