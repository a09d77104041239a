pub mod Pairs
pub mod KeyedCellBox
pub mod Places
pub mod Shared
pub mod RowPairs
pub mod Rests
