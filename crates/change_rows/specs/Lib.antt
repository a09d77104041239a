pub mod Affected
pub mod Exchanges
pub mod Requirements
pub mod RowFilters
