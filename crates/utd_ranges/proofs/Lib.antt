pub mod RangeForms
pub mod ScalarRows
pub mod StatementRows
pub mod RangeLaws
