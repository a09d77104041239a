pub mod RowLengths
pub mod EntryLengths
pub mod LoggedEntries
pub mod PastLaws
pub mod KeptLogs
pub mod StatementLaws
pub mod RunLaws
