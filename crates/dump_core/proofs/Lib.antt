pub mod DraftLemmas
pub mod InsertLemmas
pub mod ListedLemmas
pub mod ScriptLemmas
