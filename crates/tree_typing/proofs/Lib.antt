pub mod NamesOpen
pub mod NodeNames
