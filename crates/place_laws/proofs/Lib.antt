pub mod MovedMarks
pub mod SameTrees
pub mod MovedTexts
pub mod HeldNames
