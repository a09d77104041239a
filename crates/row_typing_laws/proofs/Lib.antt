pub mod Parts
pub mod ElsewhereOperators
pub mod ElsewhereNames
pub mod ElsewhereScalars
pub mod ElsewhereHeadings
pub mod ElsewhereLiterals
pub mod HeadingNames
