mod SameGiven
pub mod SayingLaws
mod PositionsElsewhere
mod ConstraintsElsewhere
mod DeclarationsElsewhere
mod RowsElsewhere
mod SweepsElsewhere
mod NodesElsewhere
mod UsingsElsewhere
pub mod TreesElsewhere
mod KeptElsewhere
pub mod SaysElsewhere
pub mod SaysMore
pub mod SaidLaws
pub mod SaidNames
pub mod NodesAlike
pub mod LogsAlike
