pub mod Attributes
pub mod Headings
pub mod Items
pub mod Literals
pub mod Shapes
