pub mod AttributeLemmas
pub mod ShapeLemmas
