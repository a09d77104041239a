pub mod ExtremeLemmas
