pub mod Fold
pub mod Calls
pub mod Inner
