pub mod Put
pub mod Counts
