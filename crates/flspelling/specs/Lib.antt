pub mod Spellings
pub mod Inner
