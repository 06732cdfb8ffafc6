pub mod Numerals
pub mod Naturals
pub mod Readings
pub mod Inner
