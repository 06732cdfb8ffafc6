pub mod Forms
pub mod Readings
pub mod Limbs
pub mod Packing
pub mod Inner
