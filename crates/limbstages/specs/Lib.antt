pub mod Buffer
pub mod Inner
pub mod Stages
