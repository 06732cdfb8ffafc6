pub mod Parts
pub mod Breaches
pub mod Evaluation
pub mod Rules
