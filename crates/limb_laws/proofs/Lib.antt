pub mod LegalLaws
pub mod Steps
pub mod Demand3
pub mod Spellings
pub mod Results
pub mod Operands
pub mod Cases
