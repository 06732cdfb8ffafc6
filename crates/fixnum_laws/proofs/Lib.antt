-- Theorems about whole calls. docs/THEOREMS.md lists them.
pub mod Stages
pub mod AnswerLaws
pub mod Influence
pub mod ResultLaws
pub mod Closure
pub mod ShortLists
pub mod Demand3
pub mod Rotations
pub mod Places
pub mod SignBit
pub mod WidthLaws
pub mod CopyBitCalls
pub mod Widths
pub mod WidthCases
