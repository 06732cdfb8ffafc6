-- Theorems about reading and evaluating stored rules.
pub mod OutcomeParts
pub mod EvaluateLaws
pub mod Evaluation
pub mod Inputs
pub mod WiderForms
pub mod ParseLaws
pub mod AnswerLaws
pub mod Refusals
pub mod Widths
pub mod Prefixes
pub mod Orderly
pub mod Readers
pub mod Sizes
pub mod Readings
pub mod Offences
pub mod Breaches
pub mod Cases
