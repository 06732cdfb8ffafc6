pub mod Tree
pub mod Leb128
pub mod Limits
pub mod Bytes
pub mod Parse
pub mod Evaluate
pub mod Answers
