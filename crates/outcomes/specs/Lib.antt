pub mod Outcome
pub mod Number
pub mod Refusal
pub mod Tests
pub mod Buffer
pub mod Puts
