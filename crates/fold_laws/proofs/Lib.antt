-- Theorems about whole runs of the fold's calls.
pub mod IntegerLaws
pub mod Runs
pub mod Opening
pub mod Readings
pub mod Joining
pub mod Identifiers
