pub mod Domains
pub mod Operations
pub mod Table
pub mod Calls
pub mod Inner
