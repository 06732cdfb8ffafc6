pub mod Wide
pub mod Double
pub mod Division
