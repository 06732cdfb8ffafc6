pub mod Lists
pub mod Rotations
pub mod Places
pub mod Widths
