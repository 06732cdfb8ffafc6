pub mod Quotients
pub mod Nearness
pub mod Roundings
pub mod Extremes
