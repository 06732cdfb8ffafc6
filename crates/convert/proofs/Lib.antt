pub mod ConvertLaws
pub mod RoundTrip
pub mod Widths
pub mod Cases
pub mod Refusals
