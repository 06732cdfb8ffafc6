pub mod Values
pub mod Magnitudes
pub mod RoundingLaws
pub mod NanLaws
pub mod ExtremesLaws
pub mod CallLaws
pub mod Cases
