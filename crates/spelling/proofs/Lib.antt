pub mod Cases
pub mod NaturalLaws
pub mod DigitLaws
pub mod BufferLaws
pub mod RoundTrip
