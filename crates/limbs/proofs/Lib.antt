pub mod CheckLaws
pub mod NumberLaws
pub mod LengthLaws
pub mod SignedLaws
pub mod Cases
