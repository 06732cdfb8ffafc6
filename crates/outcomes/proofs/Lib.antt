pub mod OutcomeLaws
pub mod TestLaws
pub mod PutsLaws
pub mod BufferLaws
pub mod Cases
