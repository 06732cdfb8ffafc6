-- Laws of the table and of accepted calls.
pub mod CallLaws
pub mod TableLaws
pub mod ArgumentTests
pub mod MeaningLaws
pub mod CarryLaws
pub mod Cases
