pub mod StageLaws
pub mod WritesLaws
pub mod ShiftLaws
