-- Laws of each family.
pub mod ShiftLaws
pub mod FieldLaws
