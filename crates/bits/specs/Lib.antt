pub mod Testbit
pub mod Range
pub mod Logical
pub mod Shift
pub mod Division
pub mod Field
pub mod Count
pub mod FieldList
