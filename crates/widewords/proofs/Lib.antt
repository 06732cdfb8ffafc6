pub mod Columns
pub mod WideLaws
pub mod DoubleLaws
pub mod PartLaws
pub mod DivisionWords
