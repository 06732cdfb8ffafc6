-- Laws of each family.
pub mod CountLaws
pub mod ChainLaws
pub mod ArithmeticLaws
pub mod DivisionRows
pub mod CarryLaws
