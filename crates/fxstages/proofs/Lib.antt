-- Laws of the tests of arguments, of the arguments of accepted calls, and of the loops over them.
pub mod FixnumLaws
pub mod DomainLaws
pub mod ArgumentLaws
pub mod LoopLaws
pub mod ExactLaws
