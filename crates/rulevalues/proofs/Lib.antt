pub mod AnswerLaws
pub mod ReadAgain
pub mod ConstantAgain
pub mod ArgumentLaws
