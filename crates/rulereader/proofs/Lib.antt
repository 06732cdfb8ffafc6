pub mod Exits
pub mod CutLaws
pub mod ConstantLaws
pub mod HeadLaws
pub mod FormLaws
