pub mod ValueLaws
pub mod LimbLaws
pub mod WindowLaws
pub mod SpliceLaws
pub mod FieldLimbs
pub mod LogicalLaws
pub mod SignLimbs
