pub mod Cases
pub mod FractionLaws
pub mod SpellsLaws
