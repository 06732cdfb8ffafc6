-- Laws of stored rules. docs/THEOREMS.md lists them.
pub mod Leb128Laws
pub mod ParseEncode
pub mod EncodeParse
pub mod Cases
