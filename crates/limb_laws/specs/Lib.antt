pub mod Replies
pub mod Lists
pub mod Spellings
pub mod Operands
