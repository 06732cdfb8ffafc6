pub mod Value
pub mod Results
pub mod Described
