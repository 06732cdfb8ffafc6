pub mod PutLaws
pub mod AppendLaws
pub mod Counting
pub mod PutsLaws
