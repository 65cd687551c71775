pub mod Sections
pub mod ByKind
pub mod Answers
