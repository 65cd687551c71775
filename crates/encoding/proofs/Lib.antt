pub mod ByKind
pub mod WriteWhole
pub mod EncodeWhole
