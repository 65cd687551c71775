pub mod RangeIs
pub mod Signed
pub mod Results
pub mod PerKey
pub mod PerPiece
pub mod InPlace
