pub mod ReadWhole
pub mod ReadExact
