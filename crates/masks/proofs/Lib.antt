pub mod Bools
pub mod Turns
pub mod Digits
pub mod Laws
pub mod FoldLaws
pub mod Counts
pub mod Fills
