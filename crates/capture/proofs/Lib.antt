pub mod Lengths
pub mod Digits
pub mod InARow
