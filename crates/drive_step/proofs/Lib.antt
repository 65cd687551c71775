pub mod Counting
pub mod Outcomes
