pub mod Gathered
pub mod Limited
