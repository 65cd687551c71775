pub mod Turning
pub mod Wording
