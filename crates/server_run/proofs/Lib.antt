pub mod Gathering
pub mod Unrun
pub mod Turning
