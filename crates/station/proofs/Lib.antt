pub mod Taken
pub mod Ends
