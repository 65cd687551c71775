pub mod Readings
pub mod Told
pub mod Exchange
