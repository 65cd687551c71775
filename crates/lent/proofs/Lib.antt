pub mod Elements
pub mod Counting
pub mod Lending
pub mod Values
