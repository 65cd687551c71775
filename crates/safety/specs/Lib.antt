pub mod Orders
pub mod Cluster
pub mod Statements
pub mod Plain
