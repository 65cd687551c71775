pub mod Replay
pub mod Orders
pub mod Walking
pub mod Portions
