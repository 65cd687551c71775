pub mod FormInOnePass
pub mod NumberParts
