pub mod Items
pub mod ReadParts
pub mod WriteParts
