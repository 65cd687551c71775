pub mod RunInPlace
pub mod AlongTheLog
pub mod RunsInPlace
pub mod CommitInPlace
