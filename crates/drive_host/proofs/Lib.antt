pub mod NextBallots
