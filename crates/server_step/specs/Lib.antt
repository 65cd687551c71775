pub mod OneStore
