pub mod Known
pub mod Waiting
pub mod Walks
pub mod Standings
pub mod Firsts
pub mod Fixed
pub mod Walked
