pub mod Climbs
