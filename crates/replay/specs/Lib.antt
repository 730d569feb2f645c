pub mod Replays
pub mod Rehearsals
pub mod Desks
