pub mod Profiles
pub mod BusState
pub mod Places
pub mod Memory
pub mod Happenings
pub mod Playing
