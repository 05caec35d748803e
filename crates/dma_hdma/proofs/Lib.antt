pub mod EachLemmas
pub mod TurnLemmas
