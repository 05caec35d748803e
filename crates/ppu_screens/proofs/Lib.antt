pub mod FrontLemmas
pub mod Mixes
pub mod Small
