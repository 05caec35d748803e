pub mod EdgeLemmas
pub mod GatheredLemmas
pub mod LoadLemmas
