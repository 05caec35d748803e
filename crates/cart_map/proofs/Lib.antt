pub mod FoldLemmas
pub mod Front
