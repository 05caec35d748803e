pub mod BitLemmas
pub mod MatchLemmas
pub mod MixedLemmas
pub mod PaletteLemmas
pub mod PictureLemmas
pub mod PngLemmas
pub mod ReadLemmas
pub mod RowLemmas
