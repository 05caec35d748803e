pub mod PairLemmas
pub mod SettingLemmas
pub mod StemLemmas
