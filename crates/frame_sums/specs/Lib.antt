pub mod Compare
pub mod Digests
pub mod Pieces
pub mod SumsFile
pub mod Text
