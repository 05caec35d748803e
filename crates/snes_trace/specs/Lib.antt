pub mod Digits
pub mod Mnemonics
pub mod SpcMnemonics
pub mod Position
pub mod Tells
