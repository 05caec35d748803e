pub mod BareLines
pub mod CertifiedLemmas
pub mod HexBack
pub mod Printed
pub mod SumLines
pub mod TextBack
