pub mod Instruction
pub mod Stands
