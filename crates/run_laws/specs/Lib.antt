pub mod Legal
pub mod Place
pub mod SerialMoves
pub mod TurnBound
