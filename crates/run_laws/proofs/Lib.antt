pub mod Counts
pub mod LegalRuns
pub mod RunBound
pub mod SerialOrder
pub mod StepsInTime
pub mod TurnsEnd
