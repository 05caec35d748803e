pub mod ByteSteps
pub mod RestSteps
pub mod Lead
pub mod LeadBegins
pub mod Led
pub mod SideRuns
pub mod Taken
