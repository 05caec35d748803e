mod Search
mod Writes
