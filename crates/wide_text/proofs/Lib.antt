mod Beside
mod Failing
mod Floats
mod Flagged
mod Runs
mod Telling
