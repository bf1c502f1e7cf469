mod Counting
mod Steps
