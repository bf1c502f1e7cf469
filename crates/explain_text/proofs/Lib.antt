mod Added
mod OneLine
mod Rendering
