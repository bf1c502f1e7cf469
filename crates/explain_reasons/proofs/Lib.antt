mod Mattering
mod Nearest
mod Passing
