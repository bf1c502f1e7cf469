mod Lasts
mod Told
