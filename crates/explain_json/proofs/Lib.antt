mod CommandValues
mod Depths
mod Floats
mod RefusalDepths
mod Told
