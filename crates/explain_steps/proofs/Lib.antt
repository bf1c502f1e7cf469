mod ByteSets
mod Events
mod StepRows
