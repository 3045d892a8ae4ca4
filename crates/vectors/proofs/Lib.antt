-- `Lines`: where lines and names end; for callers `line-less`, by which a loop over the lines ends. `Front`: a text or a row from one place on. `Nan`: patterns and NaNs. `Rows`: a run of words. `Slices`: a list put into a row.
pub mod Lines
mod Front
mod Nan
mod Rows
mod Slices
