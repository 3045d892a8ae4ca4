-- Fresh: back substitution reads only what it wrote. Accepted: what a call knows past its sentences. Callers: laws for callers. Front: the first numbers of a slice are a row.
pub mod Fresh
pub mod Accepted
pub mod Callers
mod Front
