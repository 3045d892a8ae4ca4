-- The laws that rest on rounding keeping the order (`near_mono`), module by module, each beside the definitions in specs/ of its name.
pub mod Near
pub mod Ops
pub mod Mono
pub mod Tests
pub mod Interval
pub mod Magnitude
pub mod Error
pub mod Exact
pub mod Sum
