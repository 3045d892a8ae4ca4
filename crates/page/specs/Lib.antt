-- `Lines` is the page as text, `Steps` how the code lays it out, `Calls` the public call with its refusals, `Laws` what holds of every page.
pub mod Lines
pub mod Steps
pub mod Calls
pub mod Laws
