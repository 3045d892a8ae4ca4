-- `Gray` pairs symbols and hues, `Mask` has the masks and the rotations; `Laws` says how rotations add up.
pub mod Gray
pub mod Mask
pub mod Laws
