-- Laws of the definitions, for callers: `GrayCode` and `Rotations` undo, add and commute; `Laws`, how rotations add up, for cells and calls. `Xor`: the law of xor that Gray code rests on.
pub mod GrayCode
pub mod Rotations
pub mod Laws
pub mod Thirds
mod Refused
mod Xor
