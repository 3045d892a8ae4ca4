-- The promises that the contracts of this crate cite, by subject. `Card`, `Premises` (crate `guarantee`), `Floats` (`float`), `Colour` (`color`), `Systems` (`math`), `Order` (`order`), `Symbols` (`modulate`), `Model` (`illum`, `fit`), `Noise` (`stats`,
-- `measure`), `Scores` (`demod`), `Marks` (`illum`, `measure`, `demod`), `Window` (`refine`), `Door` (`fit`, `page`), `Reading` (`readout`, `reader`), `Season` (`totals`). Each is stated over the definitions of its crate.
pub mod Card
pub mod Premises
pub mod Floats
pub mod Colour
pub mod Systems
pub mod Order
pub mod Symbols
pub mod Model
pub mod Noise
pub mod Scores
pub mod Marks
pub mod Window
pub mod Door
pub mod Reading
pub mod Season
