-- What the contracts of `illum` cite: the model's surfaces, one channel's inverse, the correction, and sentence 10; and `Returned`, for the law of the unit model.
pub mod Surface
pub mod Correct
pub mod Tests
pub mod Reach
pub mod Refusals
pub mod Shown
pub mod Examples
pub mod Returned
