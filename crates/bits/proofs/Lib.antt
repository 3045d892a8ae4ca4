-- For callers: `Calls` (the calls in turn), `Joined` (an accepted call is accepted by each of the calls that it makes, and the other way about), `Never` (after an accepted
-- scoring only a length can be refused).
pub mod Calls
pub mod Joined
pub mod Never
