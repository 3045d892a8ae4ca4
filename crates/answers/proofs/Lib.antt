-- For callers: what an answer says of the sentences and of what was lent.

pub mod Answers
