-- `Call` is the public call with its refusals, `Ready` what is handed on once they are past.
pub mod Ready
pub mod Call
