-- Laws of IEEE 754 arithmetic, over the definitions of `lib.Ieee`, for binary32 and binary64 at once. No code. One idea carries them: in units of a
-- format's smallest value every finite float is a whole number, and each operation's result is its exact result rounded once (`Rounds`).
-- Where to look, the laws that rest on `near_mono` being in proofs/, in the module of the same name:
--   Value     what a float is worth, `hi` - `lo` in units (`unit` of them are 1); `Num f x`, a value of f and no NaN; the tests `lt`, `eq`, `le`
--   Order     `Le`, `Lt`, `Same`: the order, its laws, the way to a program's tests and back (`of_le`, `to_le`); negation; binary32 as binary64
--   Near      `near`, rounding on numbers: monotone, exact at a value of the format. `Rounds`; a value of the format that is at most the exact
--             result is at most the rounded one (`above`), and so for at least (`under`)
--   Ops       each operation's result is rounded from its exact result: `add_rounds`, `sub-rounds`, `mul-rounds`, `div-rounds`, `int-rounds`
--   Finite    `Fin f x`, a finite value of f; where an operation's result is no NaN; what lies between finite values is finite
--   Operands  a finite result has finite operands
--   Const     a constant of a program and its worth, by one computed test
--   Mono      the operations keep the order
--   Tests     the same for a program's own test `le`
--   Interval  `In f a b x`: bounds on a formula from its values at the ends
--   Magnitude `Within f b x`: bounds on a formula of numbers of either sign
--   Error     relative and absolute error; ratios (`gap`); from the rounded number back to the exact one (`over`, `short`, `at_most`); a number
--             that is twice another rounds above it (`apart`, `div-apart`)
--   Nearest   no value of the format is nearer to the exact result than the rounded one
--   Exact     results that lose nothing: doubling, halving, whole numbers; a difference of different values is not 0 (gradual underflow)
--   NegativeZero  adding -0 changes nothing
--   Sum       sums that a loop makes
--   Nan       what `x != x` says
--   Bits      bit patterns: a value by its pattern, the pattern of a value, a value is its sign and its size
--   Whole     whole numbers only: powers, binary digits, the nearest whole number
pub mod Value
pub mod Order
pub mod Near
pub mod Ops
pub mod Finite
pub mod Operands
pub mod Const
pub mod Mono
pub mod Tests
pub mod Interval
pub mod Magnitude
pub mod Error
pub mod Nearest
pub mod Exact
pub mod NegativeZero
pub mod Sum
pub mod Nan
pub mod Bits
pub mod Whole
