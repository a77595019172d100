-- What a number's text says. Assumes nothing.
use Rattle.std.specs.Prelude.{ℕ, ◌+◌, ◌-◌, ◌*◌, ◌^◌, Bool, false, cond, List, [], ◌∷◌, Some, None, Option, Ok, Err, Result, nat_le, nat_lt}
use Rattle.std.specs.Char.{is_ascii_digit}
use Rattle.std.specs.List.{list_all}
use Rattle.script.specs.declared.number.NumeralError.{NumeralError}
use Rattle.script.specs.declared.number.NumeralError.TheVariants.{TooLarge, NotANumber}

-- Whether a number lies from one to another, both among them.
abbrev pub within : ℕ → ℕ → ℕ → Bool
within low high n = cond (nat_le low n) (nat_le n high) false

-- The value of a hexadecimal digit, its letters small or capital.
abbrev pub hex_digit_of : ℕ → Option ℕ
hex_digit_of c =
    cond (is_ascii_digit c) (Some (c - 48))
    (cond (within 97 102 c) (Some (c - 97 + 10)) (cond (within 65 70 c) (Some (c - 65 + 10)) None))

-- Two digits, if both are there, are one number.
abbrev pub pair : Option ℕ → Option ℕ → Option ℕ
pair None low = None
pair (Some high) None = None
pair (Some high) (Some low) = Some (high * 16 + low)

-- The number that two hexadecimal digits write.
abbrev pub hex_pair_of : ℕ → ℕ → Option ℕ
hex_pair_of high low = pair (hex_digit_of high) (hex_digit_of low)

-- Whether each byte is a decimal digit.
abbrev pub all_digits : List ℕ → Bool
all_digits cs = list_all is_ascii_digit cs

-- The number that digits write, from the left, behind a number.
abbrev pub value_after : ℕ → List ℕ → ℕ
value_after n [] = n
value_after n (c ∷ cs) = value_after (n * 10 + (c - 48)) cs

-- The number that digits write.
abbrev pub value_of : List ℕ → ℕ
value_of cs = value_after 0 cs

-- A number that has a place in 64 bits.
abbrev pub below_2^64 : ℕ → Option ℕ
below_2^64 n = cond (nat_lt n (2 ^ 64)) (Some n) None

-- What a word says where a number is due: it has a digit and nothing but digits, and then their value.
abbrev pub numeral_of : List ℕ → Result ℕ NumeralError
numeral_of [] = Err NotANumber
numeral_of (c ∷ cs) =
    cond (all_digits (c ∷ cs))
    (cond (nat_lt (value_of (c ∷ cs)) (2 ^ 64)) (Ok (value_of (c ∷ cs))) (Err TooLarge))
    (Err NotANumber)
