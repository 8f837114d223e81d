-- The values of numbers (The Programming Language Oberon-07, section 3), at 32 bits.
use Rattle.std.specs.Prelude.{ℕ, ◌+◌, ◌-◌, ◌*◌, nat_lt, if◌then◌else◌, List, ℤ, pos, ◌-ℤ◌}
use Rattle.std.specs.Char.{is_ascii_digit}
use Rattle.std.specs.List.{fold}

-- the value of a digit: 0 to 9, and 10 to 15 for A to F
abbrev pub digit_of : ℕ → ℕ
digit_of byte = if is_ascii_digit byte then byte - 48 else byte - 55

-- the number that digits write in a base
abbrev pub digits_value : ℕ → List ℕ → ℕ
digits_value base digits = fold (λ number byte. number * base + digit_of byte) 0 digits

-- the largest number that may be written without H
abbrev pub largest_decimal : ℕ
largest_decimal = 2147483647

-- the largest number that may be written with H, and with X
abbrev pub largest_hexadecimal : ℕ
largest_hexadecimal = 4294967295

abbrev pub largest_character : ℕ
largest_character = 255

-- with H the numbers from 80000000H on stand for negative ones
abbrev pub signed : ℕ → ℤ
signed number = if nat_lt number 2147483648 then pos number else pos number -ℤ pos 4294967296
