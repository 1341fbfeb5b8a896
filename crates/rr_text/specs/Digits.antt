-- Decimal numbers, digit by digit.
use Rattle.std.specs.Prelude.{ℕ, ◌+◌, ◌*◌, ◌^◌, ◌&&◌, nat_lt, List, Option, None, Some, if◌then◌else◌}
use Rattle.std.specs.Char.{is_ascii_digit, digit_value}
use Rattle.std.specs.List.{list_all}
use Rattle.std.specs.Str.Parse.{digits_value_after}

-- a number with one more digit, if that is a digit and the number is below 2 ^ 64
abbrev pub with_digit : ℕ → ℕ → Option ℕ
with_digit number digit =
    if is_ascii_digit digit && nat_lt (number * 10 + digit_value digit) (2 ^ 64) then Some
    (number * 10 + digit_value digit)
    else None

-- a number with these digits, if they are digits and the number is below 2 ^ 64
abbrev pub with_digits : ℕ → List ℕ → Option ℕ
with_digits number digits =
    if list_all is_ascii_digit digits && nat_lt (digits_value_after 10 number digits) (2 ^ 64) then Some
    (digits_value_after 10 number digits)
    else None
