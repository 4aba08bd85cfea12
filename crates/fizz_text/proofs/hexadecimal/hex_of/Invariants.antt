use Rattle.std.proofs.Common.{◌≡◌, ◌≤◌, ◌++◌, map, drop, length}
use Rattle.std.specs.Int.Digits.{digits_of}
use Rattle.std.specs.Char.{digit_char}
use Rattle.fizz_text.proofs.hexadecimal.hex_of.Given as goal

-- the digits still to be written, followed by those that stand, are those of the number
abbrev pub invariant-loop-rest : goal.invariant-loop-rest
invariant-loop-rest l = record {
  size : length l.digits ≡ 8;
  room : length (digits_of 16 l.rest) ≤ l.start;
  within : l.start ≤ 8;
  written : map digit_char (digits_of 16 l.rest) ++ drop l.start l.digits ≡ map digit_char (digits_of 16 l.fn.n);
}

abbrev pub decreases-loop-rest : goal.decreases-loop-rest
decreases-loop-rest l = l.rest
