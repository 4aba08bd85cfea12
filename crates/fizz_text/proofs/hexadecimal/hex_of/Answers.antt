use Rattle.std.proofs.Common.{rules, refl, arith, ◌≡◌, length, ◌+◌, ◌/◌, append-nil, lit≤}
use Rattle.std.proofs.lemmas.Int.Digits.{length-digits_of_step, length-digits_of-le}
use Rattle.std.specs.Int.Digits.{digits_of}
use Rattle.fizz_text.proofs.HexadecimalLemmas.{map-digit_char-digits_of-step, IsHexadecimal-map-digit_char}
use Rattle.fizz_text.proofs.hexadecimal.hex_of.Goals as goal

pub loop-rest-init : goal.loop-rest-init
loop-rest-init c = record {
  size = refl;
  room = length-digits_of-le 16 8 c.args.n (lit≤ tt) c.ranges.n.fits;
  within = lit≤ tt;
  written = append-nil _;
}

pub overflow_sub-start : goal.overflow_sub-start
overflow_sub-start c = omega (arith, length-digits_of_step 16 c.loop-rest.rest (lit≤ tt) c.loop-rest-test.true)

pub loop-rest-preserved : goal.loop-rest-preserved
loop-rest-preserved c =
    let step : length (digits_of 16 c.loop-rest.rest) ≡ length (digits_of 16 (c.loop-rest.rest / 16)) + 1 =
    length-digits_of_step 16 c.loop-rest.rest (lit≤ tt) c.loop-rest-test.true in
    record {
      size = search rules;
      room = omega arith;
      within = omega arith;
      written = map-digit_char-digits_of-step c.loop-rest.rest c.loop-rest.start _ c.loop-rest.digits _ c.loop-rest-test.true (omega arith) (omega arith) c.digit_of.ensures c.loop-rest.invariant.written;
    }

pub returns-clause-numeral : goal.returns-clause-numeral
returns-clause-numeral c =
    let zero : c.loop-rest.rest ≡ 0 = omega arith in
    IsHexadecimal-map-digit_char _ _ c.if-n-eq0.false (rw zero at c.loop-rest.invariant.written)
