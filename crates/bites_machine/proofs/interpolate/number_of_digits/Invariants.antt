use Rattle.bites_machine.proofs.Library.{◌≡◌, ◌≤◌, drop, list_all, is_digit, value_from}
use Rattle.bites_machine.proofs.interpolate.number_of_digits.Given as goal

abbrev pub invariant-loop-digit : goal.invariant-loop-digit
invariant-loop-digit l = record {
  digits : list_all is_digit l.digits ≡ list_all is_digit (drop l.digit-index l.digits);
  value : value_from 0 l.digits ≡ value_from l.number (drop l.digit-index l.digits);
  fits : l.number ≤ 18446744073709551615;
}
