-- The number so far goes on with what is left of the word as it began.
use Rattle.std.proofs.Common.{◌≡◌, ◌≤◌, drop}
use Rattle.compose.specs.Numerals.{number_after}
use Rattle.compose.proofs.numbers.read_number.Given as goal

abbrev pub invariant-loop-byte : goal.invariant-loop-byte
invariant-loop-byte l = (l.number ≤ l.greatest) × (number_after l.greatest l.number (drop l.byte-index l.word) ≡ number_after l.greatest 0 l.word)
