-- What a medium answers to a call. Assumes nothing.
use Rattle.std.specs.Prelude.{Result}
use Rattle.line.specs.declared.answer.Accepted.{Accepted}
use Rattle.line.specs.declared.denial.Denial.{Denial}

-- what it answers where it accepts the call, or why it denies it
abbrev pub Answer : Type 0 → Type 0
Answer A = Result (Accepted A) Denial
