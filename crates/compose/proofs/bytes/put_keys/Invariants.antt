-- The keys so far were appended.
use Rattle.std.proofs.Common.{take}
use Rattle.runfile.specs.RunFile.{keys_bytes}
use Rattle.compose.specs.Bytes.{Puts}
use Rattle.compose.proofs.bytes.put_keys.Given as goal

abbrev pub invariant-loop-key : goal.invariant-loop-key
invariant-loop-key l = Puts l.initial.file (keys_bytes (take l.key-index l.key-items)) l.file
