-- Faults: the letters of their stages, and which of several comes first. Assumes nothing.
use Rattle.std.specs.Prelude.{ℕ, Bool, cond, Some, None, Ok, Err, Option, Result}
use Rattle.line.specs.declared.denial.Denial.{Denial}
use Rattle.runfile.specs.declared.fault.Fault.{Fault}
use Rattle.runfile.specs.declared.fault.Stage.{Stage}
use Rattle.runfile.specs.declared.fault.Stage.TheVariants.{Trailer as in_trailer, Settings as in_settings, Request as in_request, Pile as in_pile}

-- T, S, Q and P
abbrev pub stage_letter : Stage → ℕ
stage_letter in_trailer = 84
stage_letter in_settings = 83
stage_letter in_request = 81
stage_letter (in_pile height) = 80

-- a fault, where a question is answered no
abbrev pub faulted : Bool → Denial → ℕ → Stage → Option Fault
faulted wrong d p s = cond wrong (Some (record { denial = d; place = p; stage = s })) None

-- the first fault, or else the second
abbrev pub or_then : Option Fault → Option Fault → Option Fault
or_then (Some f) o = Some f
or_then None o = o

-- the fault, or the value where there is none
abbrev pub or_fault : {V : Type 0} → Option Fault → V → Result V Fault
or_fault (Some f) v = Err f
or_fault None v = Ok v
