-- What a request asks, and where it stands. Assumes nothing.
use Rattle.std.specs.Prelude.{◌≡◌, ℕ, List, map, length, Ok, Err, Result}
use Rattle.runfile.specs.declared.fault.Fault.{Fault}
use Rattle.runfile.specs.declared.request.Request.{Request}
use Rattle.runfile.specs.declared.request.Request.TheVariants.{Read, Write}

-- to read a line, or to write sixteen bytes to one
pub data Ask : Type 0 where
  read : ℕ → Ask
  write : ℕ → List ℕ → Ask

-- an ask, with the place of its letter in the file
pub record Placed : Type 0 where
  pub place : ℕ
  pub ask : Ask

-- a request that was handed out
abbrev pub placed_of : Request → Placed
placed_of (Read l p) = record { place = p; ask = read l }
placed_of (Write l p bs) = record { place = p; ask = write l bs.now }

abbrev pub asks : List Placed → List Ask
asks ps = map (λ (p : Placed). p.ask) ps

-- a write that was handed out has sixteen bytes
abbrev pub Sixteen : Result Request Fault → Type 0
Sixteen (Ok (Read l p)) = Unit {0}
Sixteen (Ok (Write l p bs)) = length bs.now ≡ 16
Sixteen (Err e) = Unit {0}
