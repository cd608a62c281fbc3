-- By the parts of the place, and the row of its region.
use Rattle.std.proofs.Common.{◌≡◌, ℕ, ◌+◌, ◌*◌, Some, None, Option, MatchOption, arith, rules}
use Rattle.std.specs.Option.{IsSomeAnd}
use Rattle.startgap.specs.Rows.{row_holder}
use Rattle.startgap.specs.Regions.{row_at, in_region}
use Rattle.gap.proofs.Holders.{holder_parts}
use Rattle.gap.specs.Registers.{registers}
use Rattle.gap.proofs.regions.Regions.holder.Goals as goal

mapped : (o r : Option ℕ) (size region : ℕ) → MatchOption o (r ≡ None) (λ x. IsSomeAnd r (λ y. y ≡ region * size + x)) → r ≡ in_region size region o
mapped None r size region e = e
mapped (Some x) None size region e = absurd e
mapped (Some x) (Some y) size region e = grind arith

pub returns : goal.returns
returns c =
    let x = c.args.self.now in
    let q = c.split-region.result in
    let a = c.holder.ensures.answer in
    let here : c.holder.result ≡ row_holder x.size (row_at (registers x) q.0) q.1 = cc in
    let l = holder_parts (registers x) c.args.place q c.holder.result (omega arith) c.split-region.ensures here in
    let m : c.map.result ≡ in_region x.size q.0 c.holder.result = mapped c.holder.result c.map.result x.size q.0 (search rules) in
    cc
