-- One key after another.
use Rattle.std.proofs.Common.{◌≡◌, ℕ, List, length, take, arith, rules, length-take-le, subst, sym, ap}
use Rattle.std.proofs.lemmas.List.{take_all}
use Rattle.runfile.specs.RunFile.{keys_bytes}
use Rattle.compose.specs.Bytes.{Puts}
use Rattle.compose.proofs.Appending.{puts_twice, keys_more, length_keys}
use Rattle.compose.proofs.bytes.put_keys.Goals as goal

pub put-requires : goal.put-requires
put-requires c =
    let four : length c.args.keys ≡ 4 = search rules in
    let l = length_keys (take c.loop-key.key-index c.args.keys) in
    let t : length (take c.loop-key.key-index c.args.keys) ≡ c.loop-key.key-index = length-take-le c.loop-key.key-index c.args.keys (omega arith) in
    record { room = omega (arith, ap length c.to_le_bytes.ensures) }

pub loop-key-preserved : goal.loop-key-preserved
loop-key-preserved c =
    let four : length c.args.keys ≡ 4 = search rules in
    let more = keys_more c.args.keys c.loop-key.key-index (omega arith) in
    let put = subst (λ (bs : List ℕ). Puts c.loop-key.file bs c.put.new.file) c.to_le_bytes.ensures c.put.ensures.put in
    subst (λ (bs : List ℕ). Puts c.args.file.now bs c.put.new.file) (sym more) (puts_twice c.loop-key.invariant put)

pub returns : goal.returns
returns c =
    let four : length c.args.keys ≡ 4 = search rules in
    let all = take_all c.loop-key.key-index c.args.keys (omega arith) in
    record { put = subst (λ (ks : List ℕ). Puts c.args.file.now (keys_bytes ks) c.loop-key.file) all c.loop-key.invariant }
