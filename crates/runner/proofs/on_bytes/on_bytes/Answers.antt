use Rattle.std.proofs.Common.{◌≡◌, [], ◌∷◌, length, replicate, refl, ap, ◌∙◌, arith, rules}
use Rattle.line.specs.declared.load.Load.{Load}
use Rattle.media.specs.declared.bytes.ByteMedium.{ByteMedium}
use Rattle.reader.specs.Checked.{requests_left}
use Rattle.runner.specs.OnBytes.{Memory, array_in, byte_totals}
use Rattle.runner.specs.Playing.{calls_of, marked}
use Rattle.runner.proofs.Bytewise.{bytes_run, totals_are, same_memory}
use Rattle.runner.proofs.on_bytes.on_bytes.Goals as goal

first_same : {X : Type 0} (a b c d : X) → (a ∷ b ∷ []) ≡ (c ∷ d ∷ []) → a ≡ c
first_same a b c d e = cc

second_same : {X : Type 0} (a b c d : X) → (a ∷ b ∷ []) ≡ (c ∷ d ∷ []) → b ≡ d
second_same a b c d e = cc

held : ByteMedium Load → Memory
held m = record { bytes = m.bytes.now; counts = m.counts.now }

pub returns : goal.returns
unfolding held
returns c =
    let f = c.new-medium.ensures.fit c.requires.fit in
    let m₀ : Memory = record { bytes = c.args.bytes.now; counts = replicate (length c.args.counts.now) 0 } in
    let f0 = f.0 in
    let f1 = f.1 in
    let f2 = f.2 in
    let f3 = f.3 in
    let f4 = f.4 in
    let names = c.carry_out.ensures.memory in
    let n1 : c.carry_out.new.medium.bytes.ghost_name ≡ c.new-medium.result.bytes.ghost_name = first_same _ _ _ _ names in
    let n2 : c.carry_out.new.medium.counts.ghost_name ≡ c.new-medium.result.counts.ghost_name = second_same _ _ _ _ names in
    let played = c.carry_out.ensures.played in
    let ran = bytes_run _ held (λ m. m.life) (λ m. refl) (λ m. refl) (λ m i v n. ((λ t e. same_memory _ _ _ _ e.0 e.1), (λ d e. same_memory _ _ _ _ e.0 e.1)))
    c.new-medium.result (calls_of (requests_left c.args.requests)) _ c.carry_out.new.medium m₀ c.args.life
    (same_memory _ _ _ _ f0 f1) f2 played.1.1 in
    record {
      slots = played.1.0 ∙ ap (marked c.args.slots.now) ran.0;
      memory = same_memory _ _ _ _ (search rules) (search rules) ∙ ran.1;
      array = ran.3;
      totals = totals_are (array_in (held c.carry_out.new.medium) c.carry_out.new.medium.life) (length c.args.slots.now) _ _ _ _ c.carry_out.auto.slots c.taken.ensures.answer c.left.ensures.left c.wear.ensures.answer (omega arith) ∙ ap (byte_totals (length c.args.slots.now)) ran.2;
    }
