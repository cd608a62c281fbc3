-- What the layer's fields say of its registers: they are sound where there are lines, and the copies made are bounded, so that what the
-- life sets aside pays for the next write and its copies. A write keeps all of it: only the count of due writes rises, or a refresh is made.
use Rattle.std.proofs.Common.{◌≡◌, ℕ, ◌+◌, ◌-◌, ◌/◌, ◌%◌, ◌<◌, ◌≤◌, length, sym, refl, ◌∙◌, subst, ⊎_elim, arith}
use Rattle.std.proofs.lemmas.Bool.{cases_lt}
use Rattle.refresh.specs.declared.round.Round.{Round}
use Rattle.refresh.specs.Powers.{PowerOfTwo, greatest_power}
use Rattle.refresh.specs.Refresh.{Registers, pointer_mate, refreshed, after_write, Sound, Bounded}
use Rattle.refresh.proofs.Counts.{bounded_most, bounded_two, bounded_exchange, bounded_no_exchange}
use Rattle.refresh.proofs.Lives.{room_write, room_exchange}
use Rattle.refresh.proofs.Powers.{greatest_computed}
use Rattle.refresh.proofs.Quotients.{next_stays, next_rises, quotient_mono}
use Rattle.refresh.proofs.Refreshes.{refreshed_sound}
use Rattle.refresh.proofs.Writes.{noted, turned, write_waits, write_no_exchange, write_exchanges}
use Rattle.refresher.specs.Layer.{registers}
use Rattle.refresher.specs.declared.layer.RefreshLayer.{RefreshLayer}
use Rattle.refresher.specs.declared.registers.Registers.{Registers as Fields}

pub record Held (g : Registers) (taken life : ℕ) : Type 0 where
  pub within : taken ≤ life
  pub few : g.size ≤ 4096
  pub power : 0 < g.size → g.size ≡ greatest_power g.size
  pub turn : g.round.turn < length g.keys
  pub previous : g.round.previous ≤ g.size - 1
  pub current : g.round.current ≤ g.size - 1
  pub pointer : g.round.pointer ≤ g.size - 1
  pub waits : g.due < g.interval
  pub counted : g.due ≡ taken % g.interval
  pub bounded : Bounded g.round g.copies (taken / g.interval)

pub held_of : {X : Type 0} (x : RefreshLayer X) → Held (registers x.registers) x.taken x.life
held_of x =
    let r = x.registers in
    record {
      within = x.within;
      few = r.few;
      power = r.power;
      turn = r.turn;
      previous = r.previous;
      current = r.current;
      pointer = r.pointer;
      waits = r.waits;
      counted = x.counted;
      bounded = x.bounded;
    }

size_power : (n : ℕ) → n ≤ 4096 → 0 < n → n ≡ greatest_power n → PowerOfTwo n
size_power n few some e =
    let p = (greatest_computed n some few).power in
    (p.0, e ∙ p.1)

pub sound_of : (x : Fields) → 0 < x.size → Sound x.size x.keys.items x.round
sound_of x some =
    let p = x.previous in
    let c = x.current in
    let r = x.pointer in
    record { power = size_power x.size x.few some (x.power some); previous = omega arith; current = omega arith; turn = x.turn; pointer = omega arith }

module _ {g : Registers} {taken life : ℕ} (held : Held g taken life) (some : 0 < g.size) where
  pub held_sound : Sound g.size g.keys g.round
  held_sound =
      let p = held.previous in
      let c = held.current in
      let r = held.pointer in
      record { power = size_power g.size held.few some (held.power some); previous = omega arith; current = omega arith; turn = held.turn; pointer = omega arith }

  -- ---- what is left below pays
  module _ (l : taken < life) (left : ℕ) (paid : life + life / g.interval + g.size / 2 ≤ taken + g.copies + left) where
    paced : 1 ≤ g.interval
    paced = let w = held.waits in omega arith

    pub pays_write : 1 ≤ left
    pays_write =
        room_write g.interval g.size taken life g.copies left paced l paid
        (bounded_most g.size g.keys g.round held_sound g.copies (taken / g.interval) held.bounded)

    pub pays_exchange : g.interval ≤ g.due + 1 → g.round.pointer < pointer_mate g.round → 3 ≤ left
    pays_exchange d m =
        let e = held.counted in
        room_exchange g.interval g.size taken life g.copies left paced l paid (omega arith)
        (bounded_two g.size g.keys g.round held_sound g.copies (taken / g.interval) held.bounded m)

  -- ---- what the fields say after a write
  pub held_noted : taken < life → g.due + 1 < g.interval → Held (noted g) (taken + 1) life
  held_noted l d =
      let e = held.counted in
      let q = next_stays taken g.interval (omega arith) in
      let q0 = q.0 in
      let q1 = q.1 in
      let b = held.bounded in
      record {
        within = omega arith;
        few = held.few;
        power = held.power;
        turn = held.turn;
        previous = held.previous;
        current = held.current;
        pointer = held.pointer;
        waits = d;
        counted = omega arith;
        bounded = omega arith;
      }

  held_turned : (w : Round) (copies : ℕ) → w ≡ refreshed g.size g.keys g.round → taken < life → g.interval ≤ g.due + 1
      → Bounded (refreshed g.size g.keys g.round) copies (taken / g.interval + 1) → Held (turned g w copies) (taken + 1) life
  held_turned w copies ew l d bound =
      let e = held.counted in
      let wt = held.waits in
      let q = next_rises taken g.interval (omega arith) (omega arith) in
      let q0 = q.0 in
      let q1 = q.1 in
      let s = subst (λ (x : Round). Sound g.size g.keys x) (sym ew) (refreshed_sound g.size g.keys g.round held_sound) in
      let b = subst (λ (x : Round). Bounded x copies (taken / g.interval + 1)) (sym ew) bound in
      let sp = s.previous in
      let sc = s.current in
      let sr = s.pointer in
      record {
        within = omega arith;
        few = held.few;
        power = held.power;
        turn = s.turn;
        previous = omega arith;
        current = omega arith;
        pointer = omega arith;
        waits = omega arith;
        counted = omega arith;
        bounded = omega arith;
      }

  -- what the fields say after any accepted write, and that the copies that it brings are few enough
  pub held_after : taken < life → Held (after_write g) (taken + 1) life
  held_after l = ⊎_elim
      (λ (d : g.due + 1 < g.interval). subst (λ (h : Registers). Held h (taken + 1) life) (sym (write_waits g d).0) (held_noted l d))
      (λ (d : g.interval ≤ g.due + 1). ⊎_elim
      (λ (m : g.round.pointer < pointer_mate g.round).
      subst (λ (h : Registers). Held h (taken + 1) life) (sym (write_exchanges g d m).0)
      (held_turned (refreshed g.size g.keys g.round) (g.copies + 2) refl l d (bounded_exchange g.size g.keys g.round held_sound g.copies (taken / g.interval) held.bounded m)))
      (λ (m : pointer_mate g.round ≤ g.round.pointer).
      subst (λ (h : Registers). Held h (taken + 1) life) (sym (write_no_exchange g d m).0)
      (held_turned (refreshed g.size g.keys g.round) g.copies refl l d (bounded_no_exchange g.size g.keys g.round held_sound g.copies (taken / g.interval) held.bounded m)))
      (cases_lt g.round.pointer (pointer_mate g.round)))
      (cases_lt (g.due + 1) g.interval)

-- so the count of copies stays within what the life sets aside
pub copies_after : {g : Registers} {taken life : ℕ} → Held g taken life → 0 < g.size → taken < life → (after_write g).copies ≤ life / g.interval + g.size / 2
unfolding after_write
copies_after {g} {taken} {life} held some l =
    let h = held_after held some l in
    let w = held.waits in
    let c = bounded_most g.size g.keys (after_write g).round (held_sound h some) (after_write g).copies ((taken + 1) / g.interval) h.bounded in
    let q = quotient_mono (taken + 1) life g.interval (omega arith) (omega arith) in
    omega arith
