-- The lemmas of accepted writes and of refreshes from new.
use Rattle.std.proofs.Common.{arith, pow_pos}
use Rattle.refresh.proofs.Walks.{from_new, low_same}
use Rattle.refresh.proofs.Writes.{new_sound, writes_sound, walked}
use Rattle.refresh.proofs.Counts.{registers_full}
use Rattle.refresh.proofs.theorems.registers_over_writes.Goals as goal

pub returns : goal.returns
returns c =
    record {
      registers =
          record {
            starts = λ n interval keys p h l. (let pos = pow_pos p.0 in let e = p.1 in new_sound n interval keys p (omega arith) h l);
            stays = writes_sound;
            walks = walked;
            rounds = from_new;
            full = registers_full;
            low = low_same;
          };
    }
