-- One part after another.
use Rattle.compose.proofs.Appending.{puts_twice}
use Rattle.compose.proofs.bytes.put_settings.Goals as goal

pub returns : goal.returns
returns c =
    let put = puts_twice (puts_twice (puts_twice (puts_twice (puts_twice c.put.ensures.put c.put-2.ensures.put) c.put-3.ensures.put) c.put-4.ensures.put) c.put-5.ensures.put) c.put_keys.ensures.put in
    record { put = rw (c.to_le_bytes.ensures, c.to_le_bytes-2.ensures, c.to_le_bytes-3.ensures) at put }
