-- The letter and the line, and then the load.
use Rattle.compose.proofs.Appending.{puts_twice}
use Rattle.compose.proofs.bytes.put_request.Goals as goal

pub returns-in-Write : goal.returns-in-Write
returns-in-Write c =
    let put = puts_twice c.put-in-Write.ensures.put c.put-in-Write-2.ensures.put in
    record { put = rw c.in-Write.is (rw (c.to_le_bytes-in-Write.ensures, c.into-bytes.ensures.1) at put) }
