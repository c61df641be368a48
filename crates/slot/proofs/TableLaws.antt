-- The table is what the definitions compute.
use Rattle.std.proofs.Common.{refl}
use Rattle.codec.specs.Bytes.{le}
use Rattle.slot.specs.Write.{header_bytes}
use Rattle.slot.specs.Table.{Table}

pub table : Table
unfolding le header_bytes
table =
    record {
      fields_read = refl;
      fields_written = refl;
      statuses_numbered = λ known. refl;
      errors_numbered = refl;
      indexes_stored = refl;
      indexes_numbered = refl;
    }
