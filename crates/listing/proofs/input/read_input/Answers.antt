use Rattle.std.proofs.Common.{rules}
use Rattle.std.specs.Io.{appended_bytes}
use Rattle.listing.proofs.Readings.{two_readings}
use Rattle.listing.proofs.input.read_input.Goals as goal

pub returns : goal.returns
returns g c =
    two_readings
    (g.R.Read.remaining c.args.input)
    (g.R.Read.remaining c.read_to_end.new.self.inner)
    c.read_to_end.new.self.limit
    c.bytes_behind.result
    c.read_to_end.new.buf.items
    (appended_bytes c.new-bytes.result.items c.read_to_end.new.buf.items)
    c.read_to_end-2.new.buf.items
    (search rules)
    (search rules)
    (search rules)
    (search rules)
