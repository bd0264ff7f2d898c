-- `writer::channels_of` meets its contract: the front of the array holds the channels.
use Rattle.std.proofs.Common.{◌≤◌, length, rules}
use Rattle.writer.proofs.Chords.{channels-part}
use Rattle.writer.proofs.channels_of.Goals as goal

pub returns-clause-value : goal.returns-clause-value
returns-clause-value c =
    let x = c.args.chord.now in
    let f : x.len ≤ length x.channels = search rules in
    rw (c.from.ensures, channels-part x f)
