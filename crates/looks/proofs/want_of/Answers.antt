-- `looks::want_of` meets its contract: the subject's property and unit, whatever its day.
use mathlib.Core.Path.{refl, sym}
use Rattle.looks.proofs.want_of.Goals as goal

pub returns : goal.returns
returns c = (
  c.channel_at-channel.ensures,
  refl,
  λ s p u. record { equal = sym c.chord_equal-equal.ensures; property = p; unit = u },
)
