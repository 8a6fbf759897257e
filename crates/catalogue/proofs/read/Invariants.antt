-- No more bytes are counted than the buffer has room for. With each piece there are more.
use Rattle.std.proofs.Common.{length, ◌-◌, ◌≡◌, ◌≤◌}
use Rattle.catalogue.proofs.read.Given as goal

abbrev pub invariant-loop-have : goal.invariant-loop-have
invariant-loop-have g l = record { within : l.have ≤ length l.buffer; long : length l.buffer ≡ length l.initial.buffer }

abbrev pub decreases-loop-have : goal.decreases-loop-have
decreases-loop-have g l = length l.initial.buffer - l.have
