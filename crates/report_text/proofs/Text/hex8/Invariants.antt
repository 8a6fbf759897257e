-- `report_text::Text::hex8`: the digits passed are added.
use Rattle.std.proofs.Common.{◌≡◌, ◌+◌}
use Rattle.report_text.specs.Digits.{hex_to}
use Rattle.report_text.specs.Texts.{added}
use Rattle.report_text.proofs.Text.hex8.Given as goal

abbrev pub invariant-loop-i : goal.invariant-loop-i
invariant-loop-i l = record { text : l.r ≡ added l.fn.self (hex_to l.n l.i); long : l.r.len ≡ l.fn.self.len + l.i }
