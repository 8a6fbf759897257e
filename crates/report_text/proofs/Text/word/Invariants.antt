-- `report_text::Text::word`: the bytes passed are added.
use Rattle.std.proofs.Common.{◌≡◌, ◌+◌, take}
use Rattle.report_text.specs.Texts.{added}
use Rattle.report_text.proofs.Text.word.Given as goal

abbrev pub invariant-loop-b : goal.invariant-loop-b
invariant-loop-b l = record { text : l.r ≡ added l.fn.self (take l.b-index l.s); long : l.r.len ≡ l.fn.self.len + l.b-index }
