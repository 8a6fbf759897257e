-- `report_text::Text::byte` meets its contract: the one byte behind the text is written.
use Rattle.std.proofs.Common.{refl, rules}
use Rattle.report_text.specs.TextLaws.{added_byte}
use Rattle.report_text.proofs.Text.byte.Goals as goal

pub returns-clause-text : goal.returns-clause-text
returns-clause-text c = added_byte c.args.self _ c.args.b (search rules) refl refl
