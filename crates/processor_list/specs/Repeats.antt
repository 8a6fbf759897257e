-- "Repeats are harmless" (document 01, "The store"): a list counts by the processors that it lists, whatever their order and however often.
--   SameListed      two lists list the same processors
use Rattle.std.specs.Prelude.{ℕ, ◌↔◌}
use Rattle.processor_list.specs.Processors.{ProcessorList, Listed}

abbrev pub SameListed : ProcessorList → ProcessorList → Type 0
SameListed list other = (x p : ℕ) → Listed list x p ↔ Listed other x p
