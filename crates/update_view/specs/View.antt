-- A view of an update (document 01, the end of "The calls") holds the update's own bytes: T of them, and none where the bytes are no update.
-- What it gives is said of these bytes.
--   viewed_by    the bytes that a view of s holds, by the verdict on s
--   viewed       those
--   is_good      the verdict is Ok
--   is_update    an update begins the bytes s: the verdict on them is Ok
--   holds_bytes  there are bytes; of a view of s, exactly if an update begins s (`holds_update`)
--   summary_of   the numbers that a view of s gives
-- The header fields and the data bytes are those of `update_header` (`Fields`, `DataPart`): a byte behind the end reads as 0.
use Rattle.std.specs.Prelude.{ℕ, Bool, true, false, List, [], length, take, ltb, Ok, Err}
use Rattle.update_header.specs.Fields.{version, revision, date, signature, checksum, loader_version, flags}
use Rattle.update_header.specs.DataPart.{data_part}
use Rattle.update_verdict.specs.Verdict.{Verdict, verdict}
use Rattle.update_verdict.specs.declared.BadUpdate.TheVariants.{Header, Sum}
use Rattle.update_view.specs.declared.parts.Summary.{Summary}

unfoldable pub viewed_by : List ℕ → Verdict → List ℕ
viewed_by s (Ok m) = take m.total s
viewed_by s (Err Header) = []
viewed_by s (Err Sum) = []

unfoldable pub viewed : List ℕ → List ℕ
viewed s = viewed_by s (verdict s)

abbrev pub is_good : Verdict → Bool
is_good (Ok m) = true
is_good (Err e) = false

unfoldable pub is_update : List ℕ → Bool
is_update s = is_good (verdict s)

abbrev pub holds_bytes : List ℕ → Bool
holds_bytes v = ltb 0 (length v)

abbrev pub summary_of : List ℕ → Summary
summary_of s = record {
  ok = is_update s;
  header_version = version (viewed s);
  revision = revision (viewed s);
  date = date (viewed s);
  signature = signature (viewed s);
  checksum = checksum (viewed s);
  loader_version = loader_version (viewed s);
  flags = flags (viewed s);
  data_size = length (data_part (viewed s));
  total_size = length (viewed s);
}
