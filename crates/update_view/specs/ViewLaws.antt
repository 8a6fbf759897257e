-- What a view of a good update holds.
--   Seen    the view of a good update is that update: its verdict, fields, sizes and data
use Rattle.std.specs.Prelude.{ℕ, ◌≡◌, true, List, length}
use Rattle.update_header.specs.Fields.{version, revision, date, signature, checksum, loader_version, flags}
use Rattle.update_header.specs.DataPart.{data_part}
use Rattle.update_verdict.specs.Verdict.{Good, verdict}
use Rattle.update_view.specs.View.{viewed, holds_bytes}

-- the view of a good update is that update, with its fields, its T and its data
pub record Seen (s : List ℕ) (t d n k : ℕ) : Type 0 where
  pub update : holds_bytes (viewed s) ≡ true
  pub good : verdict (viewed s) ≡ Good t d n k
  pub version_same : version (viewed s) ≡ version s
  pub revision_same : revision (viewed s) ≡ revision s
  pub date_same : date (viewed s) ≡ date s
  pub signature_same : signature (viewed s) ≡ signature s
  pub checksum_same : checksum (viewed s) ≡ checksum s
  pub loader_version_same : loader_version (viewed s) ≡ loader_version s
  pub flags_same : flags (viewed s) ≡ flags s
  pub total : length (viewed s) ≡ t
  pub data_same : data_part (viewed s) ≡ data_part s
  pub data_long : length (data_part (viewed s)) ≡ d
