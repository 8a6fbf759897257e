-- Laws of the data bytes.
--   parting      the three parts that the code gives of the data, as `search` takes them
--   part_same    bytes that agree with an update as far as its data reach have its data
use Rattle.std.specs.Prelude.{ℕ, ◌+◌, ◌-◌, ◌<◌, ◌≤◌, ◌≡◌, List, length, take, drop}
use Rattle.std.proofs.Math.Path.{sym}
use Rattle.std.proofs.Common.{◌∙◌, drop_of_length-le}
use native.Mathlib.Omega.{arith}
use Rattle.std.proofs.Math.ListN.{length-drop}
use Rattle.std.proofs.Math.Seq.{take-nil, take_all}
use Rattle.laws.specs.Same.{Same, same_less, same_drop, same_take}
use Rattle.bytes_dwords.proofs.DwordLaws.{dword_same}
use Rattle.update_header.specs.Fields.{data_size}
use Rattle.update_header.specs.DataPart.{data_part}

module _ (v : List ℕ) where
  pub part_short : length v < 48 → take 0 v ≡ data_part v
  unfolding data_part
  part_short l = rw (drop_of_length-le v {i = 48} (omega arith)) (sym (take-nil (data_size v)))

  module _ (n : ℕ) (e : n ≡ data_size v) where
    pub part_whole : 48 ≤ length v → take (48 + n - 48) (drop 48 v) ≡ data_part v
    unfolding data_part
    part_whole l = let q : 48 + n - 48 ≡ n = omega arith in rw (q, e)

    pub part_cut : 48 ≤ length v → length v - 48 < n → take (length v - 48) (drop 48 v) ≡ data_part v
    unfolding data_part
    part_cut l m =
        let h = length-drop 48 v in
        take_all (length v - 48) (drop 48 v) (omega arith) ∙ sym (take_all (data_size v) (drop 48 v) (omega arith))

pub ruleset parting = (part_short, part_whole, part_cut)

-- r has the first t bytes of s, and the data lie within them
pub part_same : (s r : List ℕ) (t : ℕ) → 48 + data_size s ≤ t → t ≤ length s → t ≤ length r → Same s r t → data_part s ≡ data_part r
unfolding data_part data_size
part_same s r t l m long same =
    let a = length-drop 48 s in
    let b = length-drop 48 r in
    rw (← dword_same s r t 28 same (omega arith))
    (same_take (drop 48 s) (drop 48 r) (data_size s) (omega arith) (omega arith)
    (same_drop s r (data_size s) 48 (same_less s r t (48 + data_size s) same l)))
