-- The candidate in an outcome whose run lies in the store: its bytes stand at the start, FFh behind them to the end of the run.
--   cand_same                    its bytes
--   cand_verdict, cand_covers    and with them its verdict and its processors
--   cand_slot, cand_size         its slot, of the run's blocks
use Rattle.std.specs.Prelude.{ℕ, ◌+◌, ◌*◌, ◌-◌, ◌/◌, ◌<◌, ◌≤◌, ◌≡◌, Bool, true, List, length, get_or}
use Rattle.std.proofs.Math.Path.{sym, ap}
use Rattle.std.proofs.Common.{◌∙◌, length-drop, get_or-drop}
use native.Mathlib.Omega.{arith}
use borrow.Author.Tests.{lt-ltb, le-ltb, eq-eqb}
use Rattle.laws.specs.Below.{all_true}
use Rattle.laws.specs.Same.{Same}
use Rattle.laws.specs.Unless.{unless}
use Rattle.update_sizes.specs.Sizes.{blocks_of}
use Rattle.update_verdict.specs.Verdict.{Good, verdict}
use Rattle.update_verdict.specs.VerdictLaws.{judged}
use Rattle.update_verdict.specs.VerdictLocal.{verdict_local}
use Rattle.update_sharing.specs.SharingLocal.{covers_local, Alike}
use Rattle.store_blocks.specs.Blocks.{is_ff, filled, from_block}
use Rattle.store_directory.specs.Scan.{slot_size, slot_at, size_at}
use Rattle.store_directory.specs.SlotLaws.{fits_made, update_made}
use Rattle.store_blocks.specs.declared.slot.Slot.TheVariants.{Update}
use Rattle.write_outcome.specs.OutcomeBytes.{run_byte, outcome_bytes}
use Rattle.write_outcome.proofs.ByteLaws.{at_run, outcome_length, outcome_run}

module _ (old cand : List ℕ) (t d n k start : ℕ) (e : ℕ → Bool)
    (good : verdict cand ≡ Good t d n k) (ends : (start + blocks_of t) * 2048 ≤ length old) where
  abbrev new : List ℕ
  new = outcome_bytes old t cand start e

  cand_byte : (i : ℕ) → i < blocks_of t * 2048 → get_or (from_block new start) i 0 ≡ run_byte t cand i
  cand_byte i l =
      let c = start + i / 2048 in
      let q : start * 2048 + i - start * 2048 ≡ i = omega arith in
      get_or-drop (start * 2048) new i 0
      ∙ outcome_run old t cand start e c (start * 2048 + i) (omega arith) (omega arith) (at_run start (blocks_of t) c (omega arith) (omega arith))
      ∙ ap (run_byte t cand) q

  covered : t ≤ blocks_of t * 2048
  unfolding blocks_of
  covered = omega arith

  pub cand_same : Same cand (from_block new start) t
  unfolding run_byte unless
  cand_same i l = sym (cand_byte i (omega (arith, covered)) ∙ rw (lt-ltb i t l))

  cand_rest : filled (from_block new start) t (blocks_of t * 2048 - t) ≡ true
  unfolding filled is_ff run_byte unless
  cand_rest =
      all_true (is_ff (from_block new start) t) (blocks_of t * 2048 - t)
      (λ j l. eq-eqb (get_or (from_block new start) (t + j) 0) 255 (cand_byte (t + j) (omega arith) ∙ rw (le-ltb (t + j) t (omega arith))))

  cand_long : blocks_of t * 2048 ≤ length (from_block new start)
  cand_long = omega (arith, length-drop (start * 2048) new, outcome_length old t cand start e)

  pub cand_verdict : verdict (from_block new start) ≡ Good t d n k
  cand_verdict = verdict_local cand (from_block new start) t d n k good cand_same (omega (arith, cand_long, covered))

  pub cand_slot : slot_at new start ≡ Update (blocks_of t)
  unfolding slot_at
  cand_slot = update_made (from_block new start) t d n k cand_verdict (fits_made (from_block new start) t cand_long cand_rest) ∙ ap Update (judged cand t d n k good).blocks

  pub cand_covers : Alike cand (from_block new start)
  cand_covers = covers_local cand (from_block new start) t d n k good cand_same (omega (arith, cand_long, covered))

  pub cand_size : size_at new start ≡ blocks_of t
  cand_size = ap slot_size cand_slot
